-- What one read of a trace whose bytes are known comes to (`moves`), and what one read after the other does. Assumes nothing.
use Rattle.std.proofs.Common.{◌≡◌, ℕ, zero, suc, ◌<◌, ◌^◌, List, [], ◌++◌, Option, Some, None, Result, Ok, Err, length, take, OnOk, refl, sym, ap, ◌∙◌, append-nil, append_assoc}
use Rattle.std.specs.Io.KnownBytes.{Appends, ReadConsumes}
use Rattle.std.specs.Result.{result_ok}
use Rattle.text.specs.Texts.{Wrote}
use Rattle.replay_feed.specs.declared.Replay.{Replay}
use Rattle.replay_feed.specs.Feed.{Reading, fresh, reading, ran, ran_text, finished_text}
use Rattle.replay_feed.proofs.Laws.{ran_append, text_append}
use Rattle.sheet.specs.Lines.{header_text}
use Rattle.replay_theorems.specs.Whole.{log, whole}
use Rattle.replay_theorems.proofs.Cut.{at_once}
use Rattle.replay_turn.specs.declared.Moved.{Moved}
use Rattle.replay_turn.specs.declared.Moved.TheVariants.{More, Ended, Failed}
use Rattle.replay_turn.specs.Moves.{replay_after, past_of, goes_on, has_failed}
use Rattle.replay_turn.specs.Turn.{turned, turned_text, more_after, failed_of}
use Rattle.replay_run.specs.Run.{Brought, Moves, Partly, rest_text}

module _ (rest : List ℕ) (r : Reading) (replay : Replay) (chunk log hold o o' : List ℕ) where
  -- bytes came
  brought : (E : Type 0) (after : Option (List ℕ)) (n past : ℕ) {next : Reading} → ReadConsumes {E = E} (Some rest) after (Ok (suc n)) chunk → next ≡ ran r (take (suc n) chunk) → Wrote o 0 o' past (ran_text r (take (suc n) chunk))
      → Brought rest after r next o o' past
  brought E None n past h e w = absurd h.0
  brought E (Some left) n past h e w = record { bytes = take (suc n) chunk; left = left; of_rest = h.0; is_left = refl; done = e; text = w }

  -- nothing is left
  none_left : (E : Type 0) (after : Option (List ℕ)) → 0 < length chunk → ReadConsumes {E = E} (Some rest) after (Ok 0) chunk → rest ≡ []
  none_left E None some h = absurd h.0
  none_left E (Some left) some h = h.0 ∙ h.1 refl some

  pub moves : (E : Type 0) (after : Option (List ℕ)) (got : Result ℕ E) (moved : Moved) → 0 < length chunk → ReadConsumes (Some rest) after got chunk
      → reading (replay_after replay moved) log hold ≡ turned r (result_ok got) chunk
      → Wrote o 0 o' (past_of moved) (turned_text r (result_ok got) chunk)
      → goes_on moved ≡ more_after (result_ok got) → has_failed moved ≡ failed_of (result_ok got)
      → Moves rest after r log hold o o' moved
  unfolding turned turned_text more_after failed_of
  moves E after (Ok zero) (More fed) some h e w g f = cc
  moves E after (Ok (suc n)) (More fed) some h e w g f = brought E after n fed.past h e w
  moves E after (Err x) (More fed) some h e w g f = cc
  moves E after (Ok zero) (Ended fed) some h e w g f = (none_left E after some h, w)
  moves E after (Ok (suc n)) (Ended fed) some h e w g f = cc
  moves E after (Err x) (Ended fed) some h e w g f = cc
  moves E after got Failed some h e w g f = tt

-- ---- what a writer holds

appends_nothing : (held : Option (List ℕ)) → Appends held held []
appends_nothing None = tt
appends_nothing (Some l) = sym (append-nil l)

pub appends_then : (a b c : Option (List ℕ)) (x y : List ℕ) → Appends a b x → Appends b c y → Appends a c (x ++ y)
appends_then None b c x y v w = tt
appends_then (Some a) None c x y v w = absurd v
appends_then (Some a) (Some b) None x y v w = absurd w
appends_then (Some a) (Some b) (Some c) x y v w = w ∙ rw v (append_assoc a x y)

pub ok_then : {T E : Type 0} (r : Result T E) {P Q : Type 0} → (P → Q) → OnOk r P → OnOk r Q
ok_then (Ok x) f p = f p
ok_then (Err e) f p = tt

-- a text at the front of the buffer is what is sent
pub sent : {o o' : List ℕ} {past : ℕ} {text : List ℕ} → Wrote o 0 o' past text → take past o' ≡ text
sent w = w.front

-- ---- one read after the other: of the rest some bytes are done and written, and the others are left

pub record Along (rest : List ℕ) (r : Reading) (after : Option (List ℕ)) (now : Reading) (old held : Option (List ℕ)) : Type 0 where
  pub bytes : List ℕ
  pub left : List ℕ
  pub of_rest : rest ≡ bytes ++ left
  pub is_left : after ≡ Some left
  pub done : now ≡ ran r bytes
  pub text : Appends old held (ran_text r bytes)

pub begins : (rest : List ℕ) (r : Reading) (after held : Option (List ℕ)) → after ≡ Some rest → Along rest r after r held held
unfolding ran ran_text
begins rest r after held e = record { bytes = []; left = rest; of_rest = refl; is_left = e; done = refl; text = appends_nothing held }

module _ {rest : List ℕ} {r : Reading} {after : Option (List ℕ)} {now : Reading} {old held : Option (List ℕ)} (a : Along rest r after now old held) where
  pub goes : {later : Option (List ℕ)} (next : Reading) {o o' : List ℕ} {past : ℕ} (more : Option (List ℕ)) → Brought a.left later now next o o' past → Appends held more (take past o')
      → Along rest r later next old more
  goes {later} next {o} {o'} {past} more b w = record {
    bytes = a.bytes ++ b.bytes;
    left = b.left;
    of_rest = a.of_rest ∙ ap (a.bytes ++◌) b.of_rest ∙ sym (append_assoc a.bytes b.bytes b.left);
    is_left = b.is_left;
    done = b.done ∙ rw a.done (sym (ran_append r a.bytes b.bytes));
    text = rw text_append (appends_then old held more (ran_text r a.bytes) (ran_text (ran r a.bytes) b.bytes) a.text (rw (sent b.text, a.done) at w));
  }

  pub ends : {o o' : List ℕ} {past : ℕ} (more : Option (List ℕ)) → a.left ≡ [] → Wrote o 0 o' past (finished_text now) → Appends held more (take past o')
      → Appends old more (rest_text r rest)
  unfolding rest_text
  ends {o} {o'} {past} more none w v =
      let all : rest ≡ a.bytes = a.of_rest ∙ rw none (append-nil a.bytes) in
      rw all (appends_then old held more (ran_text r a.bytes) (finished_text (ran r a.bytes)) a.text (rw (sent w, a.done) at v))

  -- what came is done and written
  pub stops : Partly [] r rest old held
  stops = record { came = a.bytes; left = a.left; of_rest = a.of_rest; text = a.text }

-- what is written for the whole of a trace, behind the header
pub whole_is : (hold : List ℕ) → length hold ≡ 514 → (bytes : List ℕ) → length bytes < 2 ^ 64 → header_text ++ rest_text (reading fresh log hold) bytes ≡ whole bytes
unfolding rest_text
whole_is hold size bytes small = at_once hold size bytes small

-- the header is written, and then the rest, which is all
pub all_told : (a b c : Option (List ℕ)) (bytes : List ℕ) {replay : Replay} (hold : List ℕ) {T E : Type 0} (told : Result T E) → replay ≡ fresh → length hold ≡ 514 → length bytes < 2 ^ 64
    → Appends a b header_text → OnOk told (Appends b c (rest_text (reading replay log hold) bytes)) → OnOk told (Appends a c (whole bytes))
all_told a b c bytes {replay} hold told e size small first behind =
    ok_then told (λ w. rw (whole_is hold size bytes small) at (appends_then a b c header_text (rest_text (reading fresh log hold) bytes) first (rw e at w))) behind

pub part_told : (a b c : Option (List ℕ)) (bytes : List ℕ) {replay : Replay} (hold : List ℕ) → replay ≡ fresh → Appends a b header_text → Partly [] (reading replay log hold) bytes b c
    → Partly header_text (reading fresh log hold) bytes a c
part_told a b c bytes hold e first behind = record {
  came = behind.came;
  left = behind.left;
  of_rest = behind.of_rest;
  text = appends_then a b c header_text (ran_text (reading fresh log hold) behind.came) first (rw e at behind.text);
}
