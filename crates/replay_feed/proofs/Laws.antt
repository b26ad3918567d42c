-- What the end of a line is, and one byte more of a chunk. Assumes nothing.
use Rattle.std.proofs.Common.{◌≡◌, ℕ, ◌+◌, ◌*◌, ◌%◌, ◌^◌, ◌<◌, ◌≤◌, List, [], ◌∷◌, ◌++◌, length, get_or, take, sym, refl, ap, ◌∙◌, append_assoc, append-nil, add-zero, add-one, arith, length-take, take-suc, eq-eqb, ne_eqb}
use native.Mathlib.Nat.{min-le_left}
use Rattle.text.specs.Texts.{Wrote}
use Rattle.text.proofs.Writing.{wrote_then}
use Rattle.line_hold.specs.Hold.{held_after, kept_in, without_cr}
use Rattle.replay_line.specs.Line.{State, after_line, line_text}
use Rattle.replay_feed.specs.Feed.{Place, passed, passed_text, line_feed, Reading, bytes_held, kept, ended, ended_text, step, step_text, ran, ran_text, finished, finished_text}

-- nothing is written
pub wrote_nothing : (o : List ℕ) (n : ℕ) → Wrote o n o n []
wrote_nothing o n = record { past = sym (add-zero n); front = sym (append-nil (take n o)); rest = refl; size = refl }

-- a chunk that is cut at 1024 bytes has room for what comes of it
pub chunk_room : (chunk : List ℕ) {part : List ℕ} → part ≡ take 1024 chunk → length part * 96 ≤ 98304
chunk_room chunk e = rw e (omega (arith, length-take 1024 chunk, min-le_left 1024 (length chunk)))

-- ---- the end of a line

module _ (p : Place) (l : List ℕ) {n : ℕ} where
  pub passes_header : p.line ≡ 0 → n ≡ (p.line + 1) % 2 ^ 64 → (record { state = p.state; line = n } ≡ passed p l) × ([] ≡ passed_text p l)
  unfolding passed passed_text
  passes_header z e = rw (eq-eqb p.line 0 z, e) (refl, refl)

  pub passes_line : {s : State} → (p.line ≡ 0 → ⊥) → n ≡ (p.line + 1) % 2 ^ 64 → s ≡ after_line p.state l
      → (record { state = s; line = n } ≡ passed p l) × (line_text p.state p.line l ≡ passed_text p l)
  unfolding passed passed_text
  passes_line z e after = rw (ne_eqb p.line 0 z, e, after) (refl, refl)

module _ (r : Reading) {p : Place} {h : ℕ} {l : List ℕ} where
  pub line_ended : l ≡ without_cr (bytes_held r) → p ≡ passed r.place l → h ≡ 0
      → (record { place = p; hold = r.hold; held = h } ≡ ended r) × (passed_text r.place l ≡ ended_text r)
  unfolding ended ended_text
  line_ended is e z = rw (e, is, z) (refl, refl)

  pub input_ended : (r.held ≡ 0 → ⊥) → l ≡ bytes_held r → p ≡ passed r.place l → h ≡ 0
      → (record { place = p; hold = r.hold; held = h } ≡ finished r) × (passed_text r.place l ≡ finished_text r)
  unfolding finished finished_text
  input_ended some is e z = rw (ne_eqb r.held 0 some, e, is, z) (refl, refl)

pub nothing_held : (r : Reading) → r.held ≡ 0 → (r ≡ finished r) × ([] ≡ finished_text r)
unfolding finished finished_text
nothing_held r z = rw (eq-eqb r.held 0 z) (refl, refl)

-- ---- one byte more

module _ (r : Reading) (b : ℕ) where
  -- a line feed
  pub steps_feed : {next : Reading} {o o' : List ℕ} {n p : ℕ} → b ≡ line_feed → next ≡ ended r → Wrote o n o' p (ended_text r) → (next ≡ step r b) × Wrote o n o' p (step_text r b)
  steps_feed e f w = rw (eq-eqb b line_feed e) (f, w)

  -- any other byte is kept
  pub steps_kept : {hold : List ℕ} {h : ℕ} (o : List ℕ) (n : ℕ) → (b ≡ line_feed → ⊥) → h ≡ held_after r.held → hold ≡ kept_in r.hold r.held b
      → (record { place = r.place; hold = hold; held = h } ≡ step r b) × Wrote o n o n (step_text r b)
  unfolding kept
  steps_kept o n other e f = rw (ne_eqb b line_feed other, e, f) (refl, wrote_nothing o n)

-- bytes that come one part after another are read as if they came at once
pub ran_append : (r : Reading) (a b : List ℕ) → ran r (a ++ b) ≡ ran (ran r a) b
unfolding ran
ran_append r [] b = refl
ran_append r (x ∷ a) b = ran_append (step r x) a b

pub text_append : (r : Reading) (a b : List ℕ) → ran_text r (a ++ b) ≡ ran_text r a ++ ran_text (ran r a) b
unfolding ran ran_text
text_append r [] b = refl
text_append r (x ∷ a) b = rw (append_assoc, text_append (step r x) a b)

ran_more : (r : Reading) (l : List ℕ) (b : ℕ) → ran r (l ++ b ∷ []) ≡ step (ran r l) b
unfolding ran
ran_more r l b = ran_append r l (b ∷ [])

text_more : (r : Reading) (l : List ℕ) (b : ℕ) → ran_text r (l ++ b ∷ []) ≡ ran_text r l ++ step_text (ran r l) b
unfolding ran_text
text_more r l b = text_append r l (b ∷ []) ∙ ap (ran_text r l ++◌) (append-nil (step_text (ran r l) b))

-- what came of the chunk's first i bytes: the reading, and what is written
abbrev pub SoFar : Reading → List ℕ → ℕ → Reading → List ℕ → List ℕ → ℕ → Type 0
SoFar r chunk i now o o' p = (now ≡ ran r (take i chunk)) × Wrote o 0 o' p (ran_text r (take i chunk))

longer : (chunk : List ℕ) (i : ℕ) → i < length chunk → take (i + 1) chunk ≡ take i chunk ++ get_or chunk i 0 ∷ []
longer chunk i more = rw add-one (take-suc chunk i 0 more)

module _ (r : Reading) (chunk : List ℕ) (i : ℕ) (more : i < length chunk) {now next : Reading} {o o' o'' : List ℕ} {p q : ℕ} where
  pub fed_step : SoFar r chunk i now o o' p → next ≡ step now (get_or chunk i 0) → Wrote o' p o'' q (step_text now (get_or chunk i 0)) → SoFar r chunk (i + 1) next o o'' q
  fed_step fed e w = rw (longer chunk i more, ran_more r (take i chunk) (get_or chunk i 0), text_more r (take i chunk) (get_or chunk i 0), sym fed.0) (e, wrote_then fed.1 w)
