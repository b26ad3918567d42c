-- Whatever the cut of an input into chunks, what is written is what document 01 has for the whole input (`any_cut`). Assumes nothing.
use Prim.Native.Nat.{ℕ, suc, ◌+◌, ◌≤◌, ◌<◌, ◌%◌, ◌^◌, min}
use mathlib.Core.Path.{◌≡◌, refl, sym, ◌∙◌}
use mathlib.Core.Bool.{Bool, true, false, cond}
use mathlib.Core.List.{List, [], ◌∷◌, ◌++◌, append-nil, append_assoc}
use native.Mathlib.Nat.{mod-eq_of_lt}
use native.Mathlib.Numerals.{add-one}
use native.Mathlib.Omega.{arith}
use lib.Dec.{eqb, leb}
use lib.ListN.{length, take, set, length-set, length-append}
use lib.Seq.{take_all, take-append-le, take-suc-set}
use borrow.Author.Tests.{eq-eqb, ne_eqb, leb-true, leb-false}
use Rattle.sheet.specs.Lines.{header_text}
use Rattle.line_hold.specs.Hold.{room, held_after, kept_in, without_cr}
use Rattle.replay_line.specs.Line.{State, after_line}
use Rattle.replay_feed.specs.Feed.{line_feed, Place, passed, passed_text, Reading, fresh, reading, bytes_held, kept, ended, ended_text, ran, ran_text, finished_text}
use Rattle.replay_theorems.specs.Whole.{lines_from, lines_of, behind_header, answered, log, start, whole, joined, Short, chunked}
use Rattle.replay_theorems.proofs.Runs.{ran_whole, fed_whole}
use Rattle.replay_theorems.proofs.Held.{Alike, front_open, front_ended}

-- ---- lines that are passed, the first of them at place p

told : Place → List (List ℕ) → List ℕ
told p [] = []
told p (l ∷ lines) = passed_text p l ++ told (passed p l) lines

module _ (p : Place) {x y : List ℕ} (a : Alike x y) where
  passed_alike : passed p x ≡ passed p y
  unfolding passed
  passed_alike = rw (a.after p.state)

  text_alike : passed_text p x ≡ passed_text p y
  unfolding passed_text
  text_alike = rw (a.text p.state p.line)

-- ---- the buffer holds the first bytes of the line l

record Holds (r : Reading) (l : List ℕ) : Type 0 where
  size : length r.hold ≡ room
  count : r.held ≡ min room (length l)
  front : bytes_held r ≡ take room l

kept_holds : (r : Reading) (l : List ℕ) (b : ℕ) → Holds r l → Holds (kept r b) (l ++ b ∷ [])
unfolding kept held_after kept_in
kept_holds r l b h = go (leb room r.held) refl
  where
    go : (t : Bool) → leb room r.held ≡ t
        → Holds (record { place = r.place; hold = cond t r.hold (set r.hold r.held b); held = cond t r.held (r.held + 1) }) (l ++ b ∷ [])
    go true e =
        let full : room ≤ r.held = leb-true room r.held e in
        record { size = h.size; count = rw length-append (omega arith); front = h.front ∙ sym (take-append-le room l (b ∷ []) (omega arith)) }
    go false e =
        let free : r.held < room = leb-false room r.held e in
        let all : take room l ≡ l = take_all room l (omega arith) in
        let more : take room (l ++ b ∷ []) ≡ l ++ b ∷ [] = take_all room (l ++ b ∷ []) (rw length-append (omega arith)) in
        record {
          size = length-set r.hold r.held b ∙ h.size;
          count = rw length-append (omega arith);
          front = rw (add-one, take-suc-set r.hold r.held b (omega arith), h.front, all, more);
        }

ended_holds : (r : Reading) (l : List ℕ) → Holds r l → Holds (ended r) []
unfolding ended
ended_holds r l h = record { size = h.size; count = omega arith; front = refl }

-- ---- bytes that are read pass the lines

ran_told : (r : Reading) (l input : List ℕ) → Holds r l → ran_whole r input ≡ told r.place (lines_from l input)
unfolding ran ran_text lines_from told kept ended ended_text finished_text
ran_told r [] [] h = rw (eq-eqb r.held 0 h.count)
ran_told r (b ∷ l) [] h = rw (ne_eqb r.held 0 (λ z. omega arith), append-nil, h.front, text_alike r.place (front_open (b ∷ l)))
ran_told r l (b ∷ input) h = go (eqb b line_feed) (ran_told (ended r) [] input (ended_holds r l h)) (ran_told (kept r b) (l ++ b ∷ []) input (kept_holds r l b h))
  where
    go : (t : Bool) → ran_whole (ended r) input ≡ told (ended r).place (lines_from [] input) → ran_whole (kept r b) input ≡ told r.place (lines_from (l ++ b ∷ []) input)
        → cond t (ended_text r) [] ++ ran_text (cond t (ended r) (kept r b)) input ++ finished_text (ran (cond t (ended r) (kept r b)) input)
        ≡ told r.place (cond t (without_cr l ∷ lines_from [] input) (lines_from (l ++ b ∷ []) input))
    go true e k = rw (append_assoc, e, h.front, text_alike r.place (front_ended l), passed_alike r.place (front_ended l))
    go false e k = k

-- ---- fewer than 2 ^ 64 lines: no number comes round to 0, the header's

told_answered : (p : Place) (lines : List (List ℕ)) → 0 < p.line → p.line + length lines < 2 ^ 64 → told p lines ≡ answered p.state p.line lines
unfolding told answered passed passed_text
told_answered p [] some few = refl
told_answered p (l ∷ lines) some few =
    let next : (p.line + 1) % 2 ^ 64 ≡ suc p.line = mod-eq_of_lt (omega arith) ∙ add-one p.line in
    rw (ne_eqb p.line 0 (λ z. omega arith), next, told_answered (record { state = after_line p.state l; line = suc p.line }) lines (omega arith) (omega arith))

-- from the header on
told_behind : (s : State) (lines : List (List ℕ)) → length lines < 2 ^ 64 → told (record { state = s; line = 0 }) lines ≡ answered s 1 (behind_header lines)
unfolding told answered passed passed_text
told_behind s [] few = refl
told_behind s (header ∷ lines) few = told_answered (record { state = s; line = 1 }) lines (omega arith) (omega arith)

-- a line takes a byte at least: its line feed, or of the last line one of its own
lines_few : (l input : List ℕ) → length (lines_from l input) ≤ length l + length input
unfolding lines_from
lines_few [] [] = omega arith
lines_few (b ∷ l) [] = omega arith
lines_few l (b ∷ input) = go (eqb b line_feed) (lines_few [] input) (rw length-append at (lines_few (l ++ b ∷ []) input))
  where
    go : (t : Bool) → length (lines_from [] input) ≤ 0 + length input → length (lines_from (l ++ b ∷ []) input) ≤ length l + 1 + length input
        → length (cond t (without_cr l ∷ lines_from [] input) (lines_from (l ++ b ∷ []) input)) ≤ length l + suc (length input)
    go true e k = omega arith
    go false e k = omega arith

-- ---- the whole

-- an input that comes at once
pub at_once : (hold : List ℕ) → length hold ≡ 514 → (input : List ℕ) → length input < 2 ^ 64 → header_text ++ ran_whole (reading fresh log hold) input ≡ whole input
unfolding whole
at_once hold size input few =
    let holds : Holds (reading fresh log hold) [] = record { size = size; count = omega arith; front = refl } in
    let lines : List (List ℕ) = lines_of input in
    let small : length lines < 2 ^ 64 = omega (arith, lines_few [] input) in
    rw (ran_told (reading fresh log hold) [] input holds, told_behind start lines small)

pub any_cut :
    (hold : List ℕ) → length hold ≡ 514 → (chunks : List (List ℕ)) → Short chunks → length (joined chunks) < 2 ^ 64 → chunked hold chunks ≡ whole (joined chunks)
unfolding chunked
any_cut hold size chunks short few = rw (fed_whole (reading fresh log hold) chunks short) (at_once hold size (joined chunks) few)
