-- The first 514 bytes of a line tell all that the line does and all that is written for it: a line of more does not fit, and neither do they. Assumes nothing.
use Prim.Native.Nat.{ℕ, ◌+◌, ◌-◌, ◌≤◌, ◌<◌, min}
use mathlib.Core.Path.{◌≡◌, refl, sym, ◌∙◌}
use mathlib.Core.Bool.{Bool, true, false, cond}
use mathlib.Core.List.{List}
use native.Mathlib.Omega.{arith}
use lib.Dec.{eqb, leb}
use lib.ListN.{length, take, length-take}
use lib.Seq.{take_all}
use borrow.Author.Tests.{lt-leb, leb-true, leb-false}
use Rattle.std.proofs.Common.{None}
use Rattle.trace.specs.Trace.{parsed_of}
use Rattle.sheet.specs.Lines.{bad_text}
use Rattle.line_hold.specs.Hold.{carriage_return, room, last_of, end_of, without_cr}
use Rattle.replay_line.specs.Line.{State, after_line, line_text}

-- ---- a line that does not fit

pub bad_no_effect : (s : State) (l : List ℕ) → parsed_of l ≡ None → after_line s l ≡ s
unfolding after_line
bad_no_effect s l e = rw e

pub bad_text_lem : (s : State) (n : ℕ) (l : List ℕ) → parsed_of l ≡ None → line_text s n l ≡ bad_text n
unfolding line_text
bad_text_lem s n l e = rw e

pub long_bad : (l : List ℕ) → 512 < length l → parsed_of l ≡ None
unfolding parsed_of
long_bad l h = rw (lt-leb (length l) 512 h)

-- ---- lines of which the same is told

pub record Alike (x y : List ℕ) : Type 0 where
  pub after : (s : State) → after_line s x ≡ after_line s y
  pub text : (s : State) (n : ℕ) → line_text s n x ≡ line_text s n y

alike_same : {x y : List ℕ} → x ≡ y → Alike x y
alike_same e = record { after = λ s. rw e; text = λ s n. rw e }

alike_long : (x y : List ℕ) → 512 < length x → 512 < length y → Alike x y
alike_long x y h k = record {
  after = λ s. bad_no_effect s x (long_bad x h) ∙ sym (bad_no_effect s y (long_bad y k));
  text = λ s n. bad_text_lem s n x (long_bad x h) ∙ sym (bad_text_lem s n y (long_bad y k));
}

-- f takes a byte away at most
front_alike : (f : List ℕ → List ℕ) → ((x : List ℕ) → length x ≤ length (f x) + 1) → (l : List ℕ) → Alike (f (take room l)) (f l)
front_alike f few l = go (leb (length l) room) refl
  where
    go : (t : Bool) → leb (length l) room ≡ t → Alike (f (take room l)) (f l)
    go true e = alike_same (rw (take_all room l (leb-true (length l) room e)))
    go false e =
        let long : room < length l = leb-false (length l) room e in
        alike_long (f (take room l)) (f l) (omega (arith, few (take room l), length-take room l)) (omega (arith, few l))

-- ---- a line that has ended at a line feed, and one that has not

without_few : (l : List ℕ) → length l ≤ length (without_cr l) + 1
unfolding without_cr end_of
without_few l = rw length-take (go (eqb (last_of l) carriage_return))
  where
    go : (t : Bool) → length l ≤ min (cond t (length l - 1) (length l)) (length l) + 1
    go true = omega arith
    go false = omega arith

pub front_ended : (l : List ℕ) → Alike (without_cr (take room l)) (without_cr l)
front_ended l = front_alike without_cr without_few l

pub front_open : (l : List ℕ) → Alike (take room l) l
front_open l = front_alike (λ x. x) (λ x. omega arith) l
