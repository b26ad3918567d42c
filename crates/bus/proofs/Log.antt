-- Laws of the log: rows written in two goes are rows written in one (`written_append`), the log keeps its length (`length_written`), and what lies outside the rows keeps its value (`written_outside`).
-- Assumes nothing.
use mathlib.Core.Path.{◌≡◌, refl, sym, ◌∙◌}
use mathlib.Core.Logic.{◌⊎◌, inl, inr}
use mathlib.Core.List.{List, [], ◌∷◌, ◌++◌, append-nil, append_assoc}
use Prim.Native.Nat.{ℕ, suc, ◌+◌, ◌-◌, ◌*◌, ◌≤◌, ◌<◌}
use native.Mathlib.Nat.{add-zero}
use native.Mathlib.Omega.{arith}
use lib.ListN.{length, get_or, take, drop, set, length-drop, drop_of_length-le}
use lib.Seq.{sets, sets-eq, length-sets, get_or-set_other, take_all, drop-drop}
use Rattle.std.specs.Prelude.{Result}
use Rattle.bus.specs.declared.Eight.{Eight}
use Rattle.bus.specs.declared.Failed.{Failed}
use borrow.Rule.Slice.PartMut.{put_mid}
use Rattle.bus.specs.declared.Note.{Note}
use Rattle.bus.specs.declared.Note.TheVariants.{SignalOn, EnablePower, Wait}
use Rattle.bus.specs.declared.Transfer.{Transfer}
use Rattle.bus.specs.declared.Transfer.TheVariants.{Write2, Write3, WriteRead, Read}
use Rattle.bus.specs.declared.Head.{Head}
use Rattle.bus.specs.Rows.{Row, noted, moved, note_head, transfer_head, laid, bytes, put, written}

-- ---- one row

pub length_laid : (slot : ℕ) (h : Head) (g : Result Eight Failed) → length (laid slot h g) ≡ 16
unfolding laid
length_laid slot h g = refl

length_bytes : (r : Row) → length (bytes r) ≡ 16
unfolding bytes
length_bytes (noted slot n) = length_laid slot (note_head n) _
length_bytes (moved slot t g) = length_laid slot (transfer_head t) g

-- the free tail of the log, lent and handed back with a row at its front
pub put_back : (l : List ℕ) (u : ℕ) (b : List ℕ) {ys : List ℕ} → length b ≡ 16 → 16 * (u + 1) ≤ length l
    → ys ≡ b ++ drop 16 (take (length l - 16 * u) (drop (16 * u) l))
    → put_mid (16 * u) (length l - 16 * u) l ys ≡ put l u b
unfolding put
put_back l u b n h e =
    let a = 16 * u in
    let none : drop (length l - a) (drop a l) ≡ [] = drop_of_length-le (drop a l) {i = length l - a} (omega (arith, length-drop a l)) in
    let all : take (length l - a) (drop a l) ≡ drop a l = take_all (length l - a) (drop a l) (omega (arith, length-drop a l)) in
    rw (none, append-nil, e, all, drop-drop, ← append_assoc) (sym (rw n at (sets-eq b l a (omega arith))))

-- ---- rows

pub written_append : (l : List ℕ) (u : ℕ) (xs ys : List Row) → written (written l u xs) (u + length xs) ys ≡ written l u (xs ++ ys)
unfolding written
written_append l u [] ys = rw (add-zero u)
written_append l u (x ∷ xs) ys =
    let e : u + suc (length xs) ≡ u + 1 + length xs = omega arith in
    rw e (written_append (put l u (bytes x)) (u + 1) xs ys)

pub length_written : (l : List ℕ) (u : ℕ) (rows : List Row) → length (written l u rows) ≡ length l
unfolding written put
length_written l u [] = refl
length_written l u (r ∷ rows) = length_written (put l u (bytes r)) (u + 1) rows ∙ length-sets l (16 * u) (bytes r)

-- ---- what lies outside them

sets_outside : (l : List ℕ) (i : ℕ) (vs : List ℕ) (j : ℕ) → (j < i) ⊎ (i + length vs ≤ j) → get_or (sets l i vs) j 0 ≡ get_or l j 0
sets_outside l i [] j h = refl
sets_outside l i (v ∷ vs) j (inl h) = sets_outside (set l i v) (suc i) vs j (inl (omega arith)) ∙ get_or-set_other l i j v 0 (omega arith)
sets_outside l i (v ∷ vs) j (inr h) = sets_outside (set l i v) (suc i) vs j (inr (omega arith)) ∙ get_or-set_other l i j v 0 (omega arith)

put_outside : (l : List ℕ) (u : ℕ) (r : Row) (j : ℕ) → (j < 16 * u) ⊎ (16 * u + 16 ≤ j) → get_or (put l u (bytes r)) j 0 ≡ get_or l j 0
unfolding put
put_outside l u r j h = sets_outside l (16 * u) (bytes r) j (rw (length_bytes r) h)

pub written_outside : (l : List ℕ) (u : ℕ) (rows : List Row) (j : ℕ) → (j < 16 * u) ⊎ (16 * (u + length rows) ≤ j) → get_or (written l u rows) j 0 ≡ get_or l j 0
unfolding written
written_outside l u [] j h = refl
written_outside l u (r ∷ rows) j (inl h) = written_outside (put l u (bytes r)) (u + 1) rows j (inl (omega arith)) ∙ put_outside l u r j (inl h)
written_outside l u (r ∷ rows) j (inr h) = written_outside (put l u (bytes r)) (u + 1) rows j (inr (omega arith)) ∙ put_outside l u r j (inr (omega arith))
