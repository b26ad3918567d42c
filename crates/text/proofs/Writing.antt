-- Laws of writing: one text behind another (`wrote_then`), the room that is left (`room_past`).
-- Assumes nothing.
use Prim.Native.Nat.{ℕ, ◌+◌, ◌≤◌}
use mathlib.Core.Path.{◌≡◌, sym, ap, ◌∙◌}
use mathlib.Core.List.{List, ◌++◌, append_assoc}
use native.Mathlib.Omega.{arith}
use lib.ListN.{length, take, drop, length-append}
use lib.Seq.{drop-drop}
use Rattle.text.specs.Texts.{Wrote}

-- what is behind the second text was behind the first
behind : (o o' : List ℕ) (r k : ℕ) → drop r o' ≡ drop r o → drop (r + k) o' ≡ drop (r + k) o
behind o o' r k e = sym (drop-drop k r o') ∙ ap (drop k) e ∙ drop-drop k r o

pub wrote_then : {o o' o'' : List ℕ} {n r s : ℕ} {a b : List ℕ} → Wrote o n o' r a → Wrote o' r o'' s b → Wrote o n o'' s (a ++ b)
wrote_then {o} {o'} {o''} {n} {r} {s} {a} {b} v w = record {
  past = omega (arith, length-append a b, v.past, w.past);
  front = w.front ∙ rw v.front (append_assoc (take n o) a b);
  rest = w.rest ∙ rw w.past (behind o o' r (length b) v.rest);
  size = w.size ∙ v.size;
}

-- a text of k bytes at most leaves m of the room of k + m
pub room_past : {o o' : List ℕ} {n r : ℕ} {text : List ℕ} (k m : ℕ) → Wrote o n o' r text → length text ≤ k → n + (k + m) ≤ length o → r + m ≤ length o'
room_past k m w short room = omega (arith, w.past, w.size)
