-- Laws of inking: nothing (`inked_none`), a byte (`byte_in`), any text behind the end (`out_at`), one text behind another (`behind`), what fits of a text (`front_inked`), a text with and without room, and the texts spelt out.
-- Assumes nothing.
use Prim.Native.Nat.{ℕ, suc, ◌+◌, ◌-◌, ◌≤◌, ◌<◌, min}
use mathlib.Core.Bool.{Bool, true, false}
use mathlib.Core.Path.{◌≡◌, refl, sym, ap, ◌∙◌}
use mathlib.Core.List.{List, [], ◌∷◌, ◌++◌, append-nil, append_assoc}
use native.Mathlib.Nat.{add-zero}
use native.Mathlib.Numerals.{add-one}
use native.Mathlib.Omega.{arith}
use lib.Dec.{leb}
use lib.ListN.{length, take, drop, get_or, set, length-append, length-take}
use lib.Seq.{sets, sets-eq, length-sets, set_out, take-suc, take_all, take_at, drop_at, length-take-le}
use Rattle.std.proofs.Common.{take-append-drop}
use borrow.Author.Tests.{leb-true, leb-false}
use Rattle.text.specs.declared.Writer.{Writer}
use Rattle.text.specs.Texts.{Wrote}
use Rattle.pen.specs.Ink.{Inked, each, rows_text}
use Rattle.pen.specs.Pens.{Inks}
use Rattle.pen.specs.Marks.{Inking, Spelt}

-- ---- stores

-- past the end they change nothing
stores_out : (o : List ℕ) (n : ℕ) (text : List ℕ) → length o ≤ n → sets o n text ≡ o
stores_out o n [] h = refl
stores_out o n (b ∷ text) h = rw (set_out o n b h) (stores_out o (suc n) text (omega arith))

stores_then : (o : List ℕ) (n : ℕ) (a b : List ℕ) → sets (sets o n a) (n + length a) b ≡ sets o n (a ++ b)
stores_then o n [] b = rw add-zero refl
stores_then o n (x ∷ a) b =
    let next : n + suc (length a) ≡ suc n + length a = omega arith in
    rw next (stores_then (set o n x) (suc n) a b)

-- ---- a text

none_at : (o : List ℕ) (n : ℕ) → Inked o n o n []
none_at o n = record { stored = refl; past = omega arith }

pub inked_none : (w : Writer) → Inks w w []
inked_none w = none_at w.out.now w.at

-- either there is room for all of the text, or not
by : (t : Bool) {G : Type 0} → (t ≡ true → G) → (t ≡ false → G) → G
by true f g = f refl
by false f g = g refl

-- the second text begins where the first ends, or there is no room left for it
begins : (o : List ℕ) (n r : ℕ) (a b : List ℕ) → r ≡ n + min (length a) (length o - n) → sets (sets o n a) r b ≡ sets o n (a ++ b)
begins o n r a b e = by (leb (length a) (length o - n))
    (λ h. rw (room (leb-true (length a) (length o - n) h)) (stores_then o n a b))
    (λ h. full (leb-false (length a) (length o - n) h))
  where
    room : length a ≤ length o - n → r ≡ n + length a
    room h = omega (arith, e)

    full : length o - n < length a → sets (sets o n a) r b ≡ sets o n (a ++ b)
    full h =
        stores_out (sets o n a) r b (omega (arith, e, length-sets o n a))
        ∙ sym (stores_out (sets o n a) (n + length a) b (omega (arith, length-sets o n a)))
        ∙ stores_then o n a b

pub behind : {o o' o'' : List ℕ} {n r s : ℕ} {a b : List ℕ} → Inked o n o' r a → Inked o' r o'' s b → Inked o n o'' s (a ++ b)
behind {o} {o'} {o''} {n} {r} {s} {a} {b} v w = record {
  stored = w.stored ∙ rw v.stored (begins o n r a b v.past);
  past = omega (arith, length-append a b, v.past, w.past, ap length v.stored ∙ length-sets o n a);
}

pub out_at : (o : List ℕ) (n : ℕ) (text : List ℕ) → length o ≤ n → Inked o n o n text
out_at o n text h = record { stored = sym (stores_out o n text h); past = omega arith }

pub nothing_inked : (w : Writer) (text : List ℕ) → length w.out.now ≤ w.at → Inks w w text
nothing_inked w = out_at w.out.now w.at

pub byte_in : (o : List ℕ) (n b : ℕ) → n < length o → Inked o n (set o n b) (n + 1) (b ∷ [])
byte_in o n b h = record { stored = refl; past = omega arith }

-- what is left out had no room
left_out : (o : List ℕ) (n k : ℕ) (text : List ℕ) → k ≡ min (length o - n) (length text) → sets o n (take k text) ≡ sets o n text
left_out o n k text e = by (leb (length text) (length o - n))
    (λ h. rw (take_all k text (omega (arith, e, leb-true (length text) (length o - n) h))) refl)
    (λ h. full (leb-false (length text) (length o - n) h))
  where
    front : List ℕ
    front = take k text

    full : length o - n < length text → sets o n front ≡ sets o n text
    full h =
        sym (stores_out (sets o n front) (n + length front) (drop k text) (omega (arith, e, length-sets o n front, length-take k text)))
        ∙ stores_then o n front (drop k text)
        ∙ ap (sets o n) (take-append-drop k text)

-- what fits of the text is written
pub front_inked : {o o' : List ℕ} {n r : ℕ} (k : ℕ) (text : List ℕ) → n < length o → k ≡ min (length o - n) (length text) → Wrote o n o' r (take k text) → Inked o n o' r text
front_inked {o} {o'} {n} {r} k text h e w =
    let front : List ℕ = take k text in
    let size : length front ≡ k = length-take-le k text (omega (arith, e)) in
    let whole : o' ≡ (take n o ++ front) ++ drop r o = sym (take-append-drop r o') ∙ rw (w.front, w.rest) in
    let stored : o' ≡ sets o n front = whole ∙ rw w.past (sym (sets-eq front o n (omega (arith, e, size)))) in
    record { stored = stored ∙ left_out o n k text e; past = omega (arith, e, size, w.past) }

-- ---- each of a list

each_append : {A : Type 0} (text : A → List ℕ) (a b : List A) → each text (a ++ b) ≡ each text a ++ each text b
unfolding each
each_append text [] b = refl
each_append text (x ∷ a) b = ap (text x ++◌) (each_append text a b) ∙ sym (append_assoc (text x) (each text a) (each text b))

each_one : {A : Type 0} (text : A → List ℕ) (a : A) → each text (a ∷ []) ≡ text a
unfolding each
each_one text a = append-nil (text a)

pub each_none_at : {A : Type 0} (text : A → List ℕ) (o : List ℕ) (n : ℕ) → Inked o n o n (each text [])
unfolding each
each_none_at text o n = none_at o n

pub each_none : {A : Type 0} (text : A → List ℕ) (w : Writer) → Inks w w (each text [])
each_none text w = each_none_at text w.out.now w.at

-- the first i are written, and the next follows
pub each_more : {A : Type 0} (text : A → List ℕ) (d : A) {o o' o'' : List ℕ} {n r s : ℕ} (l : List A) (i : ℕ) → i < length l
    → Inked o n o' r (each text (take i l)) → Inked o' r o'' s (text (get_or l i d)) → Inked o n o'' s (each text (take (i + 1) l))
each_more text d l i h v w = rw (add-one, take-suc l i d h, each_append text (take i l) (get_or l i d ∷ []), each_one text (get_or l i d)) (behind v w)

-- ---- with room, without, and spelt out

with_room : {o o' : List ℕ} {n r : ℕ} {text : List ℕ} → n + length text ≤ length o → Inked o n o' r text → Wrote o n o' r text
with_room {o} {o'} {n} {r} {text} h v =
    let place : r ≡ n + length text = omega (arith, v.past) in
    let whole : o' ≡ (take n o ++ text) ++ drop r o = rw place (v.stored ∙ sets-eq text o n h) in
    let front : length (take n o ++ text) ≡ r = length-append (take n o) text ∙ omega (arith, place, length-take-le n o (omega arith)) in
    record {
      past = place;
      front = rw whole (take_at (take n o ++ text) (drop r o) r front);
      rest = rw whole (drop_at (take n o ++ text) (drop r o) r front);
      size = rw v.stored (length-sets o n text);
    }

without_room : {o o' : List ℕ} {n r : ℕ} {text : List ℕ} → length o ≤ n → Inked o n o' r text → (o' ≡ o) × (r ≡ n)
without_room {o} {o'} {n} {r} {text} h v = (v.stored ∙ stores_out o n text h, omega (arith, v.past))

pub inking : Inking
inking = record { behind = behind; with_room = with_room; without_room = without_room }

pub spelt : Spelt
unfolding each rows_text
spelt = record { flags = refl; bytes = refl; turned = refl; word = refl; row = λ a. refl }
