-- What is held is never more than the buffer has, and where a line ends. Assumes nothing.
use Rattle.std.proofs.Common.{◌≡◌, ℕ, suc, ◌+◌, ◌-◌, ◌≤◌, ◌<◌, Bool, true, false, List, [], ◌∷◌, ◌++◌, Bor, Option, None, Some, eqb, leb, length, take, drop, get_or, set, refl, sym, ap, ◌∙◌, add-one, arith, append-nil, length-set, take_all, take-suc-set, length-take-le, drop-cons, drop_of_length-le}
use Rattle.std.proofs.Math.Bool.{and-true}
use Rattle.std.proofs.Math.Seq.{take-length, append_snoc}
use Rattle.std.proofs.lemmas.List.{take-append-le}
use Rattle.std.specs.Option.{MatchOption, unwrap_or}
use Rattle.std.specs.Cmp.Lexicographic.{pointwise}
use borrow.Author.Tests.{leb-true, leb-false}
use Rattle.line_hold.specs.Hold.{room, carriage_return, last_of, end_of, without_cr, held_after, kept_in, held_past, kept_part, Parts}

-- ---- a line's end

last_alone : (l : List ℕ) (k : ℕ) → length l ≡ k + 1 → drop k l ≡ get_or l k 0 ∷ []
last_alone l k e = rw (drop-cons l k 0 (omega (arith, e)), drop_of_length-le l {i = suc k} (omega (arith, e)))

-- the last byte is a CR or not
ends_cr : (l : List ℕ) → pointwise eqb (drop (length l - 1) l) (carriage_return ∷ []) ≡ eqb (last_of l) carriage_return
ends_cr [] = refl
ends_cr (b ∷ l) =
    ap (λ (t : List ℕ). pointwise eqb t (carriage_return ∷ [])) (last_alone (b ∷ l) (length (b ∷ l) - 1) (omega arith))
    ∙ and-true (eqb (last_of (b ∷ l)) carriage_return)

pub without_suffix : (s : Bor (List ℕ)) (o : Option (Bor (List ℕ)))
    → MatchOption o (pointwise eqb (drop (length s.now - 1) s.now) (carriage_return ∷ []) ≡ false) (λ x. (pointwise eqb (drop (length s.now - 1) s.now) (carriage_return ∷ []) ≡ true) × (x.now ≡ take (length s.now - 1) s.now) × (length x.now + 1 ≡ length s.now))
    → (unwrap_or o s).now ≡ without_cr s.now
unfolding end_of without_cr
without_suffix s None h = rw (sym (ends_cr s.now) ∙ h) (sym (take-length s.now))
without_suffix s (Some x) h = rw (sym (ends_cr s.now) ∙ h.0) h.1

-- ---- a part of a line: what is left of it, kept behind what is held, gives the same as the whole did

module _ (part : List ℕ) (i : ℕ) where
  pub held_more : (held : ℕ) → i < length part → held_past (held_after held) (drop (i + 1) part) ≡ held_past held (drop i part)
  unfolding held_past
  held_more held h = rw (drop-cons part i 0 h, add-one)

  pub kept_more : (hold : List ℕ) (held : ℕ) → i < length part
      → kept_part (kept_in hold held (get_or part i 0)) (held_after held) (drop (i + 1) part) ≡ kept_part hold held (drop i part)
  unfolding kept_part
  kept_more hold held h = rw (drop-cons part i 0 h, add-one)

  pub held_all : (held : ℕ) → length part ≤ i → held_past held (drop i part) ≡ held
  unfolding held_past
  held_all held h = rw (drop_of_length-le part h)

  pub kept_all : (hold : List ℕ) (held : ℕ) → length part ≤ i → kept_part hold held (drop i part) ≡ hold
  unfolding kept_part
  kept_all hold held h = rw (drop_of_length-le part h)

-- the next byte is kept or left out
by : (held : ℕ) {G : Type 0} → (leb room held ≡ true → G) → (leb room held ≡ false → G) → G
by held = go (leb room held)
  where
    go : (t : Bool) {G : Type 0} → (t ≡ true → G) → (t ≡ false → G) → G
    go true f g = f refl
    go false f g = g refl

pub parts : (hold : List ℕ) (held : ℕ) (part : List ℕ) → length hold ≡ room → held ≤ room → Parts hold held part
unfolding held_past kept_part held_after kept_in
parts hold held [] e h =
    let size = length-take-le held hold (omega arith) in
    record { count = omega arith; bytes = sym (ap (take room) (append-nil (take held hold)) ∙ take_all room (take held hold) (omega arith)) }
parts hold held (b ∷ part) e h = by held
    (λ t.
    let size = length-take-le held hold (omega arith) in
    let full = leb-true room held t in
    let rest = parts hold held part e h in
    let cut : (l : List ℕ) → take room (take held hold ++ l) ≡ take room (take held hold) = λ l. take-append-le room (take held hold) l (omega arith) in
    record { count = rw t (rest.count ∙ omega arith); bytes = rw t (rest.bytes ∙ cut part ∙ sym (cut (b ∷ part))) })
    (λ t.
    let free = leb-false room held t in
    let rest = parts (set hold held b) (held + 1) part (length-set hold held b ∙ e) (omega arith) in
    let front : take (held + 1) (set hold held b) ≡ take held hold ++ (b ∷ []) = rw add-one (take-suc-set hold held b (omega arith)) in
    record { count = rw t (rest.count ∙ omega arith); bytes = rw t (rest.bytes ∙ ap (λ (l : List ℕ). take room (l ++ part)) front ∙ ap (take room) (append_snoc (take held hold) b part)) })
