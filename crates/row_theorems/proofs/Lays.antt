-- A judgement on runs: where the run's answer is a good one, the first eight bytes of its rows are those of a list, and it took n replies. The list may hold something that the run decides, as a code. Rules for the pieces of a run. Assumes nothing.
use Rattle.std.specs.Prelude.{Result, Ok, Err}
use Prim.Native.Nat.{ℕ, ◌+◌}
use native.Mathlib.Omega.{arith}
use mathlib.Core.Path.{◌≡◌, refl, ap, ◌∙◌}
use mathlib.Core.Bool.{Bool, true, false, cond}
use mathlib.Core.List.{List, [], ◌∷◌, ◌++◌, map, map-append, append-nil}
use Rattle.bus.specs.declared.Eight.{Eight}
use Rattle.bus.specs.declared.Note.{Note}
use Rattle.bus.specs.declared.Transfer.{Transfer}
use Rattle.bus.specs.Rows.{noted, moved, no_data, bytes, laid, transfer_head}
use Rattle.bus.specs.Replies.{got_at}
use Rattle.bus.specs.Run.{Ran, Run, done, bind, mapped, note, transfer, on_got, try}
use Rattle.row_theorems.specs.Start.{seen}
use Rattle.bus.specs.declared.Failed.{Failed}
use Rattle.bus.specs.Rows.{no_answer}

pub record Laid {A I : Type 0} (L : I → ℕ → List (List ℕ)) (n slot taken : ℕ) (x : Ran A) : Type 0 where
  pub which : I
  pub rows : map seen x.rows ≡ L which slot
  pub replies : x.taken ≡ taken + n

pub record Lays {A I : Type 0} (m : Run A) (Good : A → Type 0) (L : I → ℕ → List (List ℕ)) (n : ℕ) : Type 0 where
  pub laid : (rs : List ℕ) (slot taken : ℕ) → Good (m rs slot taken).ans → Laid L n slot taken (m rs slot taken)

-- nothing that the run decides
abbrev pub Fixed : Type 0
Fixed = Unit {0}

-- the same list in other words
pub lays_as : {A I J : Type 0} {Q : A → Type 0} {L : I → ℕ → List (List ℕ)} {n : ℕ} {m : Run A} (K : J → ℕ → List (List ℕ)) (f : I → J) → ((i : I) (slot : ℕ) → L i slot ≡ K (f i) slot) → Lays m Q L n → Lays m Q K n
lays_as K f same x =
    record {
      laid = λ rs slot taken g.
          let u = x.laid rs slot taken g in
          record { which = f u.which; rows = u.rows ∙ same u.which slot; replies = u.replies };
    }

-- ---- the pieces

pub lays_done : {A : Type 0} {Good : A → Type 0} (a : A) → Lays {I = Fixed} (done a) Good (λ i slot. []) 0
unfolding done
lays_done a = record { laid = λ rs slot taken g. record { which = tt; rows = refl; replies = omega arith } }

-- an answer that is not good
pub lays_never : {A I : Type 0} {Good : A → Type 0} {L : I → ℕ → List (List ℕ)} {n : ℕ} (a : A) → (Good a → ⊥) → Lays (done a) Good L n
unfolding done
lays_never a never = record { laid = λ rs slot taken g. absurd (never g) }

pub lays_note : {Good : Unit {0} → Type 0} (n : Note) → Lays {I = Fixed} (note n) Good (λ i slot. seen (noted slot n) ∷ []) 0
unfolding note
lays_note n = record { laid = λ rs slot taken g. record { which = tt; rows = refl; replies = omega arith } }

-- the acknowledged row of a transfer
abbrev pub sent : Transfer → ℕ → List ℕ
sent t slot = seen (moved slot t (Ok no_data))

got_row : (t : Transfer) (slot : ℕ) (Good : Result Eight Failed → Type 0) → (Good (Err no_answer) → ⊥) → (g : Result Eight Failed) → Good g → seen (moved slot t g) ≡ sent t slot
unfolding bytes laid
got_row t slot Good never (Ok d) g = refl
got_row t slot Good never (Err e) g = absurd (never g)

pub lays_transfer : (Good : Result Eight Failed → Type 0) (t : Transfer) → (Good (Err no_answer) → ⊥) → Lays {I = Fixed} (transfer t) Good (λ i slot. sent t slot ∷ []) 1
unfolding transfer
lays_transfer Good t never =
    record {
      laid = λ rs slot taken g. record { which = tt; rows = ap (λ (r : List ℕ). r ∷ []) (got_row t slot Good never (got_at rs taken (transfer_head t).ins) g); replies = refl };
    }

module _ {A B I J : Type 0} {P : A → Type 0} {Q : B → Type 0} {L : I → ℕ → List (List ℕ)} {K : J → ℕ → List (List ℕ)} {n k : ℕ} where
  -- one run and then another: a good end has a good first answer
  pub lays_bind : (m : Run A) (f : A → Run B) → Lays m P L n → ((a : A) → P a → Lays (f a) Q K k) → ((a : A) (rs : List ℕ) (slot taken : ℕ) → Q (f a rs slot taken).ans → P a)
      → Lays (bind m f) Q (λ (i : I × J) slot. L i.0 slot ++ K i.1 slot) (n + k)
  unfolding bind
  lays_bind m f x y back =
      record {
        laid = λ rs slot taken g.
            let a = m rs slot taken in
            let b = f a.ans rs slot a.taken in
            let p = back a.ans rs slot a.taken g in
            let u = x.laid rs slot taken p in
            let v = (y a.ans p).laid rs slot a.taken g in
            record {
              which = (u.which, v.which);
              rows = map-append seen a.rows b.rows ∙ rw (u.rows, v.rows);
              replies = omega (arith, u.replies, v.replies);
            };
      }

pub lays_mapped : {A B I : Type 0} {Q : B → Type 0} {L : I → ℕ → List (List ℕ)} {n : ℕ} (f : A → B) (m : Run A) → Lays m (λ a. Q (f a)) L n → Lays (mapped f m) Q L n
unfolding mapped bind done
lays_mapped f m x =
    record {
      laid = λ rs slot taken g.
          let u = x.laid rs slot taken g in
          record { which = u.which; rows = ap (map seen) (append-nil (m rs slot taken).rows) ∙ u.rows; replies = u.replies };
    }

abbrev acked : Result Eight Failed → Type 0
acked (Ok d) = Unit
acked (Err e) = ⊥

not_failed : {A : Type 0} (Q : A → Type 0) (a : A) (f : Eight → Run A) → (Q a → ⊥) → (g : Result Eight Failed) (rs : List ℕ) (slot taken : ℕ) → Q (on_got a f g rs slot taken).ans → acked g
unfolding on_got done
not_failed Q a f never (Ok d) rs slot taken q = tt
not_failed Q a f never (Err e) rs slot taken q = never q

module _ {A I : Type 0} {Q : A → Type 0} {L : I → ℕ → List (List ℕ)} {n : ℕ} where
  on_got_lem : (a : A) (f : Eight → Run A) → (Q a → ⊥) → ((d : Eight) → Lays (f d) Q L n) → (g : Result Eight Failed) → Lays (on_got a f g) Q L n
  unfolding on_got
  on_got_lem a f never x (Ok d) = x d
  on_got_lem a f never x (Err e) = lays_never a never

  -- a transfer whose failure is not a good end
  pub lays_try : (t : Transfer) (a : A) (f : Eight → Run A) → (Q a → ⊥) → ((d : Eight) → Lays (f d) Q L n) → Lays (try t a f) Q (λ (i : Fixed × I) slot. sent t slot ∷ L i.1 slot) (1 + n)
  lays_try t a f never x = lays_bind (transfer t) (on_got a f) (lays_transfer acked t (λ z. z)) (λ g p. on_got_lem a f never x g) (not_failed Q a f never)

  pub lays_cond : (b : Bool) (m : Run A) (a : A) → (Q a → ⊥) → Lays m Q L n → Lays (cond b m (done a)) Q L n
  lays_cond true m a never x = x
  lays_cond false m a never x = lays_never a never
