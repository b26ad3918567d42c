-- Laws of runs, for the promises of functions that go through the bus: what `Does` says of a run's pieces it says of the run, room is left after a run, and a promise of this form fixes the log, the cursor and the answer (`does_unique`).
-- Assumes nothing.
use mathlib.Core.Path.{◌≡◌, refl, sym, ap, ◌∙◌}
use mathlib.Core.Bool.{Bool, true, false, ◌&&◌}
use mathlib.Core.List.{List}
use Prim.Native.Nat.{ℕ, ◌+◌, ◌≤◌}
use native.Mathlib.Nat.{add-zero, add_assoc, le_trans}
use native.Mathlib.Omega.{arith}
use lib.Dec.{T, leb, leb→le, lit≤}
use lib.ListN.{length, length-append}
use Rattle.std.specs.Prelude.{Result, Ok, Err, IsErr, IsErrAnd}
use Rattle.bus.specs.declared.Bus.{Bus}
use Rattle.bus.specs.declared.Cursor.{Cursor}
use Rattle.bus.specs.declared.Eight.{Eight}
use Rattle.bus.specs.declared.Failed.{Failed}
use Rattle.bus.specs.declared.Head.{Head}
use Rattle.bus.specs.declared.Note.{Note}
use Rattle.bus.specs.declared.Transfer.{Transfer}
use Rattle.bus.specs.Rows.{no_data, note_head, transfer_head, laid, bytes, put, written}
use Rattle.bus.specs.Replies.{got_at}
use Rattle.bus.specs.Run.{Run, done, bind, mapped, note, transfer, on_got, after, Does, Room, Runs, HasRoom, HasRows}
use Rattle.bus.proofs.Log.{written_append, length_written}

module _ {A : Type 0} {m : Run A} {rs l : List ℕ} {c : Cursor} {n t : ℕ} {l' : List ℕ} {c' : Cursor} {a : A} where
  -- weaker bounds
  pub does_more : Does m rs l c n t l' c' a → {n' t' : ℕ} → n ≤ n' → t ≤ t' → Does m rs l c n' t' l' c' a
  does_more d h g = record { ans = d.ans; log = d.log; next = d.next; rows = le_trans d.rows h; taken = omega (arith, d.taken) }

  -- no second log, cursor or answer
  pub does_unique : {n'' t'' : ℕ} {l'' : List ℕ} {c'' : Cursor} {a'' : A} → Does m rs l c n t l' c' a → Does m rs l c n'' t'' l'' c'' a'' → (l' ≡ l'') × (c' ≡ c'') × (a ≡ a'')
  does_unique d e = (d.log ∙ sym e.log, d.next ∙ sym e.next, d.ans ∙ sym e.ans)

  -- the room that is left
  pub room_after : Does m rs l c n t l' c' a → {n' t' : ℕ} → Room c (n + n') (t + t') l rs → Room c' n' t' l' rs
  room_after d room =
      rw (d.next, d.log)
      (record {
        slot = room.slot;
        rows = omega (arith, d.rows, room.rows, length_written l c.used (m rs c.slot c.taken).rows);
        replies = omega (arith, d.taken, room.replies);
      })

pub room_less : {c : Cursor} {n t n' t' : ℕ} {l rs : List ℕ} → Room c n t l rs → n' ≤ n → t' ≤ t → Room c n' t' l rs
room_less room h g = record { slot = room.slot; rows = omega (arith, room.rows); replies = omega (arith, room.replies) }

-- two bounds at once
both : (n t N M : ℕ) → T (leb n N && leb t M) → (n ≤ N) × (t ≤ M)
both n t N M h = go (leb n N) (leb t M) (leb→le n N) (leb→le t M) h
  where
    go : (p q : Bool) → (T p → n ≤ N) → (T q → t ≤ M) → T (p && q) → (n ≤ N) × (t ≤ M)
    go true true f g h = (f tt, g tt)
    go false q f g h = elim h [ ]
    go true false f g h = elim h [ ]

-- what a `?` answers where it ends a function
pub erred : {B F : Type 0} {r : Result B F} {x : F} → IsErr r × IsErrAnd r (λ e. e ≡ x) → r ≡ Err x
erred {r = Ok y} h = absurd h.1
erred {r = Err e} h = ap (λ z. Err z) h.1

-- ---- an answer at once

pub does_end : {A : Type 0} {rs l : List ℕ} {c : Cursor} {a b : A} → a ≡ b → Does (done b) rs l c 0 0 l c a
unfolding done written
does_end e = record { ans = e; log = refl; next = rw add-zero; rows = lit≤ tt; taken = omega arith }

pub does_done : {A : Type 0} {rs l : List ℕ} {c : Cursor} {a : A} → Does (done a) rs l c 0 0 l c a
does_done = does_end refl

-- ---- one run, and then another

joined : {A B : Type 0} (m : Run A) (k : A → Run B) (rs l : List ℕ) (c : Cursor) (n t n' t' : ℕ) (l'' : List ℕ) (c'' : Cursor) (b : B)
    → length (m rs c.slot c.taken).rows ≤ n → (m rs c.slot c.taken).taken ≤ c.taken + t
    → Does (k (m rs c.slot c.taken).ans) rs (written l c.used (m rs c.slot c.taken).rows) (after c (m rs c.slot c.taken)) n' t' l'' c'' b
    → Does (bind m k) rs l c (n + n') (t + t') l'' c'' b
unfolding bind
joined m k rs l c n t n' t' l'' c'' b h g d =
    let x = m rs c.slot c.taken in
    let y = k x.ans rs c.slot x.taken in
    record {
      ans = d.ans;
      log = d.log ∙ written_append l c.used x.rows y.rows;
      next = d.next ∙ rw (length-append x.rows y.rows, ← add_assoc);
      rows = omega (arith, d.rows, length-append x.rows y.rows);
      taken = omega (arith, d.taken);
    }

-- a is the answer of the first run, and a' is what a match told of it
pub does_then : {A B : Type 0} {m : Run A} {rs l : List ℕ} {c : Cursor} {n t n' t' : ℕ} {l' l'' : List ℕ} {c' c'' : Cursor} {a a' : A} {b : B}
    → (k : A → Run B) → Does m rs l c n t l' c' a → a ≡ a' → Does (k a') rs l' c' n' t' l'' c'' b → Does (bind m k) rs l c (n + n') (t + t') l'' c'' b
does_then k d e f = joined _ k _ _ _ _ _ _ _ _ _ _ d.rows d.taken (rw (sym e ∙ d.ans, d.log, d.next) at f)

pub does_mapped : {A B : Type 0} {m : Run A} {rs l : List ℕ} {c : Cursor} {n t : ℕ} {l' : List ℕ} {c' : Cursor} {a : A} (f : A → B) → Does m rs l c n t l' c' a → Does (mapped f m) rs l c n t l' c' (f a)
unfolding mapped
does_mapped f d = rw (add-zero, add-zero) at (does_then (λ a. done (f a)) d refl does_done)

-- ---- one row: h is the head that was sent, and g what came back

module _ {rs l : List ℕ} {c : Cursor} {h : Head} {l' : List ℕ} where
  pub does_note : (w : Note) → h ≡ note_head w → l' ≡ put l c.used (laid c.slot h (Ok no_data))
      → Does (note w) rs l c 1 0 l' (record { slot = c.slot; used = c.used + 1; taken = c.taken }) tt
  unfolding note written bytes
  does_note w e f = record { ans = refl; log = rw (← e) f; next = refl; rows = lit≤ tt; taken = omega arith }

  pub does_transfer : (op : Transfer) {g : Result Eight Failed} → h ≡ transfer_head op → g ≡ got_at rs c.taken h.ins → l' ≡ put l c.used (laid c.slot h g)
      → Does (transfer op) rs l c 1 1 l' (record { slot = c.slot; used = c.used + 1; taken = c.taken + 1 }) g
  unfolding transfer written bytes
  does_transfer op e s f = record { ans = rw (← e) s; log = rw (← e, ← s) f; next = refl; rows = lit≤ tt; taken = omega arith }

-- ---- the same of a bus

module _ {A : Type 0} {m : Run A} {b : Bus} {n t : ℕ} {b' : Bus} {a : A} where
  -- weaker bounds, which are numerals
  pub within : {N M : ℕ} → Runs m b n t b' a → T (leb n N && leb t M) → Runs m b N M b' a
  within {N} {M} d h = let p = both n t N M h in record { does = does_more d.does p.0 p.1; replies = d.replies }

  -- the room that is left
  pub left : {n' t' : ℕ} → Runs m b n t b' a → HasRoom b (n + n') (t + t') → HasRoom b' n' t'
  left d h = record { room = rw d.replies (room_after d.does h.room) }

  -- no second log, place or answer
  pub runs_unique : {n'' t'' : ℕ} {b'' : Bus} {a'' : A} → Runs m b n t b' a → Runs m b n'' t'' b'' a'' → (b'.log.now ≡ b''.log.now) × (b'.at ≡ b''.at) × (a ≡ a'')
  runs_unique d e = does_unique d.does e.does

  -- the same run with its answer turned into another
  pub runs_mapped : {B : Type 0} {r : B} (f : A → B) → Runs m b n t b' a → r ≡ f a → Runs (mapped f m) b n t b' r
  runs_mapped f d e = record { does = rw e (does_mapped f d.does); replies = d.replies }

  -- one run, and then another: a' is what a match told of the answer of the first
  pub runs_then : {B : Type 0} {b'' : Bus} {n' t' : ℕ} {a' : A} {r : B} (k : A → Run B) → Runs m b n t b' a → a ≡ a' → Runs (k a') b' n' t' b'' r → Runs (bind m k) b (n + n') (t + t') b'' r
  runs_then k d e f = record { does = does_then k d.does e (rw d.replies at f.does); replies = f.replies ∙ d.replies }

  -- .. and the answer of the first is not looked at
  pub runs_next : {B : Type 0} {b'' : Bus} {n' t' : ℕ} {r : B} (k : A → Run B) → Runs m b n t b' a → Runs (k a) b' n' t' b'' r → Runs (bind m k) b (n + n') (t + t') b'' r
  runs_next k d f = runs_then k d refl f

-- an answer at once
pub runs_done : {A : Type 0} {b : Bus} {a r : A} → r ≡ a → Runs (done a) b 0 0 b r
runs_done e = record { does = does_end e; replies = refl }

-- room enough, by numerals
pub enough : {b : Bus} {n t N M : ℕ} → HasRoom b N M → T (leb n N && leb t M) → HasRoom b n t
enough {n = n} {t = t} {N = N} {M = M} h i = let p = both n t N M i in record { room = room_less h.room p.0 p.1 }

-- of the rows alone
pub rows : {b : Bus} {n t m : ℕ} → HasRoom b n t → T (leb m n) → HasRows b m
rows {n = n} {m = m} h i = let p = leb→le m n i in record { slot = h.room.slot; rows = omega (arith, h.room.rows) }

-- the rows that are left
pub rows_left : {A : Type 0} {m : Run A} {b : Bus} {n t : ℕ} {b' : Bus} {a : A} {n' : ℕ} → Runs m b n t b' a → HasRows b (n + n') → HasRows b' n'
rows_left {m = m} {b = b} {n = n} {n' = n'} d h =
    let e = d.does in
    rw (e.next, e.log) (record { slot = h.slot; rows = omega (arith, e.rows, h.rows, length_written b.log.now b.at.used (m b.replies.now b.at.slot b.at.taken).rows) })

-- a transfer and `?`: a failure ends it, and otherwise it goes on
module _ {A : Type 0} {m : Run (Result Eight Failed)} {b : Bus} {n t : ℕ} {b' : Bus} {g : Result Eight Failed} where
  pub runs_lost : {e : Failed} {r : A} (a : A) (k : Eight → Run A) → Runs m b n t b' g → g ≡ Err e → r ≡ a → Runs (bind m (on_got a k)) b n t b' r
  unfolding on_got
  runs_lost a k d e i = rw (add-zero n, add-zero t) at (runs_then (on_got a k) d e (runs_done i))

  pub runs_got : {x : Eight} {b'' : Bus} {n' t' : ℕ} {r : A} (a : A) (k : Eight → Run A) → Runs m b n t b' g → g ≡ Ok x → Runs (k x) b' n' t' b'' r → Runs (bind m (on_got a k)) b (n + n') (t + t') b'' r
  unfolding on_got
  runs_got a k d e i = runs_then (on_got a k) d e i
