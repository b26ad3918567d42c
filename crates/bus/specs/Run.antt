-- A run: what a piece of work does with the bus. It sees the replies, the slot and how many replies were taken before it, and nothing of the log.
-- So its rows and its answer rest on these alone. Definitions only.
use Rattle.std.specs.Prelude.{ℕ, ◌+◌, ◌*◌, ◌≤◌, ◌<◌, ◌≡◌, List, [], ◌∷◌, ◌++◌, length, Result, Ok, Err}
use Rattle.bus.specs.declared.Cursor.{Cursor}
use Rattle.bus.specs.declared.Bus.{Bus}
use Rattle.bus.specs.declared.Eight.{Eight}
use Rattle.bus.specs.declared.Failed.{Failed}
use Rattle.bus.specs.declared.Note.{Note}
use Rattle.bus.specs.declared.Transfer.{Transfer}
use Rattle.bus.specs.Rows.{Row, noted, moved, transfer_head, written}
use Rattle.bus.specs.Replies.{got_at}

-- how a run ends: the rows that it wrote, how many replies are taken by then, and its answer
pub record Ran (A : Type 0) : Type 0 where
  pub rows : List Row
  pub taken : ℕ
  pub ans : A

-- from the replies, the slot and how many replies are taken
abbrev pub Run : Type 0 → Type 0
Run A = List ℕ → ℕ → ℕ → Ran A

-- ---- the pieces

-- an answer, and no row
unfoldable pub done : {A : Type 0} → A → Run A
done a replies slot taken = record { rows = []; taken = taken; ans = a }

-- one run, and then another that may depend on the answer of the first
unfoldable pub bind : {A B : Type 0} → Run A → (A → Run B) → Run B
bind m k replies slot taken =
    let x = m replies slot taken in
    let y = k x.ans replies slot x.taken in
    record { rows = x.rows ++ y.rows; taken = y.taken; ans = y.ans }

-- the same run with its answer turned into another
unfoldable pub mapped : {A B : Type 0} → (A → B) → Run A → Run B
mapped f m = bind m (λ a. done (f a))

-- one row, and no reply
unfoldable pub note : Note → Run (Unit {0})
note n replies slot taken = record { rows = noted slot n ∷ []; taken = taken; ans = tt }

-- one row with what came back, and one reply
unfoldable pub transfer : Transfer → Run (Result Eight Failed)
transfer t replies slot taken =
    let got = got_at replies taken (transfer_head t).ins in
    record { rows = moved slot t got ∷ []; taken = taken + 1; ans = got }

-- a transfer that ends the run with the answer a if it fails, and otherwise goes on with the eight data bytes
unfoldable pub on_got : {A : Type 0} → A → (Eight → Run A) → Result Eight Failed → Run A
on_got a k (Ok d) = k d
on_got a k (Err e) = done a

abbrev pub try : {A : Type 0} → Transfer → A → (Eight → Run A) → Run A
try t a k = bind (transfer t) (on_got a k)

-- ---- what a promise says

-- the cursor after a run that began at c
abbrev pub after : {A : Type 0} → Cursor → Ran A → Cursor
after c x = record { slot = c.slot; used = c.used + length x.rows; taken = x.taken }

-- From the cursor c and the log l, the run m leaves the log l', the cursor c' and the answer a. It writes n rows at most, and takes t replies at most.
pub record Does {A : Type 0} (m : Run A) (rs l : List ℕ) (c : Cursor) (n t : ℕ) (l' : List ℕ) (c' : Cursor) (a : A) : Type 0 where
  pub ans : a ≡ (m rs c.slot c.taken).ans
  pub log : l' ≡ written l c.used (m rs c.slot c.taken).rows
  pub next : c' ≡ after c (m rs c.slot c.taken)
  pub rows : length (m rs c.slot c.taken).rows ≤ n
  pub taken : (m rs c.slot c.taken).taken ≤ c.taken + t

-- the slot is one of the eight, the log l has room for n rows more, and the replies rs hold t more
pub record Room (c : Cursor) (n t : ℕ) (l rs : List ℕ) : Type 0 where
  pub slot : c.slot < 8
  pub rows : 16 * (c.used + n) ≤ length l
  pub replies : 9 * (c.taken + t) ≤ length rs

-- The same of a bus: b before and b' after. The replies are not touched.
pub record Runs {A : Type 0} (m : Run A) (b : Bus) (n t : ℕ) (b' : Bus) (a : A) : Type 0 where
  pub does : Does m b.replies.now b.log.now b.at n t b'.log.now b'.at a
  pub replies : b'.replies.now ≡ b.replies.now

-- a bus with room for n rows more, and t replies more
pub record HasRoom (b : Bus) (n t : ℕ) : Type 0 where
  pub room : Room b.at n t b.log.now b.replies.now

-- a bus with room for n rows more, whatever the replies are
pub record HasRows (b : Bus) (n : ℕ) : Type 0 where
  pub slot : b.at.slot < 8
  pub rows : 16 * (b.at.used + n) ≤ length b.log.now
