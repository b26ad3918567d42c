-- Laws of the gate. An open gate is at the start of the call, with room for all that a call may add and take (`open_start`, `open_room`). What goes through it is the run (`enters_open`), what does not changes nothing (`enters_shut`).
-- And a promise of this form fixes the answer, the log and the used count (`enters_unique`). Assumes nothing.
use Rattle.std.specs.Prelude.{Ok, Err}
use mathlib.Core.Path.{◌≡◌, sym, ap, ◌∙◌}
use Prim.Native.Nat.{ℕ, ◌+◌, ◌*◌, ◌≤◌}
use native.Mathlib.Omega.{arith}
use mathlib.Core.Bool.{Bool, true, false, cond}
use mathlib.Core.List.{List}
use lib.ListN.{length}
use lib.Dec.{T, leb, leb→le}
use Rattle.bus.specs.declared.Bus.{Bus}
use Rattle.bus.specs.declared.Cursor.{Cursor}
use Rattle.bus.specs.Run.{Run, Room, Runs, HasRoom}
use Rattle.gate.specs.declared.Bar.{Bar}
use Rattle.gate.specs.declared.Bar.TheVariants.{Slot, Log, Replies}
use Rattle.gate.specs.Gate.{rows, transfers, start, room_of, gate_of}
use Rattle.gate.specs.Enter.{enter, Enters}

-- ---- what an open gate tells

record Opened (slot used log replies : ℕ) (c : Cursor) : Type 0 where
  at : c ≡ start slot used
  rows_free : 16 * (used + rows) ≤ log
  replies_there : 9 * transfers ≤ replies

clash : {X : Type 0} {b : Bar} {c : Cursor} → Err b ≡ Ok c → X
clash e = absurd (let z : ◌≡◌ {A = ℕ} 0 1 = cc in omega arith)

opened : (slot used log replies : ℕ) (c : Cursor) → room_of slot used log replies ≡ Ok c → Opened slot used log replies c
opened slot used log replies c = go (leb (16 * (used + rows)) log) (leb (9 * transfers) replies) (leb→le (16 * (used + rows)) log) (leb→le (9 * transfers) replies)
  where
    go : (a b : Bool) → (T a → 16 * (used + rows) ≤ log) → (T b → 9 * transfers ≤ replies) → cond a (cond b (Ok (start slot used)) (Err Replies)) (Err Log) ≡ Ok c → Opened slot used log replies c
    go true true f g e = record { at = cc; rows_free = f tt; replies_there = g tt }
    go true false f g e = clash e
    go false b f g e = clash e

-- the gate of a driver is the room of one of the eight slots
slot_and_room : (slot used log replies : ℕ) (c : Cursor) → gate_of slot used log replies ≡ Ok c → (slot ≤ 7) × (room_of slot used log replies ≡ Ok c)
slot_and_room slot used log replies c = go (leb slot 7) (leb→le slot 7)
  where
    go : (a : Bool) → (T a → slot ≤ 7) → cond a (room_of slot used log replies) (Err Slot) ≡ Ok c → (slot ≤ 7) × (room_of slot used log replies ≡ Ok c)
    go true f e = (f tt, e)
    go false f e = clash e

pub room_start : (slot used log replies : ℕ) (c : Cursor) → room_of slot used log replies ≡ Ok c → c ≡ start slot used
room_start slot used log replies c e = (opened slot used log replies c e).at

pub room_room : (slot used : ℕ) (l rs : List ℕ) (c : Cursor) → slot ≤ 7 → room_of slot used (length l) (length rs) ≡ Ok c → Room c rows transfers l rs
room_room slot used l rs c s e =
    let o = opened slot used (length l) (length rs) c e in
    rw o.at (record { slot = omega arith; rows = o.rows_free; replies = omega (arith, o.replies_there) })

pub open_start : (slot used log replies : ℕ) (c : Cursor) → gate_of slot used log replies ≡ Ok c → c ≡ start slot used
open_start slot used log replies c e = room_start slot used log replies c (slot_and_room slot used log replies c e).1

pub open_room : (slot used : ℕ) (l rs : List ℕ) (c : Cursor) → gate_of slot used (length l) (length rs) ≡ Ok c → Room c rows transfers l rs
open_room slot used l rs c e = let p = slot_and_room slot used (length l) (length rs) c e in room_room slot used l rs c p.0 p.1

-- ---- what goes through

module _ {A : Type 0} {refused : Bar → A} {m : Run A} {slot used : ℕ} {l rs : List ℕ} where
  pub enters_shut : {bar : Bar} → Err bar ≡ gate_of slot used (length l) (length rs) → Enters refused m slot used l rs l used (refused bar)
  unfolding enter
  enters_shut e = record { ans = rw (← e); log = rw (← e); count = rw (← e) }

  -- `back` is what comes back of the log that the bus was lent: what the bus leaves, as long as it is that log that the bus holds
  pub enters_open : {n t i : ℕ} {b b' : Bus} {a : A} (back : (x : List ℕ) × (length x ≡ length l × (i ≡ b'.log.ghost_name → x ≡ b'.log.now)))
      → Ok b.at ≡ gate_of slot used (length l) (length rs) → b.log.now ≡ l → b.replies.now ≡ rs → b'.log.ghost_name ≡ i → Runs m b n t b' a → Enters refused m slot used l rs back.0 b'.at.used a
  unfolding enter
  enters_open {b = b} back e f g h d =
      let ran = rw (f, g) at d.does in
      record { ans = rw (← e) ran.ans; log = back.1.1 (sym h) ∙ rw (← e) ran.log; count = rw (← e) (ap (λ (x : Cursor). x.used) ran.next) }

-- the room of a bus that the gate opens
pub open_bus : (slot used : ℕ) {b : Bus} → Ok b.at ≡ gate_of slot used (length b.log.now) (length b.replies.now) → HasRoom b rows transfers
open_bus slot used {b} e = record { room = open_room slot used b.log.now b.replies.now b.at (sym e) }

pub enters_unique : {A : Type 0} {refused : Bar → A} {m : Run A} {slot used u u' : ℕ} {l rs l' l'' : List ℕ} {a a' : A}
    → Enters refused m slot used l rs l' u a → Enters refused m slot used l rs l'' u' a' → (l' ≡ l'') × (u ≡ u') × (a ≡ a')
enters_unique d e = (d.log ∙ sym e.log, d.count ∙ sym e.count, d.ans ∙ sym e.ans)
