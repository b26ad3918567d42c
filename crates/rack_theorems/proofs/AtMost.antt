-- A judgement on runs: the run m adds k rows at most, whatever the replies are. Rules for the pieces of a run, and the chips. Assumes nothing.
use Rattle.std.specs.Prelude.{Option, Some, None, Result, Ok, Err}
use Prim.Native.Nat.{ℕ, ◌+◌, ◌≤◌}
use native.Mathlib.Omega.{arith}
use mathlib.Core.Bool.{Bool, true, false, cond}
use mathlib.Core.List.{List}
use lib.Dec.{lit≤}
use lib.Ieee.{Float}
use lib.ListN.{length, length-append}
use Rattle.bus.specs.declared.Eight.{Eight}
use Rattle.bus.specs.declared.Note.{Note}
use Rattle.bus.specs.declared.Transfer.{Transfer}
use Rattle.bus.specs.Run.{Ran, Run, done, bind, mapped, note, transfer, on_got, try}
use Rattle.conversions.specs.Codes.{dac7571_code}
use Rattle.mcp3221.specs.Voltage as Mcp3221
use Rattle.dac7571.specs.Voltage as Dac7571
use Rattle.ad5627.specs.declared.Dac.{Dac}
use Rattle.ad5627.specs.Opening as Ad5627Opening
use Rattle.ad5627.specs.Voltage as Ad5627
use Rattle.ads7924.specs.declared.Channel.{Channel}
use Rattle.ads7924.specs.Calls as Ads7924
use Rattle.bus.specs.declared.Failed.{Failed}

pub record Short {A : Type 0} (k : ℕ) (x : Ran A) : Type 0 where
  pub rows : length x.rows ≤ k

abbrev pub AtMost : {A : Type 0} → ℕ → Run A → Type 0
AtMost k m = (rs : List ℕ) (slot taken : ℕ) → Short k (m rs slot taken)

-- ---- the pieces

pub most_done : {A : Type 0} (k : ℕ) (a : A) → AtMost k (done a)
unfolding done
most_done k a rs slot taken = record { rows = omega arith }

pub most_less : {A : Type 0} (j k : ℕ) (m : Run A) → j ≤ k → AtMost j m → AtMost k m
most_less j k m h x rs slot taken = record { rows = omega (arith, h, (x rs slot taken).rows) }

pub most_bind : {A B : Type 0} (j k : ℕ) (m : Run A) (f : A → Run B) → AtMost j m → ((a : A) → AtMost k (f a)) → AtMost (j + k) (bind m f)
unfolding bind
most_bind j k m f x y rs slot taken =
    let a = m rs slot taken in
    record { rows = omega (arith, length-append a.rows (f a.ans rs slot a.taken).rows, (x rs slot taken).rows, (y a.ans rs slot a.taken).rows) }

pub most_mapped : {A B : Type 0} (k : ℕ) (f : A → B) (m : Run A) → AtMost k m → AtMost k (mapped f m)
unfolding mapped
most_mapped k f m x = most_less (k + 0) k _ (omega arith) (most_bind k 0 m (λ a. done (f a)) x (λ a. most_done 0 (f a)))

pub most_note : (n : Note) → AtMost 1 (note n)
unfolding note
most_note n rs slot taken = record { rows = lit≤ tt }

pub most_transfer : (t : Transfer) → AtMost 1 (transfer t)
unfolding transfer
most_transfer t rs slot taken = record { rows = lit≤ tt }

most_got : {A : Type 0} (k : ℕ) (a : A) (f : Eight → Run A) → ((d : Eight) → AtMost k (f d)) → (g : Result Eight Failed) → AtMost k (on_got a f g)
unfolding on_got
most_got k a f x (Ok d) = x d
most_got k a f x (Err e) = most_done k a

pub most_try : {A : Type 0} (k : ℕ) (t : Transfer) (a : A) (f : Eight → Run A) → ((d : Eight) → AtMost k (f d)) → AtMost (1 + k) (try t a f)
most_try k t a f x = most_bind 1 k (transfer t) (on_got a f) (most_transfer t) (most_got k a f x)

pub most_cond : {A : Type 0} (k : ℕ) (b : Bool) (m n : Run A) → AtMost k m → AtMost k n → AtMost k (cond b m n)
most_cond k true m n x y = x
most_cond k false m n x y = y

-- ---- the chips

pub most_mcp3221 : (supply : Float) → AtMost 1 (Mcp3221.get_voltage supply)
unfolding Mcp3221.get_voltage
most_mcp3221 supply = most_try 0 _ _ _ (λ d. most_done 0 _)

dac7571_code_lem : (x : Option ℕ) → AtMost 1 (Dac7571.send_code x)
dac7571_code_lem (Some code) = most_try 0 _ _ _ (λ d. most_done 0 _)
dac7571_code_lem None = most_done 1 _

pub most_dac7571 : (v : Float) → AtMost 1 (Dac7571.set_voltage v)
unfolding Dac7571.set_voltage
most_dac7571 v = dac7571_code_lem (dac7571_code v)

pub most_ad5627_opening : AtMost 2 Ad5627Opening.opening
unfolding Ad5627Opening.opening
most_ad5627_opening = most_try 1 _ _ _ (λ d. most_try 0 _ _ _ (λ e. most_done 0 _))

pub most_ad5627 : (dac : Dac) (x : Option ℕ) → AtMost 1 (Ad5627.send_code dac x)
most_ad5627 dac (Some code) = most_try 0 _ _ _ (λ d. most_done 0 _)
most_ad5627 dac None = most_done 1 _

pub most_ads7924_opening : AtMost 5 Ads7924.opening
unfolding Ads7924.opening
most_ads7924_opening = most_try 4 _ _ _ (λ d. most_bind 1 3 _ _ (most_note _) (λ u. most_try 2 _ _ _ (λ e. most_try 1 _ _ _ (λ f. most_try 0 _ _ _ (λ g. most_done 0 _)))))

most_sample : (command count : ℕ) → AtMost 4 (Ads7924.sample command count)
unfolding Ads7924.sample
most_sample command count = most_try 3 _ _ _ (λ d. most_try 2 _ _ _ (λ e. most_try 1 _ _ _ (λ f. most_try 0 _ _ _ (λ g. most_done 0 _))))

pub most_ads7924 : (channel : Channel) → AtMost 4 (Ads7924.get_voltage channel)
unfolding Ads7924.get_voltage
most_ads7924 channel = most_mapped 4 _ _ (most_sample _ _)

pub most_ads7924_all : AtMost 4 Ads7924.get_voltages
unfolding Ads7924.get_voltages
most_ads7924_all = most_mapped 4 _ _ (most_sample _ _)

pub most_ads7924_alarm : AtMost 1 Ads7924.clear_alarm
unfolding Ads7924.clear_alarm
most_ads7924_alarm = most_mapped 1 _ _ (most_transfer _)
