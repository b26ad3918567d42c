-- What a call that is let in leaves, by its answer (`acts_gives`), and that it shows numbers only beside a 0 (`shown_stays`). Assumes nothing.
use Rattle.std.specs.Prelude.{Result, Ok, Err}
use Prim.Native.Nat.{ℕ}
use mathlib.Core.Path.{◌≡◌, refl}
use mathlib.Core.List.{List, [], ◌++◌, append-nil}
use lib.Ieee.{Float}
use Rattle.bus.specs.Rows.{Row}
use Rattle.bus.specs.Run.{Run, done, bind}
use Rattle.rf_channel.specs.declared.ChannelSettings.{ChannelSettings}
use Rattle.rf_channel.specs.declared.Events.TheVariants as E
use Rattle.rf_channel.specs.declared.Plan.{Plan}
use Rattle.rf_channel.specs.declared.Plan.TheVariants as P
use Rattle.rf_channel.specs.declared.RfChannel.{RfChannel}
use Rattle.rf_channel.specs.declared.States.{States}
use Rattle.rf_channel.specs.declared.Action.{Action}
use Rattle.rf_plan.specs.Table.{table}
use Rattle.rf_plan.specs.Plan.{planned}
use Rattle.rf_machine.specs.declared.Told.TheVariants.{Moved, NoTransition as NotListed, GuardFalse as NotAllowed}
use Rattle.rf_machine.specs.Hardware.{hardware}
use Rattle.rf_machine.specs.Event.{arrived, carry, process_event}
use Rattle.rf_call.specs.declared.Answer.TheVariants.{Done, NoTransition, GuardFalse, Range, Chip}
use Rattle.rf_call.specs.declared.Givens.{Givens}
use Rattle.rf_call.specs.declared.Outcome.{Outcome}
use Rattle.rf_call.specs.declared.Outcome.TheVariants.{Live, Absent, Halted}
use Rattle.rf_call.specs.declared.Slot.{Slot}
use Rattle.rf_call.specs.declared.Slot.TheVariants as S
use Rattle.rf_call.specs.Outcome.{slot_of, reset_answer}
use Rattle.rf_call.specs.Calls.{halting, after_event, answering, quietly, interlock_reset, handle_startup, standing}
use Rattle.rf_update.specs.Update.{updating}
use Rattle.rf_changes.specs.Changes.{same, changes_of, stored, event_of}
use Rattle.rf_settings.specs.declared.Wrong.{Wrong}
use Rattle.rf_settings.specs.declared.Wrong.TheVariants as W
use Rattle.rf_settings.specs.Settings.{on_follow, applied_to, apply_settings, following, refusing, on_applied, handle_settings}
use Rattle.rf_status.specs.Numbers.{shown_of}
use Rattle.rf_status.specs.Status.{on_measures, getting_status}
use Rattle.rf_start.specs.Start.{starting}
use Rattle.rf_calls.specs.declared.Request.{Request}
use Rattle.rf_calls.specs.declared.Request.TheVariants.{Startup, Update, Reset, Standby, Settings, Status}
use Rattle.rf_calls.specs.Requests.{requested, shown_by}
use Rattle.rf_theorems.specs.Pins.{Levels, low}
use Rattle.rf_theorems.proofs.Keeps.{Keeps, keeps_more}
use Rattle.rf_theorems.proofs.Start.{Starts, keeps_starting}
use Rattle.entry.specs.declared.Admitted.{Admitted}
use Rattle.entry.specs.declared.Admitted.TheVariants as In
use Rattle.entry.specs.declared.Call.{Call}
use Rattle.entry.specs.declared.Call.TheVariants.{Ask}
use Rattle.slot_call.specs.Step.{acts, shown_to}
use Rattle.rack_theorems.specs.Demand1.{Transfers, LastFailed, EndsLow, SaysLow, IsStart}
use Rattle.rack_theorems.proofs.Found.{Finds, found}
use Rattle.rack_theorems.proofs.Seen.{any_event, keeps_ask}
use Rattle.rf_machine.proofs.Gives.{Gives, gives_any, gives_done, gives_cond, gives_bind, gives_mapped}
use Rattle.rack_theorems.proofs.Writes.{Chipped, Wrote, wrote_changes}
use Rattle.rack_theorems.proofs.Ends.{Ends, ends_after, ends_halting, ends_quietly, ends_follow, ends_updating, ends_status, ends_starting}
use Rattle.rf_machine.specs.declared.Cause.{Cause}
use Rattle.rf_machine.specs.declared.Told.{Told}
use Rattle.rf_status.specs.declared.Numbers.{Numbers}

-- ---- what a call on s leaves

-- the channel is the one that stood there, and there is no row
pub record Untouched (s : Slot) (rows : List Row) (c : RfChannel) : Type 0 where
  pub stays : s ≡ S.Channel c
  pub none : rows ≡ []

-- new settings were asked for and are stored, and the rows are transfers
pub record Kept (s : Slot) (call : Call) (rows : List Row) (c : RfChannel) : Type 0 where
  pub channel : RfChannel
  pub settings : ChannelSettings
  pub givens : Givens
  pub before : s ≡ S.Channel channel
  pub asked : call ≡ Ask (Settings settings) givens
  pub after : c ≡ stored channel settings
  pub moves : Transfers rows

-- by the answer, in slot n
unfoldable pub Acted : ℕ → Slot → Call → List Row → Outcome → Type 0
Acted n s call rows (Live c (Done report)) = Unit
Acted n s call rows (Live c NoTransition) = Untouched s rows c
Acted n s call rows (Live c GuardFalse) = Untouched s rows c
Acted n s call rows (Live c Range) = Kept s call rows c
Acted n s call rows (Live c Chip) = Kept s call rows c × LastFailed n rows
Acted n s call rows Absent = IsStart call
Acted n s call rows (Halted cause) = EndsLow n rows

module _ (n : ℕ) (s : Slot) (call : Call) where
  of_ends : (rows : List Row) (o : Outcome) → Ends (IsStart call) n rows o → Acted n s call rows o
  unfolding Ends Acted
  of_ends rows (Live c (Done report)) h = tt
  of_ends rows (Live c NoTransition) h = absurd h
  of_ends rows (Live c GuardFalse) h = absurd h
  of_ends rows (Live c Range) h = absurd h
  of_ends rows (Live c Chip) h = absurd h
  of_ends rows Absent h = h
  of_ends rows (Halted cause) h = h

  acted_ends : (m : Run Outcome) → Gives n m (Ends (IsStart call) n) → Gives n m (Acted n s call)
  acted_ends m h rs taken = record { holds = of_ends _ _ (h rs taken).holds }

  acted_after : (rows : List Row) (m : Run Outcome) → Gives n m (Ends (IsStart call) n) → Gives n m (λ more o. Acted n s call (rows ++ more) o)
  acted_after rows m h rs taken = record { holds = of_ends _ _ (ends_after (IsStart call) n rows _ _ (h rs taken).holds) }

-- ---- a reset: an event that the table does not list, or that a guard stops, leaves the channel and adds no row

unfoldable Says : RfChannel → List Row → Result (RfChannel × Told) Cause → Type 0
Says c rows (Ok (x, Moved)) = Unit
Says c rows (Ok (x, NotListed)) = Untouched (S.Channel c) rows x
Says c rows (Ok (x, NotAllowed)) = Untouched (S.Channel c) rows x
Says c rows (Err cause) = Unit

says_arrived : (c : RfChannel) (action : Action) (state : States) (rows : List Row) (x : Result (Unit {0}) Cause) → Unit {0} → Says c rows (arrived c action state x)
unfolding Says
says_arrived c action state rows (Ok tt) u = tt
says_arrived c action state rows (Err cause) u = tt

says_carry : (n : ℕ) (c : RfChannel) (plan : Plan) → Gives n (carry c plan) (Says c)
unfolding carry Says
says_carry n c P.NoTransition = gives_done _ (record { stays = refl; none = refl })
says_carry n c P.GuardFalse = gives_done _ (record { stays = refl; none = refl })
says_carry n c (P.Go action state) = gives_mapped _ _ (gives_any (hardware action c.settings)) (says_arrived c action state)

module _ (n : ℕ) (c : RfChannel) (call : Call) where
  on_said : (rows : List Row) (x : Result (RfChannel × Told) Cause) → Says c rows x → Gives n (after_event (λ c' told. done (Live c' (reset_answer told))) x) (λ more o. Acted n (S.Channel c) call (rows ++ more) o)
  unfolding after_event Says Acted
  on_said rows (Ok (x, Moved)) h = gives_done _ tt
  on_said rows (Ok (x, NotListed)) h = gives_done _ (rw (append-nil rows) h)
  on_said rows (Ok (x, NotAllowed)) h = gives_done _ (rw (append-nil rows) h)
  on_said rows (Err cause) h = acted_after n (S.Channel c) call rows (halting cause) (ends_halting _ n cause)

  acted_reset : (g : Givens) → Gives n (interlock_reset c g) (Acted n (S.Channel c) call)
  unfolding interlock_reset answering process_event
  acted_reset g = gives_bind _ _ (says_carry n c (planned table c E.InterlockReset g.tick g.watchdog)) on_said

-- ---- new settings

module _ (n : ℕ) (c : RfChannel) (s : ChannelSettings) (g : Givens) where
  unfoldable Took : List Row → Result RfChannel (RfChannel × Wrong) → Type 0
  Took rows (Ok x) = Unit
  Took rows (Err (x, wrong)) = (x ≡ stored c s) × Wrote n rows (Err wrong)

  took : (rows : List Row) (w : Result (Unit {0}) Wrong) → Wrote n rows w → Took rows (applied_to (stored c s) w)
  unfolding Took
  took rows (Ok tt) h = tt
  took rows (Err wrong) h = (refl, h)

  took_settings : Gives n (apply_settings c s) Took
  unfolding apply_settings Took
  took_settings = gives_cond (same c.settings s) _ _ (gives_done _ tt) (gives_mapped _ _ (wrote_changes n (changes_of c.settings s) s) took)

  kept : (rows : List Row) (x : RfChannel) (w : Result (Unit {0}) Wrong) → x ≡ stored c s → Wrote n rows w → Kept (S.Channel c) (Ask (Settings s) g) (rows ++ []) x
  kept rows x w e h = record { channel = c; settings = s; givens = g; before = refl; asked = refl; after = e; moves = rw (append-nil rows) h.moves }

  on_wrong : (rows : List Row) (x : RfChannel) (wrong : Wrong) → x ≡ stored c s → Wrote n rows (Err wrong) → Gives n (refusing x wrong) (λ more o. Acted n (S.Channel c) (Ask (Settings s) g) (rows ++ more) o)
  unfolding refusing Acted Chipped
  on_wrong rows x W.Range e h = gives_done _ (kept rows x _ e h)
  on_wrong rows x W.Chip e h = gives_done _ (kept rows x _ e h, rw (append-nil rows) h.chip)
  on_wrong rows x W.Bus e h = acted_after n _ _ rows (halting _) (ends_halting _ n _)

  on_took : (rows : List Row) (x : Result RfChannel (RfChannel × Wrong)) → Took rows x → Gives n (on_applied s.state g x) (λ more o. Acted n (S.Channel c) (Ask (Settings s) g) (rows ++ more) o)
  unfolding on_applied following Took
  on_took rows (Ok x) h = acted_after n _ _ rows (on_follow x g (event_of x.state s.state)) (ends_follow _ n x g _)
  on_took rows (Err (x, wrong)) h = on_wrong rows x wrong h.0 h.1

  acted_settings : Gives n (handle_settings c s g) (Acted n (S.Channel c) (Ask (Settings s) g))
  unfolding handle_settings
  acted_settings = gives_bind _ _ took_settings on_took

-- ---- any call that is let in

module _ (n : ℕ) where
  acted_requested : (c : RfChannel) (r : Request) (g : Givens) → Gives n (requested c r g) (Acted n (S.Channel c) (Ask r g))
  unfolding requested handle_startup standing
  acted_requested c Startup g = acted_ends n _ _ (quietly E.InterlockReset c g) (ends_quietly _ n E.InterlockReset c g)
  acted_requested c Update g = acted_ends n _ _ (updating c g) (ends_updating _ n c g)
  acted_requested c Reset g = acted_reset n c _ g
  acted_requested c Standby g = acted_ends n _ _ (quietly E.Disable c g) (ends_quietly _ n E.Disable c g)
  acted_requested c (Settings s) g = acted_settings n c s g
  acted_requested c (Status d) g = acted_ends n _ _ (getting_status c d g) (ends_status _ n c d g)

  pub acts_gives : (s : Slot) (call : Call) (b : Admitted) → Finds s call b → Gives n (acts b) (Acted n s call)
  unfolding acts IsStart
  acts_gives = found (λ s call b. Gives n (acts b) (Acted n s call))
      (λ s x settings present. acted_ends n s _ (starting settings present) (ends_starting _ n tt settings present))
      acted_requested

-- ---- no module found

unfoldable Lowered : Levels → Outcome → Type 0
Lowered q (Live c answer) = Unit
Lowered q Absent = q ≡ low
Lowered q (Halted cause) = Unit

started : (s : ChannelSettings) (q : Levels) (x : Outcome) → Starts s q x → Lowered q x
unfolding Starts Lowered
started s q (Live c answer) h = tt
started s q Absent h = h
started s q (Halted cause) h = tt

abbrev Found : Slot → Type 0
Found S.Empty = ⊥
Found (S.Halted cause) = Unit
Found (S.Channel c) = Unit

never_absent : (q : Levels) (x : Outcome) → Found (slot_of x) → Lowered q x
unfolding Lowered
never_absent q (Live c answer) h = tt
never_absent q Absent h = absurd h
never_absent q (Halted cause) h = tt

lowered : (p : Levels) (b : Admitted) → Keeps p (acts b) Lowered
unfolding acts
lowered p (In.Start settings present) = keeps_more (keeps_starting p settings present) (started settings)
lowered p (In.Ask c r g) = keeps_more (keeps_ask (λ q s. Found s) (λ q cause e. tt) g (any_event g) (λ q x s h. tt) p c r tt) never_absent

-- a 13 leaves both pins low
pub absent_low : (b : Admitted) (rs : List ℕ) (n taken : ℕ) → (acts b rs n taken).ans ≡ Absent → SaysLow (acts b rs n taken).rows
unfolding Lowered
absent_low b rs n taken e p = rw e at (lowered p b rs n taken).holds

-- ---- the caller's numbers

-- every answer but 0
abbrev pub NotDone : Outcome → Type 0
NotDone (Live c (Done report)) = ⊥
NotDone (Live c NoTransition) = Unit
NotDone (Live c GuardFalse) = Unit
NotDone (Live c Range) = Unit
NotDone (Live c Chip) = Unit
NotDone Absent = Unit
NotDone (Halted cause) = Unit

module _ (rs : List ℕ) (n taken : ℕ) (l : List Float) where
  not_shown : (c : RfChannel) (g : Givens) (m : Result Numbers Cause) (after : ℕ) → NotDone (on_measures c g m rs n after).ans → shown_of m l ≡ l
  unfolding on_measures shown_of done
  not_shown c g (Ok numbers) after h = absurd h
  not_shown c g (Err cause) after h = refl

  shown_request : (c : RfChannel) (r : Request) (g : Givens) → NotDone (requested c r g rs n taken).ans → shown_by c r g rs n taken l ≡ l
  unfolding requested shown_by getting_status bind
  shown_request c Startup g h = refl
  shown_request c Update g h = refl
  shown_request c Reset g h = refl
  shown_request c Standby g h = refl
  shown_request c (Settings s) g h = refl
  shown_request c (Status d) g h = not_shown c g _ _ h

  pub shown_stays : (b : Admitted) → NotDone (acts b rs n taken).ans → shown_to b rs n taken l ≡ l
  unfolding acts shown_to
  shown_stays (In.Start settings present) h = refl
  shown_stays (In.Ask c request givens) h = shown_request c request givens h
