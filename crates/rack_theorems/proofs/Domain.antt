-- On the domain the clock does not wrap: a deadline is never more than 500 ms away from the last tick, and then every line of the table says the same with a plain clock. Assumes nothing.
use Prim.Native.Nat.{ℕ, ◌+◌ as plus, ◌^◌, ◌≤◌, ◌<◌}
use native.Mathlib.Omega.{arith}
use mathlib.Core.Path.{◌≡◌, refl, subst}
use mathlib.Core.Bool.{Bool, true, false, cond, ◌&&◌}
use mathlib.Core.Option.{Option, none, some}
use mathlib.Core.List.{List, [], ◌∷◌}
use lib.Dec.{leb, ltb}
use borrow.Author.Tests.{leb-true, ltb-true, ltb-false, le-leb}
use Rattle.rf_channel.specs.declared.Events.{Events}
use Rattle.rf_channel.specs.declared.Plan.{Plan}
use Rattle.rf_channel.specs.declared.Plan.TheVariants.{NoTransition, GuardFalse, Go}
use Rattle.rf_channel.specs.declared.RfChannel.{RfChannel}
use Rattle.rf_channel.specs.declared.States.{States}
use Rattle.rf_channel.specs.Guards.{later, past, late_of}
use Rattle.rf_plan.specs.Table.{Shape, Guard, Line, ◌+◌⟦◌⟧◌⇒◌, table}
use Rattle.rf_plan.specs.Table as T
use Rattle.rf_plan.specs.Plan.{given, deadline_of, trip_of, new_fault, holds, arrive, meant, for, planned}
use Rattle.rf_plan.specs.Whole.{IfAny}
use Rattle.rf_plan.proofs.Whole.{if_given, if_more, if_meant}
use Rattle.rf_machine.specs.Event.{process_event}
use Rattle.rf_call.specs.declared.Slot.{Slot}
use Rattle.rf_call.specs.declared.Slot.TheVariants as S
use Rattle.rf_call.specs.Outcome.{slot_of}
use Rattle.rf_theorems.specs.Pins.{Levels, low}
use Rattle.rf_theorems.proofs.Keeps.{Keeps}
use Rattle.rf_theorems.proofs.Rule.{Walked, Leads, keeps_carry}
use Rattle.entry.specs.declared.Admitted.{Admitted}
use Rattle.entry.specs.declared.Call.{Call}
use Rattle.entry.specs.declared.Call.TheVariants.{Start, Ask}
use Rattle.entry.specs.declared.Refusal.{Refusal}
use Rattle.slots.specs.declared.Verdict.{Verdict}
use Rattle.slots.specs.declared.Verdict.TheVariants.{Refused, Answered, Absent, Halted}
use Rattle.slots.specs.Slots.{empty_rack, slot_at}
use Rattle.slot_call.specs.Step.{acts}
use Rattle.rack_theorems.specs.History.{Asked, on, Past, next, goes_on, history, Eight}
use Rattle.rack_theorems.specs.Demand1.{Unchanged, LeftBy}
use Rattle.rack_theorems.specs.Domain.{tick_by, tick_after, Steady, TickFits, InDomain, last_tick, Ordered, Wide, passes, leads, spoken, Near, Sane, SpeaksPlainly, PlainClock, LeadsNear, PlainEvents}
use Rattle.rack_theorems.proofs.Found.{Finds, found}
use Rattle.rack_theorems.proofs.Seen.{keeps_start, keeps_ask, eight_kept, seen, first_empty}
use Rattle.rack_theorems.proofs.Demand1.{right}

-- ---- a near deadline: the table with a plain clock

late_plain : (tick deadline : ℕ) → deadline ≤ plus tick 500 → tick < 2 ^ 31 → late_of tick deadline ≡ ltb deadline tick
late_plain tick deadline near below = go (ltb deadline tick) (ltb-true deadline tick) (ltb-false deadline tick)
  where
    both : (a b : Bool) → (a ≡ true → 1 ≤ past tick deadline) → (b ≡ true → past tick deadline ≤ 2147483647) → tick ≤ deadline → (a && b) ≡ false
    both true true p q h = absurd (let a = p refl in let b = q refl in omega (arith, a, b))
    both true false p q h = refl
    both false b p q h = refl

    go : (b : Bool) → (b ≡ true → deadline < tick) → (b ≡ false → tick ≤ deadline) → late_of tick deadline ≡ b
    go true p q = let h = p refl in rw (le-leb 1 (past tick deadline) (omega (arith, h)), le-leb (past tick deadline) 2147483647 (omega (arith, h)))
    go false p q = both (leb 1 (past tick deadline)) (leb (past tick deadline) 2147483647) (leb-true 1 (past tick deadline)) (leb-true (past tick deadline) 2147483647) (q refl)

-- the same where there is a deadline, and where there is none
timeout_plain : (tick : ℕ) (d : Option ℕ) → IfAny (λ (x : ℕ). x ≤ plus tick 500) d → tick < 2 ^ 31 → given (λ (x : ℕ). late_of tick x) d ≡ given (λ (x : ℕ). ltb x tick) d
timeout_plain tick none near below = refl
timeout_plain tick (some x) near below = rw (late_plain tick x near below)

later_plain : (tick wait : ℕ) → tick < 2 ^ 31 → wait ≤ 500 → later tick wait ≡ plus tick wait
later_plain tick wait below short = omega arith

module _ (c : RfChannel) (e : Events) (tick : ℕ) (watchdog : Bool) (near : Near tick c.state) (below : tick < 2 ^ 31) where
  guard_plain : (guard : Guard) → holds guard c tick watchdog ≡ passes guard c tick watchdog
  guard_plain T.always = refl
  guard_plain T.guard_powerup = refl
  guard_plain T.check_timeout = timeout_plain tick (deadline_of c.state) near below
  guard_plain T.guard_enable = refl

  state_plain : (to : Shape) → arrive to c.state e tick ≡ leads to c.state e tick
  state_plain T.Off = refl
  state_plain T.Powerup = rw (later_plain tick 200 below (omega arith))
  state_plain T.Powered = refl
  state_plain T.Enabled = refl
  state_plain T.Tripped = refl
  state_plain T.Powerdown = rw (later_plain tick 500 below (omega arith))
  state_plain T.Blocked = refl

  pub lines_plain : (lines : List Line) → planned lines c e tick watchdog ≡ spoken lines c e tick watchdog
  unfolding planned spoken
  lines_plain [] = refl
  lines_plain ((from + on ⟦ guard ⟧ action ⇒ to) ∷ lines) = rw (guard_plain guard, state_plain to, lines_plain lines)

-- what was near is near at every later tick
near_later : (last tick : ℕ) (s : States) → last ≤ tick → Near last s → Near tick s
near_later last tick s l h = if_more _ _ (deadline_of s) (λ (d : ℕ) (g : d ≤ plus last 500). omega (arith, l, g)) h

speaks : (last : ℕ) (s : Slot) → Sane last s → SpeaksPlainly last s
unfolding Sane SpeaksPlainly
speaks last S.Empty h = tt
speaks last (S.Halted cause) h = tt
speaks last (S.Channel c) h = λ e tick watchdog later below. lines_plain c e tick watchdog (near_later last tick c.state later h) below table

-- ---- every call leaves a near deadline

near_arrival : (to : Shape) (s : States) (e : Events) (tick : ℕ) → IfAny (λ x. Near tick x) (arrive to s e tick)
near_arrival T.Off s e tick = tt
near_arrival T.Powerup s e tick = omega arith
near_arrival T.Powered s e tick = tt
near_arrival T.Enabled s e tick = tt
near_arrival T.Tripped s e tick = if_given _ _ (trip_of e) (λ i. tt)
near_arrival T.Powerdown s e tick = omega arith
near_arrival T.Blocked s e tick = if_given _ _ (new_fault e) (λ f. tt)

module _ (tick : ℕ) where
  abbrev AtTick : Levels → RfChannel → Type 0
  AtTick q c = Near tick c.state

  choose : (p : Levels) (c : RfChannel) (b : Bool) (x y : Plan) → Leads AtTick p c x → Leads AtTick p c y → Leads AtTick p c (cond b x y)
  choose p c true x y f g = f
  choose p c false x y f g = g

  -- every line leads to a near deadline, so that the events of a call that come after its first find one as well
  pub near_plan : (p : Levels) (c : RfChannel) (e : Events) (watchdog : Bool) (lines : List Line) → Leads AtTick p c (planned lines c e tick watchdog)
  unfolding planned Leads
  near_plan p c e watchdog [] = tt
  near_plan p c e watchdog ((from + on ⟦ guard ⟧ action ⇒ to) ∷ lines) =
      choose p c (for from on c.state e) (meant action (holds guard c tick watchdog) (arrive to c.state e tick)) (planned lines c e tick watchdog)
      (if_meant (Leads AtTick p c) tt tt action (holds guard c tick watchdog) (arrive to c.state e tick) (near_arrival to c.state e tick))
      (near_plan p c e watchdog lines)

  pub near_event : (watchdog : Bool) (p : Levels) (c : RfChannel) (e : Events) → AtTick p c → Keeps p (process_event c e tick watchdog) (Walked AtTick)
  unfolding process_event
  near_event watchdog p c e h = keeps_carry AtTick p c (planned table c e tick watchdog) (near_plan p c e watchdog table) h

near_leads : (p : Levels) (c : RfChannel) (tick : ℕ) (plan : Plan) → Leads (AtTick tick) p c plan → LeadsNear tick plan
unfolding Leads LeadsNear
near_leads p c tick NoTransition l = tt
near_leads p c tick GuardFalse l = tt
near_leads p c tick (Go action state) l = l

pub plain_events : PlainEvents
plain_events c e tick watchdog near below = (lines_plain c e tick watchdog near below table, near_leads low c tick (planned table c e tick watchdog) (near_plan tick low c e watchdog table))

sane_acts : (last : ℕ) (p : Levels) (s : Slot) (call : Call) (b : Admitted) → Finds s call b → Sane (tick_by call last) s → Keeps p (acts b) (λ q x. Sane (tick_by call last) (slot_of x))
unfolding Sane
sane_acts last p = found (λ s call b. Sane (tick_by call last) s → Keeps p (acts b) (λ q x. Sane (tick_by call last) (slot_of x)))
    (λ s x settings present h. keeps_start (λ q t. Sane last t) (λ q cause e. tt) settings (λ q. tt) tt p present)
    (λ c r g h. keeps_ask (λ q t. Sane g.tick t) (λ q cause e. tt) g (near_event g.tick g.watchdog) (λ q c t i. i) p c r h)

-- ---- one call after the other

sane_later : (last tick : ℕ) (s : Slot) → last ≤ tick → Sane last s → Sane tick s
unfolding Sane
sane_later last tick S.Empty l h = tt
sane_later last tick (S.Halted cause) l h = tt
sane_later last tick (S.Channel c) l h = near_later last tick c.state l h

module _ (n : ℕ) (inside : n < 8) (past : Past) (last : ℕ) (a : Asked) (eight : Eight past.rack) (h : Sane last (slot_at past.rack n)) where
  -- a call that is not left out
  sane_heard : Steady a.call last → Sane (tick_by a.call last) (slot_at (next past a).rack n)
  sane_heard d =
      let tick = tick_by a.call last in
      let now = sane_later last tick (slot_at past.rack n) d.0 h in
      seen past.rack eight n inside (λ q s. Sane tick s) low a now (λ b o. sane_acts last low (slot_at past.rack n) a.call b o now)

  -- a call that is refused leaves the rack as it was
  refused : (refusal : Refusal) → (on past.rack a).verdict ≡ Refused refusal → (on past.rack a).rack ≡ past.rack
  unfolding LeftBy
  refused refusal e = let u : Unchanged past.rack a (on past.rack a) = subst (LeftBy past.rack a (on past.rack a)) e (right past.rack a eight).answer in u.rack_stays

  sane_call : (v : Verdict) → (on past.rack a).verdict ≡ v → TickFits v a.call last → Sane (tick_after v a.call last) (slot_at (next past a).rack n)
  unfolding TickFits
  sane_call (Refused refusal) e d = rw (refused refusal e) h
  sane_call (Answered answer) e d = sane_heard d
  sane_call Absent e d = sane_heard d
  sane_call (Halted cause) e d = sane_heard d

module _ (n : ℕ) (inside : n < 8) where
  sane_on : (past : Past) (last : ℕ) (calls : List Asked) → Eight past.rack → InDomain past last calls → Sane last (slot_at past.rack n) → Sane (last_tick past last calls) (slot_at (goes_on past calls).rack n)
  unfolding goes_on last_tick InDomain
  sane_on past last [] eight d h = h
  sane_on past last (a ∷ more) eight d h =
      let v = (on past.rack a).verdict in
      sane_on (next past a) (tick_after v a.call last) more (eight_kept past.rack a eight) d.1 (sane_call n inside past last a eight h v refl d.0)

pub plain_clock : PlainClock
unfolding history goes_on Sane
plain_clock calls d n inside = speaks (last_tick (history []) 0 calls) (slot_at (history calls).rack n) (sane_on n inside (record { rack = empty_rack; rows = [] }) 0 calls refl d (rw (first_empty n inside) tt))

-- ---- the domain is wide

-- a steady call fits, whatever it is answered, and the tick is then the old one or its own
heard : (call : Call) (last bound : ℕ) → last ≤ bound → Steady call bound → Steady call last × (tick_by call last ≤ tick_by call bound)
heard (Start settings present) last bound l s = ((omega arith, omega (arith, l, s.1)), l)
heard (Ask request givens) last bound l s = ((omega (arith, l, s.0), s.1), omega arith)

fits : (v : Verdict) (call : Call) (last bound : ℕ) → last ≤ bound → Steady call bound → TickFits v call last × (tick_after v call last ≤ tick_by call bound)
unfolding TickFits
fits (Refused refusal) call last bound l s = (tt, omega (arith, l, s.0))
fits (Answered answer) call last bound l s = heard call last bound l s
fits Absent call last bound l s = heard call last bound l s
fits (Halted cause) call last bound l s = heard call last bound l s

wide_from : (past : Past) (last bound : ℕ) (calls : List Asked) → last ≤ bound → Ordered bound calls → InDomain past last calls
unfolding InDomain Ordered
wide_from past last bound [] l o = tt
wide_from past last bound (a ∷ more) l o =
    let v = (on past.rack a).verdict in
    let f = fits v a.call last bound l o.0 in
    (f.0, wide_from (next past a) (tick_after v a.call last) (tick_by a.call bound) more f.1 o.1)

pub wide : Wide
wide calls o = wide_from (history []) 0 0 calls (omega arith) o
