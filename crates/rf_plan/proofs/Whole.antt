-- One computed test over the table's lines, and what it means for every channel and event. Laws of a line's meaning. Assumes nothing.
use Rattle.std.proofs.Common.{◌≡◌, ℕ, Bool, true, false, cond, ◌&&◌, T, eqb, List, [], ◌∷◌, sym, refl, ap, ◌∙◌, subst, arith, eqb→eq}
use mathlib.Core.Option.{Option, none, some, IsSome}
use Rattle.rf_channel.specs.declared.Action.{Action}
use Rattle.rf_channel.specs.declared.Events.{Events}
use Rattle.rf_channel.specs.declared.Events.TheVariants as E
use Rattle.rf_channel.specs.declared.Plan.{Plan}
use Rattle.rf_channel.specs.declared.Plan.TheVariants.{NoTransition, GuardFalse, Go}
use Rattle.rf_channel.specs.declared.RfChannel.{RfChannel}
use Rattle.rf_channel.specs.declared.States.{States}
use Rattle.rf_channel.specs.declared.States.TheVariants as S
use Rattle.rf_plan.specs.Table.{Shape, Name, Guard, Line, ◌+◌⟦◌⟧◌⇒◌, table}
use Rattle.rf_plan.specs.Table as T
use Rattle.rf_plan.specs.Plan.{shape_of, name_of, shape_number, name_number, given, deadline_of, trip_of, new_fault, holds, arrive, meant}
use Rattle.rf_plan.specs.Whole.{timed, guarded, reached, whole, TableWhole, Has, AllHave, NothingMissing, IfAny}

pub table_whole : TableWhole
unfolding table whole
table_whole = tt

-- ---- shapes and names by their numbers

pub both : (a b : Bool) → T (a && b) → T a × T b
both true b t = (tt, t)
both false b t = absurd t

shape_at : ℕ → Shape
shape_at n = cond (eqb n 0) T.Off (cond (eqb n 1) T.Powerup (cond (eqb n 2) T.Powered (cond (eqb n 3) T.Enabled (cond (eqb n 4) T.Tripped (cond (eqb n 5) T.Powerdown T.Blocked)))))

at_number : (s : Shape) → shape_at (shape_number s) ≡ s
unfolding shape_at
at_number T.Off = refl
at_number T.Powerup = refl
at_number T.Powered = refl
at_number T.Enabled = refl
at_number T.Tripped = refl
at_number T.Powerdown = refl
at_number T.Blocked = refl

pub same_shape : (a b : Shape) → T (eqb (shape_number a) (shape_number b)) → a ≡ b
same_shape a b t = sym (at_number a) ∙ ap shape_at (eqb→eq _ _ t) ∙ at_number b

-- ---- what is there

has_deadline : (s : States) → T (timed (shape_of s)) → IsSome (deadline_of s)
has_deadline (S.Blocked f) t = absurd t
has_deadline S.Off t = absurd t
has_deadline (S.Powerup d) t = tt
has_deadline S.Powered t = absurd t
has_deadline S.Enabled t = absurd t
has_deadline (S.Tripped i) t = absurd t
has_deadline (S.Powerdown d) t = tt

has_trip : (e : Events) → name_number (name_of e) ≡ name_number T.Trip → IsSome (trip_of e)
has_trip E.InterlockReset h = absurd (omega (arith, h))
has_trip E.Update h = absurd (omega (arith, h))
has_trip E.Disable h = absurd (omega (arith, h))
has_trip E.DisableRf h = absurd (omega (arith, h))
has_trip (E.Trip i) h = tt
has_trip (E.Fault f) h = absurd (omega (arith, h))

has_fault : (e : Events) → name_number (name_of e) ≡ name_number T.Fault → IsSome (new_fault e)
has_fault E.InterlockReset h = absurd (omega (arith, h))
has_fault E.Update h = absurd (omega (arith, h))
has_fault E.Disable h = absurd (omega (arith, h))
has_fault E.DisableRf h = absurd (omega (arith, h))
has_fault (E.Trip i) h = absurd (omega (arith, h))
has_fault (E.Fault f) h = tt

there : {A B : Type 0} (f : A → B) (o : Option A) → IsSome o → IsSome (given f o)
there f none h = absurd h
there f (some a) h = tt

-- ---- so every line of a table that passes the test has what it needs

module _ (c : RfChannel) (e : Events) where
  has_guard : (guard : Guard) (from : Shape) → T (guarded guard from) → from ≡ shape_of c.state → (tick : ℕ) (watchdog : Bool) → IsSome (holds guard c tick watchdog)
  has_guard T.always from t s tick watchdog = tt
  has_guard T.guard_powerup from t s tick watchdog = tt
  has_guard T.check_timeout from t s tick watchdog = there _ (deadline_of c.state) (has_deadline c.state (subst (λ x. T (timed x)) s t))
  has_guard T.guard_enable from t s tick watchdog = tt

  has_next : (to : Shape) (on : Name) → T (reached to on) → name_number on ≡ name_number (name_of e) → (tick : ℕ) → IsSome (arrive to c.state e tick)
  has_next T.Off on t s tick = tt
  has_next T.Powerup on t s tick = tt
  has_next T.Powered on t s tick = tt
  has_next T.Enabled on t s tick = tt
  has_next T.Tripped on t s tick = there _ (trip_of e) (has_trip e (sym s ∙ eqb→eq _ _ t))
  has_next T.Powerdown on t s tick = tt
  has_next T.Blocked on t s tick = there _ (new_fault e) (has_fault e (sym s ∙ eqb→eq _ _ t))

  has_line : (from to : Shape) (on : Name) (guard : Guard) (action : Action) → T (guarded guard from && reached to on) → Has (from + on ⟦ guard ⟧ action ⇒ to) c e
  has_line from to on guard action t h tick watchdog =
      let u = both (guarded guard from) _ t in
      let v = both (eqb (shape_number from) (shape_number (shape_of c.state))) _ h in
      (has_guard guard from u.0 (same_shape from _ v.0) tick watchdog, has_next to on u.1 (eqb→eq _ _ v.1) tick)

  all_have : (lines : List Line) → T (whole lines) → AllHave lines c e
  unfolding whole AllHave
  all_have [] t = tt
  all_have ((from + on ⟦ guard ⟧ action ⇒ to) ∷ lines) t =
      let u = both (guarded guard from && reached to on) _ t in
      (has_line from to on guard action u.0, all_have lines u.1)

pub nothing_missing : NothingMissing
nothing_missing c e = all_have c e table table_whole

-- ---- laws of a line's meaning

pub if_given : {A B : Type 0} (P : B → Type 0) (f : A → B) (o : Option A) → ((a : A) → P (f a)) → IfAny P (given f o)
if_given P f none h = tt
if_given P f (some a) h = h a

pub if_more : {A : Type 0} (P Q : A → Type 0) (o : Option A) → ((a : A) → P a → Q a) → IfAny P o → IfAny Q o
if_more P Q none f h = tt
if_more P Q (some a) f h = f a h

-- what holds of every plan that a line may make
pub if_meant : (P : Plan → Type 0) → P NoTransition → P GuardFalse → (action : Action) (b : Option Bool) (next : Option States) → IfAny (λ s. P (Go action s)) next → P (meant action b next)
if_meant P n g action none next h = n
if_meant P n g action (some b) none h = n
if_meant P n g action (some true) (some next) h = h
if_meant P n g action (some false) (some next) h = g
