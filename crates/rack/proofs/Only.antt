-- The promise of each call, as the prover reads it, has one rack, one answer, one used count and one log; that of `status` one number slice beside them. Assumes nothing.
use mathlib.Core.Path.{◌≡◌, sym, ◌∙◌}
use contract.Lifetimes.{Lfts}
use denote.Triple.Clauses.{AtExit}
use borrow.Fn.World.{ArgsD, ResD}
use borrow.Fn.Kinds.{ended_of}
use Rattle.rack_call.proofs.Laws.{leaves_unique}
use Rattle.rack.specs.contracts.start as start
use Rattle.rack.proofs.start.Kinds as start-kinds
use Rattle.rack.proofs.start.Reads as start-reads
use Rattle.rack.specs.contracts.startup as startup
use Rattle.rack.proofs.startup.Kinds as startup-kinds
use Rattle.rack.proofs.startup.Reads as startup-reads
use Rattle.rack.specs.contracts.update as update
use Rattle.rack.proofs.update.Kinds as update-kinds
use Rattle.rack.proofs.update.Reads as update-reads
use Rattle.rack.specs.contracts.reset as reset
use Rattle.rack.proofs.reset.Kinds as reset-kinds
use Rattle.rack.proofs.reset.Reads as reset-reads
use Rattle.rack.specs.contracts.standby as standby
use Rattle.rack.proofs.standby.Kinds as standby-kinds
use Rattle.rack.proofs.standby.Reads as standby-reads
use Rattle.rack.specs.contracts.settings as settings
use Rattle.rack.proofs.settings.Kinds as settings-kinds
use Rattle.rack.proofs.settings.Reads as settings-reads
use Rattle.rack.specs.contracts.status as status
use Rattle.rack.proofs.status.Kinds as status-kinds
use Rattle.rack.proofs.status.Reads as status-reads

module _ (κs : Lfts 2) (a : ArgsD start.signature κs) (r r' : ResD start.signature κs) (s s' : AtExit (ended_of 2 start-kinds.ps start-kinds.r) κs) where
  pub only_start : start-reads.Post κs a r s → start-reads.Post κs a r' s' → (s.1.1.1.1.0.now ≡ s'.1.1.1.1.0.now) × (r ≡ r')
  only_start p q = leaves_unique p q

module _ (κs : Lfts 2) (a : ArgsD startup.signature κs) (r r' : ResD startup.signature κs) (s s' : AtExit (ended_of 2 startup-kinds.ps startup-kinds.r) κs) where
  pub only_startup : startup-reads.Post κs a r s → startup-reads.Post κs a r' s' → (s.1.1.1.0.now ≡ s'.1.1.1.0.now) × (r ≡ r')
  only_startup p q = leaves_unique p q

module _ (κs : Lfts 2) (a : ArgsD update.signature κs) (r r' : ResD update.signature κs) (s s' : AtExit (ended_of 2 update-kinds.ps update-kinds.r) κs) where
  pub only_update : update-reads.Post κs a r s → update-reads.Post κs a r' s' → (s.1.1.1.0.now ≡ s'.1.1.1.0.now) × (r ≡ r')
  only_update p q = leaves_unique p q

module _ (κs : Lfts 2) (a : ArgsD reset.signature κs) (r r' : ResD reset.signature κs) (s s' : AtExit (ended_of 2 reset-kinds.ps reset-kinds.r) κs) where
  pub only_reset : reset-reads.Post κs a r s → reset-reads.Post κs a r' s' → (s.1.1.1.0.now ≡ s'.1.1.1.0.now) × (r ≡ r')
  only_reset p q = leaves_unique p q

module _ (κs : Lfts 2) (a : ArgsD standby.signature κs) (r r' : ResD standby.signature κs) (s s' : AtExit (ended_of 2 standby-kinds.ps standby-kinds.r) κs) where
  pub only_standby : standby-reads.Post κs a r s → standby-reads.Post κs a r' s' → (s.1.1.1.0.now ≡ s'.1.1.1.0.now) × (r ≡ r')
  only_standby p q = leaves_unique p q

module _ (κs : Lfts 2) (a : ArgsD settings.signature κs) (r r' : ResD settings.signature κs) (s s' : AtExit (ended_of 2 settings-kinds.ps settings-kinds.r) κs) where
  pub only_settings : settings-reads.Post κs a r s → settings-reads.Post κs a r' s' → (s.1.1.1.1.0.now ≡ s'.1.1.1.1.0.now) × (r ≡ r')
  only_settings p q = leaves_unique p q

module _ (κs : Lfts 3) (a : ArgsD status.signature κs) (r r' : ResD status.signature κs) (s s' : AtExit (ended_of 3 status-kinds.ps status-kinds.r) κs) where
  pub only_status : status-reads.Post κs a r s → status-reads.Post κs a r' s' → (s.1.1.1.1.0.now ≡ s'.1.1.1.1.0.now) × (s.1.1.1.1.1.1.1.0.now ≡ s'.1.1.1.1.1.1.1.0.now) × (r ≡ r')
  only_status p q = let e = leaves_unique p.0 q.0 in (e.0, p.1 ∙ sym q.1, e.1)
