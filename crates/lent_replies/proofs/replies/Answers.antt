-- `lent_replies::replies` meets its contract: each byte is what the closure gives at its place, and nine of them are a reply. Assumes nothing.
use Rattle.std.proofs.Common.{rules}
use mathlib.Core.Path.{◌∙◌}
use Rattle.lent_replies.specs.Lent.{byte_of}
use Rattle.lent_replies.proofs.Made.{made}
use Rattle.lent_replies.proofs.Nines.{nines}
use Rattle.lent_replies.proofs.replies.Goals as goal

pub returns : goal.returns
returns c = made _ (byte_of c.args.first c.args.fault) _ (λ i y f h. (search rules, search rules)) _ _ c.from_fn.ensures.items ∙ nines c.args.first c.args.fault 0 111
