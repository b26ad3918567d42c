-- `pen::byte_at` meets its contract: there is room, or nothing changes. Assumes nothing.
use borrow.Author.Rules.{rules}
use Rattle.std.specs.Prelude.{[], ◌∷◌}
use Rattle.pen.proofs.Laws.{byte_in, out_at}
use Rattle.pen.proofs.byte_at.Goals as goal

pub returns-then-out-at : goal.returns-then-out-at
returns-then-out-at c = out_at c.args.out.now c.args.at (c.args.b ∷ []) (search rules)

pub returns : goal.returns
returns c = byte_in c.args.out.now c.args.at c.args.b (search rules)
