use Prim.Native.Nat.{◌*◌}
use mathlib.Core.Path.{◌∙◌}
use borrow.Author.Rules.{rules}
use Rattle.clock_tables.proofs.FlatLaws.{place-far}
use Rattle.clock_tables.proofs.get.Goals as goal

pub returns : goal.returns
returns c = c.load.ensures ∙ place-far c.args.rows.now (17 * c.args.i) _ (search rules) c.saturating_mul.ensures
