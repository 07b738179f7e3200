-- Past the end of the table there is the base clock.
use Prim.Native.Nat.{◌*◌, ◌+◌}
use mathlib.Core.Path.{◌∙◌}
use native.Mathlib.Omega.{arith}
use borrow.Author.Rules.{rules}
use Rattle.clock_tables.proofs.FlatLaws.{place-far}
use Rattle.findings.proofs.clock_at.Goals as goal

pub returns : goal.returns
returns c = c.load.ensures ∙ place-far c.args.t.now (38 * c.args.i + c.args.j) _ (search rules) (omega (arith, c.saturating_add.ensures, c.saturating_mul.ensures))
