-- `plan::on_base` meets its contract.
-- Assumes nothing.
use Prim.Native.Nat.{◌≤◌, ◌*◌}
use mathlib.Core.Path.{sym, ◌∙◌, ap}
use native.Mathlib.Omega.{arith}
use borrow.Author.Tests.{lt-ltb}
use lib.ListN.{length}
use Rattle.definitions.specs.Clock.{is_base}
use Rattle.clock_tables.proofs.FlatLaws.{clock-past}
use Rattle.plan.proofs.Sites.{base-depth}
use Rattle.plan.proofs.on_base.Goals as goal

pub returns-then-sites-at : goal.returns-then-sites-at
returns-then-sites-at c = let l : length c.args.sites.now ≤ 17 * c.args.at = omega (arith, c.if-sites-at.true) in lt-ltb _ _ c.if-sites-at.true ∙ sym (ap is_base (clock-past c.args.sites.now (17 * c.args.at) l))

pub returns-else-sites-at : goal.returns-else-sites-at
returns-else-sites-at c = base-depth c.args.sites.now (17 * c.args.at) _ c.depth_at.ensures
