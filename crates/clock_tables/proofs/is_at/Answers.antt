use Prim.Native.Nat.{◌*◌}
use mathlib.Core.Path.{sym, ap, ◌∙◌}
use borrow.Author.Rules.{rules}
use Rattle.definitions.specs.Clock.{same_clock}
use Rattle.clock_tables.specs.Value.{value_of}
use Rattle.clock_tables.proofs.FlatLaws.{place-far}
use Rattle.clock_tables.proofs.is_at.Goals as goal

pub returns-then-ends_alike : goal.returns-then-ends_alike
returns-then-ends_alike c =
    c.eq.ensures ∙ ap (same_clock (value_of c.args.c)) (c.load.ensures ∙ place-far c.args.rows.now (17 * c.args.i) _ (search rules) c.saturating_mul-b.ensures)

pub returns-else-ends_alike : goal.returns-else-ends_alike
returns-else-ends_alike c =
    c.if-ends_alike.false ∙ sym (c.ends_alike.ensures c.if-ends_alike.false) ∙ ap (same_clock (value_of c.args.c)) (place-far c.args.rows.now (17 * c.args.i) _ (search rules) c.saturating_mul-b.ensures)
