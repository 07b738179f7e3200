use mathlib.Core.Path.{sym, ◌∙◌}
use Rattle.clock_tables.specs.Value.{value_of}
use Rattle.clock_tables.proofs.ClockLaws.{other-depth}
use Rattle.clock_tables.specs.Flat.{clock_in}
use Rattle.clock_tables.proofs.FlatLaws.{depth-in}
use Rattle.clock_tables.proofs.RowsLaws.{ends-other}
use Rattle.clock_tables.proofs.ends_alike.Goals as goal

pub returns-then-d-depth_at : goal.returns-then-d-depth_at
returns-then-d-depth_at c =
    let s = c.args in
    λ _. other-depth (value_of s.c) (clock_in s.t.now s.b) (λ e. c.if-d-depth_at.true (c.depth-d.ensures.value_2 ∙ (e ∙ (depth-in s.t.now s.b ∙ sym c.depth_at.ensures))))

pub returns-else-d-eq0 : goal.returns-else-d-eq0
returns-else-d-eq0 c =
    let s = c.args in
    λ h. ends-other s.t.now s.b c.depth-d.result (value_of s.c) _ c.condition_at.ensures (sym (c.if-d-depth_at.false ∙ c.depth_at.ensures)) c.if-d-eq0.false (sym c.ends_in.ensures ∙ h)
