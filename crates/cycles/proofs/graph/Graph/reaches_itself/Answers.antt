-- `cycles::graph::Graph::reaches_itself` meets its contract: the set holds the names reached so far.
-- Assumes nothing.
use mathlib.Core.Path.{◌≡◌, sym, ◌∙◌, ap}
use Prim.Native.Nat.{ℕ, ◌-◌}
use native.Mathlib.Omega.{arith}
use lib.ListN.{length}
use Rattle.definitions.specs.Lists.{among}
use Rattle.definitions.specs.Types.{goes_on, one_step, reached}
use Rattle.layout.specs.Table.{name_at}
use Rattle.cycles.proofs.Laws.{holds-step, reached-step, reached-end}
use Rattle.cycles.proofs.graph.Graph.reaches_itself.Goals as goal

pub loop-init : goal.loop-init
loop-init c = λ types e. let f : length types ≡ length types - 0 = omega arith in
    (goes_on types (name_at types c.args.i), (e.rows c.args.i (omega (arith, e.count, c.requires))).holds, ap (λ (x : ℕ). reached types x (goes_on types (name_at types c.args.i))) f)

pub loop-preserved : goal.loop-preserved
loop-preserved c = λ types e. let a = c.loop.invariant types e in
    (one_step types a.0, holds-step types _ e c.loop.set a.0 a.1 c.step-set.result c.step-set.ensures, reached-step types _ a.0 _ _ a.2 (omega (arith, e.count, c.loop-test.true)))

pub returns : goal.returns
returns c = λ types e. let a = c.loop.invariant types e in
    a.1.says c.args.i (omega (arith, e.count, c.requires)) ∙ ap (among (name_at types c.args.i)) (sym (reached-end types _ a.0 _ _ a.2 (omega (arith, e.count, c.loop-test.false))))
