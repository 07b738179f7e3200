-- `lines::ListedNode::put_equations` meets its contract: the lines so far, and the clocks left. Assumes nothing.
use mathlib.Core.Path.{refl, ◌∙◌, ap}
use Rattle.spelling.proofs.Writers.{wrote_none}
use Rattle.lines.proofs.Walks.{clocks-begin, walked-none, walked-all}
use Rattle.lines.proofs.Laws.{lines_step}
use Rattle.lines.proofs.ListedNode.put_equations.Goals as goal

pub loop-i-init : goal.loop-i-init
loop-i-init c = (record { names = refl; same = refl; out = refl }, λ all h. walked-none (ap (λ s. s.count) c.into_iter-i-iterator.ensures.into_iter_gives ∙ c.enumerate-i-items.ensures.count) h (wrote_none _))

pub loop-i-preserved : goal.loop-i-preserved
loop-i-preserved c =
    let put = c.put_equation_line.ensures in
    let kept = c.loop-i.invariant.0 in
    let steps = c.in-Some.ensures.steps in (
      record { names = put.names ∙ kept.names; same = put.same ∙ kept.same; out = put.wrote.same ∙ kept.out },
      λ all h. lines_step _ _ all (c.loop-i.invariant.1 all h) _ _ _ _ steps.0 steps.1 steps.2 (rw kept.names at put.wrote),
    )

pub returns-clause-spelled : goal.returns-clause-spelled
returns-clause-spelled c = λ M cs q g h.
    let kept = c.loop-i.invariant.0 in
    let e = c.enumerate-i-items.ensures in
    record {
      names = kept.names;
      same = kept.same;
      wrote = walked-all (c.loop-i.invariant.1 _ (rw (c.into_iter-i-iterator.ensures.into_iter_gives, e.source, c.equation_clocks.ensures) (clocks-begin M cs q _ g h))) _ c.in-None.ensures.steps.0;
    }
