-- `query::write_equations` meets its contract: the clocks so far are written, and the others left. Assumes nothing.
use mathlib.Core.Path.{◌∙◌, ap}
use mathlib.Core.List.{[]}
use Rattle.lines.proofs.Walks.{clocks-begin, walked-none, walked-all}
use Rattle.query.proofs.Entries.{clocks-none, entered-more}
use Rattle.query.proofs.write_equations.Goals as goal

pub loop-i-init : goal.loop-i-init
loop-i-init c = λ all h. walked-none (ap (λ s. s.count) c.into_iter-i-iterator.ensures.into_iter_gives ∙ c.enumerate-i-items.ensures.count) h (clocks-none [] _)

pub loop-i-preserved : goal.loop-i-preserved
loop-i-preserved c = let steps = c.in-Some.ensures.steps in
    λ all h. entered-more all _ (c.loop-i.invariant all h) _ _ _ _ _ steps.0 steps.1 steps.2 c.put_row.ensures.words c.put_row.ensures.past

pub returns : goal.returns
returns c = λ M cs q g h. let e = c.enumerate-i-items.ensures in
    walked-all (c.loop-i.invariant _ (rw (c.into_iter-i-iterator.ensures.into_iter_gives, e.source, c.equation_clocks.ensures) (clocks-begin M cs q _ g h))) _ c.in-None.ensures.steps.0
