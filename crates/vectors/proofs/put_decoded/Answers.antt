use Rattle.std.proofs.Common.{ap, ◌∙◌, arith}
use Rattle.std.specs.Slice.Iter.{chunks_exact_rest, chunks_exact_size}
use Rattle.vectors.proofs.Hex.{left-all, decoded-none, decoded-step, decoded-end}
use Rattle.vectors.proofs.put_decoded.Goals as goal

pub loop-pair-init : goal.loop-pair-init
loop-pair-init c =
    let same = c.into_iter-pair-iterator.ensures.into_iter_gives in
    let all = c.chunks_exact-pair-items.ensures in
    (ap chunks_exact_size same ∙ all.size, decoded-none (ap chunks_exact_rest same ∙ all.rest))

pub loop-pair-preserved : goal.loop-pair-preserved
loop-pair-preserved c =
    let s = c.in-Some.ensures.steps in
    let size = c.loop-pair.invariant.0 in
    (s.0 ∙ size, decoded-step _ _ c.loop-pair.invariant.1 s.1.0 (s.1.1 ∙ size) c.digit-high.ensures.0 c.digit-low.ensures.0 c.put.ensures)

pub returns : goal.returns
returns c = left-all c.loop-pair.invariant.1 (decoded-end _ (omega (arith, c.in-None.ensures.steps.1.0, c.loop-pair.invariant.0)))
