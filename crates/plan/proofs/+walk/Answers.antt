-- `plan::expr`, `both` and `exprs` meet their contracts: an expression by its first token, two expressions, parts one after another.
-- Assumes nothing.
use native.Mathlib.Omega.{arith}
use Rattle.plan.proofs.Walk.{passes, sized, still-then, walks-sample, walks-join, walks-plain, follow-stops, call-stops, previous-stops, walks-follow, walks-call, walks-previous, both-stops, both-past, item-stops, item-past, walks-both, walks-item, walks-none, walks-sign, parts-past, parts-over}
use Rattle.plan.proofs.+walk.Goals.{expr-then-tag-eq-WHEN-via-then-tag-eq-WHEN, expr-then-tag-eq-WHEN-via-else-tag-eq-WHEN+then-tag-eq-WHEN_NOT}
use Rattle.plan.proofs.+walk.Goals.{exprs-then-source-from-via-then-source-from, exprs-then-source-from-via-else-source-from+then-source-left}
use Rattle.plan.proofs.+walk.Goals as goal

pub both-returns-in_err-next-clause-walks_both : goal.both-returns-in_err-next-clause-walks_both
both-returns-in_err-next-clause-walks_both t c = both-stops _ _ _ _ _ c.expr.ensures.walks _ _ c.in_err-next.was (passes _ _ _ c.from_residual.ensures c.in_err-next.was)

pub both-returns-then-next-at-clause-walks_both : goal.both-returns-then-next-at-clause-walks_both
both-returns-then-next-at-clause-walks_both t c = both-past _ _ _ _ _ c.expr.ensures.walks _ c.in_ok-next.was _ c.if-next-at.true

pub both-returns-clause-walks_both : goal.both-returns-clause-walks_both
both-returns-clause-walks_both t c = walks-both _ _ _ _ _ c.expr.ensures.walks _ c.in_ok-next.was _ _ (sized c.expr.ensures.still_lent) c.expr-2.ensures.walks

pub expr-returns-in_err-end-in-58-clause-walks : goal.expr-returns-in_err-end-in-58-clause-walks
expr-returns-in_err-end-in-58-clause-walks t c = previous-stops _ _ _ _ _ _ _ c.in_err-end-in-58.was (passes _ _ _ c.from_residual.ensures c.in_err-end-in-58.was) c.in-58.is c.expr-in-58.ensures.walks

pub expr-returns-in_err-end-in-59-clause-walks : goal.expr-returns-in_err-end-in-59-clause-walks
expr-returns-in_err-end-in-59-clause-walks t c = follow-stops _ _ _ _ _ _ _ c.in_err-end-in-59.was (passes _ _ _ c.from_residual-in_err-end-in-59.ensures c.in_err-end-in-59.was) c.in-59.is c.both.ensures.walks_both

pub expr-returns-in_err-end-in-60-clause-walks : goal.expr-returns-in_err-end-in-60-clause-walks
expr-returns-in_err-end-in-60-clause-walks t c = call-stops _ _ _ _ _ _ _ c.in_err-end-in-60.was (passes _ _ _ c.from_residual-in_err-end-in-60.ensures c.in_err-end-in-60.was) c.in-60.is c.exprs.ensures.walks_all

pub expr-returns-in_ok-end-in-58-clause-walks : goal.expr-returns-in_ok-end-in-58-clause-walks
expr-returns-in_ok-end-in-58-clause-walks t c = walks-previous _ _ _ _ _ _ _ c.in_ok-end-in-58.was (sized c.expr-in-58.ensures.still_lent) (sized c.close_previous.ensures.still_lent) _ c.in-58.is c.expr-in-58.ensures.walks c.close_previous.ensures.closes_previous.close

pub expr-returns-in_ok-end-in-59-clause-walks : goal.expr-returns-in_ok-end-in-59-clause-walks
expr-returns-in_ok-end-in-59-clause-walks t c = walks-follow _ _ _ _ _ _ _ c.in_ok-end-in-59.was (sized c.both.ensures.still_lent) (sized c.close_follow.ensures.still_lent) c.in-59.is c.both.ensures.walks_both c.close_follow.ensures.followed

pub expr-returns-in_ok-end-in-60-clause-walks : goal.expr-returns-in_ok-end-in-60-clause-walks
expr-returns-in_ok-end-in-60-clause-walks t c = walks-call _ _ _ _ _ _ _ c.in_ok-end-in-60.was (sized c.exprs.ensures.still_lent) (sized c.close_call.ensures.still_lent) _ c.in-60.is c.exprs.ensures.walks_all c.close_call.ensures.closes_call.close

pub expr-returns-in-69-clause-walks : goal.expr-returns-in-69-clause-walks
expr-returns-in-69-clause-walks t c = walks-join _ _ _ _ _ c.in-69.is c.both-in-69.ensures.walks_both

pub expr-returns-then-tag-eq-WHEN-clause-walks : goal.expr-returns-then-tag-eq-WHEN-clause-walks
expr-returns-then-tag-eq-WHEN-clause-walks t c =
    elim c.then-tag-eq-WHEN.branch [
      | expr-then-tag-eq-WHEN-via-then-tag-eq-WHEN w ↦ walks-sample _ _ _ _ _ (omega (arith, w.if-tag-eq-WHEN.true)) (omega (arith, w.if-tag-eq-WHEN.true)) c.expr.ensures.walks
      | expr-then-tag-eq-WHEN-via-else-tag-eq-WHEN+then-tag-eq-WHEN_NOT w ↦ walks-sample _ _ _ _ _ (omega (arith, w.if-tag-eq-WHEN_NOT.true)) (omega (arith, w.if-tag-eq-WHEN_NOT.true)) c.expr.ensures.walks
    ]

pub expr-returns-in_default-clause-walks : goal.expr-returns-in_default-clause-walks
expr-returns-in_default-clause-walks t c = let u = c.in_default.in_default-own.rest in
    walks-plain _ _ _ _ _ u.0.0.0.1 u.0.0.1 u.0.1 c.if-tag-eq-WHEN.false c.if-tag-eq-WHEN_NOT.false u.1 _ _ c.value_at-value.ensures c.follow-many.ensures c.exprs-in_default.ensures.walks_all

pub exprs-returns-then-source-from-clause-walks_all : goal.exprs-returns-then-source-from-clause-walks_all
exprs-returns-then-source-from-clause-walks_all t c =
    c.loop-left.invariant.2 _ _
    elim c.then-source-from.branch [
      | exprs-then-source-from-via-then-source-from w ↦ parts-past _ _ _ _ _ c.loop-left-test.true w.if-source-from.true
      | exprs-then-source-from-via-else-source-from+then-source-left w ↦ parts-over _ _ _ _ _ w.if-source-left.true
    ]

pub exprs-loop-left-preserved-then-tag-lt-BOOL : goal.exprs-loop-left-preserved-then-tag-lt-BOOL
exprs-loop-left-preserved-then-tag-lt-BOOL t c = (omega (arith, c.loop-left.invariant.0), c.loop-left.invariant.1, λ s'' r h. c.loop-left.invariant.2 s'' r (walks-sign _ _ s'' _ _ r c.if-tag-lt-BOOL.true c.loop-left-test.true _ (omega (arith, c.follow-more.ensures)) h))

pub exprs-returns-in_err-next-clause-walks_all : goal.exprs-returns-in_err-next-clause-walks_all
exprs-returns-in_err-next-clause-walks_all t c = c.loop-left.invariant.2 _ _ (item-stops _ _ _ _ _ c.expr.ensures.walks _ _ c.in_err-next.was (passes _ _ _ c.from_residual.ensures c.in_err-next.was) c.if-tag-lt-BOOL.false _ c.loop-left-test.true)

pub exprs-returns-then-next-from-clause-walks_all : goal.exprs-returns-then-next-from-clause-walks_all
exprs-returns-then-next-from-clause-walks_all t c = c.loop-left.invariant.2 _ _ (item-past _ _ _ _ _ c.expr.ensures.walks _ c.in_ok-next.was _ c.if-next-from.true c.if-tag-lt-BOOL.false _ c.loop-left-test.true)

pub exprs-loop-left-preserved : goal.exprs-loop-left-preserved
exprs-loop-left-preserved t c = (omega (arith, c.loop-left.invariant.0, c.if-next-from.false), still-then c.loop-left.invariant.1 c.expr.ensures.still_lent, λ s'' r h. c.loop-left.invariant.2 s'' r (walks-item _ _ _ _ _ c.expr.ensures.walks _ c.in_ok-next.was s'' r (sized c.expr.ensures.still_lent) c.if-tag-lt-BOOL.false _ c.loop-left-test.true h))

pub exprs-returns-clause-walks_all : goal.exprs-returns-clause-walks_all
exprs-returns-clause-walks_all t c = c.loop-left.invariant.2 _ _ (walks-none _ _ _ _ (omega (arith, c.loop-left-test.false)))
