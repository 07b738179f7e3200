-- `planned::expr` and `exprs` meet their contracts: a part by what becomes of its token, parts one after another.
-- Assumes nothing.
use mathlib.Core.Path.{refl}
use native.Mathlib.Omega.{arith}
use Rattle.planned.proofs.Walk.{is-plan, walked-alone, walked, left-none, left-past, left-rest}
use Rattle.planned.proofs.+walk.Goals as goal

pub expr-returns-then-o-eq0 : goal.expr-returns-then-o-eq0
expr-returns-then-o-eq0 t c = λ W s. walked-alone c.args.written.now W _ _ _ _ (λ q l x. c.opening-o.ensures.opened_as W _ q l s refl refl refl (is-plan c.args.written.now W _ _ _ s c.word_at-word.ensures c.plan_of-p.ensures) x) (c.opening-o.ensures.from_bound.1 c.if-o-eq0.true) c.if-o-eq0.true

pub expr-returns : goal.expr-returns
expr-returns t c = λ W s. walked c.args.written.now W _ _ _ _ _ _ _ s (λ q l x. c.opening-o.ensures.opened_as W _ q l s refl refl refl (is-plan c.args.written.now W _ _ _ s c.word_at-word.ensures c.plan_of-p.ensures) x) (c.exprs-end.ensures W s) c.put_defaults.ensures

pub exprs-returns-then-end-from : goal.exprs-returns-then-end-from
exprs-returns-then-end-from t c = λ W s. record { same = λ q l w. let d = c.loop.invariant.1 W q l s w in let b = left-past c.args.written.now W q _ _ _ _ _ _ _ c.loop-test.true (c.expr-end.ensures W s) d in absurd (omega (arith, b, c.if-end-from.true)) }

pub exprs-loop-preserved : goal.exprs-loop-preserved
exprs-loop-preserved t c = (omega (arith, c.loop.invariant.0, c.if-end-from.false), λ W q l s w. left-rest c.args.written.now W q _ _ _ _ _ _ _ c.loop-test.true (c.expr-end.ensures W s) (c.loop.invariant.1 W q l s w))

pub exprs-returns : goal.exprs-returns
exprs-returns t c = λ W s. record { same = λ q l w. left-none c.args.written.now W q _ _ _ _ (omega (arith, c.loop-test.false)) (c.loop.invariant.1 W q l s w) }
