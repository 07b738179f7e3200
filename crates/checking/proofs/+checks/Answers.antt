-- The walk: an expression by its first token, parts one after another; what is on the same clock is met in the loop.
use mathlib.Core.Path.{refl, sym, ◌∙◌, ap}
use native.Mathlib.Omega.{arith}
use Rattle.clock_tables.specs.Value.{value_of, option_of, natural_of}
use Rattle.checking.proofs.Laws.{token-some, some-clock, or_value, stays-then}
use Rattle.checking.proofs.Walk.{walks-none, walks-token, walks-item, item-past, parts-past, parts-few, walks-past, walks-other, walks-sample, walks-join, walks-over, walks-down, sample-match, sample-other, merge-past, merge-both}
use Rattle.checking.proofs.+checks.Goals as goal

pub check_branch-returns-clause-traversed : goal.check_branch-returns-clause-traversed
check_branch-returns-clause-traversed t c = walks-down c.args.input.now _ _ (value_of c.args.on) c.args.k _ c.args.at _ (some-clock _ _ _ (λ d o q. q) c.map-down.ensures.cases ∙ c.push.ensures) c.check_over.ensures.traversed

pub check_expr-returns-in_default-clause-traversed : goal.check_expr-returns-in_default-clause-traversed
check_expr-returns-in_default-clause-traversed t c = λ e q g. absurd (walks-past c.args.input.now c.args.at _ (c.token_at.ensures.token, c.in_default.is) e q g)

pub check_expr-returns-then-tag-eq-MERGE-clause-traversed : goal.check_expr-returns-then-tag-eq-MERGE-clause-traversed
check_expr-returns-then-tag-eq-MERGE-clause-traversed t c = walks-join c.args.input.now _ _ (value_of c.args.on) c.args.at _ _ _ _ _ (c.token_at.ensures.token, c.in-Some.is) c.if-tag-eq-MERGE.true c.check_merge.ensures.traversed

pub check_expr-returns-then-is_sample-clause-traversed : goal.check_expr-returns-then-is_sample-clause-traversed
check_expr-returns-then-is_sample-clause-traversed t c = walks-sample c.args.input.now _ _ (value_of c.args.on) c.args.at _ _ _ _ _ (c.token_at.ensures.token, c.in-Some.is) _ (sym c.is_sample.ensures ∙ c.if-is_sample.true) c.if-tag-eq-MERGE.false c.sampled_by-k.ensures c.check_sample.ensures.traversed

pub check_expr-returns-clause-traversed : goal.check_expr-returns-clause-traversed
check_expr-returns-clause-traversed t c = walks-other c.args.input.now _ _ (value_of c.args.on) c.args.at _ (walks-token c.args.input.now _ _ _ (value_of c.args.on) 1 c.args.at _ _ _ _ _ (c.token_at.ensures.token, c.in-Some.is) c.enter.ensures.site_stored c.enter.ensures.held (omega arith) _ (omega (arith, c.follow-many.ensures)) c.check_exprs.ensures.traversed (sym c.is_sample.ensures ∙ c.if-is_sample.false))

pub check_exprs-returns-in_default-clause-traversed : goal.check_exprs-returns-in_default-clause-traversed
check_exprs-returns-in_default-clause-traversed t c = c.loop-left.invariant.2 _ _ (λ es fs q d. absurd (parts-past c.args.input.now (value_of c.args.on) c.loop-left.left c.loop-left.from c.loop-left-test.true _ (c.token_at.ensures.token, c.in_default.is) es fs q d))

pub check_exprs-returns-then-input-left-clause-traversed : goal.check_exprs-returns-then-input-left-clause-traversed
check_exprs-returns-then-input-left-clause-traversed t c = c.loop-left.invariant.2 _ _ (λ es fs q d. absurd (omega (arith, c.if-input-left.true, parts-few c.args.input.now (value_of c.args.on) c.loop-left.left c.loop-left.from es fs q d)))

pub check_exprs-returns-then-end-from-clause-traversed : goal.check_exprs-returns-then-end-from-clause-traversed
check_exprs-returns-then-end-from-clause-traversed t c = c.loop-left.invariant.2 _ _ (λ es fs q d. absurd (omega (arith, c.if-end-from.true, item-past c.args.input.now _ _ (value_of c.args.on) c.loop-left.from _ c.check_expr-end.ensures.traversed _ _ _ _ (c.token_at.ensures.token, c.in-Some.is) (sym c.is_sample.ensures ∙ c.if-is_sample.true) c.loop-left.left c.loop-left-test.true es fs q d)))

pub check_exprs-loop-left-preserved-then-is_sample : goal.check_exprs-loop-left-preserved-then-is_sample
check_exprs-loop-left-preserved-then-is_sample t c = (omega (arith, c.loop-left.invariant.0, c.if-end-from.false), stays-then _ _ _ c.loop-left.invariant.1 c.check_expr-end.ensures.stays, λ out r h. c.loop-left.invariant.2 out r (walks-item c.args.input.now _ _ out (value_of c.args.on) c.loop-left.from _ r c.check_expr-end.ensures.stays.sites_length c.check_expr-end.ensures.traversed _ _ _ _ (c.token_at.ensures.token, c.in-Some.is) (sym c.is_sample.ensures ∙ c.if-is_sample.true) c.loop-left.left c.loop-left-test.true h))

pub check_exprs-loop-left-preserved : goal.check_exprs-loop-left-preserved
check_exprs-loop-left-preserved t c = (omega (arith, c.loop-left.invariant.0, (token-some c.args.input.now.source _ _ _ _ _ (c.token_at.ensures.token, c.in-Some.is)).2), stays-then _ _ _ c.loop-left.invariant.1 c.enter.ensures.stays, λ out r h. c.loop-left.invariant.2 out r (walks-token c.args.input.now _ _ out (value_of c.args.on) c.loop-left.left c.loop-left.from r _ _ _ _ (c.token_at.ensures.token, c.in-Some.is) c.enter.ensures.site_stored c.enter.ensures.held c.loop-left-test.true _ (omega (arith, c.follow-more.ensures)) h (sym c.is_sample.ensures ∙ c.if-is_sample.false)))

pub check_exprs-returns-clause-traversed : goal.check_exprs-returns-clause-traversed
check_exprs-returns-clause-traversed t c = c.loop-left.invariant.2 _ _ (walks-none c.args.input.now _ (value_of c.args.on) c.loop-left.left c.loop-left.from (omega (arith, c.loop-left-test.false)))

pub check_merge-returns-then-next-at-clause-traversed : goal.check_merge-returns-then-next-at-clause-traversed
check_merge-returns-then-next-at-clause-traversed t c = λ a b m q low g h. absurd (omega (arith, c.if-next-at.true, merge-past c.args.input.now _ _ (value_of c.args.on) _ c.args.at _ c.check_branch-next.ensures.traversed a m g))

pub check_merge-returns-clause-traversed : goal.check_merge-returns-clause-traversed
check_merge-returns-clause-traversed t c = merge-both c.args.input.now _ _ _ _ (value_of c.args.on) c.args.x c.args.at _ _ _ _ c.check_branch-next.ensures.traversed refl c.check_branch-next.ensures.stays.sites_length refl refl c.samples_on.ensures.held c.check_branch.ensures.traversed

pub check_over-returns-in-Ok-clause-traversed : goal.check_over-returns-in-Ok-clause-traversed
check_over-returns-in-Ok-clause-traversed t c = walks-over c.args.input.now _ _ (value_of c.unwrap_or.result) _ (option_of c.in-Ok.own) c.args.at _ (ap natural_of c.in-Ok.is) (or_value _ _ _ c.base.ensures c.unwrap_or.ensures) c.check_expr.ensures.traversed

pub check_sample-returns-then-ends_in-clause-traversed : goal.check_sample-returns-then-ends_in-clause-traversed
check_sample-returns-then-ends_in-clause-traversed t c = sample-match c.args.input.now _ _ _ (value_of c.args.on) c.args.k c.args.at _ _ c.ends_in.ensures _ c.if-ends_in.true c.parent-above.ensures c.check_expr.ensures.traversed refl c.samples_on.ensures.held

pub check_sample-returns-clause-traversed : goal.check_sample-returns-clause-traversed
check_sample-returns-clause-traversed t c = sample-other c.args.input.now _ _ _ (value_of c.args.on) c.args.k c.args.at _ _ c.ends_in.ensures _ c.if-ends_in.false c.natural_clock-own.ensures c.check_over.ensures.traversed refl c.push.ensures
