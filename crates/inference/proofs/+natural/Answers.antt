-- `inference::found_at` and its walk over operands meet their contracts. The measure is the tokens left.
-- Assumes nothing.
use native.Mathlib.Omega.{arith}
use Rattle.std.proofs.lemmas.Result.{err_from_is_err_and}
use lib.ListN.{length}
use Rattle.operands.proofs.Laws.{left_there}
use Rattle.operands.proofs.Apart.{spread_end}
use Rattle.operands.proofs.Roles.{arm}
use Rattle.inference.proofs.Low.{arm_low}
use Rattle.inference.proofs.NaturalLaws.{remains-none, remains-on, remains-deep, remains-past, remains-rest, Passed, passed-leaf, passed-walk, name-on, name-free, var-ends, sample-deep, sample-arm, join-on, join-branches, rest-arm}
use Prim.Native.Nat.{ℕ, ◌<◌}
use Rattle.inference.proofs.+natural.Goals as goal
use Rattle.inference.proofs.+natural.Goals.{first_found-in-None+in_ok-found-in-None+in-Free, first_found-in-Some, first_found-Joined-free_leaf, found_at-Else-v-at}

-- whichever way it came, the operand has no clock and ends there
first-found-passed : (t : ℕ) (c : goal.first_found-Joined-free_leaf t) →
    Passed c.args.input.now c.args.up c.place-place.result c.match-free_leaf.end
first-found-passed t c = elim c.match-free_leaf.branch [
  | first_found-in-None+in_ok-found-in-None+in-Free w ↦ rw w.end-is (passed-walk _ _ _ _ _ _ w.in_ok-found-in-None.was w.in-Free.is w.operand_clock.ensures)
  | first_found-in-Some w ↦ rw w.end-is (passed-leaf _ _ _ _ _ w.in-Some.is c.free_leaf.ensures)
]

-- where operands begin behind it, the place is among the tokens
found-at-inside : (t : ℕ) (c : goal.found_at-Else-v-at t) → c.args.at < length c.args.input.now.source.tags.now
found-at-inside t c = left_there _ _ _ c.args.input.now.source.same_length _ _ c.view_at-v.ensures c.if-v-at.false

pub first_found-returns-in-On : goal.first_found-returns-in-On
first_found-returns-in-On t c = let l = c.loop in λ es q clocks g a. remains-on c.args.input.now c.args.up l.rest.gap c.args.operands.count l.counter l.rest.next _ c.place-place.ensures c.loop-test.true q clocks a _ (l.invariant.1 es q clocks g a) _ c.operand_clock.ensures _ _ c.in_ok-found-in-None.was c.in-On.is

pub first_found-returns-in_err-found-in-None : goal.first_found-returns-in_err-found-in-None
first_found-returns-in_err-found-in-None t c = let l = c.loop in λ es q clocks g a. let v = err_from_is_err_and c.from_residual.result c.from_residual.ensures.1 in rw v.1 (remains-deep c.args.input.now c.args.up l.rest.gap c.args.operands.count l.counter l.rest.next _ c.place-place.ensures c.loop-test.true q clocks a _ (l.invariant.1 es q clocks g a) _ c.operand_clock.ensures c.in_err-found-in-None.was)

pub first_found-returns-then-others-rest : goal.first_found-returns-then-others-rest
first_found-returns-then-others-rest t c = let l = c.loop in λ es q clocks g a. absurd (omega (arith, remains-past c.args.input.now c.args.up l.rest.gap c.args.operands.count l.counter l.rest.next _ c.place-place.ensures c.loop-test.true q clocks a _ (l.invariant.1 es q clocks g a) _ (first-found-passed t (goal.at.first_found-returns-then-others-rest t c).Joined-free_leaf) _ c.behind-others.ensures.0, c.if-others-rest.true))

pub first_found-loop-preserved : goal.first_found-loop-preserved
first_found-loop-preserved t c = let l = c.loop in (omega (arith, l.invariant.0, c.if-others-rest.false), λ es q clocks g a. remains-rest c.args.input.now c.args.up l.rest.gap c.args.operands.count l.counter l.rest.next _ c.place-place.ensures c.loop-test.true q clocks a _ (l.invariant.1 es q clocks g a) _ (first-found-passed t (goal.at.first_found-loop-preserved t c).Joined-free_leaf) _ c.behind-others.ensures.0 _ c.behind-others.ensures.1)

pub first_found-returns : goal.first_found-returns
first_found-returns t c = λ es q clocks g a. remains-none _ clocks _ _ _ _ q _ (c.loop.invariant.1 es q clocks g a) (omega (arith, c.loop-test.false))

pub found_at-first_found-requires : goal.found_at-first_found-requires
found_at-first_found-requires t c = let i = found-at-inside t (goal.at.found_at-first_found-requires t c).Else-v-at in omega (arith, c.if-v-at.false)

pub found_at-first_found-requires-in-None-lookup : goal.found_at-first_found-requires-in-None-lookup
found_at-first_found-requires-in-None-lookup t c = let i = found-at-inside t (goal.at.found_at-first_found-requires-in-None-lookup t c).Else-v-at in omega (arith, c.if-v-at.false)

pub found_at-first_found-requires-in_default : goal.found_at-first_found-requires-in_default
found_at-first_found-requires-in_default t c = let i = found-at-inside t (goal.at.found_at-first_found-requires-in_default t c).Else-v-at in omega (arith, c.if-v-at.false)

pub found_at-returns-in-Some : goal.found_at-returns-in-Some
found_at-returns-in-Some t c = λ e q clocks g a. let i = arm e _ _ (c.view_at-v.ensures.role e q g) c.in-Name.is in let l = arm_low _ _ _ e q _ _ g (c.view_at-v.ensures.role e q g) c.in-Name.is in name-on _ _ clocks a e q _ l _ c.lookup.ensures i _ c.in-Some.is

pub found_at-returns-in-None : goal.found_at-returns-in-None
found_at-returns-in-None t c = λ e q clocks g a. let i = arm e _ _ (c.view_at-v.ensures.role e q g) c.in-Name.is in let l = arm_low _ _ _ e q _ _ g (c.view_at-v.ensures.role e q g) c.in-Name.is in name-free _ _ clocks a e q _ l _ c.lookup.ensures i c.in-None.is _ (spread_end _ _ _ _ _ _ q (var-ends e _ i) (c.view_at-v.ensures.operands e q g))

pub found_at-returns-in_err-found-in-Sample : goal.found_at-returns-in_err-found-in-Sample
found_at-returns-in_err-found-in-Sample t c = λ e q clocks g a. let i = arm e _ _ (c.view_at-v.ensures.role e q g) c.in-Sample.is in let l = arm_low _ _ _ e q _ _ g (c.view_at-v.ensures.role e q g) c.in-Sample.is in let v = err_from_is_err_and c.from_residual.result c.from_residual.ensures.1 in rw v.1 (sample-deep _ _ clocks a e q _ i.0 i.1 l _ (c.first_found.ensures _ q clocks (c.view_at-v.ensures.operands e q g) a) c.in_err-found-in-Sample.was)

pub found_at-returns-in_ok-found-in-Sample : goal.found_at-returns-in_ok-found-in-Sample
found_at-returns-in_ok-found-in-Sample t c = λ e q clocks g a. let i = arm e _ _ (c.view_at-v.ensures.role e q g) c.in-Sample.is in let l = arm_low _ _ _ e q _ _ g (c.view_at-v.ensures.role e q g) c.in-Sample.is in sample-arm _ _ clocks a e q _ i.0 i.1 l _ (c.first_found.ensures _ q clocks (c.view_at-v.ensures.operands e q g) a) _ c.in_ok-found-in-Sample.was _ c.sampled.ensures

pub found_at-returns-in-Some-lookup : goal.found_at-returns-in-Some-lookup
found_at-returns-in-Some-lookup t c = λ e q clocks g a. let i = arm e _ _ (c.view_at-v.ensures.role e q g) c.in-Join.is in let l = arm_low _ _ _ e q _ _ g (c.view_at-v.ensures.role e q g) c.in-Join.is in join-on _ _ clocks a e q _ l _ c.lookup-in-Join.ensures i.0 i.1 i.2 _ c.in-Some-lookup.is

pub found_at-returns-in-None-lookup : goal.found_at-returns-in-None-lookup
found_at-returns-in-None-lookup t c = λ e q clocks g a. let i = arm e _ _ (c.view_at-v.ensures.role e q g) c.in-Join.is in let l = arm_low _ _ _ e q _ _ g (c.view_at-v.ensures.role e q g) c.in-Join.is in join-branches _ _ clocks a e q _ l _ c.lookup-in-Join.ensures i.0 i.1 i.2 c.in-None-lookup.is _ (c.first_found-in-None-lookup.ensures _ q clocks (c.view_at-v.ensures.operands e q g) a)

pub found_at-returns-in_default : goal.found_at-returns-in_default
found_at-returns-in_default t c = λ e q clocks g a. rest-arm clocks e _ _ q (c.view_at-v.ensures.role e q g) c.in_default.not-Name c.in_default.not-Sample c.in_default.not-Join (c.first_found-in_default.ensures _ q clocks (c.view_at-v.ensures.operands e q g) a)
