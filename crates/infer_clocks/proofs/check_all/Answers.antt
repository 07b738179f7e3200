-- What is found so far, then the rest, is all.
use native.Mathlib.Omega.{arith}
use mathlib.Core.Path.{refl}
use Rattle.std.proofs.lemmas.Result.{err_from_is_err_and}
use Rattle.grammar.proofs.Longer.{equation-grows}
use Rattle.checking.proofs.Laws.{stays-then}
use Rattle.infer_clocks.proofs.Laws.{going_start, going_end, going_step, going-deep}
use Rattle.infer_clocks.proofs.Sites.{siting-start, siting-end, siting-step}
use Rattle.infer_clocks.proofs.check_all.Goals as goal

pub loop-equation-init : goal.loop-equation-init
loop-equation-init c = (
  record { same_findings = refl; findings_stay = refl; sites_stay = refl; findings_length = refl; sites_length = refl },
  λ node clocks es q a g z. going_start _ node clocks _ _ _ q es g z,
  λ node clocks es q cs a g room h. siting-start _ _ node clocks _ _ q es cs g h,
)

pub loop-equation-preserved : goal.loop-equation-preserved
loop-equation-preserved c =
    let l = c.loop-equation in (
      stays-then _ _ _ l.invariant.0 c.check_one.ensures.stays,
      λ node clocks es q a g z. going_step _ node clocks _ _ _ _ _ _ q _ _ c.loop-equation-test.true c.check_one.ensures.tallied (record { agrees = a.agrees; ports = a.ports }) (l.invariant.1 node clocks es q a g z) _ c.in_ok-place.was _ (λ x r y. c.check_one.ensures.ends x r _ y c.in_ok-place.was),
      λ node clocks es q cs a g room h.
          siting-step _ _ _ node clocks _ _ _ _ q cs c.loop-equation-test.true (omega (arith, room, l.invariant.0.sites_length)) (λ x r y. (equation-grows _ _ _ x r y).0)
          (λ x r u y z. c.check_one.ensures.equation_stored clocks x r u a y z) (l.invariant.2 node clocks es q cs a g room h) _ (λ x r y. c.check_one.ensures.ends x r _ y c.in_ok-place.was),
    )

pub returns-in_err-place-clause-tallied : goal.returns-in_err-place-clause-tallied
returns-in_err-place-clause-tallied c =
    let v = err_from_is_err_and c.from_residual.result c.from_residual.ensures.1 in
    λ node clocks es q a g z. rw v.1 (going-deep _ node clocks _ _ _ _ _ _ q _ _ c.loop-equation-test.true c.check_one.ensures.tallied (record { agrees = a.agrees; ports = a.ports }) (c.loop-equation.invariant.1 node clocks es q a g z) _ _ _ c.in_err-place.was)

pub returns-clause-tallied : goal.returns-clause-tallied
returns-clause-tallied c = λ node clocks es q a g z. going_end _ _ node clocks _ _ _ _ q _ (omega (arith, c.loop-equation-test.false)) (c.loop-equation.invariant.1 node clocks es q a g z)

pub returns-clause-by_index : goal.returns-clause-by_index
returns-clause-by_index c = λ node clocks es q cs z a g room h. siting-end _ _ node clocks _ _ _ _ q cs (omega (arith, c.loop-equation-test.false)) (c.loop-equation.invariant.2 node clocks es q cs a g room h)
