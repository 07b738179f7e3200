-- `typing::shape_after` meets its contract.
-- Assumes nothing.
use mathlib.Core.Path.{◌∙◌}
use native.Mathlib.Omega.{arith}
use lib.ListN.{length}
use Rattle.operands.proofs.Roles.{arm}
use Rattle.operands.proofs.Apart.{at-or-past}
use Rattle.operands.proofs.Laws.{left_there}
use Rattle.typing.proofs.Laws.{first_of, ops-when}
use Rattle.typing.proofs.RewrittenShapeLaws.{name-after, when-after, call-after as call_shape, other_after}
use Rattle.typing.proofs.+shape_after.Goals as goal

pub shape_after-requires : goal.shape_after-requires
shape_after-requires t c = let l = at-or-past (length c.args.index.now.source.tags.now) c.view_at-v.result.operands.rest.gap c.view_at-v.result.operands.rest.next c.place-place.result c.place-place.ensures in omega (arith, l, c.decreases, left_there _ _ _ c.args.index.now.source.same_length _ _ c.view_at-v.ensures c.if-v-at.false, c.if-v-at.false)

pub returns-in-Name : goal.returns-in-Name
returns-in-Name t c = λ e q types l node g s. name-after types l node _ _ e _ (arm e _ _ (c.view_at-v.ensures.role e q g) c.in-Name.is)

pub returns-in-Sample : goal.returns-in-Sample
returns-in-Sample t c = λ e q types l node g s. let a = arm e _ _ (c.view_at-v.ensures.role e q g) c.in-Sample.is in let p = first_of c.args.index.now.source.names c.args.index.now.source.tags.now c.args.index.now.source.values.now c.args.index.now.source.same_length _ _ _ _ c.place-place.ensures _ q (c.view_at-v.ensures.operands e q g) a.0 _ (ops-when e a.0 _ a.1) in c.shape_after.ensures a.0 p.0 types l node p.1 s ∙ when-after types l node _ _ e _ a.0 _ a.1 c.parent-up.ensures

pub returns-in-Call : goal.returns-in-Call
returns-in-Call t c = λ e q types l node g s. let a = arm e _ _ (c.view_at-v.ensures.role e q g) c.in-Call.is in call_shape types l node _ _ e _ a.0 _ a.1 (c.call_after.ensures a.0 types l node s)

pub returns-in_default : goal.returns-in_default
returns-in_default t c = λ e q types l node g s. other_after types l node _ _ e _ (c.view_at-v.ensures.role e q g) c.in_default.not-Name c.in_default.not-Sample c.in_default.not-Call
