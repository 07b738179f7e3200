-- `typing::type_of` meets its contract.
-- Assumes nothing.
use mathlib.Core.Path.{refl, sym, ◌∙◌, ap}
use mathlib.Core.Logic.{⊎_elim}
use native.Mathlib.Omega.{arith}
use lib.ListN.{length}
use Rattle.definitions.specs.Tree.{Expr, Exprs}
use Rattle.definitions.specs.Reading.{got}
use Rattle.operands.proofs.Laws.{spread-nil, left_there}
use Rattle.operands.proofs.Roles.{arm}
use Rattle.operands.proofs.Apart.{at-or-past}
use Rattle.typing.proofs.Laws.{not_back, split-of, first_of, ops-one, ops-when, ops-two, ops-index, const-found, name-found, sample-found, pre-found, arrow-found, index-found, index-none, rest-found, declared-name}
use Rattle.typing.proofs.+type_of.Goals as goal

pub type_of-requires : goal.type_of-requires
type_of-requires t c = omega (arith, c.decreases, left_there _ _ _ c.args.source.now.same_length _ _ c.view_at-v.ensures c.if-v-at.false, c.if-o-at.false)

pub type_of-a-requires : goal.type_of-a-requires
type_of-a-requires t c = omega (arith, c.decreases, left_there _ _ _ c.args.source.now.same_length _ _ c.view_at-v.ensures c.if-v-at.false, c.if-o-at.false)

pub returns-then-p-at : goal.returns-then-p-at
returns-then-p-at t c = λ e q ds g d. let i = arm e _ _ (c.view_at-v.ensures.role e q g) c.in-Follow.is in let x = split-of _ _ _ _ _ _ c.first_operand-o.ensures _ q (c.view_at-v.ensures.operands e q g) i.0 (Exprs.and i.1 Exprs.end) (ops-two e i.0 i.1 i.2) in absurd (not_back _ _ _ _ c.if-v-at.false x.3 (at-or-past (length c.args.source.now.tags.now) c.first_operand-o.result.rest.gap c.first_operand-o.result.rest.next c.place-p.result c.place-p.ensures) c.if-p-at.true)

pub type_of-b-requires : goal.type_of-b-requires
type_of-b-requires t c = omega (arith, c.decreases, left_there _ _ _ c.args.source.now.same_length _ _ c.view_at-v.ensures c.if-v-at.false, c.if-p-at.false)

pub returns-then-v-eq0 : goal.returns-then-v-eq0
returns-then-v-eq0 t c = λ e q ds g d. let i = arm e _ _ (c.view_at-v.ensures.role e q g) c.in-Index.is in index-none _ _ _ e i.0 i.1 (sym (ops-index e i.0 i.1) ∙ (spread-nil _ _ _ _ _ _ _ q c.if-v-eq0.true (c.view_at-v.ensures.operands e q g)).0)

pub type_of-a-requires-in-Index : goal.type_of-a-requires-in-Index
type_of-a-requires-in-Index t c = omega (arith, c.decreases, left_there _ _ _ c.args.source.now.same_length _ _ c.view_at-v.ensures c.if-v-at.false, c.if-o-at.false)

pub returns-in-Constant : goal.returns-in-Constant
returns-in-Constant t c = λ e q ds g d. let i = arm e _ _ (c.view_at-v.ensures.role e q g) c.in-Constant.is in const-found _ _ _ e _ i.0 i.1 i.2 (c.constant_type.ensures i.0 i.1 q (g ∙ ap (λ (y : Expr). got y q) i.2))

pub returns-in-Name : goal.returns-in-Name
returns-in-Name t c = λ e q ds g d. let i = arm e _ _ (c.view_at-v.ensures.role e q g) c.in-Name.is in name-found _ _ _ e _ _ i (declared-name _ _ _ _ ds e q _ _ g i d _ c.last_type.ensures _ c.map.ensures.cases)

pub returns-in-Sample : goal.returns-in-Sample
returns-in-Sample t c = λ e q ds g d.
    let h = c.view_at-v.ensures.role e q g in
    let split = split-of _ _ _ _ _ _ c.first_operand-o.ensures _ q (c.view_at-v.ensures.operands e q g) in
    ⊎_elim (λ s. let i = arm e _ _ h s.1 in let x = split i.0 Exprs.end (ops-when e i.0 _ i.1) in sample-found _ _ _ e _ _ i.0 i.1 (c.type_of.ensures i.0 x.0 ds x.1 d))
    (λ s. let i = arm e _ _ h s in let x = split i.0 Exprs.end (ops-one e i.0 i.1) in pre-found _ _ _ e _ i.0 i.1 (c.type_of.ensures i.0 x.0 ds x.1 d)) c.in-Sample.is

pub returns-else-p-at : goal.returns-else-p-at
returns-else-p-at t c = λ e q ds g d. let i = arm e _ _ (c.view_at-v.ensures.role e q g) c.in-Follow.is in let x = split-of _ _ _ _ _ _ c.first_operand-o.ensures _ q (c.view_at-v.ensures.operands e q g) i.0 (Exprs.and i.1 Exprs.end) (ops-two e i.0 i.1 i.2) in let y = first_of _ c.args.source.now.tags.now c.args.source.now.values.now c.args.source.now.same_length _ _ _ _ c.place-p.ensures _ q x.2 i.1 Exprs.end refl in arrow-found _ _ _ e _ i.0 i.1 _ _ i.2 c.or.ensures (c.type_of-b.ensures i.1 y.0 ds y.1 d) (c.type_of-a.ensures i.0 x.0 ds x.1 d)

pub returns-else-v-eq0 : goal.returns-else-v-eq0
returns-else-v-eq0 t c = λ e q ds g d. let i = arm e _ _ (c.view_at-v.ensures.role e q g) c.in-Index.is in let x = c.first_operand-o.ensures.split _ _ q c.if-v-eq0.false (c.view_at-v.ensures.operands e q g) in index-found _ _ _ e _ i.0 x.first x.rest i.1 (sym (ops-index e i.0 i.1) ∙ x.whole) (c.element_of.ensures _ (c.type_of-a-in-Index.ensures x.first x.end ds x.here d))

pub returns-in_default : goal.returns-in_default
returns-in_default t c = λ e q ds g d. rest-found _ _ _ e _ (c.view_at-v.ensures.role e q g) c.in_default.not-Constant c.in_default.not-Name c.in_default.not-Sample c.in_default.not-Previous c.in_default.not-Follow c.in_default.not-Index
