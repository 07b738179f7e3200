-- `cycles::target_of` meets its contract: the first token decides, and the depth falls at an element.
-- Assumes nothing.
use Rattle.layout.proofs.TypedefsLaws.{err-of, ok-of, type-not-refused, type-is-basic, type-is-named, type-is-array}
use Rattle.cycles.proofs.Laws.{target-basic, target-named, target-array}
use Rattle.cycles.proofs.+target_of.Goals as goal

pub returns-in_err-head : goal.returns-in_err-head
returns-in_err-head t c = λ y q g. let e = err-of _ _ c.ok.ensures.value c.in_err-head.was in absurd (type-not-refused _ _ _ _ c.type_head.ensures _ y q g e.0 e.1)

pub returns-in-Basic : goal.returns-in-Basic
returns-in-Basic t c = λ y q g. target-basic y _ (type-is-basic _ _ _ _ c.type_head.ensures _ y q g _ _ (ok-of _ _ _ c.ok.ensures.value c.in_ok-head.was) _ c.in-Basic.is)

pub returns-in-Named : goal.returns-in-Named
returns-in-Named t c = λ y q g. target-named y _ (type-is-named _ _ _ _ c.type_head.ensures _ y q g _ _ (ok-of _ _ _ c.ok.ensures.value c.in_ok-head.was) _ c.in-Named.is)

pub returns-then-depth-eq0 : goal.returns-then-depth-eq0
returns-then-depth-eq0 t c = λ y q g. absurd ((type-is-array _ _ _ _ c.type_head.ensures _ y q g _ _ (ok-of _ _ _ c.ok.ensures.value c.in_ok-head.was) _ c.in-Array.is).1 c.if-depth-eq0.true)

pub returns-else-depth-eq0 : goal.returns-else-depth-eq0
returns-else-depth-eq0 t c = λ y q g. let a = type-is-array _ _ _ _ c.type_head.ensures _ y q g _ _ (ok-of _ _ _ c.ok.ensures.value c.in_ok-head.was) _ c.in-Array.is in rw (target-array y a.0 _ a.4) (c.target_of.ensures a.0 q a.3)
