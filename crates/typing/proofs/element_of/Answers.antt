-- `typing::element_of` meets its contract.
-- Assumes nothing.
use mathlib.Core.Path.{◌≡◌, ◌∙◌, ap}
use Rattle.std.specs.Prelude.{Some, None}
use Rattle.layout.proofs.TypedefsLaws.{err-of, ok-of}
use Rattle.typing.proofs.Laws.{element-of-array, element-other, element-refused, element-basic, element-unknown}
use Rattle.typing.proofs.element_of.Goals as goal

pub returns-in_err-p : goal.returns-in_err-p
returns-in_err-p c = λ o h. let n : c.from_residual.result ≡ None = c.from_residual.ensures in rw n (element-unknown _ _ o _ c.in_err-p.was h)

pub returns-in_default : goal.returns-in_default
returns-in_default c = λ o h. element-basic _ _ o _ _ (c.in_ok-p.was ∙ ap Some c.in_default.is) h

pub returns-in_err-t : goal.returns-in_err-t
returns-in_err-t c = λ o h. let e = err-of _ _ c.ok.ensures.value c.in_err-t.was in let n : c.from_residual-in_err-t.result ≡ None = c.from_residual-in_err-t.ensures in rw n (element-refused _ _ _ _ (c.in_ok-p.was ∙ ap Some c.in-At.is) _ c.type_head.ensures e.0 e.1 o h)

pub returns-in_default-t : goal.returns-in_default-t
returns-in_default-t c = λ o h. element-other _ _ _ _ (c.in_ok-p.was ∙ ap Some c.in-At.is) _ c.type_head.ensures _ _ (ok-of _ _ _ c.ok.ensures.value c.in_ok-t.was) c.in_default-t.not-Array o h

pub returns-in-Array : goal.returns-in-Array
returns-in-Array c = λ o h. element-of-array _ _ _ _ (c.in_ok-p.was ∙ ap Some c.in-At.is) _ c.type_head.ensures _ _ (ok-of _ _ _ c.ok.ensures.value c.in_ok-t.was) _ c.in-Array.is o h
