-- What stands at the place, and what is found of it.
use mathlib.Core.Path.{sym, ◌∙◌, ap}
use Rattle.grammar.specs.Found.{option_of}
use Rattle.grammar.specs.Outcome.{told}
use Rattle.grammar.proofs.Laws.{step-got, step-refused, step_end, none-passes}
use Rattle.grammar.proofs.read_token.Goals as goal

pub returns-in_err-tag : goal.returns-in_err-tag
returns-in_err-tag g c = λ f m. none-passes _ _ _ _ _ c.in_err-tag.ensures.value c.in_err-tag.ensures.ok_part c.from_residual.ensures (sym (ap told (step_end f _ _ _ c.token_at.ensures.token c.in_err-tag.ensures.ok_part)))

pub returns-in_err-t : goal.returns-in_err-t
returns-in_err-t g c =
    λ f m. none-passes _ _ _ _ _ c.in_err-t.ensures.value c.in_err-t.ensures.ok_part c.from_residual-in_err-t.ensures (
    sym (ap told (step-refused f _ _ _ c.token_at.ensures.token _ _ _ c.in_ok-tag.ensures.ok_part (sym (m _ _ _ (rw c.in_ok-tag.ensures.ok_part at c.token_at.ensures.word) c.find.ensures) ∙ ap option_of c.in_err-t.ensures.ok_part))))

pub returns : goal.returns
returns g c =
    λ f m. sym (ap told (step-got f _ _ _ c.token_at.ensures.token _ _ _ c.in_ok-tag.ensures.ok_part _ (sym (m _ _ _ (rw c.in_ok-tag.ensures.ok_part at c.token_at.ensures.word) c.find.ensures) ∙ ap option_of c.in_ok-t.ensures.ok_part)))
