-- `fault_text::text_found` meets its contract. Assumes nothing.
use mathlib.Core.Path.{ap, ◌∙◌}
use Rattle.std.specs.Prelude.{Err}
use Rattle.std.proofs.lemmas.Result.{err_from_is_err_and}
use Rattle.fault_text.proofs.Texts.{text-missing, text-given}
use Rattle.fault_text.proofs.text_found.Goals as goal

pub returns-in_err-found : goal.returns-in_err-found
returns-in_err-found c = λ names e.
    let r = err_from_is_err_and c.from_residual.result c.from_residual.ensures.1 in
    text-missing names _ e c.args.out.now c.args.out.now c.args.fault _ _ c.in_err-found.ensures.ok_part c.in_err-found.ensures.value (r.1 ∙ ap Err r.2)

pub returns : goal.returns
returns c = λ names e. rw c.in_ok-found.ensures.ok_part (text-given names _ e c.args.out.now _ c.in_ok-found.found _ c.text_into.ensures)
