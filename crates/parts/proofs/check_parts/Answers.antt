-- `parts::check_parts` meets its contract. Assumes nothing.
use Rattle.std.proofs.lemmas.Result.{err_from_is_err_and}
use Rattle.parts.specs.Answers.{SizesTold}
use Rattle.parts.proofs.Laws.{refused-answer, sized-answer}
use Rattle.parts.proofs.check_parts.Goals as goal

pub returns-in_err-sizes-clause-answer : goal.returns-in_err-sizes-clause-answer
unfolding SizesTold
returns-in_err-sizes-clause-answer c =
    let p = err_from_is_err_and c.from_residual.result c.from_residual.ensures.1 in
    rw (p.1, p.2) (refused-answer c.args.sheet.now _ c.in_err-sizes.ensures)

pub returns-clause-sized : goal.returns-clause-sized
returns-clause-sized c = sized-answer c.args.sheet.now _ c.check_names.ensures
