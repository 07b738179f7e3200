-- `parts::check_names` meets its contract. Assumes nothing.
use Rattle.parts.proofs.Laws.{sum-answer, bad-answer, good-answer}
use Rattle.parts.proofs.check_names.Goals as goal

pub returns-then-total-sizes : goal.returns-then-total-sizes
returns-then-total-sizes c = sum-answer c.args.sheet.sized c.lengths-lengths.ensures.value c.letters-letters.ensures.value c.total.ensures c.if-total-sizes.true

pub returns-in-Some : goal.returns-in-Some
returns-in-Some c = bad-answer c.args.sheet.sized c.lengths-lengths.ensures.value c.letters-letters.ensures.value c.total.ensures c.if-total-sizes.false _ c.in-Some.ensures

pub returns-in-None : goal.returns-in-None
returns-in-None c = good-answer c.args.sheet.sized c.lengths-lengths.ensures.value c.letters-letters.ensures.value c.total.ensures c.if-total-sizes.false c.in-None.ensures
