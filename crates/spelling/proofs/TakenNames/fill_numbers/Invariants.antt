-- `spelling::TakenNames::fill_numbers` meets its contract: as many as are written are free below the next to be tried. Assumes nothing.
use Rattle.spelling.proofs.Free.{Numbering}
use Rattle.spelling.proofs.TakenNames.fill_numbers.Given as goal

abbrev pub invariant-loop-number : goal.invariant-loop-number
invariant-loop-number l = Numbering l.self l.stem l.number-index l.from l.out
