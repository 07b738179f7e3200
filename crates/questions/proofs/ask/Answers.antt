-- `questions::ask` meets its contract. Assumes nothing.
use mathlib.Core.Logic.{inr}
use Rattle.questions.proofs.ask.Goals as goal

pub returns : goal.returns
returns g c = let z = c.in_ok-read.ensures.read in inr (record { input = z.1; call = rw z.0 at (c.answer_read.ensures z.1 (rw z.0 z.2)) })
