-- `questions::answer_standing` meets its contract: the tables are enough, by the limits of a small sheet or of any. Assumes nothing.
use native.Mathlib.Omega.{arith}
use Rattle.questions.proofs.Tables.{enough}
use Rattle.questions.proofs.answer_standing.Goals as goal

pub returns-then-source-le-SMALL_NAMES : goal.returns-then-source-le-SMALL_NAMES
returns-then-source-le-SMALL_NAMES g c = λ bytes i h. c.answer_with.ensures bytes i h (enough 256 256 (omega arith) (omega arith) (omega arith) c.if-source-le-SMALL_NAMES.true c.if-source-le-SMALL_TOKENS.true)

pub returns : goal.returns
returns g c = λ bytes i h. c.answer_with-2.ensures bytes i h (enough 1024 4096 (omega arith) (omega arith) (omega arith) h.standing.few-names h.standing.few-tokens)
