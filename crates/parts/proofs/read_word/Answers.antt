-- `parts::read_word` meets its contract. Assumes nothing.
use native.Mathlib.Omega.{arith}
use Rattle.parts.proofs.Words.{word_read}
use Rattle.parts.proofs.read_word.Goals as goal

pub returns : goal.returns
returns c = omega (arith, word_read c.args.bytes.now c.args.at, c.from_le_bytes.ensures)
