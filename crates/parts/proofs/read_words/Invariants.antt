-- `parts::read_words` meets its contract. The loop has read the first k words. Assumes nothing.
use mathlib.Core.Path.{◌≡◌}
use lib.ListN.{take}
use Rattle.definitions.specs.Lists.{over}
use Rattle.definitions.specs.Bytes.{four_byte_words}
use Rattle.parts.proofs.read_words.Given as goal

abbrev pub invariant-loop-k : goal.invariant-loop-k
invariant-loop-k l = l.words ≡ over (take l.k (four_byte_words l.bytes)) l.initial.words
