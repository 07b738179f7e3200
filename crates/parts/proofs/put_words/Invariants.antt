-- `parts::put_words` meets its contract. The loop has stored the first k words. Assumes nothing.
use mathlib.Core.Path.{◌≡◌}
use mathlib.Core.List.{map}
use lib.ListN.{take}
use lib.Seq.{sets}
use Rattle.definitions.specs.Lists.{join}
use Rattle.definitions.specs.Output.{word_bytes}
use Rattle.parts.proofs.put_words.Given as goal

abbrev pub invariant-loop-k : goal.invariant-loop-k
invariant-loop-k l = l.bytes ≡ sets l.initial.bytes 0 (join (map word_bytes (take l.k l.words)))
