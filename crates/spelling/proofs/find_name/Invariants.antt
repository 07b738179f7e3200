-- `spelling::find_name` meets its contract. None of the names passed is the one that is looked for. Assumes nothing.
use Prim.Native.Nat.{◌+◌}
use mathlib.Core.Path.{◌≡◌}
use lib.ListN.{length}
use Rattle.definitions.specs.Bytes.{cut}
use Rattle.definitions.specs.Output.{id_of}
use Rattle.parts.proofs.Walked.{to_give}
use Rattle.spelling.proofs.find_name.Given as goal

abbrev pub invariant-loop-i : goal.invariant-loop-i
invariant-loop-i l =
    record {
      sought : id_of (cut l.names.lengths.now l.names.letters.now) l.name ≡ l.i-iterator.count + id_of (to_give l.i-iterator) l.name;
      counted : l.i-iterator.count + length (to_give l.i-iterator) ≡ length l.names.lengths.now;
    }
