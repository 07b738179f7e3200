-- The bytes before this place are put in hex.
use Rattle.std.proofs.Common.{drop}
use Rattle.vectors.specs.Fields.{hex}
use Rattle.vectors.proofs.Hex.{Left}
use Rattle.vectors.proofs.put_hex.Given as goal

abbrev pub invariant-loop-b : goal.invariant-loop-b
invariant-loop-b l = Left (hex l.part) (hex (drop l.b-index l.part)) l.initial.text l.text
