-- The bytes that the digits before those left say are put.
use Rattle.std.specs.Slice.Iter.{chunks_exact_rest, chunks_exact_size}
use Rattle.std.proofs.Common.{◌≡◌}
use Rattle.vectors.specs.Fields.{decoded}
use Rattle.vectors.proofs.Hex.{Left}
use Rattle.vectors.proofs.put_decoded.Given as goal

abbrev pub invariant-loop-pair : goal.invariant-loop-pair
invariant-loop-pair l = (chunks_exact_size l.pair-iterator ≡ 2) × Left (decoded l.hex) (decoded (chunks_exact_rest l.pair-iterator)) l.initial.text l.text
