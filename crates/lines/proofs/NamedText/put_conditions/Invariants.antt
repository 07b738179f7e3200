-- The conditions so far.
use Prim.Native.Nat.{◌+◌}
use mathlib.Core.List.{◌∷◌}
use Rattle.clock_tables.specs.Value.{clock_at}
use Rattle.lines.specs.Pieces.{words}
use Rattle.lines.specs.Spelled.{Spells}
use Rattle.lines.proofs.NamedText.put_conditions.Given as goal

abbrev pub invariant-loop-k : goal.invariant-loop-k
invariant-loop-k l = Spells (λ n. words n (clock_at (l.fn.first ∷ l.others) (l.k-index + 1))) l.fn.self l.self
