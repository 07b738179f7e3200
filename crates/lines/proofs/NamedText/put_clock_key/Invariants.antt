-- The conditions so far, behind base.
use Rattle.clock_tables.specs.Value.{clock_at}
use Rattle.definitions.specs.Texts.{clock_key}
use Rattle.lines.specs.Spelled.{Spells}
use Rattle.lines.proofs.NamedText.put_clock_key.Given as goal

abbrev pub invariant-loop-k : goal.invariant-loop-k
invariant-loop-k l = Spells (λ n. clock_key n (clock_at l.k-items l.k-index)) l.fn.self l.self
