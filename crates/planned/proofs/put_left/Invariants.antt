-- `planned::put_left` meets its contract: the count, then the names.
-- Assumes nothing.
use Rattle.definitions.specs.Output.{name_tokens}
use Rattle.emit.specs.Out.{emits}
use Rattle.planned.proofs.LeftDefaultsLaws.{NamesLeft}
use Rattle.planned.proofs.put_left.Given as goal

abbrev pub invariant-loop-x : goal.invariant-loop-x
invariant-loop-x l = NamesLeft name_tokens (λ ys. Unit {0}) l.names (emits l.initial.output (name_tokens l.names)) l.output l.x-index
