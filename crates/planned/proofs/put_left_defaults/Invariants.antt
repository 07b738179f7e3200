-- `planned::put_left_defaults` meets its contract: one after another.
-- Assumes nothing.
use mathlib.Core.Path.{◌≡◌}
use mathlib.Core.List.{List}
use mathlib.Core.Option.{none}
use Prim.Native.Nat.{ℕ, ◌<◌}
use lib.ListN.{length, get_or}
use Rattle.definitions.specs.Lists.{join}
use Rattle.definitions.specs.Tree.{TypeDef, Node}
use Rattle.definitions.specs.Output.{operand_tokens}
use Rattle.stateless.specs.Yield.{left_trees}
use Rattle.stateless.specs.Faults.{lefts_fault}
use Rattle.emit.specs.Out.{emits}
use Rattle.planned.specs.Grounds.{TypesKnown}
use Rattle.planned.proofs.LeftDefaultsLaws.{NamesLeft}
use Rattle.planned.proofs.put_left_defaults.Given as goal

abbrev pub invariant-loop-x : goal.invariant-loop-x
invariant-loop-x l =
    (ts : List TypeDef) (ns : List Node) (n : Node) → TypesKnown l.written ts n → ((i : ℕ) → i < length l.names → get_or l.names i 0 < l.written.index.now.source.names) → lefts_fault ts ns n l.names ≡ none →
    NamesLeft (λ ys. join (operand_tokens (left_trees ts ns n ys))) (λ ys. lefts_fault ts ns n ys ≡ none) l.names (emits l.initial.output (join (operand_tokens (left_trees ts ns n l.names)))) l.output l.x-index
