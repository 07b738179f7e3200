-- `planned::put_defaults` meets its contract: one output's default after another.
-- Assumes nothing.
use mathlib.Core.Path.{◌≡◌}
use mathlib.Core.List.{List}
use mathlib.Core.Option.{none}
use Prim.Native.Nat.{ℕ}
use Rattle.grammar.specs.Read.{tokens_of}
use Rattle.definitions.specs.Lists.{join}
use Rattle.definitions.specs.Tree.{Declared, TypeDef, Node}
use Rattle.definitions.specs.Output.{operand_tokens}
use Rattle.layout.specs.Table.{Table}
use Rattle.layout.specs.Walk.{declared_left}
use Rattle.stateless.specs.Yield.{output_trees}
use Rattle.stateless.specs.Faults.{outputs_fault}
use Rattle.emit.specs.Out.{emits}
use Rattle.planned.specs.Opening.{Behind}
use Rattle.planned.proofs.Defaults.{DefaultsLeft}
use Rattle.planned.proofs.put_defaults.Given as goal

abbrev pub invariant-loop-declared : goal.invariant-loop-declared
invariant-loop-declared l =
    (ts : List TypeDef) (ns : List Node) (n : Node) (f : ℕ) (ds : List Declared) → Table l.index.source.names (tokens_of l.index.source) l.index.types.at l.index.types.count ts → Behind l.index.source.names (tokens_of l.index.source) l.fn.outputs ds → outputs_fault ts ns n f ds ≡ none →
    DefaultsLeft ts ns n f l.index.source.names (tokens_of l.index.source) (declared_left l.declared-iterator) (emits l.initial.output (join (operand_tokens (output_trees ts ns n ds)))) l.output
