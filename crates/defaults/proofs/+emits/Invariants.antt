-- `defaults::emit_type` and the functions that it calls meet their contracts: the default is written by its parts.
-- The measure falls with the depth at each type. What is left to write makes the whole.
-- Assumes nothing.
use mathlib.Core.Path.{◌≡◌}
use mathlib.Core.List.{List, map}
use mathlib.Core.Option.{some}
use Prim.Native.Nat.{ℕ, ◌+◌, ◌*◌}
use Rattle.grammar.specs.Read.{tokens_of}
use Rattle.definitions.specs.Tree.{Declared, TypeDef, Exprs}
use Rattle.definitions.specs.Grammar.{declaration}
use Rattle.definitions.specs.Types.{defaults_by, default_named}
use Rattle.definitions.specs.Output.{field_tokens, operand_tokens}
use Rattle.cycles.specs.Defines.{Defines}
use Rattle.layout.specs.Spans.{Spans}
use Rattle.layout.specs.Walk.{declared_left}
use Rattle.emit.specs.Out.{emits}
use Rattle.defaults.specs.Depth.{Enough}
use Rattle.defaults.proofs.Written.{FieldsLeft}
use Rattle.defaults.proofs.+emits.Given as goal

abbrev pub decreases-emit_array : goal.decreases-emit_array
decreases-emit_array l = 4 * l.depth + 2

abbrev pub decreases-emit_array-emit_times : goal.decreases-emit_array-emit_times
decreases-emit_array-emit_times l = 4 * l.depth + 1

abbrev pub decreases-emit_definition : goal.decreases-emit_definition
decreases-emit_definition l = 4 * l.depth + 2

abbrev pub decreases-emit_fields : goal.decreases-emit_fields
decreases-emit_fields l = 4 * l.depth + 1

abbrev pub decreases-emit_named : goal.decreases-emit_named
decreases-emit_named l = 4 * l.depth + 3

abbrev pub decreases-emit_type : goal.decreases-emit_type
decreases-emit_type l = 4 * l.depth

abbrev pub invariant-emit_fields-loop-field : goal.invariant-emit_fields-loop-field
invariant-emit_fields-loop-field l =
    let s = l.table.source in
    (types : List TypeDef) (fuel : ℕ) (fs : List Declared) (es : Exprs) → Defines l.table types → Enough l.depth fuel 9 → Spans (declaration s.names) (tokens_of s) fs l.fn.fields → defaults_by (default_named types fuel) fs ≡ some es →
    FieldsLeft (default_named types fuel) s.names (tokens_of s) (declared_left l.field-iterator) (emits l.initial.output (field_tokens (map (λ f. f.name) fs) (operand_tokens es))) l.output
