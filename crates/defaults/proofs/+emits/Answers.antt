-- `defaults::emit_type` and the functions that it calls meet their contracts: the default is written by its parts.
-- The measure falls with the depth at each type, then at each copy or field.
-- Assumes nothing.
use mathlib.Core.Path.{sym, ◌∙◌}
use Rattle.std.proofs.Common.{rules}
use native.Mathlib.Omega.{arith}
use Rattle.definitions.specs.Types.{default_named}
use Rattle.layout.specs.Table.{def_at}
use Rattle.layout.proofs.TypedefsLaws.{named, type-not-refused, type-is-basic, type-is-named, type-is-array}
use Rattle.emit.proofs.Laws.{emits-stuck}
use Rattle.defaults.proofs.Written.{wrote-basic, element-default, wrote-array, wrote-plain, wrote-same, plain-default, named-default, not-unnamed, definition-default, wrote-variant, fields-default, alias-default, wrote-record, fields-next, fields-end}
use Rattle.defaults.proofs.+emits.Goals as goal

pub emit_array-returns-in-Some : goal.emit_array-returns-in-Some
emit_array-returns-in-Some t c = λ types f v y q e s h g d. wrote-plain e _ _ _ _ _ (plain-default (default_named types _) _ y e (c.in-Some.ensures _ y q g) d) c.emit_all.ensures c.emit_literals.ensures

pub emit_array-returns-in-None : goal.emit_array-returns-in-None
emit_array-returns-in-None t c = λ types f v y q e s h g d. wrote-array e _ _ _ _ c.emit_all.ensures (c.emit_times.ensures e (λ o r k. search rules))

pub emit_definition-returns-in-Some-Enum : goal.emit_definition-returns-in-Some-Enum
emit_definition-returns-in-Some-Enum t c = λ types f b q e s h g d. wrote-variant _ _ _ c.args.table.now.source.same_length (default_named types _) b q _ (c.in-Some-Enum.ensures b q g) e d _ _ _ _ _ c.in-Some-Enum.field-0-is c.value_at-v.ensures c.emit.ensures

pub emit_definition-returns-in-Some-Record : goal.emit_definition-returns-in-Some-Record
emit_definition-returns-in-Some-Record t c = λ types f b q e s h g d. let a = fields-default _ _ _ c.args.table.now.source.same_length (default_named types _) b q _ (c.in-Some-Record.ensures b q g) e d _ _ c.in-Some-Record.field-0-is in wrote-record (default_named types _) _ _ a.0 a.1 e _ _ _ (a.2).many a.3 a.4 c.emit_all.ensures (c.emit_fields.ensures types f a.0 a.1 s h a.2 a.3)

pub emit_definition-returns-in-Some-Alias : goal.emit_definition-returns-in-Some-Alias
emit_definition-returns-in-Some-Alias t c = λ types f b q e s h g d. let a = alias-default _ _ _ c.args.table.now.source.same_length (default_named types _) b q _ (c.in-Some-Alias.ensures b q g) e d _ _ c.in-Some-Alias.field-0-is in c.emit_type.ensures types f 8 a.0 q e s h a.1 a.2

pub emit_fields-returns-then-output : goal.emit_fields-returns-then-output
emit_fields-returns-then-output t c = λ types f fs es s h g d. sym ((c.loop-field.invariant types f fs es s h g d).whole ∙ emits-stuck _ _ c.if-output.true)

pub emit_fields-loop-field-preserved : goal.emit_fields-loop-field-preserved
emit_fields-loop-field-preserved t c = λ types f fs es s h g d.
    fields-next (default_named types f) _ _ _ _ _ _ (rw c.in-Some.ensures.steps at (c.loop-field.invariant types f fs es s h g d)) _ _ c.emit.ensures (λ y r e i k. c.emit_type.ensures types f 8 y r e s h i k)

pub emit_fields-returns : goal.emit_fields-returns
emit_fields-returns t c = λ types f fs es s h g d. fields-end (default_named types f) _ _ _ _ _ (c.loop-field.invariant types f fs es s h g d) c.in-None.ensures.steps.0

pub emit_named-returns-in_default : goal.emit_named-returns-in_default
emit_named-returns-in_default t c = λ types f e s h d. absurd (not-unnamed _ _ _ _ types s _ f e d (c.in_default.ensures.first types (named _ _ _ c.args.table.now.source.same_length _ _ types s)))

pub emit_named-returns : goal.emit_named-returns
emit_named-returns t c = λ types f e s h d. let k = c.in-Some.ensures.first types (named _ _ _ c.args.table.now.source.same_length _ _ types s) in let a = definition-default _ _ _ _ types s _ f e d c.in-Some.first k.0 k.1 _ h in c.emit_definition.ensures types a.0 (def_at types c.in-Some.first) a.1 e s a.2 a.3 a.4

pub emit_type-returns-then-output : goal.emit_type-returns-then-output
emit_type-returns-then-output t c = λ types f v y q e s h g d. sym (emits-stuck _ _ c.if-output.true)

pub emit_type-returns-in_default : goal.emit_type-returns-in_default
emit_type-returns-in_default t c = λ types f v y q e s h g d. absurd (type-not-refused _ _ _ _ c.type_head.ensures v y q g _ c.in_default.is)

pub emit_type-returns-in-Basic : goal.emit_type-returns-in-Basic
emit_type-returns-in-Basic t c = λ types f v y q e s h g d. wrote-basic (default_named types f) y e d _ _ _ _ (type-is-basic _ _ _ _ c.type_head.ensures v y q g _ _ c.in-Ok.is _ c.in-Basic.is) c.default_literal.ensures c.emit_literal.ensures

pub emit_type-returns-in-Named : goal.emit_type-returns-in-Named
emit_type-returns-in-Named t c = λ types f v y q e s h g d. c.emit_named.ensures types f e s (omega (arith, h, c.if-depth-eq0.false)) (named-default (default_named types f) y e _ d (type-is-named _ _ _ _ c.type_head.ensures v y q g _ _ c.in-Ok.is _ c.in-Named.is))

pub emit_type-returns-in-Array : goal.emit_type-returns-in-Array
emit_type-returns-in-Array t c = λ types f v y q e s h g d. let a = type-is-array _ _ _ _ c.type_head.ensures v y q g _ _ c.in-Ok.is _ c.in-Array.is in let b = element-default (default_named types f) y e d a.0 _ a.4 in wrote-same e _ _ _ b.2 (c.emit_array.ensures types f _ a.0 q b.0 s (omega (arith, h, a.1, c.if-depth-eq0.false)) a.3 b.1)
