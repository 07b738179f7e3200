-- `planned::put_hold_declarations` meets its contract: one after another.
-- Assumes nothing.
use mathlib.Core.Path.{◌∙◌, sym, ap}
use Rattle.std.proofs.lemmas.List.{get_or_default}
use Rattle.planned.specs.declared.HeldOperand.{HeldOperand}
use Rattle.planned.proofs.HoldsLaws.{declared-hold, declarations-none, declarations-more}
use Rattle.planned.proofs.put_hold_declarations.Goals as goal

pub loop-j-preserved : goal.loop-j-preserved
loop-j-preserved c = λ W plan hs ids n h d i. declarations-more _ c.args.written.now.index.now.source.tags.now c.args.written.now.index.now.source.values.now W plan c.args.written.now.holds.now ids _ _ _ _ _ c.loop-j-test.true (c.loop-j.invariant W plan hs ids n h d i) (λ u s. declared-hold _ c.args.written.now.index.now.source.tags.now c.args.written.now.index.now.source.values.now W plan c.args.written.now.holds.now c.args.written.now.types.now _ _ _ u _ _ s d (ap (λ (h : HeldOperand). h.at) (get_or_default c.args.written.now.holds.now c.loop-j.j _ _ c.loop-j-test.true)) c.put_declaration.ensures _ (i _ ∙ sym c.word_at-x.ensures))

pub returns : goal.returns
returns c = λ W plan hs ids n h d i. declarations-none _ c.args.written.now.index.now.source.tags.now c.args.written.now.index.now.source.values.now W plan c.args.written.now.holds.now ids _ _ _ _ c.loop-j-test.false (c.loop-j.invariant W plan hs ids n h d i)
