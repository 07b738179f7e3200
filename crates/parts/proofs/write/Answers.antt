-- `parts::write` meets its contract. Assumes nothing.
use mathlib.Core.Path.{◌∙◌}
use native.Mathlib.Omega.{arith}
use Rattle.parts.proofs.Whole.{sheet-long, sheet-stored, enough, too_few, filled, untouched}
use Rattle.parts.proofs.write.Goals as goal
use Rattle.parts.proofs.write.Goals.{After-put_words}

pub returns-then-out-needed : goal.returns-then-out-needed
returns-then-out-needed c = let n = sheet-long c.args.names c.args.tags.now c.args.values.now c.requires.tags_value in
    record {
      value = too_few _ c.args.out.now _ n (omega (arith, c.if-out-needed.true));
      out_after = untouched _ c.args.out.now _ n (omega (arith, c.if-out-needed.true));
    }

pub returns-clause-value : goal.returns-clause-value
returns-clause-value c = let n = sheet-long c.args.names c.args.tags.now c.args.values.now c.requires.tags_value in
    enough _ c.args.out.now _ n (omega (arith, c.if-out-needed.false))

pub returns-clause-out_after : goal.returns-clause-out_after
returns-clause-out_after c = let n = sheet-long c.args.names c.args.tags.now c.args.values.now c.requires.tags_value in
    sheet-stored c.args.names c.args.tags.now c.args.values.now c.requires.tags_value c.args.out.now _ _ _ _ _ c.if-out-needed.false c.put_words.ensures c.copy_from_slice.ensures.after c.copy_from_slice-2.ensures.after c.copy_from_slice-3.ensures.after c.put_words-2.ensures
    ∙ filled _ c.args.out.now _ n (omega (arith, c.if-out-needed.false))
