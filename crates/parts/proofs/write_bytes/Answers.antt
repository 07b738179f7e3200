-- `parts::write_bytes` meets its contract. Assumes nothing.
use mathlib.Core.Path.{refl, ◌∙◌}
use native.Mathlib.Omega.{arith}
use Rattle.parts.proofs.Words.{bytes_over}
use Rattle.parts.proofs.Whole.{enough, too_few, filled, untouched}
use Rattle.parts.proofs.write_bytes.Goals as goal

pub returns-then-out-n : goal.returns-then-out-n
returns-then-out-n c = let s = c.args in
    record {
      value = too_few s.bytes.now s.out.now _ refl (omega (arith, c.if-out-n.true));
      out_after = untouched s.bytes.now s.out.now _ refl (omega (arith, c.if-out-n.true));
    }

pub returns-clause-value : goal.returns-clause-value
returns-clause-value c = enough c.args.bytes.now c.args.out.now _ refl (omega (arith, c.if-out-n.false))

pub returns-clause-out_after : goal.returns-clause-out_after
returns-clause-out_after c = rw c.copy_items.ensures (bytes_over c.args.out.now c.args.bytes.now (omega (arith, c.if-out-n.false)) ∙ filled c.args.bytes.now c.args.out.now _ refl (omega (arith, c.if-out-n.false)))
