-- `spelling::text_writer::copy_at` meets its contract. Assumes nothing.
use mathlib.Core.Path.{sym}
use native.Mathlib.Omega.{arith}
use Rattle.spelling.proofs.Writing.{over-past, over-copied}
use Rattle.spelling.proofs.text_writer.copy_at.Goals as goal

pub returns-then-at-out-clause-out_after : goal.returns-then-at-out-clause-out_after
returns-then-at-out-clause-out_after c = over-copied c.args.at c.min-fits.result _ c.args.part.now c.args.out.now _ (omega (arith, c.if-at-out.true)) c.min-fits.ensures (omega arith) c.copy_items.ensures

pub returns-else-at-out-clause-out_after : goal.returns-else-at-out-clause-out_after
returns-else-at-out-clause-out_after c = sym (over-past _ _ _ c.if-at-out.false)
