-- `spelling::text_writer::TextWriter::put_all` meets its contract. Assumes nothing.
use mathlib.Core.Path.{refl}
use native.Mathlib.Omega.{arith}
use Rattle.spelling.proofs.text_writer.TextWriter.put_all.Goals as goal

pub returns : goal.returns
returns c = record { same = refl; next = c.saturating_add-self.ensures; put = record { place = omega (arith, c.saturating_add-self.ensures); bytes = c.copy_at.ensures.out_after } }
