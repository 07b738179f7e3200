-- `spelling::text_writer::TextWriter::put` meets its contract. Assumes nothing.
use mathlib.Core.Path.{sym, ap, ◌∙◌}
use native.Mathlib.Omega.{arith}
use Rattle.spelling.proofs.Writing.{over-set, over-past}
use Rattle.spelling.proofs.text_writer.TextWriter.put.Goals as goal
use Rattle.spelling.proofs.text_writer.TextWriter.put.Goals.{then-at-self, else-at-self}

pub returns : goal.returns
returns c =
    elim c.if-at-self.branch [
      | then-at-self w ↦ record { same = ap (λ s. s.1.0.ghost_name) w.self-is; next = c.saturating_add-self.ensures; put = record { place = omega (arith, c.saturating_add-self.ensures); bytes = ap (λ s. s.1.0.now) w.self-is ∙ sym (over-set _ _ _) } }
      | else-at-self w ↦ record { same = ap (λ s. s.1.0.ghost_name) w.self-is; next = c.saturating_add-self.ensures; put = record { place = omega (arith, c.saturating_add-self.ensures); bytes = ap (λ s. s.1.0.now) w.self-is ∙ sym (over-past _ _ _ w.if-at-self.false) } }
    ]
