-- `fault_text::put_lines` meets its contract. Assumes nothing.
use Rattle.std.proofs.Common.{rules}
use Rattle.fault_text.proofs.Laws.{lines-held, lines-text}
use Rattle.fault_text.proofs.put_lines.Goals as goal

pub returns-clause-text_stands : goal.returns-clause-text_stands
returns-clause-text_stands c = λ i h e r. lines-text i _ _ _ (lines-held i _ _ _ _ (search rules) (c.write_lines.ensures.lines_stand i h e r))
