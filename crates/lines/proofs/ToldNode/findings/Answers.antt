-- `lines::ToldNode::findings` meets its contract: as many as were told. Assumes nothing.
use mathlib.Core.Path.{refl}
use Rattle.lines.proofs.ToldNode.findings.Goals as goal

pub returns-clause-count_value : goal.returns-clause-count_value
returns-clause-count_value c = refl
