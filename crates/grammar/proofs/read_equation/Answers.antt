use Rattle.grammar.proofs.Parts.{equation-on}
use Rattle.grammar.proofs.read_equation.Goals as goal

pub returns : goal.returns
returns c = equation-on _ _ _ _ c.read_names.ensures _ _ c.in_ok-next.was c.read_expr.ensures
