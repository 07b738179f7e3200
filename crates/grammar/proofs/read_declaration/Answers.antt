use Rattle.grammar.proofs.Parts.{declaration-more}
use Rattle.grammar.proofs.read_declaration.Goals as goal

pub returns : goal.returns
returns c = declaration-more _ _ _ _ c.read_name.ensures _ _ c.in_ok-next.was c.read_type.ensures
