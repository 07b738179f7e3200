use Rattle.grammar.proofs.Parts.{definition-alias}
use Rattle.grammar.proofs.read_definition.Goals as goal

pub returns-in-Alias : goal.returns-in-Alias
returns-in-Alias c = definition-alias _ _ _ _ c.definition_head.ensures _ _ c.in_ok-t.was _ _ c.in-Alias.is c.read_type.ensures
