-- `planned::put_declaration` meets its contract: the name, then the type that was found.
-- Assumes nothing.
use Rattle.definitions.specs.Bytes.{tokens}
use Rattle.planned.proofs.HoldsLaws.{declaration-written, found_as}
use Rattle.planned.proofs.put_declaration.Goals as goal

pub returns : goal.returns
returns c = λ e q ds a g d h. declaration-written _ a _ _ _ c.emit.ensures (c.put_type.ensures a (found_as c.args.source.now.names (tokens c.args.source.now.tags.now c.args.source.now.values.now) _ a _ h (c.type_of-found.ensures e q ds g d)))
