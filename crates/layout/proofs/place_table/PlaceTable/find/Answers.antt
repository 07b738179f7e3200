-- `find` meets its contract: of the places in use. Assumes nothing.
use Rattle.std.specs.Prelude.{◌==◌}
use Rattle.std.proofs.Common.{rules, get_or, take}
use borrow.Author.Tests.{tests}
use Rattle.std.proofs.lemmas.Iterator.{YieldsList-from_slice}
use Rattle.std.proofs.lemmas.Iterator.Search.{position_from_yields_List}
use Rattle.layout.proofs.place_table.PlaceTable.find.Goals as goal

pub returns-clause-first : goal.returns-clause-first
returns-clause-first g c =
    position_from_yields_List (λ p. get_or c.args.values.now p 0 == c.args.x) _ _ c.position.result c.position.ensures.ran (YieldsList-from_slice (take c.args.self.now.count c.args.self.now.at) (cc)) (λ x r q k. search (rules, tests))
