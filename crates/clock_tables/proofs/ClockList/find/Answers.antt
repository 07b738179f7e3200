use mathlib.Core.Path.{ap, ◌∙◌}
use Rattle.definitions.specs.Declock.{clock_place}
use Rattle.clock_tables.specs.Value.{value_of}
use Rattle.clock_tables.proofs.RowsLaws.{has_all, place_found}
use Rattle.clock_tables.proofs.ClockList.find.Goals as goal

pub returns : goal.returns
returns c = λ cs l h. c.unwrap_or.ensures ∙ place_found c.args.self.now.words.now (value_of c.args.c) c.args.self.now.count c.place.result c.place.ensures ∙ ap (clock_place (value_of c.args.c)) (has_all c.args.self.now.words.now c.args.self.now.count cs l h)
