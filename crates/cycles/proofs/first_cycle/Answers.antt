-- `cycles::first_cycle` meets its contract: the search stops at the first that is a cycle. Assumes nothing.
use Rattle.std.proofs.Common.{rules, true, false, List}
use Rattle.std.proofs.lemmas.Iterator.{first_from_Range}
use Rattle.definitions.specs.Tree.{TypeDef}
use Rattle.cycles.specs.Defines.{Defines}
use Rattle.cycles.specs.Edges.{Edges}
use Rattle.cycles.proofs.Laws.{Told, first-found}
use Rattle.cycles.proofs.first_cycle.Goals as goal

pub returns : goal.returns
returns c = λ types t.
    let T = Defines c.args.table.now in
    let E = λ (ts : List TypeDef). Edges ts c.edges-graph.result in
    first-found types T E t (c.edges-graph.ensures.edges types t) _ c.find.result t.count
    (first_from_Range _ _ _ _ (Told T E true) (Told T E false) c.find.ensures.ran (λ x q k. search rules) (λ x q k. search rules))
