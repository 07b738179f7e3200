-- `parts::total` meets its contract. Assumes nothing.
use mathlib.Core.Path.{◌∙◌}
use Rattle.std.proofs.Common.{rules, tests}
use Rattle.std.proofs.lemmas.Iterator.{YieldsList-from_slice, YieldsList-from_map}
use Rattle.std.proofs.lemmas.Iterator.Consumers.{sum_by_from_yields_List}
use Rattle.parts.proofs.Words.{sum_all}
use Rattle.parts.proofs.total.Goals as goal

pub returns : goal.returns
returns c =
    sum_by_from_yields_List (λ n. n) c.args.lengths.now c.map.result _ c.sum.ensures.ran
    (YieldsList-from_map _ (λ n. n) (YieldsList-from_slice c.args.lengths.now cc) c.map.ensures.closure (λ x r q k. search (rules, tests)))
    ∙ sum_all c.args.lengths.now
