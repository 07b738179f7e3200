-- `spelling::TakenNames::has` meets its contract. Assumes nothing.
use Rattle.std.proofs.Common.{rules, tests, nat_eq}
use mathlib.Core.Path.{◌∙◌}
use Rattle.std.specs.Cmp.Lexicographic.{pointwise}
use Rattle.std.proofs.lemmas.Iterator.{YieldsList-from_slice}
use Rattle.std.proofs.lemmas.Iterator.Search.{any_from_yields_List}
use Rattle.spelling.specs.Places.{letters_in}
use Rattle.spelling.proofs.Places.{among-any}
use Rattle.spelling.proofs.TakenNames.has.Goals as goal

pub returns : goal.returns
returns c =
    any_from_yields_List (λ i. pointwise nat_eq c.args.name.now (letters_in c.args.self.spelling i)) _ _ _ c.any.ensures.ran (YieldsList-from_slice c.args.self.ids.now cc) (λ x b q k. search (rules, tests))
    ∙ among-any c.args.name.now (letters_in c.args.self.spelling) c.args.self.ids.now
