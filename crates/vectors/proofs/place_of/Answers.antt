use Rattle.std.specs.Prelude.{◌==◌}
use Rattle.std.proofs.Common.{rules}
use borrow.Author.Tests.{tests}
use Rattle.std.proofs.lemmas.Iterator.{YieldsList-from_slice}
use Rattle.std.proofs.lemmas.Iterator.Search.{position_from_yields_List}
use Rattle.vectors.proofs.Places.{placed}
use Rattle.vectors.proofs.place_of.Goals as goal

pub returns : goal.returns
returns c = placed c.args.x c.args.bytes.now c.position.result _ (position_from_yields_List (λ b. b == c.args.x) _ _ c.position.result c.position.ensures.ran (YieldsList-from_slice c.args.bytes.now (cc)) (λ x r q k. search (rules, tests))) c.unwrap_or.ensures
