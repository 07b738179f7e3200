-- The test of each row, over the rows' numbers.
use mathlib.Core.Path.{refl, ◌∙◌}
use native.Mathlib.Omega.{arith}
use Prim.Native.Nat.{◌*◌}
use Rattle.std.proofs.Common.{rules, tests}
use Rattle.std.proofs.lemmas.Iterator.{YieldsList-from_range}
use Rattle.std.proofs.lemmas.Iterator.Search.{any_from_yields_List}
use Rattle.definitions.specs.InferClocks.{is_too_deep}
use Rattle.findings.specs.Findings.{finding_in}
use Rattle.findings.proofs.Laws.{any-row}
use Rattle.findings.proofs.FindingList.any_deep.Goals as goal

pub returns : goal.returns
returns c =
    any_from_yields_List (λ i. is_too_deep (finding_in c.args.self.now.words.now (38 * i))) _ _ _ c.any.ensures.ran (YieldsList-from_range 0 c.args.self.now.count c.args.self.now.count refl (omega arith))
    (λ i b q k. search (rules, tests))
    ∙ any-row c.args.self.now.words.now 0 c.args.self.now.count
