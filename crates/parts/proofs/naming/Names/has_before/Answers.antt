-- `parts::naming::Names::has_before` meets its contract. It is one of the names before where it is one of the first that are walked.
-- Assumes nothing.
use Rattle.std.proofs.Common.{rules, tests}
use Rattle.std.proofs.lemmas.Iterator.{YieldsList-from_take}
use Rattle.std.proofs.lemmas.Iterator.Consumers.{YieldsList-from_first}
use Rattle.std.proofs.lemmas.Iterator.Search.{any_from_yields_List}
use Rattle.std.specs.Str.{bytes_eq}
use mathlib.Core.Path.{sym, ◌∙◌, ap}
use Rattle.definitions.specs.Lists.{same_letters}
use Rattle.definitions.specs.Bytes.{cut}
use Rattle.parts.specs.declared.naming.EachName.{EachName}
use Rattle.parts.proofs.NamesLaws.{any-before, any-listed}
use Rattle.parts.proofs.naming.Names.has_before.Goals as goal

pub returns : goal.returns
returns c =
    let left = ap (λ (s : EachName). cut s.lengths.now s.letters.now) c.take.ensures.source ∙ c.each.ensures in
    any_from_yields_List (bytes_eq c.args.name.now) c.any.new.self _ _ c.any.ensures.ran (YieldsList-from_take c.args.count (YieldsList-from_first (λ y. y.now) (λ s. cut s.lengths.now s.letters.now) _ left) c.take.ensures.count) (λ x b q k. search (rules, tests))
    ∙ any-listed c.args.name.now _
    ∙ sym (any-before c.args.self.lengths.now c.args.self.letters.now (same_letters c.args.name.now) c.args.count c.requires)
