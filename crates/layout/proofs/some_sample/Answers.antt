-- `layout::some_sample` meets its contract: a mark is known by its tag. Assumes nothing.
use Rattle.std.proofs.Common.{rules, ◌∙◌, sym}
use borrow.Author.Tests.{tests}
use Rattle.std.proofs.lemmas.Iterator.{YieldsList-from_slice, YieldsList-from_take}
use Rattle.std.proofs.lemmas.Iterator.Adapters.{YieldsList-from_skip}
use Rattle.std.proofs.lemmas.Iterator.Search.{any_from_yields_List}
use Rattle.layout.specs.Marks.{is_sample}
use Rattle.layout.proofs.Marks.{marks-any}
use Rattle.layout.proofs.some_sample.Goals as goal

pub returns : goal.returns
returns c = λ vs b m.
    any_from_yields_List is_sample _ _ c.any.result c.any.ensures.ran (YieldsList-from_skip c.args.from (YieldsList-from_take c.args.to (YieldsList-from_slice c.args.tags.now (cc)) (cc)) (cc)) (λ x r q k. search (rules, tests)) ∙ sym (marks-any m)
