-- `parts::read_parts` meets its contract. Assumes nothing.
use Rattle.std.proofs.Common.{rules}
use Rattle.parts.proofs.Laws.{values-left, tags-over, values-over, tags-kept, values-kept}
use Rattle.parts.proofs.read_parts.Goals as goal

pub returns-in_err-sizes-clause-tags : goal.returns-in_err-sizes-clause-tags
returns-in_err-sizes-clause-tags c = tags-kept c.args.sheet.now _ c.in_err-sizes.ensures.answer c.args.into.now.tags

pub returns-in_err-sizes-clause-values : goal.returns-in_err-sizes-clause-values
returns-in_err-sizes-clause-values c = values-kept c.args.sheet.now _ c.in_err-sizes.ensures.answer c.args.into.now.values

pub read_words-requires : goal.read_words-requires
read_words-requires c = values-left c.args.sheet.now _ c.in_ok-sizes.ensures.answer c.args.into.now.values (search rules)

pub returns-clause-tags : goal.returns-clause-tags
returns-clause-tags c = tags-over c.args.sheet.now _ c.in_ok-sizes.ensures.answer c.args.into.now.tags (search rules) _ (cc)

pub returns-clause-values : goal.returns-clause-values
returns-clause-values c = values-over c.args.sheet.now _ c.in_ok-sizes.ensures.answer c.args.into.now.values (search rules) _ c.read_words.ensures
