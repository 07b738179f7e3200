-- `defaults::type_has_default` meets its contract: by the name that the type ends in.
-- Assumes nothing.
use Rattle.definitions.specs.Types.{default_named}
use Rattle.layout.proofs.TypedefsLaws.{named}
use Rattle.defaults.proofs.Laws.{whole-default, has-none, has-one, has-unnamed, has-at}
use Rattle.defaults.proofs.type_has_default.Goals as goal

pub returns-in_default : goal.returns-in_default
returns-in_default c = λ types y q s h g. whole-default types _ s.count _ y (has-none (default_named types _) y (c.in_default.ensures y q g))

pub returns-in-Some-find : goal.returns-in-Some-find
returns-in-Some-find c = λ types y q s h g.
    let k = c.in-Some-find.ensures.first types (named _ _ _ c.args.table.now.source.same_length _ _ types s) in
    whole-default types _ s.count _ y (has-one (default_named types _) y _ _ (c.in-Some.ensures y q g) (has-at types _ s.count c.args.has.now h _ _ k.0 k.1))

pub returns-in-None : goal.returns-in-None
returns-in-None c = λ types y q s h g.
    whole-default types _ s.count _ y (has-one (default_named types _) y _ _ (c.in-Some.ensures y q g) (has-unnamed types _ s.count c.args.has.now h _ (c.in-None.ensures.first types (named _ _ _ c.args.table.now.source.same_length _ _ types s))))
