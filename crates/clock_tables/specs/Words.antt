-- What a word of a table says that is a place or a row and one more, 0 saying none.
use Rattle.std.specs.Prelude.{ℕ, ◌-◌, eqb}
use Rattle.definitions.specs.Lists.{choose}
use Rattle.std.specs.declared.option.Option as code
use Rattle.std.specs.declared.option.Option.TheVariants.{None, Some}

-- where it says that something stands
abbrev pub place_of : ℕ → code.Option ℕ
place_of w = choose (eqb w 0) None (Some (w - 1))
