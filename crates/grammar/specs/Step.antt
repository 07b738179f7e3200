-- What stands at a place of a sheet's tokens.
use Rattle.std.specs.Prelude.{ℕ, ◌+◌, List}
use Rattle.std.proofs.Math.Option.{Option, none, some}
use Rattle.std.proofs.Math.ListN.{get_elem?}
use Rattle.std.specs.declared.option.Option as code
use Rattle.std.specs.declared.option.Option.TheVariants.{None, Some}
use Rattle.definitions.specs.Tokens.{TagValue}

-- a token's tag and value with the next place; "the tokens end early"
abbrev pub step_of : Option TagValue → ℕ → code.Option (ℕ × ℕ × ℕ)
step_of none p = None
step_of (some t) p = Some (t.tag, t.value, p + 1)

-- "A reader borrows the sheet's tags and values": the token at a place
abbrev pub step_at : List TagValue → ℕ → code.Option (ℕ × ℕ × ℕ)
step_at ts p = step_of (get_elem? ts p) p
