-- What the walk finds: a natural clock, with the place behind what has none.
use Rattle.std.specs.Prelude.{ℕ, ◌*◌, ◌≡◌, List, Bool, true, false, not, eqb, get_or, Result, Ok, Err}
use Rattle.std.proofs.Math.Option.{none, some}
use Rattle.definitions.specs.Tree.{Exprs}
use Rattle.definitions.specs.InferClocks.{Natural, Clocks, deep, formed, ◌or◌, parent_of, natural}
use Rattle.clock_tables.specs.Value.{value_of}
use Rattle.clock_tables.specs.declared.TooDeep.{TooDeep}
use Rattle.clock_tables.specs.Environment.{env_at}
use Rattle.inference.specs.declared.Walked.{Walked}
use Rattle.inference.specs.declared.TokensTell.{TokensTell}

-- r is the natural clock n of what ends at q; without a clock it says where that is
abbrev pub Finds : Result Walked TooDeep → Natural → ℕ → Type 0
Finds (Err d) n q = n ≡ deep
Finds (Ok (Walked.On c)) n q = n ≡ formed (some (value_of c))
Finds (Ok (Walked.Free end)) n q = (n ≡ formed none) × (end ≡ q)

-- a clock, or its parent
abbrev pub lifted : Bool → Natural → Natural
lifted true n = parent_of n
lifted false n = n

-- the first clock among operands, or the first parent of one
unfoldable pub first_of : Clocks → Bool → Exprs → Natural
unfolding natural
first_of clocks up Exprs.end = formed none
first_of clocks up (Exprs.and e es) = lifted up (natural clocks e) or first_of clocks up es

-- does a name have a clock in the table?
abbrev pub listed : List ℕ → ℕ → Bool
listed env x = not (eqb (get_or env (17 * x) 0) 0)

-- what is told is so of the natural clock n
abbrev pub Tells : TokensTell → List ℕ → Natural → Type 0
Tells TokensTell.NoClock env n = n ≡ formed none
Tells (TokensTell.ClockOf x) env n = n ≡ formed (env_at env x)
Tells TokensTell.NoMore env n = Unit {0}
