-- The clocks of a node's equations, one after another, as a walk gives them.
use Rattle.std.specs.Prelude.{ℕ, suc, ◌*◌, ◌≡◌, List, Option, Some, None, map, length}
use Rattle.definitions.specs.Tree.{Equation}
use Rattle.definitions.specs.Reading.{got}
use Rattle.definitions.specs.Grammar.{equation}
use Rattle.definitions.specs.Clock as clocks
use Rattle.definitions.specs.InferClocks.{Clocked}
use Rattle.grammar.specs.Read.{tokens_of}
use Rattle.clock_tables.specs.declared.clock.Clock.{Clock}
use Rattle.clock_tables.specs.Value.{value_of}
use Rattle.clock_tables.specs.Flat.{clock_in}
use Rattle.skeleton.specs.Sites.{EquationsOn}
use Rattle.lines.specs.declared.equation_clocks.EquationClocks.{EquationClocks}

-- a walk gives the clock in the row of the equation that stands there, and goes on behind it, until as many are given as were left
unfoldable pub GivesClock : EquationClocks → Option Clock → EquationClocks → Type 0
GivesClock s None t = (s.left ≡ 0) × (t ≡ s)
GivesClock s (Some c) t =
    (s.left ≡ suc t.left) × (t.source ≡ s.source) × (t.sites ≡ s.sites) × (value_of c ≡ clock_in s.sites.now (17 * s.at)) × ((M : ℕ) (e : Equation) (q : ℕ) → equation M (tokens_of s.source) s.at ≡ got e q → t.at ≡ q)

-- these are left: the clocks of equations that stand one after another
pub record ClocksLeft (cs : List clocks.Clock) (s : EquationClocks) : Type 0 where
  pub names : ℕ
  pub equations : List Clocked
  pub end : ℕ
  pub on : EquationsOn names s.source.tags.now s.source.values.now s.sites.now equations s.at end
  pub many : length equations ≡ s.left
  pub same : map (λ c. c.clock) equations ≡ cs
