-- What inference and checking answer, in the code's terms.
use Rattle.std.specs.Prelude.{ℕ, suc, ◌*◌, ◌≤◌, ◌<◌, ◌≡◌, Bool, true, false, length}
use mathlib.Core.List.{List, [], ◌∷◌, ◌++◌}
use Rattle.definitions.specs.declared.Refusal.{Refusal}
use Rattle.definitions.specs.Tree.{Equation, Node}
use Rattle.definitions.specs.Refusals.{Answer, accepted, refused}
use Rattle.definitions.specs.InferClocks.{Formed, deep, formed, ◌>>=◌, Clocks, Finding, Clocked, Clocking, natural, or_base, check_equation}
use Rattle.definitions.specs.Output.{ClockedNode}
use Rattle.grammar.specs.declared.source.Source.{Source}
use Rattle.clock_tables.specs.Environment.{Agrees}
use Rattle.findings.specs.Findings.{findings_in, FindingsHeld}
use Rattle.inference.specs.Passes.{RoomForNames}
use Rattle.skeleton.specs.Sites.{EquationsOn, EquationsSited}
use Rattle.checking.specs.declared.CheckOutput.{CheckOutput}
use Rattle.checking.specs.Walk.{only_sites}
use Rattle.std.specs.Prelude.{Result, Ok, Err}
use Rattle.clock_tables.specs.declared.TooDeep.{TooDeep}
use Rattle.infer_clocks.specs.declared.NodeClocked.{NodeClocked}

module _ (node : Node) (clocks : Clocks) where
  -- what is found in equation i, on its natural clock or base
  unfoldable pub found_in : ℕ → Equation → Formed (List Finding)
  unfolding natural check_equation
  found_in i e = natural clocks e.right >>= λ o. formed (check_equation node clocks i (record { clock = or_base o; equation = e }))

  -- what is found in equations, from equation i on
  unfoldable pub found_from : ℕ → List Equation → Formed (List Finding)
  unfolding found_in
  found_from i [] = formed []
  found_from i (e ∷ es) = found_in i e >>= λ l. found_from (suc i) es >>= λ rest. formed (l ++ rest)

-- was too deep a clock formed?
abbrev pub is_deep : {A : Type 0} → Formed A → Bool
is_deep deep = true
is_deep (formed a) = false

-- these findings, then others
abbrev pub joined : List Finding → Formed (List Finding) → Formed (List Finding)
joined fs v = v >>= λ l. formed (fs ++ l)

-- too deep a clock, or findings, which the table holds
unfoldable pub Tallied : {A : Type 0} → CheckOutput → Result A TooDeep → Formed (List Finding) → Type 0
Tallied o (Err d) v = v ≡ deep
Tallied o (Ok a) v = (fs : List Finding) × (v ≡ formed fs) × FindingsHeld o.findings.now.words.now o.findings.now.count fs

-- the same of a table's words, and how many findings there are
unfoldable pub Counted : List ℕ → Result ℕ TooDeep → Formed (List Finding) → Type 0
Counted t (Err d) v = v ≡ deep
Counted t (Ok n) v = (fs : List Finding) × (v ≡ formed fs) × FindingsHeld t n fs

-- a node's clocks: the number of passes, the names' clocks in one table, the findings in another
pub record ClocksStand (env t : List ℕ) (m passes n : ℕ) (k : Clocking) : Type 0 where
  pub made : k.passes ≡ passes
  pub named : Agrees env m k.names
  pub room : 38 * n ≤ length t
  pub all : findings_in t n ≡ k.findings

-- the tables of chains and of their order have a row and a place for each of so many findings, of which each has a number
pub record ChainRoom (count : ℕ) (rows chain : List ℕ) : Type 0 where
  pub rowed : 17 * count ≤ length rows
  pub placed : count ≤ length chain
  pub numbered : count < 4294967296

-- the tables of names' clocks, of marks and of findings have room for the names and tokens of a sheet
pub record RoomToClock (s : Source) (env : List ℕ) (marks : List Bool) (table : List ℕ) : Type 0 where
  pub named : RoomForNames s.names env marks
  pub rowed : 38 * length s.tags.now ≤ length table

-- the equations' clocks stand in the rows of their counts, and where nothing but sites was found, each site's in its own
pub record SitesTold (s : Source) (sites : List ℕ) (fs : List Finding) (cs : List Clocked) (p q : ℕ) : Type 0 where
  pub on : EquationsOn s.names s.tags.now s.values.now sites cs p q
  pub sited : only_sites fs ≡ true → EquationsSited s.names s.tags.now s.values.now sites cs p q

-- a node's clocks, unless too deep a clock was formed
unfoldable pub ClockedOrDeep : List ℕ → List ℕ → ℕ → Result NodeClocked TooDeep → Formed Clocking → Type 0
ClockedOrDeep env t m (Err d) v = v ≡ deep
ClockedOrDeep env t m (Ok c) v = (k : Clocking) × (v ≡ formed k) × ClocksStand env t m c.passes c.findings k

-- q, where the nodes end; or the refusal of the first in which too deep a clock is formed
unfoldable pub Deeply : ℕ → Result ℕ Refusal → Answer (List ClockedNode) → Type 0
Deeply q (Err r) v = v ≡ refused r
Deeply q (Ok p) v = (p ≡ q) × (l : List ClockedNode) × (v ≡ accepted l)
