-- Checking in the code's terms: what is met at a token, and what a walk did to the tables of findings and of sites.
use Rattle.std.specs.Prelude.{ℕ, ◌+◌, ◌*◌, ◌≤◌, ◌<◌, ◌≡◌, List, [], ◌∷◌, Bool, true, false, ◌⊎◌, eqb, length, get_or}
use Rattle.std.proofs.Math.Option.{Option, none, some}
use Rattle.definitions.specs.Lists.{choose, all}
use Rattle.definitions.specs.Tree.{Expr, Exprs, Equation, Node}
use Rattle.definitions.specs.Clock.{Clock, same_clock}
use Rattle.definitions.specs.InferClocks.{Clocks, is_port, used_elsewhere, Fault, Finding, found, site, too_deep, must_be_on, check}
use Rattle.grammar.specs.declared.source.Source.{Source}
use Rattle.clock_tables.specs.declared.clock.Clock as struct
use Rattle.clock_tables.specs.Value.{value_of}
use Rattle.clock_tables.specs.Flat.{clock_in}
use Rattle.clock_tables.specs.Environment.{Agrees}
use Rattle.findings.specs.Met.{Met}
use Rattle.findings.specs.declared.ClockFault.{ClockFault}
use Rattle.findings.specs.Value.{clock_fault_of}
use Rattle.skeleton.specs.Lies.{Frame, Lies, LiesAt}
use Rattle.skeleton.specs.Sites.{WasRead, Sited, EquationSited}
use Rattle.checking.specs.declared.CheckInput.{CheckInput}
use Rattle.checking.specs.declared.CheckOutput.{CheckOutput}

-- the clock that it has, if that is other than c
abbrev pub other_than : Clock → Option Clock → Option Clock
other_than c none = none
other_than c (some d) = choose (same_clock d c) none (some d)

-- what a call of the closure answers is the fault that `make` makes of its clock
abbrev pub Makes : (struct.Clock → ClockFault → Type 0) → (Clock → Fault) → Type 0
Makes post make = (d : struct.Clock) (f : ClockFault) → post d f → clock_fault_of f ≡ make (value_of d)

-- is it the clock of a `pre` or `->`, and no fault and no clock too deep?
abbrev pub is_site_found : Finding → Bool
is_site_found (found f) = false
is_site_found (site c) = true
is_site_found too_deep = false

-- are these sites alone?
abbrev pub only_sites : List Finding → Bool
only_sites fs = all is_site_found fs

-- is it the tag of a `pre`, a `->` or a call?
abbrev pub is_site_tag : ℕ → Bool
is_site_tag tag = choose (eqb tag 58) true (choose (eqb tag 59) true (eqb tag 60))

-- what equation i meets at a token that is that of no when and no merge: "54 var(id)", "58 pre", "59 arrow"
unfoldable pub meets : Clocks → ℕ → Clock → ℕ → ℕ → List Finding
unfolding must_be_on
meets clocks i c tag x =
    choose (eqb tag 54) (must_be_on clocks i c x (λ d. used_elsewhere x d c)) (choose (eqb tag 58) (site c ∷ []) (choose (eqb tag 59) (site c ∷ []) []))

-- of the rows of sites, seventeen words each, only that of token p may have changed; it has this clock if b, and if there is room for it
pub record SiteStored (sites sites' : List ℕ) (b : Bool) (c : Clock) (p : ℕ) : Type 0 where
  pub long : length sites' ≡ length sites
  pub here : b ≡ true → 17 * p + 17 ≤ length sites → clock_in sites' (17 * p) ≡ c
  pub elsewhere : (j : ℕ) → (j ≡ p → ⊥) → clock_in sites' (17 * j) ≡ clock_in sites (17 * j)

-- what a walk from p up to q did that met these findings: that it ended there, what the table of findings holds, which rows of sites are
-- as before, and what every later table says that has the same rows, where sites alone were met
pub record Traversed (k : CheckInput) (o o' : CheckOutput) (met : Clocks → List Finding) (Says : List ℕ → Type 0) (p q r : ℕ) : Type 0 where
  pub end : r ≡ q
  pub holds : (clocks : Clocks) → Agrees k.env.now k.source.names clocks → Met (met clocks) o.findings.now o'.findings.now
  pub kept : (j : ℕ) → (j < p) ⊎ (q ≤ j) → clock_in o'.sites.now (17 * j) ≡ clock_in o.sites.now (17 * j)
  pub sited : (clocks : Clocks) → 17 * length k.source.tags.now ≤ length o.sites.now → only_sites (met clocks) ≡ true → (later : List ℕ) → ((j : ℕ) → p ≤ j → j < q → clock_in later (17 * j) ≡ clock_in o'.sites.now (17 * j)) → Says later

-- the tables stay those that were lent, and as long
pub record Stays (o o' : CheckOutput) : Type 0 where
  pub same_findings : o'.findings.ghost_name ≡ o.findings.ghost_name
  pub findings_stay : o'.findings.now.words.ghost_name ≡ o.findings.now.words.ghost_name
  pub sites_stay : o'.sites.ghost_name ≡ o.sites.ghost_name
  pub findings_length : length o'.findings.now.words.now ≡ length o.findings.now.words.now
  pub sites_length : length o'.sites.now ≡ length o.sites.now

-- these parts on this clock were read so
abbrev pub ReadAll : CheckInput → Clock → Exprs → Frame → ℕ → ℕ → ℕ → Type 0
ReadAll k c es fs p n q = Lies k.source.tags.now k.source.values.now (WasRead k.source.names k.source.tags.now k.source.values.now) c es fs p n q

-- and the clocks of their sites stand in these rows
abbrev pub StandAll : CheckInput → List ℕ → Clock → Exprs → Frame → ℕ → ℕ → ℕ → Type 0
StandAll k sites c es fs p n q = Lies k.source.tags.now k.source.values.now (Sited k.source.names k.source.tags.now k.source.values.now sites) c es fs p n q

-- this expression on this clock stands from p up to q, and the clocks of its sites in these rows
abbrev pub Stands : CheckInput → List ℕ → Clock → Expr → ℕ → ℕ → Type 0
Stands k sites c e p q = LiesAt k.source.tags.now k.source.values.now (Sited k.source.names k.source.tags.now k.source.values.now sites) c e p q

-- what equation i from p up to q on this clock stored: rows of other tokens are as before, its clock stands in its count's row, and its
-- sites have theirs in every later table of the same rows, where checking its right side met sites alone
pub record EquationStored (s : Source) (sites sites' : List ℕ) (i : ℕ) (c : Clock) (e : Equation) (p q : ℕ) : Type 0 where
  pub kept : (j : ℕ) → (j < p) ⊎ (q ≤ j) → clock_in sites' (17 * j) ≡ clock_in sites (17 * j)
  pub row : 17 * length s.tags.now ≤ length sites → clock_in sites' (17 * p) ≡ c
  pub sited : (clocks : Clocks) → 17 * length s.tags.now ≤ length sites → only_sites (check clocks i c e.right) ≡ true → (later : List ℕ) → ((j : ℕ) → p ≤ j → j < q → clock_in later (17 * j) ≡ clock_in sites' (17 * j)) → EquationSited s.names s.tags.now s.values.now later c e p q

-- of the names below m, the inputs and outputs of this node are marked
pub record PortMarks (ports : List Bool) (m : ℕ) (n : Node) : Type 0 where
  pub same : (x : ℕ) → x < m → get_or ports x false ≡ is_port n x

-- what checking reads is of this node: its names' clocks, and the marks of its inputs and outputs
pub record ReadsNode (i : CheckInput) (node : Node) (clocks : Clocks) : Type 0 where
  pub agrees : Agrees i.env.now i.source.names clocks
  pub ports : PortMarks i.ports.now i.source.names node
