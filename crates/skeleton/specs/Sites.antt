-- Sites keyed by token: for each `pre`, `->` and call, seventeen words of a table have its clock.
use Rattle.std.specs.Prelude.{ℕ, ◌+◌, ◌*◌, ◌≡◌, Bool, true, false, List, [], ◌∷◌, length}
use Rattle.definitions.specs.Bytes.{tokens}
use Rattle.definitions.specs.Tree.{Expr, Equation}
use Rattle.definitions.specs.Reading.{got}
use Rattle.definitions.specs.Grammar.{equation}
use Rattle.definitions.specs.Clock.{Clock}
use Rattle.definitions.specs.InferClocks.{Clocked}
use Rattle.clock_tables.specs.Flat.{clock_in}
use Rattle.operands.specs.Spread.{tree}
use Rattle.skeleton.specs.Lies.{LiesAt}

-- is it a `pre`, a `->` or a call?
abbrev pub is_site : Expr → Bool
is_site (Expr.const l w) = false
is_site (Expr.var x) = false
is_site (Expr.op h es) = false
is_site (Expr.pre e) = true
is_site (Expr.arrow a b) = true
is_site (Expr.call f es) = true
is_site (Expr.when k e) = false
is_site (Expr.merge x a b) = false

-- an expression was read from p up to q
abbrev pub WasRead : ℕ → List ℕ → List ℕ → Clock → Expr → ℕ → ℕ → Type 0
WasRead M gs vs c e p q = tree M (tokens gs vs) p ≡ got e q

-- and if it is a site, the table has its clock in its token's row
pub record Sited (M : ℕ) (gs vs sites : List ℕ) (c : Clock) (e : Expr) (p q : ℕ) : Type 0 where
  pub stands : tree M (tokens gs vs) p ≡ got e q
  pub row : is_site e ≡ true → clock_in sites (17 * p) ≡ c

-- the equation from p up to q on this clock, which stands in its count's row; its right side behind the left names, with its sites
pub record EquationSited (M : ℕ) (gs vs sites : List ℕ) (c : Clock) (e : Equation) (p q : ℕ) : Type 0 where
  pub stands : equation M (tokens gs vs) p ≡ got e q
  pub row : clock_in sites (17 * p) ≡ c
  pub right : LiesAt gs vs (Sited M gs vs sites) c e.right (p + 1 + length e.left) q

-- equations from p up to q, with their clocks
unfoldable pub EquationsSited : ℕ → List ℕ → List ℕ → List ℕ → List Clocked → ℕ → ℕ → Type 0
EquationsSited M gs vs sites [] p q = p ≡ q
EquationsSited M gs vs sites (e ∷ es) p q = (r : ℕ) × EquationSited M gs vs sites e.clock e.equation p r × EquationsSited M gs vs sites es r q

-- the same of their clocks alone
unfoldable pub EquationsOn : ℕ → List ℕ → List ℕ → List ℕ → List Clocked → ℕ → ℕ → Type 0
EquationsOn M gs vs sites [] p q = p ≡ q
EquationsOn M gs vs sites (e ∷ es) p q = (r : ℕ) × (equation M (tokens gs vs) p ≡ got e.equation r) × (clock_in sites (17 * p) ≡ e.clock) × EquationsOn M gs vs sites es r q
