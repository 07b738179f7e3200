-- Which equations a pass need not read: those none of whose names changed in it or in the pass before.
use Rattle.std.specs.Prelude.{ℕ, zero, suc, ◌≤◌, ◌<◌, ◌≡◌, Bool, true, false, ◌||◌, eqb, ltb, leb, length, get_or, set, Result, Ok, Err}
use mathlib.Core.List.{List, [], ◌∷◌, Memᴰ}
use Rattle.std.proofs.Math.Option.{Option, none, some}
use Rattle.definitions.specs.Lists.{choose}
use Rattle.definitions.specs.Tokens.{TagValue}
use Rattle.definitions.specs.Tree.{Expr, Exprs, Equation, Node}
use Rattle.definitions.specs.Grammar.{equation}
use Rattle.definitions.specs.Clock.{Clock}
use Rattle.definitions.specs.InferClocks.{Formed, deep, formed, Clocks, clock_of, natural, Pass, is_port, has_clock}
use Rattle.grammar.specs.Outcome.{outcome}
use Rattle.layout.specs.Spans.{end_of}
use Rattle.clock_tables.specs.declared.TooDeep.{TooDeep}
use Rattle.inference.specs.Passes.{PassSoFar, given, stepped}

-- where the equation at p ends; p, where it is refused
abbrev pub end_from : ℕ → List TagValue → ℕ → ℕ
end_from M ts p = end_of (outcome (equation M ts p)) p

-- the place after k equations, of which the first stands at p
unfoldable pub place_of : ℕ → List TagValue → ℕ → ℕ → ℕ
place_of M ts p zero = p
place_of M ts p (suc k) = end_from M ts (place_of M ts p k)

-- a table of where the first 64 of so many equations end
pub record Ended (M : ℕ) (ts : List TagValue) (p count : ℕ) (ends : List ℕ) : Type 0 where
  pub ends_at : (k : ℕ) → k < count → k < 64 → get_or ends k 0 ≡ place_of M ts p (suc k)

-- the tags of left names, of names used, and of clock names: 4, 54, and 67 to 69
abbrev pub named : ℕ → Bool
named tag = choose (eqb tag 4) true (choose (eqb tag 54) true (choose (ltb tag 67) false (leb tag 69)))

-- the clock of x last changed in a pass before this one
pub record Unchanged (since : List ℕ) (bound x : ℕ) : Type 0 where
  pub inside : x < length since
  pub earlier : get_or since x 0 < bound

-- passes were made, and the names in these tokens last changed before the last of them
pub record Quiet (gs vs since : List ℕ) (made from to : ℕ) : Type 0 where
  pub later : 0 < made
  pub settled : (i : ℕ) → from ≤ i → i < to → i < length gs → named (get_or gs i 0) ≡ true → Unchanged since made (get_or vs i 0)

module _ (P : ℕ → Type 0) where
  -- P of each name of a list
  unfoldable pub EachOf : List ℕ → Type 0
  EachOf [] = Unit {0}
  EachOf (x ∷ xs) = P x × EachOf xs

  -- P of each name by which the natural clock of an expression goes
  unfoldable mutual
    pub Each : Expr → Type 0
    Each (Expr.const l w) = Unit {0}
    Each (Expr.var x) = P x
    Each (Expr.op h es) = Eaches es
    Each (Expr.pre e) = Each e
    Each (Expr.arrow a b) = Each a × Each b
    Each (Expr.call f es) = Eaches es
    Each (Expr.when k e) = P k.name × Each e
    Each (Expr.merge x a b) = P x × Each a × Each b

    pub Eaches : Exprs → Type 0
    Eaches Exprs.end = Unit {0}
    Eaches (Exprs.and e es) = Each e × Eaches es

  -- P of each name by which an equation goes in a pass
  pub record Names (e : Equation) : Type 0 where
    pub left : EachOf e.left
    pub right : Each e.right

-- these names take no other clock
abbrev pub KeepsClocks : Node → Clocks → Option Clock → List ℕ → Type 0
KeepsClocks n clocks none xs = Unit {0}
KeepsClocks n clocks (some c) xs = EachOf (λ x. (is_port n x || has_clock clocks x c) ≡ true) xs

-- an equation that changes nothing
pub record Idle (n : Node) (clocks : Clocks) (e : Equation) : Type 0 where
  pub clock : Option Clock
  pub found : natural clocks e.right ≡ formed clock
  pub keeps : KeepsClocks n clocks clock e.left

-- an equation that changes nothing, if its names are settled
pub record Calm (n : Node) (since : List ℕ) (bound : ℕ) (clocks : Clocks) (e : Equation) : Type 0 where
  pub idle : 0 < bound → Names (Unchanged since bound) e → Idle n clocks e

-- the same of all equations
pub record Calms (n : Node) (since : List ℕ) (bound : ℕ) (clocks : Clocks) (es : List Equation) : Type 0 where
  pub each : (e : Equation) → Memᴰ e es → Calm n since bound clocks e

-- the pass in which a name last changed, once a clock was given to it in the pass `present`
abbrev pub dated : Node → Clock → ℕ → ℕ → Pass → List ℕ → List ℕ
dated n c present x p since = choose (is_port n x || has_clock p.clocks x c) since (set since x present)

-- the same of several names
unfoldable pub dates : Node → Clock → ℕ → List ℕ → Pass → List ℕ → List ℕ
dates n c present [] p since = since
dates n c present (x ∷ xs) p since = dates n c present xs (given n c x p) (dated n c present x p since)

-- what is settled after a step of the pass `present` was so before it, and is on the same clock
pub record Moves (present : ℕ) (since since' : List ℕ) (clocks clocks' : Clocks) : Type 0 where
  pub same : (x b : ℕ) → b ≤ present → Unchanged since' b x → Unchanged since b x × (clock_of clocks' x ≡ clock_of clocks x)

-- the code's answer for an equation in the pass `present`, in which something had changed before or not
unfoldable pub Turned : Node → Equation → ℕ → List ℕ → List ℕ → List ℕ → ℕ → Pass → Bool → Result Bool TooDeep → Type 0
Turned n e present since since' t m p before (Err d) = stepped n e p ≡ deep
Turned n e present since since' t m p before (Ok b) = (p' : Pass) × (stepped n e p ≡ formed p') × PassSoFar t m (b || before) p' × Moves present since since' p.clocks p'.clocks × Calm n since' present p'.clocks e

-- the code's answer for the pass `present`
unfoldable pub Gone : Node → List Equation → ℕ → List ℕ → List ℕ → ℕ → Result Bool TooDeep → Formed Pass → Type 0
Gone n es present since' t m (Err d) v = v ≡ deep
Gone n es present since' t m (Ok b) v = (p : Pass) × (v ≡ formed p) × PassSoFar t m b p × Calms n since' present p.clocks es
