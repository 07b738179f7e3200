-- The clock rules: document 01, "clocks.rs".
use Rattle.std.specs.Prelude.{ℕ, zero, suc, Bool, true, false, ◌||◌, eqb, ltb, length}
use mathlib.Core.List.{List, [], ◌∷◌, ◌++◌, map}
use Rattle.std.proofs.Math.Option.{Option, none, some}
use Rattle.definitions.specs.declared.Condition.{Condition}
use Rattle.definitions.specs.Lists.{choose, any, among, join, numbered, Letters}
use Rattle.definitions.specs.Tree.{Expr, Exprs, Equation, Node}
use Rattle.definitions.specs.Clock.{Clock, base, ◌↓◌, deepest, depth, parent, is_on, is_not, same_clock, is_base, ends_in, in_chain_order}

-- what is formed, unless a clock of more than eight conditions is: refusal 9
pub data Formed (A : Type 0) : Type 0 where
  deep : Formed A
  formed : A → Formed A

infixl 20 ◌>>=◌
-- what follows where no clock is too deep
abbrev pub ◌>>=◌ : {A B : Type 0} → Formed A → (A → Formed B) → Formed B
deep >>= f = deep
formed a >>= f = f a

-- a name and its clock
pub record NameClock : Type 0 where
  pub name : ℕ
  pub clock : Clock

-- the clocks of names so far, the newest first
abbrev pub Clocks : Type 0
Clocks = List NameClock

-- a name's clock, where it has one
unfoldable pub clock_of : Clocks → ℕ → Option Clock
clock_of [] x = none
clock_of (r ∷ rs) x = choose (eqb r.name x) (some r.clock) (clock_of rs x)

-- a clock or none, unless too deep a one was formed
abbrev pub Natural : Type 0
Natural = Formed (Option Clock)

infixl 25 ◌or◌
-- the first that has a clock; where it has, the second is unread
abbrev pub ◌or◌ : Natural → Natural → Natural
deep or b = deep
formed none or b = b
formed (some c) or b = formed (some c)

-- a condition over a clock
abbrev pub condition_over : Condition → Natural → Natural
condition_over k deep = deep
condition_over k (formed none) = formed none
condition_over k (formed (some c)) = choose (ltb (depth c) deepest) (formed (some (c ↓ k))) deep

-- the parent of a clock that has a condition, else none
abbrev pub parent_of : Natural → Natural
parent_of deep = deep
parent_of (formed none) = formed none
parent_of (formed (some base)) = formed none
parent_of (formed (some (c ↓ k))) = formed (some c)

-- "Natural clock: the first operand, left to right, that has one, the rest unread.
-- A when: its condition over its operand's natural clock, else its clock name's, else base.
-- A merge: its clock name's; else the parent of the first branch, true first, whose natural clock has a condition; else none."
module _ (clocks : Clocks) where
  unfoldable mutual
    unfolding clock_of

    pub natural : Expr → Natural
    natural (Expr.const l w) = formed none
    natural (Expr.var x) = formed (clock_of clocks x)
    natural (Expr.op h es) = naturals es
    natural (Expr.pre e) = natural e
    natural (Expr.arrow a b) = natural a or natural b
    natural (Expr.call f es) = naturals es
    natural (Expr.when k e) = condition_over k (natural e or formed (clock_of clocks k.name) or formed (some base))
    natural (Expr.merge x a b) = formed (clock_of clocks x) or parent_of (natural a) or parent_of (natural b)

    pub naturals : Exprs → Natural
    naturals Exprs.end = formed none
    naturals (Exprs.and e es) = natural e or naturals es

-- "Inputs and outputs are on base."
abbrev pub ports : Node → List ℕ
ports n = map (λ d. d.name) (n.inputs ++ n.outputs)

-- is a name an input or output?
abbrev pub is_port : Node → ℕ → Bool
is_port n x = among x (ports n)

-- is a name on this clock?
abbrev pub has_clock : Clocks → ℕ → Clock → Bool
has_clock clocks x c = elim (clock_of clocks x) [ none ↦ false | some d ↦ same_clock c d ]

-- a pass so far: whether it has changed something, and the names' clocks
pub record Pass : Type 0 where
  pub changed : Bool
  pub clocks : Clocks

-- "Other left names take their equation's natural clock", "at once visible"
unfoldable pub give : Node → Clock → List ℕ → Pass → Pass
unfolding clock_of
give n c [] p = p
give n c (x ∷ xs) p =
    give n c xs
    (choose (is_port n x || has_clock p.clocks x c) p (record { changed = true; clocks = record { name = x; clock = c } ∷ p.clocks }))

-- an equation in a pass: without a natural clock it gives none, and takes none away
abbrev pub give_natural : Node → Option Clock → List ℕ → Pass → Pass
give_natural n none xs p = p
give_natural n (some c) xs p = give n c xs p

-- one pass, "in sheet order"
unfoldable pub pass : Node → List Equation → Pass → Formed Pass
unfolding natural give
pass n [] p = formed p
pass n (e ∷ es) p = natural p.clocks e.right >>= λ o. pass n es (give_natural n o e.left p)

-- "The pass count is the number of passes made, the unchanged one included": the count, and the names' clocks then
pub record Inferred : Type 0 where
  pub passes : ℕ
  pub clocks : Clocks

-- at most k passes more, so many made. "Passes stop after one without change"
unfoldable pub passes_from : Node → ℕ → ℕ → Clocks → Formed Inferred
unfolding pass
passes_from n zero made clocks = formed (record { passes = made; clocks = clocks })
passes_from n (suc k) made clocks =
    pass n n.equations (record { changed = false; clocks = clocks }) >>= λ p.
    choose p.changed (passes_from n k (suc made) p.clocks) (formed (record { passes = suc made; clocks = p.clocks }))

-- "or after equations + 1"
unfoldable pub inferred : Node → Formed Inferred
unfolding passes_from
inferred n = passes_from n (suc (length n.equations)) 0 (map (λ x. record { name = x; clock = base }) (ports n))

-- the nine faults, with what their texts say
pub data Fault : Type 0 where
  -- 1 left name on another clock: the name, its clock, the equation's clock, whether it is an input or output
  left_elsewhere : ℕ → Clock → Clock → Bool → Fault
  -- 2 name used on another clock: the name, its clock, the clock expected
  used_elsewhere : ℕ → Clock → Clock → Fault
  -- 3 when where another clock is expected: the condition, the clock expected
  when_elsewhere : Condition → Clock → Fault
  -- 4 clock name on another clock: the name, its clock, the clock that it samples
  clock_name_elsewhere : ℕ → Clock → Clock → Fault
  -- 5 left name undeclared
  undeclared : ℕ → Fault
  -- 6 no default for it
  no_default : ℕ → Fault
  -- 7 no default for a call's output: the output, the node called
  no_output_default : ℕ → ℕ → Fault
  -- 8 not a single call
  not_single_call : Fault
  -- 9 type of a `pre` unknown
  pre_untyped : Fault

-- a fault's number
abbrev pub fault_number : Fault → ℕ
fault_number (left_elsewhere x c d p) = 1
fault_number (used_elsewhere x c d) = 2
fault_number (when_elsewhere k c) = 3
fault_number (clock_name_elsewhere x c d) = 4
fault_number (undeclared x) = 5
fault_number (no_default x) = 6
fault_number (no_output_default x f) = 7
fault_number not_single_call = 8
fault_number pre_untyped = 9

-- a fault of an equation
pub record NodeFault : Type 0 where
  pub equation : ℕ
  pub fault : Fault

-- what checking meets, in order: a fault, the clock of a `pre` or `->`, too deep a clock
pub data Finding : Type 0 where
  found : NodeFault → Finding
  site : Clock → Finding
  too_deep : Finding

-- what is found one condition down
abbrev pub one_down : Clock → Condition → (Clock → List Finding) → List Finding
one_down c k f = elim (ltb (depth c) deepest) [ true ↦ f (c ↓ k) | false ↦ too_deep ∷ [] ]

-- what is found on a natural clock, or base
abbrev pub on_natural : Natural → (Clock → List Finding) → List Finding
on_natural deep f = too_deep ∷ []
on_natural (formed none) f = f base
on_natural (formed (some c)) f = f c

-- checking of equation i
module _ (clocks : Clocks) (i : ℕ) where
  -- a name that has a clock must be on this one, else a fault that its clock decides
  unfoldable pub must_be_on : Clock → ℕ → (Clock → Fault) → List Finding
  unfolding clock_of
  must_be_on c x f = elim (clock_of clocks x) [ none ↦ [] | some d ↦ choose (same_clock d c) [] (found (record { equation = i; fault = f d }) ∷ []) ]

  -- "Checking goes from the equation's clock down; each when must match the expected clock exactly.
  -- A failed when is still searched, on its operand's natural clock or base."
  unfoldable mutual
    unfolding must_be_on natural

    pub check : Clock → Expr → List Finding
    check c (Expr.const l w) = []
    check c (Expr.var x) = must_be_on c x (λ d. used_elsewhere x d c)
    check c (Expr.op h es) = checks c es
    check c (Expr.pre e) = site c ∷ check c e
    check c (Expr.arrow a b) = site c ∷ (check c a ++ check c b)
    check c (Expr.call f es) = checks c es
    check c (Expr.when k e) =
        elim (ends_in k c) [
          | true ↦ must_be_on (parent c) k.name (λ d. clock_name_elsewhere k.name d (parent c)) ++ check (parent c) e
          | false ↦ found (record { equation = i; fault = when_elsewhere k c }) ∷ on_natural (natural clocks e) (λ d. check d e)
        ]
    check c (Expr.merge x a b) =
        must_be_on c x (λ d. clock_name_elsewhere x d c)
        ++ (one_down c (is_on x) (λ d. check d a) ++ one_down c (is_not x) (λ d. check d b))

    pub checks : Clock → Exprs → List Finding
    checks c Exprs.end = []
    checks c (Exprs.and e es) = check c e ++ checks c es

  -- the left names that are on another clock than the equation's
  unfoldable pub check_left : Node → Clock → List ℕ → List Finding
  unfolding must_be_on
  check_left n c xs = join (map (λ x. must_be_on c x (λ d. left_elsewhere x d c (is_port n x))) xs)

-- an equation with its clock
pub record Clocked : Type 0 where
  pub clock : Clock
  pub equation : Equation

-- "An equation whose right side has none runs on base"
abbrev pub or_base : Option Clock → Clock
or_base none = base
or_base (some c) = c

-- the equations with their clocks, each its right side's natural clock
unfoldable pub clocked_by : Clocks → List Equation → Formed (List Clocked)
unfolding natural
clocked_by clocks [] = formed []
clocked_by clocks (e ∷ es) =
    natural clocks e.right >>= λ o.
    clocked_by clocks es >>= λ rest.
    formed (record { clock = or_base o; equation = e } ∷ rest)

-- what is found in equation i
unfoldable pub check_equation : Node → Clocks → ℕ → Clocked → List Finding
unfolding check_left check
check_equation n clocks i e = check_left clocks i n e.clock e.equation.left ++ check clocks i e.clock e.equation.right

-- what inference and checking say of a node
pub record Clocking : Type 0 where
  pub passes : ℕ
  pub names : Clocks
  pub equations : List Clocked
  pub findings : List Finding

-- is it too deep a clock?
abbrev pub is_too_deep : Finding → Bool
is_too_deep (found f) = false
is_too_deep (site c) = false
is_too_deep too_deep = true

-- a node's clocks, unless "a clock of more than eight conditions is formed, in any pass or check"
unfoldable pub clocking : Node → Formed Clocking
unfolding inferred clocked_by check_equation
clocking n =
    inferred n >>= λ r.
    clocked_by r.clocks n.equations >>= λ es.
    let all = join (numbered (check_equation n r.clocks) 0 es) in
    choose (any is_too_deep all) deep (formed (record { passes = r.passes; names = r.clocks; equations = es; findings = all }))

-- the clock faults, in order
unfoldable pub clock_faults : List Finding → List NodeFault
clock_faults [] = []
clock_faults (found f ∷ l) = f ∷ clock_faults l
clock_faults (site c ∷ l) = clock_faults l
clock_faults (too_deep ∷ l) = clock_faults l

-- the clocks of `pre` and `->` other than base
unfoldable pub sites : List Finding → List Clock
sites [] = []
sites (found f ∷ l) = sites l
sites (site c ∷ l) = choose (is_base c) (sites l) (c ∷ sites l)
sites (too_deep ∷ l) = sites l

-- "Chains are the distinct clocks other than base of `pre` and `->`", in order
unfoldable pub chains : (ℕ → Letters) → List Finding → List Clock
unfolding sites in_chain_order
chains letters l = in_chain_order letters (sites l)

-- "A node uses clocks if a when or merge stands in a right side."
unfoldable mutual
  pub samples : Expr → Bool
  samples (Expr.const l w) = false
  samples (Expr.var x) = false
  samples (Expr.op h es) = sampled es
  samples (Expr.pre e) = samples e
  samples (Expr.arrow a b) = samples a || samples b
  samples (Expr.call f es) = sampled es
  samples (Expr.when k e) = true
  samples (Expr.merge x a b) = true

  pub sampled : Exprs → Bool
  sampled Exprs.end = false
  sampled (Exprs.and e es) = samples e || sampled es

-- does a node use clocks?
unfoldable pub uses_clocks : Node → Bool
unfolding samples
uses_clocks n = any (λ e. samples e.right) n.equations
