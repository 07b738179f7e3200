-- The order of chains over tables.
use mathlib.Core.HLevel.{×_prop, Unit-prop}
use mathlib.Core.Bool.{Bool-set}
use Prim.Native.Nat.{ℕ, zero, suc, ◌+◌, ◌-◌, ◌*◌, ◌≤◌, ◌<◌, Ordering}
use Rattle.std.specs.Prelude.{◌≡◌, Bool, true, false, Result, Ok, Err, List, [], ◌∷◌, ◌++◌, map, length, get_or}
use Rattle.definitions.specs.Lists.{Letters}
use Rattle.definitions.specs.Clock.{Clock, chain_order, insert}
use Rattle.clock_tables.specs.Flat.{clock_in}
use Rattle.chain_order.specs.declared.OrderedClocks.{OrderedClocks}
use Rattle.std.specs.declared.cmp.Ordering as cmp
use Rattle.std.specs.declared.cmp.Ordering.TheVariants.{Less, Equal, Greater}

-- an order as std's `Ordering` says it
abbrev pub answer_of : Ordering → cmp.Ordering
answer_of Ordering.lt = Less
answer_of Ordering.eq = Equal
answer_of Ordering.gt = Greater

-- the clock in a row
abbrev pub row_of : List ℕ → ℕ → Clock
row_of rows x = clock_in rows (17 * x)

-- f of n words of a list, from i on
unfoldable pub picked : (ℕ → Clock) → List ℕ → ℕ → ℕ → List Clock
picked f o i zero = []
picked f o i (suc n) = f (get_or o i 0) ∷ picked f o (i + 1) n

-- the clocks of ordered rows
abbrev pub ordered_clocks : OrderedClocks → List Clock
ordered_clocks o = map (row_of o.rows.now) o.order.now

-- the first k words are below m
abbrev pub FirstBelow : List ℕ → ℕ → ℕ → Type 0
FirstBelow o k m = (i : ℕ) → i < k → get_or o i 0 < m

-- o' is o with x at j, and the words from j to k one place further
pub record Shifted (o o' : List ℕ) (j k x : ℕ) : Type 0 where
  pub same_length : length o' ≡ length o
  pub before : (i : ℕ) → i < j → get_or o' i 0 ≡ get_or o i 0
  pub here : get_or o' j 0 ≡ x
  pub after : (i : ℕ) → j ≤ i → i < k → get_or o' (i + 1) 0 ≡ get_or o i 0

-- does the first stand behind the second?
abbrev pub is_after : Ordering → Bool
is_after Ordering.lt = false
is_after Ordering.eq = false
is_after Ordering.gt = true

module _ (letters : ℕ → Letters) where
  -- a clock stands before all of these
  unfoldable pub Before : Clock → List Clock → Type 0
  Before c [] = Unit {0}
  Before c (d ∷ ds) = (is_after (chain_order letters d c) ≡ true) × Before c ds

  -- each stands before those behind it
  unfoldable pub Rising : List Clock → Type 0
  unfolding Before
  Rising [] = Unit {0}
  Rising (c ∷ cs) = Before c cs × Rising cs

  Before-prop : (c : Clock) (ds : List Clock) → IsProp (Before c ds)
  unfolding Before
  Before-prop c [] = Unit-prop
  Before-prop c (d ∷ ds) = ×_prop (Bool-set _ _) (Before-prop c ds)

  pub Rising-prop : (cs : List Clock) → IsProp (Rising cs)
  unfolding Rising
  Rising-prop [] = Unit-prop
  Rising-prop (c ∷ cs) = ×_prop (Before-prop c cs) (Rising-prop cs)

-- of k rows, each is after those before it
abbrev pub InOrder : (ℕ → Letters) → List ℕ → List ℕ → ℕ → Type 0
InOrder letters rows o k = Rising letters (picked (row_of rows) o 0 k)

-- a clock is there among k rows, or goes before the j-th of them
unfoldable pub Sought : (ℕ → Letters) → List ℕ → List ℕ → ℕ → Clock → Result ℕ ℕ → Type 0
unfolding insert
Sought letters rows o k c (Ok i) = insert letters c (picked (row_of rows) o 0 k) ≡ picked (row_of rows) o 0 k
Sought letters rows o k c (Err j) =
    (j ≤ k) × (insert letters c (picked (row_of rows) o 0 k) ≡ picked (row_of rows) o 0 j ++ (c ∷ picked (row_of rows) o j (k - j)))
