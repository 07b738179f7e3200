-- Clocks: document 01, "A clock is base, or a condition (name, on or not) over a parent clock."
use Prim.Native.Nat.{ℕ, suc, compare, Ordering}
use mathlib.Core.List.{List, [], ◌∷◌, ◌++◌}
use Rattle.std.specs.Prelude.{Bool, true, false, ◌&&◌, eqb}
use Rattle.definitions.specs.declared.Test.{Test}
use Rattle.definitions.specs.declared.Condition.{Condition}
use Rattle.definitions.specs.Lists.{Letters}

infixl 60 ◌↓◌
-- a clock: base, or a condition over a parent clock
pub data Clock : Type 0 where
  base : Clock
  ◌↓◌ : Clock → Condition → Clock

-- "clocks eight conditions"
abbrev pub deepest : ℕ
deepest = 8

-- the number of a clock's conditions
abbrev pub depth : Clock → ℕ
depth base = 0
depth (c ↓ k) = suc (depth c)

-- the clock that the last condition stands over; base has none, and is its own
abbrev pub parent : Clock → Clock
parent base = base
parent (c ↓ k) = c

-- a name that is on, that is not
abbrev pub is_on : ℕ → Condition
is_on x = record { name = x; test = Test.On }

abbrev pub is_not : ℕ → Condition
is_not x = record { name = x; test = Test.Not }

-- the same test
abbrev pub same_test : Test → Test → Bool
same_test Test.On Test.On = true
same_test Test.On Test.Not = false
same_test Test.Not Test.On = false
same_test Test.Not Test.Not = true

-- the same name, and on or not alike
abbrev pub same_condition : Condition → Condition → Bool
same_condition k l = eqb k.name l.name && same_test k.test l.test

-- the same conditions in the same order
abbrev pub same_clock : Clock → Clock → Bool
same_clock base base = true
same_clock base (d ↓ l) = false
same_clock (c ↓ k) base = false
same_clock (c ↓ k) (d ↓ l) = same_condition k l && same_clock c d

-- is it base?
abbrev pub is_base : Clock → Bool
is_base base = true
is_base (c ↓ k) = false

-- is the clock's last condition this one?
abbrev pub ends_in : Condition → Clock → Bool
ends_in k base = false
ends_in k (c ↓ l) = same_condition k l

-- the conditions from base outward
unfoldable pub conditions : Clock → List Condition
conditions base = []
conditions (c ↓ k) = conditions c ++ (k ∷ [])

-- the first order, and where it says equal, the second
abbrev pub and_then : Ordering → Ordering → Ordering
and_then Ordering.lt o = Ordering.lt
and_then Ordering.eq o = o
and_then Ordering.gt o = Ordering.gt

-- item by item, a prefix first
unfoldable pub lexical : {A : Type 0} → (A → A → Ordering) → List A → List A → Ordering
lexical f [] [] = Ordering.eq
lexical f [] (b ∷ l) = Ordering.lt
lexical f (a ∷ k) [] = Ordering.gt
lexical f (a ∷ k) (b ∷ l) = and_then (f a b) (lexical f k l)

-- "on before not"
abbrev pub test_order : Test → Test → Ordering
test_order Test.On Test.On = Ordering.eq
test_order Test.On Test.Not = Ordering.lt
test_order Test.Not Test.On = Ordering.gt
test_order Test.Not Test.Not = Ordering.eq

-- the order of chains, letters giving each name's bytes
module _ (letters : ℕ → Letters) where
  -- "names as bytes, a prefix first; on before not"
  abbrev pub condition_order : Condition → Condition → Ordering
  condition_order k l = and_then (lexical compare (letters k.name) (letters l.name)) (test_order k.test l.test)

  -- "condition by condition .. a parent before its children"
  unfoldable pub chain_order : Clock → Clock → Ordering
  unfolding lexical conditions
  chain_order c d = lexical condition_order (conditions c) (conditions d)

  -- a clock among clocks that stand in chain order, once (names are distinct, so clocks that compare equal are the same)
  unfoldable pub insert : Clock → List Clock → List Clock
  unfolding chain_order
  insert c [] = c ∷ []
  insert c (d ∷ ds) = elim (chain_order c d) [ Ordering.lt ↦ c ∷ d ∷ ds | Ordering.eq ↦ d ∷ ds | Ordering.gt ↦ d ∷ insert c ds ]

  -- the distinct ones of some clocks, in chain order
  unfoldable pub in_chain_order : List Clock → List Clock
  unfolding insert
  in_chain_order [] = []
  in_chain_order (c ∷ cs) = insert c (in_chain_order cs)
