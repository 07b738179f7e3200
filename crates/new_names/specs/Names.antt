-- A node's new names in tables: their numbers, the names added, their ids.
use Rattle.std.specs.Prelude.{ℕ, ◌<◌, ◌≡◌, List, ◌++◌, map, length, get_or}
use Rattle.definitions.specs.Lists.{up_from, Letters, decimal}
use Rattle.definitions.specs.Tree.{Declared, Node}
use Rattle.definitions.specs.Clock.{Clock, in_chain_order}
use Rattle.definitions.specs.Declock.{Stem, clock_place}
use Rattle.definitions.specs.Output.{stem_letters, id_of}
use Rattle.spelling.specs.Free.{new_number, taken_of}
use Rattle.chain_order.specs.Order.{row_of, picked, FirstBelow}

-- the id of a declaration's name
abbrev pub name_of : Declared → ℕ
name_of d = d.name

-- a stem with the number in a place of a table
abbrev pub numbered_name : Stem → List ℕ → ℕ → Letters
numbered_name stem numbers j = stem_letters stem ++ decimal (get_or numbers j 0)

-- the names of a stem for the first n rows of an order: each has the number of its row
abbrev pub ordered_names : Stem → List ℕ → List ℕ → ℕ → List Letters
ordered_names stem numbers order n = map (λ i. numbered_name stem numbers (get_or order i 0)) (up_from 0 n)

-- the first n names of a stem
abbrev pub counted_names : Stem → List ℕ → ℕ → List Letters
counted_names stem numbers n = map (numbered_name stem numbers) (up_from 0 n)

-- the ids of the first n names of a stem, among some names
abbrev pub ids_of : List Letters → Stem → List ℕ → ℕ → List ℕ
ids_of all stem numbers n = map (λ j. id_of all (numbered_name stem numbers j)) (up_from 0 n)

-- the table has the numbers of the node's first n new names of a stem
pub record Numbered (names : List Letters) (node : Node) (stem : Stem) (numbers : List ℕ) (n : ℕ) : Type 0 where
  pub same : (j : ℕ) → j < n → get_or numbers j 0 ≡ new_number (taken_of names node) stem j

-- k rows stand in the chain order of these clocks, and each clock's row is its place among them
pub record ChainOrdered (letters : ℕ → Letters) (rows order : List ℕ) (k : ℕ) (clocks : List Clock) : Type 0 where
  pub sorted : picked (row_of rows) order 0 k ≡ in_chain_order letters clocks
  pub own : (i : ℕ) → i < k → clock_place (row_of rows (get_or order i 0)) clocks ≡ get_or order i 0
  pub below : FirstBelow order k (length clocks)
