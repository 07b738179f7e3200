-- Rows put into chain order.
use Rattle.std.specs.Prelude.{ℕ, ◌+◌, ◌≤◌, ◌<◌, ◌≡◌, length}
use Rattle.definitions.specs.Clock.{insert, in_chain_order}
use Rattle.clock_tables.specs.Rows.{clocks_in}
use Rattle.spelling.specs.Places.{letters_in}
use Rattle.chain_order.specs.Order.{row_of, picked, FirstBelow}
use Rattle.chain_order.specs.declared.sorted_rows.SortedRows.{SortedRows}

-- the clock of row x was inserted: in the same lent places, for the same rows
pub record Inserted (x : ℕ) (s s₁ : SortedRows) : Type 0 where
  pub named : s₁.named ≡ s.named
  pub same : s₁.order.ghost_name ≡ s.order.ghost_name
  pub same_length : length s₁.order.now ≡ length s.order.now
  pub most : s₁.count ≤ s.count + 1
  pub inserted : picked (row_of s.named.rows.now) s₁.order.now 0 s₁.count ≡ insert (letters_in s.named.spelling) (row_of s.named.rows.now x) (picked (row_of s.named.rows.now) s.order.now 0 s.count)
  pub below : (m : ℕ) → x < m → FirstBelow s.order.now s.count m → FirstBelow s₁.order.now s₁.count m

-- the first n rows were put in order: in the same lent places
pub record Sorted (n : ℕ) (s s₁ : SortedRows) : Type 0 where
  pub same : s₁.order.ghost_name ≡ s.order.ghost_name
  pub same_length : length s₁.order.now ≡ length s.order.now
  pub most : s₁.count ≤ n
  pub all : picked (row_of s.named.rows.now) s₁.order.now 0 s₁.count ≡ in_chain_order (letters_in s.named.spelling) (clocks_in s.named.rows.now n)
  pub below : FirstBelow s₁.order.now s₁.count n
