-- The clock of each name, in a table.
use Rattle.std.specs.Prelude.{ℕ, ◌+◌, ◌*◌, ◌≤◌, ◌<◌, ◌≡◌, List, get_or, length, eqb}
use Rattle.std.proofs.Math.Option.{Option, none, some}
use Rattle.definitions.specs.Lists.{choose}
use Rattle.definitions.specs.Clock.{Clock}
use Rattle.definitions.specs.InferClocks.{Clocks, clock_of}
use Rattle.clock_tables.specs.Flat.{clock_in}

-- the clock of the name x
unfoldable pub env_at : List ℕ → ℕ → Option Clock
env_at t x = choose (eqb (get_or t (17 * x) 0) 0) none (some (clock_in t (17 * x)))

-- the names below m have these clocks
pub record Agrees (t : List ℕ) (m : ℕ) (clocks : Clocks) : Type 0 where
  pub room : 17 * m ≤ length t
  pub same : (x : ℕ) → x < m → env_at t x ≡ clock_of clocks x

-- t' is t but for the clock of x, which is c if there is room for it
pub record Assigned (t t' : List ℕ) (x : ℕ) (c : Clock) : Type 0 where
  pub same_length : length t' ≡ length t
  pub here : 17 * x + 17 ≤ length t → env_at t' x ≡ some c
  pub elsewhere : (y : ℕ) → (y ≡ x → ⊥) → env_at t' y ≡ env_at t y

-- t' is as long as t, and no name below m has a clock if there is room for these
pub record Cleared (t t' : List ℕ) (m : ℕ) : Type 0 where
  pub same_length : length t' ≡ length t
  pub nowhere : 17 * m ≤ length t → (x : ℕ) → x < m → env_at t' x ≡ none
