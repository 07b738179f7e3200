-- A table of clocks: seventeen words a row.
use Rattle.std.specs.Prelude.{ℕ, zero, suc, ◌+◌, ◌*◌, ◌≤◌, ◌<◌, ◌≡◌, List, [], ◌∷◌, ◌⊎◌, length}
use Rattle.definitions.specs.Clock.{Clock}
use Rattle.clock_tables.specs.Flat.{clock_in}

-- the clocks of n rows, from row i on
unfoldable pub clocks_from : List ℕ → ℕ → ℕ → List Clock
clocks_from t i zero = []
clocks_from t i (suc n) = clock_in t (17 * i) ∷ clocks_from t (i + 1) n

-- the clocks of the first n rows
abbrev pub clocks_in : List ℕ → ℕ → List Clock
clocks_in t n = clocks_from t 0 n

-- the first n rows are these clocks; or there are more clocks than rows, and n says so
unfoldable pub RowsHold : List ℕ → ℕ → List Clock → Type 0
RowsHold t n cs = ((17 * n ≤ length t) × (clocks_in t n ≡ cs)) ⊎ ((length t < 17 * n) × (length t < 17 * length cs))
