-- The id of a flag, by the place of its clock in a table.
-- Assumes nothing.
use Prim.Native.Nat.{ℕ, ◌*◌, ◌≤◌}
use mathlib.Core.Path.{◌≡◌, refl, ◌∙◌, ap}
use mathlib.Core.List.{List}
use mathlib.Core.Logic.{inl}
use lib.ListN.{length, get_or}
use Rattle.definitions.specs.Clock.{Clock}
use Rattle.definitions.specs.Declock.{clock_place}
use Rattle.clock_tables.specs.Rows.{clocks_in, RowsHold}

-- where the clock stands in the table, its flag's id stands among the ids
pub flag-there : (rows ids : List ℕ) (n : ℕ) (c : Clock) (p r : ℕ) → ((cs : List Clock) → 17 * n ≤ length rows → RowsHold rows n cs → p ≡ clock_place c cs) → r ≡ get_or ids p 0 → 17 * n ≤ length rows → r ≡ get_or ids (clock_place c (clocks_in rows n)) 0
unfolding RowsHold
flag-there rows ids n c p r f e h = e ∙ ap (λ (i : ℕ). get_or ids i 0) (f (clocks_in rows n) h (inl (h, refl)))
