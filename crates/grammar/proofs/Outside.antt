-- A number that is none of the first of a range is past them.
-- Assumes nothing.
use Prim.Native.Nat.{ℕ, zero, suc, ◌+◌, ◌≤◌}
use mathlib.Core.Path.{◌≡◌}
use native.Mathlib.Omega.{arith}

-- a number is none of so many from low on, as a match's last arm is told
abbrev pub Passed : ℕ → ℕ → ℕ → Type 0
Passed low zero x = Unit
Passed low (suc n) x = Passed low n x × (x ≡ low + n → ⊥)

pub past_all : (low n x : ℕ) → low ≤ x → Passed low n x → low + n ≤ x
past_all low zero x l r = omega arith
past_all low (suc n) x l r = omega (arith, past_all low n x l r.0, r.1)
