-- What an answer's number, place and count tell. Assumes nothing.
use Prim.Native.Nat.{ℕ}
use mathlib.Core.Path.{◌≡◌}
use Rattle.std.proofs.Common.{Result}
use Rattle.definitions.specs.declared.Refusal.{Refusal}
use Rattle.declock_library.specs.Numbers.{told_number, bytes_place, faulty_count}

-- an answer of which the count of faulty nodes is told too
pub told_with : (a b x : Result ℕ Refusal) {answered told faulty : ℕ} → a ≡ x → b ≡ x → faulty ≡ faulty_count x → (answered ≡ told_number b) × (told ≡ bytes_place b) → (answered ≡ told_number a) × (told ≡ bytes_place a) × (faulty ≡ faulty_count a)
told_with a b x e f h t = let y = rw f at t in rw e (y.0, y.1, h)
