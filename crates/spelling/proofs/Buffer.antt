-- A new name in a buffer of 32 letters.
use Prim.Native.Nat.{ℕ, ◌≤◌}
use mathlib.Core.Path.{◌≡◌, ap}
use mathlib.Core.List.{List}
use native.Mathlib.Omega.{arith}
use lib.ListN.{length, take}
use Rattle.spelling.specs.declared.NewName.{NewName}
use Rattle.spelling.specs.Stems.{new_letters}
use Rattle.spelling.specs.Writing.{Put}
use Rattle.spelling.proofs.Writing.{put_front, put-measure}
use Rattle.spelling.proofs.Stems.{new-length}

module _ (name : NewName) {r q : ℕ} {s s₁ : List ℕ} (e : r ≡ q) (u : Put (new_letters name) 0 s q s₁) where
  -- it fits
  pub new-fits : r ≤ 32
  new-fits = omega (arith, e, put-measure (omega (arith, new-length name)) u, new-length name)

  -- its part of the buffer has its letters
  pub new-reads : length s ≡ 32 → take r s₁ ≡ new_letters name
  new-reads f = rw e (put_front (omega (arith, new-length name)) (omega arith) u)

  pub new-short : length s ≡ 32 → length (take r s₁) ≤ 32
  new-short f = omega (arith, ap length (new-reads f), new-length name)
