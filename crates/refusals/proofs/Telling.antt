-- How long a reason is, and which refusals are left by their numbers. Assumes nothing.
use Prim.Native.Nat.{◌<◌, ℕ}
use mathlib.Core.Path.{◌≡◌, refl}
use mathlib.Core.Bool.{true}
use native.Mathlib.Omega.{arith}
use lib.Dec.{leb}
use lib.ListN.{length}
use Rattle.definitions.specs.declared.Refusal.{Refusal}
use Rattle.definitions.specs.Lists.{bytes}
use Rattle.definitions.specs.Refusals.{number}
use Rattle.refusals.specs.Reasons.{reason_of}

-- a reason has at most 164 letters, so that a line of 256 holds it with any number and place
pub short : (r : Refusal) → leb (length (reason_of r)) 164 ≡ true
unfolding bytes
short Refusal.Short = refl
short (Refusal.Size p) = refl
short Refusal.Length = refl
short (Refusal.Name p) = refl
short (Refusal.Token p) = refl
short (Refusal.Limit p) = refl
short (Refusal.Cycle p) = refl
short Refusal.Missing = refl
short (Refusal.Deep p) = refl
short (Refusal.Faulty p) = refl
short Refusal.Large = refl
short (Refusal.Lent p) = refl

-- what is left of the refusals behind 1 to 4, behind 5 to 7, and behind the last: docs/PORT.md names these three
pub later : (r : Refusal) → (r ≡ Refusal.Short → ⊥) → ((p : ℕ) → r ≡ Refusal.Size p → ⊥) → (r ≡ Refusal.Length → ⊥) → ((p : ℕ) → r ≡ Refusal.Name p → ⊥) → 4 < number r
later Refusal.Short h i j k = absurd (h refl)
later (Refusal.Size p) h i j k = absurd (i p refl)
later Refusal.Length h i j k = absurd (j refl)
later (Refusal.Name p) h i j k = absurd (k p refl)
later (Refusal.Token p) h i j k = omega arith
later (Refusal.Limit p) h i j k = omega arith
later (Refusal.Cycle p) h i j k = omega arith
later Refusal.Missing h i j k = omega arith
later (Refusal.Deep p) h i j k = omega arith
later (Refusal.Faulty p) h i j k = omega arith
later Refusal.Large h i j k = omega arith
later (Refusal.Lent p) h i j k = omega arith

pub question : (r : Refusal) → 4 < number r → ((p : ℕ) → r ≡ Refusal.Token p → ⊥) → ((p : ℕ) → r ≡ Refusal.Limit p → ⊥) → ((p : ℕ) → r ≡ Refusal.Cycle p → ⊥) → 7 < number r
question Refusal.Short h i j k = omega arith
question (Refusal.Size p) h i j k = omega arith
question Refusal.Length h i j k = omega arith
question (Refusal.Name p) h i j k = omega arith
question (Refusal.Token p) h i j k = absurd (i p refl)
question (Refusal.Limit p) h i j k = absurd (j p refl)
question (Refusal.Cycle p) h i j k = absurd (k p refl)
question Refusal.Missing h i j k = omega arith
question (Refusal.Deep p) h i j k = omega arith
question (Refusal.Faulty p) h i j k = omega arith
question Refusal.Large h i j k = omega arith
question (Refusal.Lent p) h i j k = omega arith

pub none_left : (r : Refusal) → 7 < number r → (r ≡ Refusal.Missing → ⊥) → ((p : ℕ) → r ≡ Refusal.Deep p → ⊥) → ((p : ℕ) → r ≡ Refusal.Faulty p → ⊥) → (r ≡ Refusal.Large → ⊥) → ((p : ℕ) → r ≡ Refusal.Lent p → ⊥) → ⊥
none_left Refusal.Short h i j k l m = omega arith
none_left (Refusal.Size p) h i j k l m = omega arith
none_left Refusal.Length h i j k l m = omega arith
none_left (Refusal.Name p) h i j k l m = omega arith
none_left (Refusal.Token p) h i j k l m = omega arith
none_left (Refusal.Limit p) h i j k l m = omega arith
none_left (Refusal.Cycle p) h i j k l m = omega arith
none_left Refusal.Missing h i j k l m = i refl
none_left (Refusal.Deep p) h i j k l m = j p refl
none_left (Refusal.Faulty p) h i j k l m = k p refl
none_left Refusal.Large h i j k l m = l refl
none_left (Refusal.Lent p) h i j k l m = m p refl
