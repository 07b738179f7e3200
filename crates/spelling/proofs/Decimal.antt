-- Laws on decimals.
use Prim.Native.Nat.{ℕ, zero, suc, ◌+◌, ◌/◌, ◌%◌, ◌^◌, ◌≤◌, ◌<◌}
use mathlib.Core.Path.{◌≡◌, sym, ap, ◌∙◌}
use mathlib.Core.Logic.{inl, inr}
use mathlib.Core.List.{[], ◌∷◌, ◌++◌, append-nil}
use native.Mathlib.Omega.{arith}
use lib.ListN.{length}
use borrow.Author.Tests.{lt-ltb, le-ltb}
use Rattle.std.specs.Fmt as std
use Rattle.std.proofs.lemmas.Bool.{cases_lt}
use Rattle.std.proofs.lemmas.Fmt.{PrependsLastDigit, decimal_from_prepends, decimal_step, decimal_injective, length-decimal-le}
use Rattle.definitions.specs.Lists.{Letters, digits, decimal}

short : (k n : ℕ) (a : Letters) → n < 10 → digits (suc k) n a ≡ (48 + n) ∷ a
unfolding digits
short k n a h = rw (lt-ltb n 10 h, digits)

long : (k n : ℕ) (a : Letters) → 10 ≤ n → digits (suc k) n a ≡ digits k (n / 10) ((48 + (n % 10)) ∷ a)
unfolding digits
long k n a h = rw (le-ltb n 10 h, digits)

-- the last digit is put before what follows, as where the library writes
prepended : PrependsLastDigit digits
prepended = record { one = short; more = long }

-- what the library writes
library : (n : ℕ) → n < 2 ^ 64 → decimal n ≡ std.decimal n
unfolding decimal
library n h = decimal_from_prepends digits prepended 20 n [] h (length-decimal-le 20 n (omega arith) (omega arith) h) ∙ append-nil (std.decimal n)

-- a number below ten is its digit
pub decimal-short : (n : ℕ) → n < 10 → decimal n ≡ (48 + n % 10) ∷ []
unfolding decimal
decimal-short n h = let e : n ≡ n % 10 = omega arith in short 19 n [] h ∙ ap (λ k. (48 + k) ∷ []) e

-- any other is its tenth's digits, and the last
pub decimal-long : (n : ℕ) → 10 ≤ n → n < 2 ^ 64 → decimal n ≡ decimal (n / 10) ++ ((48 + n % 10) ∷ [])
decimal-long n h b = library n b ∙ decimal_step n h b ∙ ap (λ l. l ++ ((48 + n % 10) ∷ [])) (sym (library (n / 10) (omega arith)))

-- decimals say their numbers
pub decimal-same : (m n : ℕ) → m < 2 ^ 64 → n < 2 ^ 64 → decimal m ≡ decimal n → m ≡ n
decimal-same m n h k e = decimal_injective m n h k (sym (library m h) ∙ e ∙ library n k)

-- at most twenty digits
digits-length : (k n : ℕ) (a : Letters) → length (digits k n a) ≤ k + length a
unfolding digits
digits-length zero n a = omega arith
digits-length (suc k) n a = elim (cases_lt n 10) [
  | inl g ↦ omega (arith, ap length (short k n a g))
  | inr g ↦ omega (arith, ap length (long k n a g), digits-length k (n / 10) ((48 + (n % 10)) ∷ a))
]

pub decimal-length : (n : ℕ) → length (decimal n) ≤ 20
unfolding decimal
decimal-length n = omega (arith, digits-length 20 n [])
