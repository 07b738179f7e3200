-- Laws on words that are numbers.
-- Assumes nothing.
use Prim.Native.Nat.{ℕ, suc, ◌+◌, ◌*◌, ◌-◌, ◌≤◌, ◌<◌, min}
use mathlib.Core.Path.{◌≡◌, refl, ◌∙◌}
use mathlib.Core.Bool.{true}
use mathlib.Core.List.{[], ◌∷◌}
use native.Mathlib.Numerals.{add-one}
use native.Mathlib.Omega.{arith}
use lib.ListN.{length, get_or, drop}
use lib.Seq.{drop-cons}
use Rattle.definitions.specs.Lists.{all, Letters}
use Rattle.definitions.specs.Bytes.{is_digit}
use Rattle.arguments.specs.Words.{most, written}

-- a number beyond `most` is as good as `most`
capped : (m n : ℕ) (w : Letters) → min m most ≡ min n most → min (written m w) most ≡ min (written n w) most
capped m n [] e = e
capped m n (d ∷ w) e = capped (m * 10 + (d - 48)) (n * 10 + (d - 48)) w (omega arith)

-- what is known of a word of which i digits are read, as the number n
pub record Read (w : Letters) (n i : ℕ) : Type 0 where
  pub within : i ≤ length w
  pub small : n ≤ most
  pub digits : all is_digit w ≡ all is_digit (drop i w)
  pub value : min (written 0 w) most ≡ min (written n (drop i w)) most

module _ {w : Letters} {n i : ℕ} (r : Read w n i) where
  -- one digit more
  pub read_one : {m : ℕ} → i < length w → is_digit (get_or w i 0) ≡ true → m ≡ min (n * 10 + (get_or w i 0 - 48)) most → Read w m (i + 1)
  read_one {m} h e f =
      record {
        within = omega arith;
        small = omega arith;
        digits = r.digits ∙ rw (add-one i, drop-cons w i 0 h, e);
        value = r.value ∙ rw (add-one i, drop-cons w i 0 h) (capped (n * 10 + (get_or w i 0 - 48)) m (drop (suc i) w) (omega arith));
      }
