-- What becomes of a token, an arm for each tag that says something.
-- Assumes nothing.
use mathlib.Core.Path.{◌≡◌}
use mathlib.Core.List.{List}
use mathlib.Core.Logic.{◌⊎◌, inl, inr}
use Prim.Native.Nat.{ℕ, ◌-◌}
use lib.ListN.{get_or}
use borrow.Author.Tests.{ne_eqb}
use Rattle.planned.specs.declared.Plan.{Plan}
use Rattle.planned.specs.Writes.{plan_of}

module _ (flags firsts holds : List ℕ) (tag v w : ℕ) where
  pub arm-hold : tag ≡ 58 → (w ≡ 0 → ⊥) → (x : ℕ) → x ≡ get_or holds (w - 1) 0 → Plan.Hold x ≡ plan_of flags firsts holds tag v w
  unfolding plan_of
  arm-hold e z x i = rw (e, ne_eqb w 0 z, i)

  pub arm-first : tag ≡ 59 → (w ≡ 0 → ⊥) → (x : ℕ) → x ≡ get_or firsts (w - 1) 0 → Plan.Choose x ≡ plan_of flags firsts holds tag v w
  unfolding plan_of
  arm-first e z x i = rw (e, ne_eqb w 0 z, i)

  pub arm-gate : tag ≡ 60 → (w ≡ 0 → ⊥) → (x : ℕ) → x ≡ get_or flags (w - 1) 0 → Plan.Gate x ≡ plan_of flags firsts holds tag v w
  unfolding plan_of
  arm-gate e z x i = rw (e, ne_eqb w 0 z, i)

  pub arm-when : tag ≡ 67 → Plan.Drop ≡ plan_of flags firsts holds tag v w
  unfolding plan_of
  arm-when e = rw e

  pub arm-when-not : tag ≡ 68 → Plan.Drop ≡ plan_of flags firsts holds tag v w
  unfolding plan_of
  arm-when-not e = rw e

  pub arm-merge : tag ≡ 69 → Plan.Choose v ≡ plan_of flags firsts holds tag v w
  unfolding plan_of
  arm-merge e = rw e

  -- without a word a token stays
  pub arm-bare : (tag ≡ 58) ⊎ ((tag ≡ 59) ⊎ (tag ≡ 60)) → w ≡ 0 → Plan.Stay ≡ plan_of flags firsts holds tag v w
  unfolding plan_of
  arm-bare (inl e) z = rw (e, z)
  arm-bare (inr (inl e)) z = rw (e, z)
  arm-bare (inr (inr e)) z = rw (e, z)

  pub arm-other : (tag ≡ 67 → ⊥) → (tag ≡ 68 → ⊥) → (tag ≡ 69 → ⊥) → (tag ≡ 58 → ⊥) → (tag ≡ 59 → ⊥) → (tag ≡ 60 → ⊥) → Plan.Stay ≡ plan_of flags firsts holds tag v w
  unfolding plan_of
  arm-other a b c d e f = rw (ne_eqb tag 58 d, ne_eqb tag 59 e, ne_eqb tag 60 f, ne_eqb tag 67 a, ne_eqb tag 68 b, ne_eqb tag 69 c)
