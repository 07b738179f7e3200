-- The conditions of a clock, one behind another, in a text and in the listing.
use Prim.Native.Nat.{ℕ, zero, suc, ◌+◌, ◌<◌}
use mathlib.Core.Path.{◌≡◌, refl, sym, ap, ◌∙◌}
use mathlib.Core.List.{List, [], ◌∷◌, ◌++◌, map, append_assoc}
use native.Mathlib.Omega.{arith}
use native.Mathlib.Numerals.{add-one}
use lib.ListN.{length}
use Rattle.std.proofs.lemmas.List.{map-append}
use Rattle.definitions.specs.declared.Condition.{Condition}
use Rattle.definitions.specs.Lists.{Letters, bytes}
use Rattle.definitions.specs.Clock.{Clock, ◌↓◌, conditions}
use Rattle.definitions.specs.Texts.{separated, condition_text, test_sign, clock_text, clock_key}
use Rattle.clock_tables.specs.Value.{at, clock_at}
use Rattle.lines.specs.declared.NamedText.{NamedText}
use Rattle.lines.specs.Pieces.{words}
use Rattle.lines.specs.Spelled.{Spells}
use Rattle.lines.proofs.Spelled.{spells_then, spells_as}

-- an item before others
separated_more : (by a : Letters) (l : List Letters) (x : Letters) → separated by (a ∷ (l ++ (x ∷ []))) ≡ a ++ (by ++ separated by (l ++ (x ∷ [])))
unfolding separated
separated_more by a [] x = refl
separated_more by a (b ∷ l) x = refl

-- an item behind others
separated-last : (by : Letters) (l : List Letters) (x y : Letters) → separated by ((l ++ (x ∷ [])) ++ (y ∷ [])) ≡ separated by (l ++ (x ∷ [])) ++ (by ++ y)
unfolding separated
separated-last by [] x y = refl
separated-last by (a ∷ l) x y =
    separated_more by a (l ++ (x ∷ [])) y ∙ ap (λ r. a ++ (by ++ r)) (separated-last by l x y)
    ∙ sym (ap (λ r. r ++ (by ++ y)) (separated_more by a l x) ∙ append_assoc a (by ++ separated by (l ++ (x ∷ []))) (by ++ y)
    ∙ ap (λ r. a ++ r) (append_assoc by (separated by (l ++ (x ∷ []))) (by ++ y)))

module _ (letters : ℕ → Letters) where
  pub words_last : (c : Clock) (j k : Condition) → words letters ((c ↓ j) ↓ k) ≡ words letters (c ↓ j) ++ (bytes " " ++ condition_text letters k)
  unfolding words conditions
  words_last c j k =
      let f = condition_text letters in
      let l = map f (conditions c) in
      ap (λ r. separated (bytes " ") r) (map-append f (conditions (c ↓ j)) (k ∷ []) ∙ ap (λ r. r ++ (f k ∷ [])) (map-append f (conditions c) (j ∷ [])))
      ∙ separated-last (bytes " ") l (f j) (f k)
      ∙ ap (λ r. separated (bytes " ") r ++ (bytes " " ++ f k)) (sym (map-append f (conditions c) (j ∷ [])))

  -- one condition more, behind a blank
  words_more : (ks : List Condition) (i : ℕ) → 0 < i → words letters (clock_at ks i) ++ (32 ∷ condition_text letters (at ks i)) ≡ words letters (clock_at ks (i + 1))
  unfolding clock_at bytes
  words_more ks zero h = absurd (omega arith)
  words_more ks (suc i) h = rw (add-one (suc i)) (sym (words_last (clock_at ks i) (at ks i) (at ks (suc i))))

  -- a clock's text, of base and of others
  pub text-base : (ks : List Condition) (d : ℕ) (c : Clock) → d ≡ 0 → clock_at ks d ≡ c → bytes "the base clock" ≡ clock_text letters c
  unfolding clock_text clock_at
  text-base ks d c e f = rw (sym f, e)

  pub text-words : (k : Condition) (ls ks : List Condition) (c : Clock) → ks ≡ k ∷ ls → clock_at ks (length ks) ≡ c
      → bytes "clock `" ++ (words letters (clock_at (k ∷ ls) (length ls + 1)) ++ bytes "`") ≡ clock_text letters c
  unfolding clock_text clock_at words
  text-words k ls ks c e f = rw (add-one (length ls), sym f, e)

  key_more : (ks : List Condition) (i : ℕ) → clock_key letters (clock_at ks i) ++ (bytes "/" ++ (letters (at ks i).name ++ test_sign (at ks i).test)) ≡ clock_key letters (clock_at ks (i + 1))
  unfolding clock_key clock_at
  key_more ks i = rw (add-one i)

-- the same, as they are put
module _ (k : Condition) (ks : List Condition) where
  pub put_first : {w w₁ : NamedText} → Spells (λ n. condition_text n k) w w₁ → Spells (λ n. words n (clock_at (k ∷ ks) (0 + 1))) w w₁
  unfolding words conditions separated clock_at
  put_first u = u

  item-next : (i : ℕ) → at (k ∷ ks) (i + 1) ≡ at ks i
  item-next i = rw (add-one i)

  pub put_next : (i : ℕ) {w w₁ w₂ w₃ : NamedText} → Spells (λ n. words n (clock_at (k ∷ ks) (i + 1))) w w₁ → Spells (λ n. 32 ∷ []) w₁ w₂
      → Spells (λ n. condition_text n (at ks i)) w₂ w₃ → Spells (λ n. words n (clock_at (k ∷ ks) (i + 1 + 1))) w w₃
  put_next i u v x =
      spells_as (λ n. ap (λ j. words n (clock_at (k ∷ ks) (i + 1)) ++ (32 ∷ condition_text n j)) (sym (item-next i)) ∙ words_more n (k ∷ ks) (i + 1) (omega arith)) (spells_then u (spells_then v x))

module _ (ks : List Condition) where
  pub put-base : {w w₁ : NamedText} → Spells (λ n. bytes "base") w w₁ → Spells (λ n. clock_key n (clock_at ks 0)) w w₁
  unfolding clock_key clock_at
  put-base u = u

  pub put-key : (i : ℕ) {w w₁ w₂ : NamedText} → Spells (λ n. clock_key n (clock_at ks i)) w w₁
      → Spells (λ n. bytes "/" ++ (n (at ks i).name ++ test_sign (at ks i).test)) w₁ w₂ → Spells (λ n. clock_key n (clock_at ks (i + 1))) w w₂
  put-key i u v = spells_as (λ n. key_more n ks i) (spells_then u v)
