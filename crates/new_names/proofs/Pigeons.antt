-- Different names that are all among some names are no more than these. Assumes nothing.
use Prim.Native.Nat.{ℕ, zero, suc, ◌≤◌, ◌<◌}
use mathlib.Core.Path.{◌≡◌, refl, sym, ap, ◌∙◌}
use mathlib.Core.Bool.{Bool, true, false, ◌||◌, false≢true}
use mathlib.Core.List.{List, [], ◌∷◌}
use native.Mathlib.Omega.{arith}
use lib.ListN.{length}
use Rattle.definitions.specs.Lists.{choose, any, Letters, same_letters}
use Rattle.shapes.proofs.Facts.{letters-eq}

-- the names without the first of these letters
abbrev remove : Letters → List Letters → List Letters
remove x [] = []
remove x (y ∷ l) = choose (same_letters x y) l (y ∷ remove x l)

removed-length : (x : Letters) (l : List Letters) → any (same_letters x) l ≡ true → suc (length (remove x l)) ≡ length l
removed-length x [] h = absurd (false≢true h)
removed-length x (y ∷ l) h = go (same_letters x y) h (removed-length x l)
  where
    go : (u : Bool) → (u || any (same_letters x) l) ≡ true → (any (same_letters x) l ≡ true → suc (length (remove x l)) ≡ length l) → suc (length (choose u l (y ∷ remove x l))) ≡ suc (length l)
    go true h f = refl
    go false h f = ap suc (f h)

removed-other : (x z : Letters) (l : List Letters) → (z ≡ x → ⊥) → any (same_letters z) l ≡ true → any (same_letters z) (remove x l) ≡ true
removed-other x z [] n h = absurd (false≢true h)
removed-other x z (y ∷ l) n h = go (same_letters x y) (same_letters z y) refl refl h (removed-other x z l n)
  where
    go : (u v : Bool) → same_letters x y ≡ u → same_letters z y ≡ v → (v || any (same_letters z) l) ≡ true → (any (same_letters z) l ≡ true → any (same_letters z) (remove x l) ≡ true)
        → any (same_letters z) (choose u l (y ∷ remove x l)) ≡ true
    go true true a b h f = absurd (n (letters-eq z y b ∙ sym (letters-eq x y a)))
    go true false a b h f = h
    go false true a b h f = ap (λ (t : Bool). t || any (same_letters z) (remove x l)) b
    go false false a b h f = ap (λ (t : Bool). t || any (same_letters z) (remove x l)) b ∙ f h

pub pigeons : (f : ℕ → Letters) (n : ℕ) (l : List Letters) → ((i j : ℕ) → i < n → j < n → f i ≡ f j → i ≡ j) → ((i : ℕ) → i < n → any (same_letters (f i)) l ≡ true) → n ≤ length l
pigeons f zero l once h = omega arith
pigeons f (suc n) l once h =
    let r = pigeons f n (remove (f n) l) (λ i j a b. once i j (omega arith) (omega arith)) (λ i a. removed-other (f n) (f i) l (λ e. different i a e) (h i (omega arith))) in
    omega (arith, r, removed-length (f n) l (h n (omega arith)))
  where
    different : (i : ℕ) → i < n → f i ≡ f n → ⊥
    different i a e = let q : i ≡ n = once i n (omega arith) (omega arith) e in omega arith
