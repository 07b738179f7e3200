-- Putting clocks in chain order loses none, where a name is known by its letters.
use mathlib.Core.Path.{◌≡◌, refl, sym, ap, ap₂, ◌∙◌, subst⁻¹}
use mathlib.Core.Bool.{Bool, true, false, ◌||◌, false≢true}
use mathlib.Core.List.Memᴰ
use mathlib.Core.List.{List, [], ◌∷◌, ◌++◌, Memᴰ}
use mathlib.Core.Logic.{◌⊎◌, inl, inr}
use Prim.Native.Nat.{ℕ, compare, Ordering}
use lib.Dec.{compare_is_eq}
use Rattle.std.proofs.lemmas.Bool.{eqb-true}
use Rattle.definitions.specs.declared.Test.{Test}
use Rattle.definitions.specs.declared.Condition.{Condition}
use Rattle.definitions.specs.Lists.{Letters}
use Rattle.definitions.specs.Clock.{Clock, base, ◌↓◌, same_clock, conditions, and_then, lexical, test_order, chain_order, insert, in_chain_order}
use Rattle.shapes.proofs.Added.{has}
use Rattle.runs.proofs.Facts.{clock-eq, All, all_app}
use Rattle.runs.proofs.Growth.{OfClock}

abbrev IsEq : Ordering → Type 0
IsEq Ordering.lt = ⊥
IsEq Ordering.eq = Unit {0}
IsEq Ordering.gt = ⊥

then-first : (o p : Ordering) → and_then o p ≡ Ordering.eq → o ≡ Ordering.eq
then-first Ordering.lt p e = e
then-first Ordering.eq p e = refl
then-first Ordering.gt p e = e

then-second : (o p : Ordering) → and_then o p ≡ Ordering.eq → p ≡ Ordering.eq
then-second Ordering.lt p e = absurd (subst⁻¹ IsEq e tt)
then-second Ordering.eq p e = e
then-second Ordering.gt p e = absurd (subst⁻¹ IsEq e tt)

-- lists that compare as equal are equal, if their items are
lexical-eq : {A : Type 0} (f : A → A → Ordering) (R : A → Type 0) → ((a b : A) → R a → R b → f a b ≡ Ordering.eq → a ≡ b)
    → (k l : List A) → All R k → All R l → lexical f k l ≡ Ordering.eq → k ≡ l
unfolding lexical
lexical-eq f R h [] [] r s e = refl
lexical-eq f R h [] (b ∷ l) r s e = absurd (subst⁻¹ IsEq e tt)
lexical-eq f R h (a ∷ k) [] r s e = absurd (subst⁻¹ IsEq e tt)
lexical-eq {A} f R h (a ∷ k) (b ∷ l) r s e =
    ap₂ {C = List A} (λ x xs. x ∷ xs) (h a b (r a (Memᴰ.head refl)) (s b (Memᴰ.head refl)) (then-first (f a b) (lexical f k l) e))
    (lexical-eq f R h k l (λ x m. r x (Memᴰ.tail m)) (λ x m. s x (Memᴰ.tail m)) (then-second (f a b) (lexical f k l) e))

-- a clock is made of its conditions
rebuilt : Clock → List Condition → Clock
rebuilt c [] = c
rebuilt c (k ∷ ks) = rebuilt (c ↓ k) ks

rebuilt-app : (c : Clock) (a b : List Condition) → rebuilt c (a ++ b) ≡ rebuilt (rebuilt c a) b
unfolding rebuilt
rebuilt-app c [] b = refl
rebuilt-app c (k ∷ a) b = rebuilt-app (c ↓ k) a b

rebuilt-is : (c : Clock) → rebuilt base (conditions c) ≡ c
unfolding rebuilt conditions
rebuilt-is base = refl
rebuilt-is (c ↓ k) = rebuilt-app base (conditions c) (k ∷ []) ∙ ap (λ (d : Clock). d ↓ k) (rebuilt-is c)

pub has-member : (c : Clock) (cs : List Clock) → has c cs ≡ true → Memᴰ c cs
has-member c [] h = absurd (false≢true h)
has-member c (d ∷ cs) h = go (same_clock c d) refl h (λ q. has-member c cs q)
  where
    go : (u : Bool) → same_clock c d ≡ u → (u || has c cs) ≡ true → (has c cs ≡ true → Memᴰ c cs) → Memᴰ c (d ∷ cs)
    go true e q ih = Memᴰ.head (clock-eq c d e)
    go false e q ih = Memᴰ.tail (ih q)

-- nothing is added
module _ (letters : ℕ → Letters) where
  insert-only : (c d : Clock) (cs : List Clock) → Memᴰ d (insert letters c cs) → (d ≡ c) ⊎ Memᴰ d cs
  unfolding insert
  insert-only c d [] m = inl (Memᴰ.eq_of_singleton m)
  insert-only c d (e ∷ cs) m = go (chain_order letters c e) m (λ q. insert-only c d cs q)
    where
      next : Memᴰ d (c ∷ e ∷ cs) → (d ≡ c) ⊎ Memᴰ d (e ∷ cs)
      next (Memᴰ.head q) = inl q
      next (Memᴰ.tail q) = inr q

      rest : (Memᴰ d (insert letters c cs) → (d ≡ c) ⊎ Memᴰ d cs) → Memᴰ d (e ∷ insert letters c cs) → (d ≡ c) ⊎ Memᴰ d (e ∷ cs)
      rest ih (Memᴰ.head q) = inr (Memᴰ.head q)
      rest ih (Memᴰ.tail q) = more (ih q)
        where
          more : (d ≡ c) ⊎ Memᴰ d cs → (d ≡ c) ⊎ Memᴰ d (e ∷ cs)
          more (inl p) = inl p
          more (inr p) = inr (Memᴰ.tail p)

      go : (o : Ordering) → Memᴰ d (elim o as (λ x. List Clock) [ Ordering.lt ↦ c ∷ e ∷ cs | Ordering.eq ↦ e ∷ cs | Ordering.gt ↦ e ∷ insert letters c cs ]) → (Memᴰ d (insert letters c cs) → (d ≡ c) ⊎ Memᴰ d cs) → (d ≡ c) ⊎ Memᴰ d (e ∷ cs)
      go Ordering.lt q ih = next q
      go Ordering.eq q ih = inr q
      go Ordering.gt q ih = rest ih q

  pub order-only : (d : Clock) (cs : List Clock) → Memᴰ d (in_chain_order letters cs) → Memᴰ d cs
  unfolding in_chain_order
  order-only d [] m = m
  order-only d (c ∷ cs) m = go (insert-only c d (in_chain_order letters cs) m) (λ q. order-only d cs q)
    where
      go : (d ≡ c) ⊎ Memᴰ d (in_chain_order letters cs) → (Memᴰ d (in_chain_order letters cs) → Memᴰ d cs) → Memᴰ d (c ∷ cs)
      go (inl q) ih = Memᴰ.head q
      go (inr q) ih = Memᴰ.tail (ih q)

module _ (letters : ℕ → Letters) (P : ℕ → Type 0) (apart : (x y : ℕ) → P x → P y → letters x ≡ letters y → x ≡ y) where
  letters-eq : (k l : Letters) → lexical compare k l ≡ Ordering.eq → k ≡ l
  letters-eq k l e = lexical-eq compare (λ a. Unit {0}) (λ a b r s q. eqb-true a b (ap compare_is_eq q)) k l (λ x m. tt) (λ x m. tt) e

  test-eq : (a b : Test) → test_order a b ≡ Ordering.eq → a ≡ b
  test-eq Test.On Test.On e = refl
  test-eq Test.On Test.Not e = absurd (subst⁻¹ IsEq e tt)
  test-eq Test.Not Test.On e = absurd (subst⁻¹ IsEq e tt)
  test-eq Test.Not Test.Not e = refl

  conditions-named : (c : Clock) → OfClock P c → All (λ k. P k.name) (conditions c)
  unfolding conditions
  conditions-named base o k m = absurd (Memᴰ.not-nil m)
  conditions-named (c ↓ l) o k m = all_app (λ k. P k.name) (conditions c) (l ∷ []) (conditions-named c o.1) (λ j i. subst⁻¹ (λ (z : Condition). P z.name) (Memᴰ.eq_of_singleton i) o.0) k m

  pub order-eq : (c d : Clock) → OfClock P c → OfClock P d → chain_order letters c d ≡ Ordering.eq → c ≡ d
  unfolding chain_order
  order-eq c d o p e = sym (rebuilt-is c) ∙ (ap (rebuilt base) same ∙ rebuilt-is d)
    where
      condition : (k l : Condition) → P k.name → P l.name → and_then (lexical compare (letters k.name) (letters l.name)) (test_order k.test l.test) ≡ Ordering.eq → k ≡ l
      condition k l r s q =
          let a : k.name ≡ l.name = apart k.name l.name r s (letters-eq (letters k.name) (letters l.name) (then-first _ _ q)) in
          let b : k.test ≡ l.test = test-eq k.test l.test (then-second (lexical compare (letters k.name) (letters l.name)) _ q) in
          λ i. record { name = a i; test = b i }

      same : conditions c ≡ conditions d
      same = lexical-eq _ (λ k. P k.name) condition (conditions c) (conditions d) (conditions-named c o) (conditions-named d p) e

  insert-self : (c : Clock) (cs : List Clock) → OfClock P c → All (OfClock P) cs → Memᴰ c (insert letters c cs)
  unfolding insert
  insert-self c [] o h = Memᴰ.head refl
  insert-self c (e ∷ cs) o h = go (chain_order letters c e) refl (insert-self c cs o (λ x m. h x (Memᴰ.tail m)))
    where
      go : (u : Ordering) → chain_order letters c e ≡ u → Memᴰ c (insert letters c cs) → Memᴰ c (elim u as (λ x. List Clock) [ Ordering.lt ↦ c ∷ e ∷ cs | Ordering.eq ↦ e ∷ cs | Ordering.gt ↦ e ∷ insert letters c cs ])
      go Ordering.lt q ih = Memᴰ.head refl
      go Ordering.eq q ih = Memᴰ.head (order-eq c e o (h e (Memᴰ.head refl)) q)
      go Ordering.gt q ih = Memᴰ.tail ih

  insert-in : (c d : Clock) (cs : List Clock) → Memᴰ d cs → Memᴰ d (insert letters c cs)
  unfolding insert
  insert-in c d cs (Memᴰ.head {x = e} {xs = r} q) = go (chain_order letters c e)
    where
      go : (u : Ordering) → Memᴰ d (elim u as (λ x. List Clock) [ Ordering.lt ↦ c ∷ e ∷ r | Ordering.eq ↦ e ∷ r | Ordering.gt ↦ e ∷ insert letters c r ])
      go Ordering.lt = Memᴰ.tail (Memᴰ.head q)
      go Ordering.eq = Memᴰ.head q
      go Ordering.gt = Memᴰ.head q
  insert-in c d cs (Memᴰ.tail {x = e} {xs = r} m) = go (chain_order letters c e) (insert-in c d r m)
    where
      go : (u : Ordering) → Memᴰ d (insert letters c r) → Memᴰ d (elim u as (λ x. List Clock) [ Ordering.lt ↦ c ∷ e ∷ r | Ordering.eq ↦ e ∷ r | Ordering.gt ↦ e ∷ insert letters c r ])
      go Ordering.lt ih = Memᴰ.tail (Memᴰ.tail m)
      go Ordering.eq ih = Memᴰ.tail m
      go Ordering.gt ih = Memᴰ.tail ih

  -- each clock is there
  pub order-in : (d : Clock) (cs : List Clock) → All (OfClock P) cs → Memᴰ d cs → Memᴰ d (in_chain_order letters cs)
  unfolding in_chain_order
  order-in d cs h (Memᴰ.head {x = c} {xs = r} q) = Memᴰ.cast q (insert-self c (in_chain_order letters r) (h c (Memᴰ.head refl)) (λ x m. h x (Memᴰ.tail (order-only letters x r m))))
  order-in d cs h (Memᴰ.tail {x = c} {xs = r} m) = insert-in c d (in_chain_order letters r) (order-in d r (λ x i. h x (Memᴰ.tail i)) m)
