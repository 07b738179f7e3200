-- Small facts on tests, clocks, letters and lists.
use mathlib.Core.Path.{◌≡◌, refl, sym, ap, ap₂, ◌∙◌, subst⁻¹}
use mathlib.Core.Bool.{Bool, true, false, ◌&&◌, ◌||◌, true≢false, false≢true}
use mathlib.Core.List.Memᴰ
use mathlib.Core.List.{List, [], ◌∷◌, ◌++◌, append_assoc, append-nil, Memᴰ}
use mathlib.Core.Logic.{◌⊎◌, inl, inr}
use Prim.Native.Nat.{ℕ, suc, ◌≤◌}
use native.Mathlib.Omega.{arith}
use lib.Dec.{eqb, T, eqb_refl}
use lib.ListN.{length, take}
use Rattle.std.proofs.lemmas.Bool.{eqb-true, and_parts, ne_eqb}
use Rattle.std.proofs.Math.Bool.{or_assoc}
use Rattle.definitions.specs.declared.Test.{Test}
use Rattle.definitions.specs.declared.Condition.{Condition}
use Rattle.definitions.specs.Lists.{any, over, Letters, same_letters}
use Rattle.definitions.specs.Clock.{Clock, base, ◌↓◌, same_test, same_condition, same_clock}
pub use Rattle.shapes.specs.Shape.{All}

-- a test that passes
pub T_of : (b : Bool) → b ≡ true → T b
T_of true e = tt
T_of false e = absurd (false≢true e)

pub of_T : (b : Bool) → T b → b ≡ true
of_T true t = refl
of_T false t = absurd t

pub eqb-self : (a : ℕ) → eqb a a ≡ true
eqb-self a = of_T (eqb a a) (eqb_refl a)

pub eqb-sym : (a b : ℕ) → eqb a b ≡ eqb b a
eqb-sym a b = go (eqb a b) refl
  where
    go : (u : Bool) → eqb a b ≡ u → eqb a b ≡ eqb b a
    go true e = e ∙ (sym (eqb-self a) ∙ ap (λ (z : ℕ). eqb z a) (eqb-true a b e))
    go false e = e ∙ sym (ne_eqb b a (λ q. true≢false (sym (eqb-self a) ∙ (ap (eqb a) (sym q) ∙ e))))

-- clocks
pub test-eq : (a b : Test) → same_test a b ≡ true → a ≡ b
test-eq Test.On Test.On e = refl
test-eq Test.On Test.Not e = absurd (false≢true e)
test-eq Test.Not Test.On e = absurd (false≢true e)
test-eq Test.Not Test.Not e = refl

pub test-self : (a : Test) → same_test a a ≡ true
test-self Test.On = refl
test-self Test.Not = refl

pub condition-eq : (k l : Condition) → same_condition k l ≡ true → k ≡ l
condition-eq k l e =
    let p : k.name ≡ l.name = eqb-true k.name l.name (and_parts (eqb k.name l.name) (same_test k.test l.test) e).0 in
    let q : k.test ≡ l.test = test-eq k.test l.test (and_parts (eqb k.name l.name) (same_test k.test l.test) e).1 in
    λ i. record { name = p i; test = q i }

pub condition-self : (k : Condition) → same_condition k k ≡ true
condition-self k = rw (eqb-self k.name) (test-self k.test)

pub clock-eq : (c d : Clock) → same_clock c d ≡ true → c ≡ d
clock-eq base base e = refl
clock-eq base (d ↓ l) e = absurd (false≢true e)
clock-eq (c ↓ k) base e = absurd (false≢true e)
clock-eq (c ↓ k) (d ↓ l) e =
    let p : k ≡ l = condition-eq k l (and_parts (same_condition k l) (same_clock c d) e).0 in
    let q : c ≡ d = clock-eq c d (and_parts (same_condition k l) (same_clock c d) e).1 in
    λ i. q i ↓ p i

pub clock-self : (c : Clock) → same_clock c c ≡ true
clock-self base = refl
clock-self (c ↓ k) = ap₂ ◌&&◌ (condition-self k) (clock-self c)

-- letters
pub letters-eq : (k l : Letters) → same_letters k l ≡ true → k ≡ l
letters-eq [] [] e = refl
letters-eq [] (b ∷ l) e = absurd (false≢true e)
letters-eq (a ∷ k) [] e = absurd (false≢true e)
letters-eq (a ∷ k) (b ∷ l) e = go (eqb a b) refl e (λ q. letters-eq k l q)
  where
    go : (u : Bool) → eqb a b ≡ u → (elim u as (λ x. Bool) [ true ↦ same_letters k l | false ↦ false ]) ≡ true → (same_letters k l ≡ true → k ≡ l) → a ∷ k ≡ b ∷ l
    go true p q ih = ap₂ {C = Letters} (λ x xs. x ∷ xs) (eqb-true a b p) (ih q)
    go false p q ih = absurd (false≢true q)

-- a list written over the front of another
pub over-long : {A : Type 0} (l s : List A) → length (over l s) ≡ length s
over-long [] s = refl
over-long (a ∷ l) [] = refl
over-long (a ∷ l) (b ∷ s) = ap suc (over-long l s)

pub over-there : {A : Type 0} (l s : List A) → length l ≤ length s → take (length l) (over l s) ≡ l
over-there [] s h = refl
over-there (a ∷ l) [] h = absurd (omega arith)
over-there (a ∷ l) (b ∷ s) h = ap (λ r. a ∷ r) (over-there l s (omega arith))

-- a list that goes on
abbrev pub Goes : {A : Type 0} → List A → List A → Type 0
Goes {A} l m = (r : List A) × (l ++ r ≡ m)

pub goes_self : {A : Type 0} (l : List A) → Goes l l
goes_self l = ([], append-nil l)

pub goes-trans : {A : Type 0} (a b c : List A) → Goes a b → Goes b c → Goes a c
goes-trans {A} a b c p q = (p.0 ++ q.0, sym (append_assoc a p.0 q.0) ∙ (ap (λ (z : List A). z ++ q.0) p.1 ∙ q.1))

pub any-app : {A : Type 0} (p : A → Bool) (a b : List A) → any p (a ++ b) ≡ (any p a || any p b)
any-app p [] b = refl
any-app p (y ∷ a) b = ap (λ (u : Bool). p y || u) (any-app p a b) ∙ sym (or_assoc (p y) (any p a) (any p b))

-- P of each member
module _ {X : Type 0} where
  pub all_nil : (P : X → Type 0) → All P []
  all_nil P x m = absurd (Memᴰ.not-nil m)

  pub all_cons : (P : X → Type 0) (a : X) (l : List X) → P a → All P l → All P (a ∷ l)
  all_cons P a l p h x (Memᴰ.head e) = subst⁻¹ P e p
  all_cons P a l p h x (Memᴰ.tail m) = h x m

  pub all_app : (P : X → Type 0) (a b : List X) → All P a → All P b → All P (a ++ b)
  all_app P a b ha hb x i = go (Memᴰ.append_cases a i)
    where
      go : Memᴰ x a ⊎ Memᴰ x b → P x
      go (inl j) = ha x j
      go (inr j) = hb x j

  pub all_head : (P : X → Type 0) (a : X) (l : List X) → All P (a ∷ l) → P a
  all_head P a l h = h a (Memᴰ.head refl)

  pub all_tail : (P : X → Type 0) (a : X) (l : List X) → All P (a ∷ l) → All P l
  all_tail P a l h x m = h x (Memᴰ.tail m)
