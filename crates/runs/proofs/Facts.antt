-- Small facts on tests and lists.
use mathlib.Core.Path.{◌≡◌, refl, ap, ◌∙◌, subst}
use mathlib.Core.Bool.{Bool, true, false, ◌||◌, true≢false, false≢true}
use mathlib.Core.List.{List, [], ◌∷◌, Memᴰ}
use Prim.Native.Nat.{ℕ}
use lib.Dec.{eqb}
use Rattle.std.proofs.lemmas.Bool.{eqb-true, and_parts}
use Rattle.definitions.specs.Lists.{any, all}
pub use Rattle.std.proofs.Math.Bool.{or-true, or-false}
pub use Rattle.shapes.proofs.Facts.{All, T_of, of_T, eqb-self, condition-eq, clock-eq, clock-self, any-app, Goes, goes_self, goes-trans, all_app}

-- a test that each member passes
passes : {A : Type 0} (p : A → Bool) (a : A) (l : List A) → all p l ≡ true → Memᴰ a l → p a ≡ true
passes p a l h (Memᴰ.head {x = b} {xs = r} e) = ap p e ∙ (and_parts (p b) (all p r) h).0
passes p a l h (Memᴰ.tail {x = b} {xs = r} m) = passes p a r (and_parts (p b) (all p r) h).1 m

pub all_in : {A : Type 0} (p : A → Bool) (l : List A) → all p l ≡ true → All (λ a. p a ≡ true) l
all_in p l h a m = passes p a l h m

-- of two tests one fails, so the other passes
pub or-other : (a b : Bool) → (a || b) ≡ true → a ≡ false → b ≡ true
or-other true b h e = absurd (true≢false e)
or-other false b h e = h

-- membership by test
pub any_of : (x : ℕ) (l : List ℕ) → Memᴰ x l → any (eqb x) l ≡ true
any_of x l (Memᴰ.head {x = y} {xs = ys} e) = ap (λ (u : Bool). u || any (eqb x) ys) (subst (λ (z : ℕ). eqb x z ≡ true) e (eqb-self x))
any_of x l (Memᴰ.tail {x = y} {xs = ys} i) = ap (λ (u : Bool). eqb x y || u) (any_of x ys i) ∙ or-true (eqb x y)

pub of-any : (x : ℕ) (l : List ℕ) → any (eqb x) l ≡ true → Memᴰ x l
of-any x [] h = absurd (false≢true h)
of-any x (y ∷ l) h = go (eqb x y) refl h (λ q. of-any x l q)
  where
    go : (u : Bool) → eqb x y ≡ u → (u || any (eqb x) l) ≡ true → (any (eqb x) l ≡ true → Memᴰ x l) → Memᴰ x (y ∷ l)
    go true e q ih = Memᴰ.head (eqb-true x y e)
    go false e q ih = Memᴰ.tail (ih q)
