-- Lists of equations that hold, each under some unset values, and what left names take.
use mathlib.Core.Path.{◌≡◌, refl, ◌∙◌, subst⁻¹}
use mathlib.Core.List.Memᴰ
use mathlib.Core.List.{List, [], ◌∷◌, ◌++◌, Memᴰ}
use Prim.Native.Nat.{ℕ, suc}
use Rattle.definitions.specs.Tree.{Equation}
use Rattle.definitions.specs.Clock.{base}
use Rattle.definitions.specs.InferClocks.{Clocked}
use Rattle.runs.specs.Callees.{Callees}
use Rattle.runs.specs.Run.{Meaning, Env, Unset, in₀, in₁, TakesParts, Takes, Holds, AllHold}
use Rattle.runs.proofs.Expressions.{joined}

-- an equation on base
abbrev pub on_base : Equation → Clocked
on_base e = record { clock = base; equation = e }

-- each equation of a list has some unset values under which it holds
module _ {Val : Type 0} (M : Meaning Val) (C : Callees) (τ : Env Val) (n : ℕ) where
  abbrev pub OneHolds : Clocked → Type 0
  OneHolds e = (α : Unset Val) × Holds M C τ n e.clock e.equation α

  unfoldable pub EachHolds : List Clocked → Type 0
  EachHolds [] = Unit {0}
  EachHolds (e ∷ es) = OneHolds e × EachHolds es

  pub each_left : (s t : List Clocked) → EachHolds (s ++ t) → EachHolds s
  unfolding EachHolds
  each_left [] t h = tt
  each_left (q ∷ s) t h = (h.0, each_left s t h.1)

  pub each_right : (s t : List Clocked) → EachHolds (s ++ t) → EachHolds t
  unfolding EachHolds
  each_right [] t h = h
  each_right (q ∷ s) t h = each_right s t h.1

  pub each_at : (e : Clocked) (es : List Clocked) → EachHolds es → Memᴰ e es → OneHolds e
  unfolding EachHolds
  each_at e es h (Memᴰ.head q) = subst⁻¹ OneHolds q h.0
  each_at e es h (Memᴰ.tail {xs = ds} m) = each_at e ds h.1 m

  pub each_from : (es : List Clocked) → ((e : Clocked) → Memᴰ e es → OneHolds e) → EachHolds es
  unfolding EachHolds
  each_from [] h = tt
  each_from (e ∷ es) h = (h e (Memᴰ.head refl), each_from es (λ d m. h d (Memᴰ.tail m)))

  -- one choice of unset values for all, and back
  pub each-of-all : (es : List Clocked) (α : Unset Val) → AllHold M C τ n es α → EachHolds es
  unfolding EachHolds AllHold
  each-of-all [] α h = tt
  each-of-all (e ∷ es) α h = ((in₀ α, h.0), each-of-all es (in₁ α) h.1)

  pub all_of_each : (es : List Clocked) (v : Val) → EachHolds es → (α : Unset Val) × AllHold M C τ n es α
  unfolding EachHolds AllHold
  all_of_each [] v h = (λ w. v, tt)
  all_of_each (e ∷ es) v h = let r = all_of_each es v h.1 in (joined v h.0.0 r.0, (h.0.1, r.1))

-- left names: what one of them takes, and going from one environment to another
module _ {Val : Type 0} (M : Meaning Val) where
  open M use {part}

  parts_at : (ν : Env Val) (x : ℕ) (xs : List ℕ) → Memᴰ x xs → (j : ℕ) → (g : Val → Val) × ((t : ℕ) (v : Val) → TakesParts M ν j xs t v → ν x t ≡ g v)
  unfolding TakesParts
  parts_at ν x xs (Memᴰ.head e) j = (part j, λ t v h. rw e h.0)
  parts_at ν x xs (Memᴰ.tail {xs = ys} m) j = let r = parts_at ν x ys m (suc j) in (r.0, λ t v h. r.1 t v h.1)

  pub takes_at : (ν : Env Val) (xs : List ℕ) (x : ℕ) → Memᴰ x xs → (g : Val → Val) × ((t : ℕ) (v : Val) → Takes M ν xs t v → ν x t ≡ g v)
  unfolding Takes
  takes_at ν [] x m = absurd (Memᴰ.not-nil m)
  takes_at ν (y ∷ []) x m = (λ v. v, λ t v h. rw (Memᴰ.eq_of_singleton m) h)
  takes_at ν (y ∷ z ∷ zs) x m = parts_at ν x (y ∷ z ∷ zs) m 0

  module _ (σ τ : Env Val) where
    parts-moved : (xs : List ℕ) (t : ℕ) → ((x : ℕ) → Memᴰ x xs → σ x t ≡ τ x t) → (j : ℕ) (v : Val) → TakesParts M τ j xs t v → TakesParts M σ j xs t v
    unfolding TakesParts
    parts-moved [] t o j v h = tt
    parts-moved (x ∷ xs) t o j v h = (o x (Memᴰ.head refl) ∙ h.0, parts-moved xs t (λ y m. o y (Memᴰ.tail m)) (suc j) v h.1)

    pub takes_moved : (xs : List ℕ) (t : ℕ) → ((x : ℕ) → Memᴰ x xs → σ x t ≡ τ x t) → (v : Val) → Takes M τ xs t v → Takes M σ xs t v
    unfolding Takes
    takes_moved [] t o v h = tt
    takes_moved (x ∷ []) t o v h = o x (Memᴰ.head refl) ∙ h
    takes_moved (x ∷ y ∷ ys) t o v h = parts-moved (x ∷ y ∷ ys) t o 0 v h
