-- The new equations of a rewritten run: an activation flag is true where its clock is on, a first-tick flag where its clock has not
-- been on before, and each hold has its equation.
use mathlib.Core.Path.{◌≡◌, refl, sym, ap, ap₂, ◌∙◌, subst}
use mathlib.Core.Bool.{Bool, true, false, not, ◌&&◌}
use mathlib.Core.List.{List, [], ◌∷◌, ◌++◌, map, Memᴰ}
use mathlib.Core.Option.{some}
use Prim.Native.Nat.{ℕ, zero, suc, ◌+◌}
use native.Mathlib.Omega.{arith}
use lib.ListN.{length}
use Rattle.definitions.specs.declared.Test.{Test}
use Rattle.definitions.specs.declared.Condition.{Condition}
use Rattle.definitions.specs.Lists.{choose, numbered, Letters}
use Rattle.definitions.specs.Tree.{Expr, Equation}
use Rattle.definitions.specs.Clock.{Clock, base, ◌↓◌, in_chain_order}
use Rattle.definitions.specs.Declock.{State, Hold, New, Stem, ck, first, hold, clock_place, not_of, condition_expr, activation, first_tick, new_locals}
use Rattle.shapes.proofs.Added.{has, member-has}
use Rattle.runs.specs.Callees.{Callees}
use Rattle.runs.specs.Run.{Meaning, last, Env, Unset, meets, on, value, values, Holds}
use Rattle.runs.proofs.Ticks.{none?, and-false, and-true}
use Rattle.runs.proofs.Facts.{Goes, All}
use Rattle.runs.proofs.Growth.{OfClock, Sound}
use Rattle.runs.proofs.Expressions.{one, Flags, Firsts}
use Rattle.runs.proofs.Holding.{on_base, EachHolds, each_at}
use Rattle.runs.proofs.Order.{order-in, has-member}

-- the equation of a new local
abbrev pub new_equation : (Stem → ℕ → ℕ) → New → Equation
new_equation new l = record { left = new l.stem l.number ∷ []; right = l.right }

-- an item stands at its number
numbered-in : {A B : Type 0} (f : ℕ → A → B) (k : ℕ) (l : List A) (a : A) (r : List A) → Memᴰ (f (k + length l) a) (numbered f k ((l ++ (a ∷ [])) ++ r))
numbered-in {B} f k [] a r = let q : k + 0 ≡ k = omega arith in mathlib.Core.List.Memᴰ.head (ap {B = B} (λ (j : ℕ). f j a) q)
numbered-in f k (b ∷ l) a r =
    let q : suc k + length l ≡ k + suc (length l) = omega arith in
    mathlib.Core.List.Memᴰ.tail (subst (λ (j : ℕ). Memᴰ (f j a) (numbered f (suc k) ((l ++ (a ∷ [])) ++ r))) q (numbered-in f (suc k) l a r))

-- S is what rewriting needed; P holds of the names of its clocks, which are known by their letters; σ and τ agree on them
module _ {Val : Type 0} (M : Meaning Val) (C : Callees) (τ : Env Val) (n : ℕ) (letters : ℕ → Letters) (P : ℕ → Type 0)
    (apart : (x y : ℕ) → P x → P y → letters x ≡ letters y → x ≡ y)
    (new : Stem → ℕ → ℕ) (S : State) (sound : Sound P S) (σ : Env Val) (agree : (x : ℕ) → P x → (t : ℕ) → σ x t ≡ τ x t)
    (run : EachHolds M C τ n (map on_base (map (new_equation new) (new_locals letters new S))))
  where
    open M use {is_true, one-true, not-law, and-law}

    named : (cs : List Clock) → ((c : Clock) → has c cs ≡ true → has c S.flags ≡ true) → All (OfClock P) cs
    named cs h c m = sound.flags.named c (h c (member-has c cs m))

    flag-equation : (c : Clock) → has c S.flags ≡ true → (α : Unset Val) × Holds M C τ n base (one (new ck (clock_place c S.flags)) (activation letters new S c)) α
    unfolding new_locals
    flag-equation c h = each_at M C τ n _ _ run (mathlib.Core.List.Memᴰ.map on_base (mathlib.Core.List.Memᴰ.map (new_equation new) (mathlib.Core.List.Memᴰ.append_left _ (mathlib.Core.List.Memᴰ.map _ (order-in letters P apart c S.flags (named S.flags (λ c i. i)) (has-member c S.flags h))))))

    first-equation : (c : Clock) → has c S.firsts ≡ true → (α : Unset Val) × Holds M C τ n base (one (new first (clock_place c S.firsts)) (first_tick letters new S c)) α
    unfolding new_locals
    first-equation c h = each_at M C τ n _ _ run (mathlib.Core.List.Memᴰ.map on_base (mathlib.Core.List.Memᴰ.map (new_equation new) (mathlib.Core.List.Memᴰ.append_right (map _ (in_chain_order letters S.flags)) (mathlib.Core.List.Memᴰ.append_left _ (mathlib.Core.List.Memᴰ.map _ (order-in letters P apart c S.firsts (named S.firsts sound.within) (has-member c S.firsts h)))))))

    -- a hold has its equation
    pub held : (l : List Hold) (h : Hold) → Goes (l ++ (h ∷ [])) S.holds → (α : Unset Val) × Holds M C τ n base (one (new hold (length l)) h.right) α
    unfolding new_locals
    held l h g =
        let f : ℕ → Hold → New = λ j h. record { stem = hold; number = j; type = h.type; right = h.right } in
        let m : Memᴰ (f (0 + length l) h) (numbered f 0 S.holds) = subst (λ (z : List Hold). Memᴰ (f (0 + length l) h) (numbered f 0 z)) g.1 (numbered-in f 0 l h g.0) in
        let q : Memᴰ (f (length l) h) (numbered f 0 S.holds) = subst (λ (j : ℕ). Memᴰ (f j h) (numbered f 0 S.holds)) (omega arith) m in
        each_at M C τ n _ _ run (mathlib.Core.List.Memᴰ.map on_base (mathlib.Core.List.Memᴰ.map (new_equation new) (mathlib.Core.List.Memᴰ.append_right (map _ (in_chain_order letters S.flags)) (mathlib.Core.List.Memᴰ.append_right (map _ (in_chain_order letters S.firsts)) q))))

    -- a condition as an expression
    test : (k : Condition) (α : Unset Val) (t : ℕ) → P k.name → is_true (value M C (condition_expr k) τ α base t) ≡ meets M k.test (σ k.name t)
    unfolding value values
    test k α t p = go k.test
      where
        go : (u : Test) → is_true (value M C (elim u as (λ x. Expr) [ Test.On ↦ Expr.var k.name | Test.Not ↦ not_of (Expr.var k.name) ]) τ α base t) ≡ meets M u (σ k.name t)
        go Test.On = ap is_true (sym (agree k.name p t))
        go Test.Not = not-law _ ∙ ap (λ (v : Val). not (is_true v)) (sym (agree k.name p t))

    pub flagged : (c : Clock) → has c S.flags ≡ true → Flags M σ τ n (new ck (clock_place c S.flags)) c
    unfolding on Holds value values
    flagged base h t l = let r = flag-equation base h in ap is_true (r.1 t l refl) ∙ one-true
    flagged (base ↓ k) h t l = let r = flag-equation (base ↓ k) h in ap is_true (r.1 t l refl) ∙ test k r.0 t (sound.flags.named (base ↓ k) h).0
    flagged (c ↓ j ↓ k) h t l =
        let r = flag-equation (c ↓ j ↓ k) h in
        ap is_true (r.1 t l refl) ∙ (and-law _ _ ∙ ap₂ ◌&&◌ (flagged (c ↓ j) (sound.flags.closed (c ↓ j) k h refl) t l) (test k _ t (sound.flags.named (c ↓ j ↓ k) h).0))

    pub firsted : (c : Clock) → has c S.firsts ≡ true → Firsts M σ τ n (new first (clock_place c S.firsts)) c
    unfolding on Holds value values
    firsted c h zero l = let r = first-equation c h in ap is_true (r.1 zero l refl) ∙ one-true
    firsted c h (suc t) l =
        let r = first-equation c h in
        ap is_true (r.1 (suc t) l refl) ∙ (and-law _ _ ∙ (ap₂ ◌&&◌ (firsted c h t (omega arith)) (not-law _ ∙ ap not (flagged c (sound.within c h) t (omega arith))) ∙ go (on M σ c t)))
      where
        go : (u : Bool) → (none? (last (on M σ c) t) && not u) ≡ none? (choose u (some t) (last (on M σ c) t))
        go true = and-false (none? (last (on M σ c) t))
        go false = and-true (none? (last (on M σ c) t))
