-- As many steps as there are locals settle all that can be: one more adds none, `steps-enough`.
use mathlib.Core.Path.{◌≡◌, refl, sym, ap, ◌∙◌}
use mathlib.Core.Bool.{Bool, true, false, not, ◌&&◌, ◌||◌, false≢true}
use mathlib.Core.List.{List, [], ◌∷◌, map}
use mathlib.Core.Logic.{◌⊎◌, inl, inr}
use Prim.Native.Nat.{ℕ, zero, suc, ◌≤◌, ◌<◌}
use native.Mathlib.Omega.{arith}
use native.Mathlib.Decide.{ℕ_discrete}
use lib.Dec.{eqb}
use lib.ListN.{length, length-map}
use Rattle.std.proofs.lemmas.Bool.{and_from, and_parts}
use Rattle.definitions.specs.Lists.{choose, any, all, keep, among}
use Rattle.definitions.specs.Tree.{Expr, Exprs, Equation, Node}
use Rattle.definitions.specs.InferClocks.{Clocks}
use Rattle.runs.specs.Callees.{is_declared, Callees}
use Rattle.runs.specs.Settled.{built, all_built, no_clock, built_from, settled_in}
use Rattle.runs.proofs.Facts.{or-true}

-- what passes one test passes the other
abbrev Weaker : {A : Type 0} → (A → Bool) → (A → Bool) → Type 0
Weaker {A} p q = (a : A) → p a ≡ true → q a ≡ true

or_map : (a b c : Bool) → (b ≡ true → c ≡ true) → (a || b) ≡ true → (a || c) ≡ true
or_map true b c h e = refl
or_map false b c h e = h e

all_weaker : {A : Type 0} (p q : A → Bool) → Weaker p q → (l : List A) → all p l ≡ true → all q l ≡ true
all_weaker p q w [] h = refl
all_weaker p q w (a ∷ l) h = and_from (q a) (all q l) (w a (and_parts (p a) (all p l) h).0) (all_weaker p q w l (and_parts (p a) (all p l) h).1)

-- a weaker test keeps more
keep-longer : (p q : ℕ → Bool) → Weaker p q → (l : List ℕ) → length (keep p l) ≤ length (keep q l)
keep-longer p q w [] = omega arith
keep-longer p q w (a ∷ l) = go (p a) (q a) (w a) (keep-longer p q w l)
  where
    go : (u v : Bool) → (u ≡ true → v ≡ true) → length (keep p l) ≤ length (keep q l) → length (choose u (a ∷ keep p l) (keep p l)) ≤ length (choose v (a ∷ keep q l) (keep q l))
    go true true h ih = omega arith
    go true false h ih = absurd (false≢true (h refl))
    go false true h ih = omega arith
    go false false h ih = ih

-- and the same, if it keeps as many
keep_same : (p q : ℕ → Bool) → Weaker p q → (l : List ℕ) → length (keep p l) ≡ length (keep q l) → keep p l ≡ keep q l
keep_same p q w [] e = refl
keep_same p q w (a ∷ l) e = go (p a) (q a) (w a) e (keep_same p q w l) (keep-longer p q w l)
  where
    go : (u v : Bool) → (u ≡ true → v ≡ true) → length (choose u (a ∷ keep p l) (keep p l)) ≡ length (choose v (a ∷ keep q l) (keep q l))
        → (length (keep p l) ≡ length (keep q l) → keep p l ≡ keep q l) → length (keep p l) ≤ length (keep q l) → choose u (a ∷ keep p l) (keep p l) ≡ choose v (a ∷ keep q l) (keep q l)
    go true true h e ih k = ap (λ (z : List ℕ). a ∷ z) (ih (omega arith))
    go true false h e ih k = absurd (false≢true (h refl))
    go false true h e ih k = absurd (omega arith)
    go false false h e ih k = ih e

keep-short : (p : ℕ → Bool) (l : List ℕ) → length (keep p l) ≤ length l
keep-short p [] = omega arith
keep-short p (a ∷ l) = go (p a) (keep-short p l)
  where
    go : (u : Bool) → length (keep p l) ≤ length l → length (choose u (a ∷ keep p l) (keep p l)) ≤ suc (length l)
    go true h = omega arith
    go false h = omega arith

keep-none : (l : List ℕ) → keep (λ x. false) l ≡ []
keep-none [] = refl
keep-none (a ∷ l) = keep-none l

keep-in : (p q : ℕ → Bool) → Weaker p q → (l : List ℕ) → Weaker (λ x. among x (keep p l)) (λ x. among x (keep q l))
keep-in p q w [] x h = h
keep-in p q w (a ∷ l) x h = go (p a) (q a) (w a) h (keep-in p q w l x)
  where
    go : (u v : Bool) → (u ≡ true → v ≡ true) → among x (choose u (a ∷ keep p l) (keep p l)) ≡ true → (among x (keep p l) ≡ true → among x (keep q l) ≡ true) → among x (choose v (a ∷ keep q l) (keep q l)) ≡ true
    go true true k e ih = or_map (eqb x a) (among x (keep p l)) (among x (keep q l)) ih e
    go true false k e ih = absurd (false≢true (k refl))
    go false true k e ih = ap (λ (b : Bool). eqb x a || b) (ih e) ∙ or-true (eqb x a)
    go false false k e ih = ih e

module _ (C : Callees) (node : Node) (clocks : Clocks) where
  -- what is built from names that pass one test is built from names that pass the other
  module _ (p q : ℕ → Bool) (w : Weaker p q) where
    mutual
      unfolding built

      built-weaker : (e : Expr) → built C p e ≡ true → built C q e ≡ true
      built-weaker (Expr.const l v) h = refl
      built-weaker (Expr.var x) h = w x h
      built-weaker (Expr.op g es) h = all-built-weaker es h
      built-weaker (Expr.pre e) h = h
      built-weaker (Expr.arrow a b) h = h
      built-weaker (Expr.call f es) h =
          let c = not (C.operators f) && not (eqb f C.condact) in
          and_from c (all_built C q es) (and_parts c (all_built C p es) h).0 (all-built-weaker es (and_parts c (all_built C p es) h).1)
      built-weaker (Expr.when k e) h = h
      built-weaker (Expr.merge x a b) h = h

      all-built-weaker : (es : Exprs) → all_built C p es ≡ true → all_built C q es ≡ true
      all-built-weaker Exprs.end h = refl
      all-built-weaker (Exprs.and e es) h =
          and_from (built C q e) (all_built C q es) (built-weaker e (and_parts (built C p e) (all_built C p es) h).0) (all-built-weaker es (and_parts (built C p e) (all_built C p es) h).1)

  -- a step from some names
  abbrev Step : List ℕ → ℕ → Bool
  Step names x = no_clock clocks x && built_from C node clocks names x

  step-weaker : (a b : List ℕ) → Weaker (λ x. among x a) (λ x. among x b) → Weaker (Step a) (Step b)
  unfolding built_from
  step-weaker a b w x h =
      let some = any (λ e. among x e.left) node.equations in
      let r = (and_parts (no_clock clocks x) (built_from C node clocks a x) h).1 in
      and_from (no_clock clocks x) (built_from C node clocks b x) (and_parts (no_clock clocks x) (built_from C node clocks a x) h).0
      (and_from some (all (right b) node.equations) (and_parts some (all (right a) node.equations) r).0
      (all_weaker (right a) (right b) (λ e. or_map (not (among x e.left)) (built C (name a) e.right) (built C (name b) e.right) (built-weaker (name a) (name b) names-weaker e.right))
      node.equations (and_parts some (all (right a) node.equations) r).1))
    where
      name : List ℕ → ℕ → Bool
      name l y = not (is_declared node y) || among y l

      right : List ℕ → Equation → Bool
      right l e = not (among x e.left) || built C (name l) e.right

      names-weaker : Weaker (name a) (name b)
      names-weaker y e = or_map (not (is_declared node y)) (among y a) (among y b) (w y) e

  -- the names after n steps, and the test that keeps them
  abbrev Names : ℕ → List ℕ
  Names n = settled_in C node clocks n

  abbrev locals : List ℕ
  locals = map (λ d. d.name) node.locals

  abbrev Test : ℕ → ℕ → Bool
  Test zero x = false
  Test (suc n) x = Step (Names n) x

  names-kept : (n : ℕ) → Names n ≡ keep (Test n) locals
  unfolding settled_in
  names-kept zero = sym (keep-none locals)
  names-kept (suc n) = refl

  test-weaker : (n : ℕ) → Weaker (Test n) (Test (suc n))
  test-weaker zero x h = absurd (false≢true h)
  test-weaker (suc n) x h = step-weaker (Names n) (Names (suc n)) (λ y e. rw (names-kept (suc n)) (keep-in (Test n) (Test (suc n)) (λ z k. test-weaker n z k) locals y (rw (names-kept n) at e))) x h

  -- a step adds nothing, or a name at least
  same-or-longer : (n : ℕ) → (Names (suc n) ≡ Names n) ⊎ (length (Names n) < length (Names (suc n)))
  same-or-longer n = go (ℕ_discrete (length (keep (Test n) locals)) (length (keep (Test (suc n)) locals))) (keep-longer (Test n) (Test (suc n)) (test-weaker n) locals)
    where
      go : Dec (length (keep (Test n) locals) ≡ length (keep (Test (suc n)) locals)) → length (keep (Test n) locals) ≤ length (keep (Test (suc n)) locals) → (Names (suc n) ≡ Names n) ⊎ (length (Names n) < length (Names (suc n)))
      go (yes e) l = inl (sym (names-kept n ∙ (keep_same (Test n) (Test (suc n)) (test-weaker n) locals e ∙ sym (names-kept (suc n)))))
      go (no e) l = inr (rw (names-kept n, names-kept (suc n)) (omega arith))

  -- where a step added nothing, the next adds nothing
  stays : (n : ℕ) → Names (suc n) ≡ Names n → Names (suc (suc n)) ≡ Names (suc n)
  stays n e = names-kept (suc (suc n)) ∙ (ap (λ (a : List ℕ). keep (Step a) locals) e ∙ sym (names-kept (suc n)))

  grows : (n : ℕ) → (Names (suc n) ≡ Names n) ⊎ (n < length (Names (suc n)))
  grows zero = go (same-or-longer zero)
    where
      go : (Names 1 ≡ Names 0) ⊎ (length (Names 0) < length (Names 1)) → (Names 1 ≡ Names 0) ⊎ (0 < length (Names 1))
      go (inl e) = inl e
      go (inr h) = inr (omega arith)
  grows (suc n) = go (grows n) (same-or-longer (suc n))
    where
      go : (Names (suc n) ≡ Names n) ⊎ (n < length (Names (suc n))) → (Names (suc (suc n)) ≡ Names (suc n)) ⊎ (length (Names (suc n)) < length (Names (suc (suc n))))
          → (Names (suc (suc n)) ≡ Names (suc n)) ⊎ (suc n < length (Names (suc (suc n))))
      go (inl e) s = inl (stays n e)
      go (inr h) (inl e) = inl e
      go (inr h) (inr k) = inr (omega arith)

  -- a name built from undeclared and settled names is settled: nothing is missed
  pub steps-enough : settled_in C node clocks (suc (length node.locals)) ≡ settled_in C node clocks (length node.locals)
  steps-enough = go (grows (length node.locals))
    where
      go : (Names (suc (length node.locals)) ≡ Names (length node.locals)) ⊎ (length node.locals < length (Names (suc (length node.locals)))) → Names (suc (length node.locals)) ≡ Names (length node.locals)
      go (inl e) = e
      go (inr h) =
          let a : length locals ≡ length node.locals = length-map node.locals (λ d. d.name) in
          let b : length (keep (Test (suc (length node.locals))) locals) ≤ length locals = keep-short (Test (suc (length node.locals))) locals in
          let c : length node.locals < length (keep (Test (suc (length node.locals))) locals) = rw (names-kept (suc (length node.locals))) at h in
          absurd (omega arith)
