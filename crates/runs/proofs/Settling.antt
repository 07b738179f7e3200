-- What `settled` says, read by induction: a settled name is undeclared, or has no clock and an equation whose right side is built from
-- settled names. Such a right side has no natural clock.
use mathlib.Core.Path.{◌≡◌, refl, ap, ap₂, ◌∙◌}
use mathlib.Core.Bool.{Bool, true, false, not, ◌&&◌, ◌||◌, false≢true}
use mathlib.Core.List.{List, [], ◌∷◌, map, Memᴰ}
use mathlib.Core.Option.{Option, none, some}
use Prim.Native.Nat.{ℕ, zero, suc}
use lib.Dec.{eqb}
use lib.ListN.{length}
use Rattle.std.proofs.lemmas.Bool.{eqb-true, and_parts, not-true}
use Rattle.definitions.specs.Lists.{choose, any, keep, among}
use Rattle.definitions.specs.Tree.{Expr, Exprs, Head, Equation, Node}
use Rattle.definitions.specs.Clock.{Clock}
use Rattle.definitions.specs.declared.Literal.{Literal}
use Rattle.definitions.specs.InferClocks.{Clocks, clock_of, formed, natural, naturals, ◌or◌}
use Rattle.runs.specs.Callees.{is_declared, Callees}
use Rattle.runs.specs.Settled.{built, all_built, no_clock, built_from, settled_in, settled}
use Rattle.runs.proofs.Facts.{or-other, of-any, all_in}

module _ (C : Callees) (node : Node) (clocks : Clocks) where
  mutual
    pub data Settled : ℕ → Type 0 where
      undeclared : {x : ℕ} → is_declared node x ≡ false → Settled x
      defined : {x : ℕ} (e : Equation) → Memᴰ e node.equations → Memᴰ x e.left → clock_of clocks x ≡ none → SettledExpr e.right → Settled x

    pub data SettledExpr : Expr → Type 0 where
      const : {l : Literal} {w : ℕ} → SettledExpr (Expr.const l w)
      var : {x : ℕ} → Settled x → SettledExpr (Expr.var x)
      op : {h : Head} {es : Exprs} → SettledExprs es → SettledExpr (Expr.op h es)
      call : {f : ℕ} {es : Exprs} → C.operators f ≡ false → SettledExprs es → SettledExpr (Expr.call f es)

    pub data SettledExprs : Exprs → Type 0 where
      end : SettledExprs Exprs.end
      and : {e : Expr} {es : Exprs} → SettledExpr e → SettledExprs es → SettledExprs (Exprs.and e es)

  -- an expression built from names that are settled
  module _ (name : ℕ → Bool) (h : (y : ℕ) → name y ≡ true → Settled y) where
    mutual
      unfolding built

      of-built : (e : Expr) → built C name e ≡ true → SettledExpr e
      of-built (Expr.const l w) b = const
      of-built (Expr.var x) b = var (h x b)
      of-built (Expr.op g es) b = op (all-of-built es b)
      of-built (Expr.pre e) b = absurd (false≢true b)
      of-built (Expr.arrow x y) b = absurd (false≢true b)
      of-built (Expr.call f es) b =
          let p = not (C.operators f) && not (eqb f C.condact) in
          call (not-true (C.operators f) (and_parts (not (C.operators f)) (not (eqb f C.condact)) (and_parts p (all_built C name es) b).0).0) (all-of-built es (and_parts p (all_built C name es) b).1)
      of-built (Expr.when k e) b = absurd (false≢true b)
      of-built (Expr.merge x y z) b = absurd (false≢true b)

      all-of-built : (es : Exprs) → all_built C name es ≡ true → SettledExprs es
      all-of-built Exprs.end b = end
      all-of-built (Exprs.and e es) b = and (of-built e (and_parts (built C name e) (all_built C name es) b).0) (all-of-built es (and_parts (built C name e) (all_built C name es) b).1)

  any_some : {A : Type 0} (p : A → Bool) (l : List A) → any p l ≡ true → (a : A) × Memᴰ a l × (p a ≡ true)
  any_some p [] h = absurd (false≢true h)
  any_some {A} p (a ∷ l) h = go (p a) refl h (any_some p l)
    where
      go : (u : Bool) → p a ≡ u → (u || any p l) ≡ true → (any p l ≡ true → (b : A) × Memᴰ b l × (p b ≡ true)) → (b : A) × Memᴰ b (a ∷ l) × (p b ≡ true)
      go true e q ih = (a, Memᴰ.head refl, e)
      go false e q ih = let r = ih q in (r.0, Memᴰ.tail r.1, r.2)

  kept-passes : (p : ℕ → Bool) (x : ℕ) (l : List ℕ) → among x (keep p l) ≡ true → p x ≡ true
  kept-passes p x [] h = absurd (false≢true h)
  kept-passes p x (y ∷ l) h = go (p y) refl h (kept-passes p x l)
    where
      first : (u : Bool) → eqb x y ≡ u → p y ≡ true → (u || among x (keep p l)) ≡ true → (among x (keep p l) ≡ true → p x ≡ true) → p x ≡ true
      first true e q r ih = ap p (eqb-true x y e) ∙ q
      first false e q r ih = ih r

      go : (u : Bool) → p y ≡ u → among x (choose u (y ∷ keep p l) (keep p l)) ≡ true → (among x (keep p l) ≡ true → p x ≡ true) → p x ≡ true
      go true q r ih = first (eqb x y) refl q r ih
      go false q r ih = ih r

  pub no-clock : (x : ℕ) → no_clock clocks x ≡ true → clock_of clocks x ≡ none
  no-clock x h = go (clock_of clocks x) h
    where
      go : (o : Option Clock) → (elim o as (λ u. Bool) [ none ↦ true | some c ↦ false ]) ≡ true → o ≡ none
      go none h = refl
      go (some c) h = absurd (false≢true h)

  settled-in : (n : ℕ) (x : ℕ) → among x (settled_in C node clocks n) ≡ true → Settled x
  unfolding settled_in built_from
  settled-in zero x h = absurd (false≢true h)
  settled-in (suc n) x h =
      let names : List ℕ = settled_in C node clocks n in
      let p = kept-passes (λ x. no_clock clocks x && built_from C node clocks names x) x (map (λ d. d.name) node.locals) h in
      let b = (and_parts (no_clock clocks x) (built_from C node clocks names x) p).1 in
      let defines : Equation → Bool = λ e. among x e.left in
      let right : Equation → Bool = λ e. built C (λ y. not (is_declared node y) || among y names) e.right in
      let some = any_some defines node.equations (and_parts (any defines node.equations) _ b).0 in
      let every = all_in (λ e. not (defines e) || right e) node.equations (and_parts (any defines node.equations) _ b).1 some.0 some.1 in
      defined some.0 some.1 (of-any x some.0.left some.2) (no-clock x (and_parts (no_clock clocks x) _ p).0)
      (of-built (λ y. not (is_declared node y) || among y names) (name names (settled-in n)) some.0.right (or-other (not (defines some.0)) (right some.0) every (ap not some.2)))
    where
      name : (names : List ℕ) → ((y : ℕ) → among y names ≡ true → Settled y) → (y : ℕ) → (not (is_declared node y) || among y names) ≡ true → Settled y
      name names ih y = go (is_declared node y) refl
        where
          go : (u : Bool) → is_declared node y ≡ u → (not u || among y names) ≡ true → Settled y
          go true e q = ih y q
          go false e q = undeclared e

  -- what the test says
  pub settled-reading : (x : ℕ) → settled C node clocks x ≡ true → Settled x
  unfolding settled
  settled-reading x h = settled-in (length node.locals) x h

  -- what is settled has no natural clock
  module _ (unclocked : (x : ℕ) → is_declared node x ≡ false → clock_of clocks x ≡ none) where
    settled-clock : (x : ℕ) → Settled x → clock_of clocks x ≡ none
    settled-clock x (undeclared u) = unclocked _ u
    settled-clock x (defined e m j c g) = c

    mutual
      unfolding natural

      pub settled-natural : (e : Expr) → SettledExpr e → natural clocks e ≡ formed none
      settled-natural e const = refl
      settled-natural e (var {x} g) = ap formed (settled-clock x g)
      settled-natural e (op {es = ds} g) = settled-naturals ds g
      settled-natural e (call {es = ds} o g) = settled-naturals ds g

      settled-naturals : (ds : Exprs) → SettledExprs ds → naturals clocks ds ≡ formed none
      settled-naturals ds end = refl
      settled-naturals ds (and {e} {es = fs} g gs) = ap₂ ◌or◌ (settled-natural e g) (settled-naturals fs gs)
