-- Laws of the rounds over tables: a name has a default where all that its first definition goes on to have one, and no more is wanting.
-- Assumes nothing.
use mathlib.Core.Path.{◌≡◌, refl, sym, ◌∙◌}
use mathlib.Core.List.{List, [], ◌∷◌, map}
use mathlib.Core.Bool.{Bool, true, false, ◌||◌, ◌&&◌}
use mathlib.Core.Option.{Option, none, some}
use Prim.Native.Nat.{ℕ, zero, suc, ◌+◌, ◌-◌, ◌≤◌, ◌<◌}
use native.Mathlib.Omega.{arith}
use lib.ListN.{length, get_or}
use lib.Dec.{eqb}
use borrow.Author.Tests.{eq-eqb, eqb-true, lt-ltb, ltb-true}
use Rattle.std.specs.Prelude.{◌↔◌, ◌⊎◌}
use Rattle.std.proofs.Common.{inl, inr}
use Rattle.std.proofs.lemmas.Bool.{true≢false, cases_lt, and_parts, and_from}
use Rattle.definitions.specs.Lists.{all, among, join}
use Rattle.definitions.specs.Tree.{Ty, Declared, Body, TypeDef, Head, Expr, Exprs}
use Rattle.definitions.specs.Types.{target, targets, goes_on, default_by, defaults_by, default_of, default_named}
use Rattle.layout.specs.Table.{nowhere, def_at, name_at, is_named, first_of}
use Rattle.layout.proofs.TypedefsLaws.{place-before}
use Rattle.cycles.specs.declared.graph.Graph.{Graph}
use Rattle.cycles.specs.Edges.{is_defined, own_body, row_at, Edges, IsWithin}
use Rattle.cycles.proofs.Laws.{iff, all_append, goes_some, own-some, first-name}
use Rattle.defaults.specs.Has.{is_some, DefaultsKnown}
use Rattle.defaults.proofs.Laws.{unnamed, named_by, has-array, has_end}

-- conjunctions
crossed : (a b c d : Bool) → ((a && b) && (c && d)) ≡ ((a && c) && (b && d))
crossed true true c d = refl
crossed true false true d = refl
crossed true false false d = refl
crossed false b c d = refl

under : (a b : Bool) → (b ≡ true → a ≡ true) → b ≡ ((a && true) && (b && true))
under true true f = refl
under true false f = refl
under false true f = sym (f refl)
under false false f = refl

all-elim : (p : ℕ → Bool) (x : ℕ) (xs : List ℕ) → all p xs ≡ true → among x xs ≡ true → p x ≡ true
all-elim p x [] e m = absurd cc
all-elim p x (y ∷ xs) e m = go (eqb x y) refl m (all-elim p x xs ((and_parts (p y) (all p xs) e).1))
  where
    go : (b : Bool) → eqb x y ≡ b → (b || among x xs) ≡ true → (among x xs ≡ true → p x ≡ true) → p x ≡ true
    go true i m r = let f : x ≡ y = eqb-true x y i in rw f ((and_parts (p y) (all p xs) e).0)
    go false i m r = r m

all-intro : (p : ℕ → Bool) (xs : List ℕ) → ((x : ℕ) → among x xs ≡ true → p x ≡ true) → all p xs ≡ true
all-intro p [] f = refl
all-intro p (y ∷ xs) f = rw (f y (here (eqb y y) (eq-eqb y y refl))) (all-intro p xs (λ x m. f x (there x (eqb x y) m)))
  where
    here : (b : Bool) → b ≡ true → (b || among y xs) ≡ true
    here b e = rw e

    there : (x : ℕ) (b : Bool) → among x xs ≡ true → (b || among x xs) ≡ true
    there x true m = refl
    there x false m = m

both : (o : Option Expr) (l : Option Exprs) → is_some {A = Exprs} (elim o [ none ↦ none | some y ↦ elim l [ none ↦ none | some ys ↦ some (Exprs.and y ys) ] ]) ≡ (is_some o && is_some l)
both none l = refl
both (some y) none = refl
both (some y) (some ys) = refl

-- whether there is a default, where G gives one only to names that are defined: as the definition says of itself, and all that it goes on
-- to has one
module _ (types : List TypeDef) (G : ℕ → Option Expr) (more : (x : ℕ) → is_some (G x) ≡ true → is_defined types x ≡ true) where
  type-splits : (t : Ty) → is_some (default_by G t) ≡ (all (is_defined types) (target t) && all (λ x. is_some (G x)) (target t))
  unfolding default_by target
  type-splits (Ty.primitive p) = refl
  type-splits (Ty.array n t) = sym (has-array G (is_some (default_by G t)) (Ty.array n t) t n refl refl) ∙ type-splits t
  type-splits (Ty.named x) = under (is_defined types x) (is_some (G x)) (more x)

  fields_split : (fs : List Declared) → is_some (defaults_by G fs) ≡ (all (is_defined types) (join (map (λ f. target f.type) fs)) && all (λ x. is_some (G x)) (join (map (λ f. target f.type) fs)))
  unfolding defaults_by
  fields_split [] = refl
  fields_split (f ∷ fs) =
      let here = target f.type in
      let rest = join (map (λ g. target g.type) fs) in
      both (default_by G f.type) (defaults_by G fs) ∙
      rw (type-splits f.type, fields_split fs, all_append (is_defined types) here rest, all_append (λ x. is_some (G x)) here rest)
      (crossed (all (is_defined types) here) (all (λ x. is_some (G x)) here) (all (is_defined types) rest) (all (λ x. is_some (G x)) rest))

  splits : (d : TypeDef) (b : Body) → is_some (default_of G d b) ≡ (own_body types b && all (λ x. is_some (G x)) (targets b))
  unfolding default_of targets own_body
  splits d (Body.enum []) = refl
  splits d (Body.enum (v ∷ vs)) = refl
  splits d (Body.fields fs) = go (defaults_by G fs) ∙ fields_split fs
    where
      go : (o : Option Exprs) → is_some {A = Expr} (elim o [ none ↦ none | some es ↦ some (Expr.op (Head.struct d.name (map (λ f. f.name) fs)) es) ]) ≡ is_some o
      go none = refl
      go (some es) = refl
  splits d (Body.alias t) = type-splits t

own-defined : (types : List TypeDef) (b : Body) → own_body types b ≡ true → all (is_defined types) (targets b) ≡ true
unfolding targets own_body
own-defined types (Body.enum []) e = refl
own-defined types (Body.enum (v ∷ vs)) e = refl
own-defined types (Body.fields fs) e = e
own-defined types (Body.alias t) e = e

first-within : (types : List TypeDef) (i : ℕ) → i < length types → first_of types (name_at types i) < length types
first-within types i h = omega (arith, place-before (is_named (name_at types i)) types nowhere i h (eq-eqb (name_at types i) (name_at types i) refl))

-- a round goes one definition further down
module _ (types : List TypeDef) (n : ℕ) (many : length types ≡ n) (graph : Graph) (edges : Edges types graph) (has : List Bool) (k : ℕ) (by : DefaultsKnown types n k has) where
  abbrev G : ℕ → Option Expr
  G = default_named types k

  within : (x : ℕ) → is_some (G x) ≡ true → is_defined types x ≡ true
  within x e = pick (cases_lt (first_of types x) (length types))
    where
      pick : (first_of types x < length types) ⊎ (length types ≤ first_of types x) → is_defined types x ≡ true
      pick (inl l) = lt-ltb (first_of types x) (length types) l
      pick (inr l) = let f : is_some (G x) ≡ false = rw (unnamed types x k l) in absurd (true≢false (sym e ∙ f))

  module _ (i : ℕ) (h : i < length types) (xs : List ℕ) (ys : goes_on types (name_at types i) ≡ xs) where
    edge_of : (j : ℕ) → j < length types → get_or (row_at graph i).set j false ≡ among (name_at types j) xs
    edge_of j l = rw ys at ((edges.rows i h).holds.says j l)

    each-has : all (is_defined types) xs ≡ true → IsWithin graph.count (row_at graph i).set has → all (λ x. is_some (G x)) xs ≡ true
    each-has d e = all-intro (λ x. is_some (G x)) xs λ x m.
        let l : first_of types x < length types = ltb-true (first_of types x) (length types) (all-elim (is_defined types) x xs d m) in
        let f : name_at types (first_of types x) ≡ x = first-name types x l in
        rw f at (sym (by (first_of types x) (omega arith)) ∙ e (first_of types x) (omega (arith, edges.count)) (edge_of (first_of types x) l ∙ rw f m))

    has-each : all (λ x. is_some (G x)) xs ≡ true → IsWithin graph.count (row_at graph i).set has
    has-each e j l a =
        let m : j < length types = omega (arith, edges.count) in
        by j (omega arith) ∙ all-elim (λ x. is_some (G x)) (name_at types j) xs e (sym (edge_of j m) ∙ a)

  pub round-one : (i : ℕ) → i < n → (b : Bool) → (b ≡ true) ↔ (((row_at graph i).own ≡ true) × IsWithin graph.count (row_at graph i).set has) → b ≡ is_some (default_named types (suc k) (name_at types i))
  round-one i h b f =
      let m : i < length types = omega arith in
      let l = first-within types i m in
      let d = def_at types (first_of types (name_at types i)) in
      let o : (row_at graph i).own ≡ own_body types d.body = (edges.rows i m).own ∙ own-some types (name_at types i) _ refl l in
      let e = goes_some types (name_at types i) _ refl l in
      rw (named_by types (name_at types i) k _ refl l, splits types G within d d.body)
      (iff b (own_body types d.body && all (λ x. is_some (G x)) (targets d.body))
      (λ t. let s = f.0 t in and_from _ _ (sym o ∙ s.0) (each-has i m (targets d.body) e (own-defined types d.body (sym o ∙ s.0)) s.1))
      (λ t. let s = and_parts _ _ t in f.1 (o ∙ s.0, has-each i m (targets d.body) e s.1)))

-- one round more; where it changes nothing, no round does
module _ (types : List TypeDef) (n : ℕ) (many : length types ≡ n) (graph : Graph) (edges : Edges types graph) (has more : List Bool)
    (round : (i : ℕ) → i < n → (get_or more i false ≡ true) ↔ (((row_at graph i).own ≡ true) × IsWithin graph.count (row_at graph i).set has)) where
  pub has_more : (k : ℕ) → DefaultsKnown types n k has → DefaultsKnown types n (suc k) more
  has_more k f i h = round-one types n many graph edges has k f i h (get_or more i false) (round i h)

  has-still : more ≡ has → (j k : ℕ) → DefaultsKnown types n k has → DefaultsKnown types n (k + j) has
  has-still e zero k f = let z : k + 0 ≡ k = omega arith in rw z f
  has-still e (suc j) k f = let z : k + suc j ≡ suc k + j = omega arith in rw z (has-still e j (suc k) (rw e at (has_more k f)))

  pub has-settled : more ≡ has → (k : ℕ) → k ≤ n → DefaultsKnown types n k has → DefaultsKnown types n n has
  has-settled e k l f = has_end types n (k + (n - k)) has (omega arith) (omega arith) (has-still e (n - k) k f)
