-- The first node of a name, and what its tokens say.
-- Assumes nothing.
use Rattle.std.specs.Prelude.{Option, Some, None, Result, Ok, ◌==◌, position}
use Rattle.std.specs.Option.{is_some}
use Rattle.std.specs.Bool.{then_some}
use mathlib.Core.Path.{◌≡◌, refl, sym, ◌∙◌, ap}
use mathlib.Core.List.{List, [], ◌∷◌}
use mathlib.Core.Bool.{Bool, true, false}
use mathlib.Core.Option.{none, some}
use mathlib.Core.Option as logic
use Prim.Native.Nat.{ℕ, zero, suc, ◌≤◌, ◌<◌}
use native.Mathlib.Omega.{arith}
use lib.Dec.{eqb}
use lib.ListN.{length, get_or, get_elem?, take}
use Rattle.definitions.specs.declared.NodeKind.{NodeKind}
use Rattle.definitions.specs.Lists.{choose, find, place_by}
use Rattle.definitions.specs.declared.values.UnknownValue.{UnknownValue}
use Rattle.definitions.specs.Tokens.{converted, kind_of}
use Rattle.definitions.specs.Bytes.{tokens}
use Rattle.definitions.specs.Tree.{Ty, TypeDef, Node}
use Rattle.definitions.specs.Reading.{got}
use Rattle.definitions.specs.Grammar.{ty, declaration, equation, probe, node}
use Rattle.definitions.specs.Types.{default}
use Rattle.definitions.specs.Declock.{is_operator_kind, operator_outputs}
use Rattle.grammar.specs.Read.{tokens_of}
use Rattle.layout.specs.declared.Span.{Span}
use Rattle.layout.specs.Spans.{past_in, kind_in, kind_or, Spanned, Spans}
use Rattle.layout.specs.Table.{Found, Table}
use Rattle.layout.proofs.Laws.{nowhere, laid, spanned-by}
use Rattle.layout.proofs.TypedefsLaws.{found}
use Rattle.cycles.specs.declared.TypeTable.{TypeTable}
use Rattle.defaults.specs.Has as defaulted
use Rattle.defaults.specs.Has.{DefaultsKnown}
use Rattle.index.specs.declared.Index.{Index}
use Rattle.index.specs.Callees.{first_named, operator_in, OutputsStand}
use Rattle.index.specs.Indexed.{NodesIn, TypesIn, OperatorStands}

-- ---- lists
get_at : (l : List Node) (i : ℕ) → i < length l → get_elem? l i ≡ some (get_or l i nowhere)
get_at [] i h = absurd (omega arith)
get_at (n ∷ l) zero h = refl
get_at (n ∷ l) (suc i) h = get_at l i (omega arith)

-- Stays (no plainer): mathlib's `get_elem?-eq-none` counts in another ℕ.
get-past : (l : List Node) (i : ℕ) → length l ≤ i → get_elem? l i ≡ none
get-past [] i h = refl
get-past (n ∷ l) zero h = absurd (omega arith)
get-past (n ∷ l) (suc i) h = get-past l i (omega arith)

find_at : (p : Node → Bool) (l : List Node) → find p l ≡ get_elem? l (place_by p l)
find_at p [] = refl
find_at p (n ∷ l) = go (p n) (find_at p l)
  where
    go : (b : Bool) → find p l ≡ get_elem? l (place_by p l) → choose b (some n) (find p l) ≡ get_elem? (n ∷ l) (choose b 0 (suc (place_by p l)))
    go true h = refl
    go false h = h

-- ---- an operator's outputs, by the first node of its name
module _ (f : ℕ) (l : List Node) where
  nothing-called : first_named f l ≡ length l → operator_outputs l f ≡ none
  unfolding operator_outputs
  nothing-called e = rw (find_at (λ (m : Node). eqb m.name f) l ∙ (ap (get_elem? l) e ∙ get-past l (length l) (omega arith)), operator_outputs)

  node-called : (i : ℕ) → i ≡ first_named f l → i < length l → operator_outputs l f ≡ choose (is_operator_kind (get_or l i nowhere).kind) (some (get_or l i nowhere).outputs) none
  unfolding operator_outputs
  node-called i e h = rw (find_at (λ (m : Node). eqb m.name f) l ∙ (ap (get_elem? l) (sym e) ∙ get_at l i h), operator_outputs)

-- ---- the kind that a value says
pub says-kind : (v : ℕ) (r : Result NodeKind UnknownValue) (k : NodeKind) → converted r ≡ kind_of v → r ≡ Ok k → operator_in v ≡ is_operator_kind k
says-kind v r k e g = sym (ap (λ (z : logic.Option NodeKind). is_operator_kind (kind_or z)) (ap converted (sym g) ∙ e))

-- ---- what stands at a node's place
-- M is the number of names
module _ (M : ℕ) (gs vs : List ℕ) (same : length vs ≡ length gs) where
  -- a node's name, kind and outputs, by the code's places
  node-says : (p : ℕ) (n : Node) (q : ℕ) → node M (tokens gs vs) p ≡ got n q →
      (get_or vs p 0 ≡ n.name) × (kind_in (get_or vs (past_in (length gs) p) 0) ≡ n.kind)
      × ((a b : ℕ) (i o : Span) → a ≡ past_in (length gs) p → b ≡ past_in (length gs) a → Spanned (declaration M) gs vs b i → Spanned (declaration M) gs vs i.end o → Spans (declaration M) (tokens gs vs) n.outputs o)
  node-says p n q g =
      let l = laid gs vs same M p _ _ refl refl _ _ _ _ _ (spanned-by gs vs same (declaration M) _) (spanned-by gs vs same (declaration M) _) (spanned-by gs vs same (declaration M) _) (spanned-by gs vs same (equation M) _) (spanned-by gs vs same (probe M) _) _ _ _ refl refl refl n q g in
      (l.named, l.kinded, λ a b i o ea eb ei eo. (laid gs vs same M p a b ea eb i o _ _ _ ei eo (spanned-by gs vs same (declaration M) _) (spanned-by gs vs same (equation M) _) (spanned-by gs vs same (probe M) _) _ _ _ refl refl refl n q g).outputs)

-- ---- the index of a sheet with these nodes
module _ (t : Index) (l : List Node) (s : NodesIn t l) where
  at_place : (i : ℕ) → i < length l →
      (get_or t.source.values.now (get_or t.nodes.at i 0) 0 ≡ (get_or l i nowhere).name)
      × (kind_in (get_or t.source.values.now (past_in (length t.source.tags.now) (get_or t.nodes.at i 0)) 0) ≡ (get_or l i nowhere).kind)
      × ((a b : ℕ) (s o : Span) → a ≡ past_in (length t.source.tags.now) (get_or t.nodes.at i 0) → b ≡ past_in (length t.source.tags.now) a → Spanned (declaration t.source.names) t.source.tags.now t.source.values.now b s
      → Spanned (declaration t.source.names) t.source.tags.now t.source.values.now s.end o → Spans (declaration t.source.names) (tokens_of t.source) (get_or l i nowhere).outputs o)
  at_place i h =
      let a = s.each.stands i (get_or l i nowhere) (get_at l i h) in
      node-says t.source.names t.source.tags.now t.source.values.now t.source.same_length (get_or t.nodes.at i 0) (get_or l i nowhere) a.0 a.1

  module _ (f : ℕ) where
    -- the number of the first node of a name, as it is found
    pub named-found : (r : Option ℕ) → t.nodes.count ≤ length t.nodes.at → r ≡ position (λ p. get_or t.source.values.now p 0 == f) (take t.nodes.count t.nodes.at) → Found (first_named f l) (length l) r
    named-found r b e =
        found (λ p. get_or t.source.values.now p 0 == f) (λ (n : Node). eqb n.name f) nowhere t.nodes.at t.nodes.count l b s.count (λ i h. ap (λ (y : ℕ). y == f) (at_place i (omega (arith, s.count))).0) r e

    pub none-named : (r : Option ℕ) → Found (first_named f l) (length l) r → r ≡ None → operator_outputs l f ≡ none
    none-named r h e = nothing-called f l (rw e at h)

    pub some-named : (r : Option ℕ) (i : ℕ) → Found (first_named f l) (length l) r → r ≡ Some i → (i ≡ first_named f l) × (i < length l)
    some-named r i h e = rw e at h

    module _ (i : ℕ) (e : i ≡ first_named f l) (h : i < length l) (p : ℕ) (w : p ≡ past_in (length t.source.tags.now) (get_or t.nodes.at i 0)) where
      outputs-are : operator_outputs l f ≡ choose (operator_in (get_or t.source.values.now p 0)) (some (get_or l i nowhere).outputs) none
      outputs-are =
          node-called f l i e h
          ∙ ap (λ (k : NodeKind). choose (is_operator_kind k) (some (get_or l i nowhere).outputs) none) (sym (ap (λ (q : ℕ). kind_in (get_or t.source.values.now q 0)) w ∙ (at_place i h).1))

      other-named : operator_in (get_or t.source.values.now p 0) ≡ false → operator_outputs l f ≡ none
      other-named j = rw j at outputs-are

      operator-named : operator_in (get_or t.source.values.now p 0) ≡ true → operator_outputs l f ≡ some (get_or l i nowhere).outputs
      operator-named j = rw j at outputs-are

      -- the place is told where the kind says so
      pub told-by : (says : Bool) (r : Option ℕ) → says ≡ operator_in (get_or t.source.values.now p 0) → r ≡ then_some says p → OperatorStands t f l r
      told-by true r j k = rw k (i, h, e, w, sym j)
      told-by false r j k = rw k (other-named (sym j))

  -- whether the name is an operator's, and what its outputs are
  pub operator-there : (f : ℕ) (r : Option ℕ) → OperatorStands t f l r → is_some r ≡ defaulted.is_some (operator_outputs l f)
  operator-there f None h = rw h
  operator-there f (Some p) h = rw (operator-named f h.0 h.2 h.1 p h.3 h.4)

  pub none-called : (f : ℕ) (r : Option ℕ) → OperatorStands t f l r → r ≡ None → OutputsStand t.source.names (tokens_of t.source) (operator_outputs l f) None
  unfolding OutputsStand
  none-called f r h e = let n : operator_outputs l f ≡ none = rw e at h in rw n tt

  pub operator-called : (f : ℕ) (r : Option ℕ) (p : ℕ) → OperatorStands t f l r → r ≡ Some p → (b : ℕ) (s o : Span) → b ≡ past_in (length t.source.tags.now) p →
      Spanned (declaration t.source.names) t.source.tags.now t.source.values.now b s → Spanned (declaration t.source.names) t.source.tags.now t.source.values.now s.end o →
      OutputsStand t.source.names (tokens_of t.source) (operator_outputs l f) (Some o)
  unfolding OutputsStand
  operator-called f r p h e b s o eb ei eo =
      let k : OperatorStands t f l (Some p) = rw e at h in
      rw (operator-named f k.0 k.2 k.1 p k.3 k.4) ((at_place k.0 k.1).2 p b s o k.3 eb ei eo)

-- whether a type has a default, by the table that the index lends
pub lent-has : (t : TypeTable) (d : Index) → (t.source ≡ d.source) × (t.places.now ≡ d.types) → (at : ℕ) (b : Bool) →
    ((types : List TypeDef) (a : Ty) (q : ℕ) → Table t.source.names (tokens_of t.source) t.places.now.at t.places.now.count types → DefaultsKnown types t.places.now.count t.places.now.count d.has → ty t.source.names 8 (tokens_of t.source) at ≡ got a q → b ≡ defaulted.is_some (default types a)) →
    (types : List TypeDef) (a : Ty) (q : ℕ) → TypesIn d types → ty d.source.names 8 (tokens_of d.source) at ≡ got a q → b ≡ defaulted.is_some (default types a)
lent-has t d e at b f types a q s = (rw (e.0, e.1) at f) types a q s.table s.defaulted
