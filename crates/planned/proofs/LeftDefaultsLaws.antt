-- The default of a left name that meets no fault, and left names as they stand.
-- Assumes nothing.
use Prim.Native.Nat.{ℕ, zero, suc, ◌+◌, ◌-◌, ◌≤◌, ◌<◌}
use mathlib.Core.Path.{◌≡◌, refl, sym, ◌∙◌, ap, subst}
use mathlib.Core.List.{List, [], ◌∷◌, ◌++◌}
use mathlib.Core.Option.{Option, none, some}
use native.Mathlib.Omega.{arith}
use native.Mathlib.Numerals.{add-one}
use lib.ListN.{length, get_or, drop, drop_of_length-le}
use lib.Seq.{drop-cons}
use Rattle.definitions.specs.declared.Token.{Token}
use Rattle.definitions.specs.Lists.{join, or_else}
use Rattle.definitions.specs.Bytes.{tokens}
use Rattle.definitions.specs.Tree.{Ty, TypeDef, Expr, Node}
use Rattle.definitions.specs.Reading.{got, times}
use Rattle.definitions.specs.Grammar.{name, ty}
use Rattle.definitions.specs.Types.{default}
use Rattle.definitions.specs.InferClocks.{Fault, no_default}
use Rattle.definitions.specs.Declock.{declared, last_type}
use Rattle.definitions.specs.Output.{expr_tokens, operand_tokens, name_tokens}
use Rattle.grammar.proofs.Laws.{tokens-length}
use Rattle.grammar.proofs.Longer.{name-grows}
use Rattle.grammar.proofs.Got.{times-nil, times-cons, tagged-value}
use Rattle.layout.specs.Table.{Table}
use Rattle.cycles.specs.declared.TypeTable.{TypeTable}
use Rattle.index.specs.declared.Index.{Index}
use Rattle.typing.specs.declared.TypeFound.{TypeFound}
use Rattle.std.specs.declared.option.Option as code
use Rattle.std.specs.declared.option.Option.TheVariants.{None, Some}
use Rattle.std.specs.Option.{option_map}
use Rattle.grammar.specs.Read.{tokens_of}
use Rattle.clock_tables.specs.Words.{place_of}
use Rattle.typing.specs.Found.{IsFound}
use Rattle.typing.proofs.Laws.{placed}
use Rattle.planned.specs.declared.WriteInput.{WriteInput}
use Rattle.planned.specs.Grounds.{TypesKnown}
use Rattle.emit.specs.declared.output.Output.{Output}
use Rattle.emit.specs.Out.{emits}
use Rattle.emit.proofs.Laws.{emits-append, emits_none}
use Rattle.stateless.specs.Yield.{expr_or, default_or, left_tree, left_trees}
use Rattle.stateless.specs.Faults.{unless, left_type_fault, left_fault, lefts_fault}
use Rattle.typing.proofs.Typed.{declared-at}

-- ---- names that stand are below M
module _ (M : ℕ) (gs vs : List ℕ) (same : length vs ≡ length gs) where
  name-below : (p x q : ℕ) → name M (tokens gs vs) p ≡ got x q → x < M
  unfolding name
  name-below p x q g =
      let w = name-grows M (tokens gs vs) p x q g in
      let b : p < length gs = omega (arith, w.0, w.1, tokens-length gs vs same) in
      let v = tagged-value gs vs same p 4 M x q b g in
      omega (arith, v.0, v.2)

  pub names-below : (k p : ℕ) (xs : List ℕ) (q : ℕ) → times k (name M) (tokens gs vs) p ≡ got xs q → (i : ℕ) → i < length xs → get_or xs i 0 < M
  names-below zero p xs q g i h = let n : xs ≡ [] = (times-nil (name M) (tokens gs vs) zero p xs q refl g).0 in absurd (omega (arith, ap length n))
  names-below (suc k) p xs q g zero h = let t = times-cons (name M) (tokens gs vs) (suc k) p xs q (λ z. omega arith) g in rw t.5 (name-below p t.0 t.1 t.3)
  names-below (suc k) p xs q g (suc i) h =
      let t = times-cons (name M) (tokens gs vs) (suc k) p xs q (λ z. omega arith) g in
      let n : suc k - 1 ≡ k = omega arith in
      rw t.5 (names-below k t.1 t.2 q (rw n at t.4) i (omega (arith, ap length t.5)))

-- ---- a type's default by the table that the index lends
pub lent-default : (t : TypeTable) (d : Index) → (t.source ≡ d.source) × (t.places.now ≡ d.types) → (at : ℕ) (o o₁ : Output) →
    ((types : List TypeDef) (a : Ty) (q : ℕ) (e : Expr) → Table t.source.names (tokens_of t.source) t.places.now.at t.places.now.count types → ty t.source.names 8 (tokens_of t.source) at ≡ got a q → default types a ≡ some e → o₁ ≡ emits o (expr_tokens e)) →
    (types : List TypeDef) (a : Ty) (q : ℕ) (e : Expr) → Table d.source.names (tokens_of d.source) d.types.at d.types.count types → ty d.source.names 8 (tokens_of d.source) at ≡ got a q → default types a ≡ some e → o₁ ≡ emits o (expr_tokens e)
lent-default t d e at o o₁ f = rw (e.0, e.1) at f

-- ---- the default of a left name
module _ (types : List TypeDef) (nodes : List Node) (node : Node) where
  -- a left name that meets no fault is declared, and its type has a default
  left_is : (x : ℕ) → left_fault types nodes node x ≡ none →
      (t : Ty) × (e : Expr) × (last_type (declared node) x ≡ some t) × (default types t ≡ some e) × (left_tree types nodes node x ≡ e)
  unfolding left_fault left_tree
  left_is x h = go (last_type (declared node) x) h
    where
      has : (t : Ty) (d : Option Expr) → unless d (no_default x) ≡ none → (e : Expr) × (d ≡ some e) × (expr_or d ≡ e)
      has t none k = absurd cc
      has t (some e) k = (e, refl, refl)

      go : (o : Option Ty) → left_type_fault types nodes node x o ≡ none → (t : Ty) × (e : Expr) × (o ≡ some t) × (default types t ≡ some e) × (default_or types o ≡ e)
      go none k = absurd cc
      go (some t) k = let a = has t (default types t) k in (t, a.0, refl, a.1, a.2)

  -- by where its type was found
  module _ (w : WriteInput) (k : TypesKnown w types node) (x : ℕ) (b : x < w.index.now.source.names) (free : left_fault types nodes node x ≡ none) (r : code.Option ℕ) (i : r ≡ place_of (get_or w.types.now x 0)) where
    found : IsFound w.index.now.source.names (tokens_of w.index.now.source) (last_type (declared node) x) (option_map TypeFound.At r)
    found = placed _ _ (last_type (declared node) x) r _ i (k.declares.each x b)

    pub not-unknown : r ≡ None → ⊥
    unfolding IsFound
    not-unknown j = let a = left_is x free in rw (a.2, j) at found

    pub wrote-declared : (p : ℕ) → r ≡ Some p → (o o₁ : Output) → ((t : Ty) (q : ℕ) (e : Expr) → ty w.index.now.source.names 8 (tokens_of w.index.now.source) p ≡ got t q → default types t ≡ some e → o₁ ≡ emits o (expr_tokens e)) →
        o₁ ≡ emits o (expr_tokens (left_tree types nodes node x))
    wrote-declared p j o o₁ wrote =
        let a = left_is x free in
        let b = declared-at _ _ node k.end k.layout k.laid x a.0 p a.2 (rw (a.2, j) at found) in
        wrote a.0 b.0 a.1 b.1 a.3 ∙ ap (λ (e : Expr). emits o (expr_tokens e)) (sym a.4)

  -- ---- several
  pub first-free : (x : ℕ) (xs : List ℕ) → lefts_fault types nodes node (x ∷ xs) ≡ none → (left_fault types nodes node x ≡ none) × (lefts_fault types nodes node xs ≡ none)
  unfolding lefts_fault
  first-free x xs h = go (left_fault types nodes node x) h
    where
      go : (o : Option Fault) → or_else o (lefts_fault types nodes node xs) ≡ none → (o ≡ none) × (lefts_fault types nodes node xs ≡ none)
      go none k = (refl, k)
      go (some f) k = absurd cc

  -- the first, and then the others
  pub cut-left : (x : ℕ) (xs : List ℕ) → join (operand_tokens (left_trees types nodes node (x ∷ xs))) ≡ expr_tokens (left_tree types nodes node x) ++ join (operand_tokens (left_trees types nodes node xs))
  unfolding left_trees operand_tokens
  cut-left x xs = refl

  pub no-left-tokens : join (operand_tokens (left_trees types nodes node [])) ≡ []
  unfolding left_trees operand_tokens
  no-left-tokens = refl

-- of the names xs those from number i on are left, of which P is known and F says what is written; the others are written
pub record NamesLeft (F : List ℕ → List Token) (P : List ℕ → Type 0) (xs : List ℕ) (whole o : Output) (i : ℕ) : Type 0 where
  pub known : P (drop i xs)
  pub same : whole ≡ emits o (F (drop i xs))

module _ (F : List ℕ → List Token) (P : List ℕ → Type 0) (xs : List ℕ) (whole o : Output) (i : ℕ) (d : NamesLeft F P xs whole o i) where
  pub names-left-none : length xs ≤ i → F [] ≡ [] → o ≡ whole
  names-left-none h e = sym (d.same ∙ (ap (λ (y : List ℕ). emits o (F y)) (drop_of_length-le xs h) ∙ (ap (emits o) e ∙ emits_none o)))

  pub names-left-rest : i < length xs → (T : ℕ → List Token) → ((x : ℕ) (rest : List ℕ) → F (x ∷ rest) ≡ T x ++ F rest) → (o₁ : Output) →
      (P (get_or xs i 0 ∷ drop (suc i) xs) → (o₁ ≡ emits o (T (get_or xs i 0))) × P (drop (suc i) xs)) → NamesLeft F P xs whole o₁ (i + 1)
  names-left-rest h T cut o₁ one =
      let x = get_or xs i 0 in
      let n = drop-cons xs i 0 h in
      let w = one (subst P n d.known) in
      let r : NamesLeft F P xs whole o₁ (suc i) =
      record {
        known = w.1;
        same = d.same ∙ (ap (λ (y : List ℕ). emits o (F y)) n ∙ (ap (emits o) (cut x (drop (suc i) xs)) ∙ sym (ap (λ (y : Output). emits y (F (drop (suc i) xs))) w.0 ∙ emits-append o (T x) (F (drop (suc i) xs)))));
      } in
      subst (λ (j : ℕ). NamesLeft F P xs whole o₁ j) (sym (add-one i)) r

-- names behind their count
pub wrote-left : (k : ℕ) (xs ys : List ℕ) (o o₁ o₂ : Output) → ys ≡ xs → k ≡ length xs → o₁ ≡ emits o (Token.Count k ∷ []) → o₂ ≡ emits o₁ (name_tokens ys) → o₂ ≡ emits o (Token.Count (length xs) ∷ name_tokens xs)
wrote-left k xs ys o o₁ o₂ e i one others =
    others ∙ (ap (λ (y : Output). emits y (name_tokens ys)) one ∙ (emits-append o (Token.Count k ∷ []) (name_tokens ys) ∙ rw (i, e)))
