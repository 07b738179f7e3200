-- An expression that was read lies among the tokens part by part.
-- Assumes nothing.
use mathlib.Core.Path.{◌≡◌, refl, sym, ◌∙◌, ap, ap₂, subst}
use mathlib.Core.List.{List, [], ◌∷◌, ◌++◌, map, append_assoc, append-nil}
use mathlib.Core.Option.{none, some}
use mathlib.Core.Bool.{true, false}
use Prim.Native.Nat.{ℕ, zero, suc, ◌+◌, ◌≤◌, ◌<◌}
use native.Mathlib.Omega.{arith}
use native.Mathlib.Numerals.{sub-one}
use lib.Dec.{eqb}
use lib.ListN.{length, get_or, take, drop, length-map, length-drop}
use lib.Seq.{take-length}
use Rattle.std.proofs.lemmas.List.{map-append, take-map, drop-map}
use Rattle.definitions.specs.declared.Literal.{Literal}
use Rattle.definitions.specs.declared.Primitive.{Primitive}
use Rattle.definitions.specs.declared.TypeToken.{TypeToken}
use Rattle.definitions.specs.declared.ExprToken.{ExprToken}
use Rattle.definitions.specs.declared.Token.{Token}
use Rattle.definitions.specs.Lists.{join}
use Rattle.definitions.specs.Tokens.{TagValue, tag_value, code_of, type_token_of, expr_token_of, primitive_tag}
use Rattle.definitions.specs.Bytes.{tokens}
use Rattle.definitions.specs.Tree.{Ty, Head, Expr, Exprs}
use Rattle.definitions.specs.declared.Refusal.{Refusal}
use Rattle.definitions.specs.Reading.{got, rejected, Reader, token, limited}
use Rattle.definitions.specs.Grammar.{counted, count, high, name, no_array, short_enough, typed, ty, append, exprs, fields, form, expr, most_counted, deepest_expr}
use Rattle.definitions.specs.Clock.{Clock, ◌↓◌, parent, is_on, is_not}
use Rattle.definitions.specs.Output.{form_tokens, ty_tokens, field_tokens, iteration_tokens, item_tokens}
use Rattle.grammar.proofs.Laws.{after-got, wrap-got, tokens-length}
use Rattle.grammar.proofs.Longer.{token-got, counted-grows, high-grows, name-grows}
use Rattle.grammar.proofs.Got.{limited-got, token-value, tagged-value, counted-value, expr-got}
use Rattle.grammar.proofs.Got.{bool_got, int_got, float_got, char-got, var-got, unary-got, binary-got, if-got, field-got, index-got, pre-got, arrow-got, when-got, when-not-got, merge-got, call-got, tuple-got, array-got, struct-got, cast-got, map-got, fold-got}
use Rattle.shapes.specs.Shape.{many}
use Rattle.layout.specs.Owed.{follows}
use Rattle.layout.specs.Marks.{nowhere, mark_of}
use Rattle.layout.proofs.Tags.{of-expr, of-type, mark-of, expr-tags, type-tags, said}
use Rattle.operands.specs.Spread.{tree}
use Rattle.operands.proofs.Deeper.{expr-deeper}
use Rattle.stateless.specs.Need.{is_bare}
use Rattle.skeleton.specs.Around.{around}
use Rattle.skeleton.specs.Lies.{Frame, weave, is_plain, Computes, Lies, LiesAt}
use Rattle.skeleton.proofs.Codes.{codes-join, type-decoded, expr-decoded}
use Rattle.skeleton.proofs.Laws.{fewer}

-- ---- frames
holes : ℕ → Frame → Frame
holes zero fs = fs
holes (suc n) fs = none ∷ holes n fs

signs : List TagValue → Frame → Frame
signs [] fs = fs
signs (t ∷ l) fs = some t ∷ signs l fs

named : List ℕ → Frame
named [] = []
named (x ∷ xs) = some (tag_value 4 x) ∷ none ∷ named xs

weave-holes : (n : ℕ) (fs : Frame) (qs : List (List TagValue)) → n ≤ length qs → weave (holes n fs) qs ≡ join (take n qs) ++ weave fs (drop n qs)
unfolding weave holes
weave-holes zero fs qs h = refl
weave-holes (suc n) fs [] h = absurd (omega arith)
weave-holes (suc n) fs (q ∷ qs) h = rw (weave-holes n fs qs (omega arith)) (sym (append_assoc q (join (take n qs)) (weave fs (drop n qs))))

weave-signs : (l : List TagValue) (fs : Frame) (qs : List (List TagValue)) → weave (signs l fs) qs ≡ l ++ weave fs qs
unfolding weave signs
weave-signs [] fs qs = refl
weave-signs (t ∷ l) fs qs = ap {B = List TagValue} (λ z. t ∷ z) (weave-signs l fs qs)

-- so many operands with nothing between them
items-law : (n : ℕ) (ps : List (List Token)) → length ps ≡ n → weave (holes n []) (map (map code_of) ps) ≡ map code_of (join ps)
unfolding weave
items-law n ps h =
    let l = length-map ps (map code_of) in
    let e : n ≡ length (map (map code_of) ps) = omega arith in
    weave-holes n [] (map (map code_of) ps) (omega arith) ∙ rw (e, take-length (map (map code_of) ps)) (append-nil (join (map (map code_of) ps)) ∙ sym (codes-join ps))

fields-law : (xs : List ℕ) (ps : List (List Token)) → length ps ≡ length xs → weave (named xs) (map (map code_of) ps) ≡ map code_of (field_tokens xs ps)
unfolding weave named field_tokens code_of
fields-law [] ps h = refl
fields-law (x ∷ xs) [] h = absurd (omega arith)
fields-law (x ∷ xs) (p ∷ ps) h = ap {B = List TagValue} (λ z. tag_value 4 x ∷ z) (ap {B = List TagValue} (λ z. map code_of p ++ z) (fields-law xs ps (omega arith)) ∙ sym (map-append code_of p (field_tokens xs ps)))

iteration-law : (k n : ℕ) (ps : List (List Token)) → length ps ≡ k + n → tag_value 3 k ∷ weave (holes k (some (tag_value 3 n) ∷ holes n [])) (map (map code_of) ps) ≡ map code_of (iteration_tokens k ps)
unfolding weave code_of
iteration-law k n ps h =
    let l = length-map ps (map code_of) in
    let d = length-drop k ps in
    let e : length (drop k ps) ≡ n = omega arith in
    ap {B = List TagValue} (λ z. tag_value 3 k ∷ z)
    (weave-holes k (some (tag_value 3 n) ∷ holes n []) (map (map code_of) ps) (omega arith)
    ∙ (rw (take-map (map code_of) k ps, drop-map (map code_of) k ps, items-law n (drop k ps) e, ← codes-join (take k ps), e)
    (sym (map-append code_of (join (take k ps)) (Token.Count n ∷ join (drop k ps))))))

-- a count and so many operands
items-codes : (n : ℕ) (ps : List (List Token)) → length ps ≡ n → map code_of (item_tokens ps) ≡ tag_value 3 n ∷ weave (holes n []) (map (map code_of) ps)
unfolding code_of
items-codes n ps h = ap₂ {C = List TagValue} (λ (a : ℕ) (z : List TagValue). tag_value 3 a ∷ z) h (sym (items-law n ps h))

-- a type and one operand
cast-codes : (a : Ty) (ps : List (List Token)) → length ps ≡ 1 → map code_of (ty_tokens a ++ join ps) ≡ weave (signs (map code_of (ty_tokens a)) (holes 1 [])) (map (map code_of) ps)
cast-codes a ps h = map-append code_of (ty_tokens a) (join ps) ∙ (ap (λ (z : List TagValue). map code_of (ty_tokens a) ++ z) (sym (items-law 1 ps h)) ∙ sym (weave-signs (map code_of (ty_tokens a)) (holes 1 []) (map (map code_of) ps)))

-- ---- trees
append-end : (es : Exprs) → append es Exprs.end ≡ es
append-end Exprs.end = refl
append-end (Exprs.and e es) = ap (Exprs.and e) (append-end es)

many-append : (a b : Exprs) → many (append a b) ≡ many a + many b
many-append Exprs.end b = omega arith
many-append (Exprs.and e a) b = omega (arith, many-append a b)

type-low : (t : TypeToken) → (code_of (Token.Type t)).tag < 50
unfolding code_of primitive_tag
type-low (TypeToken.Basic Primitive.Bool) = omega arith
type-low (TypeToken.Basic Primitive.Int8) = omega arith
type-low (TypeToken.Basic Primitive.Int16) = omega arith
type-low (TypeToken.Basic Primitive.Int32) = omega arith
type-low (TypeToken.Basic Primitive.Int64) = omega arith
type-low (TypeToken.Basic Primitive.Uint8) = omega arith
type-low (TypeToken.Basic Primitive.Uint16) = omega arith
type-low (TypeToken.Basic Primitive.Uint32) = omega arith
type-low (TypeToken.Basic Primitive.Uint64) = omega arith
type-low (TypeToken.Basic Primitive.Float32) = omega arith
type-low (TypeToken.Basic Primitive.Float64) = omega arith
type-low (TypeToken.Basic Primitive.Char) = omega arith
type-low (TypeToken.Array n) = omega arith
type-low (TypeToken.Named x) = omega arith

-- ---- readings, S holding of whatever is read
module _ (gs vs : List ℕ) (same : length vs ≡ length gs) (M : ℕ) (S : Clock → Expr → ℕ → ℕ → Type 0) (always : (c : Clock) (e : Expr) (p q : ℕ) → tree M (tokens gs vs) p ≡ got e q → S c e p q) where
  -- a token that is no expression's first
  sign-lies : (p r : ℕ) (t : TagValue) (n : ℕ) → p < length gs → r ≡ p + 1 → tag_value (get_or gs p 0) (get_or vs p 0) ≡ t → t.tag < 50 → follows t.tag t.value ≡ n →
      (c : Clock) (es : Exprs) (fs : Frame) (k q : ℕ) → Lies gs vs S c es fs r (n + k) q → Lies gs vs S c es (some t ∷ fs) p (suc k) q
  sign-lies p r t n b i j low f c es fs k q d =
      let g : get_or gs p 0 ≡ t.tag = ap (λ (z : TagValue). z.tag) j in
      let v : get_or vs p 0 ≡ t.value = ap (λ (z : TagValue). z.value) j in
      let h : follows (get_or gs p 0) (get_or vs p 0) ≡ n = ap₂ follows g v ∙ f in
      subst (λ (z : TagValue). Lies gs vs S c es (some z ∷ fs) p (suc k) q) j
      (Lies.sign b (omega arith) (fewer (omega arith) (subst (λ (x : ℕ). Lies gs vs S c es fs x (n + k) q) i d)))

  count-lies : (low most p n r : ℕ) → counted 3 low most (tokens gs vs) p ≡ got n r → (c : Clock) (es : Exprs) (fs : Frame) (k q : ℕ) → Lies gs vs S c es fs r (n + k) q → Lies gs vs S c es (some (tag_value 3 n) ∷ fs) p (suc k) q
  unfolding follows
  count-lies low most p n r g =
      let w = counted-grows 3 low most (tokens gs vs) p n r g in
      let b : p < length gs = omega (arith, w.0, w.1, tokens-length gs vs same) in
      let v = counted-value gs vs same p 3 low most n r b g in
      sign-lies p r (tag_value 3 n) n b v.2 (ap₂ tag_value v.1 (sym v.0)) (omega arith) refl

  name-lies : (N p x r : ℕ) → name N (tokens gs vs) p ≡ got x r → (c : Clock) (es : Exprs) (fs : Frame) (k q : ℕ) → Lies gs vs S c es fs r (1 + k) q → Lies gs vs S c es (some (tag_value 4 x) ∷ fs) p (suc k) q
  unfolding follows name
  name-lies N p x r g =
      let w = name-grows N (tokens gs vs) p x r g in
      let b : p < length gs = omega (arith, w.0, w.1, tokens-length gs vs same) in
      let v = tagged-value gs vs same p 4 N x r b g in
      sign-lies p r (tag_value 4 x) 1 b v.3 (ap₂ tag_value v.1 (sym v.0)) (omega arith) refl

  high_lies : (p x r : ℕ) → high (tokens gs vs) p ≡ got x r → (c : Clock) (es : Exprs) (fs : Frame) (k q : ℕ) → Lies gs vs S c es fs r (0 + k) q → Lies gs vs S c es (some (tag_value 5 x) ∷ fs) p (suc k) q
  unfolding follows high
  high_lies p x r g =
      let w = high-grows (tokens gs vs) p x r g in
      let b : p < length gs = omega (arith, w.0, w.1, tokens-length gs vs same) in
      let v = tagged-value gs vs same p 5 _ x r b g in
      sign-lies p r (tag_value 5 x) 0 b v.3 (ap₂ tag_value v.1 (sym v.0)) (omega arith) refl

  -- what a first token of a type, of an expression says
  type-token : (p : ℕ) (t : TypeToken) (r : ℕ) → token (type_token_of M) (tokens gs vs) p ≡ got t r → (p < length gs) × (r ≡ p + 1) × (tag_value (get_or gs p 0) (get_or vs p 0) ≡ code_of (Token.Type t)) × (follows (get_or gs p 0) (get_or vs p 0) ≡ of-type t)
  type-token p t r g =
      let w = token-got (type_token_of M) (tokens gs vs) p t r g in
      let b : p < length gs = omega (arith, w.1, tokens-length gs vs same) in
      let v = token-value gs vs same p (type_token_of M) t r b g in (
        b,
        v.1,
        sym (said (λ x. code_of (Token.Type x) ≡ tag_value (get_or gs p 0) (get_or vs p 0)) _ t (type-decoded M (get_or gs p 0) (get_or vs p 0)) v.0),
        (said (λ x. (follows (get_or gs p 0) (get_or vs p 0) ≡ of-type x) × (mark_of nowhere (get_or gs p 0) (get_or vs p 0) ≡ none)) _ t (type-tags nowhere M (get_or gs p 0) (get_or vs p 0)) v.0).0,
      )

  expr-token : (p : ℕ) (t : ExprToken) (r : ℕ) → token (expr_token_of M) (tokens gs vs) p ≡ got t r → (p < length gs) × (r ≡ p + 1) × (tag_value (get_or gs p 0) (get_or vs p 0) ≡ code_of (Token.Expression t)) × (follows (get_or gs p 0) (get_or vs p 0) ≡ of-expr t)
  expr-token p t r g =
      let w = token-got (expr_token_of M) (tokens gs vs) p t r g in
      let b : p < length gs = omega (arith, w.1, tokens-length gs vs same) in
      let v = token-value gs vs same p (expr_token_of M) t r b g in (
        b,
        v.1,
        sym (said (λ x. code_of (Token.Expression x) ≡ tag_value (get_or gs p 0) (get_or vs p 0)) _ t (expr-decoded M (get_or gs p 0) (get_or vs p 0)) v.0),
        (said (λ x. (follows (get_or gs p 0) (get_or vs p 0) ≡ of-expr x) × (mark_of nowhere (get_or gs p 0) (get_or vs p 0) ≡ mark-of (λ y. none) x)) _ t (expr-tags nowhere (λ y. none) M (λ x l. refl) (get_or gs p 0) (get_or vs p 0)) v.0).0,
      )

  -- a type's first token, and what follows it
  type-sign : (p : ℕ) (t : TypeToken) → token (type_token_of M) (tokens gs vs) p ≡ got t (p + 1) → (c : Clock) (es : Exprs) (fs : Frame) (k q : ℕ) → Lies gs vs S c es fs (p + 1) (of-type t + k) q → Lies gs vs S c es (some (code_of (Token.Type t)) ∷ fs) p (suc k) q
  type-sign p t g =
      let w = type-token p t (p + 1) g in
      sign-lies p (p + 1) (code_of (Token.Type t)) (of-type t) w.0 refl w.2 (type-low t) (ap (λ (z : TagValue). follows z.tag z.value) (sym w.2) ∙ w.3)

  -- what R reads of a type lies before what follows it
  record TypeLies (R : Reader Ty) : Type 0 where
    lie : (p : ℕ) (a : Ty) (r : ℕ) → R (tokens gs vs) p ≡ got a r → (c : Clock) (es : Exprs) (fs : Frame) (k q : ℕ) → Lies gs vs S c es fs r k q → Lies gs vs S c es (signs (map code_of (ty_tokens a)) fs) p (suc k) q

  typed-lies : (t : TypeToken) (R : Reader Ty) → TypeLies R → (p : ℕ) (a : Ty) (r : ℕ) → token (type_token_of M) (tokens gs vs) p ≡ got t (p + 1) → typed t R (tokens gs vs) (p + 1) ≡ got a r →
      (c : Clock) (es : Exprs) (fs : Frame) (k q : ℕ) → Lies gs vs S c es fs r k q → Lies gs vs S c es (signs (map code_of (ty_tokens a)) fs) p (suc k) q
  unfolding signs ty_tokens
  typed-lies (TypeToken.Basic b) R h p a r g i c es fs k q d = let x : a ≡ Ty.primitive b = cc in let y : r ≡ p + 1 = cc in rw x (type-sign p (TypeToken.Basic b) g c es fs k q (fewer (omega arith) (rw y at d)))
  typed-lies (TypeToken.Array n) R h p a r g i c es fs k q d = let x = wrap-got (R (tokens gs vs) (p + 1)) (Ty.array n) a r i in rw x.2 (type-sign p (TypeToken.Array n) g c es (signs (map code_of (ty_tokens x.0)) fs) k q (fewer (omega arith) (h.lie (p + 1) x.0 r x.1 c es fs k q d)))
  typed-lies (TypeToken.Named n) R h p a r g i c es fs k q d = let x : a ≡ Ty.named n = cc in let y : r ≡ p + 1 = cc in rw x (type-sign p (TypeToken.Named n) g c es fs k q (fewer (omega arith) (rw y at d)))

  no-types : TypeLies (λ ts p. rejected (Refusal.Limit p))
  no-types = record { lie = λ p a r g. absurd cc }

  type-lies : (d : ℕ) → TypeLies (ty M d)
  unfolding ty
  type-lies zero = record {
    lie = λ p a r g.
        let x = after-got (limited no_array (token (type_token_of M)) (tokens gs vs) p) _ a r g in
        let l = limited-got no_array (token (type_token_of M)) (tokens gs vs) p x.0 x.1 x.2 in
        let t = token-got (type_token_of M) (tokens gs vs) p x.0 x.1 l.0 in
        typed-lies x.0 _ no-types p a r (rw t.0 at l.0) (rw t.0 at x.3);
  }
  type-lies (suc d) = record {
    lie = λ p a r g.
        let x = after-got (limited short_enough (token (type_token_of M)) (tokens gs vs) p) _ a r g in
        let l = limited-got short_enough (token (type_token_of M)) (tokens gs vs) p x.0 x.1 x.2 in
        let t = token-got (type_token_of M) (tokens gs vs) p x.0 x.1 l.0 in
        typed-lies x.0 (ty M d) (type-lies d) p a r (rw t.0 at l.0) (rw t.0 at x.3);
  }

  -- what R reads of an expression lies before what follows it
  pub record Lays (R : Reader Expr) : Type 0 where
    pub lay : (p : ℕ) (e : Expr) (r : ℕ) → R (tokens gs vs) p ≡ got e r → (c : Clock) (es : Exprs) (fs : Frame) (k q : ℕ) → Lies gs vs S c es fs r k q → Lies gs vs S c (Exprs.and e es) (none ∷ fs) p (suc k) q

  -- an expression whose token says nothing of clocks
  plain : (p : ℕ) (t : ExprToken) → token (expr_token_of M) (tokens gs vs) p ≡ got t (p + 1) → (e x : Expr) (us : Exprs) (ds : Frame) (n r : ℕ) → e ≡ x →
      is_plain (code_of (Token.Expression t)).tag ≡ true → is_bare x ≡ eqb (code_of (Token.Expression t)).tag 54 → Computes x us →
      ((ps : List (List Token)) → length ps ≡ many us → map code_of (around x ps) ≡ code_of (Token.Expression t) ∷ weave ds (map (map code_of) ps)) → n ≡ of-expr t →
      tree M (tokens gs vs) p ≡ got e r → (c : Clock) → Lies gs vs S c us ds (p + 1) n r → (es : Exprs) (fs : Frame) (k q : ℕ) → Lies gs vs S c es fs r k q → Lies gs vs S c (Exprs.and e es) (none ∷ fs) p (suc k) q
  plain p t g e x us ds n r i a b u f o T c d es fs k q h =
      let w = expr-token p t (p + 1) g in
      let j : get_or gs p 0 ≡ (code_of (Token.Expression t)).tag = ap (λ (z : TagValue). z.tag) w.2 in
      rw i (Lies.computed w.0 (always c x p r (rw i at T))
      (record { plain = ap is_plain j ∙ a; named = b ∙ ap (λ (z : ℕ). eqb z 54) (sym j); computes = u; framed = λ ps l. f ps l ∙ ap (λ (z : TagValue). z ∷ weave ds (map (map code_of) ps)) (sym w.2) })
      (fewer (o ∙ sym w.3) d) h)

  module _ (R : Reader Expr) (h : Lays R) where
    exprs-lie : (n p : ℕ) (us : Exprs) (r : ℕ) → exprs n R (tokens gs vs) p ≡ got us r → (c : Clock) (es : Exprs) (fs : Frame) (k q : ℕ) → Lies gs vs S c es fs r k q → Lies gs vs S c (append us es) (holes n fs) p (n + k) q
    unfolding exprs holes
    exprs-lie zero p us r g c es fs k q d = let x : us ≡ Exprs.end = cc in let y : r ≡ p = cc in rw x (fewer (omega arith) (rw y at d))
    exprs-lie (suc n) p us r g c es fs k q d =
        let a = after-got (R (tokens gs vs) p) _ us r g in
        let b = wrap-got (exprs n R (tokens gs vs) a.1) _ us r a.3 in
        rw b.2 (fewer (omega arith) (h.lay p a.0 a.1 a.2 c (append b.0 es) (holes n fs) (n + k) q (exprs-lie n a.1 b.0 r b.1 c es fs k q d)))

    exprs-many : (n p : ℕ) (us : Exprs) (r : ℕ) → exprs n R (tokens gs vs) p ≡ got us r → many us ≡ n
    unfolding exprs
    exprs-many zero p us r g = let x : us ≡ Exprs.end = cc in rw x
    exprs-many (suc n) p us r g =
        let a = after-got (R (tokens gs vs) p) _ us r g in
        let b = wrap-got (exprs n R (tokens gs vs) a.1) _ us r a.3 in
        rw b.2 (ap suc (exprs-many n a.1 b.0 r b.1))

    -- and nothing after them
    all_lie : (n p : ℕ) (us : Exprs) (r : ℕ) → exprs n R (tokens gs vs) p ≡ got us r → (c : Clock) → Lies gs vs S c us (holes n []) p n r
    all_lie n p us r g c = subst (λ (z : Exprs). Lies gs vs S c z (holes n []) p n r) (append-end us) (fewer (omega arith) (exprs-lie n p us r g c Exprs.end [] 0 r Lies.done))

    fields_lie : (n p : ℕ) (x : List ℕ × Exprs) (r : ℕ) → fields M n R (tokens gs vs) p ≡ got x r → (c : Clock) → Lies gs vs S c x.1 (named x.0) p n r
    unfolding fields named
    fields_lie zero p x r g c = let i : x ≡ ([], Exprs.end) = cc in let y : r ≡ p = cc in rw (i, y) Lies.done
    fields_lie (suc n) p x r g c =
        let s = after-got (name M (tokens gs vs) p) _ x r g in
        let a = after-got (R (tokens gs vs) s.1) _ x r s.3 in
        let b = wrap-got (fields M n R (tokens gs vs) a.1) _ x r a.3 in
        rw b.2 (name-lies M p s.0 s.1 s.2 c (Exprs.and a.0 b.0.1) (none ∷ named b.0.0) n r (fewer {es = Exprs.and a.0 b.0.1} {fs = none ∷ named b.0.0} (omega arith) (h.lay s.1 a.0 a.1 a.2 c b.0.1 (named b.0.0) n r (fields_lie n a.1 b.0 r b.1 c))))

    fields-many : (n p : ℕ) (x : List ℕ × Exprs) (r : ℕ) → fields M n R (tokens gs vs) p ≡ got x r → (length x.0 ≡ n) × (many x.1 ≡ n)
    unfolding fields
    fields-many zero p x r g = let i : x ≡ ([], Exprs.end) = cc in rw i (refl, refl)
    fields-many (suc n) p x r g =
        let s = after-got (name M (tokens gs vs) p) _ x r g in
        let a = after-got (R (tokens gs vs) s.1) _ x r s.3 in
        let b = wrap-got (fields M n R (tokens gs vs) a.1) _ x r a.3 in
        let m = fields-many n a.1 b.0 r b.1 in
        rw b.2 (ap suc m.0, ap suc m.1)

    counted-all : (p n s : ℕ) (us : Exprs) (r : ℕ) → count most_counted (tokens gs vs) p ≡ got n s → exprs n R (tokens gs vs) s ≡ got us r → (c : Clock) → Lies gs vs S c us (some (tag_value 3 n) ∷ holes n []) p 1 r
    unfolding count
    counted-all p n s us r y x c = count-lies 0 most_counted p n s y c us (holes n []) 0 r (fewer (omega arith) (all_lie n s us r x c))

    -- forms, by what stands before and between their operands
    module _ (p : ℕ) (t : ExprToken) (g : token (expr_token_of M) (tokens gs vs) p ≡ got t (p + 1)) (a : is_plain (code_of (Token.Expression t)).tag ≡ true) (b : false ≡ eqb (code_of (Token.Expression t)).tag 54) (e : Expr) (r : ℕ) (T : tree M (tokens gs vs) p ≡ got e r) (c : Clock) (es : Exprs) (fs : Frame) (k q : ℕ) (d : Lies gs vs S c es fs r k q) where
      computing : (H : Head) → ((ps : List (List Token)) → form_tokens H ps ≡ Token.Expression t ∷ join ps) → (n : ℕ) → n ≡ of-expr t → (us : Exprs) → exprs n R (tokens gs vs) (p + 1) ≡ got us r → e ≡ Expr.op H us → Lies gs vs S c (Exprs.and e es) (none ∷ fs) p (suc k) q
      unfolding around
      computing H f n o us x i =
          plain p t g e (Expr.op H us) us (holes n []) n r i a b Computes.computing
          (λ ps l. ap (map code_of) (f ps) ∙ ap {B = List TagValue} (λ z. code_of (Token.Expression t) ∷ z) (sym (items-law n ps (l ∙ exprs-many n (p + 1) us r x)))) o
          T c (all_lie n (p + 1) us r x c) es fs k q d

      counting : (H : Head) → ((ps : List (List Token)) → form_tokens H ps ≡ Token.Expression t ∷ item_tokens ps) → 1 ≡ of-expr t → (n s : ℕ) (us : Exprs) → count most_counted (tokens gs vs) (p + 1) ≡ got n s → exprs n R (tokens gs vs) s ≡ got us r → e ≡ Expr.op H us → Lies gs vs S c (Exprs.and e es) (none ∷ fs) p (suc k) q
      unfolding around weave count
      counting H f o n s us y x i =
          plain p t g e (Expr.op H us) us (some (tag_value 3 n) ∷ holes n []) 1 r i a b Computes.computing
          (λ ps l. ap (map code_of) (f ps) ∙ ap {B = List TagValue} (λ z. code_of (Token.Expression t) ∷ z) (items-codes n ps (l ∙ exprs-many n s us r x))) o
          T c (counted-all (p + 1) n s us r y x c) es fs k q d

      starting : (H : ℕ → Head) → ((k : ℕ) (ps : List (List Token)) → form_tokens (H k) ps ≡ Token.Expression t ∷ iteration_tokens k ps) → 2 ≡ of-expr t →
          (m s : ℕ) (u : Exprs) (v n w : ℕ) (us : Exprs) → counted 3 0 1 (tokens gs vs) (p + 1) ≡ got m s → exprs m R (tokens gs vs) s ≡ got u v → count most_counted (tokens gs vs) v ≡ got n w → exprs n R (tokens gs vs) w ≡ got us r → e ≡ Expr.op (H m) (append u us) → Lies gs vs S c (Exprs.and e es) (none ∷ fs) p (suc k) q
      unfolding around weave count
      starting H f o m s u v n w us x y z j i =
          plain p t g e (Expr.op (H m) (append u us)) (append u us) (some (tag_value 3 m) ∷ holes m (some (tag_value 3 n) ∷ holes n [])) 2 r i a b Computes.computing
          (λ ps l. ap (map code_of) (f m ps) ∙ ap {B = List TagValue} (λ z. code_of (Token.Expression t) ∷ z) (sym (iteration-law m n ps (omega (arith, l, many-append u us, exprs-many m s u v y, exprs-many n w us r j))))) o
          T c (count-lies 0 1 (p + 1) m s x c (append u us) _ 1 r (exprs-lie m s u v y c us _ 1 r (count-lies 0 most_counted v n w z c us (holes n []) 0 r (fewer (omega arith) (all_lie n w us r j c))))) es fs k q d

    fields-all : (p n s : ℕ) (x : List ℕ × Exprs) (r : ℕ) → count most_counted (tokens gs vs) p ≡ got n s → fields M n R (tokens gs vs) s ≡ got x r → (c : Clock) → Lies gs vs S c x.1 (some (tag_value 3 n) ∷ named x.0) p 1 r
    unfolding count
    fields-all p n s x r y g c = count-lies 0 most_counted p n s y c x.1 (named x.0) 0 r (fewer (omega arith) (fields_lie n s x r g c))

    -- what follows a first token
    head-lies : (p : ℕ) (t : ExprToken) → token (expr_token_of M) (tokens gs vs) p ≡ got t (p + 1) → (e : Expr) (r : ℕ) → form M t R (tokens gs vs) (p + 1) ≡ got e r →
        tree M (tokens gs vs) p ≡ got e r → (c : Clock) (es : Exprs) (fs : Frame) (k q : ℕ) → Lies gs vs S c es fs r k q → Lies gs vs S c (Exprs.and e es) (none ∷ fs) p (suc k) q
    unfolding around code_of is_plain weave
    head-lies p (ExprToken.Const (Literal.Bool v)) g e r f T c es fs k q d = let x = bool_got M R (tokens gs vs) (p + 1) e r v f in plain p _ g e _ Exprs.end [] 0 r x.0 refl refl Computes.constant (λ ps l. refl) refl T c (rw x.1 Lies.done) es fs k q d
    head-lies p (ExprToken.Const (Literal.Int v)) g e r f T c es fs k q d = let x = int_got M R (tokens gs vs) (p + 1) e r v f in plain p _ g e _ Exprs.end (some (tag_value 5 x.0) ∷ []) 1 r x.2 refl refl Computes.constant (λ ps l. refl) refl T c (high_lies (p + 1) x.0 r x.1 c Exprs.end [] 0 r Lies.done) es fs k q d
    head-lies p (ExprToken.Const (Literal.Float v)) g e r f T c es fs k q d = let x = float_got M R (tokens gs vs) (p + 1) e r v f in plain p _ g e _ Exprs.end (some (tag_value 5 x.0) ∷ []) 1 r x.2 refl refl Computes.constant (λ ps l. refl) refl T c (high_lies (p + 1) x.0 r x.1 c Exprs.end [] 0 r Lies.done) es fs k q d
    head-lies p (ExprToken.Const (Literal.Char v)) g e r f T c es fs k q d = let x = char-got M R (tokens gs vs) (p + 1) e r v f in plain p _ g e _ Exprs.end [] 0 r x.0 refl refl Computes.constant (λ ps l. refl) refl T c (rw x.1 Lies.done) es fs k q d
    head-lies p (ExprToken.Var v) g e r f T c es fs k q d = let x = var-got M R (tokens gs vs) (p + 1) e r v f in plain p _ g e _ Exprs.end [] 0 r x.0 refl refl Computes.name (λ ps l. refl) refl T c (rw x.1 Lies.done) es fs k q d
    head-lies p (ExprToken.Unary o) g e r f T c es fs k q d = let x = unary-got M R (tokens gs vs) (p + 1) e r o f in computing p _ g refl refl e r T c es fs k q d (Head.unary o) (λ ps. refl) 1 refl x.0 x.1 x.2
    head-lies p (ExprToken.Binary o) g e r f T c es fs k q d = let x = binary-got M R (tokens gs vs) (p + 1) e r o f in computing p _ g refl refl e r T c es fs k q d (Head.binary o) (λ ps. refl) 2 refl x.0 x.1 x.2
    head-lies p ExprToken.If g e r f T c es fs k q d = let x = if-got M R (tokens gs vs) (p + 1) e r f in computing p _ g refl refl e r T c es fs k q d Head.if (λ ps. refl) 3 refl x.0 x.1 x.2
    head-lies p ExprToken.Pre g e r f T c es fs k q d =
        let x = pre-got M R (tokens gs vs) (p + 1) e r f in
        let w = expr-token p ExprToken.Pre (p + 1) g in
        rw x.2 (Lies.previous w.0 (always c _ p r (rw x.2 at T)) w.2 (h.lay (p + 1) x.0 r x.1 c Exprs.end [] 0 r Lies.done) d)
    head-lies p ExprToken.Arrow g e r f T c es fs k q d =
        let x = arrow-got M R (tokens gs vs) (p + 1) e r f in
        let w = expr-token p ExprToken.Arrow (p + 1) g in
        rw x.5 (Lies.follow w.0 (always c _ p r (rw x.5 at T)) w.2 (h.lay (p + 1) x.0 x.1 x.3 c Exprs.end [] 0 x.1 Lies.done) (h.lay x.1 x.2 r x.4 c Exprs.end [] 0 r Lies.done) d)
    head-lies p (ExprToken.Call o) g e r f T c es fs k q d =
        let x = call-got M R (tokens gs vs) (p + 1) e r o f in
        let w = expr-token p (ExprToken.Call o) (p + 1) g in
        rw x.5 (Lies.calls w.0 (always c _ p r (rw x.5 at T)) w.2
        (λ ps l. ap₂ {C = List TagValue} (λ (a : TagValue) (z : List TagValue). a ∷ z) (sym w.2) (items-codes x.0 ps (l ∙ exprs-many x.0 x.1 x.2 r x.4)))
        (counted-all (p + 1) x.0 x.1 x.2 r x.3 x.4 c) d)
    head-lies p (ExprToken.Field o) g e r f T c es fs k q d = let x = field-got M R (tokens gs vs) (p + 1) e r o f in computing p _ g refl refl e r T c es fs k q d (Head.field o) (λ ps. refl) 1 refl x.0 x.1 x.2
    head-lies p ExprToken.Index g e r f T c es fs k q d = let x = index-got M R (tokens gs vs) (p + 1) e r f in computing p _ g refl refl e r T c es fs k q d Head.index (λ ps. refl) 2 refl x.0 x.1 x.2
    head-lies p ExprToken.Tuple g e r f T c es fs k q d = let x = tuple-got M R (tokens gs vs) (p + 1) e r f in counting p _ g refl refl e r T c es fs k q d Head.tuple (λ ps. refl) refl x.0 x.1 x.2 x.3 x.4 x.5
    head-lies p ExprToken.Array g e r f T c es fs k q d = let x = array-got M R (tokens gs vs) (p + 1) e r f in counting p _ g refl refl e r T c es fs k q d Head.array (λ ps. refl) refl x.0 x.1 x.2 x.3 x.4 x.5
    head-lies p (ExprToken.Struct o) g e r f T c es fs k q d =
        let x = struct-got M R (tokens gs vs) (p + 1) e r o f in
        let m = fields-many x.0 x.1 x.2 r x.4 in
        plain p _ g e _ x.2.1 (some (tag_value 3 x.0) ∷ named x.2.0) 1 r x.5 refl refl Computes.computing
        (λ ps l. ap₂ {C = List TagValue} (λ (a : ℕ) (z : List TagValue). code_of (Token.Expression (ExprToken.Struct o)) ∷ tag_value 3 a ∷ z) (l ∙ m.1) (sym (fields-law x.2.0 ps (l ∙ m.1 ∙ sym m.0))))
        refl T c (fields-all (p + 1) x.0 x.1 x.2 r x.3 x.4 c) es fs k q d
    head-lies p ExprToken.Cast g e r f T c es fs k q d =
        let x = cast-got M R (tokens gs vs) (p + 1) e r f in
        plain p _ g e _ x.2 (signs (map code_of (ty_tokens x.0)) (holes 1 [])) 2 r x.5 refl refl Computes.computing
        (λ ps l. ap {B = List TagValue} (λ z. code_of (Token.Expression ExprToken.Cast) ∷ z) (cast-codes x.0 ps (l ∙ exprs-many 1 x.1 x.2 r x.4)))
        refl T c ((type-lies 8).lie (p + 1) x.0 x.1 x.3 c x.2 (holes 1 []) 1 r (all_lie 1 x.1 x.2 r x.4 c)) es fs k q d
    head-lies p (ExprToken.When o) g e r f T c es fs k q d =
        let x = when-got M R (tokens gs vs) (p + 1) e r o f in
        let w = expr-token p (ExprToken.When o) (p + 1) g in
        let i : get_or gs p 0 ≡ 67 = ap (λ (z : TagValue). z.tag) w.2 in
        rw x.2 (Lies.sample w.0 (always c _ p r (rw x.2 at T)) (omega arith) (omega arith) (h.lay (p + 1) x.0 r x.1 (parent c) Exprs.end [] 0 r Lies.done) d)
    head-lies p (ExprToken.WhenNot o) g e r f T c es fs k q d =
        let x = when-not-got M R (tokens gs vs) (p + 1) e r o f in
        let w = expr-token p (ExprToken.WhenNot o) (p + 1) g in
        let i : get_or gs p 0 ≡ 68 = ap (λ (z : TagValue). z.tag) w.2 in
        rw x.2 (Lies.sample w.0 (always c _ p r (rw x.2 at T)) (omega arith) (omega arith) (h.lay (p + 1) x.0 r x.1 (parent c) Exprs.end [] 0 r Lies.done) d)
    head-lies p (ExprToken.Merge o) g e r f T c es fs k q d =
        let x = merge-got M R (tokens gs vs) (p + 1) e r o f in
        let w = expr-token p (ExprToken.Merge o) (p + 1) g in
        rw x.5 (Lies.join w.0 (always c _ p r (rw x.5 at T)) w.2 (h.lay (p + 1) x.0 x.1 x.3 (c ↓ is_on o) Exprs.end [] 0 x.1 Lies.done) (h.lay x.1 x.2 r x.4 (c ↓ is_not o) Exprs.end [] 0 r Lies.done) d)
    head-lies p (ExprToken.Map o) g e r f T c es fs k q d = let x = map-got M R (tokens gs vs) (p + 1) e r o f in starting p _ g refl refl e r T c es fs k q d (Head.map o) (λ k ps. refl) refl x.0 x.1 x.2 x.3 x.4 x.5 x.6 x.7 x.8 x.9 x.10 x.11
    head-lies p (ExprToken.Fold o) g e r f T c es fs k q d = let x = fold-got M R (tokens gs vs) (p + 1) e r o f in starting p _ g refl refl e r T c es fs k q d (Head.fold o) (λ k ps. refl) refl x.0 x.1 x.2 x.3 x.4 x.5 x.6 x.7 x.8 x.9 x.10 x.11

  -- what was read lies so, n levels above the deepest
  expr-lays : (d n : ℕ) → n + d ≡ deepest_expr → Lays (expr M d)
  expr-lays zero n i = record { lay = λ p e r g. let x = expr-got M (tokens gs vs) p 0 e r g in absurd (x.1 refl) }
  expr-lays (suc d) n i = record {
    lay = λ p e r g.
        let x = expr-got M (tokens gs vs) p (suc d) e r g in
        head-lies (expr M d) (expr-lays d (suc n) (omega arith)) p x.0 x.2 e r (rw (sub-one (suc d)) at x.3)
        (subst (λ (m : ℕ). expr M m (tokens gs vs) p ≡ got e r) i (expr-deeper M (suc d) n (tokens gs vs) p e r g));
  }

  pub reads-lie : (p : ℕ) (e : Expr) (q : ℕ) → tree M (tokens gs vs) p ≡ got e q → (c : Clock) → LiesAt gs vs S c e p q
  reads-lie p e q g c = (expr-lays deepest_expr 0 refl).lay p e q g c Exprs.end [] 0 q Lies.done
