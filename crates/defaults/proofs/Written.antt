-- Laws of writing defaults: what the parts write makes what the whole writes.
-- Assumes nothing.
use mathlib.Core.Path.{◌≡◌, refl, sym, ◌∙◌, ap, ap₂}
use mathlib.Core.List.{List, [], ◌∷◌, ◌++◌, map}
use mathlib.Core.Option.{Option, none, some}
use Prim.Native.Nat.{ℕ, zero, suc, ◌+◌, ◌-◌, ◌≤◌, ◌<◌}
use native.Mathlib.Omega.{arith}
use lib.ListN.{length, get_or, replicate}
use Rattle.definitions.specs.declared.Primitive.{Primitive}
use Rattle.definitions.specs.declared.Literal.{Literal}
use Rattle.definitions.specs.declared.ExprToken.{ExprToken}
use Rattle.definitions.specs.declared.Token.{Token}
use Rattle.definitions.specs.Bytes.{tokens}
use Rattle.definitions.specs.Lists.{join}
use Rattle.definitions.specs.Tokens.{TagValue}
use Rattle.definitions.specs.Tree.{Ty, Declared, Body, TypeDef, Head, Expr, Exprs}
use Rattle.definitions.specs.Reading.{got, times}
use Rattle.definitions.specs.Grammar.{name, ty, declaration, type_def}
use Rattle.definitions.specs.Types.{copies, primitive_default, default_by, defaults_by, default_of, default_named}
use Rattle.definitions.specs.Output.{literal_tokens, field_tokens, form_tokens, expr_tokens, operand_tokens}
use Rattle.grammar.proofs.Laws.{times-length}
use Rattle.grammar.proofs.Got.{times-cons}
use Rattle.layout.specs.declared.Defined.{Defined}
use Rattle.layout.specs.declared.Span.{Span}
use Rattle.layout.specs.Spans.{Spans}
use Rattle.layout.specs.Table.{def_at, first_of, Table, Described}
use Rattle.layout.proofs.TypedefsLaws.{name-value}
use Rattle.layout.specs.declared.DeclarationLayout.{DeclarationLayout}
use Rattle.layout.specs.Walk.{LaidAll}
use Rattle.layout.proofs.Walks.{first-laid, none-laid}
use Rattle.emit.specs.declared.output.Output.{Output}
use Rattle.emit.specs.Out.{emits}
use Rattle.emit.proofs.Laws.{emits-append, emits_none}
use Rattle.defaults.specs.Depth.{Enough}
use Rattle.defaults.proofs.Laws.{unnamed, named_by}

-- one after the other
pub then : (o o₁ o₂ : Output) (a b c : List Token) → o₁ ≡ emits o a → o₂ ≡ emits o₁ b → a ++ b ≡ c → o₂ ≡ emits o c
then o o₁ o₂ a b c e f g = f ∙ rw (e, emits-append o a b, g)

-- a type's default by its first token
module _ (G : ℕ → Option Expr) (t : Ty) (e : Expr) (d : default_by G t ≡ some e) where
  pub wrote-basic : (o : Output) (b : Primitive) (l : Literal) (o₁ : Output) → t ≡ Ty.primitive b → l ≡ primitive_default b → o₁ ≡ emits o (literal_tokens l 0) → o₁ ≡ emits o (expr_tokens e)
  unfolding default_by expr_tokens
  wrote-basic o b l o₁ j i f =
      let h : some (Expr.const (primitive_default b) 0) ≡ some e = rw j at d in
      let k : e ≡ Expr.const (primitive_default b) 0 = cc in
      f ∙ rw (k, i)

  array-some : (x : Option Expr) (m : ℕ) → elim x [ none ↦ none | some y ↦ some (Expr.op Head.array (copies m y)) ] ≡ some e → (y : Expr) × (x ≡ some y) × (e ≡ Expr.op Head.array (copies m y))
  array-some none m h = absurd cc
  array-some (some y) m h = (y, refl, cc)

  pub element-default : (b : Ty) (m : ℕ) → t ≡ Ty.array m b → (y : Expr) × (default_by G b ≡ some y) × (e ≡ Expr.op Head.array (copies m y))
  unfolding default_by
  element-default b m j = array-some (default_by G b) m (rw j at d)

copies_length : (m : ℕ) (e : Expr) → length (operand_tokens (copies m e)) ≡ m
unfolding operand_tokens copies
copies_length zero e = refl
copies_length (suc m) e = ap suc (copies_length m e)

-- an array of a primitive type, by the constant
pub plain-default : (G : ℕ → Option Expr) (l : Literal) (t : Ty) (y : Expr) → (p : Primitive) × (t ≡ Ty.primitive p) × (l ≡ primitive_default p) → default_by G t ≡ some y → y ≡ Expr.const l 0
unfolding default_by
plain-default G l t y h d =
    let f : some (Expr.const (primitive_default h.0) 0) ≡ some y = rw h.1 at d in
    let g : y ≡ Expr.const (primitive_default h.0) 0 = cc in
    g ∙ ap (λ (k : Literal). Expr.const k 0) (sym h.2)

-- so many times a default: one more, and none left
module _ (e : Expr) where
  pub copies-more : (o o₁ o₂ : Output) (m i : ℕ) → i < m → o₂ ≡ emits o₁ (expr_tokens e) → o ≡ emits o₁ (join (operand_tokens (copies (m - i) e))) → o ≡ emits o₂ (join (operand_tokens (copies (m - (i + 1)) e)))
  unfolding operand_tokens copies
  copies-more o o₁ o₂ m i h f g =
      let n : m - i ≡ suc (m - (i + 1)) = omega arith in
      (rw n at g) ∙ rw f (sym (emits-append o₁ (expr_tokens e) (join (operand_tokens (copies (m - (i + 1)) e)))))

  pub copies-none : (o o₁ : Output) (m i : ℕ) → m ≤ i → o ≡ emits o₁ (join (operand_tokens (copies (m - i) e))) → o₁ ≡ o
  unfolding operand_tokens copies
  copies-none o o₁ m i h g = let n : m - i ≡ 0 = omega arith in sym (rw n at g ∙ emits_none o₁)

-- a constant's tokens are those of its expression
pub literal-one : (l : Literal) (o o₁ : Output) → o₁ ≡ emits o (literal_tokens l 0) → o₁ ≡ emits o (expr_tokens (Expr.const l 0))
unfolding expr_tokens
literal-one l o o₁ e = e

-- constants of one token
short-many : (l : Literal) → literal_tokens l 0 ≡ Token.Expression (ExprToken.Const l) ∷ [] → (m : ℕ) → replicate m (Token.Expression (ExprToken.Const l)) ≡ join (operand_tokens (copies m (Expr.const l 0)))
unfolding operand_tokens copies expr_tokens
short-many l e zero = refl
short-many l e (suc m) = ap₂ (λ (a b : List Token). a ++ b) (sym e) (short-many l e m)

pub many-short : (o o₁ : Output) (l : Literal) (m : ℕ) → literal_tokens l 0 ≡ Token.Expression (ExprToken.Const l) ∷ [] → o₁ ≡ emits o (replicate m (Token.Expression (ExprToken.Const l))) → o₁ ≡ emits o (join (operand_tokens (copies m (Expr.const l 0))))
many-short o o₁ l m e f = f ∙ ap (emits o) (short-many l e m)

pub wrote-array : (y : Expr) (m : ℕ) (o o₁ o₂ : Output) → o₁ ≡ emits o (Token.Expression ExprToken.Array ∷ Token.Count m ∷ []) → o₂ ≡ emits o₁ (join (operand_tokens (copies m y))) → o₂ ≡ emits o (expr_tokens (Expr.op Head.array (copies m y)))
unfolding expr_tokens form_tokens
wrote-array y m o o₁ o₂ f g = then o o₁ o₂ _ _ _ f g (rw (copies_length m y))

pub wrote-plain : (y : Expr) (l : Literal) (m : ℕ) (o o₁ o₂ : Output) → y ≡ Expr.const l 0 → o₁ ≡ emits o (Token.Expression ExprToken.Array ∷ Token.Count m ∷ []) → o₂ ≡ emits o₁ (join (operand_tokens (copies m (Expr.const l 0)))) → o₂ ≡ emits o (expr_tokens (Expr.op Head.array (copies m y)))
wrote-plain y l m o o₁ o₂ k f g = rw k (wrote-array (Expr.const l 0) m o o₁ o₂ f g)

pub wrote-same : (e f : Expr) (o o₁ : Output) → e ≡ f → o₁ ≡ emits o (expr_tokens f) → o₁ ≡ emits o (expr_tokens e)
wrote-same e f o o₁ i h = rw i h

-- a defined type
pub named-default : (G : ℕ → Option Expr) (t : Ty) (e : Expr) (x : ℕ) → default_by G t ≡ some e → t ≡ Ty.named x → G x ≡ some e
unfolding default_by
named-default G t e x d j = rw j at d

module _ (M : ℕ) (ts : List TagValue) (places : List ℕ) (n : ℕ) (types : List TypeDef) (t : Table M ts places n types) (x fuel : ℕ) (e : Expr) (d : default_named types fuel x ≡ some e) where
  pub not-unnamed : first_of types x ≡ length types → ⊥
  not-unnamed h = let i = unnamed types x fuel (omega arith) in cc

  -- one definition further down, where a field or a target and 8 elements are enough
  pub definition-default : (k : ℕ) → k ≡ first_of types x → k < length types → (depth : ℕ) → Enough depth fuel 0 → (below q : ℕ) × Enough depth below 9 × (type_def M ts (get_or places k 0) ≡ got (def_at types k) q) × (default_of (default_named types below) (def_at types k) (def_at types k).body ≡ some e)
  unfolding default_named
  definition-default k first h depth l = go fuel d l
    where
      go : (m : ℕ) → default_named types m x ≡ some e → Enough depth m 0 → (below q : ℕ) × Enough depth below 9 × (type_def M ts (get_or places k 0) ≡ got (def_at types k) q) × (default_of (default_named types below) (def_at types k) (def_at types k).body ≡ some e)
      go zero i j = absurd cc
      go (suc m) i j = let s = t.stands k (omega (arith, t.count)) in (m, s.0, omega arith, s.1, sym (named_by types x m k first h) ∙ i)

-- a definition's default, by its parts
module _ (M : ℕ) (tags vs : List ℕ) (same_length : length vs ≡ length tags) (G : ℕ → Option Expr) (d : TypeDef) (q : ℕ) (D : Defined) (g : Described M (tokens tags vs) d q D) (e : Expr) (f : default_of G d d.body ≡ some e) where
  pub wrote-variant : (o : Output) (y : ℕ) (s : Span) (v : ℕ) (o₁ : Output) → D ≡ Defined.Enum y s → v ≡ get_or vs s.at 0 → o₁ ≡ emits o (Token.Expression (ExprToken.Var v) ∷ []) → o₁ ≡ emits o (expr_tokens e)
  unfolding Described default_of expr_tokens
  wrote-variant o y s v o₁ j i w =
      let h = rw j at g in
      go h.0 h.1.items (ap (λ (b : TypeDef). default_of G b b.body) (sym h.3) ∙ f)
    where
      go : (l : List ℕ) → times s.count (name M) (tokens tags vs) s.at ≡ got l s.end → default_of G (record { name = y; body = Body.enum l }) (Body.enum l) ≡ some e → o₁ ≡ emits o (expr_tokens e)
      go [] t k = absurd cc
      go (u ∷ l) t k =
          let n = times-length (name M) (tokens tags vs) s.count s.at (u ∷ l) s.end t in
          let a = times-cons (name M) (tokens tags vs) s.count s.at (u ∷ l) s.end (λ z. omega arith) t in
          let b = name-value M tags vs same_length s.at a.0 a.1 a.3 in
          let m : u ≡ a.0 = cc in
          let r : e ≡ Expr.var v = cc in
          w ∙ rw r

  fields-some : (x : Option Exprs) (H : Head) → elim x [ none ↦ none | some es ↦ some (Expr.op H es) ] ≡ some e → (es : Exprs) × (x ≡ some es) × (e ≡ Expr.op H es)
  fields-some none H h = absurd cc
  fields-some (some es) H h = (es, refl, cc)

  pub fields-default : (y : ℕ) (s : Span) → D ≡ Defined.Record y s → (fs : List Declared) × (es : Exprs) × Spans (declaration M) (tokens tags vs) fs s × (defaults_by G fs ≡ some es) × (e ≡ Expr.op (Head.struct y (map (λ k. k.name) fs)) es)
  unfolding Described default_of
  fields-default y s j =
      let h = rw j at g in
      let a = fields-some (defaults_by G h.0) (Head.struct y (map (λ k. k.name) h.0)) (ap (λ (b : TypeDef). default_of G b b.body) (sym h.3) ∙ f) in
      (h.0, a.0, h.1, a.1, a.2)

  pub alias-default : (y p : ℕ) → D ≡ Defined.Alias y p → (t : Ty) × (ty M 8 (tokens tags vs) p ≡ got t q) × (default_by G t ≡ some e)
  unfolding Described default_of
  alias-default y p j = let h = rw j at g in (h.0, h.1, ap (λ (b : TypeDef). default_of G b b.body) (sym h.2) ∙ f)

-- the defaults of fields
module _ (G : ℕ → Option Expr) where
  more-some : (x : Option Expr) (y : Option Exprs) (es : Exprs) → elim x [ none ↦ none | some a ↦ elim y [ none ↦ none | some b ↦ some (Exprs.and a b) ] ] ≡ some es → (a : Expr) × (b : Exprs) × (x ≡ some a) × (y ≡ some b) × (es ≡ Exprs.and a b)
  more-some none y es h = absurd cc
  more-some (some a) none es h = absurd cc
  more-some (some a) (some b) es h = (a, b, refl, refl, cc)

  pub field-default : (fs : List Declared) (f : Declared) (rest : List Declared) (es : Exprs) → fs ≡ f ∷ rest → defaults_by G fs ≡ some es →
      (a : Expr) × (b : Exprs) × (default_by G f.type ≡ some a) × (defaults_by G rest ≡ some b) × (es ≡ Exprs.and a b)
  unfolding defaults_by
  field-default fs f rest es w d = more-some (default_by G f.type) (defaults_by G rest) es (rw w at d)

  no_fields : (fs : List Declared) (es : Exprs) → fs ≡ [] → defaults_by G fs ≡ some es → es ≡ Exprs.end
  unfolding defaults_by
  no_fields fs es w d = let h : some Exprs.end ≡ some es = rw w at d in cc

  pub wrote-no-field : (fs : List Declared) (es : Exprs) (o : Output) → fs ≡ [] → defaults_by G fs ≡ some es → o ≡ emits o (field_tokens (map (λ f. f.name) fs) (operand_tokens es))
  unfolding field_tokens operand_tokens
  wrote-no-field fs es o z d = rw z (sym (emits_none o))

  length-operands : (fs : List Declared) (es : Exprs) → defaults_by G fs ≡ some es → length (operand_tokens es) ≡ length fs
  unfolding operand_tokens
  length-operands [] es d = rw (no_fields [] es refl d)
  length-operands (f ∷ fs) es d = let a = field-default (f ∷ fs) f fs es refl d in rw a.4 (ap suc (length-operands fs a.1 a.3))

  pub wrote-record : (y c : ℕ) (fs : List Declared) (es : Exprs) (e : Expr) (o o₁ o₂ : Output) → c ≡ length fs → defaults_by G fs ≡ some es → e ≡ Expr.op (Head.struct y (map (λ k. k.name) fs)) es →
      o₁ ≡ emits o (Token.Expression (ExprToken.Struct y) ∷ Token.Count c ∷ []) → o₂ ≡ emits o₁ (field_tokens (map (λ k. k.name) fs) (operand_tokens es)) → o₂ ≡ emits o (expr_tokens e)
  unfolding expr_tokens form_tokens
  wrote-record y c fs es e o o₁ o₂ g d j f h =
      let n : length (operand_tokens es) ≡ c = length-operands fs es d ∙ sym g in
      then o o₁ o₂ _ _ _ f h (rw (j, n))

pub wrote-field : (x id : ℕ) (a : Expr) (b es : Exprs) (ids names : List ℕ) (o o₁ o₂ o₃ : Output) → x ≡ id → es ≡ Exprs.and a b → names ≡ id ∷ ids → o₁ ≡ emits o (Token.Name x ∷ []) → o₂ ≡ emits o₁ (expr_tokens a) → o₃ ≡ emits o₂ (field_tokens ids (operand_tokens b)) →
    o₃ ≡ emits o (field_tokens names (operand_tokens es))
unfolding field_tokens operand_tokens
wrote-field x id a b es ids names o o₁ o₂ o₃ i j k e f g =
    let h : o₂ ≡ emits o (Token.Name x ∷ expr_tokens a) = then o o₁ o₂ _ _ _ e f refl in
    then o o₂ o₃ _ _ _ h g (rw (k, j, i))

-- the fields that are left, and what they write after what is written
pub record FieldsLeft (G : ℕ → Option Expr) (M : ℕ) (ts : List TagValue) (ls : List DeclarationLayout) (all o : Output) : Type 0 where
  pub rest : List Declared
  pub values : Exprs
  pub laid : LaidAll M ts rest ls
  pub by : defaults_by G rest ≡ some values
  pub whole : all ≡ emits o (field_tokens (map (λ f. f.name) rest) (operand_tokens values))

module _ (G : ℕ → Option Expr) (M : ℕ) (ts : List TagValue) (ls : List DeclarationLayout) where
  module _ (all o : Output) where
    pub fields-end : FieldsLeft G M ts ls all o → ls ≡ [] → o ≡ all
    fields-end a h = wrote-no-field G a.rest a.values o (none-laid (rw h at a.laid)) a.by ∙ sym a.whole

    -- a field that is written
    pub fields-next : (l : DeclarationLayout) → FieldsLeft G M ts (l ∷ ls) all o → (o₁ o₂ : Output) → o₁ ≡ emits o (Token.Name l.name ∷ []) →
        ((t : Ty) (q : ℕ) (e : Expr) → ty M 8 ts l.type_at ≡ got t q → default_by G t ≡ some e → o₂ ≡ emits o₁ (expr_tokens e)) → FieldsLeft G M ts ls all o₂
    fields-next l a o₁ o₂ k w =
        let f = first-laid a.laid in
        let b = field-default G a.rest f.first f.rest a.values f.whole a.by in
        record {
          rest = f.rest;
          values = b.1;
          laid = f.others;
          by = b.3;
          whole = a.whole ∙ sym (wrote-field l.name f.first.name b.0 b.1 a.values (map (λ y. y.name) f.rest) _ o o₁ o₂ _ f.laid.named b.4 (ap (map (λ (y : Declared). y.name)) f.whole) k (w f.first.type f.to b.0 f.laid.typed b.2) refl);
        }
