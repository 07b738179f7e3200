-- Defaults and types of operands are shaped, where the type definitions and declarations are.
use mathlib.Core.Path.{◌≡◌, refl, sym, ap, ◌∙◌, subst}
use mathlib.Core.Bool.{Bool, true, false}
use mathlib.Core.List.Memᴰ
use mathlib.Core.List.{List, [], ◌∷◌, map}
use mathlib.Core.Option.{Option, none, some}
use Prim.Native.Nat.{ℕ, zero, suc, ◌<◌}
use native.Mathlib.Omega.{arith}
use lib.Dec.{eqb}
use lib.ListN.{length}
use Rattle.definitions.specs.declared.Primitive.{Primitive}
use Rattle.definitions.specs.Lists.{choose, find, or_else}
use Rattle.definitions.specs.Tree.{Ty, Declared, Body, TypeDef, Head, Expr, Exprs}
use Rattle.definitions.specs.Types.{definition_of, copies, primitive_default, default_by, defaults_by, default_of, default_named, default}
use Rattle.definitions.specs.Declock.{last_type, element, form_type, operand_type, first_type}
use Rattle.shapes.proofs.Facts.{All}
use Rattle.shapes.proofs.Decoded.{Maybe}
use Rattle.shapes.specs.Shape.{Word, ShapedTy, ShapedDeclared, many, Shaped, Shapeds, ShapedBody, ShapedDefinition}

-- small numbers are words
pub zero_word : Word 0
zero_word = omega arith

find-all : {A : Type 0} (P : A → Type 0) (p : A → Bool) (l : List A) → All P l → Maybe P (find p l)
find-all P p [] h = tt
find-all P p (a ∷ l) h = go (p a) (find-all P p l (λ x m. h x (Memᴰ.tail m)))
  where
    go : (u : Bool) → Maybe P (find p l) → Maybe P (choose u (some a) (find p l))
    go true q = h a (Memᴰ.head refl)
    go false q = q

module _ (N : ℕ) where
  copies-shape : (n : ℕ) (e : Expr) → Shaped N e → Shapeds N (copies n e)
  unfolding copies Shaped
  copies-shape zero e s = tt
  copies-shape (suc n) e s = (s, copies-shape n e s)

  primitive-shape : (p : Primitive) → Shaped N (Expr.const (primitive_default p) 0)
  unfolding Shaped
  primitive-shape Primitive.Bool = (omega arith, refl)
  primitive-shape Primitive.Int8 = (zero_word, zero_word)
  primitive-shape Primitive.Int16 = (zero_word, zero_word)
  primitive-shape Primitive.Int32 = (zero_word, zero_word)
  primitive-shape Primitive.Int64 = (zero_word, zero_word)
  primitive-shape Primitive.Uint8 = (zero_word, zero_word)
  primitive-shape Primitive.Uint16 = (zero_word, zero_word)
  primitive-shape Primitive.Uint32 = (zero_word, zero_word)
  primitive-shape Primitive.Uint64 = (zero_word, zero_word)
  primitive-shape Primitive.Float32 = (zero_word, zero_word)
  primitive-shape Primitive.Float64 = (zero_word, zero_word)
  primitive-shape Primitive.Char = (omega arith, refl)

  names-length : (fs : List Declared) → length (map (λ f. f.name) fs) ≡ length fs
  names-length [] = refl
  names-length (f ∷ fs) = ap suc (names-length fs)

  names-below : (fs : List Declared) → All (ShapedDeclared N) fs → All (λ x. x < N) (map (λ f. f.name) fs)
  names-below fs s x m = let r = Memᴰ.of_map (λ f. f.name) fs m in subst (λ (z : ℕ). z < N) r.2 (s r.0 r.1).1

  module _ (given : ℕ → Option Expr) (h : (x : ℕ) → Maybe (Shaped N) (given x)) where
    default_by-shape : (a : Ty) → Maybe (Shaped N) (default_by given a)
    unfolding default_by Shaped
    default_by-shape (Ty.primitive p) = primitive-shape p
    default_by-shape (Ty.array n a) = go (default_by given a) (default_by-shape a)
      where
        go : (o : Option Expr) → Maybe (Shaped N) o → Maybe (Shaped N) (elim o as (λ x. Option Expr) [ none ↦ none | some e ↦ some (Expr.op Head.array (copies n e)) ])
        go none s = tt
        go (some e) s = (tt, copies-shape n e s, tt)
    default_by-shape (Ty.named x) = h x

    defaults_by-shape : (fs : List Declared) → Maybe (λ es. Shapeds N es × (many es ≡ length fs)) (defaults_by given fs)
    unfolding defaults_by Shaped
    defaults_by-shape [] = (tt, refl)
    defaults_by-shape (f ∷ fs) = go (default_by given f.type) (default_by-shape f.type) (defaults_by given fs) (defaults_by-shape fs)
      where
        go : (o : Option Expr) → Maybe (Shaped N) o → (u : Option Exprs) → Maybe (λ es. Shapeds N es × (many es ≡ length fs)) u
            → Maybe (λ es. Shapeds N es × (many es ≡ suc (length fs))) (elim o as (λ x. Option Exprs) [ none ↦ none | some e ↦ (elim u as (λ x. Option Exprs) [ none ↦ none | some es ↦ some (Exprs.and e es) ]) ])
        go none s u t = tt
        go (some e) s none t = tt
        go (some e) s (some es) t = ((s, t.0), ap suc t.1)

    default_of-shape : (d : TypeDef) (b : Body) → d.name < N → ShapedBody N b → Maybe (Shaped N) (default_of given d b)
    unfolding default_of Shaped
    default_of-shape d (Body.enum []) w s = tt
    default_of-shape d (Body.enum (v ∷ vs)) w s = s v (Memᴰ.head refl)
    default_of-shape d (Body.fields fs) w s = go (defaults_by given fs) (defaults_by-shape fs)
      where
        go : (o : Option Exprs) → Maybe (λ es. Shapeds N es × (many es ≡ length fs)) o → Maybe (Shaped N) (elim o as (λ x. Option Expr) [ none ↦ none | some es ↦ some (Expr.op (Head.struct d.name (map (λ f. f.name) fs)) es) ])
        go none t = tt
        go (some es) t = (t.1 ∙ sym (names-length fs), t.0, (w, names-below fs s))
    default_of-shape d (Body.alias a) w s = default_by-shape a

  module _ (types : List TypeDef) (shaped : All (ShapedDefinition N) types) where
    named-shape : (n x : ℕ) → Maybe (Shaped N) (default_named types n x)
    unfolding default_named
    named-shape zero x = tt
    named-shape (suc n) x = go (named-shape n) (definition_of types x) (find-all (ShapedDefinition N) (λ d. eqb d.name x) types shaped)
      where
        go : ((x : ℕ) → Maybe (Shaped N) (default_named types n x)) → (o : Option TypeDef) → Maybe (ShapedDefinition N) o → Maybe (Shaped N) (elim o as (λ x. Option Expr) [ none ↦ none | some d ↦ default_of (default_named types n) d d.body ])
        go ih none s = tt
        go ih (some d) s = default_of-shape (default_named types n) ih d d.body s.1 s.0

    pub default-shape : (a : Ty) → Maybe (Shaped N) (default types a)
    unfolding default
    default-shape a = default_by-shape (default_named types (length types)) (named-shape (length types)) a

  -- types of operands
  or_shape : (a b : Option Ty) → Maybe (ShapedTy N) a → Maybe (ShapedTy N) b → Maybe (ShapedTy N) (or_else a b)
  or_shape none b s t = t
  or_shape (some a) b s t = s

  element-shape : (a : Option Ty) → Maybe (ShapedTy N) a → Maybe (ShapedTy N) (element a)
  element-shape none s = tt
  element-shape (some (Ty.primitive p)) s = tt
  element-shape (some (Ty.array n a)) s = s.0
  element-shape (some (Ty.named x)) s = tt

  form-shape : (h : Head) (a : Option Ty) → Maybe (ShapedTy N) a → Maybe (ShapedTy N) (form_type h a)
  form-shape Head.index a s = element-shape a s
  form-shape Head.if a s = tt
  form-shape Head.tuple a s = tt
  form-shape Head.array a s = tt
  form-shape (Head.unary o) a s = tt
  form-shape (Head.binary o) a s = tt
  form-shape (Head.field x) a s = tt
  form-shape (Head.struct x fs) a s = tt
  form-shape (Head.cast b) a s = tt
  form-shape (Head.map f k) a s = tt
  form-shape (Head.fold f k) a s = tt

  pub last_type-shape : (cs : List Declared) → All (ShapedDeclared N) cs → (x : ℕ) → Maybe (ShapedTy N) (last_type cs x)
  unfolding last_type
  last_type-shape [] h x = tt
  last_type-shape (c ∷ cs) h x = or_shape (last_type cs x) _ (last_type-shape cs (λ y m. h y (Memᴰ.tail m)) x) (go (eqb c.name x))
    where
      go : (u : Bool) → Maybe (ShapedTy N) (choose u (some c.type) none)
      go true = (h c (Memᴰ.head refl)).0
      go false = tt

  module _ (ds : List Declared) (shaped : All (ShapedDeclared N) ds) where
    mutual
      unfolding operand_type

      pub operand_type-shape : (e : Expr) → Maybe (ShapedTy N) (operand_type ds e)
      operand_type-shape (Expr.const l w) = tt
      operand_type-shape (Expr.var x) = last_type-shape ds shaped x
      operand_type-shape (Expr.op h es) = form-shape h (first_type ds es) (first_type-shape es)
      operand_type-shape (Expr.pre e) = operand_type-shape e
      operand_type-shape (Expr.arrow a b) = or_shape (operand_type ds b) (operand_type ds a) (operand_type-shape b) (operand_type-shape a)
      operand_type-shape (Expr.call f es) = tt
      operand_type-shape (Expr.when k e) = operand_type-shape e
      operand_type-shape (Expr.merge x a b) = tt

      first_type-shape : (es : Exprs) → Maybe (ShapedTy N) (first_type ds es)
      first_type-shape Exprs.end = tt
      first_type-shape (Exprs.and e es) = operand_type-shape e
