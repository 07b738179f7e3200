-- A declared name's type is read at its place with at most eight arrays in one another.
-- Assumes nothing.
use Prim.Native.Nat.{ℕ, zero, suc, ◌+◌, ◌-◌, ◌≤◌}
use mathlib.Core.Path.{◌≡◌, refl, sym, ◌∙◌, ap}
use mathlib.Core.List.{List, [], ◌∷◌, ◌++◌}
use mathlib.Core.Bool.{Bool, true, false}
use mathlib.Core.Option.{Option, none, some}
use native.Mathlib.Omega.{arith}
use native.Mathlib.Numerals.{sub-one}
use lib.Dec.{eqb}
use borrow.Author.Tests.{le-leb}
use Rattle.definitions.specs.declared.Primitive.{Primitive}
use Rattle.definitions.specs.declared.TypeToken.{TypeToken}
use Rattle.definitions.specs.Lists.{choose, or_else}
use Rattle.definitions.specs.Tokens.{TagValue, type_token_of}
use Rattle.definitions.specs.Tree.{Ty, Declared, Node}
use Rattle.definitions.specs.declared.Refusal.{Refusal}
use Rattle.definitions.specs.Reading.{Reader, got, rejected, token, limited, times}
use Rattle.definitions.specs.Grammar.{no_array, short_enough, typed, ty, declaration}
use Rattle.definitions.specs.Declock.{declared, last_type}
use Rattle.grammar.proofs.Got.{type-got, primitive-got, named-got, element-got, declaration-got, times-nil, times-cons}
use Rattle.layout.specs.declared.NodeLayout.{NodeLayout}
use Rattle.layout.specs.Laid.{LaidNode}
use Rattle.typing.specs.declared.TypeFound.{TypeFound}
use Rattle.std.specs.declared.option.Option.TheVariants.{Some}
use Rattle.typing.specs.Found.{IsFound}

-- M is the number of names
module _ (M : ℕ) (ts : List TagValue) where
  -- where at most d arrays may stand in one another: the first tokens that may stand, and what reads an element
  abbrev allows : ℕ → TypeToken → Bool
  allows zero h = no_array h
  allows (suc d) h = short_enough h

  abbrev element : ℕ → Reader Ty
  element zero = λ us s. rejected (Refusal.Limit s)
  element (suc d) = ty M d

  -- ---- a type that was read, by its first token
  basic-got : (d p : ℕ) (b : Primitive) (q : ℕ) → ty M d ts p ≡ got (Ty.primitive b) q → (token (type_token_of M) ts p ≡ got (TypeToken.Basic b) (p + 1)) × (q ≡ p + 1)
  basic-got d p b q g = let x = type-got M ts p d (Ty.primitive b) q g in go x.0 x.1 x.2 x.3
    where
      go : (h : TypeToken) → token (type_token_of M) ts p ≡ got h (p + 1) → allows d h ≡ true → typed h (element d) ts (p + 1) ≡ got (Ty.primitive b) q → (token (type_token_of M) ts p ≡ got (TypeToken.Basic b) (p + 1)) × (q ≡ p + 1)
      go (TypeToken.Basic c) k a t = let e = primitive-got M ts p c d (Ty.primitive b) q (p + 1) t in let i : c ≡ b = cc e.0 in (k ∙ ap (λ (z : Primitive). got (TypeToken.Basic z) (p + 1)) i, e.1)
      go (TypeToken.Array n) k a t = let e = (element-got M ts p n d (Ty.primitive b) q (p + 1) t a).4 in absurd cc
      go (TypeToken.Named x) k a t = let e = (named-got M ts p x d (Ty.primitive b) q (p + 1) t).0 in absurd cc

  name-got : (d p x q : ℕ) → ty M d ts p ≡ got (Ty.named x) q → (token (type_token_of M) ts p ≡ got (TypeToken.Named x) (p + 1)) × (q ≡ p + 1)
  name-got d p x q g = let y = type-got M ts p d (Ty.named x) q g in go y.0 y.1 y.2 y.3
    where
      go : (h : TypeToken) → token (type_token_of M) ts p ≡ got h (p + 1) → allows d h ≡ true → typed h (element d) ts (p + 1) ≡ got (Ty.named x) q → (token (type_token_of M) ts p ≡ got (TypeToken.Named x) (p + 1)) × (q ≡ p + 1)
      go (TypeToken.Basic c) k a t = let e = (primitive-got M ts p c d (Ty.named x) q (p + 1) t).0 in absurd cc
      go (TypeToken.Array n) k a t = let e = (element-got M ts p n d (Ty.named x) q (p + 1) t a).4 in absurd cc
      go (TypeToken.Named y) k a t = let e = named-got M ts p y d (Ty.named x) q (p + 1) t in let i : y ≡ x = cc e.0 in (k ∙ ap (λ (z : ℕ). got (TypeToken.Named z) (p + 1)) i, e.1)

  array-got : (d p n : ℕ) (b : Ty) (q : ℕ) → ty M d ts p ≡ got (Ty.array n b) q → (token (type_token_of M) ts p ≡ got (TypeToken.Array n) (p + 1)) × (d ≡ 0 → ⊥) × (n ≤ 256) × (ty M (d - 1) ts (p + 1) ≡ got b q)
  array-got d p n b q g = let y = type-got M ts p d (Ty.array n b) q g in go y.0 y.1 y.2 y.3
    where
      go : (h : TypeToken) → token (type_token_of M) ts p ≡ got h (p + 1) → allows d h ≡ true → typed h (element d) ts (p + 1) ≡ got (Ty.array n b) q → (token (type_token_of M) ts p ≡ got (TypeToken.Array n) (p + 1)) × (d ≡ 0 → ⊥) × (n ≤ 256) × (ty M (d - 1) ts (p + 1) ≡ got b q)
      go (TypeToken.Basic c) k a t = let e = (primitive-got M ts p c d (Ty.array n b) q (p + 1) t).0 in absurd cc
      go (TypeToken.Array m) k a t =
          let e = element-got M ts p m d (Ty.array n b) q (p + 1) t a in
          let i : m ≡ n = cc e.4 in
          let j : e.0 ≡ b = cc e.4 in
          (k ∙ ap (λ (z : ℕ). got (TypeToken.Array z) (p + 1)) i, e.1, rw i at e.2, e.3 ∙ ap (λ (z : Ty). got z q) j)
      go (TypeToken.Named y) k a t = let e = (named-got M ts p y d (Ty.array n b) q (p + 1) t).0 in absurd cc

  -- ---- a type is read by its first token
  basic-read : (d p : ℕ) (b : Primitive) → token (type_token_of M) ts p ≡ got (TypeToken.Basic b) (p + 1) → ty M d ts p ≡ got (Ty.primitive b) (p + 1)
  unfolding ty limited
  basic-read zero p b k = rw k
  basic-read (suc d) p b k = rw k

  name-read : (d p x : ℕ) → token (type_token_of M) ts p ≡ got (TypeToken.Named x) (p + 1) → ty M d ts p ≡ got (Ty.named x) (p + 1)
  unfolding ty limited
  name-read zero p x k = rw k
  name-read (suc d) p x k = rw k

  array-read : (d p n : ℕ) (b : Ty) (q : ℕ) → token (type_token_of M) ts p ≡ got (TypeToken.Array n) (p + 1) → n ≤ 256 → ty M d ts (p + 1) ≡ got b q → ty M (suc d) ts p ≡ got (Ty.array n b) q
  unfolding ty limited
  array-read d p n b q k h g = rw (k, le-leb n 256 h, g)

  -- a type that is read somewhere where at most e arrays may stand in one another is read so wherever it is read
  same-depth : (t : Ty) (d e p s q r : ℕ) → ty M d ts p ≡ got t q → ty M e ts s ≡ got t r → ty M e ts p ≡ got t q
  same-depth (Ty.primitive b) d e p s q r g h = let a = basic-got d p b q g in basic-read e p b a.0 ∙ ap (got (Ty.primitive b)) (sym a.1)
  same-depth (Ty.array n b) d zero p s q r g h = absurd ((array-got zero s n b r h).1 refl)
  same-depth (Ty.array n b) d (suc e) p s q r g h =
      let a = array-got d p n b q g in
      let c = array-got (suc e) s n b r h in
      array-read e p n b q a.0 a.2 (same-depth b (d - 1) e (p + 1) (s + 1) q r a.3 (rw (sub-one (suc e)) at c.3))
  same-depth (Ty.named x) d e p s q r g h = let a = name-got d p x q g in name-read e p x a.0 ∙ ap (got (Ty.named x)) (sym a.1)

  -- ---- declarations
  -- each has a type that is read somewhere
  unfoldable EachRead : List Declared → Type 0
  EachRead [] = Unit {0}
  EachRead (d ∷ ds) = ((s r : ℕ) × (ty M 8 ts s ≡ got d.type r)) × EachRead ds

  each_read : (ds : List Declared) (k p q : ℕ) → times k (declaration M) ts p ≡ got ds q → EachRead ds
  unfolding EachRead
  each_read [] k p q g = tt
  each_read (d ∷ ds) zero p q g = let e = (times-nil (declaration M) ts zero p (d ∷ ds) q refl g).0 in absurd cc
  each_read (d ∷ ds) (suc k) p q g =
      let a = times-cons (declaration M) ts (suc k) p (d ∷ ds) q (λ z. omega (arith, z)) g in
      let i : a.0 ≡ d = cc a.5 in
      let j : a.2 ≡ ds = cc a.5 in
      let b = declaration-got M ts p a.0 a.1 a.3 in
      let n : b.2 ≡ d.type = ap (λ (x : Declared). x.type) (sym b.5 ∙ i) in
      ((b.1, a.1, b.4 ∙ ap (λ (t : Ty). got t a.1) n), each_read ds (suc k - 1) a.1 q (a.4 ∙ ap (λ (l : List Declared). got l q) j))

  each_append : (a b : List Declared) → EachRead a → EachRead b → EachRead (a ++ b)
  unfolding EachRead
  each_append [] b h k = k
  each_append (d ∷ a) b h k = (h.0, each_append a b h.1 k)

  each_last : (ds : List Declared) (x : ℕ) (t : Ty) → EachRead ds → last_type ds x ≡ some t → (s r : ℕ) × (ty M 8 ts s ≡ got t r)
  unfolding EachRead last_type
  each_last [] x t h e = absurd cc
  each_last (d ∷ ds) x t h e = go (last_type ds x) (eqb d.name x) (λ i. each_last ds x t h.1 i) e
    where
      go : (o : Option Ty) (b : Bool) → (o ≡ some t → (s r : ℕ) × (ty M 8 ts s ≡ got t r)) → or_else o (choose b (some d.type) none) ≡ some t → (s r : ℕ) × (ty M 8 ts s ≡ got t r)
      go (some u) b f i = f i
      go none true f i = let j : d.type ≡ t = cc in (h.0.0, h.0.1, h.0.2 ∙ ap (λ (u : Ty). got u h.0.1) j)
      go none false f i = absurd cc

  declared-read : (n : Node) (u : ℕ) (lay : NodeLayout) → LaidNode M ts n u lay → EachRead (declared n)
  declared-read n u lay d = each_append n.inputs (n.outputs ++ n.locals) (each_read n.inputs _ _ _ d.inputs.items) (each_append n.outputs n.locals (each_read n.outputs _ _ _ d.outputs.items) (each_read n.locals _ _ _ d.locals.items))

  -- THE LAW: where a declared name's type is found at a place, it is read there with at most eight arrays in one another
  pub declared-at : (n : Node) (u : ℕ) (lay : NodeLayout) → LaidNode M ts n u lay → (x : ℕ) (t : Ty) (p : ℕ) → last_type (declared n) x ≡ some t → IsFound M ts (some t) (Some (TypeFound.At p)) → (q : ℕ) × (ty M 8 ts p ≡ got t q)
  unfolding IsFound
  declared-at n u lay d x t p e f = let a = each_last (declared n) x t (declared-read n u lay d) e in (f.1, same-depth t f.0 8 p a.0 f.1 a.1 f.2 a.2)
