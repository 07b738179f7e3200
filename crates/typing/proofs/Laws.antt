-- The types that answers say, declaration by declaration and arm by arm.
-- Assumes nothing.
use Rattle.std.specs.Prelude.{Result, Ok, Err}
use Prim.Native.Nat.{ℕ, suc, ◌+◌, ◌-◌, ◌≤◌, ◌<◌}
use mathlib.Core.Path.{◌≡◌, refl, sym, ◌∙◌, ap, subst}
use mathlib.Core.List.{List, [], ◌∷◌, ◌++◌, append_assoc}
use mathlib.Core.Bool.{Bool, true, false}
use mathlib.Core.Option.{Option, none, some}
use native.Mathlib.Omega.{arith}
use lib.Dec.{eqb}
use lib.ListN.{length, get_or, set}
use lib.Seq.{get_or-set_same, get_or-set_other}
use borrow.Author.Tests.{eqb-true, eqb-false, ne_eqb}
use Rattle.definitions.specs.declared.Condition.{Condition}
use Rattle.definitions.specs.declared.Literal.{Literal}
use Rattle.definitions.specs.declared.Primitive.{Primitive}
use Rattle.definitions.specs.declared.Refusal.{Refusal}
use Rattle.definitions.specs.declared.ExprToken.{ExprToken}
use Rattle.definitions.specs.declared.TypeToken.{TypeToken}
use Rattle.definitions.specs.Lists.{choose, or_else}
use Rattle.definitions.specs.Tokens.{TagValue, expr_token_of, type_token_of}
use Rattle.definitions.specs.Bytes.{tokens}
use Rattle.definitions.specs.Tree.{Ty, Declared, Head, Expr, Exprs, Node}
use Rattle.definitions.specs.Reading.{got, token}
use Rattle.definitions.specs.Grammar.{name, high, ty, constant, form}
use Rattle.definitions.specs.Declock.{declared, last_type, literal_type, element, operand_type}
use Rattle.grammar.specs.Outcome.{told}
use Rattle.grammar.proofs.Laws.{wrap-got, tokens-length}
use Rattle.grammar.proofs.Got.{tagged-value}
use Rattle.layout.proofs.TypedefsLaws.{type-not-refused, type-is-basic, type-is-named, type-is-array}
use Rattle.layout.proofs.Walks.{first-laid}
use Rattle.layout.specs.declared.DeclarationLayout.{DeclarationLayout}
use Rattle.layout.specs.Walk.{LaidAll}
use Rattle.operands.specs.declared.Gap.{Gap}
use Rattle.operands.specs.declared.Operand.{Operand}
use Rattle.operands.specs.declared.Role.{Role}
use Rattle.operands.specs.Role.{role_of, role_of_expr, operands_of}
use Rattle.operands.specs.Spread.{tree, spread, operand_at}
use Rattle.operands.specs.Viewed.{Stepped}
use Rattle.operands.proofs.Laws.{spread-nil, name-place}
use Rattle.operands.proofs.Deeper.{tree-head}
use Rattle.operands.proofs.Forms.{formed}
use Rattle.inference.proofs.Low.{role-low}
use Rattle.operands.proofs.Apart.{apart}
use Rattle.typing.specs.declared.TypeFound.{TypeFound}
use Rattle.std.specs.Option.{option_map, option_or, MatchOption, IsSomeAnd}
use Rattle.std.specs.declared.option.Option as code
use Rattle.std.specs.declared.option.Option.TheVariants.{None, Some}
use Rattle.clock_tables.specs.Words.{place_of}
use Rattle.typing.specs.Found.{IsFound, found_by, Declares}

or_assoc : {A : Type 0} (a b c : Option A) → or_else (or_else a b) c ≡ or_else a (or_else b c)
or_assoc none b c = refl
or_assoc (some a) b c = refl

pub or-none : {A : Type 0} (a : Option A) → or_else a none ≡ a
or-none none = refl
or-none (some a) = refl

last-append : (a b : List Declared) (x : ℕ) → last_type (a ++ b) x ≡ or_else (last_type b x) (last_type a x)
unfolding last_type
last-append [] b x = sym (or-none (last_type b x))
last-append (d ∷ a) b x = ap (λ (o : Option Ty). or_else o (choose (eqb d.name x) (some d.type) none)) (last-append a b x) ∙ or_assoc (last_type b x) (last_type a x) (choose (eqb d.name x) (some d.type) none)

pub word-place : (w g : ℕ) → w ≡ g → (w ≡ 0 → ⊥) → Some (TypeFound.At (w - 1)) ≡ found_by g
word-place w g i z = rw (← i, ne_eqb w 0 z)

module _ (M : ℕ) (ts : List TagValue) where
  -- the type that stands where a name's word says
  pub placed : (o : Option Ty) (r : code.Option ℕ) (w : ℕ) → r ≡ place_of w → IsFound M ts o (found_by w) → IsFound M ts o (option_map TypeFound.At r)
  placed o r w i h = rw i h

  pub found-or : (o u : Option Ty) (a b r : code.Option TypeFound) → r ≡ option_or a b → IsFound M ts o a → IsFound M ts u b → IsFound M ts (or_else o u) r
  unfolding IsFound
  found-or o u a b r i h k = rw i (go o a h)
    where
      go : (o : Option Ty) (a : code.Option TypeFound) → IsFound M ts o a → IsFound M ts (or_else o u) (option_or a b)
      go none (Some (TypeFound.At p)) h = absurd h
      go none (Some (TypeFound.Basic p)) h = absurd h
      go none None h = k
      go (some t) (Some (TypeFound.At p)) h = h
      go (some t) (Some (TypeFound.Basic p)) h = h
      go (some t) None h = absurd h

  pub nothing-found : IsFound M ts none None
  unfolding IsFound
  nothing-found = tt

  -- ---- elements
  pub element-basic : (o : Option Ty) (f : code.Option TypeFound) (k : Primitive) → f ≡ Some (TypeFound.Basic k) → IsFound M ts o f → IsFound M ts (element o) None
  unfolding IsFound
  element-basic none f k i h = tt
  element-basic (some t) f k i h = let j : t ≡ Ty.primitive k = rw i at h in rw j tt

  pub element-unknown : (o : Option Ty) (f : code.Option TypeFound) → f ≡ None → IsFound M ts o f → IsFound M ts (element o) None
  unfolding IsFound
  element-unknown none f i h = tt
  element-unknown (some t) f i h = let z : ⊥ = rw i at h in absurd z

  module _ (p : ℕ) (f : code.Option TypeFound) (j : f ≡ Some (TypeFound.At p)) (r : Result (TypeToken × ℕ) Refusal) (i : r ≡ told (token (type_token_of M) ts p)) where
    read_at : (t : Ty) → IsFound M ts (some t) f → (d : ℕ) × (q : ℕ) × (ty M d ts p ≡ got t q)
    unfolding IsFound
    read_at t h = rw j at h

    none-at : IsFound M ts none f → ⊥
    unfolding IsFound
    none-at h = rw j at h

    pub element-refused : (x : Refusal) → r ≡ Err x → (o : Option Ty) → IsFound M ts o f → IsFound M ts (element o) None
    element-refused x e none h = absurd (none-at h)
    element-refused x e (some t) h = let a = read_at t h in absurd (type-not-refused M ts p r i a.0 t a.1 a.2 x e)

    module _ (h : TypeToken) (s : ℕ) (e : r ≡ Ok (h, s)) where
      element-of-basic : (b : Primitive) → h ≡ TypeToken.Basic b → (o : Option Ty) → IsFound M ts o f → IsFound M ts (element o) None
      element-of-basic b k none g = absurd (none-at g)
      element-of-basic b k (some t) g = let a = read_at t g in rw (type-is-basic M ts p r i a.0 t a.1 a.2 h s e b k) nothing-found

      element-of-named : (x : ℕ) → h ≡ TypeToken.Named x → (o : Option Ty) → IsFound M ts o f → IsFound M ts (element o) None
      element-of-named x k none g = absurd (none-at g)
      element-of-named x k (some t) g = let a = read_at t g in rw (type-is-named M ts p r i a.0 t a.1 a.2 h s e x k) nothing-found

      -- the head of no array
      pub element-other : ((n : ℕ) → h ≡ TypeToken.Array n → ⊥) → (o : Option Ty) → IsFound M ts o f → IsFound M ts (element o) None
      element-other n = go h refl
        where
          go : (t : TypeToken) → h ≡ t → (o : Option Ty) → IsFound M ts o f → IsFound M ts (element o) None
          go (TypeToken.Basic b) k = element-of-basic b k
          go (TypeToken.Array i) k = absurd (n i k)
          go (TypeToken.Named x) k = element-of-named x k

      pub element-of-array : (n : ℕ) → h ≡ TypeToken.Array n → (o : Option Ty) → IsFound M ts o f → IsFound M ts (element o) (Some (TypeFound.At s))
      unfolding IsFound
      element-of-array n k none g = absurd (none-at g)
      element-of-array n k (some t) g =
          let a = read_at t g in
          let b = type-is-array M ts p r i a.0 t a.1 a.2 h s e n k in
          rw b.4 (a.0 - 1, a.1, b.3)

  -- ---- words of names
  -- one declaration more
  pub declares-more : (t : List ℕ) (all : List Declared) (d : Declared) (first q : ℕ) → ty M 8 ts first ≡ got d.type q → d.name < M → M ≤ length t → (w : ℕ) → w ≡ suc first → Declares M ts t all → Declares M ts (set t d.name w) (all ++ (d ∷ []))
  unfolding last_type IsFound
  declares-more t all d first q typed low room w i h = record { each = λ x b. go x b (eqb d.name x) refl }
    where
      go : (x : ℕ) → x < M → (b : Bool) → eqb d.name x ≡ b → IsFound M ts (last_type (all ++ (d ∷ [])) x) (found_by (get_or (set t d.name w) x 0))
      go x b true e =
          let j : d.name ≡ x = eqb-true d.name x e in
          let v : get_or (set t d.name w) x 0 ≡ suc first = ap (λ (y : ℕ). get_or (set t d.name w) y 0) (sym j) ∙ (get_or-set_same t d.name w 0 (omega arith) ∙ i) in
          let o : first ≡ suc first - 1 = omega arith in
          let m : Some (TypeFound.At first) ≡ found_by (get_or (set t d.name w) x 0) = ap (λ (y : ℕ). Some (TypeFound.At y)) o ∙ word-place (suc first) _ (sym v) (λ z. omega arith) in
          subst (λ (z : code.Option TypeFound). IsFound M ts (last_type (all ++ (d ∷ [])) x) z) m (rw (last-append all (d ∷ []) x, e) (8, q, typed))
      go x b false e =
          let j = eqb-false d.name x e in
          rw (last-append all (d ∷ []) x, e, get_or-set_other t d.name x w 0 (λ z. j (sym z))) (h.each x b)

-- the name of a declaration
pub label_is : (M : ℕ) (gs vs : List ℕ) → length vs ≡ length gs → (p n q : ℕ) → name M (tokens gs vs) p ≡ got n q → (n ≡ get_or vs p 0) × (n < M) × (p < length gs) × (q ≡ p + 1)
unfolding name
label_is M gs vs same p n q g =
    let b : p < length gs = omega (arith, (name-place M (tokens gs vs) p n q g).1, tokens-length gs vs same) in
    let v = tagged-value gs vs same p 4 M n q b g in
    (v.0, v.2, b, v.3)

-- of all declarations, those before the ones that a walk has still to give have their types in a table
pub record Declaring (M : ℕ) (ts : List TagValue) (all : List Declared) (ls : List DeclarationLayout) (t : List ℕ) : Type 0 where
  pub done : List Declared
  pub rest : List Declared
  pub laid : LaidAll M ts rest ls
  pub declares : Declares M ts t done
  pub whole : all ≡ done ++ rest

pub declaring-step : (M : ℕ) (gs vs : List ℕ) → length vs ≡ length gs → (all : List Declared) (l : DeclarationLayout) (ls : List DeclarationLayout) (t t₁ : List ℕ) (w : ℕ) → (l.type_at < 4294967295 → w ≡ suc l.type_at) → t₁ ≡ set t l.name w → M ≤ length t → length gs < 4294967295 →
    Declaring M (tokens gs vs) all (l ∷ ls) t → Declaring M (tokens gs vs) all ls t₁
declaring-step M gs vs same all l ls t t₁ w word e room few h =
    let a = first-laid h.laid in
    let d = a.first in
    let y = label_is M gs vs same a.from d.name l.type_at a.laid.label in
    let z = declares-more M (tokens gs vs) t h.done d l.type_at a.to a.laid.typed y.1 room w (word (omega (arith, few, y.2, y.3))) h.declares in
    record {
      done = h.done ++ (d ∷ []);
      rest = a.rest;
      laid = a.others;
      declares = rw (e ∙ ap (λ (x : ℕ). set t x w) a.laid.named) z;
      whole = h.whole ∙ (ap (λ (ds : List Declared). h.done ++ ds) a.whole ∙ sym (append_assoc h.done (d ∷ []) a.rest));
    }

-- nothing is declared yet
pub declares-start : (M : ℕ) (ts : List TagValue) (t : List ℕ) → ((x : ℕ) → x < M → get_or t x 0 ≡ 0) → Declares M ts t []
unfolding last_type IsFound
declares-start M ts t h = record { each = λ x b. rw (h x b) tt }

-- the three lists of a node
pub declares-lists : (M : ℕ) (ts : List TagValue) (t : List ℕ) (n : Node) → Declares M ts t ((([] ++ n.inputs) ++ n.outputs) ++ n.locals) → Declares M ts t (declared n)
declares-lists M ts t n h = rw (append_assoc n.inputs n.outputs n.locals) at h

-- a declared name's type stands where its word says
mapped : (a : code.Option ℕ) (r : code.Option TypeFound) → MatchOption a (r ≡ None) (λ p. IsSomeAnd r (λ f. f ≡ TypeFound.At p)) → r ≡ option_map TypeFound.At a
mapped None r h = h
mapped (Some p) None h = absurd h
mapped (Some p) (Some f) h = ap Some h

pub declared-name : (M : ℕ) (gs vs t : List ℕ) (ds : List Declared) (e : Expr) (q p x : ℕ) → tree M (tokens gs vs) p ≡ got e q → e ≡ Expr.var x → Declares M (tokens gs vs) t ds → (a : code.Option ℕ) → a ≡ place_of (get_or t x 0) →
    (r : code.Option TypeFound) → MatchOption a (r ≡ None) (λ p. IsSomeAnd r (λ f. f ≡ TypeFound.At p)) → IsFound M (tokens gs vs) (last_type ds x) r
unfolding role_of_expr
declared-name M gs vs t ds e q p x g i d a j r h = rw (mapped a r h) (placed M (tokens gs vs) (last_type ds x) a (get_or t x 0) j (d.each x (rw i at (role-low M (tokens gs vs) p e q g))))

-- ---- constants
const-token : (t : ExprToken) → role_of t ≡ Role.Constant → (l : Literal) × (t ≡ ExprToken.Const l)
const-token (ExprToken.Const l) h = (l, refl)
const-token (ExprToken.Unary o) h = absurd cc
const-token (ExprToken.Binary o) h = absurd cc
const-token ExprToken.If h = absurd cc
const-token ExprToken.Pre h = absurd cc
const-token ExprToken.Arrow h = absurd cc
const-token (ExprToken.Call f) h = absurd cc
const-token (ExprToken.Field x) h = absurd cc
const-token ExprToken.Index h = absurd cc
const-token ExprToken.Tuple h = absurd cc
const-token ExprToken.Array h = absurd cc
const-token (ExprToken.Struct x) h = absurd cc
const-token ExprToken.Cast h = absurd cc
const-token (ExprToken.When x) h = absurd cc
const-token (ExprToken.WhenNot x) h = absurd cc
const-token (ExprToken.Merge x) h = absurd cc
const-token (ExprToken.Map f) h = absurd cc
const-token (ExprToken.Fold f) h = absurd cc
const-token (ExprToken.Var x) h = absurd cc

const-literal : (M : ℕ) (ts : List TagValue) (p : ℕ) (k l : Literal) (w q : ℕ) → constant M k ts p ≡ got (Expr.const l w) q → k ≡ l
unfolding constant
const-literal M ts p (Literal.Bool v) l w q g = cc
const-literal M ts p (Literal.Int v) l w q g = let a = wrap-got (high ts p) (λ w. Expr.const (Literal.Int v) w) _ q g in cc a.2
const-literal M ts p (Literal.Float v) l w q g = let a = wrap-got (high ts p) (λ w. Expr.const (Literal.Float v) w) _ q g in cc a.2
const-literal M ts p (Literal.Char v) l w q g = cc

pub constant_token : (M : ℕ) (ts : List TagValue) (p : ℕ) (l : Literal) (w q : ℕ) → tree M ts p ≡ got (Expr.const l w) q → token (expr_token_of M) ts p ≡ got (ExprToken.Const l) (p + 1)
unfolding role_of_expr form
constant_token M ts p l w q g =
    let a = tree-head M ts p (Expr.const l w) q g in
    let b = const-token a.0 (formed M (tree M) ts (p + 1) (Expr.const l w) q a.0 a.2).0 in
    let f : constant M b.0 ts (p + 1) ≡ got (Expr.const l w) q = rw b.1 at a.2 in
    let c = const-literal M ts (p + 1) b.0 l w q f in
    a.1 ∙ ap (λ (t : ExprToken). got t (p + 1)) (b.1 ∙ ap ExprToken.Const c)

pub head-token : (M : ℕ) (ts : List TagValue) (p : ℕ) (l : Literal) (w q : ℕ) (r : Result (ExprToken × ℕ) Refusal) → r ≡ told (token (expr_token_of M) ts p) → tree M ts p ≡ got (Expr.const l w) q → r ≡ Ok ((ExprToken.Const l), (p + 1))
head-token M ts p l w q r i g = i ∙ ap told (constant_token M ts p l w q g)

module _ (r : Result (ExprToken × ℕ) Refusal) (l : Literal) (s : ℕ) (i : r ≡ Ok ((ExprToken.Const l), s)) where
  pub const-arm : (t : ExprToken) (k : Literal) (u : ℕ) → r ≡ Ok (t, u) → t ≡ ExprToken.Const k → (b : Primitive) → b ≡ literal_type k → Some (TypeFound.Basic b) ≡ Some (TypeFound.Basic (literal_type l))
  const-arm t k u e f b j =
      let p : ◌≡◌ {A = ExprToken × ℕ} (ExprToken.Const l, s) (t, u) = cc in
      let q : ExprToken.Const l ≡ t = ap (λ (y : ExprToken × ℕ). y.0) p in
      let m : k ≡ l = cc in ap (λ (y : Primitive). Some (TypeFound.Basic y)) (j ∙ ap literal_type m)

  pub const-other : (t : ExprToken) (u : ℕ) → r ≡ Ok (t, u) → ((k : Literal) → t ≡ ExprToken.Const k → ⊥) → ⊥
  const-other t u e h =
      let p : ◌≡◌ {A = ExprToken × ℕ} (ExprToken.Const l, s) (t, u) = cc in
      let q : ExprToken.Const l ≡ t = ap (λ (y : ExprToken × ℕ). y.0) p in
      let m : t ≡ ExprToken.Const l = cc in h l m

  pub const-refused : (x : Refusal) → r ≡ Err x → ⊥
  const-refused x e = cc

-- ---- operands
pub split-of : (M : ℕ) (ts : List TagValue) (g : Gap) (n p : ℕ) (o : Operand) → Stepped M ts g p o → (es : Exprs) (q : ℕ) → spread M g n (tree M) ts p ≡ got es q → (a : Expr) (rs : Exprs) → es ≡ Exprs.and a rs →
    (u : ℕ) × (tree M ts o.at ≡ got a u) × (spread M o.rest.gap (n - 1) (tree M) ts o.rest.next ≡ got rs q) × (p < o.rest.next)
split-of M ts g n p o s es q h a rs w = go
  where
    some_left : n ≡ 0 → ⊥
    some_left z = let m = (spread-nil M (tree M) ts g n p es q z h).0 in cc

    go : (u : ℕ) × (tree M ts o.at ≡ got a u) × (spread M o.rest.gap (n - 1) (tree M) ts o.rest.next ≡ got rs q) × (p < o.rest.next)
    go =
        let x = s.split n es q some_left h in
        let i : x.first ≡ a = cc x.whole in
        let j : x.rest ≡ rs = cc x.whole in
        (x.end, x.here ∙ ap (λ (y : Expr). got y x.end) i, x.others ∙ ap (λ (y : Exprs). got y q) j, x.past)

pub first_of : (M : ℕ) (gs vs : List ℕ) → length vs ≡ length gs → (g : Gap) (n p place : ℕ) → place ≡ operand_at (length gs) g p → (es : Exprs) (q : ℕ) → spread M g n (tree M) (tokens gs vs) p ≡ got es q → (a : Expr) (rs : Exprs) → es ≡ Exprs.and a rs → (u : ℕ) × (tree M (tokens gs vs) place ≡ got a u)
first_of M gs vs same g n p place i es q h a rs w = go
  where
    some_left : n ≡ 0 → ⊥
    some_left z = let m = (spread-nil M (tree M) (tokens gs vs) g n p es q z h).0 in cc

    go : (u : ℕ) × (tree M (tokens gs vs) place ≡ got a u)
    go = let x = apart M gs vs same g n p es q place some_left i h in let j : x.first ≡ a = cc x.whole in (x.end, x.here ∙ ap (λ (y : Expr). got y x.end) j)

pub ops-one : (e a : Expr) → e ≡ Expr.pre a → operands_of e ≡ Exprs.and a Exprs.end
unfolding operands_of
ops-one e a i = rw i

pub ops-when : (e a : Expr) (k : _) → e ≡ Expr.when k a → operands_of e ≡ Exprs.and a Exprs.end
unfolding operands_of
ops-when e a k i = rw i

pub ops-two : (e a b : Expr) → e ≡ Expr.arrow a b → operands_of e ≡ Exprs.and a (Exprs.and b Exprs.end)
unfolding operands_of
ops-two e a b i = rw i

pub ops-index : (e : Expr) (es : Exprs) → e ≡ Expr.op Head.index es → operands_of e ≡ es
unfolding operands_of
ops-index e es i = rw i

-- ---- an expression, by its role
pub not_back : (at first second p : ℕ) → at < first → first < second → second ≤ p → p ≤ at → ⊥
not_back at first second p h i j k = omega arith

-- the roles that have no type
record Untyped (ρ : Role) : Type 0 where
  constant : ρ ≡ Role.Constant → ⊥
  name : (x : ℕ) → ρ ≡ Role.Name x → ⊥
  sample : (k : Condition) → ρ ≡ Role.Sample k → ⊥
  previous : ρ ≡ Role.Previous → ⊥
  follow : ρ ≡ Role.Follow → ⊥
  index : ρ ≡ Role.Index → ⊥

module _ (M : ℕ) (ts : List TagValue) (ds : List Declared) (e : Expr) (r : code.Option TypeFound) where
  pub const-found : (l : Literal) (w : ℕ) → e ≡ Expr.const l w → r ≡ Some (TypeFound.Basic (literal_type l)) → IsFound M ts (operand_type ds e) r
  unfolding operand_type IsFound
  const-found l w i j = rw (i, j) refl

  pub name-found : (x : ℕ) → e ≡ Expr.var x → IsFound M ts (last_type ds x) r → IsFound M ts (operand_type ds e) r
  unfolding operand_type
  name-found x i h = rw i h

  pub sample-found : (k : _) (a : Expr) → e ≡ Expr.when k a → IsFound M ts (operand_type ds a) r → IsFound M ts (operand_type ds e) r
  unfolding operand_type
  sample-found k a i h = rw i h

  pub pre-found : (a : Expr) → e ≡ Expr.pre a → IsFound M ts (operand_type ds a) r → IsFound M ts (operand_type ds e) r
  unfolding operand_type
  pre-found a i h = rw i h

  pub arrow-found : (a b : Expr) (x y : code.Option TypeFound) → e ≡ Expr.arrow a b → r ≡ option_or y x → IsFound M ts (operand_type ds b) y → IsFound M ts (operand_type ds a) x → IsFound M ts (operand_type ds e) r
  unfolding operand_type
  arrow-found a b x y i j h k = rw i (found-or M ts (operand_type ds b) (operand_type ds a) y x r j h k)

  pub index-found : (es : Exprs) (a : Expr) (rs : Exprs) → e ≡ Expr.op Head.index es → es ≡ Exprs.and a rs → IsFound M ts (element (operand_type ds a)) r → IsFound M ts (operand_type ds e) r
  unfolding operand_type
  index-found es a rs i j h = rw (i, j) h

pub index-none : (M : ℕ) (ts : List TagValue) (ds : List Declared) (e : Expr) (es : Exprs) → e ≡ Expr.op Head.index es → es ≡ Exprs.end → IsFound M ts (operand_type ds e) None
unfolding operand_type
index-none M ts ds e es i j = rw (i, j) (nothing-found M ts)

form-none : (M : ℕ) (ts : List TagValue) (ds : List Declared) (h : Head) (es : Exprs) → Untyped (role_of_expr (Expr.op h es)) → IsFound M ts (operand_type ds (Expr.op h es)) None
unfolding operand_type role_of_expr
form-none M ts ds (Head.unary o) es k = nothing-found M ts
form-none M ts ds (Head.binary o) es k = nothing-found M ts
form-none M ts ds (Head.field x) es k = nothing-found M ts
form-none M ts ds Head.if es k = nothing-found M ts
form-none M ts ds Head.index es k = absurd (k.index refl)
form-none M ts ds Head.tuple es k = nothing-found M ts
form-none M ts ds Head.array es k = nothing-found M ts
form-none M ts ds (Head.struct x fs) es k = nothing-found M ts
form-none M ts ds (Head.cast a) es k = nothing-found M ts
form-none M ts ds (Head.map f n) es k = nothing-found M ts
form-none M ts ds (Head.fold f n) es k = nothing-found M ts

none-typed : (M : ℕ) (ts : List TagValue) (ds : List Declared) (e : Expr) → Untyped (role_of_expr e) → IsFound M ts (operand_type ds e) None
unfolding operand_type role_of_expr
none-typed M ts ds (Expr.const l w) k = absurd (k.constant refl)
none-typed M ts ds (Expr.var x) k = absurd (k.name x refl)
none-typed M ts ds (Expr.op h es) k = form-none M ts ds h es k
none-typed M ts ds (Expr.pre a) k = absurd (k.previous refl)
none-typed M ts ds (Expr.arrow a b) k = absurd (k.follow refl)
none-typed M ts ds (Expr.call f es) k = nothing-found M ts
none-typed M ts ds (Expr.when c a) k = absurd (k.sample c refl)
none-typed M ts ds (Expr.merge x a b) k = nothing-found M ts

pub rest-found : (M : ℕ) (ts : List TagValue) (ds : List Declared) (e : Expr) (v : Role) → v ≡ role_of_expr e
    → (v ≡ Role.Constant → ⊥) → ((x : ℕ) → v ≡ Role.Name x → ⊥) → ((k : Condition) → v ≡ Role.Sample k → ⊥) → (v ≡ Role.Previous → ⊥) → (v ≡ Role.Follow → ⊥) → (v ≡ Role.Index → ⊥)
    → IsFound M ts (operand_type ds e) None
rest-found M ts ds e v i c n s p f x =
    none-typed M ts ds e (record { constant = λ z. c (i ∙ z); name = λ y z. n y (i ∙ z); sample = λ k z. s k (i ∙ z); previous = λ z. p (i ∙ z); follow = λ z. f (i ∙ z); index = λ z. x (i ∙ z) })
