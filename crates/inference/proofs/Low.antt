-- The names of an accepted expression are among the sheet's.
-- Assumes nothing.
use Prim.Native.Nat.{ℕ, ◌+◌, ◌<◌}
use mathlib.Core.Path.{◌≡◌, refl}
use mathlib.Core.List.{List}
use mathlib.Core.Bool.{Bool, true, false}
use mathlib.Core.Option.{Option, none, some}
use lib.Dec.{eqb, ltb}
use lib.ListN.{get_elem?}
use borrow.Author.Tests.{ltb-true}
use Rattle.definitions.specs.declared.ExprToken.{ExprToken}
use Rattle.definitions.specs.Lists.{choose}
use Rattle.definitions.specs.Tokens.{TagValue, given, mapped, unary_of, binary_of, expr_token_of}
use Rattle.definitions.specs.Tree.{Expr}
use Rattle.definitions.specs.Reading.{got, allowed, at_token, token}
use Rattle.operands.specs.declared.Role.{Role}
use Rattle.operands.specs.Role.{role_of, role_of_expr}
use Rattle.operands.specs.Spread.{tree}
use Rattle.operands.proofs.Laws.{reads}

-- M is the number of names
module _ (M : ℕ) where
  -- a role's name is among them
  abbrev pub Low : Role → Type 0
  Low Role.Constant = Unit
  Low (Role.Name x) = x < M
  Low (Role.Sample k) = k.name < M
  Low (Role.Join x) = x < M
  Low Role.Previous = Unit
  Low Role.Follow = Unit
  Low (Role.Call f) = f < M
  Low Role.Index = Unit
  Low Role.Compute = Unit

  abbrev Each : Option ExprToken → Type 0
  Each none = Unit
  Each (some t) = Low (role_of t)

  either : (b : Bool) (x y : Option ExprToken) → Each x → Each y → Each (choose b x y)
  either true x y i j = i
  either false x y i j = j

  below : (v : ℕ) (t : ExprToken) → (v < M → Low (role_of t)) → Each (given (ltb v M) t)
  below v t h = go (ltb v M) refl
    where
      go : (b : Bool) → ltb v M ≡ b → Each (given b t)
      go true e = h (ltb-true v M e)
      go false e = tt

  always : (b : Bool) (t : ExprToken) → Low (role_of t) → Each (given b t)
  always true t h = h
  always false t h = tt

  each-mapped : {A : Type 0} (f : A → ExprToken) (o : Option A) → ((a : A) → Low (role_of (f a))) → Each (mapped f o)
  each-mapped f none h = tt
  each-mapped f (some a) h = h a

  each : (tag v : ℕ) → Each (expr_token_of M tag v)
  unfolding expr_token_of
  each tag v =
      either (eqb tag 50) _ _ (always (ltb v 2) _ tt) (
      either (eqb tag 51) _ _ tt (
      either (eqb tag 52) _ _ tt (
      either (eqb tag 53) _ _ (always (ltb v 256) _ tt) (
      either (eqb tag 54) _ _ (below v _ (λ h. h)) (
      either (eqb tag 55) _ _ (each-mapped _ (unary_of v) (λ o. tt)) (
      either (eqb tag 56) _ _ (each-mapped _ (binary_of v) (λ o. tt)) (
      either (eqb tag 57) _ _ (always (eqb v 0) _ tt) (
      either (eqb tag 58) _ _ (always (eqb v 0) _ tt) (
      either (eqb tag 59) _ _ (always (eqb v 0) _ tt) (
      either (eqb tag 60) _ _ (below v _ (λ h. h)) (
      either (eqb tag 61) _ _ (below v _ (λ h. tt)) (
      either (eqb tag 62) _ _ (always (eqb v 0) _ tt) (
      either (eqb tag 63) _ _ (always (eqb v 0) _ tt) (
      either (eqb tag 64) _ _ (always (eqb v 0) _ tt) (
      either (eqb tag 65) _ _ (below v _ (λ h. tt)) (
      either (eqb tag 66) _ _ (always (eqb v 0) _ tt) (
      either (eqb tag 67) _ _ (below v _ (λ h. h)) (
      either (eqb tag 68) _ _ (below v _ (λ h. h)) (
      either (eqb tag 69) _ _ (below v _ (λ h. h)) (
      either (eqb tag 70) _ _ (below v _ (λ h. tt)) (
      either (eqb tag 71) _ _ (below v _ (λ h. tt)) tt)))))))))))))))))))))

  token-low : (ts : List TagValue) (p : ℕ) (t : ExprToken) (q : ℕ) → token (expr_token_of M) ts p ≡ got t q → Low (role_of t)
  unfolding token
  token-low ts p t q g = go (get_elem? ts p) g
    where
      some-low : (x : Option ExprToken) → Each x → allowed x p ≡ got t q → Low (role_of t)
      some-low none h e = absurd cc
      some-low (some u) h e = let i : u ≡ t = cc in rw i at h

      go : (x : Option TagValue) → at_token (expr_token_of M) x p ≡ got t q → Low (role_of t)
      go none e = absurd cc
      go (some u) e = some-low (expr_token_of M u.tag u.value) (each u.tag u.value) e

  -- an accepted expression's role has a name of the sheet
  pub role-low : (ts : List TagValue) (p : ℕ) (e : Expr) (q : ℕ) → tree M ts p ≡ got e q → Low (role_of_expr e)
  role-low ts p e q g =
      let a = reads M ts p e q g in
      rw a.2 at (token-low ts p a.0 (p + 1) a.1)

  -- the same of the role that the code found
  pub arm_low : (ts : List TagValue) (p : ℕ) (e : Expr) (q : ℕ) (v ρ : Role) → tree M ts p ≡ got e q → v ≡ role_of_expr e → v ≡ ρ → Low ρ
  arm_low ts p e q v ρ g i j = let h : role_of_expr e ≡ ρ = cc in rw h at (role-low ts p e q g)
