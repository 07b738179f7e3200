-- Laws of which types and definitions have a default.
-- Assumes nothing.
use mathlib.Core.Path.{◌≡◌, refl, ◌∙◌, ap}
use mathlib.Core.List.{List, [], ◌∷◌}
use mathlib.Core.Bool.{Bool, true, false}
use mathlib.Core.Option.{Option, none, some}
use Prim.Native.Nat.{ℕ, zero, suc, ◌≤◌, ◌<◌}
use native.Mathlib.Omega.{arith}
use lib.ListN.{length, get_or, replicate}
use Rattle.definitions.specs.Tree.{Ty, TypeDef, Head, Expr}
use Rattle.definitions.specs.Types.{target, copies, definition_of, default_by, default_of, default_named, default}
use Rattle.layout.specs.Table.{nowhere, def_at, name_at, is_named, first_of}
use Rattle.layout.proofs.TypedefsLaws.{find_none, find-some}
use Rattle.cycles.proofs.Laws.{empty-at, first-name}
use Rattle.defaults.specs.Has.{is_some, DefaultsKnown}

-- whether a type has a default, G saying it of names: by the name that it ends in
module _ (G : ℕ → Option Expr) where
  pub has-array : (r : Bool) (t b : Ty) (n : ℕ) → t ≡ Ty.array n b → r ≡ is_some (default_by G b) → r ≡ is_some (default_by G t)
  unfolding default_by
  has-array r t b n e h = rw e (go (default_by G b) h)
    where
      go : (o : Option Expr) → r ≡ is_some o → r ≡ is_some {A = Expr} (elim o [ none ↦ none | some y ↦ some (Expr.op Head.array (copies n y)) ])
      go none i = i
      go (some y) i = i

  pub has-none : (t : Ty) → target t ≡ [] → true ≡ is_some (default_by G t)
  unfolding default_by target
  has-none (Ty.primitive p) e = refl
  has-none (Ty.array n t) e = has-array true (Ty.array n t) t n refl (has-none t e)
  has-none (Ty.named x) e = cc

  pub has-one : (t : Ty) (x : ℕ) (r : Bool) → target t ≡ x ∷ [] → r ≡ is_some (G x) → r ≡ is_some (default_by G t)
  unfolding default_by target
  has-one (Ty.primitive p) x r e h = cc
  has-one (Ty.array n t) x r e h = has-array r (Ty.array n t) t n refl (has-one t x r e h)
  has-one (Ty.named y) x r e h = let f : y ≡ x = cc in rw f h

-- the default of a name is that of its first definition
module _ (types : List TypeDef) (x : ℕ) where
  pub unnamed : (k : ℕ) → length types ≤ first_of types x → default_named types k x ≡ none
  unfolding default_named definition_of
  unnamed zero h = refl
  unnamed (suc k) h = rw (find_none (is_named x) types h, default_named)

  pub named_by : (k i : ℕ) → i ≡ first_of types x → i < length types → default_named types (suc k) x ≡ default_of (default_named types k) (def_at types i) (def_at types i).body
  unfolding default_named definition_of
  named_by k i e h = rw e (rw (find-some (is_named x) types nowhere (omega arith), default_named))

-- a name has what its first definition has
module _ (types : List TypeDef) (n : ℕ) (many : length types ≡ n) (has : List Bool) (by : DefaultsKnown types n n has) (x : ℕ) where
  pub has-unnamed : first_of types x ≡ length types → false ≡ is_some (default_named types n x)
  has-unnamed h = rw (unnamed types x n (omega arith))

  pub has-at : (i : ℕ) → i ≡ first_of types x → i < length types → get_or has i false ≡ is_some (default_named types n x)
  has-at i first h =
      let e : name_at types i ≡ x = rw first (first-name types x (omega arith)) in
      by i (omega arith) ∙ ap (λ (y : ℕ). is_some (default_named types n y)) e

-- at first none has one, and after n rounds it is settled
pub has-start : (types : List TypeDef) (n : ℕ) → DefaultsKnown types n 0 (replicate 32 false)
unfolding default_named
has-start types n i h = empty-at 32 i

pub has_end : (types : List TypeDef) (n k : ℕ) (has : List Bool) → n ≤ k → k ≤ n → DefaultsKnown types n k has → DefaultsKnown types n n has
has_end types n k has h l f = let e : k ≡ n = omega arith in rw e at f

-- a type's default is at most as many definitions down as there are
module _ (types : List TypeDef) (n : ℕ) (many : length types ≡ n) where
  pub whole-default : (r : Bool) (t : Ty) → r ≡ is_some (default_by (default_named types n) t) → r ≡ is_some (default types t)
  unfolding default
  whole-default r t h = rw many h

  pub whole-some : (t : Ty) (e : Expr) → default types t ≡ some e → default_by (default_named types n) t ≡ some e
  unfolding default
  whole-some t e h = rw many at h
