-- What left names meet, and a right side under the flag of its clock.
-- Assumes nothing.
use mathlib.Core.Path.{◌≡◌, refl, sym, ◌∙◌, ap}
use mathlib.Core.Bool.{Bool, true, false}
use mathlib.Core.List.{List, [], ◌∷◌}
use mathlib.Core.Option.{Option, none, some}
use Prim.Native.Nat.{ℕ, ◌+◌, ◌≤◌, ◌<◌}
use native.Mathlib.Omega.{arith}
use lib.ListN.{length, get_or, drop, drop_of_length-le}
use lib.Seq.{drop-cons}
use native.Mathlib.Numerals.{add-one}
use borrow.Author.Tests.{ne_eqb}
use Rattle.std.specs.Prelude.{Result, Ok, Err}
use Rattle.std.specs.Result.{IsErr, IsErrAnd}
use Rattle.std.proofs.lemmas.Result.{err_from_is_err_and}
use Rattle.typing.specs.After.{called_by}
use Rattle.definitions.specs.Lists.{or_else}
use Rattle.definitions.specs.Bytes.{tokens}
use Rattle.definitions.specs.Tree.{Ty, TypeDef, Node}
use Rattle.definitions.specs.Reading.{got}
use Rattle.definitions.specs.Grammar.{ty}
use Rattle.definitions.specs.Types.{default}
use Rattle.definitions.specs.InferClocks.{Fault, undeclared, no_default}
use Rattle.definitions.specs.Declock.{Shape, bare, other, calls, declared, last_type}
use Rattle.defaults.specs.Has.{is_some}
use Rattle.typing.specs.declared.TypeFound.{TypeFound}
use Rattle.clock_tables.specs.Words.{place_of}
use Rattle.typing.specs.Found.{IsFound}
use Rattle.typing.proofs.Laws.{or-none, placed}
use Rattle.typing.proofs.Typed.{declared-at}
use Rattle.findings.specs.declared.Fault as value
use Rattle.std.specs.Option.{option_map, ok_or}
use Rattle.std.specs.declared.option.Option as code
use Rattle.std.specs.declared.option.Option.TheVariants.{None, Some}
use Rattle.node_plan.specs.Noted.{told_of, Typed}
use Rattle.plan.specs.Tables.{Arrays}
use Rattle.plan.proofs.Sites.{unless-none, unless-there}
use Rattle.stateless.specs.Faults.{left_type_fault, left_fault, lefts_fault, several_fault, flagged_fault}

module _ (types : List TypeDef) (l : List Node) (node : Node) where
  -- ---- a left name
  module _ (A : Arrays) (K : Typed A types node) (x : ℕ) (low : x < A.names) (r : code.Option ℕ) (h : r ≡ place_of (get_or A.typed x 0)) where
    found : IsFound A.names (tokens A.tags A.values) (last_type (declared node) x) (option_map TypeFound.At r)
    found = placed _ _ (last_type (declared node) x) r _ h (K.declares.each x low)

    pub left-unknown : r ≡ None → some (undeclared x) ≡ left_fault types l node x
    unfolding left_fault IsFound
    left-unknown i = go (last_type (declared node) x) found
      where
        go : (o : Option Ty) → IsFound A.names (tokens A.tags A.values) o (option_map TypeFound.At r) → some (undeclared x) ≡ left_type_fault types l node x o
        go none k = refl
        go (some t) k = let z : ⊥ = rw i at k in absurd z

    module _ (p : ℕ) (i : r ≡ Some p) (b : Bool) (has : (t : Ty) (q : ℕ) → ty A.names 8 (tokens A.tags A.values) p ≡ got t q → b ≡ is_some (default types t)) where
      -- the type that was found, and what is told of its default
      found-default : (o : Option Ty) → last_type (declared node) x ≡ o → IsFound A.names (tokens A.tags A.values) o (option_map TypeFound.At r) → (t : Ty) × (o ≡ some t) × (b ≡ is_some (default types t))
      unfolding IsFound
      found-default none e k = let z : ⊥ = rw i at k in absurd z
      found-default (some t) e k = let a = declared-at _ _ node K.end K.layout K.laid x t p e (rw i at k) in (t, refl, has t a.0 a.1)

      pub left-has : b ≡ true → none ≡ left_fault types l node x
      unfolding left_fault
      left-has j = let a = found-default (last_type (declared node) x) refl found in unless-there (default types a.0) (no_default x) b a.2 j ∙ ap (left_type_fault types l node x) (sym a.1)

      pub left-lacks : b ≡ false → some (no_default x) ≡ left_fault types l node x
      unfolding left_fault
      left-lacks j = let a = found-default (last_type (declared node) x) refl found in unless-none (default types a.0) (no_default x) b a.2 j ∙ ap (left_type_fault types l node x) (sym a.1)

  -- ---- several left names, those before number i meeting nothing
  module _ (xs : List ℕ) (i : ℕ) (b : i < length xs) where
    pub lefts-stop : (f : Fault) → some f ≡ left_fault types l node (get_or xs i 0) → some f ≡ lefts_fault types l node (drop i xs)
    unfolding lefts_fault
    lefts-stop f h = rw (drop-cons xs i 0 b, sym h)

    pub lefts-next : none ≡ left_fault types l node (get_or xs i 0) → lefts_fault types l node (drop i xs) ≡ lefts_fault types l node (drop (i + 1) xs)
    unfolding lefts_fault
    lefts-next h = rw (drop-cons xs i 0 b, sym h, add-one i)

  pub lefts-end : (xs : List ℕ) (i : ℕ) → length xs ≤ i → none ≡ lefts_fault types l node (drop i xs)
  unfolding lefts_fault
  lefts-end xs i h = rw (drop_of_length-le xs h)

  -- ---- under the flag of a clock
  module _ (condact : ℕ) (xs : List ℕ) (n : ℕ) (many : n ≡ length xs) (m : Option Fault) (h : m ≡ lefts_fault types l node xs) where
    pub flagged-one : n ≡ 1 → (u : Shape) → m ≡ flagged_fault types l node condact xs u
    unfolding lefts_fault
    flagged-one i u = go xs (sym i ∙ many) h
      where
        go : (xs : List ℕ) → 1 ≡ length xs → m ≡ lefts_fault types l node xs → m ≡ flagged_fault types l node condact xs u
        go [] e k = absurd (omega arith)
        go (x ∷ []) e k = k ∙ or-none (left_fault types l node x)
        go (x ∷ y ∷ xs) e k = absurd (omega arith)

    pub flagged-several : (n ≡ 1 → ⊥) → (u : Shape) (v : code.Option ℕ) → v ≡ called_by u → (f : ℕ) → v ≡ Some f → (f ≡ condact → ⊥) → m ≡ flagged_fault types l node condact xs u
    flagged-several z u v c f i o = go xs z many h
      where
        called : (xs : List ℕ) → m ≡ lefts_fault types l node xs → m ≡ several_fault types l node condact xs u
        called xs k = by u (sym i ∙ c)
          where
            by : (u : Shape) → Some f ≡ called_by u → m ≡ several_fault types l node condact xs u
            by bare e = absurd cc
            by other e = absurd cc
            by (calls g) e = let j : f ≡ g = cc in rw (ne_eqb g condact (λ y. o (j ∙ y))) k

        go : (xs : List ℕ) → (n ≡ 1 → ⊥) → n ≡ length xs → m ≡ lefts_fault types l node xs → m ≡ flagged_fault types l node condact xs u
        go [] z e k = called [] k
        go (x ∷ []) z e k = absurd (z e)
        go (x ∷ y ∷ xs) z e k = called (x ∷ y ∷ xs) k

-- what a `?` passes on
pub fails : {A : Type 0} (r : Result A value.Fault) (t : value.Fault) → IsErr r × IsErrAnd r (λ y. y ≡ t) → r ≡ Err t
fails r t e = let p = err_from_is_err_and r e.1 in p.1 ∙ ap Err p.2

-- what an option gave that a `?` reads, with this fault where it gave nothing
module _ {A : Type 0} (o : code.Option A) (f : value.Fault) (r : Result A value.Fault) (h : r ≡ ok_or o f) where
  pub given : (a : A) → r ≡ Ok a → o ≡ Some a
  given a i = go o (sym h ∙ i)
    where
      go : (o : code.Option A) → ok_or o f ≡ Ok a → o ≡ Some a
      go None e = cc
      go (Some b) e = cc

  pub not-given : (g : value.Fault) → r ≡ Err g → (o ≡ None) × (g ≡ f)
  not-given g i = go o (sym h ∙ i)
    where
      go : (o : code.Option A) → ok_or o f ≡ Err g → (o ≡ None) × (g ≡ f)
      go None e = (refl, cc)
      go (Some b) e = (cc, cc)

-- where there is a first: docs/PORT.md names this
pub first-met : (a b : Result Unit value.Fault) → (a ≡ Ok tt → ⊥) → told_of a ≡ or_else (told_of a) (told_of b)
first-met (Ok u) b h = absurd (h refl)
first-met (Err f) b h = refl
