-- No two of the output's names have the same letters: a name present is not added.
use mathlib.Core.Path.{◌≡◌, refl, sym, ap, ◌∙◌}
use mathlib.Core.Bool.{Bool, true, false, true≢false}
use mathlib.Core.List.{List, [], ◌∷◌, ◌++◌, map}
use Prim.Native.Nat.{ℕ, zero, suc, ◌+◌, ◌<◌}
use native.Mathlib.Omega.{arith}
use native.Mathlib.Decide.{ℕ_discrete}
use lib.ListN.{length, get_or, length-append, get_or-append}
use lib.Seq.{get_or-append-add}
use Rattle.std.proofs.lemmas.Bool.{or_parts}
use Rattle.definitions.specs.Lists.{choose, any, Letters, same_letters, bytes}
use Rattle.definitions.specs.Tree.{Equation, Node, Sheet}
use Rattle.definitions.specs.InferClocks.{uses_clocks}
use Rattle.definitions.specs.Declock.{State, Rewritten, stopped, done, new_locals}
use Rattle.definitions.specs.Output.{add_name, add_names, letters_of, new_letters, ClockedNode, rewritten, with_names_of, with_new_names, output_names, names_out}
use Rattle.runs.proofs.Names.{letters-self}

abbrev pub AllApart : List Letters → Type 0
AllApart names = (x y : ℕ) → x < length names → y < length names → letters_of names x ≡ letters_of names y → x ≡ y

-- what is not among names stands nowhere
absent : (l : Letters) (names : List Letters) → any (same_letters l) names ≡ false → (x : ℕ) → x < length names → get_or names x [] ≡ l → ⊥
absent l [] h x i e = absurd (omega arith)
absent l (n ∷ names) h zero i e = true≢false (sym (letters-self l) ∙ (ap (same_letters l) (sym e) ∙ (or_parts (same_letters l n) (any (same_letters l) names) h).0))
absent l (n ∷ names) h (suc x) i e = absent l names (or_parts (same_letters l n) (any (same_letters l) names) h).1 x (omega arith) e

apart-add : (names : List Letters) (l : Letters) → AllApart names → AllApart (add_name names l)
apart-add names l h = go (any (same_letters l) names) refl
  where
    last : get_or (names ++ (l ∷ [])) (length names) [] ≡ l
    last = ap (λ (z : ℕ). get_or (names ++ (l ∷ [])) z []) zeroed ∙ get_or-append-add names (l ∷ []) 0 []
      where
        zeroed : length names ≡ length names + 0
        zeroed = omega arith

    added : any (same_letters l) names ≡ false → AllApart (names ++ (l ∷ []))
    added f x y i j e =
        let i' : x < length names + 1 = simp length-append at i in
        let j' : y < length names + 1 = simp length-append at j in
        cases (ℕ_discrete x (length names)) (ℕ_discrete y (length names)) i' j'
      where
        old : (z : ℕ) → z < length names → get_or (names ++ (l ∷ [])) z [] ≡ get_or names z []
        old z k = get_or-append names (l ∷ []) [] z k

        here : (z : ℕ) → z ≡ length names → get_or (names ++ (l ∷ [])) z [] ≡ l
        here z q = ap (λ (w : ℕ). get_or (names ++ (l ∷ [])) w []) q ∙ last

        cases : Dec (x ≡ length names) → Dec (y ≡ length names) → x < length names + 1 → y < length names + 1 → x ≡ y
        cases (yes p) (yes q) i j = p ∙ sym q
        cases (yes p) (no q) i j = absurd (absent l names f y (omega arith) (sym (old y (omega arith)) ∙ (sym e ∙ here x p)))
        cases (no p) (yes q) i j = absurd (absent l names f x (omega arith) (sym (old x (omega arith)) ∙ (e ∙ here y q)))
        cases (no p) (no q) i j = h x y (omega arith) (omega arith) (sym (old x (omega arith)) ∙ (e ∙ old y (omega arith)))

    go : (u : Bool) → any (same_letters l) names ≡ u → AllApart (choose u names (names ++ (l ∷ [])))
    go true e = h
    go false e = added e

apart-adds : (names ls : List Letters) → AllApart names → AllApart (add_names names ls)
apart-adds names [] h = h
apart-adds names (l ∷ ls) h = apart-adds (add_name names l) ls (apart-add names l h)

module _ (names : List Letters) (sheet : Sheet) where
  apart_of : (all : List Letters) (n : Node) (s : State) → AllApart all → AllApart (with_names_of names sheet all n s)
  unfolding new_letters new_locals bytes
  apart_of all n s h =
      let ls : List Letters = map (λ l. new_letters names n l.stem l.number) (new_locals (letters_of names) (λ stem j. 0) s) in
      more (add_names all ls) s.condact (apart-adds all ls h)
    where
      more : (a : List Letters) (u : Bool) → AllApart a → AllApart (choose u (add_name a (bytes "condact")) a)
      more a true g = apart-add a (bytes "condact") g
      more a false g = g

  apart-with : (all : List Letters) (n : ClockedNode) → AllApart all → AllApart (with_new_names names sheet all n)
  unfolding with_new_names
  apart-with all n h = go (uses_clocks n.node) (rewritten names sheet names n)
    where
      go : (u : Bool) (r : Rewritten (List Equation)) → AllApart (choose u (elim r as (λ x. List Letters) [ stopped f ↦ all | done es s ↦ with_names_of names sheet all n.node s ]) all)
      go false r = h
      go true (stopped f) = h
      go true (done es s) = apart_of all n.node s h

  apart-output : (all : List Letters) (ns : List ClockedNode) → AllApart all → AllApart (output_names names sheet all ns)
  unfolding output_names
  apart-output all [] h = h
  apart-output all (n ∷ ns) h = apart-output (with_new_names names sheet all n) ns (apart-with all n h)

  pub apart_out : (ns : List ClockedNode) → AllApart names → AllApart (names_out names sheet ns)
  unfolding names_out
  apart_out ns h = apart-output names ns h
