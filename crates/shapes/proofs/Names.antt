-- The output's names go on from the input's: an id of the input keeps its letters.
use mathlib.Core.Path.{◌≡◌, refl, sym, ap, ◌∙◌}
use mathlib.Core.Bool.{Bool, true, false}
use mathlib.Core.List.{List, [], ◌∷◌, ◌++◌, map}
use Prim.Native.Nat.{ℕ, suc, ◌<◌, ◌≤◌}
use native.Mathlib.Omega.{arith}
use lib.ListN.{length, get_or, get_or-append}
use Rattle.definitions.specs.Lists.{choose, any, Letters, same_letters, bytes}
use Rattle.definitions.specs.Tree.{Equation, Node, Sheet}
use Rattle.definitions.specs.InferClocks.{uses_clocks}
use Rattle.definitions.specs.Declock.{State, Rewritten, stopped, done, new_locals}
use Rattle.definitions.specs.Output.{id_of, add_name, add_names, letters_of, new_letters, ClockedNode, rewritten, with_names_of, with_new_names, output_names, names_out}
use Rattle.shapes.proofs.Facts.{Goes, goes_self, goes-trans}

-- a name's id is at most the number of names
pub id_below : (names : List Letters) (l : Letters) → id_of names l ≤ length names
id_below [] l = omega arith
id_below (n ∷ names) l = go (same_letters l n) (id_below names l)
  where
    go : (u : Bool) → id_of names l ≤ length names → choose u 0 (suc (id_of names l)) ≤ suc (length names)
    go true h = omega arith
    go false h = omega arith

-- names that are added stand behind those that are there
goes-name : (names : List Letters) (l : Letters) → Goes names (add_name names l)
goes-name names l = go (any (same_letters l) names)
  where
    go : (u : Bool) → Goes names (choose u names (names ++ (l ∷ [])))
    go true = goes_self names
    go false = (l ∷ [], refl)

goes-names : (names ls : List Letters) → Goes names (add_names names ls)
goes-names names [] = goes_self names
goes-names names (l ∷ ls) = goes-trans names (add_name names l) (add_names (add_name names l) ls) (goes-name names l) (goes-names (add_name names l) ls)

module _ (names : List Letters) (sheet : Sheet) where
  goes_of : (all : List Letters) (n : Node) (s : State) → Goes all (with_names_of names sheet all n s)
  unfolding new_letters new_locals bytes
  goes_of all n s =
      let ls : List Letters = map (λ l. new_letters names n l.stem l.number) (new_locals (letters_of names) (λ stem j. 0) s) in
      more (add_names all ls) s.condact (goes-names all ls)
    where
      more : (a : List Letters) (u : Bool) → Goes all a → Goes all (choose u (add_name a (bytes "condact")) a)
      more a true g = goes-trans all a (add_name a (bytes "condact")) g (goes-name a (bytes "condact"))
      more a false g = g

  goes_with : (all : List Letters) (n : ClockedNode) → Goes all (with_new_names names sheet all n)
  unfolding with_new_names
  goes_with all n = go (uses_clocks n.node) (rewritten names sheet names n)
    where
      go : (u : Bool) (r : Rewritten (List Equation)) → Goes all (choose u (elim r as (λ x. List Letters) [ stopped f ↦ all | done es s ↦ with_names_of names sheet all n.node s ]) all)
      go false r = goes_self all
      go true (stopped f) = goes_self all
      go true (done es s) = goes_of all n.node s

  pub goes-output : (all : List Letters) (ns : List ClockedNode) → Goes all (output_names names sheet all ns)
  unfolding output_names
  goes-output all [] = goes_self all
  goes-output all (n ∷ ns) = goes-trans all (with_new_names names sheet all n) (output_names names sheet (with_new_names names sheet all n) ns) (goes_with all n) (goes-output (with_new_names names sheet all n) ns)

  pub goes-out : (ns : List ClockedNode) → Goes names (names_out names sheet ns)
  unfolding names_out
  goes-out ns = goes-output names ns

  -- an id of the input means the same letters among the output's names
  pub same_names : (ns : List ClockedNode) (x : ℕ) → x < length names → get_or (names_out names sheet ns) x [] ≡ get_or names x []
  same_names ns x h = let g = goes-out ns in ap (λ (z : List Letters). get_or z x []) (sym g.1) ∙ get_or-append names g.0 [] x h
