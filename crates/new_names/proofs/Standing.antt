-- The id of a new name in the table so far is its id among all the output's names; so a node can be written once its own names are there.
-- Assumes nothing.
use Prim.Native.Nat.{ℕ, suc, ◌+◌, ◌<◌}
use mathlib.Core.Path.{◌≡◌, refl, sym, ap, ◌∙◌, subst}
use mathlib.Core.Bool.{Bool, true, false, ◌||◌, false≢true}
use mathlib.Core.List.{List, [], ◌∷◌, ◌++◌, map}
use native.Mathlib.Omega.{arith}
use lib.ListN.{length}
use Rattle.definitions.specs.Lists.{choose, any, place_by, Letters, same_letters, bytes}
use Rattle.definitions.specs.Tree.{Node}
use Rattle.definitions.specs.Clock.{Clock, in_chain_order}
use Rattle.definitions.specs.Declock.{Stem, ck, first, hold, clock_place}
use Rattle.definitions.specs.Output.{id_of, condact_id, letters_of, new_letters, new_id, add_names}
use Rattle.shapes.proofs.Facts.{Goes}
use Rattle.runs.proofs.Names.{Apart}
use Rattle.clock_tables.proofs.Distinct.{Distinct}
use Rattle.stateless.specs.Need.{Needs}
use Rattle.stateless.specs.Yield.{Ids}
use Rattle.stateless.specs.Locals.{Agree}
use Rattle.stateless.specs.Rewritten.{new_names, names_by}
use Rattle.new_names.proofs.Added.{place-there}
use Rattle.new_names.proofs.Named.{NamedNeeds}
use Rattle.new_names.proofs.Many.{any-front, any-back, any-up, comes, placed, by-needs}

-- the first that passes a test stays the first, whatever follows
place-stays : {A : Type 0} (p : A → Bool) (l r : List A) → any p l ≡ true → place_by p (l ++ r) ≡ place_by p l
place-stays p [] r h = absurd (false≢true h)
place-stays p (a ∷ l) r h = go (p a) h (place-stays p l r)
  where
    go : (t : Bool) → (t || any p l) ≡ true → (any p l ≡ true → place_by p (l ++ r) ≡ place_by p l) → choose t 0 (suc (place_by p (l ++ r))) ≡ choose t 0 (suc (place_by p l))
    go true h f = refl
    go false h f = ap suc (f h)

pub id-stays : (l all : List Letters) (x : Letters) → Goes l all → any (same_letters x) l ≡ true → id_of all x ≡ id_of l x
id-stays l all x g h = subst (λ (z : List Letters). id_of z x ≡ id_of l x) g.1 (place-stays (same_letters x) l g.0 h)

module _ (names : List Letters) (node : Node) (w : Needs) (apart : Apart [] names) (flags : Distinct w.flags) (firsts : Distinct w.firsts) (named : NamedNeeds (length names) w) where
  -- the letters of a flag, of a first-tick flag and of a hold are among the node's new names
  flag-new : (j : ℕ) → j < length w.flags → any (same_letters (new_letters names node ck j)) (new_names names node w) ≡ true
  unfolding new_names
  flag-new j h = any-front (same_letters (new_letters names node ck j)) (map (λ (c : Clock). new_letters names node ck (clock_place c w.flags)) (in_chain_order (letters_of names) w.flags)) _ (placed names node w ck w.flags apart flags named.flags j h)

  first-new : (j : ℕ) → j < length w.firsts → any (same_letters (new_letters names node first j)) (new_names names node w) ≡ true
  unfolding new_names
  first-new j h =
      any-back (same_letters (new_letters names node first j)) (map (λ (c : Clock). new_letters names node ck (clock_place c w.flags)) (in_chain_order (letters_of names) w.flags)) _
      (any-front (same_letters (new_letters names node first j)) (map (λ (c : Clock). new_letters names node first (clock_place c w.firsts)) (in_chain_order (letters_of names) w.firsts)) _ (placed names node w first w.firsts apart firsts named.firsts j h))

  hold-new : (j : ℕ) → j < w.holds → any (same_letters (new_letters names node hold j)) (new_names names node w) ≡ true
  unfolding new_names
  hold-new j h =
      let e : 0 + j ≡ j = omega arith in
      any-back (same_letters (new_letters names node hold j)) (map (λ (c : Clock). new_letters names node ck (clock_place c w.flags)) (in_chain_order (letters_of names) w.flags)) _
      (any-back (same_letters (new_letters names node hold j)) (map (λ (c : Clock). new_letters names node first (clock_place c w.firsts)) (in_chain_order (letters_of names) w.firsts)) _ (rw e at (any-up (new_letters names node hold) 0 w.holds j h)))

  -- the names so far, with the node's own, begin all the output's
  module _ (before all : List Letters) (goes : Goes (names_by names before node w) all) where
    new-stays : (stem : Stem) (j : ℕ) → any (same_letters (new_letters names node stem j)) (new_names names node w) ≡ true → new_id names all node stem j ≡ new_id names (names_by names before node w) node stem j
    new-stays stem j h = id-stays (names_by names before node w) all (new_letters names node stem j) goes (by-needs names node w before (new_letters names node stem j) h)

    condact-there : w.condact ≡ true → any (same_letters (bytes "condact")) (names_by names before node w) ≡ true
    unfolding new_names
    condact-there e = rw e (comes (bytes "condact") (add_names before (new_names names node w)))

    pub condact-stays : w.condact ≡ true → condact_id all ≡ condact_id (names_by names before node w)
    condact-stays e = id-stays (names_by names before node w) all (bytes "condact") goes (condact-there e)

    -- THE LAW: ids by the names so far are ids by all names
    pub agree-stays : (ids : Ids) (k : ℕ) → ids.condact ≡ k → Agree w.flags w.firsts w.holds (new_id names (names_by names before node w) node) ids.condact ids → Agree w.flags w.firsts w.holds (new_id names all node) k ids
    agree-stays ids k e a =
        record {
          flags-agree = λ c h. a.flags-agree c h ∙ sym (new-stays ck (clock_place c w.flags) (flag-new (clock_place c w.flags) (place-there c w.flags h)));
          firsts-agree = λ c h. a.firsts-agree c h ∙ sym (new-stays first (clock_place c w.firsts) (first-new (clock_place c w.firsts) (place-there c w.firsts h)));
          holds_agree = λ j h. a.holds_agree j h ∙ sym (new-stays hold j (hold-new j h));
          condact-agrees = e;
        }
