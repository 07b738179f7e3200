-- A node that needs too many flags, first-tick flags or holds adds too many names. Assumes nothing.
use Prim.Native.Nat.{ℕ, zero, suc, ◌+◌, ◌≤◌, ◌<◌}
use mathlib.Core.Path.{◌≡◌, refl, sym, ap, ◌∙◌, subst}
use mathlib.Core.Bool.{Bool, true, false, ◌||◌, false≢true}
use mathlib.Core.List.{List, [], ◌∷◌, ◌++◌, map, Memᴰ}
use mathlib.Core.Logic.{inl, inr}
use native.Mathlib.Omega.{arith}
use lib.ListN.{length, get_or}
use Rattle.definitions.specs.Lists.{choose, any, up_from, Letters, same_letters, bytes}
use Rattle.definitions.specs.Tree.{Node}
use Rattle.definitions.specs.Clock.{Clock, base, ◌↓◌, in_chain_order}
use Rattle.definitions.specs.Declock.{Stem, ck, first, hold, clock_place, declared}
use Rattle.definitions.specs.Output.{add_name, add_names, letters_of, new_letters}
use Rattle.shapes.specs.Shape.{All}
use Rattle.shapes.proofs.ClockNames.{NamedClock}
use Rattle.runs.proofs.Growth.{OfClock}
use Rattle.runs.proofs.Order.{order-in}
use Rattle.shapes.proofs.Facts.{letters-eq}
use Rattle.runs.proofs.Names.{Apart, letters-self}
use Rattle.clock_tables.proofs.Distinct.{Distinct}
use Rattle.stateless.specs.Need.{Needs}
use Rattle.stateless.specs.Rewritten.{new_names, names_by}
use Rattle.new_names.specs.Many.{TooMany}
use Rattle.new_names.proofs.Pigeons.{pigeons}
use Rattle.new_names.proofs.Numbers.{new-once}
use Rattle.new_names.proofs.Named.{NamedNeeds}

-- ---- a name among names
module _ {A : Type 0} (p : A → Bool) where
  pub any-front : (a b : List A) → any p a ≡ true → any p (a ++ b) ≡ true
  any-front [] b h = absurd (false≢true h)
  any-front (x ∷ a) b h = go (p x) h (any-front a b)
    where
      go : (t : Bool) → (t || any p a) ≡ true → (any p a ≡ true → any p (a ++ b) ≡ true) → (t || any p (a ++ b)) ≡ true
      go true h f = refl
      go false h f = f h

  pub any-back : (a b : List A) → any p b ≡ true → any p (a ++ b) ≡ true
  any-back [] b h = h
  any-back (x ∷ a) b h = go (p x) (any-back a b h)
    where
      go : (t : Bool) → any p (a ++ b) ≡ true → (t || any p (a ++ b)) ≡ true
      go true f = refl
      go false f = f

any-self : (x : Letters) (l : List Letters) → any (same_letters x) (x ∷ l) ≡ true
any-self x l = ap (λ (t : Bool). t || any (same_letters x) l) (letters-self x)

module _ (x : Letters) where
  stays : (all : List Letters) (n : Letters) → any (same_letters x) all ≡ true → any (same_letters x) (add_name all n) ≡ true
  stays all n h = go (any (same_letters n) all)
    where
      go : (t : Bool) → any (same_letters x) (choose t all (all ++ (n ∷ []))) ≡ true
      go true = h
      go false = any-front (same_letters x) all (n ∷ []) h

  all_stay : (all ns : List Letters) → any (same_letters x) all ≡ true → any (same_letters x) (add_names all ns) ≡ true
  all_stay all [] h = h
  all_stay all (n ∷ ns) h = all_stay (add_name all n) ns (stays all n h)

  pub comes : (all : List Letters) → any (same_letters x) (add_name all x) ≡ true
  comes all = go (any (same_letters x) all) refl
    where
      go : (t : Bool) → any (same_letters x) all ≡ t → any (same_letters x) (choose t all (all ++ (x ∷ []))) ≡ true
      go true e = e
      go false e = any-back (same_letters x) all (x ∷ []) (any-self x [])

  all_come : (all ns : List Letters) → any (same_letters x) ns ≡ true → any (same_letters x) (add_names all ns) ≡ true
  all_come all [] h = absurd (false≢true h)
  all_come all (n ∷ ns) h = go (same_letters x n) refl h (all_come (add_name all n) ns)
    where
      go : (t : Bool) → same_letters x n ≡ t → (t || any (same_letters x) ns) ≡ true → (any (same_letters x) ns ≡ true → any (same_letters x) (add_names (add_name all n) ns) ≡ true) → any (same_letters x) (add_names (add_name all n) ns) ≡ true
      go true e q f = all_stay (add_name all n) ns (ap (λ (z : Letters). any (same_letters x) (add_name all z)) (sym (letters-eq x n e)) ∙ comes all)
      go false e q f = f q

-- ---- the new names of a node
pub any-up : (f : ℕ → Letters) (k n i : ℕ) → i < n → any (same_letters (f (k + i))) (map f (up_from k n)) ≡ true
any-up f k zero i h = absurd (omega arith)
any-up f k (suc n) zero h = let e : k + 0 ≡ k = omega arith in
    subst (λ (z : ℕ). any (same_letters (f z)) (map f (up_from k (suc n))) ≡ true) (sym e) (any-self (f k) (map f (up_from (suc k) n)))
any-up f k (suc n) (suc i) h =
    let e : k + suc i ≡ suc k + i = omega arith in
    subst (λ (z : ℕ). any (same_letters (f z)) (map f (up_from k (suc n))) ≡ true) (sym e) (any-back (same_letters (f (suc k + i))) (f k ∷ []) (map f (up_from (suc k) n)) (any-up f (suc k) n i (omega arith)))

any-member : (g : Clock → Letters) (c : Clock) (cs : List Clock) → Memᴰ c cs → any (same_letters (g c)) (map g cs) ≡ true
any-member g c cs (Memᴰ.head {x = d} {xs = r} q) = subst (λ (z : Clock). any (same_letters (g z)) (map g (d ∷ r)) ≡ true) (sym q) (any-self (g d) (map g r))
any-member g c cs (Memᴰ.tail {x = d} {xs = r} m) = any-back (same_letters (g c)) (g d ∷ []) (map g r) (any-member g c r m)

member-at : (cs : List Clock) (j : ℕ) → j < length cs → Memᴰ (get_or cs j base) cs
member-at [] j h = absurd (omega arith)
member-at (c ∷ cs) zero h = Memᴰ.head refl
member-at (c ∷ cs) (suc j) h = Memᴰ.tail (member-at cs j (omega arith))

of-named : (N : ℕ) (c : Clock) → NamedClock N c → OfClock (λ x. x < N) c
of-named N base o = o
of-named N (c ↓ k) o = (o.0, of-named N c o.1)

module _ (names : List Letters) (node : Node) (w : Needs) where
  -- the name of the j-th clock is among those in chain order
  pub placed : (stem : Stem) (cs : List Clock) → Apart [] names → Distinct cs → All (NamedClock (length names)) cs → (j : ℕ) → j < length cs
      → any (same_letters (new_letters names node stem j)) (map (λ (c : Clock). new_letters names node stem (clock_place c cs)) (in_chain_order (letters_of names) cs)) ≡ true
  placed stem cs apart once named j h =
      let g : Clock → Letters = λ c. new_letters names node stem (clock_place c cs) in
      let c = get_or cs j base in
      let m = order-in (letters_of names) (λ x. x < length names) (λ x y p q e. apart.distinct x y p q e) c cs (λ d i. of-named (length names) d (named d i)) (member-at cs j h) in
      let e : g c ≡ new_letters names node stem j = ap (new_letters names node stem) (once j h) in
      rw e at (any-member g c (in_chain_order (letters_of names) cs) m)

  module _ (all : List Letters) where
    pub by-needs : (x : Letters) → any (same_letters x) (new_names names node w) ≡ true → any (same_letters x) (names_by names all node w) ≡ true
    by-needs x h = go w.condact
      where
        more : any (same_letters x) (add_names all (new_names names node w)) ≡ true
        more = all_come x all (new_names names node w) h

        go : (t : Bool) → any (same_letters x) (choose t (add_name (add_names all (new_names names node w)) (bytes "condact")) (add_names all (new_names names node w))) ≡ true
        go true = stays x (add_names all (new_names names node w)) (bytes "condact") more
        go false = more

    -- more than 1,024 new names of a stem are more than 1,024 names
    many : (stem : Stem) → length (declared node) ≤ 128 → ((j : ℕ) → j < 1025 → any (same_letters (new_letters names node stem j)) (new_names names node w) ≡ true) → 1024 < length (names_by names all node w)
    many stem few h =
        omega (arith, pigeons (new_letters names node stem) 1025 (names_by names all node w) (λ i j a b. new-once names node few stem i j (omega arith) (omega arith)) (λ j a. by-needs (new_letters names node stem j) (h j a)))

    -- THE LAW
    pub too_many : length (declared node) ≤ 128 → Apart [] names → Distinct w.flags → Distinct w.firsts → NamedNeeds (length names) w → TooMany w → 1024 < length (names_by names all node w)
    unfolding new_names
    too_many few apart flags firsts named (inl h) =
        many ck few (λ j a. any-front (same_letters (new_letters names node ck j)) (map (λ (c : Clock). new_letters names node ck (clock_place c w.flags)) (in_chain_order (letters_of names) w.flags)) _
        (placed ck w.flags apart flags named.flags j (omega arith)))
    too_many few apart flags firsts named (inr (inl h)) =
        many first few (λ j a. any-back (same_letters (new_letters names node first j)) (map (λ (c : Clock). new_letters names node ck (clock_place c w.flags)) (in_chain_order (letters_of names) w.flags)) _
        (any-front (same_letters (new_letters names node first j)) (map (λ (c : Clock). new_letters names node first (clock_place c w.firsts)) (in_chain_order (letters_of names) w.firsts)) _
        (placed first w.firsts apart firsts named.firsts j (omega arith))))
    too_many few apart flags firsts named (inr (inr h)) =
        many hold few (λ j a. any-back (same_letters (new_letters names node hold j)) (map (λ (c : Clock). new_letters names node ck (clock_place c w.flags)) (in_chain_order (letters_of names) w.flags)) _
        (any-back (same_letters (new_letters names node hold j)) (map (λ (c : Clock). new_letters names node first (clock_place c w.firsts)) (in_chain_order (letters_of names) w.firsts)) _
        (held j (omega arith))))
      where
        held : (j : ℕ) → j < w.holds → any (same_letters (new_letters names node hold j)) (map (new_letters names node hold) (up_from 0 w.holds)) ≡ true
        held j b = let e : 0 + j ≡ j = omega arith in rw e at (any-up (new_letters names node hold) 0 w.holds j b)
