-- Names and ids: the output's names go on from the input's, names are distinct, and a new name begins with two underscores.
use mathlib.Core.Path.{◌≡◌, refl, sym, ap, ◌∙◌, subst}
use mathlib.Core.Bool.{Bool, true, false, not, ◌&&◌, true≢false}
use mathlib.Core.List.{List, [], ◌∷◌, ◌++◌}
use Prim.Native.Nat.{ℕ, zero, suc, ◌<◌, ◌≤◌}
use native.Mathlib.Omega.{arith}
use lib.Dec.{eqb}
use lib.ListN.{length, get_or, length-append, get_or-append}
use Rattle.std.proofs.lemmas.Bool.{or_parts, ne_eqb}
use Rattle.definitions.specs.Lists.{choose, any, Letters, same_letters, bytes}
use Rattle.definitions.specs.Tree.{Node}
use Rattle.definitions.specs.Bytes.{well_formed, bad_name}
use Rattle.definitions.specs.Declock.{Stem, ck, first, hold}
use Rattle.definitions.specs.Output.{id_of, condact_id, letters_of, new_letters, new_id, rewritten}
use Rattle.runs.specs.Plain.{underscored, is_condact}
use Rattle.shapes.proofs.Facts.{letters-eq}
use Rattle.runs.proofs.Facts.{eqb-self, Goes}

-- letters
pub letters-self : (k : Letters) → same_letters k k ≡ true
letters-self [] = refl
letters-self (a ∷ k) = rw (eqb-self a, same_letters) (letters-self k)

-- what stands at a name's place, if it has one
pub placed-letters : (names : List Letters) (l : Letters) → id_of names l < length names → get_or names (id_of names l) [] ≡ l
placed-letters [] l h = absurd (omega arith)
placed-letters (n ∷ names) l h = go (same_letters l n) refl h (λ q. placed-letters names l q)
  where
    go : (u : Bool) → same_letters l n ≡ u → choose u 0 (suc (id_of names l)) < suc (length names) → (id_of names l < length names → get_or names (id_of names l) [] ≡ l) → get_or (n ∷ names) (choose u 0 (suc (id_of names l))) [] ≡ l
    go true e q ih = sym (letters-eq l n e)
    go false e q ih = ih (omega arith)

-- names of which none is ill formed or repeats an earlier one are distinct
pub record Apart (before names : List Letters) : Type 0 where
  pub new : (i : ℕ) → i < length names → any (same_letters (get_or names i [])) before ≡ false
  pub distinct : (i j : ℕ) → i < length names → j < length names → get_or names i [] ≡ get_or names j [] → i ≡ j

pub names_apart : (before names : List Letters) → bad_name before names ≡ length names → Apart before names
unfolding bad_name
names_apart before [] e = record { new = λ i h. absurd (omega arith); distinct = λ i j h k q. absurd (omega arith) }
names_apart before (n ∷ names) e = go (well_formed n) (any (same_letters n) before) refl e (λ q. names_apart (n ∷ before) names q)
  where
    whole : any (same_letters n) before ≡ false → Apart (n ∷ before) names → Apart before (n ∷ names)
    whole f r = record { new = new; distinct = distinct }
      where
        new : (i : ℕ) → i < suc (length names) → any (same_letters (get_or (n ∷ names) i [])) before ≡ false
        new zero h = f
        new (suc i) h = (or_parts (same_letters (get_or names i []) n) (any (same_letters (get_or names i [])) before) (r.new i (omega arith))).1

        differ : (j : ℕ) → j < length names → get_or names j [] ≡ n → ⊥
        differ j h q = true≢false (sym (letters-self n) ∙ (ap (λ (z : Letters). same_letters z n) (sym q) ∙ (or_parts (same_letters (get_or names j []) n) (any (same_letters (get_or names j [])) before) (r.new j h)).0))

        distinct : (i j : ℕ) → i < suc (length names) → j < suc (length names) → get_or (n ∷ names) i [] ≡ get_or (n ∷ names) j [] → i ≡ j
        distinct zero zero h k q = refl
        distinct zero (suc j) h k q = absurd (differ j (omega arith) (sym q))
        distinct (suc i) zero h k q = absurd (differ i (omega arith) q)
        distinct (suc i) (suc j) h k q = ap suc (r.distinct i j (omega arith) (omega arith) q)

    go : (u v : Bool) → any (same_letters n) before ≡ v → choose (u && not v) (suc (bad_name (n ∷ before) names)) 0 ≡ suc (length names) → (bad_name (n ∷ before) names ≡ length names → Apart (n ∷ before) names) → Apart before (n ∷ names)
    go true false f q ih = whole f (ih (omega arith))
    go true true f q ih = absurd (omega arith)
    go false v f q ih = absurd (omega arith)

-- an id of the input means the same letters among the output's names
module _ (names all : List Letters) (g : Goes names all) where
  pub same-letters : (x : ℕ) → x < length names → get_or all x [] ≡ get_or names x []
  same-letters x h = ap (λ (z : List Letters). get_or z x []) (sym g.1) ∙ get_or-append names g.0 [] x h

  longer : length names ≤ length all
  longer = let q : length (names ++ g.0) ≡ length all = ap length g.1 in omega (arith, simp length-append at q)

  -- a name of the input that stands at the place of some letters has these letters
  placed-old : (x : ℕ) → x < length names → (l : Letters) → x ≡ id_of all l → get_or names x [] ≡ l
  placed-old x h l e =
      let m = longer in
      let b : id_of all l < length all = subst (λ (z : ℕ). z < length all) e (omega arith) in
      sym (same-letters x h) ∙ (ap (λ (z : ℕ). get_or all z []) e ∙ placed-letters all l b)

  new-underscored : (node : Node) (stem : Stem) (j : ℕ) → underscored (new_letters names node stem j) ≡ true
  unfolding new_letters
  new-underscored node ck j = refl
  new-underscored node first j = refl
  new-underscored node hold j = refl

  -- a name that does not begin with two underscores is no new name
  pub not_new : (node : Node) (x : ℕ) → x < length names → underscored (letters_of names x) ≡ false → (stem : Stem) (j : ℕ) → ¬ (x ≡ new_id names all node stem j)
  unfolding rewritten
  not_new node x h u stem j e = true≢false (sym (new-underscored node stem j) ∙ (ap underscored (sym (placed-old x h (new_letters names node stem j) e)) ∙ u))

  -- a name that is not `condact` has not its id
  pub not-condact : (f : ℕ) → f < length names → is_condact names f ≡ false → eqb f (condact_id all) ≡ false
  unfolding rewritten is_condact
  not-condact f h u = ne_eqb f (condact_id all) (λ e. true≢false (sym (letters-self (bytes "condact")) ∙ (ap (same_letters (bytes "condact")) (sym (placed-old f h (bytes "condact") e)) ∙ u)))
