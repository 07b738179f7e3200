-- Clocks that are added to clocks: which are there then, and what holds of each.
use mathlib.Core.Path.{◌≡◌, refl, sym, ap, ◌∙◌, subst}
use mathlib.Core.Bool.{Bool, true, false, ◌||◌, true≢false, false≢true}
use mathlib.Core.List.{List, [], ◌∷◌, ◌++◌, Memᴰ}
use mathlib.Core.Logic.{◌⊎◌, inl, inr}
use Prim.Native.Nat.{suc, ◌≤◌}
use native.Mathlib.Omega.{arith}
use lib.ListN.{length, length-append}
use Rattle.std.proofs.Math.Bool.{or-true}
use Rattle.definitions.specs.Lists.{choose, any}
use Rattle.definitions.specs.Clock.{Clock, base, ◌↓◌, same_clock, is_base}
use Rattle.definitions.specs.Declock.{clock_place, add, add_with_parents}
use Rattle.shapes.proofs.Facts.{All, all_nil, all_cons, all_app, clock-eq, clock-self, any-app, Goes, goes_self, goes-trans}

-- is a clock among clocks?
abbrev pub has : Clock → List Clock → Bool
has c cs = any (same_clock c) cs

-- adding clocks
pub goes_add : (c : Clock) (cs : List Clock) → Goes cs (add c cs)
goes_add c cs = go (has c cs)
  where
    go : (u : Bool) → Goes cs (choose u cs (cs ++ (c ∷ [])))
    go true = goes_self cs
    go false = (c ∷ [], refl)

pub goes-parents : (c : Clock) (cs : List Clock) → Goes cs (add_with_parents c cs)
unfolding add_with_parents
goes-parents base cs = goes_self cs
goes-parents (c ↓ k) cs = goes-trans cs (add_with_parents c cs) (add (c ↓ k) (add_with_parents c cs)) (goes-parents c cs) (goes_add (c ↓ k) (add_with_parents c cs))

pub has-goes : (c : Clock) (l m : List Clock) → Goes l m → has c l ≡ true → has c m ≡ true
has-goes c l m g h = ap (has c) (sym g.1) ∙ (any-app (same_clock c) l g.0 ∙ ap (λ (u : Bool). u || has c g.0) h)

pub has-add : (c : Clock) (cs : List Clock) → has c (add c cs) ≡ true
has-add c cs = go (has c cs) refl
  where
    go : (u : Bool) → has c cs ≡ u → has c (choose u cs (cs ++ (c ∷ []))) ≡ true
    go true e = e
    go false e = any-app (same_clock c) cs (c ∷ []) ∙ (ap (λ (u : Bool). has c cs || u) (ap (λ (u : Bool). u || false) (clock-self c)) ∙ or-true (has c cs))

pub has-parents : (c : Clock) (cs : List Clock) → is_base c ≡ false → has c (add_with_parents c cs) ≡ true
unfolding add_with_parents
has-parents base cs e = absurd (true≢false e)
has-parents (c ↓ k) cs e = has-add (c ↓ k) (add_with_parents c cs)

-- what is there after adding was there or was added
pub add-cases : (c d : Clock) (cs : List Clock) → has d (add c cs) ≡ true → (has d cs ≡ true) ⊎ (d ≡ c)
add-cases c d cs = go (has c cs)
  where
    last : (u v : Bool) → has d cs ≡ u → same_clock d c ≡ v → (u || (v || false)) ≡ true → (has d cs ≡ true) ⊎ (d ≡ c)
    last true v e f h = inl e
    last false true e f h = inr (clock-eq d c f)
    last false false e f h = absurd (false≢true h)

    go : (u : Bool) → has d (choose u cs (cs ++ (c ∷ []))) ≡ true → (has d cs ≡ true) ⊎ (d ≡ c)
    go true h = inl h
    go false h = last (has d cs) (same_clock d c) refl refl (sym (any-app (same_clock d) cs (c ∷ [])) ∙ h)

-- a clock's place stays where clocks are added
pub place-goes : (c : Clock) (l m : List Clock) → has c l ≡ true → Goes l m → clock_place c l ≡ clock_place c m
place-goes c l m h g = go l h ∙ ap (clock_place c) g.1
  where
    at : (d : Clock) (l : List Clock) → (u : Bool) → (u || has c l) ≡ true → (has c l ≡ true → clock_place c l ≡ clock_place c (l ++ g.0)) → choose u 0 (suc (clock_place c l)) ≡ choose u 0 (suc (clock_place c (l ++ g.0)))
    at d l true h ih = refl
    at d l false h ih = ap suc (ih h)

    go : (l : List Clock) → has c l ≡ true → clock_place c l ≡ clock_place c (l ++ g.0)
    go [] h = absurd (false≢true h)
    go (d ∷ l) h = at d l (same_clock c d) h (go l)

-- there are no fewer
pub length-add : (c : Clock) (cs : List Clock) → length cs ≤ length (add c cs)
length-add c cs = go (has c cs)
  where
    go : (u : Bool) → length cs ≤ length (choose u cs (cs ++ (c ∷ [])))
    go true = omega arith
    go false = omega (arith, length-append cs (c ∷ []))

pub member-has : (c : Clock) (cs : List Clock) → Memᴰ c cs → has c cs ≡ true
member-has c cs (Memᴰ.head {x = d} {xs = r} q) = ap (λ (u : Bool). u || has c r) (subst (λ (z : Clock). same_clock c z ≡ true) q (clock-self c))
member-has c cs (Memᴰ.tail {x = d} {xs = r} i) = ap (λ (u : Bool). same_clock c d || u) (member-has c r i) ∙ or-true (same_clock c d)

-- P of each clock, where one is added that meets it
pub add-all : (P : Clock → Type 0) (c : Clock) (cs : List Clock) → P c → All P cs → All P (add c cs)
add-all P c cs h k = go (any (same_clock c) cs)
  where
    go : (u : Bool) → All P (choose u cs (cs ++ (c ∷ [])))
    go true = k
    go false = all_app P cs (c ∷ []) k (all_cons P c [] h (all_nil P))
