-- An equation whose names are settled changes nothing, whatever the other equations of a pass do.
-- Assumes nothing.
use Prim.Native.Nat.{ℕ, ◌≤◌, ◌<◌}
use mathlib.Core.Path.{◌≡◌, refl, sym, ◌∙◌, ap, subst}
use mathlib.Core.List.{List, [], ◌∷◌}
use mathlib.Core.Bool.{Bool, true, false, ◌||◌}
use mathlib.Core.Option.{Option, none, some}
use native.Mathlib.Omega.{arith}
use lib.ListN.{length, set, length-set}
use lib.Seq.{get_or-set_same, get_or-set_other}
use borrow.Author.Tests.{ne_eqb}
use Rattle.definitions.specs.Lists.{choose}
use Rattle.definitions.specs.Tree.{Equation, Node}
use Rattle.definitions.specs.Clock.{Clock, same_clock}
use Rattle.definitions.specs.InferClocks.{Natural, formed, ◌>>=◌, Clocks, clock_of, Pass, natural, is_port, has_clock, give, give_natural}
use Rattle.inference.specs.Passes.{given, stepped}
use Rattle.inference.specs.Settled.{Unchanged, EachOf, Names, KeepsClocks, Idle, Calm, dated, dates, Moves}
use Rattle.inference.proofs.Naming.{names-map, Same, natural-same}

-- ---- what a change of clocks leaves as it was
pub moves-none : (present : ℕ) (since : List ℕ) (clocks : Clocks) → Moves present since since clocks clocks
moves-none present since clocks = record { same = λ x b l h. (h, refl) }

pub moves-then : (present : ℕ) (s s' s'' : List ℕ) (c c' c'' : Clocks) → Moves present s s' c c' → Moves present s' s'' c' c'' → Moves present s s'' c c''
moves-then present s s' s'' c c' c'' f g = record { same = λ x b l h. let u = g.same x b l h in let v = f.same x b l u.0 in (v.0, u.1 ∙ v.1) }

-- a name that is put down as changed in this pass is not settled
put-here : (present : ℕ) (s : List ℕ) (x b : ℕ) → b ≤ present → Unchanged (set s x present) b x → ⊥
put-here present s x b l h =
    let i : x < length s = omega (arith, h.inside, length-set s x present) in
    omega (arith, h.earlier, get_or-set_same s x present 0 i)

put-else : (present : ℕ) (s : List ℕ) (x y b : ℕ) → (y ≡ x → ⊥) → Unchanged (set s x present) b y → Unchanged s b y
put-else present s x y b n h = record { inside = omega (arith, h.inside, length-set s x present); earlier = omega (arith, h.earlier, get_or-set_other s x y present 0 n) }

clock-else : (clocks : Clocks) (x y : ℕ) (c : Clock) → (y ≡ x → ⊥) → clock_of (record { name = x; clock = c } ∷ clocks) y ≡ clock_of clocks y
unfolding clock_of
clock-else clocks x y c n = rw (ne_eqb x y (λ e. n (sym e)))

-- one name
module _ (n : Node) (c : Clock) (present x : ℕ) (p : Pass) (since : List ℕ) where
  pub moves-one : Moves present since (dated n c present x p since) p.clocks (given n c x p).clocks
  moves-one = go (is_port n x || has_clock p.clocks x c)
    where
      put : (y b : ℕ) → b ≤ present → Unchanged (set since x present) b y → Unchanged since b y × (clock_of (record { name = x; clock = c } ∷ p.clocks) y ≡ clock_of p.clocks y)
      put y b l h =
          let m : y ≡ x → ⊥ = λ e. put-here present since x b l (rw e at h) in
          (put-else present since x y b m h, clock-else p.clocks x y c m)

      go : (t : Bool) → Moves present since (choose t since (set since x present)) p.clocks (choose t p (record { changed = true; clocks = record { name = x; clock = c } ∷ p.clocks })).clocks
      go true = moves-none present since p.clocks
      go false = record { same = put }

-- several names
module _ (n : Node) (c : Clock) (present : ℕ) where
  pub moves-all : (xs : List ℕ) (p : Pass) (since : List ℕ) → Moves present since (dates n c present xs p since) p.clocks (give n c xs p).clocks
  unfolding dates give
  moves-all [] p since = moves-none present since p.clocks
  moves-all (x ∷ xs) p since = moves-then present since _ _ p.clocks _ _ (moves-one n c present x p since) (moves-all xs (given n c x p) (dated n c present x p since))

  -- a name has this clock, or takes none
  abbrev Kept : Clocks → ℕ → Type 0
  Kept clocks x = (is_port n x || has_clock clocks x c) ≡ true

  -- names that are settled then have kept their clocks
  pub kept-all : (xs : List ℕ) (p : Pass) (since : List ℕ) → EachOf (Unchanged (dates n c present xs p since) present) xs → EachOf (Kept p.clocks) xs × (give n c xs p ≡ p)
  unfolding EachOf dates give
  kept-all [] p since h = (tt, refl)
  kept-all (x ∷ xs) p since h = go (λ k. kept-all xs p since k) (is_port n x || has_clock p.clocks x c) refl
    where
      go : (EachOf (Unchanged (dates n c present xs p since) present) xs → EachOf (Kept p.clocks) xs × (give n c xs p ≡ p)) → (t : Bool) → (is_port n x || has_clock p.clocks x c) ≡ t → (Kept p.clocks x × EachOf (Kept p.clocks) xs) × (give n c xs (given n c x p) ≡ p)
      go rest true e =
          let i : given n c x p ≡ p = rw e in
          let j : dates n c present xs (given n c x p) (dated n c present x p since) ≡ dates n c present xs p since = rw e in
          let r = rest (subst (λ (s : List ℕ). EachOf (Unchanged s present) xs) j h.1) in
          ((e, r.0), rw i r.1)
      go rest false e =
          let j : dated n c present x p since ≡ set since x present = rw e in
          let m = ((moves-all xs (given n c x p) (dated n c present x p since)).same x present (omega arith) h.0).0 in
          absurd (put-here present since x present (omega arith) (rw j at m))

-- names that keep their clocks change nothing
give_kept : (n : Node) (c : Clock) (xs : List ℕ) (p : Pass) → EachOf (λ x. (is_port n x || has_clock p.clocks x c) ≡ true) xs → give n c xs p ≡ p
unfolding EachOf give
give_kept n c [] p h = refl
give_kept n c (x ∷ xs) p h = rw h.0 (give_kept n c xs p h.1)

-- ---- an equation that changes nothing
pub idle-step : (n : Node) (e : Equation) (p : Pass) → Idle n p.clocks e → stepped n e p ≡ formed p
idle-step n e p h = ap (λ (v : Natural). v >>= λ o. formed (give_natural n o e.left p)) h.found ∙ ap formed (go h.clock h.keeps)
  where
    go : (o : Option Clock) → KeepsClocks n p.clocks o e.left → give_natural n o e.left p ≡ p
    go none k = refl
    go (some c) k = give_kept n c e.left p k

-- it goes by the clocks of its names only
has_same : (clocks clocks' : Clocks) (x : ℕ) (c : Clock) → clock_of clocks' x ≡ clock_of clocks x → has_clock clocks' x c ≡ has_clock clocks x c
has_same clocks clocks' x c e = ap (λ (o : Option Clock). elim o [ none ↦ false | some d ↦ same_clock c d ]) e

module _ (n : Node) (clocks clocks' : Clocks) where
  all-kept : (c : Clock) (xs : List ℕ) → EachOf (Same clocks clocks') xs → EachOf (λ x. (is_port n x || has_clock clocks x c) ≡ true) xs → EachOf (λ x. (is_port n x || has_clock clocks' x c) ≡ true) xs
  unfolding EachOf
  all-kept c [] h k = tt
  all-kept c (x ∷ xs) h k = (ap (λ (b : Bool). is_port n x || b) (has_same clocks clocks' x c h.0) ∙ k.0, all-kept c xs h.1 k.1)

  keeps_same : (o : Option Clock) (xs : List ℕ) → EachOf (Same clocks clocks') xs → KeepsClocks n clocks o xs → KeepsClocks n clocks' o xs
  keeps_same none xs h k = tt
  keeps_same (some c) xs h k = all-kept c xs h k

  idle-same : (e : Equation) → Names (Same clocks clocks') e → Idle n clocks e → Idle n clocks' e
  idle-same e h i = record { clock = i.clock; found = natural-same clocks clocks' e.right h.right ∙ i.found; keeps = keeps_same i.clock e.left h.left i.keeps }

-- ---- calm equations
-- THE LAW: what another equation does in a pass leaves an equation calm
pub calm-still : (n : Node) (present : ℕ) (s s' : List ℕ) (c c' : Clocks) → Moves present s s' c c' → (b : ℕ) → b ≤ present → (e : Equation) → Calm n s b c e → Calm n s' b c' e
calm-still n present s s' c c' f b l e h = record {
  idle = λ z k. idle-same n c c' e (names-map _ _ (λ x u. (f.same x b l u).1) e k) (h.idle z (names-map _ _ (λ x u. (f.same x b l u).0) e k));
}

-- one that changed nothing is calm
pub calm-idle : (n : Node) (s : List ℕ) (b : ℕ) (c : Clocks) (e : Equation) → Idle n c e → Calm n s b c e
calm-idle n s b c e h = record { idle = λ z k. h }

-- one that was read
module _ (n : Node) (e : Equation) (p : Pass) (present : ℕ) (since : List ℕ) where
  pub calm_free : natural p.clocks e.right ≡ formed none → Calm n since present p.clocks e
  calm_free i = record { idle = λ z k. record { clock = none; found = i; keeps = tt } }

  pub calm-given : (c : Clock) → natural p.clocks e.right ≡ formed (some c) → Calm n (dates n c present e.left p since) present (give n c e.left p).clocks e
  calm-given c i = record {
    idle = λ z k.
        let r = kept-all n c present e.left p since k.left in
        rw r.1 (record { clock = some c; found = i; keeps = r.0 });
  }
