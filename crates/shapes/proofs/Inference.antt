-- What inference keeps of clocks: P of every clock, if P of base and of each equation's natural clock.
use mathlib.Core.Path.{refl}
use mathlib.Core.Bool.{Bool, true, false, ◌||◌}
use mathlib.Core.List.{List, [], ◌∷◌, map, Memᴰ}
use mathlib.Core.Option.{Option, none, some}
use Prim.Native.Nat.{ℕ, zero, suc}
use lib.Dec.{eqb}
use lib.ListN.{length}
use Rattle.definitions.specs.Lists.{choose}
use Rattle.definitions.specs.Tree.{Equation, Node}
use Rattle.definitions.specs.Clock.{Clock, base}
use Rattle.definitions.specs.InferClocks.{Formed, deep, formed, ◌>>=◌, Clocks, clock_of, natural, ports, is_port, has_clock, Pass, give, give_natural, pass, passes_from, inferred, Clocked, or_base, clocked_by}
use Rattle.shapes.proofs.Facts.{All, all_nil, all_cons}

-- Q of what is formed; D, if too deep a clock is
abbrev pub Forms : Type 0 → {A : Type 0} → (A → Type 0) → Formed A → Type 0
Forms D Q deep = D
Forms D Q (formed a) = Q a

pub forms-after : (D : Type 0) {A B : Type 0} (Q : A → Type 0) (R : B → Type 0) (a : Formed A) (f : A → Formed B) → Forms D Q a → ((x : A) → Q x → Forms D R (f x)) → Forms D R (a >>= f)
forms-after D Q R deep f h g = h
forms-after D Q R (formed x) f h g = g x h

-- P of a clock, where there is one
abbrev pub SomeClock : (Clock → Type 0) → Option Clock → Type 0
SomeClock P none = Unit {0}
SomeClock P (some c) = P c

-- P of the clocks of names
abbrev pub Known : (Clock → Type 0) → Clocks → Type 0
Known P cl = All (λ r. P r.clock) cl

pub clock_of-known : (P : Clock → Type 0) (cl : Clocks) → Known P cl → (x : ℕ) → SomeClock P (clock_of cl x)
unfolding clock_of
clock_of-known P [] h x = tt
clock_of-known P (r ∷ cl) h x = go (eqb r.name x) (clock_of-known P cl (λ y m. h y (Memᴰ.tail m)) x)
  where
    go : (u : Bool) → SomeClock P (clock_of cl x) → SomeClock P (choose u (some r.clock) (clock_of cl x))
    go true q = h r (Memᴰ.head refl)
    go false q = q

module _ (D : Type 0) (P : Clock → Type 0) (P-base : P base) (n : Node)
    (fact : (e : Equation) → Memᴰ e n.equations → (cl : Clocks) → Known P cl → Forms D (SomeClock P) (natural cl e.right)) where
  give-known : (c : Clock) → P c → (xs : List ℕ) (p : Pass) → Known P p.clocks → Known P (give n c xs p).clocks
  unfolding give
  give-known c h [] p k = k
  give-known c h (x ∷ xs) p k = give-known c h xs _ (go (is_port n x || has_clock p.clocks x c))
    where
      go : (u : Bool) → Known P (choose {A = Pass} u p (record { changed = true; clocks = record { name = x; clock = c } ∷ p.clocks })).clocks
      go true = k
      go false = all_cons (λ r. P r.clock) _ p.clocks h k

  natural-known : (o : Option Clock) → SomeClock P o → (xs : List ℕ) (p : Pass) → Known P p.clocks → Known P (give_natural n o xs p).clocks
  natural-known none h xs p k = k
  natural-known (some c) h xs p k = give-known c h xs p k

  pass-known : (es : List Equation) → All (λ e. Memᴰ e n.equations) es → (p : Pass) → Known P p.clocks → Forms D (λ q. Known P q.clocks) (pass n es p)
  unfolding pass
  pass-known [] i p k = k
  pass-known (e ∷ es) i p k = forms-after D (SomeClock P) (λ q. Known P q.clocks) (natural p.clocks e.right) _ (fact e (i e (Memᴰ.head refl)) p.clocks k)
      (λ o h. pass-known es (λ y m. i y (Memᴰ.tail m)) (give_natural n o e.left p) (natural-known o h e.left p k))

  passes-known : (k made : ℕ) (cl : Clocks) → Known P cl → Forms D (λ r. Known P r.clocks) (passes_from n k made cl)
  unfolding passes_from
  passes-known zero made cl h = h
  passes-known (suc k) made cl h = forms-after D (λ q. Known P q.clocks) (λ r. Known P r.clocks) (pass n n.equations (record { changed = false; clocks = cl })) _
      (pass-known n.equations (λ e m. m) (record { changed = false; clocks = cl }) h) (λ p q. go p q p.changed (passes-known k (suc made) p.clocks q))
    where
      go : (p : Pass) → Known P p.clocks → (u : Bool) → Forms D (λ r. Known P r.clocks) (passes_from n k (suc made) p.clocks)
          → Forms D (λ r. Known P r.clocks) (choose u (passes_from n k (suc made) p.clocks) (formed (record { passes = suc made; clocks = p.clocks })))
      go p q true ih = ih
      go p q false ih = q

  start-known : (xs : List ℕ) → Known P (map (λ x. record { name = x; clock = base }) xs)
  start-known [] = all_nil (λ r. P r.clock)
  start-known (x ∷ xs) = all_cons (λ r. P r.clock) _ _ P-base (start-known xs)

  pub inferred-known : Forms D (λ r. Known P r.clocks) (inferred n)
  unfolding inferred
  inferred-known = passes-known (suc (length n.equations)) 0 _ (start-known (ports n))

  -- an equation of the node, its clock in P
  abbrev pub KnownEquation : Clocked → Type 0
  KnownEquation e = P e.clock × Memᴰ e.equation n.equations

  or_base-known : (o : Option Clock) → SomeClock P o → P (or_base o)
  or_base-known none h = P-base
  or_base-known (some c) h = h

  clocked_by-from : (cl : Clocks) → Known P cl → (es : List Equation) → All (λ e. Memᴰ e n.equations) es → Forms D (All KnownEquation) (clocked_by cl es)
  unfolding clocked_by
  clocked_by-from cl k [] i = all_nil KnownEquation
  clocked_by-from cl k (e ∷ es) i = forms-after D (SomeClock P) (All KnownEquation) (natural cl e.right) _ (fact e (i e (Memᴰ.head refl)) cl k) (λ o h.
      forms-after D (All KnownEquation) (All KnownEquation) (clocked_by cl es) _ (clocked_by-from cl k es (λ y m. i y (Memᴰ.tail m)))
      (λ rest q. all_cons KnownEquation _ rest (or_base-known o h, i e (Memᴰ.head refl)) q))

  pub clocked_by-known : (cl : Clocks) → Known P cl → Forms D (All KnownEquation) (clocked_by cl n.equations)
  clocked_by-known cl k = clocked_by-from cl k n.equations (λ e m. m)
