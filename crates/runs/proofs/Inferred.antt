-- What inference leaves: each equation is on its natural clock, or base; what every pass keeps; every clock is made of names that the
-- node reads, ports are on base, other names with a clock are left names.
use mathlib.Core.Path.{◌≡◌, refl, sym, ap, ap₂, ◌∙◌, subst, subst⁻¹}
use mathlib.Core.Bool.{Bool, true, false, ◌||◌, true≢false, false≢true}
use mathlib.Core.List.Memᴰ
use mathlib.Core.List.{List, [], ◌∷◌, map, Memᴰ}
use mathlib.Core.Option.{Option, none, some, some-injective, none-ne-some}
use Prim.Native.Nat.{ℕ, zero, suc}
use lib.Dec.{eqb, ltb}
use lib.ListN.{length}
use Rattle.std.proofs.lemmas.Bool.{eqb-true, or_parts}
use Rattle.definitions.specs.declared.Condition.{Condition}
use Rattle.definitions.specs.Lists.{choose, any, among, join, numbered}
use Rattle.definitions.specs.Tree.{Expr, Exprs, Equation, Node}
use Rattle.definitions.specs.Clock.{Clock, base, ◌↓◌, depth, deepest}
use Rattle.definitions.specs.InferClocks.{deep, formed, Clocks, clock_of, Natural, natural, naturals, ◌or◌, condition_over, parent_of, ports, is_port, has_clock, Pass, give, give_natural, pass, Inferred, passes_from, inferred, Clocked, or_base, clocked_by, Clocking, clocking, check_equation, is_too_deep}
use Rattle.shapes.proofs.Formed.{not-deep, formed-eq, formed-after, node-checks}
use Rattle.shapes.proofs.Facts.{eqb-sym}
use Rattle.runs.proofs.Parts.{Each, Eachs}
use Rattle.runs.proofs.Growth.{OfClock, Reads}

-- an equation is on its natural clock, or base
abbrev pub OnNatural : Clocks → Clocked → Type 0
OnNatural clocks e = (o : Option Clock) × (natural clocks e.equation.right ≡ formed o) × (e.clock ≡ or_base o)

-- a list of equations with their clocks: the same equations, each on its natural clock
pub record OnNaturals (clocks : Clocks) (es : List Equation) (cs : List Clocked) : Type 0 where
  pub same : map (λ e. e.equation) cs ≡ es
  pub each : (e : Clocked) → Memᴰ e cs → OnNatural clocks e
  pub from : (e : Clocked) → Memᴰ e cs → Memᴰ e.equation es
  pub to : (e : Equation) → Memᴰ e es → (c : Clocked) × Memᴰ c cs × (c.equation ≡ e)

pub on-naturals : (clocks : Clocks) (es : List Equation) (cs : List Clocked) → clocked_by clocks es ≡ formed cs → OnNaturals clocks es cs
unfolding clocked_by
on-naturals clocks [] cs q =
    subst (OnNaturals clocks []) (formed-eq [] cs q) (record { same = refl; each = λ e m. absurd (Memᴰ.not-nil m); from = λ e m. absurd (Memᴰ.not-nil m); to = λ e m. absurd (Memᴰ.not-nil m) })
on-naturals clocks (e ∷ es) cs q =
    let a = formed-after (natural clocks e.right) _ cs q in
    let b = formed-after (clocked_by clocks es) _ cs a.2 in
    let first : Clocked = record { clock = or_base a.0; equation = e } in
    subst (OnNaturals clocks (e ∷ es)) (formed-eq (first ∷ b.0) cs b.2) (both first (a.0, a.1, refl) refl b.0 (on-naturals clocks es b.0 b.1))
  where
    both : (first : Clocked) → OnNatural clocks first → first.equation ≡ e → (rest : List Clocked) → OnNaturals clocks es rest → OnNaturals clocks (e ∷ es) (first ∷ rest)
    both first o p rest r = record { same = ap₂ {C = List Equation} (λ x xs. x ∷ xs) p r.same; each = each; from = from; to = to }
      where
        each : (d : Clocked) → Memᴰ d (first ∷ rest) → OnNatural clocks d
        each d (Memᴰ.head z) = subst⁻¹ (OnNatural clocks) z o
        each d (Memᴰ.tail m) = r.each d m

        from : (d : Clocked) → Memᴰ d (first ∷ rest) → Memᴰ d.equation (e ∷ es)
        from d (Memᴰ.head z) = Memᴰ.head (ap (λ (c : Clocked). c.equation) z ∙ p)
        from d (Memᴰ.tail m) = Memᴰ.tail (r.from d m)

        to : (d : Equation) → Memᴰ d (e ∷ es) → (c : Clocked) × Memᴰ c (first ∷ rest) × (c.equation ≡ d)
        to d (Memᴰ.head z) = (first, Memᴰ.head refl, p ∙ sym z)
        to d (Memᴰ.tail m) = let t = r.to d m in (t.0, Memᴰ.tail t.1, t.2)

-- what `clocking` says when it forms
pub record Clockings (n : Node) (k : Clocking) : Type 0 where
  pub inference : inferred n ≡ formed (record { passes = k.passes; clocks = k.names })
  pub equations : OnNaturals k.names n.equations k.equations
  pub findings : k.findings ≡ join (numbered (check_equation n k.names) 0 k.equations)
  pub shallow : any is_too_deep k.findings ≡ false

pub clocked : (n : Node) (k : Clocking) → clocking n ≡ formed k → Clockings n k
clocked n k q =
    let c = node-checks n k q in
    record { inference = c.inference; equations = on-naturals k.names n.equations k.equations c.equations; findings = c.findings; shallow = c.shallow }

-- P of a natural clock, where there is one
abbrev pub AllN : (Clock → Type 0) → Natural → Type 0
AllN P o = (m : Clock) → o ≡ formed (some m) → P m

pub none-n : (P : Clock → Type 0) → AllN P (formed none)
none-n P m e = absurd (none-ne-some m (formed-eq none (some m) e))

pub some-n : (P : Clock → Type 0) (o : Option Clock) → ((m : Clock) → o ≡ some m → P m) → AllN P (formed o)
some-n P o h m e = h m (formed-eq o (some m) e)

pub or-n : (P : Clock → Type 0) (a b : Natural) → AllN P a → AllN P b → AllN P (a or b)
or-n P deep b h g = h
or-n P (formed none) b h g = g
or-n P (formed (some c)) b h g = h

pub over-n : (P Q : Clock → Type 0) (k : Condition) → ((c : Clock) → P c → Q (c ↓ k)) → (a : Natural) → AllN P a → AllN Q (condition_over k a)
over-n P Q k w deep h m e = not-deep (some m) e
over-n P Q k w (formed none) h m e = none-n Q m e
over-n P Q k w (formed (some c)) h m e = go (ltb (depth c) deepest) m e
  where
    go : (u : Bool) → AllN Q (choose u (formed (some (c ↓ k))) deep)
    go true m e = subst Q (some-injective (c ↓ k) m (formed-eq (some (c ↓ k)) (some m) e)) (w c (h c refl))
    go false m e = not-deep (some m) e

pub parent-n : (P Q : Clock → Type 0) → ((c : Clock) (k : Condition) → P (c ↓ k) → Q c) → (a : Natural) → AllN P a → AllN Q (parent_of a)
parent-n P Q w deep h m e = not-deep (some m) e
parent-n P Q w (formed none) h m e = none-n Q m e
parent-n P Q w (formed (some base)) h m e = none-n Q m e
parent-n P Q w (formed (some (c ↓ k))) h m e = subst Q (some-injective c m (formed-eq (some c) (some m) e)) (w c k (h (c ↓ k) refl))

pub base-n : (P : Clock → Type 0) → P base → AllN P (formed (some base))
base-n P p m e = subst P (some-injective base m (formed-eq (some base) (some m) e)) p

-- P of an equation's clock, if it holds of base and of the right side's natural clock
pub equation-n : (P : Clock → Type 0) (clocks : Clocks) (e : Clocked) → OnNatural clocks e → P base → AllN P (natural clocks e.equation.right) → P e.clock
equation-n P clocks e (o, q, p) b h = subst⁻¹ P p (go o q)
  where
    go : (o : Option Clock) → natural clocks e.equation.right ≡ formed o → P (or_base o)
    go none q = b
    go (some c) q = h c q

-- a name's clock put before others
abbrev pub put : ℕ → Clock → Clocks → Clocks
put x c cl = record { name = x; clock = c } ∷ cl

-- what inference keeps: I of the clocks so far, Q of clocks that are still to come to the end; G of a clock that an equation gives
module _ (n : Node) (I Q : Clocks → Type 0) (G : Equation → Clock → Type 0)
    (down : (x : ℕ) (c : Clock) (cl : Clocks) → Q (put x c cl) → Q cl)
    (fact : (e : Equation) → Memᴰ e n.equations → (cl : Clocks) (c : Clock) → natural cl e.right ≡ formed (some c) → Q cl → I cl → G e c)
    (more : (e : Equation) → Memᴰ e n.equations → (c : Clock) → G e c → (x : ℕ) → Memᴰ x e.left → is_port n x ≡ false → (cl : Clocks) → I cl → I (put x c cl))
  where
    abbrev Kept : Clocks → Clocks → Type 0
    Kept a b = Q b → Q a × (I a → I b)

    kept_trans : (a b c : Clocks) → Kept a b → Kept b c → Kept a c
    kept_trans a b c p q h = let r = q h in let s = p r.0 in (s.0, λ i. r.1 (s.1 i))

    -- a pass in which x was put on clock c
    abbrev changed_by : ℕ → Clock → Pass → Pass
    changed_by x c p = record { changed = true; clocks = put x c p.clocks }

    give_kept : (e : Equation) → Memᴰ e n.equations → (c : Clock) → G e c → (xs : List ℕ) → ((x : ℕ) → Memᴰ x xs → Memᴰ x e.left) → (p : Pass) → Kept p.clocks (give n c xs p).clocks
    unfolding give
    give_kept e m c g [] h p = λ q. (q, λ i. i)
    give_kept e m c g (x ∷ xs) h p = go (is_port n x || has_clock p.clocks x c) refl (λ p'. give_kept e m c g xs (λ y j. h y (Memᴰ.tail j)) p')
      where
        go : (u : Bool) → (is_port n x || has_clock p.clocks x c) ≡ u → ((p' : Pass) → Kept p'.clocks (give n c xs p').clocks) → Kept p.clocks (give n c xs (choose u p (changed_by x c p))).clocks
        go true q ih = ih p
        go false q ih = kept_trans p.clocks (put x c p.clocks) (give n c xs (changed_by x c p)).clocks
            (λ h₁. (down x c p.clocks h₁, λ i. more e m c g x (h x (Memᴰ.head refl)) (or_parts (is_port n x) (has_clock p.clocks x c) q).0 p.clocks i)) (ih (changed_by x c p))

    -- Q comes back through what is given, whatever the clock
    give-down : (c : Clock) (xs : List ℕ) (p : Pass) → Q (give n c xs p).clocks → Q p.clocks
    unfolding give
    give-down c [] p q = q
    give-down c (x ∷ xs) p q = go (is_port n x || has_clock p.clocks x c) (give-down c xs _ q)
      where
        go : (u : Bool) → Q (choose u p (changed_by x c p)).clocks → Q p.clocks
        go true h = h
        go false h = down x c p.clocks h

    natural-kept : (d : Equation) → Memᴰ d n.equations → (p : Pass) (o : Option Clock) → natural p.clocks d.right ≡ formed o → (r : Clocks)
        → Kept (give_natural n o d.left p).clocks r → Kept p.clocks r
    natural-kept d m p none q r ih = ih
    natural-kept d m p (some c) q r ih = λ b.
        let s = ih b in
        let a : Q p.clocks = give-down c d.left p s.0 in
        (a, λ i. s.1 ((give_kept d m c (fact d m p.clocks c q a i) d.left (λ x j. j) p s.0).1 i))

    pass_kept : (ds : List Equation) → ((e : Equation) → Memᴰ e ds → Memᴰ e n.equations) → (p p' : Pass) → pass n ds p ≡ formed p' → Kept p.clocks p'.clocks
    unfolding pass
    pass_kept [] h p p' e = subst (λ (z : Pass). Kept p.clocks z.clocks) (formed-eq p p' e) (λ q. (q, λ i. i))
    pass_kept (d ∷ ds) h p p' f =
        let a = formed-after (natural p.clocks d.right) _ p' f in
        natural-kept d (h d (Memᴰ.head refl)) p a.0 a.1 p'.clocks (pass_kept ds (λ e m. h e (Memᴰ.tail m)) (give_natural n a.0 d.left p) p' a.2)

    passes_kept : (k made : ℕ) (cl : Clocks) (r : Inferred) → passes_from n k made cl ≡ formed r → Kept cl r.clocks
    unfolding passes_from
    passes_kept zero made cl r e = subst (λ (z : Inferred). Kept cl z.clocks) (formed-eq _ r e) (λ q. (q, λ i. i))
    passes_kept (suc k) made cl r f =
        let a = formed-after (pass n n.equations (record { changed = false; clocks = cl })) _ r f in
        go a.0 a.0.changed (λ cl₁. passes_kept k (suc made) cl₁ r) (pass_kept n.equations (λ d m. m) (record { changed = false; clocks = cl }) a.0 a.1) a.2
      where
        go : (p : Pass) (u : Bool) → ((cl₁ : Clocks) → passes_from n k (suc made) cl₁ ≡ formed r → Kept cl₁ r.clocks) → Kept cl p.clocks
            → choose u (passes_from n k (suc made) p.clocks) (formed (record { passes = suc made; clocks = p.clocks })) ≡ formed r → Kept cl r.clocks
        go p true ih h e = kept_trans cl p.clocks r.clocks h (ih p.clocks e)
        go p false ih h e = subst (λ (z : Inferred). Kept cl z.clocks) (formed-eq (record { passes = suc made; clocks = p.clocks }) r e) h

    pub inferred-kept : (r : Inferred) → inferred n ≡ formed r → I (map (λ x. record { name = x; clock = base }) (ports n)) → Q r.clocks → I r.clocks
    unfolding inferred
    inferred-kept r e i q = (passes_kept (suc (length n.equations)) 0 (map (λ x. record { name = x; clock = base }) (ports n)) r e q).1 i

-- the clocks at the start: ports on base
abbrev pub on_base : List ℕ → Clocks
on_base xs = map (λ x. record { name = x; clock = base }) xs

start_has : (xs : List ℕ) (x : ℕ) → among x xs ≡ true → clock_of (on_base xs) x ≡ some base
unfolding clock_of
start_has [] x h = absurd (false≢true h)
start_has (y ∷ xs) x h = rw (eqb-sym y x) (go (eqb x y) h (λ q. start_has xs x q))
  where
    go : (u : Bool) → (u || among x xs) ≡ true → (among x xs ≡ true → clock_of (on_base xs) x ≡ some base) → choose u (some base) (clock_of (on_base xs) x) ≡ some base
    go true q ih = refl
    go false q ih = ih q

pub start-only : (xs : List ℕ) (x : ℕ) (m : Clock) → clock_of (on_base xs) x ≡ some m → (m ≡ base) × (among x xs ≡ true)
unfolding clock_of
start-only [] x m e = absurd (none-ne-some m e)
start-only (y ∷ xs) x m e = go (eqb x y) (rw (eqb-sym y x) at e) (λ q. start-only xs x m q)
  where
    go : (u : Bool) → choose u (some base) (clock_of (on_base xs) x) ≡ some m → (clock_of (on_base xs) x ≡ some m → (m ≡ base) × (among x xs ≡ true)) → (m ≡ base) × ((u || among x xs) ≡ true)
    go true q ih = (sym (some-injective base m q), refl)
    go false q ih = ih q

-- every name's clock is made of names in P; ports are on base; another name with a clock is a left name
module _ (P : ℕ → Type 0) (n : Node) where
  pub record Placed (cl : Clocks) : Type 0 where
    pub named : (x : ℕ) (m : Clock) → clock_of cl x ≡ some m → OfClock P m
    pub based : (x : ℕ) → is_port n x ≡ true → clock_of cl x ≡ some base
    pub others : (x : ℕ) (m : Clock) → clock_of cl x ≡ some m → is_port n x ≡ false → (e : Equation) × Memᴰ e n.equations × Memᴰ x e.left

  module _ (cl : Clocks) (named : (x : ℕ) (m : Clock) → clock_of cl x ≡ some m → OfClock P m) where
    mutual
      unfolding natural Each

      pub natural-named : (e : Expr) → Each (Reads P) e → AllN (OfClock P) (natural cl e)
      natural-named (Expr.const l w) o = none-n (OfClock P)
      natural-named (Expr.var x) o = some-n (OfClock P) (clock_of cl x) (named x)
      natural-named (Expr.op h es) o = naturals-named es o.1
      natural-named (Expr.pre e) o = natural-named e o
      natural-named (Expr.arrow a b) o = or-n (OfClock P) (natural cl a) (natural cl b) (natural-named a o.0) (natural-named b o.1)
      natural-named (Expr.call f es) o = naturals-named es o.1
      natural-named (Expr.when k e) o = over-n (OfClock P) (OfClock P) _ (λ c q. (o.0, q)) _
          (or-n (OfClock P) (natural cl e or formed (clock_of cl k.name)) (formed (some base)) (or-n (OfClock P) (natural cl e) (formed (clock_of cl k.name)) (natural-named e o.1) (some-n (OfClock P) (clock_of cl k.name) (named k.name))) (base-n (OfClock P) tt))
      natural-named (Expr.merge x a b) o = or-n (OfClock P) (formed (clock_of cl x) or parent_of (natural cl a)) (parent_of (natural cl b))
          (or-n (OfClock P) (formed (clock_of cl x)) (parent_of (natural cl a)) (some-n (OfClock P) (clock_of cl x) (named x)) (parent-n (OfClock P) (OfClock P) (λ c k q. q.1) (natural cl a) (natural-named a o.1)))
          (parent-n (OfClock P) (OfClock P) (λ c k q. q.1) (natural cl b) (natural-named b o.2))

      naturals-named : (es : Exprs) → Eachs (Reads P) es → AllN (OfClock P) (naturals cl es)
      naturals-named Exprs.end o = none-n (OfClock P)
      naturals-named (Exprs.and e es) o = or-n (OfClock P) (natural cl e) (naturals cl es) (natural-named e o.0) (naturals-named es o.1)

    pub equation-named : (e : Clocked) → OnNatural cl e → Each (Reads P) e.equation.right → OfClock P e.clock
    equation-named e q o = equation-n (OfClock P) cl e q tt (natural-named e.equation.right o)

  placed-put : (e : Equation) → Memᴰ e n.equations → (c : Clock) → OfClock P c → (x : ℕ) → Memᴰ x e.left → is_port n x ≡ false → (cl : Clocks) → Placed cl → Placed (put x c cl)
  unfolding clock_of
  placed-put e m c o x j p cl v = record { named = λ y d. a y d (eqb x y); based = λ y h. b y h (eqb x y) refl; others = λ y d q h. f y d h (eqb x y) refl q }
    where
      a : (y : ℕ) (d : Clock) (u : Bool) → choose u (some c) (clock_of cl y) ≡ some d → OfClock P d
      a y d true q = subst (OfClock P) (some-injective c d q) o
      a y d false q = v.named y d q

      b : (y : ℕ) → is_port n y ≡ true → (u : Bool) → eqb x y ≡ u → choose u (some c) (clock_of cl y) ≡ some base
      b y h true q = absurd (true≢false (sym h ∙ (ap (is_port n) (sym (eqb-true x y q)) ∙ p)))
      b y h false q = v.based y h

      f : (y : ℕ) (d : Clock) → is_port n y ≡ false → (u : Bool) → eqb x y ≡ u → choose u (some c) (clock_of cl y) ≡ some d → (e : Equation) × Memᴰ e n.equations × Memᴰ y e.left
      f y d h true q r = (e, m, subst (λ (z : ℕ). Memᴰ z e.left) (eqb-true x y q) j)
      f y d h false q r = v.others y d r h

  pub placed : (k : Clocking) → Clockings n k → ((e : Equation) → Memᴰ e n.equations → Each (Reads P) e.right) → Placed k.names
  placed k d reads-P = inferred-kept n Placed (λ cl. Unit {0}) (λ e c. OfClock P c) (λ x c cl q. tt)
      (λ e m cl c q t v. natural-named cl v.named e.right (reads-P e m) c q) placed-put (record { passes = k.passes; clocks = k.names }) d.inference start tt
    where
      start : Placed (on_base (ports n))
      start = record {
        named = λ x m e. subst⁻¹ (OfClock P) (start-only (ports n) x m e).0 tt;
        based = λ x h. start_has (ports n) x h;
        others = λ x m e h. absurd (true≢false (sym (start-only (ports n) x m e).1 ∙ h));
      }
