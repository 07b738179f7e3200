-- In a node without faults each condition's name, if it has a clock, is on the condition's parent: shown by comparing every clock that
-- inference meets on its way with the final one.
use mathlib.Core.Path.{◌≡◌, refl, subst, subst⁻¹}
use mathlib.Core.Bool.{Bool, true, false}
use mathlib.Core.List.{Memᴰ}
use mathlib.Core.Option.{some, some-injective}
use Prim.Native.Nat.{ℕ}
use lib.Dec.{eqb}
use Rattle.std.proofs.lemmas.Bool.{eqb-true}
use Rattle.definitions.specs.Lists.{choose}
use Rattle.definitions.specs.Tree.{Expr, Exprs, Equation, Node}
use Rattle.definitions.specs.Clock.{Clock, base, ◌↓◌, parent, is_on, is_not}
use Rattle.definitions.specs.InferClocks.{Clocks, clock_of, formed, natural, naturals, ◌or◌, parent_of, ports, is_port, Clocked, Clocking}
use Rattle.runs.proofs.Checked.{Fits, OkName, Ok, Oks}
use Rattle.runs.proofs.Inferred.{Clockings, AllN, none-n, some-n, or-n, over-n, parent-n, base-n, equation-n, put, inferred-kept, start-only}

-- against the final clocks φ
module _ (φ : Clocks) where
  -- each condition's name, if it has a clock, is on the condition's parent
  abbrev pub Good : Clock → Type 0
  Good base = Unit {0}
  Good (c ↓ k) = Fits φ k.name c × Good c

  -- where an earlier clock and a final one coincide, the final one is good
  abbrev Common : Clock → Clock → Type 0
  Common base d = Unit {0}
  Common (c ↓ k) base = Unit {0}
  Common (c ↓ k) (d ↓ l) = (c ↓ k ≡ d ↓ l → Fits φ l.name d) × Common c d

  common-good : (c : Clock) → Common c c → Good c
  common-good base h = tt
  common-good (c ↓ k) h = (h.0 refl, common-good c h.1)

  abbrev Sound : Clocks → Type 0
  Sound cl = (x : ℕ) (m d : Clock) → clock_of cl x ≡ some m → clock_of φ x ≡ some d → Common m d

  -- a name that has a clock now has one at the end
  abbrev Earlier : Clocks → Type 0
  Earlier cl = (x : ℕ) (m : Clock) → clock_of cl x ≡ some m → (d : Clock) × (clock_of φ x ≡ some d)

  earlier-down : (x : ℕ) (c : Clock) (cl : Clocks) → Earlier (put x c cl) → Earlier cl
  unfolding clock_of
  earlier-down x c cl h y m q = go (eqb x y) refl
    where
      go : (u : Bool) → eqb x y ≡ u → (d : Clock) × (clock_of φ y ≡ some d)
      go true e = h y c (rw e)
      go false e = h y m (rw e q)

  module _ (Callable : ℕ → Type 0) (cl : Clocks) (sound : Sound cl) (earlier : Earlier cl) where
    name-common : (x : ℕ) (c : Clock) → OkName φ Callable (λ y. Unit {0}) x c → AllN (λ m. Common m c) (formed (clock_of cl x))
    name-common x c o = some-n (λ m. Common m c) (clock_of cl x) (λ m e. let r = earlier x m e in subst (λ (z : Clock). Common m z) (o.1 r.0 r.1) (sound x m r.0 e r.1))

    mutual
      unfolding natural Ok

      natural-common : (e : Expr) (c : Clock) → Ok φ Callable (λ x. Unit {0}) e c → AllN (λ m. Common m c) (natural cl e)
      natural-common (Expr.const l w) c o = none-n (λ m. Common m c)
      natural-common (Expr.var x) c o = name-common x c o
      natural-common (Expr.op h es) c o = naturals-common es c o
      natural-common (Expr.pre e) c o = natural-common e c o
      natural-common (Expr.arrow a b) c o = or-n (λ m. Common m c) (natural cl a) (natural cl b) (natural-common a c o.0) (natural-common b c o.1)
      natural-common (Expr.call f es) c o = naturals-common es c o.1
      natural-common (Expr.when k e) c o =
          let P : Clock → Type 0 = λ m. Common m (parent c) in
          over-n P (λ m. Common m c) _ (λ p q. whole p (λ z. o.1.1) q o.0) _
          (or-n P (natural cl e or formed (clock_of cl k.name)) (formed (some base)) (or-n P (natural cl e) (formed (clock_of cl k.name)) (natural-common e (parent c) o.2) (name-common k.name (parent c) o.1)) (base-n P tt))
        where
          whole : (p : Clock) → (p ↓ k ≡ parent c ↓ k → Fits φ k.name (parent c)) → Common p (parent c) → c ≡ parent c ↓ k → Common (p ↓ k) c
          whole p f q e = subst⁻¹ (λ (z : Clock). Common (p ↓ k) z) e (f, q)
      natural-common (Expr.merge x a b) c o =
          let P : Clock → Type 0 = λ m. Common m c in
          or-n P (formed (clock_of cl x) or parent_of (natural cl a)) (parent_of (natural cl b))
          (or-n P (formed (clock_of cl x)) (parent_of (natural cl a)) (name-common x c o.0) (parent-n (λ m. Common m (c ↓ is_on x)) P (λ m k q. q.1) (natural cl a) (natural-common a (c ↓ is_on x) o.1)))
          (parent-n (λ m. Common m (c ↓ is_not x)) P (λ m k q. q.1) (natural cl b) (natural-common b (c ↓ is_not x) o.2))

      naturals-common : (es : Exprs) (c : Clock) → Oks φ Callable (λ x. Unit {0}) es c → AllN (λ m. Common m c) (naturals cl es)
      naturals-common Exprs.end c o = none-n (λ m. Common m c)
      naturals-common (Exprs.and e es) c o = or-n (λ m. Common m c) (natural cl e) (naturals cl es) (natural-common e c o.0) (naturals-common es c o.1)

-- every clock of a node without faults is good
module _ (Callable : ℕ → Type 0) (n : Node) (k : Clocking) (d : Clockings n k)
    (okay : (e : Clocked) → Memᴰ e k.equations → Ok k.names Callable (λ x. Unit {0}) e.equation.right e.clock)
    (left : (e : Clocked) → Memᴰ e k.equations → (x : ℕ) → Memᴰ x e.equation.left → Fits k.names x e.clock)
  where
    abbrev φ : Clocks
    φ = k.names

    -- a clock that an equation gives, against the equation's final clock
    abbrev Given : Equation → Clock → Type 0
    Given e c = (f : Clocked) × Memᴰ f k.equations × (f.equation ≡ e) × Common φ c f.clock

    sound-put : (e : Equation) → Memᴰ e n.equations → (c : Clock) → Given e c → (x : ℕ) → Memᴰ x e.left → is_port n x ≡ false → (cl : Clocks) → Sound φ cl → Sound φ (put x c cl)
    unfolding clock_of
    sound-put e m c g x j p cl s y i f q h = go (eqb x y) refl q
      where
        fit : Fits φ x g.0.clock
        fit = left g.0 g.1 x (subst⁻¹ (λ (z : Equation). Memᴰ x z.left) g.2 j)

        go : (u : Bool) → eqb x y ≡ u → choose u (some c) (clock_of cl y) ≡ some i → Common φ i f
        go true r z = subst (λ (w : Clock). Common φ w f) (some-injective c i z) (subst⁻¹ (λ (w : Clock). Common φ c w) (fit f (subst⁻¹ (λ (w : ℕ). clock_of φ w ≡ some f) (eqb-true x y r) h)) g.3)
        go false r z = s y i f z h

    -- the clock that a right side gives
    given : (e : Equation) → Memᴰ e n.equations → (cl : Clocks) (c : Clock) → natural cl e.right ≡ formed (some c) → Earlier φ cl → Sound φ cl → Given e c
    given e m cl c q r s =
        let f = d.equations.to e m in
        (f.0, f.1, f.2, natural-common φ Callable cl s r f.0.equation.right f.0.clock (okay f.0 f.1) c (subst⁻¹ (λ (z : Equation). natural cl z.right ≡ formed (some c)) f.2 q))

    sound : Sound φ φ
    sound = inferred-kept n (Sound φ) (Earlier φ) Given (earlier-down φ) given sound-put (record { passes = k.passes; clocks = k.names }) d.inference
        (λ x m f e h. subst⁻¹ (λ (w : Clock). Common φ w f) (start-only (ports n) x m e).0 tt) (λ x m e. (m, e))

    -- an equation's clock is good
    pub equation-good : (e : Clocked) → Memᴰ e k.equations → Good φ e.clock
    equation-good e m =
        let o = d.equations.each e m in
        common-good φ e.clock (equation-n (λ c. Common φ c e.clock) φ e o tt (natural-common φ Callable φ sound (λ x m h. (m, h)) e.equation.right e.clock (okay e m)))
