-- What checking leaves of a node without faults: names where their clock is, whens where they fit.
use mathlib.Core.Path.{◌≡◌, refl, sym, ap, ◌∙◌, subst⁻¹}
use mathlib.Core.Bool.{Bool, true, false, true≢false, false≢true}
use mathlib.Core.List.{List, [], ◌∷◌, ◌++◌, cons≢nil, Memᴰ}
use mathlib.Core.Option.{Option, none, some, some-injective, none-ne-some}
use Prim.Native.Nat.{ℕ, suc}
use lib.Dec.{ltb}
use Rattle.definitions.specs.declared.Condition.{Condition}
use Rattle.definitions.specs.Lists.{choose, any, join, numbered}
use Rattle.definitions.specs.Tree.{Expr, Exprs, Node}
use Rattle.definitions.specs.Clock.{Clock, base, ◌↓◌, parent, depth, deepest, is_on, is_not, same_clock, ends_in}
use Rattle.definitions.specs.InferClocks.{Clocks, clock_of, Fault, Finding, found, site, too_deep, one_down, must_be_on, check, checks, check_left, is_port, Clocked, check_equation, is_too_deep, clock_faults}
use Rattle.runs.specs.Plain.{Part, reads, callee, computes}
use Rattle.runs.proofs.Facts.{clock-eq, condition-eq}
use Rattle.runs.proofs.Parts.{Each, Eachs}

-- findings without a fault and without too deep a clock
abbrev pub Clean : List Finding → Type 0
Clean [] = Unit {0}
Clean (found f ∷ l) = ⊥
Clean (site c ∷ l) = Clean l
Clean (too_deep ∷ l) = ⊥

pub clean_of : (l : List Finding) → clock_faults l ≡ [] → any is_too_deep l ≡ false → Clean l
unfolding clock_faults
clean_of [] f d = tt
clean_of (found g ∷ l) f d = cons≢nil f
clean_of (site c ∷ l) f d = clean_of l f d
clean_of (too_deep ∷ l) f d = true≢false d

pub clean-left : (a b : List Finding) → Clean (a ++ b) → Clean a
clean-left [] b h = tt
clean-left (found f ∷ a) b h = h
clean-left (site c ∷ a) b h = clean-left a b h
clean-left (too_deep ∷ a) b h = h

pub clean-right : (a b : List Finding) → Clean (a ++ b) → Clean b
clean-right [] b h = h
clean-right (found f ∷ a) b h = absurd h
clean-right (site c ∷ a) b h = clean-right a b h
clean-right (too_deep ∷ a) b h = absurd h

-- a name that is on clock c, if it has a clock
module _ (clocks : Clocks) where
  abbrev pub Fits : ℕ → Clock → Type 0
  Fits x c = (d : Clock) → clock_of clocks x ≡ some d → d ≡ c

  pub fits : (i : ℕ) (c : Clock) (x : ℕ) (f : Clock → Fault) → Clean (must_be_on clocks i c x f) → Fits x c
  unfolding must_be_on
  fits i c x f h = go (clock_of clocks x) h
    where
      or_fault : Clock → Bool → List Finding
      or_fault d u = choose u [] (found (record { equation = i; fault = f d }) ∷ [])

      same : (d : Clock) (u : Bool) → same_clock d c ≡ u → Clean (or_fault d u) → d ≡ c
      same d true e h = clock-eq d c e
      same d false e h = absurd h

      go : (o : Option Clock) → Clean (elim o as (λ x. List Finding) [ none ↦ [] | some d ↦ or_fault d (same_clock d c) ]) → (d : Clock) → o ≡ some d → d ≡ c
      go none h d e = absurd (none-ne-some d e)
      go (some m) h d e = sym (some-injective m d e) ∙ same m (same_clock m c) refl h

ends-eq : (k : Condition) (c : Clock) → ends_in k c ≡ true → c ≡ parent c ↓ k
ends-eq k base e = absurd (false≢true e)
ends-eq k (c ↓ l) e = ap (λ (z : Condition). c ↓ z) (sym (condition-eq k l e))

clean-down : (c : Clock) (k : Condition) (f : Clock → List Finding) → Clean (one_down c k f) → Clean (f (c ↓ k))
clean-down c k f = go (ltb (depth c) deepest)
  where
    go : (u : Bool) → Clean (elim u as (λ x. List Finding) [ true ↦ f (c ↓ k) | false ↦ too_deep ∷ [] ]) → Clean (f (c ↓ k))
    go true h = h
    go false h = absurd h

-- an expression as checking leaves it on clock c; `Old` holds of the names that it reads, `Callable` of those that it calls
module _ (clocks : Clocks) (Callable Old : ℕ → Type 0) where
  abbrev pub OkName : ℕ → Clock → Type 0
  OkName x c = Old x × Fits clocks x c

  unfoldable mutual
    pub Ok : Expr → Clock → Type 0
    Ok (Expr.const l w) c = Unit {0}
    Ok (Expr.var x) c = OkName x c
    Ok (Expr.op h es) c = Oks es c
    Ok (Expr.pre e) c = Ok e c
    Ok (Expr.arrow a b) c = Ok a c × Ok b c
    Ok (Expr.call f es) c = Callable f × Oks es c
    Ok (Expr.when k e) c = (c ≡ parent c ↓ k) × OkName k.name (parent c) × Ok e (parent c)
    Ok (Expr.merge x a b) c = OkName x c × Ok a (c ↓ is_on x) × Ok b (c ↓ is_not x)

    pub Oks : Exprs → Clock → Type 0
    Oks Exprs.end c = Unit {0}
    Oks (Exprs.and e es) c = Ok e c × Oks es c

  -- what is asked of the parts
  abbrev pub OldParts : Part → Type 0
  OldParts (reads x) = Old x
  OldParts (callee f) = Callable f
  OldParts (computes h) = Unit {0}

  when-ok : (i : ℕ) (c : Clock) (k : Condition) (e : Expr) (r : List Finding)
      → Clean (elim (ends_in k c) as (λ x. List Finding) [
        | true ↦ must_be_on clocks i (parent c) k.name (λ d. Fault.clock_name_elsewhere k.name d (parent c)) ++ check clocks i (parent c) e
        | false ↦ found (record { equation = i; fault = Fault.when_elsewhere k c }) ∷ r
      ])
      → (c ≡ parent c ↓ k) × Fits clocks k.name (parent c) × Clean (check clocks i (parent c) e)
  when-ok i c k e r = go (ends_in k c) refl
    where
      m : List Finding
      m = must_be_on clocks i (parent c) k.name (λ d. Fault.clock_name_elsewhere k.name d (parent c))

      go : (u : Bool) → ends_in k c ≡ u → Clean (elim u as (λ x. List Finding) [ true ↦ m ++ check clocks i (parent c) e | false ↦ found (record { equation = i; fault = Fault.when_elsewhere k c }) ∷ r ])
          → (c ≡ parent c ↓ k) × Fits clocks k.name (parent c) × Clean (check clocks i (parent c) e)
      go true q h = (ends-eq k c q, fits clocks i (parent c) k.name _ (clean-left m (check clocks i (parent c) e) h), clean-right m (check clocks i (parent c) e) h)
      go false q h = absurd h

  module _ (i : ℕ) where
    mutual
      unfolding check Each Ok

      pub check-ok : (e : Expr) (c : Clock) → Clean (check clocks i c e) → Each OldParts e → Ok e c
      check-ok (Expr.const l w) c h o = tt
      check-ok (Expr.var x) c h o = (o, fits clocks i c x _ h)
      check-ok (Expr.op g es) c h o = checks-ok es c h o.1
      check-ok (Expr.pre e) c h o = check-ok e c h o
      check-ok (Expr.arrow a b) c h o = (check-ok a c (clean-left (check clocks i c a) (check clocks i c b) h) o.0, check-ok b c (clean-right (check clocks i c a) (check clocks i c b) h) o.1)
      check-ok (Expr.call f es) c h o = (o.0, checks-ok es c h o.1)
      check-ok (Expr.when k e) c h o =
          let w = when-ok i c k e _ h in
          (w.0, (o.0, w.1), check-ok e (parent c) w.2 o.1)
      check-ok (Expr.merge x a b) c h o =
          let m : List Finding = must_be_on clocks i c x (λ d. Fault.clock_name_elsewhere x d c) in
          let ca : List Finding = one_down c (is_on x) (λ d. check clocks i d a) in
          let cb : List Finding = one_down c (is_not x) (λ d. check clocks i d b) in
          let h₁ : Clean (ca ++ cb) = clean-right m (ca ++ cb) h in (
            (o.0, fits clocks i c x _ (clean-left m (ca ++ cb) h)),
            check-ok a (c ↓ is_on x) (clean-down c _ (λ d. check clocks i d a) (clean-left ca cb h₁)) o.1,
            check-ok b (c ↓ is_not x) (clean-down c _ (λ d. check clocks i d b) (clean-right ca cb h₁)) o.2,
          )

      pub checks-ok : (es : Exprs) (c : Clock) → Clean (checks clocks i c es) → Eachs OldParts es → Oks es c
      checks-ok Exprs.end c h o = tt
      checks-ok (Exprs.and e es) c h o = (check-ok e c (clean-left (check clocks i c e) (checks clocks i c es) h) o.0, checks-ok es c (clean-right (check clocks i c e) (checks clocks i c es) h) o.1)

-- the left names of an equation on clock c
pub lefts-ok : (clocks : Clocks) (i : ℕ) (n : Node) (c : Clock) (x : ℕ) (xs : List ℕ) → Clean (check_left clocks i n c xs) → Memᴰ x xs → Fits clocks x c
unfolding check_left
lefts-ok clocks i n c x xs h (Memᴰ.head {x = y} {xs = ys} e) = rw e (fits clocks i c y _ (clean-left (must_be_on clocks i c y (λ d. Fault.left_elsewhere y d c (is_port n y))) (check_left clocks i n c ys) h))
lefts-ok clocks i n c x xs h (Memᴰ.tail {x = y} {xs = ys} m) = lefts-ok clocks i n c x ys (clean-right (must_be_on clocks i c y (λ d. Fault.left_elsewhere y d c (is_port n y))) (check_left clocks i n c ys) h) m

-- an equation is clean, left names and right side
pub record CleanEquation (n : Node) (clocks : Clocks) (e : Clocked) : Type 0 where
  pub place : ℕ
  pub left : Clean (check_left clocks place n e.clock e.equation.left)
  pub right : Clean (check clocks place e.clock e.equation.right)

pub clean-equations : (n : Node) (clocks : Clocks) (e : Clocked) (i : ℕ) (es : List Clocked) → Clean (join (numbered (check_equation n clocks) i es)) → Memᴰ e es → CleanEquation n clocks e
unfolding check_equation
clean-equations n clocks e i es h (Memᴰ.head {x = d} {xs = ds} q) =
    let one = clean-left (check_equation n clocks i d) (join (numbered (check_equation n clocks) (suc i) ds)) h in
    let l = check_left clocks i n d.clock d.equation.left in
    let r = check clocks i d.clock d.equation.right in
    subst⁻¹ (CleanEquation n clocks) q (record { place = i; left = clean-left l r one; right = clean-right l r one })
clean-equations n clocks e i es h (Memᴰ.tail {x = d} {xs = ds} m) =
    clean-equations n clocks e (suc i) ds (clean-right (check_equation n clocks i d) (join (numbered (check_equation n clocks) (suc i) ds)) h) m
