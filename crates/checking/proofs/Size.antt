-- A table of findings never fills: there are at most as many findings as tokens.
-- Assumes nothing.
use mathlib.Core.Path.{◌≡◌, refl}
use mathlib.Core.List.{List, [], ◌∷◌, ◌++◌, map}
use mathlib.Core.Bool.{Bool, true, false}
use mathlib.Core.Option.{Option, none, some}
use Prim.Native.Nat.{ℕ, zero, suc, ◌+◌, ◌-◌, ◌≤◌}
use native.Mathlib.Omega.{arith}
use lib.Dec.{ltb}
use lib.ListN.{length, length-append}
use Rattle.definitions.specs.declared.Condition.{Condition}
use Rattle.definitions.specs.Lists.{choose, join, numbered}
use Rattle.definitions.specs.Tokens.{TagValue}
use Rattle.definitions.specs.Tree.{Expr, Exprs, Equation, Node}
use Rattle.definitions.specs.Reading.{got, times}
use Rattle.definitions.specs.Grammar.{name, equation}
use Rattle.definitions.specs.Clock.{Clock, base, ◌↓◌, depth, deepest, parent, is_on, is_not, same_clock, ends_in}
use Rattle.definitions.specs.InferClocks.{is_port, left_elsewhere, used_elsewhere, clock_name_elsewhere, when_elsewhere, Natural, deep, formed, Clocks, clock_of, natural, Fault, Finding, found, too_deep, one_down, on_natural, must_be_on, check, checks, check_left, Clocked, check_equation}
use Rattle.operands.specs.declared.Gap.{Gap}
use Rattle.operands.specs.Role.{operands_of}
use Rattle.operands.specs.Spread.{tree, spread, later}
use Rattle.operands.proofs.Laws.{reads, spread-nil, spread-cons, before-place, behind-place, name-place}
use Rattle.grammar.proofs.Longer.{expr-grows, counted-grows}
use Rattle.grammar.proofs.Got.{times-nil, times-cons}
use Rattle.checking.proofs.Left.{equation-parts}

-- the number of a tree's expressions
unfoldable mutual
  pub size : Expr → ℕ
  size (Expr.const l w) = 1
  size (Expr.var x) = 1
  size (Expr.op h es) = suc (sizes es)
  size (Expr.pre e) = suc (size e)
  size (Expr.arrow a b) = suc (size a + size b)
  size (Expr.call f es) = suc (sizes es)
  size (Expr.when k e) = suc (size e)
  size (Expr.merge x a b) = suc (size a + size b)

  pub sizes : Exprs → ℕ
  sizes Exprs.end = 0
  sizes (Exprs.and e es) = size e + sizes es

one_more : (e : Expr) → 1 ≤ size e
unfolding size
one_more (Expr.const l w) = omega arith
one_more (Expr.var x) = omega arith
one_more (Expr.op h es) = omega arith
one_more (Expr.pre e) = omega arith
one_more (Expr.arrow a b) = omega arith
one_more (Expr.call f es) = omega arith
one_more (Expr.when k e) = omega arith
one_more (Expr.merge x a b) = omega arith

-- ---- findings and expressions
module _ (clocks : Clocks) (i : ℕ) where
  must-few : (c : Clock) (x : ℕ) (f : Clock → Fault) → length (must_be_on clocks i c x f) ≤ 1
  unfolding must_be_on
  must-few c x f = go (clock_of clocks x)
    where
      at : (d : Clock) (b : Bool) → length {A = Finding} (choose b [] (found (record { equation = i; fault = f d }) ∷ [])) ≤ 1
      at d true = omega arith
      at d false = omega arith

      go : (o : Option Clock) → length {A = Finding} (elim o [ none ↦ [] | some d ↦ choose (same_clock d c) [] (found (record { equation = i; fault = f d }) ∷ []) ]) ≤ 1
      go none = omega arith
      go (some d) = at d (same_clock d c)

  down-few : (c : Clock) (k : Condition) (f : Clock → List Finding) (n : ℕ) → 1 ≤ n → ((d : Clock) → length (f d) ≤ n) → length (one_down c k f) ≤ n
  down-few c k f n l h = go (ltb (depth c) deepest)
    where
      go : (b : Bool) → length {A = Finding} (elim b [ true ↦ f (c ↓ k) | false ↦ too_deep ∷ [] ]) ≤ n
      go true = h (c ↓ k)
      go false = l

  natural-few : (m : Natural) (f : Clock → List Finding) (n : ℕ) → 1 ≤ n → ((d : Clock) → length (f d) ≤ n) → length (on_natural m f) ≤ n
  natural-few deep f n l h = l
  natural-few (formed none) f n l h = h base
  natural-few (formed (some d)) f n l h = h d

  two-few : (a b : List Finding) (m n : ℕ) → length a ≤ m → length b ≤ n → length (a ++ b) ≤ m + n
  two-few a b m n h k = omega (arith, length-append a b)

  lead : (a b : List Finding) (n : ℕ) → length a ≤ 1 → length b ≤ n → length (a ++ b) ≤ suc n
  lead a b n h k = omega (arith, length-append a b)

  up : (m n : ℕ) → m ≤ n → suc m ≤ suc n
  up m n h = omega arith

  wide : (m n : ℕ) → m ≤ n → m ≤ suc n
  wide m n h = omega arith

  when-few : (c : Clock) (k : Condition) (e : Expr) → ((d : Clock) → length (check clocks i d e) ≤ size e) → length (check clocks i c (Expr.when k e)) ≤ suc (size e)
  unfolding check
  when-few c k e h = go (ends_in k c)
    where
      go : (b : Bool) → length {A = Finding} (elim b [
        | true ↦ must_be_on clocks i (parent c) k.name (λ d. clock_name_elsewhere k.name d (parent c)) ++ check clocks i (parent c) e
        | false ↦ found (record { equation = i; fault = when_elsewhere k c }) ∷ on_natural (natural clocks e) (λ d. check clocks i d e)
      ]) ≤ suc (size e)
      go true = lead (must_be_on clocks i (parent c) k.name (λ d. clock_name_elsewhere k.name d (parent c))) (check clocks i (parent c) e) (size e) (must-few (parent c) k.name (λ d. clock_name_elsewhere k.name d (parent c))) (h (parent c))
      go false = up _ _ (natural-few (natural clocks e) (λ d. check clocks i d e) (size e) (one_more e) h)

  merge-few : (c : Clock) (x : ℕ) (a b : Expr) → ((d : Clock) → length (check clocks i d a) ≤ size a) → ((d : Clock) → length (check clocks i d b) ≤ size b) → length (check clocks i c (Expr.merge x a b)) ≤ suc (size a + size b)
  unfolding check
  merge-few c x a b h k =
      let p = must-few c x (λ d. clock_name_elsewhere x d c) in
      let q = down-few c (is_on x) (λ d. check clocks i d a) (size a) (one_more a) h in
      let r = down-few c (is_not x) (λ d. check clocks i d b) (size b) (one_more b) k in
      lead (must_be_on clocks i c x (λ d. clock_name_elsewhere x d c)) (one_down c (is_on x) (λ d. check clocks i d a) ++ one_down c (is_not x) (λ d. check clocks i d b)) (size a + size b) p
      (two-few (one_down c (is_on x) (λ d. check clocks i d a)) (one_down c (is_not x) (λ d. check clocks i d b)) (size a) (size b) q r)

  mutual
    unfolding check size

    pub few : (c : Clock) (e : Expr) → length (check clocks i c e) ≤ size e
    few c (Expr.const l w) = omega arith
    few c (Expr.var x) = must-few c x (λ d. used_elsewhere x d c)
    few c (Expr.op h es) = wide _ _ (few-all c es)
    few c (Expr.pre e) = up _ _ (few c e)
    few c (Expr.arrow a b) = up _ _ (two-few (check clocks i c a) (check clocks i c b) (size a) (size b) (few c a) (few c b))
    few c (Expr.call f es) = wide _ _ (few-all c es)
    few c (Expr.when k e) = when-few c k e (λ d. few d e)
    few c (Expr.merge x a b) = merge-few c x a b (λ d. few d a) (λ d. few d b)

    few-all : (c : Clock) (es : Exprs) → length (checks clocks i c es) ≤ sizes es
    few-all c Exprs.end = omega arith
    few-all c (Exprs.and e es) = two-few (check clocks i c e) (checks clocks i c es) (size e) (sizes es) (few c e) (few-all c es)

  left-few : (node : Node) (c : Clock) (xs : List ℕ) → length (check_left clocks i node c xs) ≤ length xs
  unfolding check_left
  left-few node c [] = omega arith
  left-few node c (x ∷ xs) =
      lead (must_be_on clocks i c x (λ d. left_elsewhere x d c (is_port node x))) (check_left clocks i node c xs) (length xs) (must-few c x (λ d. left_elsewhere x d c (is_port node x))) (left-few node c xs)

-- ---- expressions and tokens
module _ (M : ℕ) (ts : List TagValue) where
  -- what each expression of this tree takes, it takes wherever it stands
  abbrev Takes : Expr → Type 0
  Takes e = (p q : ℕ) → tree M ts p ≡ got e q → p + size e ≤ q

  abbrev Take : Exprs → Type 0
  Take es = (g : Gap) (n p q : ℕ) → spread M g n (tree M) ts p ≡ got es q → p + sizes es ≤ q

  none-take : Take Exprs.end
  unfolding size
  none-take g zero p q h = let z = (spread-nil M (tree M) ts g zero p Exprs.end q refl h).1 in omega arith
  none-take g (suc n) p q h =
      let k = spread-cons M (tree M) ts g (suc n) p Exprs.end q (λ z. omega (arith, z)) h in
      absurd (cc k.11)

  more-take : (e : Expr) (es : Exprs) → Takes e → Take es → Take (Exprs.and e es)
  unfolding size
  more-take e es f fs g zero p q h = let z = (spread-nil M (tree M) ts g zero p (Exprs.and e es) q refl h).0 in absurd cc
  more-take e es f fs g (suc n) p q h =
      let k = spread-cons M (tree M) ts g (suc n) p (Exprs.and e es) q (λ z. omega (arith, z)) h in
      let i : k.2 ≡ e = cc k.11 in
      let j : k.6 ≡ es = cc k.11 in
      let a = (before-place M g ts p k.0 k.1 k.7).1 in
      let here : tree M ts k.1 ≡ got e k.3 = rw i at k.8 in
      let u = expr-grows M 32 ts k.1 e k.3 here in
      let b = f k.1 k.3 here in
      let d = behind-place g ts k.3 k.4 k.5 u.1 k.9 in
      let r = fs (later g) (suc n - 1) k.5 q (rw j at k.10) in
      omega arith

  -- an expression's first token, then its operands
  head-take : (e : Expr) (p q : ℕ) → tree M ts p ≡ got e q → Take (operands_of e) → p + suc (sizes (operands_of e)) ≤ q
  head-take e p q g h = let a = reads M ts p e q g in let r = h _ _ _ q a.3.0 in omega (arith, r, a.3.1)

  mutual
    unfolding size operands_of

    pub takes : (e : Expr) → Takes e
    takes (Expr.const l w) p q g = head-take (Expr.const l w) p q g none-take
    takes (Expr.var x) p q g = head-take (Expr.var x) p q g none-take
    takes (Expr.op h es) p q g = head-take (Expr.op h es) p q g (λ d n u v k. take es d n u v k)
    takes (Expr.pre a) p q g = let r = head-take (Expr.pre a) p q g (more-take a Exprs.end (λ u v h. takes a u v h) none-take) in omega arith
    takes (Expr.arrow a b) p q g = let r = head-take (Expr.arrow a b) p q g (more-take a (Exprs.and b Exprs.end) (λ u v h. takes a u v h) (more-take b Exprs.end (λ u v h. takes b u v h) none-take)) in omega arith
    takes (Expr.call f es) p q g = head-take (Expr.call f es) p q g (λ d n u v k. take es d n u v k)
    takes (Expr.when k a) p q g = let r = head-take (Expr.when k a) p q g (more-take a Exprs.end (λ u v h. takes a u v h) none-take) in omega arith
    takes (Expr.merge x a b) p q g = let r = head-take (Expr.merge x a b) p q g (more-take a (Exprs.and b Exprs.end) (λ u v h. takes a u v h) (more-take b Exprs.end (λ u v h. takes b u v h) none-take)) in omega arith

    take : (es : Exprs) → Take es
    take Exprs.end g n p q h = none-take g n p q h
    take (Exprs.and e es) g n p q h = more-take e es (λ u v k. takes e u v k) (λ d m u v k. take es d m u v k) g n p q h

  -- THE LAW: the findings of an expression are at most its tokens
  expr-fits : (clocks : Clocks) (i : ℕ) (c : Clock) (e : Expr) (p q : ℕ) → tree M ts p ≡ got e q → p + length (check clocks i c e) ≤ q
  expr-fits clocks i c e p q g = omega (arith, few clocks i c e, takes e p q g)

  names-take : (n p : ℕ) (xs : List ℕ) (q : ℕ) → times n (name M) ts p ≡ got xs q → p + length xs ≤ q
  names-take zero p xs q g = let z = times-nil (name M) ts zero p xs q refl g in rw z.0 (omega (arith, z.1))
  names-take (suc n) p xs q g =
      let a = times-cons (name M) ts (suc n) p xs q (λ z. omega (arith, z)) g in
      let b = name-place M ts p a.0 a.1 a.3 in
      let k : suc n - 1 ≡ n = omega arith in
      let r = names-take n a.1 a.2 q (rw k at a.4) in
      rw a.5 (omega (arith, b.0))

  -- those of an equation
  equation-fits : (node : Node) (clocks : Clocks) (i : ℕ) (c : Clocked) (p q : ℕ) → equation M ts p ≡ got c.equation q → p + length (check_equation node clocks i c) ≤ q
  unfolding check_equation
  equation-fits node clocks i c p q g =
      let n = equation-parts M ts p c.equation q g in
      let l = counted-grows 3 1 8 ts p n.0 n.1 n.3 in
      let x = names-take n.0 n.1 c.equation.left n.2 n.4 in
      let r = expr-fits clocks i c.clock c.equation.right n.2 q n.5 in
      omega (arith, l, x, r, left-few clocks i node c.clock c.equation.left, length-append (check_left clocks i node c.clock c.equation.left) (check clocks i c.clock c.equation.right))

  -- those of a node's equations, from equation j on
  pub equations-fit : (node : Node) (clocks : Clocks) (n p : ℕ) (es : List Equation) (q : ℕ) → times n (equation M) ts p ≡ got es q → (cs : List Clocked) → map (λ c. c.equation) cs ≡ es → (j : ℕ) → p + length (join (numbered (check_equation node clocks) j cs)) ≤ q
  equations-fit node clocks zero p es q g [] w j = let z = times-nil (equation M) ts zero p es q refl g in omega (arith, z.1)
  equations-fit node clocks zero p es q g (c ∷ cs) w j = let z = (times-nil (equation M) ts zero p es q refl g).0 in absurd cc
  equations-fit node clocks (suc n) p es q g [] w j =
      let a = times-cons (equation M) ts (suc n) p es q (λ z. omega (arith, z)) g in
      absurd (cc a.5)
  equations-fit node clocks (suc n) p es q g (c ∷ cs) w j =
      let a = times-cons (equation M) ts (suc n) p es q (λ z. omega (arith, z)) g in
      let x : a.0 ≡ c.equation = cc a.5 in
      let y : map (λ (d : Clocked). d.equation) cs ≡ a.2 = cc a.5 in
      let k : suc n - 1 ≡ n = omega arith in
      let b = equation-fits node clocks j c p a.1 (rw x at a.3) in
      let r = equations-fit node clocks n a.1 a.2 q (rw k at a.4) cs y (suc j) in
      omega (arith, b, r, length-append (check_equation node clocks j c) (join (numbered (check_equation node clocks) (suc j) cs)))
