-- As many holds are yielded as are needed, and as many are made as are counted.
-- Assumes nothing.
use mathlib.Core.Path.{◌≡◌, refl, ◌∙◌}
use mathlib.Core.Bool.{Bool, true, false}
use mathlib.Core.List.{List, ◌++◌}
use Prim.Native.Nat.{ℕ, suc, ◌+◌}
use native.Mathlib.Omega.{arith}
use lib.ListN.{length, length-append}
use Rattle.definitions.specs.Lists.{choose}
use Rattle.definitions.specs.Tree.{Ty, TypeDef, Expr, Exprs, Node}
use Rattle.definitions.specs.Clock.{Clock, ◌↓◌, parent, is_on, is_not, is_base}
use Rattle.definitions.specs.Declock.{Hold, operator_outputs, declared, operand_type}
use Rattle.defaults.specs.Has.{is_some}
use Rattle.stateless.specs.Need.{Turn, Needs, is_bare, pre_turn, arrow_turn, call_turn, settled, needed, needed_all}
use Rattle.stateless.specs.Yield.{Ids, Yield, type_or, pre_yield, yield, yields}

-- ---- holds
pre-holds : (types : List TypeDef) (nodes : List Node) (node : Node) (ids : Ids) (t : Turn) (c : Clock) (a : Ty) (v : Yield Expr) (z : Needs) → v.after ≡ z.holds → (pre_yield types nodes node ids t c a v).after ≡ (settled t c z).holds
pre-holds types nodes node ids Turn.Keep c a v z h = h
pre-holds types nodes node ids Turn.Hold c a v z h = omega arith
pre-holds types nodes node ids Turn.First c a v z h = h
pre-holds types nodes node ids Turn.Gate c a v z h = h

pub arrow-holds : (c : Clock) (z : Needs) → z.holds ≡ (settled (arrow_turn c) c z).holds
arrow-holds c z = go (is_base c)
  where
    go : (b : Bool) → z.holds ≡ (settled (choose b Turn.Keep Turn.First) c z).holds
    go true = refl
    go false = refl

pub call-holds : (c : Clock) (o : Bool) (z : Needs) → z.holds ≡ (settled (call_turn c o) c z).holds
call-holds c o z = go (is_base c) o
  where
    go : (b o : Bool) → z.holds ≡ (settled (choose b Turn.Keep (choose o Turn.Gate Turn.Keep)) c z).holds
    go true o = refl
    go false true = refl
    go false false = refl

module _ (types : List TypeDef) (l : List Node) (node : Node) (ids : Ids) where
  mutual
    unfolding needed yield

    pub yield-holds : (e : Expr) (c : Clock) (n : ℕ) (y : Needs) → n ≡ y.holds → (yield types l node ids c n e).after ≡ (needed l c e y).holds
    yield-holds (Expr.const k w) c n y h = h
    yield-holds (Expr.var x) c n y h = h
    yield-holds (Expr.op o es) c n y h = all-holds es c c n y h
    yield-holds (Expr.pre a) c n y h = pre-holds types l node ids (pre_turn c (is_bare a)) c (type_or (operand_type (declared node) a)) (yield types l node ids c n a) (needed l c a y) (yield-holds a c n y h)
    yield-holds (Expr.arrow a b) c n y h = yield-holds b c (yield types l node ids c n a).after (needed l c a y) (yield-holds a c n y h) ∙ arrow-holds c (needed l c b (needed l c a y))
    yield-holds (Expr.call f es) c n y h = all-holds es c c n y h ∙ call-holds c (is_some (operator_outputs l f)) (needed_all l c c es y)
    yield-holds (Expr.when k a) c n y h = yield-holds a (parent c) n y h
    yield-holds (Expr.merge x a b) c n y h = yield-holds b (c ↓ is_not x) (yield types l node ids (c ↓ is_on x) n a).after (needed l (c ↓ is_on x) a y) (yield-holds a (c ↓ is_on x) n y h)

    pub all-holds : (es : Exprs) (c d : Clock) (n : ℕ) (y : Needs) → n ≡ y.holds → (yields types l node ids c d n es).after ≡ (needed_all l c d es y).holds
    all-holds Exprs.end c d n y h = h
    all-holds (Exprs.and e es) c d n y h = all-holds es d d (yield types l node ids c n e).after (needed l c e y) (yield-holds e c n y h)

-- ---- as many holds are made as are counted
two-counts : (a b : List Hold) (n m k : ℕ) → n + length a ≡ m → m + length b ≡ k → n + length (a ++ b) ≡ k
two-counts a b n m k i j = omega (arith, length-append a b)

pre-count : (types : List TypeDef) (nodes : List Node) (node : Node) (ids : Ids) (t : Turn) (c : Clock) (a : Ty) (v : Yield Expr) (n : ℕ) → n + length v.holds ≡ v.after → n + length (pre_yield types nodes node ids t c a v).holds ≡ (pre_yield types nodes node ids t c a v).after
pre-count types nodes node ids Turn.Keep c a v n h = h
pre-count types nodes node ids Turn.Hold c a v n h = two-counts v.holds _ n v.after (suc v.after) h (omega arith)
pre-count types nodes node ids Turn.First c a v n h = h
pre-count types nodes node ids Turn.Gate c a v n h = h

module _ (types : List TypeDef) (l : List Node) (node : Node) (ids : Ids) where
  mutual
    unfolding yield

    pub yield-count : (e : Expr) (c : Clock) (n : ℕ) → n + length (yield types l node ids c n e).holds ≡ (yield types l node ids c n e).after
    yield-count (Expr.const k w) c n = omega arith
    yield-count (Expr.var x) c n = omega arith
    yield-count (Expr.op o es) c n = all-count es c c n
    yield-count (Expr.pre a) c n = pre-count types l node ids (pre_turn c (is_bare a)) c (type_or (operand_type (declared node) a)) (yield types l node ids c n a) n (yield-count a c n)
    yield-count (Expr.arrow a b) c n = two-counts (yield types l node ids c n a).holds (yield types l node ids c (yield types l node ids c n a).after b).holds n _ _ (yield-count a c n) (yield-count b c (yield types l node ids c n a).after)
    yield-count (Expr.call f es) c n = all-count es c c n
    yield-count (Expr.when k a) c n = yield-count a (parent c) n
    yield-count (Expr.merge x a b) c n = two-counts (yield types l node ids (c ↓ is_on x) n a).holds (yield types l node ids (c ↓ is_not x) (yield types l node ids (c ↓ is_on x) n a).after b).holds n _ _ (yield-count a (c ↓ is_on x) n) (yield-count b (c ↓ is_not x) (yield types l node ids (c ↓ is_on x) n a).after)

    pub all-count : (es : Exprs) (c d : Clock) (n : ℕ) → n + length (yields types l node ids c d n es).holds ≡ (yields types l node ids c d n es).after
    all-count Exprs.end c d n = omega arith
    all-count (Exprs.and e es) c d n = two-counts (yield types l node ids c n e).holds (yields types l node ids d d (yield types l node ids c n e).after es).holds n _ _ (yield-count e c n) (all-count es d d (yield types l node ids c n e).after)
