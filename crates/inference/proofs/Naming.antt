-- The names by which an equation goes in a pass: those that stand in its tokens; and they alone make its natural clock.
-- Assumes nothing.
use Prim.Native.Nat.{ℕ, zero, suc, ◌+◌, ◌-◌, ◌≤◌, ◌<◌}
use mathlib.Core.Path.{◌≡◌, refl, sym, ◌∙◌, ap}
use mathlib.Core.List.{List, [], ◌∷◌}
use mathlib.Core.Bool.{Bool, true, false}
use mathlib.Core.Option.{Option, none, some}
use native.Mathlib.Omega.{arith}
use lib.Dec.{eqb, ltb}
use lib.ListN.{length, get_or}
use borrow.Author.Tests.{eqb-true}
use Rattle.definitions.specs.declared.ExprToken.{ExprToken}
use Rattle.definitions.specs.Lists.{choose}
use Rattle.definitions.specs.Bytes.{tokens}
use Rattle.definitions.specs.Tokens.{given, mapped, unary_of, binary_of, expr_token_of}
use Rattle.definitions.specs.Tree.{Expr, Exprs, Equation}
use Rattle.definitions.specs.Reading.{got, times}
use Rattle.definitions.specs.Grammar.{name, equation}
use Rattle.definitions.specs.InferClocks.{Natural, Clocks, clock_of, formed, ◌or◌, condition_over, parent_of, natural, naturals}
use Rattle.grammar.proofs.Laws.{tokens-length}
use Rattle.grammar.proofs.Longer.{counted-grows, expr-grows}
use Rattle.grammar.proofs.Got.{tagged-value, times-nil, times-cons, equation-got}
use Rattle.operands.specs.declared.Gap.{Gap}
use Rattle.operands.specs.declared.Role.{Role}
use Rattle.operands.specs.Role.{role_of, role_of_expr, operands_of}
use Rattle.operands.specs.Spread.{tree, spread, later}
use Rattle.operands.proofs.Laws.{name-place, reads, token-there, spread-nil, spread-cons, spread-grows, before-place, behind-place}
use Rattle.inference.specs.Settled.{named, EachOf, Each, Eaches, Names}

-- ---- the name in a first token
-- a role's name is the value v of a token whose tag is that of a name
abbrev Carries : ℕ → ℕ → Role → Type 0
Carries tag v Role.Constant = Unit {0}
Carries tag v (Role.Name x) = (named tag ≡ true) × (v ≡ x)
Carries tag v (Role.Sample k) = (named tag ≡ true) × (v ≡ k.name)
Carries tag v (Role.Join x) = (named tag ≡ true) × (v ≡ x)
Carries tag v Role.Previous = Unit {0}
Carries tag v Role.Follow = Unit {0}
Carries tag v (Role.Call f) = Unit {0}
Carries tag v Role.Index = Unit {0}
Carries tag v Role.Compute = Unit {0}

module _ (tag v : ℕ) where
  abbrev Told : Option ExprToken → Type 0
  Told none = Unit {0}
  Told (some t) = Carries tag v (role_of t)

  either : (b : Bool) (x y : Option ExprToken) → (b ≡ true → Told x) → Told y → Told (choose b x y)
  either true x y i j = i refl
  either false x y i j = j

  always : (b : Bool) (t : ExprToken) → Carries tag v (role_of t) → Told (given b t)
  always true t h = h
  always false t h = tt

  told-mapped : {A : Type 0} (f : A → ExprToken) (o : Option A) → ((a : A) → Carries tag v (role_of (f a))) → Told (mapped f o)
  told-mapped f none h = tt
  told-mapped f (some a) h = h a

  tag-named : (k : ℕ) → named k ≡ true → eqb tag k ≡ true → named tag ≡ true
  tag-named k h e = let i : tag ≡ k = eqb-true tag k e in rw i h

  told : (M : ℕ) → Told (expr_token_of M tag v)
  unfolding expr_token_of
  told M =
      either (eqb tag 50) _ _ (λ e. always (ltb v 2) _ tt) (
      either (eqb tag 51) _ _ (λ e. tt) (
      either (eqb tag 52) _ _ (λ e. tt) (
      either (eqb tag 53) _ _ (λ e. always (ltb v 256) _ tt) (
      either (eqb tag 54) _ _ (λ e. always (ltb v M) _ (tag-named 54 refl e, refl)) (
      either (eqb tag 55) _ _ (λ e. told-mapped _ (unary_of v) (λ o. tt)) (
      either (eqb tag 56) _ _ (λ e. told-mapped _ (binary_of v) (λ o. tt)) (
      either (eqb tag 57) _ _ (λ e. always (eqb v 0) _ tt) (
      either (eqb tag 58) _ _ (λ e. always (eqb v 0) _ tt) (
      either (eqb tag 59) _ _ (λ e. always (eqb v 0) _ tt) (
      either (eqb tag 60) _ _ (λ e. always (ltb v M) _ tt) (
      either (eqb tag 61) _ _ (λ e. always (ltb v M) _ tt) (
      either (eqb tag 62) _ _ (λ e. always (eqb v 0) _ tt) (
      either (eqb tag 63) _ _ (λ e. always (eqb v 0) _ tt) (
      either (eqb tag 64) _ _ (λ e. always (eqb v 0) _ tt) (
      either (eqb tag 65) _ _ (λ e. always (ltb v M) _ tt) (
      either (eqb tag 66) _ _ (λ e. always (eqb v 0) _ tt) (
      either (eqb tag 67) _ _ (λ e. always (ltb v M) _ (tag-named 67 refl e, refl)) (
      either (eqb tag 68) _ _ (λ e. always (ltb v M) _ (tag-named 68 refl e, refl)) (
      either (eqb tag 69) _ _ (λ e. always (ltb v M) _ (tag-named 69 refl e, refl)) (
      either (eqb tag 70) _ _ (λ e. always (ltb v M) _ tt) (
      either (eqb tag 71) _ _ (λ e. always (ltb v M) _ tt) tt)))))))))))))))))))))

-- ---- the names in the tokens of an equation
module _ (M : ℕ) (gs vs : List ℕ) (same_length : length vs ≡ length gs) where
  -- an expression's first token has its role's name
  carried : (p : ℕ) (e : Expr) (q : ℕ) → tree M (tokens gs vs) p ≡ got e q → Carries (get_or gs p 0) (get_or vs p 0) (role_of_expr e)
  carried p e q g =
      let a = reads M (tokens gs vs) p e q g in
      let t = token-there (expr_token_of M) gs vs same_length p a.0 (p + 1) a.1 in
      let k : Told (get_or gs p 0) (get_or vs p 0) (some a.0) = rw t at (told (get_or gs p 0) (get_or vs p 0) M) in
      rw a.2 at k

  -- the first of some operands, and the others
  record Part (g : Gap) (p : ℕ) (a : Expr) (es : Exprs) (q : ℕ) : Type 0 where
    pub from : ℕ
    pub to : ℕ
    pub next : ℕ
    pub left : ℕ
    pub here : tree M (tokens gs vs) from ≡ got a to
    pub others : spread M (later g) left (tree M) (tokens gs vs) next ≡ got es q
    pub places : (p ≤ from) × (from < to) × (to ≤ next) × (next ≤ q)

  part : (g : Gap) (k p : ℕ) (a : Expr) (es : Exprs) (q : ℕ) → spread M g k (tree M) (tokens gs vs) p ≡ got (Exprs.and a es) q → Part g p a es q
  part g zero p a es q h = let i = (spread-nil M (tree M) (tokens gs vs) g zero p (Exprs.and a es) q refl h).0 in absurd cc
  part g (suc k) p a es q h =
      let c = spread-cons M (tree M) (tokens gs vs) g (suc k) p (Exprs.and a es) q (λ z. omega (arith, z)) h in
      let w : Exprs.and a es ≡ Exprs.and c.2 c.6 = c.11 in
      let i : a ≡ c.2 = cc in
      let j : es ≡ c.6 = cc in
      let u = (before-place M g (tokens gs vs) p c.0 c.1 c.7).1 in
      let b = expr-grows M 32 (tokens gs vs) c.1 c.2 c.3 c.8 in
      let f = behind-place g (tokens gs vs) c.3 c.4 c.5 b.1 c.9 in
      let l = spread-grows M 32 (tokens gs vs) (later g) (suc k - 1) c.5 c.6 q c.10 in
      record {
        from = c.1;
        to = c.3;
        next = c.5;
        left = suc k - 1;
        here = c.8 ∙ ap (λ (x : Expr). got x c.3) (sym i);
        others = c.10 ∙ ap (λ (x : Exprs). got x q) (sym j);
        places = (u, b.0, f.1, l);
      }

  module _ (P : ℕ → Type 0) where
    -- P of each name in the tokens from p to q
    abbrev pub Between : ℕ → ℕ → Type 0
    Between p q = (i : ℕ) → p ≤ i → i < q → i < length gs → named (get_or gs i 0) ≡ true → P (get_or vs i 0)

    within : (p q p' q' : ℕ) → p ≤ p' → q' ≤ q → Between p q → Between p' q'
    within p q p' q' a b h i c d e f = h i (omega arith) (omega arith) e f

    -- that of the first token
    first : (p q x : ℕ) → p < q → p < length gs → (named (get_or gs p 0) ≡ true) × (get_or vs p 0 ≡ x) → Between p q → P x
    first p q x a b c h = rw c.1 at (h p (omega arith) a b c.0)

    mutual
      unfolding Each operands_of role_of_expr

      pub each-expr : (e : Expr) (p q : ℕ) → tree M (tokens gs vs) p ≡ got e q → Between p q → Each P e
      each-expr (Expr.const l w) p q g h = tt
      each-expr (Expr.var x) p q g h = let b = expr-grows M 32 (tokens gs vs) p (Expr.var x) q g in first p q x b.0 (omega (arith, b.0, b.1, tokens-length gs vs same_length)) (carried p (Expr.var x) q g) h
      each-expr (Expr.op o es) p q g h = let r = reads M (tokens gs vs) p (Expr.op o es) q g in each-exprs es _ _ _ q r.3.0 (within p q _ q (omega (arith, r.3.1)) (omega arith) h)
      each-expr (Expr.pre a) p q g h =
          let r = reads M (tokens gs vs) p (Expr.pre a) q g in
          let x = part _ _ _ a Exprs.end q r.3.0 in
          each-expr a x.from x.to x.here (within p q x.from x.to (omega (arith, r.3.1, x.places)) (omega (arith, x.places)) h)
      each-expr (Expr.arrow a b) p q g h =
          let r = reads M (tokens gs vs) p (Expr.arrow a b) q g in
          let x = part _ _ _ a (Exprs.and b Exprs.end) q r.3.0 in
          let y = part _ _ _ b Exprs.end q x.others in (
            each-expr a x.from x.to x.here (within p q x.from x.to (omega (arith, r.3.1, x.places)) (omega (arith, x.places)) h),
            each-expr b y.from y.to y.here (within p q y.from y.to (omega (arith, r.3.1, x.places, y.places)) (omega (arith, y.places)) h),
          )
      each-expr (Expr.call f es) p q g h = let r = reads M (tokens gs vs) p (Expr.call f es) q g in each-exprs es _ _ _ q r.3.0 (within p q _ q (omega (arith, r.3.1)) (omega arith) h)
      each-expr (Expr.when k a) p q g h =
          let b = expr-grows M 32 (tokens gs vs) p (Expr.when k a) q g in
          let r = reads M (tokens gs vs) p (Expr.when k a) q g in
          let x = part _ _ _ a Exprs.end q r.3.0 in (
            first p q k.name b.0 (omega (arith, b.0, b.1, tokens-length gs vs same_length)) (carried p (Expr.when k a) q g) h,
            each-expr a x.from x.to x.here (within p q x.from x.to (omega (arith, r.3.1, x.places)) (omega (arith, x.places)) h),
          )
      each-expr (Expr.merge n a b) p q g h =
          let l = expr-grows M 32 (tokens gs vs) p (Expr.merge n a b) q g in
          let r = reads M (tokens gs vs) p (Expr.merge n a b) q g in
          let x = part _ _ _ a (Exprs.and b Exprs.end) q r.3.0 in
          let y = part _ _ _ b Exprs.end q x.others in (
            first p q n l.0 (omega (arith, l.0, l.1, tokens-length gs vs same_length)) (carried p (Expr.merge n a b) q g) h,
            each-expr a x.from x.to x.here (within p q x.from x.to (omega (arith, r.3.1, x.places)) (omega (arith, x.places)) h),
            each-expr b y.from y.to y.here (within p q y.from y.to (omega (arith, r.3.1, x.places, y.places)) (omega (arith, y.places)) h),
          )

      each-exprs : (es : Exprs) (g : Gap) (k p q : ℕ) → spread M g k (tree M) (tokens gs vs) p ≡ got es q → Between p q → Eaches P es
      each-exprs Exprs.end g k p q s h = tt
      each-exprs (Exprs.and a es) g k p q s h =
          let x = part g k p a es q s in (
            each-expr a x.from x.to x.here (within p q x.from x.to (omega (arith, x.places)) (omega (arith, x.places)) h),
            each-exprs es (later g) x.left x.next q x.others (within p q x.next q (omega (arith, x.places)) (omega arith) h),
          )

    -- left names
    each_left : (xs : List ℕ) (k p q : ℕ) → times k (name M) (tokens gs vs) p ≡ got xs q → (p ≤ q) × (Between p q → EachOf P xs)
    unfolding name EachOf
    each_left [] zero p q g = let e = times-nil (name M) (tokens gs vs) zero p [] q refl g in (omega (arith, e.1), λ h. tt)
    each_left [] (suc k) p q g =
        let t = times-cons (name M) (tokens gs vs) (suc k) p [] q (λ z. omega (arith, z)) g in
        let i = t.5 in absurd cc
    each_left (x ∷ xs) zero p q g = let e = (times-nil (name M) (tokens gs vs) zero p (x ∷ xs) q refl g).0 in absurd cc
    each_left (x ∷ xs) (suc k) p q g =
        let t = times-cons (name M) (tokens gs vs) (suc k) p (x ∷ xs) q (λ z. omega (arith, z)) g in
        let w : x ∷ xs ≡ t.0 ∷ t.2 = t.5 in
        let i : x ≡ t.0 = cc in
        let j : xs ≡ t.2 = cc in
        let l = name-place M (tokens gs vs) p t.0 t.1 t.3 in
        let b : p < length gs = omega (arith, l.1, tokens-length gs vs same_length) in
        let v = tagged-value gs vs same_length p 4 M t.0 t.1 b t.3 in
        let r = each_left xs (suc k - 1) t.1 q (t.4 ∙ ap (λ (y : List ℕ). got y q) (sym j)) in
        (omega (arith, l.0, r.0), λ h. (first p q x (omega (arith, l.0, r.0)) b (rw v.1, sym v.0 ∙ sym i) h, r.1 (within p q t.1 q (omega (arith, l.0)) (omega arith) h)))

    -- THE LAW: what holds of the names in an equation's tokens holds of the names by which it goes
    pub each-name : (p : ℕ) (e : Equation) (q : ℕ) → equation M (tokens gs vs) p ≡ got e q → Between p q → Names P e
    each-name p e q g h =
        let t = equation-got M (tokens gs vs) p e q g in
        let a = counted-grows 3 1 8 (tokens gs vs) p t.0 t.1 t.5 in
        let l = each_left t.2 t.0 t.1 t.3 t.6 in
        let b = expr-grows M 32 (tokens gs vs) t.3 t.4 q t.7 in
        rw t.8 (record {
          left = l.1 (within p q t.1 t.3 (omega (arith, a.0)) (omega (arith, b.0)) h);
          right = each-expr t.4 t.3 q t.7 (within p q t.3 q (omega (arith, a.0, l.0)) (omega arith) h);
        })

-- ---- what holds of each name
module _ (P Q : ℕ → Type 0) (f : (x : ℕ) → P x → Q x) where
  all_map : (xs : List ℕ) → EachOf P xs → EachOf Q xs
  unfolding EachOf
  all_map [] h = tt
  all_map (x ∷ xs) h = (f x h.0, all_map xs h.1)

  mutual
    unfolding Each

    each_map : (e : Expr) → Each P e → Each Q e
    each_map (Expr.const l w) h = tt
    each_map (Expr.var x) h = f x h
    each_map (Expr.op o es) h = eaches-map es h
    each_map (Expr.pre a) h = each_map a h
    each_map (Expr.arrow a b) h = (each_map a h.0, each_map b h.1)
    each_map (Expr.call g es) h = eaches-map es h
    each_map (Expr.when k a) h = (f k.name h.0, each_map a h.1)
    each_map (Expr.merge x a b) h = (f x h.0, each_map a h.1, each_map b h.2)

    eaches-map : (es : Exprs) → Eaches P es → Eaches Q es
    eaches-map Exprs.end h = tt
    eaches-map (Exprs.and a es) h = (each_map a h.0, eaches-map es h.1)

  pub names-map : (e : Equation) → Names P e → Names Q e
  names-map e h = record { left = all_map e.left h.left; right = each_map e.right h.right }

-- ---- the natural clock goes by the clocks of these names
or_same : (a b c d : Natural) → a ≡ c → b ≡ d → (a or b) ≡ (c or d)
or_same a b c d i j = rw (i, j)

module _ (clocks clocks' : Clocks) where
  -- x is on the same clock
  abbrev pub Same : ℕ → Type 0
  Same x = clock_of clocks' x ≡ clock_of clocks x

  mutual
    unfolding Each natural

    pub natural-same : (e : Expr) → Each Same e → natural clocks' e ≡ natural clocks e
    natural-same (Expr.const l w) h = refl
    natural-same (Expr.var x) h = ap formed h
    natural-same (Expr.op o es) h = naturals-same es h
    natural-same (Expr.pre a) h = natural-same a h
    natural-same (Expr.arrow a b) h = or_same _ _ _ _ (natural-same a h.0) (natural-same b h.1)
    natural-same (Expr.call f es) h = naturals-same es h
    natural-same (Expr.when k a) h = ap (condition_over k) (or_same _ _ _ _ (or_same _ _ _ _ (natural-same a h.1) (ap formed h.0)) refl)
    natural-same (Expr.merge x a b) h = or_same _ _ _ _ (or_same _ _ _ _ (ap formed h.0) (ap parent_of (natural-same a h.1))) (ap parent_of (natural-same b h.2))

    naturals-same : (es : Exprs) → Eaches Same es → naturals clocks' es ≡ naturals clocks es
    naturals-same Exprs.end h = refl
    naturals-same (Exprs.and a es) h = or_same _ _ _ _ (natural-same a h.0) (naturals-same es h.1)
