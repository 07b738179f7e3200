-- Laws of how expressions lie: where parts end, and which expression a first token begins.
-- Assumes nothing.
use mathlib.Core.Path.{◌≡◌, refl, sym, ◌∙◌, ap, ap₂, subst}
use mathlib.Core.List.{List, [], ◌∷◌}
use mathlib.Core.Bool.{Bool, true, false, true≢false}
use mathlib.Core.Option.{none, some}
use Prim.Native.Nat.{ℕ, zero, suc, ◌+◌, ◌-◌, ◌≤◌, ◌<◌}
use native.Mathlib.Omega.{arith}
use lib.Dec.{eqb, ltb}
use lib.ListN.{length, get_or}
use borrow.Author.Tests.{lt-ltb, leb-true, ltb-true, ltb-false, ne_eqb}
use Rattle.definitions.specs.declared.Condition.{Condition}
use Rattle.definitions.specs.Tokens.{TagValue, tag_value}
use Rattle.definitions.specs.Tree.{Expr, Exprs}
use Rattle.definitions.specs.Clock.{Clock, ◌↓◌, parent, is_on, is_not}
use Rattle.layout.specs.Owed.{follows, Owed, paid, owes}
use Rattle.operands.specs.Role.{one}
use Rattle.stateless.specs.Need.{is_bare}
use Rattle.skeleton.specs.Lies.{Frame, hole, is_plain, code_at, parts_at, Framed, Formed, Lies, LiesAt}

-- parts, then others
owed-then : {gs vs : List ℕ} {p a r b q : ℕ} → Owed gs vs p a r → Owed gs vs r b q → Owed gs vs p (a + b) q
owed-then {gs} {vs} {p} {a} {r} {b} {q} paid o = subst (λ (n : ℕ). Owed gs vs p n q) (omega arith) o
owed-then {gs} {vs} {p} {a} {r} {b} {q} (owes {n = n} l h) o =
    subst (λ (m : ℕ). Owed gs vs p m q) (omega arith) (owes {n = n + b} l (subst (λ (m : ℕ). Owed gs vs (p + 1) m q) (omega arith) (owed-then h o)))

-- one part and the others
owed_more : {gs vs : List ℕ} {p r k q : ℕ} → p < length gs → Owed gs vs (p + 1) (follows (get_or gs p 0) (get_or vs p 0)) r → Owed gs vs r k q → Owed gs vs p (suc k) q
owed_more {gs} {vs} {p} {r} {k} {q} b h o = owes {n = k} b (subst (λ (m : ℕ). Owed gs vs (p + 1) m q) (omega arith) (owed-then h o))

-- so many parts follow these tags
parts-of : (gs vs : List ℕ) (p tag v n : ℕ) → code_at gs vs p ≡ tag_value tag v → follows tag v ≡ n → parts_at gs vs p ≡ n
parts-of gs vs p tag v n i j = ap (λ (z : TagValue). follows z.tag z.value) i ∙ j

tag_of : (gs vs : List ℕ) (p tag v : ℕ) → code_at gs vs p ≡ tag_value tag v → get_or gs p 0 ≡ tag
tag_of gs vs p tag v i = ap (λ (z : TagValue). z.tag) i

pub plain-not : (t k : ℕ) → is_plain t ≡ true → t ≡ k → is_plain k ≡ false → ⊥
plain-not t k a e b = true≢false (sym a ∙ (ap is_plain e ∙ b))

-- an expression's first token
plain-high : (t : ℕ) → is_plain t ≡ true → t < 50 → ⊥
unfolding is_plain
plain-high t a b = let h = leb-true 50 t (rw (lt-ltb t 58 (omega arith)) at a) in omega arith

when-parts : (t v : ℕ) → 67 ≤ t → t < 69 → follows t v ≡ 1
unfolding follows
when-parts t v a b = go (t - 67) refl
  where
    go : (d : ℕ) → t - 67 ≡ d → follows t v ≡ 1
    go zero e = let i : t ≡ 67 = omega arith in rw i
    go (suc zero) e = let i : t ≡ 68 = omega arith in rw i
    go (suc (suc d)) e = absurd (omega arith)

module _ {gs vs : List ℕ} {S : Clock → Expr → ℕ → ℕ → Type 0} where
  pub lies-owed : {c : Clock} {es : Exprs} {fs : Frame} {p k q : ℕ} → Lies gs vs S c es fs p k q → Owed gs vs p k q
  unfolding follows
  lies-owed Lies.done = paid
  lies-owed (Lies.sign b t h) = owes b (lies-owed h)
  lies-owed (Lies.computed b s f d h) = owed_more b (lies-owed d) (lies-owed h)
  lies-owed (Lies.previous {p = p} {r = r} b s i d h) = owed_more b (subst (λ (m : ℕ). Owed gs vs (p + 1) m r) (sym (parts-of gs vs p 58 0 1 i refl)) (lies-owed d)) (lies-owed h)
  lies-owed (Lies.follow {p = p} {s = r} b s i d f h) = owed_more b (subst (λ (m : ℕ). Owed gs vs (p + 1) m r) (sym (parts-of gs vs p 59 0 2 i refl)) (owed-then (lies-owed d) (lies-owed f))) (lies-owed h)
  lies-owed (Lies.calls {f = f} {p = p} {r = r} b s i a d h) = owed_more b (subst (λ (m : ℕ). Owed gs vs (p + 1) m r) (sym (parts-of gs vs p 60 f 1 i refl)) (lies-owed d)) (lies-owed h)
  lies-owed (Lies.sample {p = p} {r = r} b s i j d h) = owed_more b (subst (λ (m : ℕ). Owed gs vs (p + 1) m r) (sym (when-parts (get_or gs p 0) (get_or vs p 0) i j)) (lies-owed d)) (lies-owed h)
  lies-owed (Lies.join {x = x} {p = p} {s = r} b s i d f h) = owed_more b (subst (λ (m : ℕ). Owed gs vs (p + 1) m r) (sym (parts-of gs vs p 69 x 2 i refl)) (owed-then (lies-owed d) (lies-owed f))) (lies-owed h)

  pub lies-none : {c : Clock} {es : Exprs} {fs : Frame} {p k q : ℕ} → Lies gs vs S c es fs p k q → k ≡ 0 → (es ≡ Exprs.end) × (fs ≡ []) × (p ≡ q)
  lies-none Lies.done e = (refl, refl, refl)
  lies-none (Lies.sign b t h) e = absurd (omega arith)
  lies-none (Lies.computed b s f d h) e = absurd (omega arith)
  lies-none (Lies.previous b s i d h) e = absurd (omega arith)
  lies-none (Lies.follow b s i d f h) e = absurd (omega arith)
  lies-none (Lies.calls b s i a d h) e = absurd (omega arith)
  lies-none (Lies.sample b s i j d h) e = absurd (omega arith)
  lies-none (Lies.join b s i d f h) e = absurd (omega arith)

-- an expression by its first token
pub data Seen (gs vs : List ℕ) (S : Clock → Expr → ℕ → ℕ → Type 0) (c : Clock) (e : Expr) (p q : ℕ) : Type 0 where
  computed : (us : Exprs) (ds : Frame) → Formed gs vs e us p ds → Lies gs vs S c us ds (p + 1) (parts_at gs vs p) q → Seen gs vs S c e p q
  previous : (a : Expr) → e ≡ Expr.pre a → get_or gs p 0 ≡ 58 → code_at gs vs p ≡ tag_value 58 0 → LiesAt gs vs S c a (p + 1) q → Seen gs vs S c e p q
  follow : (a b : Expr) (r : ℕ) → e ≡ Expr.arrow a b → get_or gs p 0 ≡ 59 → code_at gs vs p ≡ tag_value 59 0 → LiesAt gs vs S c a (p + 1) r → LiesAt gs vs S c b r q → Seen gs vs S c e p q
  calls : (f : ℕ) (us : Exprs) (ds : Frame) → e ≡ Expr.call f us → get_or gs p 0 ≡ 60 → code_at gs vs p ≡ tag_value 60 f → Framed gs vs e us p ds → Lies gs vs S c us ds (p + 1) (parts_at gs vs p) q → Seen gs vs S c e p q
  sample : (x : Condition) (a : Expr) → e ≡ Expr.when x a → 67 ≤ get_or gs p 0 → get_or gs p 0 < 69 → LiesAt gs vs S (parent c) a (p + 1) q → Seen gs vs S c e p q
  join : (x : ℕ) (a b : Expr) (r : ℕ) → e ≡ Expr.merge x a b → get_or gs p 0 ≡ 69 → get_or vs p 0 ≡ x → LiesAt gs vs S (c ↓ is_on x) a (p + 1) r → LiesAt gs vs S (c ↓ is_not x) b r q → Seen gs vs S c e p q

-- the first of several parts is an expression, which the others follow
pub record First (gs vs : List ℕ) (S : Clock → Expr → ℕ → ℕ → Type 0) (c : Clock) (es : Exprs) (fs : Frame) (p k q : ℕ) : Type 0 where
  pub first : Expr
  pub others : Exprs
  pub frame : Frame
  pub end : ℕ
  pub whole : es ≡ Exprs.and first others
  pub framed : fs ≡ none ∷ frame
  pub there : p < length gs
  pub known : S c first p end
  pub here : LiesAt gs vs S c first p end
  pub seen : Seen gs vs S c first p end
  pub rest : Lies gs vs S c others frame end k q

module _ {gs vs : List ℕ} {S : Clock → Expr → ℕ → ℕ → Type 0} where
  pub fewer : {c : Clock} {es : Exprs} {fs : Frame} {p k m q : ℕ} → k ≡ m → Lies gs vs S c es fs p k q → Lies gs vs S c es fs p m q
  fewer {c} {es} {fs} {p} {k} {m} {q} i h = subst (λ (z : ℕ). Lies gs vs S c es fs p z q) i h

  -- a token that stays before the others
  pub sign-first : {c : Clock} {es : Exprs} {fs : Frame} {p k q : ℕ} → Lies gs vs S c es fs p k q → 0 < k → get_or gs p 0 < 50 → (ds : Frame) × (fs ≡ some (code_at gs vs p) ∷ ds) × (p < length gs) × Lies gs vs S c es ds (p + 1) (k - 1 + parts_at gs vs p) q
  sign-first Lies.done z t = absurd (omega arith)
  sign-first (Lies.sign {fs = fs} b u h) z t = (fs, refl, b, fewer (omega arith) h)
  sign-first {p = p} (Lies.computed b s f d h) z t = absurd (plain-high (get_or gs p 0) f.plain t)
  sign-first {p = p} (Lies.previous b s i d h) z t = let j = tag_of gs vs p 58 0 i in absurd (omega arith)
  sign-first {p = p} (Lies.follow b s i d f h) z t = let j = tag_of gs vs p 59 0 i in absurd (omega arith)
  sign-first {p = p} (Lies.calls {f = f} b s i a d h) z t = let j = tag_of gs vs p 60 f i in absurd (omega arith)
  sign-first (Lies.sample b s i j d h) z t = absurd (omega arith)
  sign-first {p = p} (Lies.join {x = x} b s i d f h) z t = let j = tag_of gs vs p 69 x i in absurd (omega arith)

  -- an expression before the others
  pub expr-first : {c : Clock} {es : Exprs} {fs : Frame} {p k q : ℕ} → Lies gs vs S c es fs p k q → 0 < k → 50 ≤ get_or gs p 0 → First gs vs S c es fs p (k - 1) q
  unfolding follows
  expr-first Lies.done z t = absurd (omega arith)
  expr-first (Lies.sign b u h) z t = absurd (omega arith)
  expr-first (Lies.computed {e = e} {us = us} {es = es} {ds = ds} {fs = fs} {r = r} b s f d h) z t =
      record { first = e; others = es; frame = fs; end = r; whole = refl; framed = refl; there = b; known = s; here = Lies.computed b s f d Lies.done; seen = Seen.computed us ds f d; rest = fewer (omega arith) h }
  expr-first {p = p} (Lies.previous {a = a} {es = es} {fs = fs} {r = r} b s i d h) z t =
      record { first = Expr.pre a; others = es; frame = fs; end = r; whole = refl; framed = refl; there = b; known = s; here = Lies.previous b s i d Lies.done; seen = Seen.previous a refl (tag_of gs vs p 58 0 i) i d; rest = fewer (omega arith) h }
  expr-first {p = p} (Lies.follow {a = a} {b = e} {es = es} {fs = fs} {r = m} {s = r} b s i d f h) z t =
      record { first = Expr.arrow a e; others = es; frame = fs; end = r; whole = refl; framed = refl; there = b; known = s; here = Lies.follow b s i d f Lies.done; seen = Seen.follow a e m refl (tag_of gs vs p 59 0 i) i d f; rest = fewer (omega arith) h }
  expr-first {p = p} (Lies.calls {f = f} {us = us} {es = es} {ds = ds} {fs = fs} {r = r} b s i a d h) z t =
      record { first = Expr.call f us; others = es; frame = fs; end = r; whole = refl; framed = refl; there = b; known = s; here = Lies.calls b s i a d Lies.done; seen = Seen.calls f us ds refl (tag_of gs vs p 60 f i) i a (fewer (sym (parts-of gs vs p 60 f 1 i refl)) d); rest = fewer (omega arith) h }
  expr-first (Lies.sample {x = x} {a = a} {es = es} {fs = fs} {r = r} b s i j d h) z t =
      record { first = Expr.when x a; others = es; frame = fs; end = r; whole = refl; framed = refl; there = b; known = s; here = Lies.sample b s i j d Lies.done; seen = Seen.sample x a refl i j d; rest = fewer (omega arith) h }
  expr-first {p = p} (Lies.join {x = x} {a = a} {b = e} {es = es} {fs = fs} {r = m} {s = r} b s i d f h) z t =
      record { first = Expr.merge x a e; others = es; frame = fs; end = r; whole = refl; framed = refl; there = b; known = s; here = Lies.join b s i d f Lies.done; seen = Seen.join x a e m refl (tag_of gs vs p 69 x i) (ap (λ (z : TagValue). z.value) i) d f; rest = fewer (omega arith) h }

  -- an expression by its first token
  pub seen_at : {c : Clock} {es : Exprs} {fs : Frame} {p k q : ℕ} (e : Expr) → es ≡ one e → fs ≡ hole → k ≡ 1 → Lies gs vs S c es fs p k q → (p < length gs) × S c e p q × Seen gs vs S c e p q
  seen_at {c} {es} {fs} {p} {k} {q} e i j n h = go (ltb (get_or gs p 0) 50) refl
    where
      go : (b : Bool) → ltb (get_or gs p 0) 50 ≡ b → (p < length gs) × S c e p q × Seen gs vs S c e p q
      go true t =
          let x = sign-first h (omega arith) (ltb-true (get_or gs p 0) 50 t) in
          absurd (cc x.1)
      go false t =
          let x = expr-first h (omega arith) (ltb-false (get_or gs p 0) 50 t) in
          let a : x.first ≡ e = cc x.whole in
          let m = lies-none x.rest (omega arith) in
          let y : S c x.first p q × Seen gs vs S c x.first p q = subst (λ (z : ℕ). S c x.first p z × Seen gs vs S c x.first p z) m.2 (x.known, x.seen) in
          let w : S c e p q × Seen gs vs S c e p q = subst (λ (z : Expr). S c z p q × Seen gs vs S c z p q) a y in
          (x.there, w.0, w.1)

-- a bare name is known by its tag
pub bare-is : {gs vs : List ℕ} {S : Clock → Expr → ℕ → ℕ → Type 0} {c : Clock} {e : Expr} {p q : ℕ} → Seen gs vs S c e p q → is_bare e ≡ eqb (get_or gs p 0) 54
bare-is (Seen.computed us ds f d) = f.named
bare-is (Seen.previous a i t k d) = rw (i, t)
bare-is (Seen.follow a b r i t k d f) = rw (i, t)
bare-is (Seen.calls f us ds i t k g d) = rw (i, t)
bare-is {gs} {p = p} (Seen.sample x a i lo hi d) = rw i (sym (ne_eqb (get_or gs p 0) 54 (λ z. omega arith)))
bare-is (Seen.join x a b r i t k d f) = rw (i, t)

-- neither of a when's tags
pub no-sample : (t : ℕ) → (t ≡ 67 → ⊥) → (t ≡ 68 → ⊥) → 67 ≤ t → t < 69 → ⊥
no-sample t a b lo hi = two (t - 67) refl
  where
    two : (d : ℕ) → t - 67 ≡ d → ⊥
    two zero z = a (omega arith)
    two (suc zero) z = b (omega arith)
    two (suc (suc d)) z = omega arith

-- a when's tag
not-sample : (t : ℕ) → is_plain t ≡ true → 67 ≤ t → t < 69 → ⊥
unfolding is_plain
not-sample t a = no-sample t (λ e. plain-not t 67 a e refl) (λ e. plain-not t 68 a e refl)

-- by its tag
module _ {gs vs : List ℕ} {S : Clock → Expr → ℕ → ℕ → Type 0} {c : Clock} {e : Expr} {p q : ℕ} where
  pub previous-in : Seen gs vs S c e p q → get_or gs p 0 ≡ 58 → (a : Expr) × (e ≡ Expr.pre a) × (code_at gs vs p ≡ tag_value 58 0) × LiesAt gs vs S c a (p + 1) q
  unfolding is_plain
  previous-in (Seen.computed us ds f d) t = absurd (plain-not (get_or gs p 0) 58 f.plain t refl)
  previous-in (Seen.previous a i u k d) t = (a, i, k, d)
  previous-in (Seen.follow a b r i u k d f) t = absurd (omega arith)
  previous-in (Seen.calls f us ds i u k g d) t = absurd (omega arith)
  previous-in (Seen.sample x a i lo hi d) t = absurd (omega arith)
  previous-in (Seen.join x a b r i u k d f) t = absurd (omega arith)

  pub follow-in : Seen gs vs S c e p q → get_or gs p 0 ≡ 59 → (a b : Expr) × (r : ℕ) × (e ≡ Expr.arrow a b) × (code_at gs vs p ≡ tag_value 59 0) × LiesAt gs vs S c a (p + 1) r × LiesAt gs vs S c b r q
  unfolding is_plain
  follow-in (Seen.computed us ds f d) t = absurd (plain-not (get_or gs p 0) 59 f.plain t refl)
  follow-in (Seen.previous a i u k d) t = absurd (omega arith)
  follow-in (Seen.follow a b r i u k d f) t = (a, b, r, i, k, d, f)
  follow-in (Seen.calls f us ds i u k g d) t = absurd (omega arith)
  follow-in (Seen.sample x a i lo hi d) t = absurd (omega arith)
  follow-in (Seen.join x a b r i u k d f) t = absurd (omega arith)

  pub sample_in : Seen gs vs S c e p q → 67 ≤ get_or gs p 0 → get_or gs p 0 < 69 → (x : Condition) × (a : Expr) × (e ≡ Expr.when x a) × LiesAt gs vs S (parent c) a (p + 1) q
  sample_in (Seen.computed us ds f d) lo hi = absurd (not-sample (get_or gs p 0) f.plain lo hi)
  sample_in (Seen.previous a i u k d) lo hi = absurd (omega arith)
  sample_in (Seen.follow a b r i u k d f) lo hi = absurd (omega arith)
  sample_in (Seen.calls f us ds i u k g d) lo hi = absurd (omega arith)
  sample_in (Seen.sample x a i m n d) lo hi = (x, a, i, d)
  sample_in (Seen.join x a b r i u k d f) lo hi = absurd (omega arith)

  pub join-in : Seen gs vs S c e p q → get_or gs p 0 ≡ 69 → (x : ℕ) × (a b : Expr) × (r : ℕ) × (e ≡ Expr.merge x a b) × (get_or vs p 0 ≡ x) × LiesAt gs vs S (c ↓ is_on x) a (p + 1) r × LiesAt gs vs S (c ↓ is_not x) b r q
  unfolding is_plain
  join-in (Seen.computed us ds f d) t = absurd (plain-not (get_or gs p 0) 69 f.plain t refl)
  join-in (Seen.previous a i u k d) t = absurd (omega arith)
  join-in (Seen.follow a b r i u k d f) t = absurd (omega arith)
  join-in (Seen.calls f us ds i u k g d) t = absurd (omega arith)
  join-in (Seen.sample x a i lo hi d) t = absurd (omega arith)
  join-in (Seen.join x a b r i u k d f) t = (x, a, b, r, i, k, d, f)

-- an expression and the others
pub seen-cons : {gs vs : List ℕ} {S : Clock → Expr → ℕ → ℕ → Type 0} {c : Clock} {e : Expr} {es : Exprs} {fs : Frame} {p r k q : ℕ} → p < length gs → S c e p r → Seen gs vs S c e p r → Lies gs vs S c es fs r k q → Lies gs vs S c (Exprs.and e es) (none ∷ fs) p (suc k) q
unfolding follows
seen-cons b s (Seen.computed us ds f d) h = Lies.computed b s f d h
seen-cons b s (Seen.previous a i t u d) h = rw i (Lies.previous b (rw i at s) u d h)
seen-cons b s (Seen.follow a f m i t u d g) h = rw i (Lies.follow b (rw i at s) u d g h)
seen-cons {gs} {vs} {S} {c} {p = p} {r = r} b s (Seen.calls f us ds i t u g d) h = rw i (Lies.calls b (rw i at s) u (rw i at g) (subst (λ (n : ℕ). Lies gs vs S c us ds (p + 1) n r) (parts-of gs vs p 60 f 1 u refl) d) h)
seen-cons b s (Seen.sample x a i lo hi d) h = rw i (Lies.sample b (rw i at s) lo hi d h)
seen-cons b s (Seen.join x a f m i t u d g) h = rw i (Lies.join b (rw i at s) (ap₂ tag_value t u) d g h)

-- a call and a form that computes, by their tags
module _ {gs vs : List ℕ} {S : Clock → Expr → ℕ → ℕ → Type 0} {c : Clock} {e : Expr} {p q : ℕ} where
  pub calls-in : Seen gs vs S c e p q → get_or gs p 0 ≡ 60 → (f : ℕ) × (us : Exprs) × (ds : Frame) × (e ≡ Expr.call f us) × (code_at gs vs p ≡ tag_value 60 f) × Framed gs vs e us p ds × Lies gs vs S c us ds (p + 1) 1 q
  unfolding is_plain follows
  calls-in (Seen.computed us ds f d) t = absurd (plain-not (get_or gs p 0) 60 f.plain t refl)
  calls-in (Seen.previous a i u k d) t = absurd (omega arith)
  calls-in (Seen.follow a b r i u k d f) t = absurd (omega arith)
  calls-in (Seen.calls f us ds i u k g d) t = (f, us, ds, i, k, g, subst (λ (n : ℕ). Lies gs vs S c us ds (p + 1) n q) (parts-of gs vs p 60 f 1 k refl) d)
  calls-in (Seen.sample x a i lo hi d) t = absurd (omega arith)
  calls-in (Seen.join x a b r i u k d f) t = absurd (omega arith)

  pub plain_in : Seen gs vs S c e p q → (get_or gs p 0 ≡ 58 → ⊥) → (get_or gs p 0 ≡ 59 → ⊥) → (get_or gs p 0 ≡ 60 → ⊥) → (get_or gs p 0 ≡ 67 → ⊥) → (get_or gs p 0 ≡ 68 → ⊥) → (get_or gs p 0 ≡ 69 → ⊥) → (us : Exprs) × (ds : Frame) × Formed gs vs e us p ds × Lies gs vs S c us ds (p + 1) (parts_at gs vs p) q
  plain_in (Seen.computed us ds f d) a b g h i j = (us, ds, f, d)
  plain_in (Seen.previous x k u m d) a b g h i j = absurd (a u)
  plain_in (Seen.follow x y r k u m d f) a b g h i j = absurd (b u)
  plain_in (Seen.calls f us ds k u m o d) a b g h i j = absurd (g u)
  plain_in (Seen.sample x y k lo hi d) a b g h i j = absurd (no-sample (get_or gs p 0) h i lo hi)
  plain_in (Seen.join x y z r k u m d f) a b g h i j = absurd (j u)
