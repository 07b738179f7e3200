-- Parts on the same clock lie one after another: an expression's own before the others; and what a first token begins.
-- Assumes nothing.
use mathlib.Core.Path.{◌≡◌, refl, sym, ◌∙◌, ap, subst}
use mathlib.Core.Bool.{Bool, true, false, true≢false}
use mathlib.Core.List.{List, [], ◌∷◌, ◌++◌, append-nil}
use mathlib.Core.Option.{none, some}
use Prim.Native.Nat.{ℕ, suc, ◌+◌, ◌-◌, ◌≤◌, ◌<◌}
use native.Mathlib.Omega.{arith}
use lib.Dec.{eqb, ltb, leb}
use lib.ListN.{length, get_or}
use borrow.Author.Tests.{ltb-true, ltb-false, leb-true, eqb-true, eqb-false}
use Rattle.definitions.specs.declared.ExprToken.{ExprToken}
use Rattle.definitions.specs.Lists.{choose}
use Rattle.definitions.specs.Bytes.{tokens}
use Rattle.definitions.specs.Tokens.{TagValue, given, expr_token_of}
use Rattle.definitions.specs.Tree.{Expr, Exprs}
use Rattle.definitions.specs.Reading.{got}
use Rattle.definitions.specs.Grammar.{append}
use Rattle.definitions.specs.Clock.{Clock, is_on, is_not}
use Rattle.definitions.specs.InferClocks.{Clocks, used_elsewhere, Finding, site, must_be_on, check, checks}
use Rattle.layout.specs.Owed.{follows}
use Rattle.layout.specs.Marks.{is_sample}
use Rattle.operands.specs.declared.Role.{Role}
use Rattle.operands.specs.Role.{role_of, role_of_expr, one, two}
use Rattle.operands.specs.Spread.{tree}
use Rattle.operands.proofs.Laws.{reads, token-there}
use Rattle.stateless.specs.Need.{is_bare}
use Rattle.skeleton.specs.Lies.{Frame, hole, is_plain, parts_at, Computes, Lies}
use Rattle.skeleton.specs.Sites.{is_site, WasRead, Sited}
use Rattle.skeleton.proofs.Laws.{fewer, no-sample, plain-not, Seen, sign-first, expr-first, seen-cons}
use Rattle.checking.specs.Walk.{is_site_tag, meets}
use Rattle.checking.proofs.Laws.{meets-name, meets-none}

-- ---- parts, then others
module _ {gs vs : List ℕ} {S : Clock → Expr → ℕ → ℕ → Type 0} where
  pub lies-join : {c : Clock} {us es : Exprs} {ds fs : Frame} {p a r k q : ℕ} → Lies gs vs S c us ds p a r → Lies gs vs S c es fs r k q → Lies gs vs S c (append us es) (ds ++ fs) p (a + k) q
  lies-join Lies.done o = fewer (omega arith) o
  lies-join {k = k} (Lies.sign {k = a} b t h) o = fewer (omega arith) (Lies.sign {k = a + k} b t (fewer (omega arith) (lies-join h o)))
  lies-join (Lies.computed b s f d h) o = fewer (omega arith) (Lies.computed b s f d (lies-join h o))
  lies-join (Lies.previous b s i d h) o = fewer (omega arith) (Lies.previous b s i d (lies-join h o))
  lies-join (Lies.follow b s i d f h) o = fewer (omega arith) (Lies.follow b s i d f (lies-join h o))
  lies-join (Lies.calls b s i a d h) o = fewer (omega arith) (Lies.calls b s i a d (lies-join h o))
  lies-join (Lies.sample b s i j d h) o = fewer (omega arith) (Lies.sample b s i j d (lies-join h o))
  lies-join (Lies.join b s i d f h) o = fewer (omega arith) (Lies.join b s i d f (lies-join h o))

-- the same apart, where each expression ends at one place whatever is known of it
module _ (gs vs : List ℕ) (S T : Clock → Expr → ℕ → ℕ → Type 0) (ends : (c : Clock) (e : Expr) (p r s : ℕ) → S c e p r → T c e p s → s ≡ r) (es : Exprs) (fs : Frame) (k q : ℕ) where
  -- what parts and others are apart
  abbrev Both : Clock → Exprs → Frame → ℕ → ℕ → ℕ → Type 0
  Both c us ds p a r = Lies gs vs T c us ds p a r × Lies gs vs T c es fs r k q

  part-one : (c : Clock) (e : Expr) (us : Exprs) (ds : Frame) (p r a z m : ℕ) → p < length gs → S c e p r → m ≡ suc a + k → Lies gs vs T c (Exprs.and e (append us es)) (none ∷ (ds ++ fs)) p m q →
      ((n : ℕ) → n ≡ a + k → Lies gs vs T c (append us es) (ds ++ fs) r n q → Both c us ds r a z) → Both c (Exprs.and e us) (none ∷ ds) p (suc a) z
  part-one c e us ds p r a z m b s i g f = go (ltb (get_or gs p 0) 50) refl
    where
      go : (t : Bool) → ltb (get_or gs p 0) 50 ≡ t → Both c (Exprs.and e us) (none ∷ ds) p (suc a) z
      go true t =
          let x = sign-first g (omega arith) (ltb-true (get_or gs p 0) 50 t) in
          absurd (cc x.1)
      go false t =
          let x = expr-first g (omega arith) (ltb-false (get_or gs p 0) 50 t) in
          let i₁ : x.first ≡ e = cc x.whole in
          let i₂ : x.others ≡ append us es = cc x.whole in
          let i₃ : x.frame ≡ ds ++ fs = cc x.framed in
          let known : T c e p x.end = subst (λ (w : Expr). T c w p x.end) i₁ x.known in
          let seen : Seen gs vs T c e p x.end = subst (λ (w : Expr). Seen gs vs T c w p x.end) i₁ x.seen in
          let at : x.end ≡ r = ends c e p r x.end s known in
          let rest : Lies gs vs T c (append us es) (ds ++ fs) r (m - 1) q = subst (λ (w : ℕ). Lies gs vs T c (append us es) (ds ++ fs) w (m - 1) q) at (subst (λ (w : Frame). Lies gs vs T c (append us es) w x.end (m - 1) q) i₃ (subst (λ (w : Exprs). Lies gs vs T c w x.frame x.end (m - 1) q) i₂ x.rest)) in
          let o = f (m - 1) (omega arith) rest in
          (seen-cons b (subst (λ (w : ℕ). T c e p w) at known) (subst (λ (w : ℕ). Seen gs vs T c e p w) at seen) o.0, o.1)

  pub lies-apart : {c : Clock} {us : Exprs} {ds : Frame} {p a r : ℕ} → Lies gs vs S c us ds p a r → (m : ℕ) → m ≡ a + k → Lies gs vs T c (append us es) (ds ++ fs) p m q → Both c us ds p a r
  lies-apart {c} {us} {ds} {p} {a} {r} Lies.done m i g = (Lies.done, subst (λ (z : ℕ). Lies gs vs T c es fs p z q) (omega arith) g)
  lies-apart {c} {us} {p = p} (Lies.sign {fs = ds} b t h) m i g =
      let x = sign-first g (omega arith) t in
      let j : x.0 ≡ ds ++ fs = cc x.1 in
      let o = lies-apart h (m - 1 + parts_at gs vs p) (omega arith) (subst (λ (w : Frame). Lies gs vs T c (append us es) w (p + 1) (m - 1 + parts_at gs vs p) q) j x.3) in
      (Lies.sign b t o.0, o.1)
  lies-apart {c} {p = p} {r = z} (Lies.computed {e = e} {es = us} {fs = ds} {k = a} {r = r} b s f d h) m i g = part-one c e us ds p r a z m b s i g (λ n j o. lies-apart h n j o)
  lies-apart {c} {p = p} {r = z} (Lies.previous {a = e} {es = us} {fs = ds} {k = a} {r = r} b s u d h) m i g = part-one c (Expr.pre e) us ds p r a z m b s i g (λ n j o. lies-apart h n j o)
  lies-apart {c} {p = p} {r = z} (Lies.follow {a = e} {b = f} {es = us} {fs = ds} {k = a} {s = r} b s u d v h) m i g = part-one c (Expr.arrow e f) us ds p r a z m b s i g (λ n j o. lies-apart h n j o)
  lies-apart {c} {p = p} {r = z} (Lies.calls {f = f} {us = us'} {es = us} {fs = ds} {k = a} {r = r} b s u v d h) m i g = part-one c (Expr.call f us') us ds p r a z m b s i g (λ n j o. lies-apart h n j o)
  lies-apart {c} {p = p} {r = z} (Lies.sample {x = x} {a = e} {es = us} {fs = ds} {k = a} {r = r} b s u v d h) m i g = part-one c (Expr.when x e) us ds p r a z m b s i g (λ n j o. lies-apart h n j o)
  lies-apart {c} {p = p} {r = z} (Lies.join {x = x} {a = e} {b = f} {es = us} {fs = ds} {k = a} {s = r} b s u d v h) m i g = part-one c (Expr.merge x e f) us ds p r a z m b s i g (λ n j o. lies-apart h n j o)

-- ---- what a first token begins
module _ (M : ℕ) (gs vs : List ℕ) where
  -- a read expression ends at one place
  pub read-ends : (later : List ℕ) (c : Clock) (e : Expr) (p r s : ℕ) → WasRead M gs vs c e p r → Sited M gs vs later c e p s → s ≡ r
  read-ends later c e p r s g h = let i = sym h.stands ∙ g in cc i

  module _ (same : length vs ≡ length gs) (p : ℕ) (e : Expr) (q : ℕ) (g : tree M (tokens gs vs) p ≡ got e q) where
    -- a token with a name of the sheet, and the role that it gives
    token-is : (t : ExprToken) → expr_token_of M (get_or gs p 0) (get_or vs p 0) ≡ given (ltb (get_or vs p 0) M) t → (get_or vs p 0 < M) × (role_of t ≡ role_of_expr e)
    token-is t i =
        let a = reads M (tokens gs vs) p e q g in
        go a.0 (ltb (get_or vs p 0) M) refl (sym i ∙ token-there (expr_token_of M) gs vs same p a.0 (p + 1) a.1) a.2
      where
        go : (u : ExprToken) (b : Bool) → ltb (get_or vs p 0) M ≡ b → given b t ≡ some u → role_of u ≡ role_of_expr e → (get_or vs p 0 < M) × (role_of t ≡ role_of_expr e)
        go u true h j k = let l : t ≡ u = cc j in (ltb-true (get_or vs p 0) M h, ap role_of l ∙ k)
        go u false h j k = absurd (cc j)

    pub name-is : get_or gs p 0 ≡ 54 → (get_or vs p 0 < M) × (Role.Name (get_or vs p 0) ≡ role_of_expr e)
    unfolding expr_token_of
    name-is t = token-is (ExprToken.Var (get_or vs p 0)) (rw t)

    pub when-is : get_or gs p 0 ≡ 67 → (get_or vs p 0 < M) × (Role.Sample (is_on (get_or vs p 0)) ≡ role_of_expr e)
    unfolding expr_token_of
    when-is t = token-is (ExprToken.When (get_or vs p 0)) (rw t)

    pub when-not-is : get_or gs p 0 ≡ 68 → (get_or vs p 0 < M) × (Role.Sample (is_not (get_or vs p 0)) ≡ role_of_expr e)
    unfolding expr_token_of
    when-not-is t = token-is (ExprToken.WhenNot (get_or vs p 0)) (rw t)

    pub merge-is : get_or gs p 0 ≡ 69 → (get_or vs p 0 < M) × (Role.Join (get_or vs p 0) ≡ role_of_expr e)
    unfolding expr_token_of
    merge-is t = token-is (ExprToken.Merge (get_or vs p 0)) (rw t)

-- a tag of no when and no merge, and one of these
pub not-sampled : (tag : ℕ) → is_sample tag ≡ false → (tag ≡ 67 → ⊥) × (tag ≡ 68 → ⊥) × (tag ≡ 69 → ⊥)
unfolding is_sample
not-sampled tag h = (other 67 refl, other 68 refl, other 69 refl)
  where
    other : (k : ℕ) → is_sample k ≡ true → tag ≡ k → ⊥
    other k b i = true≢false (sym b ∙ (ap is_sample (sym i) ∙ h))

pub sampled-range : (tag : ℕ) → is_sample tag ≡ true → (67 ≤ tag) × (tag ≤ 69)
unfolding is_sample
sampled-range tag h = go (ltb tag 67) refl h
  where
    go : (b : Bool) → ltb tag 67 ≡ b → choose b false (leb tag 69) ≡ true → (67 ≤ tag) × (tag ≤ 69)
    go true i j = absurd (true≢false (sym j))
    go false i j = (ltb-false tag 67 i, leb-true tag 69 j)

-- an expression that is no when and no merge: its own parts on its clock, what is met at its token, and how it is made again
pub record Opened (M : ℕ) (gs vs : List ℕ) (c : Clock) (e : Expr) (p q : ℕ) : Type 0 where
  pub own : Exprs
  pub frame : Frame
  pub inside : Lies gs vs (WasRead M gs vs) c own frame (p + 1) (parts_at gs vs p) q
  pub met : (clocks : Clocks) (i : ℕ) → meets clocks i c (get_or gs p 0) (get_or vs p 0) ++ checks clocks i c own ≡ check clocks i c e
  pub marked : is_site e ≡ true → is_site_tag (get_or gs p 0) ≡ true
  pub again : (later : List ℕ) → Lies gs vs (Sited M gs vs later) c own frame (p + 1) (parts_at gs vs p) q → Seen gs vs (Sited M gs vs later) c e p q

module _ (M : ℕ) (gs vs : List ℕ) (same : length vs ≡ length gs) (c : Clock) (p : ℕ) where
  -- what is met at a form that computes
  computed-met : (e : Expr) (us : Exprs) → Computes e us → (q : ℕ) → tree M (tokens gs vs) p ≡ got e q → is_bare e ≡ eqb (get_or gs p 0) 54 → (get_or gs p 0 ≡ 58 → ⊥) → (get_or gs p 0 ≡ 59 → ⊥) →
      (clocks : Clocks) (i : ℕ) → meets clocks i c (get_or gs p 0) (get_or vs p 0) ++ checks clocks i c us ≡ check clocks i c e
  unfolding check role_of_expr
  computed-met e us Computes.constant q g n a b clocks i = ap (λ (l : List Finding). l ++ []) (meets-none clocks i c (get_or gs p 0) (get_or vs p 0) (eqb-false (get_or gs p 0) 54 (sym n)) a b)
  computed-met e us (Computes.name {x = x}) q g n a b clocks i =
      let t = eqb-true (get_or gs p 0) 54 (sym n) in
      let v : get_or vs p 0 ≡ x = cc (name-is M gs vs same p (Expr.var x) q g t).1 in
      append-nil _ ∙ (sym (meets-name clocks i c (get_or gs p 0) (get_or vs p 0) t) ∙ ap (λ (y : ℕ). must_be_on clocks i c y (λ d. used_elsewhere y d c)) v)
  computed-met e us (Computes.computing {es = es}) q g n a b clocks i = ap (λ (l : List Finding). l ++ checks clocks i c es) (meets-none clocks i c (get_or gs p 0) (get_or vs p 0) (eqb-false (get_or gs p 0) 54 (sym n)) a b)

  computed-none : (e : Expr) (us : Exprs) → Computes e us → is_site e ≡ true → is_site_tag (get_or gs p 0) ≡ true
  computed-none e us Computes.constant h = absurd (true≢false (sym h))
  computed-none e us Computes.name h = absurd (true≢false (sym h))
  computed-none e us Computes.computing h = absurd (true≢false (sym h))

  pub opened : (e : Expr) (q : ℕ) → tree M (tokens gs vs) p ≡ got e q → Seen gs vs (WasRead M gs vs) c e p q → (get_or gs p 0 ≡ 67 → ⊥) → (get_or gs p 0 ≡ 68 → ⊥) → (get_or gs p 0 ≡ 69 → ⊥) → Opened M gs vs c e p q
  unfolding check meets follows is_plain
  opened e q g (Seen.computed us ds f d) n67 n68 n69 =
      record {
        own = us;
        frame = ds;
        inside = d;
        met = computed-met e us f.computes q g f.named (λ t. plain-not (get_or gs p 0) 58 f.plain t refl) (λ t. plain-not (get_or gs p 0) 59 f.plain t refl);
        marked = computed-none e us f.computes;
        again = λ later o. Seen.computed us ds f o;
      }
  opened e q g (Seen.previous a i t k d) n67 n68 n69 =
      let u : parts_at gs vs p ≡ 1 = ap (λ (z : TagValue). follows z.tag z.value) k in
      record {
        own = one a;
        frame = hole;
        inside = subst (λ (m : ℕ). Lies gs vs (WasRead M gs vs) c (one a) hole (p + 1) m q) (sym u) d;
        met = λ clocks n. rw (i, t) (ap (λ (l : List Finding). site c ∷ l) (append-nil _));
        marked = λ h. rw t;
        again = λ later o. Seen.previous a i t k (subst (λ (m : ℕ). Lies gs vs (Sited M gs vs later) c (one a) hole (p + 1) m q) u o);
      }
  opened e q g (Seen.follow a b r i t k d f) n67 n68 n69 =
      let u : parts_at gs vs p ≡ 2 = ap (λ (z : TagValue). follows z.tag z.value) k in
      record {
        own = two a b;
        frame = none ∷ hole;
        inside = subst (λ (m : ℕ). Lies gs vs (WasRead M gs vs) c (two a b) (none ∷ hole) (p + 1) m q) (sym u) (lies-join d f);
        met = λ clocks n. rw (i, t) (ap (λ (l : List Finding). site c ∷ (check clocks n c a ++ l)) (append-nil _));
        marked = λ h. rw t;
        again = λ later o. let x = lies-apart gs vs (WasRead M gs vs) (Sited M gs vs later) (read-ends M gs vs later) (one b) hole 1 q d (parts_at gs vs p) u o in Seen.follow a b r i t k x.0 x.1;
      }
  opened e q g (Seen.calls f us ds i t k a d) n67 n68 n69 =
      record {
        own = us;
        frame = ds;
        inside = d;
        met = λ clocks n. rw (i, t);
        marked = λ h. rw t;
        again = λ later o. Seen.calls f us ds i t k a o;
      }
  opened e q g (Seen.sample x a i lo hi d) n67 n68 n69 = absurd (no-sample (get_or gs p 0) n67 n68 lo hi)
  opened e q g (Seen.join x a b r i t k d f) n67 n68 n69 = absurd (n69 t)
