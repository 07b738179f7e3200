-- Operands with their gap: from the readings of the definitions, taken apart one by one, and their places.
-- Assumes nothing.
use Rattle.std.specs.Prelude.{Result, Ok}
use mathlib.Core.Path.{◌≡◌, refl, sym, ◌∙◌, ap}
use mathlib.Core.List.{List, []}
use mathlib.Core.Bool.{Bool, true, false, ◌&&◌}
use Prim.Native.Nat.{ℕ, zero, suc, ◌+◌, ◌-◌, ◌≤◌, ◌<◌}
use native.Mathlib.Omega.{arith}
use native.Mathlib.Numerals.{sub-one, add-one}
use mathlib.Core.Option.{Option, none, some}
use lib.ListN.{length, get_or}
use mir.Val.{Fits}
use mir.Syntax.{w32}
use lib.Dec.{leb, ltb}
use borrow.Author.Tests.{lt-ltb, leb-true, ne_eqb}
use Rattle.definitions.specs.declared.Refusal.{Refusal}
use Rattle.definitions.specs.declared.ExprToken.{ExprToken}
use Rattle.definitions.specs.Lists.{choose}
use Rattle.definitions.specs.Tokens.{TagValue, expr_token_of}
use Rattle.definitions.specs.Tree.{Expr, Exprs}
use Rattle.definitions.specs.Reading.{got, rejected, Reader, allowed, token, limited}
use Rattle.definitions.specs.Grammar.{tagged, high, name, count, counted, ty, append, exprs, fields, form, expr, most_counted, deepest_type}
use Rattle.definitions.specs.Bytes.{tokens}
use Rattle.grammar.specs.declared.Shape.{Shape}
use Rattle.grammar.specs.Shape.{shape_of, following}
use Rattle.grammar.specs.Outcome.{told}
use Rattle.grammar.proofs.Laws.{after-got, wrap-got, tokens-length, there, told-got}
use Rattle.grammar.proofs.Longer.{token-got, type-grows, expr-grows}
use Rattle.grammar.proofs.Got.{exprs-cons}
use Rattle.operands.specs.declared.Gap.{Gap}
use Rattle.operands.specs.declared.Operand.{Operand}
use Rattle.operands.specs.declared.Operands.{Operands}
use Rattle.operands.specs.declared.View.{View}
use Rattle.operands.specs.Role.{role_of, role_of_expr, operands_of}
use Rattle.operands.specs.Spread.{tree, before, behind, later, spread, operand_at, rest_at}
use Rattle.layout.specs.Spans.{past_in}
use Rattle.operands.specs.Laid.{skipped, plain_at, behind_count, behind_start, iterated, operands_at}
use Rattle.operands.specs.Viewed.{OperandsLaid, Viewed, Split, Stepped}
use Rattle.operands.proofs.Deeper.{tree-head}
use Rattle.operands.proofs.Forms.{laid, formed}

-- a count or a name is one token, within the sheet
tagged-place : (tag bound : ℕ) (ts : List TagValue) (p n q : ℕ) → tagged tag bound ts p ≡ got n q → (q ≡ p + 1) × (p < length ts)
unfolding tagged
tagged-place tag bound ts p n q g = token-got _ ts p n q g

pub name-place : (M : ℕ) (ts : List TagValue) (p n q : ℕ) → name M ts p ≡ got n q → (q ≡ p + 1) × (p < length ts)
unfolding name
name-place M ts p n q g = tagged-place 4 M ts p n q g

pub high-place : (ts : List TagValue) (p n q : ℕ) → high ts p ≡ got n q → (q ≡ p + 1) × (p < length ts)
unfolding high
high-place ts p n q g = tagged-place 5 _ ts p n q g

-- a count is within its limit too
pub counted-place : (tag low most : ℕ) (ts : List TagValue) (p n q : ℕ) → counted tag low most ts p ≡ got n q → (q ≡ p + 1) × (p < length ts) × (n ≤ most)
unfolding counted limited
counted-place tag low most ts p n q g =
    let m = after-got (tagged tag _ ts p) _ n q g in
    let h = tagged-place tag _ ts p m.0 m.1 m.2 in
    go m.0 m.1 (leb low m.0) (leb m.0 most) refl h m.3
  where
    go : (k s : ℕ) (a b : Bool) → leb k most ≡ b → (s ≡ p + 1) × (p < length ts) → choose (a && b) (got k s) (rejected (Refusal.Limit p)) ≡ got n q → (q ≡ p + 1) × (p < length ts) × (n ≤ most)
    go k s true true e h g = let i : k ≡ n = cc in let j : s ≡ q = cc in let l = leb-true k most e in (omega arith, omega arith, omega arith)
    go k s true false e h g = absurd cc
    go k s false b e h g = absurd cc

pub count-place : (most : ℕ) (ts : List TagValue) (p n q : ℕ) → count most ts p ≡ got n q → (q ≡ p + 1) × (p < length ts) × (n ≤ most)
unfolding count
count-place most ts p n q g = counted-place 3 0 most ts p n q g

-- the places of an operand and of what follows it
pub before-place : (M : ℕ) (g : Gap) (ts : List TagValue) (p n q : ℕ) → before M g ts p ≡ got n q → (q ≡ operand_at (length ts) g p) × (p ≤ q)
unfolding before
before-place M Gap.Nothing ts p n q e = let i : p ≡ q = cc in (sym i, omega arith)
before-place M Gap.Names ts p n q e = let h = name-place M ts p n q e in (rw (lt-ltb p (length ts) h.1) h.0, omega arith)
before-place M Gap.Between ts p n q e = let i : p ≡ q = cc in (sym i, omega arith)

pub behind-place : (g : Gap) (ts : List TagValue) (p n q : ℕ) → p ≤ length ts → behind g ts p ≡ got n q → (q ≡ rest_at (length ts) g p) × (p ≤ q) × (q ≤ length ts)
unfolding behind
behind-place Gap.Nothing ts p n q l e = let i : p ≡ q = cc in (sym i, omega arith, omega arith)
behind-place Gap.Names ts p n q l e = let i : p ≡ q = cc in (sym i, omega arith, omega arith)
behind-place Gap.Between ts p n q l e = let h = count-place _ ts p n q e in (rw (lt-ltb p (length ts) h.1) h.0, omega arith, omega arith)

module _ (M : ℕ) (r : Reader Expr) (ts : List TagValue) where
  -- no operand
  pub spread-nil : (g : Gap) (k p : ℕ) (es : Exprs) (q : ℕ) → k ≡ 0 → spread M g k r ts p ≡ got es q → (es ≡ Exprs.end) × (q ≡ p)
  unfolding spread
  spread-nil g k p es q z e = let f : got Exprs.end p ≡ got es q = rw z at e in let i : es ≡ Exprs.end = cc in let j : q ≡ p = cc in (i, j)

  -- a first operand and the rest
  pub spread-cons : (g : Gap) (k p : ℕ) (es : Exprs) (q : ℕ) → (k ≡ 0 → ⊥) → spread M g k r ts p ≡ got es q →
      (x s : ℕ) × (e : Expr) × (u : ℕ) × (y w : ℕ) × (rest : Exprs) × (before M g ts p ≡ got x s) × (r ts s ≡ got e u) × (behind g ts u ≡ got y w) × (spread M (later g) (k - 1) r ts w ≡ got rest q) × (es ≡ Exprs.and e rest)
  unfolding spread
  spread-cons g zero p es q z h = absurd (z refl)
  spread-cons g (suc k) p es q z h =
      let a = after-got (before M g ts p) _ es q h in
      let b = after-got (r ts a.1) _ es q a.3 in
      let c = after-got (behind g ts b.1) _ es q b.3 in
      let d = wrap-got (spread M (later g) k r ts c.1) _ es q c.3 in
      (a.0, a.1, b.0, b.1, c.0, c.1, d.0, a.2, b.2, c.2, rw (sub-one (suc k)) d.1, d.2)

  -- operands with nothing between them
  pub plain : (k p : ℕ) (es : Exprs) (q : ℕ) → exprs k r ts p ≡ got es q → spread M Gap.Nothing k r ts p ≡ got es q
  unfolding spread exprs before behind
  plain zero p es q g = g
  plain (suc k) p es q g =
      let a = after-got (r ts p) _ es q g in
      let b = wrap-got (exprs k r ts a.1) _ es q a.3 in
      rw a.2 (rw (plain k a.1 b.0 q b.1) (ap (λ (x : Exprs). got x q) (sym b.2)))

  -- fields
  pub named : (k p : ℕ) (fs : List ℕ × Exprs) (q : ℕ) → fields M k r ts p ≡ got fs q → spread M Gap.Names k r ts p ≡ got fs.1 q
  unfolding spread fields before behind
  named zero p fs q g = let i : fs ≡ ([], Exprs.end) = cc in let j : p ≡ q = cc in rw (i, j)
  named (suc k) p fs q g =
      let n = after-got (name M ts p) _ fs q g in
      let a = after-got (r ts n.1) _ fs q n.3 in
      let b = wrap-got (fields M k r ts a.1) _ fs q a.3 in
      rw n.2 (rw a.2 (rw (named k a.1 b.0 q b.1) (ap (λ (x : List ℕ × Exprs). got x.1 q) (sym b.2))))

  -- a start value, a count, and so many operands
  pub started : (p : ℕ) (s : Exprs) (u n w : ℕ) (es : Exprs) (q : ℕ) → exprs 1 r ts p ≡ got s u → count most_counted ts u ≡ got n w → exprs n r ts w ≡ got es q → spread M Gap.Between (n + 1) r ts p ≡ got (append s es) q
  unfolding spread exprs before behind
  started p s u n w es q a b c =
      let d = wrap-got (r ts p) (λ e. Exprs.and e Exprs.end) s u a in
      rw (add-one n) (rw d.1 (rw b (rw (plain n w es q c) (ap (λ (x : Exprs). got (append x es) q) (sym d.2)))))

-- operands do not go back
pub spread-grows : (M d : ℕ) (ts : List TagValue) (g : Gap) (k p : ℕ) (es : Exprs) (q : ℕ) → spread M g k (expr M d) ts p ≡ got es q → p ≤ q
spread-grows M d ts g zero p es q h = let i = (spread-nil M (expr M d) ts g zero p es q refl h).1 in omega arith
spread-grows M d ts g (suc k) p es q h =
    let c = spread-cons M (expr M d) ts g (suc k) p es q (λ z. omega (arith, z)) h in
    let a = (before-place M g ts p c.0 c.1 c.7).1 in
    let b = expr-grows M d ts c.1 c.2 c.3 c.8 in
    let f = behind-place g ts c.3 c.4 c.5 b.1 c.9 in
    let i = spread-grows M d ts (later g) k c.5 c.6 q (rw (sub-one (suc k)) at c.10) in
    omega arith

-- the operands of a first token's shape stand where the code finds them
module _ (M : ℕ) (ts : List TagValue) where
  -- the operands es, to q, stand from p on as o says
  abbrev pub Lie : Exprs → ℕ → ℕ → Operands → Type 0
  Lie es q p o = (spread M o.rest.gap o.count (tree M) ts o.rest.next ≡ got es q) × (p ≤ o.rest.next)

  counted-lie : (p n s : ℕ) (es : Exprs) (q : ℕ) → count most_counted ts p ≡ got n s → exprs n (tree M) ts s ≡ got es q → Lie es q p (behind_count Gap.Nothing p (counted 3 0 most_counted ts p))
  unfolding count
  counted-lie p n s es q c g = let l = counted-place 3 0 most_counted ts p n s c in rw c (plain M (tree M) ts n s es q g, omega arith)

  started-lie : (p : ℕ) (s : Exprs) (u n w : ℕ) (es : Exprs) (q : ℕ) → exprs 1 (tree M) ts p ≡ got s u → count most_counted ts u ≡ got n w → exprs n (tree M) ts w ≡ got es q → Lie (append s es) q p (behind_start p (counted 3 0 most_counted ts (skipped p (tree M ts p))))
  unfolding count exprs
  started-lie p s u n w es q a c g =
      let b = wrap-got (tree M ts p) (λ e. Exprs.and e Exprs.end) s u a in
      rw b.1 (rw c (started M (tree M) ts p s u n w es q a c g, omega arith))

  iterated-lie : (p k : ℕ) (s : Exprs) (u n w : ℕ) (es : Exprs) (q : ℕ) → k ≤ 1 → exprs k (tree M) ts p ≡ got s u → count most_counted ts u ≡ got n w → exprs n (tree M) ts w ≡ got es q → Lie (append s es) q p (iterated M ts p (got k p))
  unfolding exprs
  iterated-lie p zero s u n w es q l a c g =
      let i : Exprs.end ≡ s = cc in
      let j : p ≡ u = cc in
      rw (sym i) (counted-lie p n w es q (rw (sym j) at c) g)
  iterated-lie p (suc zero) s u n w es q l a c g = started-lie p s u n w es q a c g
  iterated-lie p (suc (suc k)) s u n w es q l a c g = absurd (omega arith)

  fields_lie : (p n s : ℕ) (fs : List ℕ × Exprs) (es : Exprs) (q : ℕ) → count most_counted ts p ≡ got n s → fields M n (tree M) ts s ≡ got fs q → es ≡ fs.1 → Lie es q p (behind_count Gap.Names p (counted 3 0 most_counted ts p))
  unfolding count
  fields_lie p n s fs es q c g e = let l = counted-place 3 0 most_counted ts p n s c in rw (c, e) (named M (tree M) ts n s fs q g, omega arith)

  iteration-lie : (p k v : ℕ) (s : Exprs) (u n w : ℕ) (fs es : Exprs) (q : ℕ) → counted 3 0 1 ts p ≡ got k v → exprs k (tree M) ts v ≡ got s u → count most_counted ts u ≡ got n w → exprs n (tree M) ts w ≡ got fs q → es ≡ append s fs → Lie es q p (iterated M ts p (counted 3 0 1 ts p))
  iteration-lie p k v s u n w fs es q a b c d e =
      let l = counted-place 3 0 1 ts p k v a in
      let i = iterated-lie v k s u n w fs q l.2 b c d in
      rw (a, e) (i.0, omega (arith, i.1))

  pub lies : (h : Shape) (p : ℕ) (es : Exprs) (q : ℕ) → laid M h (tree M) ts p ≡ got es q → Lie es q p (operands_at M ts h p)
  unfolding laid operands_at spread
  lies Shape.Wide p es q g =
      let a = wrap-got (high ts p) (λ w. Exprs.end) es q g in
      let b = high-place ts p a.0 q a.1 in
      rw (a.2, lt-ltb p (length ts) b.1, b.0) (refl, omega arith)
  lies (Shape.Operands k) p es q g = (plain M (tree M) ts k p es q g, omega arith)
  lies Shape.Items p es q g = let a = after-got (count most_counted ts p) _ es q g in counted-lie p a.0 a.1 es q a.2 a.3
  lies Shape.Fields p es q g =
      let a = after-got (count most_counted ts p) _ es q g in
      let b = wrap-got (fields M a.0 (tree M) ts a.1) _ es q a.3 in
      fields_lie p a.0 a.1 b.0 es q a.2 b.1 b.2
  lies Shape.Cast p es q g =
      let a = after-got (ty M deepest_type ts p) _ es q g in
      let b = type-grows M deepest_type ts p a.0 a.1 a.2 in
      rw a.2 (plain M (tree M) ts 1 a.1 es q a.3, omega arith)
  lies Shape.Iteration p es q g =
      let a = after-got (counted 3 0 1 ts p) _ es q g in
      let b = after-got (exprs a.0 (tree M) ts a.1) _ es q a.3 in
      let c = after-got (count most_counted ts b.1) _ es q b.3 in
      let d = wrap-got (exprs c.0 (tree M) ts c.1) _ es q c.3 in
      iteration-lie p a.0 a.1 b.0 b.1 c.0 c.1 d.0 es q a.2 b.2 c.2 d.1 d.2

-- an iteration's operands were read where its parts were
iteration-read : (M : ℕ) (ts : List TagValue) (p k s : ℕ) (vs : Exprs) (u n w : ℕ) (es : Exprs) (q : ℕ) → counted 3 0 1 ts p ≡ got k s → exprs k (tree M) ts s ≡ got vs u → count most_counted ts u ≡ got n w → exprs n (tree M) ts w ≡ got es q → following M Shape.Iteration (tree M) ts p ≡ got es q
unfolding following
iteration-read M ts p k s vs u n w es q a b c d = rw a (rw b (rw c d))

-- operands that were laid out were read
laid-read : (M : ℕ) (ts : List TagValue) (h : Shape) (p : ℕ) (es : Exprs) (q : ℕ) → laid M h (tree M) ts p ≡ got es q → (fs : Exprs) × (following M h (tree M) ts p ≡ got fs q)
unfolding laid following
laid-read M ts Shape.Wide p es q g = (es, g)
laid-read M ts (Shape.Operands k) p es q g = (es, g)
laid-read M ts Shape.Items p es q g = (es, g)
laid-read M ts Shape.Fields p es q g = (es, g)
laid-read M ts Shape.Cast p es q g = (es, g)
laid-read M ts Shape.Iteration p es q g =
    let a = after-got (counted 3 0 1 ts p) _ es q g in
    let b = after-got (exprs a.0 (tree M) ts a.1) _ es q a.3 in
    let c = after-got (count most_counted ts b.1) _ es q b.3 in
    let d = wrap-got (exprs c.0 (tree M) ts c.1) _ es q c.3 in
    (d.0, iteration-read M ts p a.0 a.1 b.0 b.1 c.0 c.1 d.0 q a.2 b.2 c.2 d.1)

-- the start value that an iteration's count says was read
pub start-read : (M : ℕ) (ts : List TagValue) (p k s : ℕ) (es : Exprs) (q : ℕ) → counted 3 0 1 ts p ≡ got k s → (k ≡ 0 → ⊥) → following M Shape.Iteration (tree M) ts p ≡ got es q → (e : Expr) × (u : ℕ) × (tree M ts s ≡ got e u)
unfolding following
start-read M ts p k s es q c z g =
    let a = after-got (counted 3 0 1 ts p) _ es q g in
    let i : a.0 ≡ k = cc a.2 in
    let j : a.1 ≡ s = cc a.2 in
    let b = after-got (exprs a.0 (tree M) ts a.1) _ es q a.3 in
    let x = exprs-cons (tree M) ts a.0 a.1 b.0 b.1 (λ e. z (sym i ∙ e)) b.2 in
    (x.0, x.1, ap (tree M ts) (sym j) ∙ x.3)

-- what the code finds for a first token
module _ (M : ℕ) (ts : List TagValue) (t : ExprToken) (p : ℕ) (h : Shape) (o : Operands) (i : h ≡ shape_of t) (j : (es : Exprs) (q : ℕ) → following M h (tree M) ts p ≡ got es q → o ≡ operands_at M ts h p) where
  pub laid-at : (e : Expr) (q : ℕ) → form M t (tree M) ts p ≡ got e q → o ≡ operands_at M ts (shape_of t) p
  laid-at e q g =
      let f = laid-read M ts (shape_of t) p (operands_of e) q (formed M (tree M) ts p e q t g).1 in
      j f.0 q (rw i f.1) ∙ ap (λ (z : Shape). operands_at M ts z p) i

  pub laid_of : OperandsLaid M ts t p o
  laid_of = record {
    operands = λ e q g. rw (laid-at e q g) (lies M ts (shape_of t) p _ q (formed M (tree M) ts p e q t g).1).0;
    past = λ e q g. rw (laid-at e q g) (lies M ts (shape_of t) p _ q (formed M (tree M) ts p e q t g).1).1;
  }

-- THE LAW: an expression that was read has a first token, whose role is its own; its operands stand where the code finds them
pub reads : (M : ℕ) (ts : List TagValue) (p : ℕ) (e : Expr) (q : ℕ) → tree M ts p ≡ got e q →
    (t : ExprToken) × (token (expr_token_of M) ts p ≡ got t (p + 1)) × (role_of t ≡ role_of_expr e) × (Lie M ts (operands_of e) q (p + 1) (operands_at M ts (shape_of t) (p + 1)))
reads M ts p e q g =
    let a = tree-head M ts p e q g in
    let f = formed M (tree M) ts (p + 1) e q a.0 a.2 in
    (a.0, a.1, f.0, lies M ts (shape_of a.0) (p + 1) _ q f.1)

-- its places
pub places : (M : ℕ) (ts : List TagValue) (p : ℕ) (e : Expr) (q : ℕ) → tree M ts p ≡ got e q → (p < q) × (q ≤ length ts)
places M ts p e q g = expr-grows M 32 ts p e q g

-- the token that was read, in the arrays
pub token-there : {A : Type 0} (f : ℕ → ℕ → Option A) (gs vs : List ℕ) → length vs ≡ length gs → (p : ℕ) (a : A) (q : ℕ) → token f (tokens gs vs) p ≡ got a q → f (get_or gs p 0) (get_or vs p 0) ≡ some a
token-there f gs vs same p a q g =
    let h = token-got f (tokens gs vs) p a q g in
    let l = tokens-length gs vs same in
    go (f (get_or gs p 0) (get_or vs p 0)) (sym (there f gs vs p same (omega arith)) ∙ g)
  where
    go : (x : Option _) → allowed x p ≡ got a q → x ≡ some a
    go none g = absurd cc
    go (some b) g = cc

-- what the code finds for an expression, and for tokens that are none
pub viewed : (M : ℕ) (ts : List TagValue) (p : ℕ) (t : ExprToken) (s : ℕ) (v : View) (o : Operands) → token (expr_token_of M) ts p ≡ got t s → v.role ≡ role_of t → OperandsLaid M ts t s o → v.operands ≡ o → Viewed M ts p v
viewed M ts p t s v o g i l j = record { role = λ e q h. (go e q h).0; operands = λ e q h. (go e q h).1; past = λ e q h. (go e q h).2; within = within; inside = λ h. (token-got (expr_token_of M) ts p t s g).1 }
  where
    go : (e : Expr) (q : ℕ) → tree M ts p ≡ got e q → (v.role ≡ role_of_expr e) × (spread M v.operands.rest.gap v.operands.count (tree M) ts v.operands.rest.next ≡ got (operands_of e) q) × (p < v.operands.rest.next)
    go e q h =
        let a = tree-head M ts p e q h in
        let b : t ≡ a.0 = cc a.1 in
        let c : s ≡ p + 1 = cc a.1 in
        let d : form M t (tree M) ts s ≡ got e q = rw (b, c) a.2 in
        (i ∙ (formed M (tree M) ts s e q t d).0, rw j (l.operands e q d), rw j (omega (arith, l.past e q d)))

    within : (e : Expr) (q : ℕ) → tree M ts p ≡ got e q → (v.operands.rest.next ≤ q) × (q ≤ length ts)
    within e q h = (spread-grows M 32 ts v.operands.rest.gap v.operands.count v.operands.rest.next (operands_of e) q (go e q h).1, (places M ts p e q h).1)

pub unviewed : (M : ℕ) (ts : List TagValue) (p : ℕ) (t : Refusal) (v : View) → token (expr_token_of M) ts p ≡ rejected t → v.operands.rest.next ≡ p → Viewed M ts p v
unviewed M ts p t v g i = record { role = λ e q h. absurd (no e q h); operands = λ e q h. absurd (no e q h); past = λ e q h. absurd (no e q h); within = λ e q h. absurd (no e q h); inside = λ h. absurd (omega (arith, h, i)) }
  where
    no : (e : Expr) (q : ℕ) → tree M ts p ≡ got e q → ⊥
    no e q h = let a = tree-head M ts p e q h in cc a.1

-- where something is viewed, there are tokens left
pub left_there : (M : ℕ) (gs vs : List ℕ) → length vs ≡ length gs → (p : ℕ) (v : View) → Viewed M (tokens gs vs) p v → p < v.operands.rest.next → p < length gs
left_there M gs vs same p v seen h = omega (arith, seen.inside h, tokens-length gs vs same)

-- what the code finds of the first operand
pub stepped : (M : ℕ) (ts : List TagValue) (g : Gap) (p end : ℕ) (o : Operand) → o.at ≡ operand_at (length ts) g p → ((e : Expr) (q : ℕ) → tree M ts o.at ≡ got e q → end ≡ q) → o.rest.next ≡ rest_at (length ts) g end → o.rest.gap ≡ later g → Stepped M ts g p o
stepped M ts g p end o a b c d = record { at-or-past = at-or-past g a; split = split }
  where
    at-or-past : (g : Gap) → o.at ≡ operand_at (length ts) g p → p ≤ o.at
    at-or-past Gap.Nothing a = omega arith
    at-or-past Gap.Names a = rw a (go (ltb p (length ts)))
      where
        go : (b : Bool) → p ≤ choose b (p + 1) p
        go true = omega arith
        go false = omega arith
    at-or-past Gap.Between a = omega arith

    split : (n : ℕ) (es : Exprs) (q : ℕ) → (n ≡ 0 → ⊥) → spread M g n (tree M) ts p ≡ got es q → Split M ts g n p es q o
    split n es q z h =
        let k = spread-cons M (tree M) ts g n p es q z h in
        let f = before-place M g ts p k.0 k.1 k.7 in
        let i : o.at ≡ k.1 = a ∙ sym f.0 in
        let here : tree M ts o.at ≡ got k.2 k.3 = rw i k.8 in
        let l = expr-grows M 32 ts o.at k.2 k.3 here in
        let j : end ≡ k.3 = b k.2 k.3 here in
        let w = behind-place g ts k.3 k.4 k.5 l.1 k.9 in
        let m : o.rest.next ≡ k.5 = rw j at c ∙ sym w.0 in
        let u = spread-grows M 32 ts (later g) (n - 1) k.5 k.6 q k.10 in
        record { first = k.2; end = k.3; rest = k.6; whole = k.11; here = here; others = rw (m, d) k.10; past = omega arith; within = (l.0, omega arith, omega arith, l.1) }

-- the same over the two arrays
pub stepped-in : (M : ℕ) (gs vs : List ℕ) → length vs ≡ length gs → (g : Gap) (p end : ℕ) (o : Operand) → o.at ≡ operand_at (length gs) g p → ((e : Expr) (q : ℕ) → tree M (tokens gs vs) o.at ≡ got e q → end ≡ q) → o.rest.next ≡ rest_at (length gs) g end → o.rest.gap ≡ later g → Stepped M (tokens gs vs) g p o
stepped-in M gs vs same g p end o a b c d =
    let l = sym (tokens-length gs vs same) in
    stepped M (tokens gs vs) g p end o (a ∙ ap (λ (k : ℕ). operand_at k g p) l) b (c ∙ ap (λ (k : ℕ). rest_at k g end) l) d

pub wide-in : (M : ℕ) (gs vs : List ℕ) → length vs ≡ length gs → (p s : ℕ) (h : Shape) (o : Operands) → h ≡ Shape.Wide → s ≡ past_in (length gs) p → o ≡ plain_at s 0 → o ≡ operands_at M (tokens gs vs) h p
unfolding operands_at
wide-in M gs vs same p s h o i a b = b ∙ (ap (λ (k : ℕ). plain_at k 0) (a ∙ ap (λ (k : ℕ). past_in k p) (sym (tokens-length gs vs same))) ∙ ap (λ (x : Shape). operands_at M (tokens gs vs) x p) (sym i))

-- a start value and what is behind it, by the code's count
module _ (M : ℕ) (ts : List TagValue) (p : ℕ) (r : Result (ℕ × ℕ) Refusal) (e : r ≡ told (counted 3 0 1 ts p)) where
  pub iterated-started : (k q : ℕ) (o : Operands) → r ≡ Ok (k, q) → (k ≡ 0 → ⊥) → ((a : Expr) (u : ℕ) → tree M ts q ≡ got a u → o ≡ behind_start q (counted 3 0 most_counted ts u)) →
      (es : Exprs) (v : ℕ) → following M Shape.Iteration (tree M) ts p ≡ got es v → o ≡ operands_at M ts Shape.Iteration p
  unfolding operands_at
  iterated-started k q o i z j es v g =
      let c = told-got (counted 3 0 1 ts p) r k q e i in
      let a = start-read M ts p k q es v c z g in
      rw (c, ne_eqb k 0 z) (rw a.2 (j a.0 a.1 a.2))

-- one more than a count fits a word
pub start_fits : (ts : List TagValue) (p : ℕ) (r : Result (ℕ × ℕ) Refusal) (n q : ℕ) → r ≡ told (counted 3 0 most_counted ts p) → r ≡ Ok (n, q) → Fits w32 (n + 1)
start_fits ts p r n q e i = let l = counted-place 3 0 most_counted ts p n q (told-got (counted 3 0 most_counted ts p) r n q e i) in record { fits = omega arith }
