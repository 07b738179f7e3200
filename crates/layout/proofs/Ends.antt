-- Where names, probes, definitions and equations that were read end. Assumes nothing.
use mathlib.Core.Path.{◌≡◌, refl, sym, ◌∙◌}
use mathlib.Core.List.{List}
use Prim.Native.Nat.{ℕ, zero, suc, ◌+◌, ◌*◌, ◌-◌, ◌<◌, ◌≤◌}
use native.Mathlib.Omega.{arith}
use native.Mathlib.Numerals.{sub-one}
use lib.ListN.{length, get_or}
use Rattle.definitions.specs.Bytes.{tokens}
use Rattle.definitions.specs.Tree.{Ty, Declared, TypeDef, Expr, Equation, Probe}
use Rattle.definitions.specs.Reading.{got, Reader, times}
use Rattle.definitions.specs.Grammar.{name, ty, declaration, expr, equation, probe}
use Rattle.grammar.proofs.Laws.{after-got, tokens-length}
use Rattle.grammar.proofs.Longer.{keeps, name-grows, probe-grows, times-keeps, counted-grows}
use Rattle.grammar.proofs.Got.{times-nil, times-cons, tagged-value, counted-value, equation-got}
use Rattle.layout.specs.declared.Defined.{Defined}
use Rattle.layout.specs.declared.Span.{Span}
use Rattle.layout.specs.Table.{Described}
use Rattle.layout.specs.Owed.{Owed}
use Rattle.layout.proofs.Owed.{owed_all, type-owes, expr-owes, declaration-owes, times-owes}

module _ (gs vs : List ℕ) (same : length vs ≡ length gs) where
  -- each item that R reads has w tokens
  module _ {A : Type 0} (R : Reader A) (w : ℕ) (one : (p : ℕ) (a : A) (q : ℕ) → R (tokens gs vs) p ≡ got a q → q ≡ p + w) where
    times-wide : (n p : ℕ) (l : List A) (q : ℕ) → times n R (tokens gs vs) p ≡ got l q → q ≡ p + w * n
    times-wide zero p l q g = let e = times-nil R (tokens gs vs) 0 p l q refl g in omega (arith, e.1)
    times-wide (suc n) p l q g =
        let t = times-cons R (tokens gs vs) (suc n) p l q (λ z. omega arith) g in
        let a = one p t.0 t.1 t.3 in
        let b = times-wide n t.1 t.2 q (rw (sub-one (suc n)) at t.4) in
        omega (arith, a, b)

  name-wide : (M p x q : ℕ) → name M (tokens gs vs) p ≡ got x q → q ≡ p + 1
  unfolding name
  name-wide M p x q g =
      let w = name-grows M (tokens gs vs) p x q g in
      let b : p < length gs = omega (arith, w.0, w.1, tokens-length gs vs same) in
      (tagged-value gs vs same p 4 M x q b g).3

  probe-wide : (M p : ℕ) (x : Probe) (q : ℕ) → probe M (tokens gs vs) p ≡ got x q → q ≡ p + 2
  unfolding probe
  probe-wide M p x q g =
      let a = after-got (name M (tokens gs vs) p) _ x q g in
      let b = after-got (name M (tokens gs vs) a.1) _ x q a.3 in
      let i = name-wide M p a.0 a.1 a.2 in
      let j = name-wide M a.1 b.0 b.1 b.2 in
      let k : b.1 ≡ q = cc b.3 in
      omega (arith, i, j, k)

  -- so many tokens on
  pub names-on : (M n p : ℕ) (l : List ℕ) (q : ℕ) → times n (name M) (tokens gs vs) p ≡ got l q → (n ≤ length gs - p) × (q ≡ p + n)
  names-on M n p l q g =
      let a = times-wide (name M) 1 (name-wide M) n p l q g in
      let k = times-keeps (name M) (keeps (name M) (name-grows M)) n (tokens gs vs) p l q g in
      (omega (arith, a, k.1, tokens-length gs vs same), omega (arith, a))

  pub probes-on : (M n p : ℕ) (l : List Probe) (q : ℕ) → times n (probe M) (tokens gs vs) p ≡ got l q → (2 * n ≤ length gs - p) × (q ≡ p + 2 * n)
  probes-on M n p l q g =
      let a = times-wide (probe M) 2 (probe-wide M) n p l q g in
      let k = times-keeps (probe M) (keeps (probe M) (probe-grows M)) n (tokens gs vs) p l q g in
      (omega (arith, a, k.1, tokens-length gs vs same), a)

  pub expr-part : (M d p : ℕ) (e : Expr) (q : ℕ) → expr M d (tokens gs vs) p ≡ got e q → Owed gs vs p 1 q
  expr-part M d p e q g = owed_all gs vs same (expr M d) 1 (expr-owes gs vs same M d) p e q g

  pub declaration-parts : (M n p : ℕ) (l : List Declared) (q : ℕ) → times n (declaration M) (tokens gs vs) p ≡ got l q → Owed gs vs p n q
  declaration-parts M n p l q g = owed_all gs vs same (times n (declaration M)) n (times-owes gs vs same (declaration M) (declaration-owes gs vs same M) n) p l q g

  pub type-part : (M d p : ℕ) (t : Ty) (q : ℕ) → ty M d (tokens gs vs) p ≡ got t q → Owed gs vs p 1 q
  type-part M d p t q g = owed_all gs vs same (ty M d) 1 (type-owes gs vs same M d) p t q g

  -- a definition ends where the last of its parts does
  module _ (M : ℕ) (d : TypeDef) (q : ℕ) (D : Defined) (h : Described M (tokens gs vs) d q D) where
    pub enum-ends : (x : ℕ) (s : Span) → D ≡ Defined.Enum x s → s.end ≡ q
    unfolding Described
    enum-ends x s e = let a = rw e at h in a.2

    pub record-ends : (x : ℕ) (s : Span) → D ≡ Defined.Record x s → s.end ≡ q
    unfolding Described
    record-ends x s e = let a = rw e at h in a.2

    pub alias-ends : (r x p : ℕ) → D ≡ Defined.Alias x p → ((s : ℕ) → Owed gs vs p 1 s → r ≡ s) → r ≡ q
    unfolding Described
    alias-ends r x p e f = let a = rw e at h in f q (type-part M 8 p a.0 q a.1)

  -- an equation's parts, by their ends
  pub equation-ends : (p n first right r : ℕ) → n ≡ get_or vs p 0 → (1 ≤ length gs - p → first ≡ p + 1)
      → ((M : ℕ) (l : List ℕ) (q : ℕ) → times n (name M) (tokens gs vs) first ≡ got l q → right ≡ q)
      → ((M d : ℕ) (e : Expr) (q : ℕ) → expr M d (tokens gs vs) right ≡ got e q → r ≡ q)
      → (M : ℕ) (e : Equation) (q : ℕ) → equation M (tokens gs vs) p ≡ got e q → r ≡ q
  equation-ends p n first right r i j k l M e q g =
      let t = equation-got M (tokens gs vs) p e q g in
      let w = counted-grows 3 1 8 (tokens gs vs) p t.0 t.1 t.5 in
      let b : p < length gs = omega (arith, w.0, w.1, tokens-length gs vs same) in
      let v = counted-value gs vs same p 3 1 8 t.0 t.1 b t.5 in
      let f : first ≡ t.1 = j (omega arith) ∙ sym v.2 in
      let m : n ≡ t.0 = i ∙ sym v.0 in
      let s : right ≡ t.3 = k M t.2 t.3 (rw (m, f) t.6) in
      l M 32 t.4 q (rw s t.7)
