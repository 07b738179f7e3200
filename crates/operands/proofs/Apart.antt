-- Operands taken apart by their places: the first, and the others by where it ends.
-- Assumes nothing.
use Prim.Native.Nat.{ℕ, zero, suc, ◌+◌, ◌-◌, ◌≤◌, ◌<◌}
use mathlib.Core.Path.{◌≡◌, refl, sym, ◌∙◌, ap}
use mathlib.Core.List.{List}
use mathlib.Core.Bool.{Bool, true, false}
use native.Mathlib.Omega.{arith}
use lib.Dec.{ltb}
use lib.ListN.{length}
use Rattle.definitions.specs.Lists.{choose}
use Rattle.definitions.specs.Bytes.{tokens}
use Rattle.definitions.specs.Tokens.{TagValue}
use Rattle.definitions.specs.Tree.{Expr, Exprs}
use Rattle.definitions.specs.Reading.{got}
use Rattle.grammar.proofs.Laws.{tokens-length}
use Rattle.grammar.proofs.Longer.{expr-grows}
use Rattle.operands.specs.declared.Gap.{Gap}
use Rattle.operands.specs.Spread.{tree, later, spread, operand_at, rest_at}
use Rattle.operands.proofs.Laws.{before-place, behind-place, spread-nil, spread-cons}

-- an operand's place is not before where the operands begin
pub at-or-past : (most : ℕ) (g : Gap) (p r : ℕ) → r ≡ operand_at most g p → p ≤ r
at-or-past most Gap.Nothing p r e = omega arith
at-or-past most Gap.Names p r e = rw e (go (ltb p most))
  where
    go : (b : Bool) → p ≤ choose b (p + 1) p
    go true = omega arith
    go false = omega arith
at-or-past most Gap.Between p r e = omega arith

-- operands that are none end where they begin
pub spread_end : (M : ℕ) (ts : List TagValue) (g : Gap) (k p : ℕ) (es : Exprs) (q : ℕ) → es ≡ Exprs.end → spread M g k (tree M) ts p ≡ got es q → p ≡ q
spread_end M ts g zero p es q i h = sym (spread-nil M (tree M) ts g zero p es q refl h).1
spread_end M ts g (suc k) p es q i h =
    let c = spread-cons M (tree M) ts g (suc k) p es q (λ z. omega (arith, z)) h in
    absurd (cc c.11)

-- n operands es with the gap g from p to q, the first of them at a place, the others by where it ends
pub record Apart (M : ℕ) (gs vs : List ℕ) (g : Gap) (n p : ℕ) (es : Exprs) (q place : ℕ) : Type 0 where
  pub first : Expr
  pub end : ℕ
  pub rest : Exprs
  pub whole : es ≡ Exprs.and first rest
  pub here : tree M (tokens gs vs) place ≡ got first end
  pub others : spread M (later g) (n - 1) (tree M) (tokens gs vs) (rest_at (length gs) g end) ≡ got rest q
  pub past : p < rest_at (length gs) g end

pub apart : (M : ℕ) (gs vs : List ℕ) → length vs ≡ length gs → (g : Gap) (n p : ℕ) (es : Exprs) (q place : ℕ) → (n ≡ 0 → ⊥) → place ≡ operand_at (length gs) g p → spread M g n (tree M) (tokens gs vs) p ≡ got es q → Apart M gs vs g n p es q place
apart M gs vs same g n p es q place z i h =
    let l = tokens-length gs vs same in
    let k = spread-cons M (tree M) (tokens gs vs) g n p es q z h in
    let f = before-place M g (tokens gs vs) p k.0 k.1 k.7 in
    let j : place ≡ k.1 = i ∙ (ap (λ (m : ℕ). operand_at m g p) (sym l) ∙ sym f.0) in
    let here : tree M (tokens gs vs) place ≡ got k.2 k.3 = rw j k.8 in
    let u = expr-grows M 32 (tokens gs vs) place k.2 k.3 here in
    let w = behind-place g (tokens gs vs) k.3 k.4 k.5 u.1 k.9 in
    let m : rest_at (length gs) g k.3 ≡ k.5 = ap (λ (m : ℕ). rest_at m g k.3) (sym l) ∙ sym w.0 in
    record { first = k.2; end = k.3; rest = k.6; whole = k.11; here = here; others = rw m k.10; past = rw m (omega arith) }
