-- Expressions among the tokens: parts one after another, each a token and as many parts behind it as its tag and value say.
use Rattle.std.specs.Prelude.{ℕ, suc, ◌+◌, ◌≤◌, ◌<◌, ◌≡◌, Bool, true, false, List, [], ◌∷◌, ◌++◌, map, eqb, ltb, leb, length, get_or}
use Rattle.std.proofs.Math.Option.{Option, none, some}
use Rattle.definitions.specs.declared.Literal.{Literal}
use Rattle.definitions.specs.declared.Condition.{Condition}
use Rattle.definitions.specs.declared.Token.{Token}
use Rattle.definitions.specs.Lists.{choose}
use Rattle.definitions.specs.Tokens.{TagValue, tag_value, code_of}
use Rattle.definitions.specs.Tree.{Head, Expr, Exprs}
use Rattle.definitions.specs.Clock.{Clock, ◌↓◌, parent, is_on, is_not}
use Rattle.shapes.specs.Shape.{many}
use Rattle.layout.specs.Owed.{follows}
use Rattle.operands.specs.Role.{one}
use Rattle.stateless.specs.Need.{is_bare}
use Rattle.skeleton.specs.Around.{around}

-- what stands between expressions: a token that stays as it is, or the place of an expression
abbrev pub Frame : Type 0
Frame = List (Option TagValue)

-- the tokens of a frame, with these for its expressions
unfoldable pub weave : Frame → List (List TagValue) → List TagValue
weave [] ps = []
weave (some t ∷ fs) ps = t ∷ weave fs ps
weave (none ∷ fs) [] = []
weave (none ∷ fs) (x ∷ ps) = x ++ weave fs ps

-- the place of one expression
abbrev pub hole : Frame
hole = none ∷ []

-- a first token that says nothing of clocks: not "58 pre, 59 arrow, 60 call", "67 when(id), 68 when-not(id), 69 merge(id)"
unfoldable pub is_plain : ℕ → Bool
is_plain t = choose (ltb t 58) (leb 50 t) (choose (ltb t 61) false (choose (ltb t 67) true (leb 70 t)))

-- a constant, a name, or a form that computes, with its operands
pub data Computes : Expr → Exprs → Type 0 where
  constant : {l : Literal} {w : ℕ} → Computes (Expr.const l w) Exprs.end
  name : {x : ℕ} → Computes (Expr.var x) Exprs.end
  computing : {h : Head} {es : Exprs} → Computes (Expr.op h es) es

-- the two arrays
module _ (gs vs : List ℕ) where
  abbrev pub code_at : ℕ → TagValue
  code_at p = tag_value (get_or gs p 0) (get_or vs p 0)

  abbrev pub parts_at : ℕ → ℕ
  parts_at p = follows (get_or gs p 0) (get_or vs p 0)

  -- the token at p and what this frame holds make e, whatever its operands are rewritten to
  abbrev pub Framed : Expr → Exprs → ℕ → Frame → Type 0
  Framed e us p fs = (ps : List (List Token)) → length ps ≡ many us → map code_of (around e ps) ≡ tag_value (get_or gs p 0) (get_or vs p 0) ∷ weave fs (map (map code_of) ps)

  -- the token at p begins e, which computes from these operands
  pub record Formed (e : Expr) (us : Exprs) (p : ℕ) (fs : Frame) : Type 0 where
    pub plain : is_plain (get_or gs p 0) ≡ true
    pub named : is_bare e ≡ eqb (get_or gs p 0) 54
    pub computes : Computes e us
    pub framed : Framed e us p fs

-- so many parts from p up to q: these expressions, on this clock, in this frame; S holds of each expression on its clock, from where it
-- stands up to its end
pub data Lies (gs vs : List ℕ) (S : Clock → Expr → ℕ → ℕ → Type 0) : Clock → Exprs → Frame → ℕ → ℕ → ℕ → Type 0 where
  done : {c : Clock} {p : ℕ} → Lies gs vs S c Exprs.end [] p 0 p
  sign : {c : Clock} {es : Exprs} {fs : Frame} {p k q : ℕ} → p < length gs → get_or gs p 0 < 50 →
      Lies gs vs S c es fs (p + 1) (k + parts_at gs vs p) q → Lies gs vs S c es (some (code_at gs vs p) ∷ fs) p (suc k) q
  computed : {c : Clock} {e : Expr} {us es : Exprs} {ds fs : Frame} {p k r q : ℕ} → p < length gs → S c e p r → Formed gs vs e us p ds →
      Lies gs vs S c us ds (p + 1) (parts_at gs vs p) r → Lies gs vs S c es fs r k q → Lies gs vs S c (Exprs.and e es) (none ∷ fs) p (suc k) q
  previous : {c : Clock} {a : Expr} {es : Exprs} {fs : Frame} {p k r q : ℕ} → p < length gs → S c (Expr.pre a) p r → code_at gs vs p ≡ tag_value 58 0 →
      Lies gs vs S c (one a) hole (p + 1) 1 r → Lies gs vs S c es fs r k q → Lies gs vs S c (Exprs.and (Expr.pre a) es) (none ∷ fs) p (suc k) q
  follow : {c : Clock} {a b : Expr} {es : Exprs} {fs : Frame} {p k r s q : ℕ} → p < length gs → S c (Expr.arrow a b) p s → code_at gs vs p ≡ tag_value 59 0 →
      Lies gs vs S c (one a) hole (p + 1) 1 r → Lies gs vs S c (one b) hole r 1 s → Lies gs vs S c es fs s k q → Lies gs vs S c (Exprs.and (Expr.arrow a b) es) (none ∷ fs) p (suc k) q
  calls : {c : Clock} {f : ℕ} {us es : Exprs} {ds fs : Frame} {p k r q : ℕ} → p < length gs → S c (Expr.call f us) p r → code_at gs vs p ≡ tag_value 60 f → Framed gs vs (Expr.call f us) us p ds →
      Lies gs vs S c us ds (p + 1) 1 r → Lies gs vs S c es fs r k q → Lies gs vs S c (Exprs.and (Expr.call f us) es) (none ∷ fs) p (suc k) q
  sample : {c : Clock} {x : Condition} {a : Expr} {es : Exprs} {fs : Frame} {p k r q : ℕ} → p < length gs → S c (Expr.when x a) p r → 67 ≤ get_or gs p 0 → get_or gs p 0 < 69 →
      Lies gs vs S (parent c) (one a) hole (p + 1) 1 r → Lies gs vs S c es fs r k q → Lies gs vs S c (Exprs.and (Expr.when x a) es) (none ∷ fs) p (suc k) q
  join : {c : Clock} {x : ℕ} {a b : Expr} {es : Exprs} {fs : Frame} {p k r s q : ℕ} → p < length gs → S c (Expr.merge x a b) p s → code_at gs vs p ≡ tag_value 69 x →
      Lies gs vs S (c ↓ is_on x) (one a) hole (p + 1) 1 r → Lies gs vs S (c ↓ is_not x) (one b) hole r 1 s → Lies gs vs S c es fs s k q →
      Lies gs vs S c (Exprs.and (Expr.merge x a b) es) (none ∷ fs) p (suc k) q

-- an expression from p up to q on this clock
abbrev pub LiesAt : List ℕ → List ℕ → (Clock → Expr → ℕ → ℕ → Type 0) → Clock → Expr → ℕ → ℕ → Type 0
LiesAt gs vs S c e p q = Lies gs vs S c (one e) hole p 1 q
