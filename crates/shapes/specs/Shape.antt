-- The trees that the sheet format says, whatever an input's limits (how many, how long, how deep): an output may pass some of these.
use Rattle.std.specs.Prelude.{◌≡◌, ℕ, zero, suc, ◌<◌, length}
use mathlib.Core.List.{List, Memᴰ}
use Rattle.definitions.specs.declared.Literal.{Literal}
use Rattle.definitions.specs.Lists.{join, Letters}
use Rattle.definitions.specs.Tokens.{words}
use Rattle.definitions.specs.Tree.{Ty, Declared, Body, TypeDef, Head, Expr, Exprs, Equation, Probe, Node, Sheet}
use Rattle.definitions.specs.Output.{sheet_tokens}

-- P of each member of a list
abbrev pub All : {A : Type 0} → (A → Type 0) → List A → Type 0
All {A} P l = (a : A) → Memᴰ a l → P a

-- it fits in four bytes
abbrev pub Word : ℕ → Type 0
Word v = v < words

-- every number of a list is a byte
abbrev pub Bytes : List ℕ → Type 0
Bytes l = All (λ b. b < 256) l

-- "50 bool(0/1), 51 int(low), 52 float(low), 53 char(0 to 255)", and the high word: "51 and 52 are followed by high", else 0
abbrev pub ShapedLiteral : Literal → ℕ → Type 0
ShapedLiteral (Literal.Bool v) w = (v < 2) × (w ≡ 0)
ShapedLiteral (Literal.Int v) w = Word v × Word w
ShapedLiteral (Literal.Float v) w = Word v × Word w
ShapedLiteral (Literal.Char v) w = (v < 256) × (w ≡ 0)

-- how many operands there are
abbrev pub many : Exprs → ℕ
many Exprs.end = 0
many (Exprs.and e es) = suc (many es)

-- an iteration has no start value or one, of its operands the first
abbrev pub ShapedIteration : ℕ → ℕ → Type 0
ShapedIteration zero n = Unit {0}
ShapedIteration (suc zero) zero = ⊥
ShapedIteration (suc zero) (suc n) = Unit {0}
ShapedIteration (suc (suc k)) n = ⊥

-- trees whose ids are below M: the number of names for a sheet that was read, else all words
module _ (M : ℕ) where
  -- a type: an array's length is a word
  abbrev pub ShapedTy : Ty → Type 0
  ShapedTy (Ty.primitive p) = Unit {0}
  ShapedTy (Ty.array n a) = ShapedTy a × Word n
  ShapedTy (Ty.named x) = x < M

  -- a name with its type
  abbrev pub ShapedDeclared : Declared → Type 0
  ShapedDeclared d = ShapedTy d.type × (d.name < M)

  -- a form has this number of operands
  abbrev pub ShapedHead : Head → ℕ → Type 0
  ShapedHead (Head.unary o) n = n ≡ 1
  ShapedHead (Head.binary o) n = n ≡ 2
  ShapedHead (Head.field x) n = n ≡ 1
  ShapedHead Head.if n = n ≡ 3
  ShapedHead Head.index n = n ≡ 2
  ShapedHead Head.tuple n = Unit {0}
  ShapedHead Head.array n = Unit {0}
  ShapedHead (Head.struct x fs) n = n ≡ length fs
  ShapedHead (Head.cast a) n = ShapedTy a × (n ≡ 1)
  ShapedHead (Head.map f k) n = ShapedIteration k n
  ShapedHead (Head.fold f k) n = ShapedIteration k n

  -- the names in a form
  abbrev pub NamedHead : Head → Type 0
  NamedHead (Head.unary o) = Unit {0}
  NamedHead (Head.binary o) = Unit {0}
  NamedHead (Head.field x) = x < M
  NamedHead Head.if = Unit {0}
  NamedHead Head.index = Unit {0}
  NamedHead Head.tuple = Unit {0}
  NamedHead Head.array = Unit {0}
  NamedHead (Head.struct x fs) = (x < M) × All (λ f. f < M) fs
  NamedHead (Head.cast a) = Unit {0}
  NamedHead (Head.map f k) = f < M
  NamedHead (Head.fold f k) = f < M

  -- an expression, and operands
  unfoldable mutual
    pub Shaped : Expr → Type 0
    Shaped (Expr.const l w) = ShapedLiteral l w
    Shaped (Expr.var x) = x < M
    Shaped (Expr.op h es) = ShapedHead h (many es) × Shapeds es × NamedHead h
    Shaped (Expr.pre e) = Shaped e
    Shaped (Expr.arrow a b) = Shaped a × Shaped b
    Shaped (Expr.call f es) = Shapeds es × (f < M)
    Shaped (Expr.when k e) = Shaped e × (k.name < M)
    Shaped (Expr.merge x a b) = Shaped a × Shaped b × (x < M)

    pub Shapeds : Exprs → Type 0
    Shapeds Exprs.end = Unit {0}
    Shapeds (Exprs.and e es) = Shaped e × Shapeds es

  -- left names and a right side
  abbrev pub ShapedEquation : Equation → Type 0
  ShapedEquation e = Shaped e.right × All (λ x. x < M) e.left

  -- a label and a name
  abbrev pub ShapedProbe : Probe → Type 0
  ShapedProbe p = (p.label < M) × (p.name < M)

  -- what a type is defined as, and its definition
  abbrev pub ShapedBody : Body → Type 0
  ShapedBody (Body.enum vs) = All (λ x. x < M) vs
  ShapedBody (Body.fields fs) = All ShapedDeclared fs
  ShapedBody (Body.alias a) = ShapedTy a

  abbrev pub ShapedDefinition : TypeDef → Type 0
  ShapedDefinition d = ShapedBody d.body × (d.name < M)

  -- a node
  pub record ShapedNode (n : Node) : Type 0 where
    pub name : n.name < M
    pub inputs : All ShapedDeclared n.inputs
    pub outputs : All ShapedDeclared n.outputs
    pub locals : All ShapedDeclared n.locals
    pub equations : All ShapedEquation n.equations
    pub probes : All ShapedProbe n.probes

  -- a sheet
  pub record ShapedBelow (s : Sheet) : Type 0 where
    pub types : All ShapedDefinition s.types
    pub nodes : All ShapedNode s.nodes

-- a sheet that the format can say: every id, literal, length and count is a word
abbrev pub ShapedSheet : Sheet → Type 0
ShapedSheet s = ShapedBelow words s

-- the three sizes of a sheet with these names are words
pub record SizedSheet (names : List Letters) (s : Sheet) : Type 0 where
  pub names-word : Word (length names)
  pub letters-word : Word (length (join names))
  pub tokens-word : Word (length (sheet_tokens s))
