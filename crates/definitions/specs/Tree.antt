-- What a sheet says, as trees. A name is its id: its place in the sheet's list of names.
use Rattle.std.specs.Prelude.{ℕ, List}
use Rattle.definitions.specs.declared.UnaryOp.{UnaryOp}
use Rattle.definitions.specs.declared.BinOp.{BinOp}
use Rattle.definitions.specs.declared.Primitive.{Primitive}
use Rattle.definitions.specs.declared.Literal.{Literal}
use Rattle.definitions.specs.declared.NodeKind.{NodeKind}
use Rattle.definitions.specs.declared.Condition.{Condition}

-- A type: a primitive one; an array, with its length and its element; a defined type, by its name.
pub data Ty : Type 0 where
  primitive : Primitive → Ty
  array : ℕ → Ty → Ty
  named : ℕ → Ty

-- A name with its type: a record's field, a port, a local.
pub record Declared : Type 0 where
  pub name : ℕ
  pub type : Ty

-- What a type is defined as: "Enum: count, names. Record: count, then name and type each. Alias: type."
pub data Body : Type 0 where
  enum : List ℕ → Body
  fields : List Declared → Body
  alias : Ty → Body

-- A type's definition.
pub record TypeDef : Type 0 where
  pub name : ℕ
  pub body : Body

-- What a form that computes says besides its operands: an operator; a field's name; a record's name with its fields'; a type;
-- the node of a map or fold with its number of start values, 0 or 1, which are the first operands.
pub data Head : Type 0 where
  unary : UnaryOp → Head
  binary : BinOp → Head
  field : ℕ → Head
  if index tuple array : Head
  struct : ℕ → List ℕ → Head
  cast : Ty → Head
  map fold : ℕ → ℕ → Head

-- An expression: a constant, with the high word of an int or float, else 0; a name; a form that only computes from its operands;
-- the forms that have to do with ticks and clocks; a call.
mutual
  pub data Expr : Type 0 where
    const : Literal → ℕ → Expr
    var : ℕ → Expr
    op : Head → Exprs → Expr
    pre : Expr → Expr
    arrow : Expr → Expr → Expr
    call : ℕ → Exprs → Expr
    when : Condition → Expr → Expr
    merge : ℕ → Expr → Expr → Expr

  -- Expressions, in order.
  pub data Exprs : Type 0 where
    end : Exprs
    and : Expr → Exprs → Exprs

-- Left names and a right side.
pub record Equation : Type 0 where
  pub left : List ℕ
  pub right : Expr

-- A label and a name.
pub record Probe : Type 0 where
  pub label : ℕ
  pub name : ℕ

-- "Node: kind; inputs, outputs, locals .. equations .. probes"
pub record Node : Type 0 where
  pub name : ℕ
  pub kind : NodeKind
  pub inputs : List Declared
  pub outputs : List Declared
  pub locals : List Declared
  pub equations : List Equation
  pub probes : List Probe

-- "types with their definitions, then nodes"
pub record Sheet : Type 0 where
  pub types : List TypeDef
  pub nodes : List Node
