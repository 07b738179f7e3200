-- The order of a sheet's tokens, and their limits: document 01, "The sheet".
use Prim.Native.Nat.{ℕ, zero, suc, ◌-◌}
use Rattle.std.specs.Prelude.{List, [], ◌∷◌, Bool, true, false, ◌&&◌, leb, ltb, eqb}
use Rattle.std.proofs.Math.Option.{Option, none}
use Rattle.std.proofs.Math.ListN.{length}
use Rattle.definitions.specs.declared.Literal.{Literal}
use Rattle.definitions.specs.declared.TypeToken.{TypeToken}
use Rattle.definitions.specs.declared.DefinitionToken.{DefinitionToken}
use Rattle.definitions.specs.declared.ExprToken.{ExprToken}
use Rattle.definitions.specs.declared.Test.{Test}
use Rattle.definitions.specs.declared.NodeKind.{NodeKind}
use Rattle.definitions.specs.declared.Refusal.{Refusal}
use Rattle.definitions.specs.Lists.{choose}
use Rattle.definitions.specs.Tokens.{given, words, kind_of, type_token_of, definition_token_of, expr_token_of}
use Rattle.definitions.specs.Tree.{Ty, Declared, Body, TypeDef, Head, Expr, Exprs, Equation, Probe, Node, Sheet}
use Rattle.definitions.specs.Reading.{got, rejected, Reader, ◌>>=◌, return, token, limited, times}

-- "32 types, 16 nodes; a node 64 equations and 128 declared names in all; 1 to 8 left names; other counts 64"
abbrev pub most_types : ℕ
most_types = 32

abbrev pub most_nodes : ℕ
most_nodes = 16

abbrev pub most_declared : ℕ
most_declared = 128

abbrev pub most_left : ℕ
most_left = 8

abbrev pub most_counted : ℕ
most_counted = 64

-- "array length 256; array types nested 8; expressions 32 deep, a leaf being 1"
abbrev pub longest_array : ℕ
longest_array = 256

abbrev pub deepest_type : ℕ
deepest_type = 8

abbrev pub deepest_expr : ℕ
deepest_expr = 32

-- a value that stands at this tag, below a bound
abbrev pub value_at : ℕ → ℕ → ℕ → ℕ → Option ℕ
value_at wanted bound tag v = choose (eqb tag wanted) (given (ltb v bound) v) none

-- a token of this tag whose value is below a bound: its value
unfoldable pub tagged : ℕ → ℕ → Reader ℕ
unfolding token
tagged tag bound = token (value_at tag bound)

-- a token of this tag whose value is from low to high, else 6
unfoldable pub counted : ℕ → ℕ → ℕ → Reader ℕ
unfolding tagged limited
counted tag low high = limited (λ n. leb low n && leb n high) (tagged tag words)

-- a count of at most so many
unfoldable pub count : ℕ → Reader ℕ
unfolding counted
count most = counted 3 0 most

-- "51 and 52 are followed by high."
unfoldable pub high : Reader ℕ
unfolding tagged
high = tagged 5 words

-- a node's kind
abbrev pub kind_at : ℕ → ℕ → Option NodeKind
kind_at tag v = choose (eqb tag 41) (kind_of v) none

-- expressions, then others
abbrev pub append : Exprs → Exprs → Exprs
append Exprs.end fs = fs
append (Exprs.and e es) fs = Exprs.and e (append es fs)

-- n expressions
unfoldable pub exprs : ℕ → Reader Expr → Reader Exprs
exprs zero r = return Exprs.end
exprs (suc n) r = r >>= λ e. exprs n r >>= λ es. return (Exprs.and e es)

-- an array's length is within its limit
abbrev pub short_enough : TypeToken → Bool
short_enough (TypeToken.Basic p) = true
short_enough (TypeToken.Array n) = leb n longest_array
short_enough (TypeToken.Named x) = true

-- it is no array
abbrev pub no_array : TypeToken → Bool
no_array (TypeToken.Basic p) = true
no_array (TypeToken.Array n) = false
no_array (TypeToken.Named x) = true

-- the type that a first token begins, r reading an element
abbrev pub typed : TypeToken → Reader Ty → Reader Ty
typed (TypeToken.Basic p) r = return (Ty.primitive p)
typed (TypeToken.Array n) r = r >>= λ e. return (Ty.array n e)
typed (TypeToken.Named x) r = return (Ty.named x)

-- M is the number of names
module _ (M : ℕ) where
  -- a name
  unfoldable pub name : Reader ℕ
  unfolding tagged
  name = tagged 4 M

  -- a type in which at most d arrays stand in one another; where none may, an array is refused, and no element is read
  unfoldable pub ty : ℕ → Reader Ty
  unfolding token limited type_token_of
  ty zero = limited no_array (token (type_token_of M)) >>= λ t. typed t (λ ts p. rejected (Refusal.Limit p))
  ty (suc d) = limited short_enough (token (type_token_of M)) >>= λ t. typed t (ty d)

  -- a name and its type
  unfoldable pub declaration : Reader Declared
  unfolding name ty
  declaration = name >>= λ n. ty deepest_type >>= λ a. return (record { name = n; type = a })

  -- "Enum: count, names. Record: count, then name and type each. Alias: type."
  unfoldable pub definition : DefinitionToken → Reader TypeDef
  unfolding count name declaration ty times
  definition (DefinitionToken.Enum x) = count most_counted >>= λ n. times n name >>= λ vs. return (record { name = x; body = Body.enum vs })
  definition (DefinitionToken.Record x) = count most_counted >>= λ n. times n declaration >>= λ fs. return (record { name = x; body = Body.fields fs })
  definition (DefinitionToken.Alias x) = ty deepest_type >>= λ a. return (record { name = x; body = Body.alias a })

  -- a type's definition
  unfoldable pub type_def : Reader TypeDef
  unfolding token definition_token_of definition
  type_def = token (definition_token_of M) >>= definition

  -- n fields, each a name and a value: the names, and the values
  unfoldable pub fields : ℕ → Reader Expr → Reader (List ℕ × Exprs)
  unfolding name
  fields zero r = return ([], Exprs.end)
  fields (suc n) r = name >>= λ f. r >>= λ e. fields n r >>= λ rest. return (f ∷ rest.0, Exprs.and e rest.1)

  -- a constant
  unfoldable pub constant : Literal → Reader Expr
  unfolding high
  constant (Literal.Bool v) = return (Expr.const (Literal.Bool v) 0)
  constant (Literal.Int v) = high >>= λ w. return (Expr.const (Literal.Int v) w)
  constant (Literal.Float v) = high >>= λ w. return (Expr.const (Literal.Float v) w)
  constant (Literal.Char v) = return (Expr.const (Literal.Char v) 0)

  -- a form that computes from n operands
  abbrev pub computed : Head → ℕ → Reader Expr → Reader Expr
  computed h n r = exprs n r >>= λ es. return (Expr.op h es)

  -- a map or fold: "a count 0 or 1 of start values, that value, a count, arrays"
  abbrev pub iteration : (ℕ → Head) → Reader Expr → Reader Expr
  iteration h r = counted 3 0 1 >>= λ k. exprs k r >>= λ s. count most_counted >>= λ n. exprs n r >>= λ es. return (Expr.op (h k) (append s es))

  -- what follows an expression's first token, r reading an operand
  unfoldable pub form : ExprToken → Reader Expr → Reader Expr
  unfolding constant exprs count counted fields ty
  form (ExprToken.Const l) r = constant l
  form (ExprToken.Var x) r = return (Expr.var x)
  form (ExprToken.Unary o) r = computed (Head.unary o) 1 r
  form (ExprToken.Binary o) r = computed (Head.binary o) 2 r
  form ExprToken.If r = computed Head.if 3 r
  form ExprToken.Pre r = r >>= λ a. return (Expr.pre a)
  form ExprToken.Arrow r = r >>= λ a. r >>= λ b. return (Expr.arrow a b)
  form (ExprToken.Call f) r = count most_counted >>= λ n. exprs n r >>= λ es. return (Expr.call f es)
  form (ExprToken.Field x) r = computed (Head.field x) 1 r
  form ExprToken.Index r = computed Head.index 2 r
  form ExprToken.Tuple r = count most_counted >>= λ n. computed Head.tuple n r
  form ExprToken.Array r = count most_counted >>= λ n. computed Head.array n r
  form (ExprToken.Struct x) r = count most_counted >>= λ n. fields n r >>= λ fs. return (Expr.op (Head.struct x fs.0) fs.1)
  form ExprToken.Cast r = ty deepest_type >>= λ a. computed (Head.cast a) 1 r
  form (ExprToken.When x) r = r >>= λ a. return (Expr.when (record { name = x; test = Test.On }) a)
  form (ExprToken.WhenNot x) r = r >>= λ a. return (Expr.when (record { name = x; test = Test.Not }) a)
  form (ExprToken.Merge x) r = r >>= λ a. r >>= λ b. return (Expr.merge x a b)
  form (ExprToken.Map f) r = iteration (Head.map f) r
  form (ExprToken.Fold f) r = iteration (Head.fold f) r

  -- an expression at most d deep; the first token of one that is deeper is refused
  unfoldable pub expr : ℕ → Reader Expr
  unfolding token limited expr_token_of form
  expr zero = limited (λ h. false) (token (expr_token_of M)) >>= λ h. form h (λ ts p. rejected (Refusal.Limit p))
  expr (suc d) = token (expr_token_of M) >>= λ h. form h (expr d)

  -- "each a count of left names, the names, the right side"
  unfoldable pub equation : Reader Equation
  unfolding counted times name expr
  equation = counted 3 1 most_left >>= λ n. times n name >>= λ ls. expr deepest_expr >>= λ e. return (record { left = ls; right = e })

  -- "label and name pairs"
  unfoldable pub probe : Reader Probe
  unfolding name
  probe = name >>= λ l. name >>= λ n. return (record { label = l; name = n })

  -- names with their types behind their count, at most so many
  unfoldable pub declarations : ℕ → Reader (List Declared)
  unfolding count times declaration
  declarations most = count most >>= λ n. times n declaration

  -- "Node: kind; inputs, outputs, locals, each a count and then name and type pairs; equations: count, each ..; probes: count, .."
  unfoldable pub node : Reader Node
  unfolding tagged token kind_of declarations count times equation probe
  node =
      tagged 40 M >>= λ n. token kind_at >>= λ k.
      declarations most_declared >>= λ ins.
      declarations (most_declared - length ins) >>= λ outs.
      declarations (most_declared - length ins - length outs) >>= λ ls.
      count most_counted >>= λ e. times e equation >>= λ es.
      count most_counted >>= λ p. times p probe >>= λ ps.
      return (record { name = n; kind = k; inputs = ins; outputs = outs; locals = ls; equations = es; probes = ps })

  -- the whole sheet: nothing follows ("the tokens .. go on": 5 at the first that does)
  unfoldable pub sheet : Reader Sheet
  unfolding counted times type_def node
  sheet =
      counted 1 0 most_types >>= λ n. times n type_def >>= λ tys.
      counted 2 0 most_nodes >>= λ m. times m node >>= λ ns.
      λ ts p. choose (eqb p (length ts)) (got (record { types = tys; nodes = ns }) p) (rejected (Refusal.Token p))
