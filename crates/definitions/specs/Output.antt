-- The output: its tokens, its bytes, its names and its trees.
use Prim.Native.Nat.{ℕ, suc, ◌+◌, ◌/◌, ◌%◌, ◌^◌}
use mathlib.Core.List.{List, [], ◌∷◌, ◌++◌, map}
use Rattle.std.proofs.Math.Bool.{Bool, not}
use Rattle.std.specs.Prelude.{◌&&◌, leb, length, take, drop, get_or}
use Rattle.std.proofs.Math.Option.{Option, none, some}
use Rattle.definitions.specs.declared.Literal.{Literal}
use Rattle.definitions.specs.declared.TypeToken.{TypeToken}
use Rattle.definitions.specs.declared.DefinitionToken.{DefinitionToken}
use Rattle.definitions.specs.declared.ExprToken.{ExprToken}
use Rattle.definitions.specs.declared.Token.{Token}
use Rattle.definitions.specs.declared.Test.{Test}
use Rattle.definitions.specs.Lists.{choose, any, keep, place_by, join, up_from, Letters, same_letters, decimal, bytes}
use Rattle.definitions.specs.Tokens.{TagValue, code_of}
use Rattle.definitions.specs.Tree.{Ty, Declared, Body, Head, Expr, Exprs, Equation, Probe, Node, Sheet}
use Rattle.definitions.specs.Bytes.{most_names, most_letters}
use Rattle.definitions.specs.InferClocks.{NodeFault, Clocking, clock_faults, uses_clocks}
use Rattle.definitions.specs.Declock.{Stem, ck, first, hold, State, nothing_needed, Rewritten, stopped, done, declared, old_equations, new_locals, with_new}

-- an expression's first token, a type's first token
abbrev pub e : ExprToken → Token
e = Token.Expression

abbrev pub t : TypeToken → Token
t = Token.Type

-- a type: "Array type: element."
unfoldable pub ty_tokens : Ty → List Token
ty_tokens (Ty.primitive p) = t (TypeToken.Basic p) ∷ []
ty_tokens (Ty.array n a) = t (TypeToken.Array n) ∷ ty_tokens a
ty_tokens (Ty.named x) = t (TypeToken.Named x) ∷ []

-- names
abbrev pub name_tokens : List ℕ → List Token
name_tokens xs = map Token.Name xs

-- a name and its type
unfoldable pub declared_tokens : Declared → List Token
unfolding ty_tokens
declared_tokens d = Token.Name d.name ∷ ty_tokens d.type

-- items behind their count
abbrev pub counted_tokens : {A : Type 0} → (A → List Token) → List A → List Token
counted_tokens f l = Token.Count (length l) ∷ join (map f l)

-- "65 a count, then name and value"
unfoldable pub field_tokens : List ℕ → List (List Token) → List Token
field_tokens [] ps = []
field_tokens (f ∷ fs) [] = []
field_tokens (f ∷ fs) (p ∷ ps) = Token.Name f ∷ (p ++ field_tokens fs ps)

-- "70 and 71 a count 0 or 1 of start values, that value, a count, arrays"
abbrev pub iteration_tokens : ℕ → List (List Token) → List Token
iteration_tokens k ps = Token.Count k ∷ (join (take k ps) ++ (Token.Count (length (drop k ps)) ∷ join (drop k ps)))

-- "60, 63, 64 have a count, then items"
abbrev pub item_tokens : List (List Token) → List Token
item_tokens ps = Token.Count (length ps) ∷ join ps

-- "51 and 52 are followed by high"
abbrev pub literal_tokens : Literal → ℕ → List Token
literal_tokens (Literal.Bool v) w = e (ExprToken.Const (Literal.Bool v)) ∷ []
literal_tokens (Literal.Int v) w = e (ExprToken.Const (Literal.Int v)) ∷ Token.High w ∷ []
literal_tokens (Literal.Float v) w = e (ExprToken.Const (Literal.Float v)) ∷ Token.High w ∷ []
literal_tokens (Literal.Char v) w = e (ExprToken.Const (Literal.Char v)) ∷ []

-- a form and its operands' tokens
unfoldable pub form_tokens : Head → List (List Token) → List Token
unfolding field_tokens ty_tokens
form_tokens (Head.unary o) ps = e (ExprToken.Unary o) ∷ join ps
form_tokens (Head.binary o) ps = e (ExprToken.Binary o) ∷ join ps
form_tokens Head.if ps = e ExprToken.If ∷ join ps
form_tokens (Head.field x) ps = e (ExprToken.Field x) ∷ join ps
form_tokens Head.index ps = e ExprToken.Index ∷ join ps
form_tokens Head.tuple ps = e ExprToken.Tuple ∷ item_tokens ps
form_tokens Head.array ps = e ExprToken.Array ∷ item_tokens ps
form_tokens (Head.struct x fs) ps = e (ExprToken.Struct x) ∷ Token.Count (length ps) ∷ field_tokens fs ps
form_tokens (Head.cast a) ps = e ExprToken.Cast ∷ (ty_tokens a ++ join ps)
form_tokens (Head.map f k) ps = e (ExprToken.Map f) ∷ iteration_tokens k ps
form_tokens (Head.fold f k) ps = e (ExprToken.Fold f) ∷ iteration_tokens k ps

-- a when's first token
abbrev pub when_token : Test → ℕ → ExprToken
when_token Test.On x = ExprToken.When x
when_token Test.Not x = ExprToken.WhenNot x

-- an expression, "tag first"
unfoldable mutual
  unfolding form_tokens

  pub expr_tokens : Expr → List Token
  expr_tokens (Expr.const l w) = literal_tokens l w
  expr_tokens (Expr.var x) = e (ExprToken.Var x) ∷ []
  expr_tokens (Expr.op h es) = form_tokens h (operand_tokens es)
  expr_tokens (Expr.pre a) = e ExprToken.Pre ∷ expr_tokens a
  expr_tokens (Expr.arrow a b) = e ExprToken.Arrow ∷ (expr_tokens a ++ expr_tokens b)
  expr_tokens (Expr.call f es) = e (ExprToken.Call f) ∷ item_tokens (operand_tokens es)
  expr_tokens (Expr.when k a) = e (when_token k.test k.name) ∷ expr_tokens a
  expr_tokens (Expr.merge x a b) = e (ExprToken.Merge x) ∷ (expr_tokens a ++ expr_tokens b)

  pub operand_tokens : Exprs → List (List Token)
  operand_tokens Exprs.end = []
  operand_tokens (Exprs.and a es) = expr_tokens a ∷ operand_tokens es

-- a type's definition: "Enum: count, names. Record: count, then name and type each. Alias: type."
unfoldable pub definition_tokens : ℕ → Body → List Token
unfolding declared_tokens ty_tokens
definition_tokens x (Body.enum vs) = Token.Definition (DefinitionToken.Enum x) ∷ Token.Count (length vs) ∷ name_tokens vs
definition_tokens x (Body.fields fs) = Token.Definition (DefinitionToken.Record x) ∷ counted_tokens declared_tokens fs
definition_tokens x (Body.alias a) = Token.Definition (DefinitionToken.Alias x) ∷ ty_tokens a

-- an equation: "a count of left names, the names, the right side"
unfoldable pub equation_tokens : Equation → List Token
unfolding expr_tokens
equation_tokens q = Token.Count (length q.left) ∷ (name_tokens q.left ++ expr_tokens q.right)

-- a probe: "label and name"
abbrev pub probe_tokens : Probe → List Token
probe_tokens p = Token.Name p.label ∷ Token.Name p.name ∷ []

-- a node: "kind; inputs, outputs, locals .. equations .. probes"
unfoldable pub node_tokens : Node → List Token
unfolding declared_tokens equation_tokens
node_tokens n =
    Token.Node n.name ∷ Token.Kind n.kind
    ∷ (counted_tokens declared_tokens n.inputs ++ (counted_tokens declared_tokens n.outputs ++ (counted_tokens declared_tokens n.locals
    ++ (counted_tokens equation_tokens n.equations ++ counted_tokens probe_tokens n.probes))))

-- "types with their definitions, then nodes"
unfoldable pub sheet_tokens : Sheet → List Token
unfolding definition_tokens node_tokens
sheet_tokens s =
    Token.Types (length s.types) ∷ (join (map (λ d. definition_tokens d.name d.body) s.types)
    ++ (Token.Nodes (length s.nodes) ∷ join (map node_tokens s.nodes)))

-- the four bytes of a word, low byte first
abbrev pub word_bytes : ℕ → List ℕ
word_bytes n = n % 256 ∷ (n / 2 ^ 8) % 256 ∷ (n / 2 ^ 16) % 256 ∷ (n / 2 ^ 24) % 256 ∷ []

-- names and tokens as bytes: three sizes, lengths, letters, tags, values
unfoldable pub sheet_bytes : List Letters → List TagValue → List ℕ
sheet_bytes names ts =
    word_bytes (length names) ++ (word_bytes (length (join names)) ++ (word_bytes (length ts)
    ++ (map length names ++ (join names ++ (map (λ k. k.tag) ts ++ join (map (λ k. word_bytes k.value) ts))))))

-- a sheet as bytes
unfoldable pub written : List Letters → Sheet → List ℕ
unfolding sheet_tokens sheet_bytes code_of
written names s = sheet_bytes names (map code_of (sheet_tokens s))

-- "Output: 8,192 tokens, same M and L, nothing else."
abbrev pub most_tokens_out : ℕ
most_tokens_out = 8192

unfoldable pub within_limits : List Letters → Sheet → Bool
unfolding sheet_tokens
within_limits names s = leb (length names) most_names && leb (length (join names)) most_letters && leb (length (sheet_tokens s)) most_tokens_out

-- "New names are __ck, __first, __hold"
abbrev pub stem_letters : Stem → Letters
stem_letters ck = bytes "__ck"
stem_letters first = bytes "__first"
stem_letters hold = bytes "__hold"

-- a name's place among names: its id
abbrev pub id_of : List Letters → Letters → ℕ
id_of names n = place_by (same_letters n) names

-- the id of `condact` among names
abbrev pub condact_id : List Letters → ℕ
condact_id names = id_of names (bytes "condact")

-- "a name present is not added"
abbrev pub add_name : List Letters → Letters → List Letters
add_name names n = choose (any (same_letters n) names) names (names ++ (n ∷ []))

-- names added one after another
abbrev pub add_names : List Letters → List Letters → List Letters
add_names names [] = names
add_names names (n ∷ ns) = add_names (add_name names n) ns

module _ (names : List Letters) where
  -- the letters of a name of the input
  abbrev pub letters_of : ℕ → Letters
  letters_of x = get_or names x []

  -- the letters of a node's j-th new name of a stem: the stem with the j-th number "free among the node's declared names"
  unfoldable pub new_letters : Node → Stem → ℕ → Letters
  unfolding decimal bytes
  new_letters n stem j =
      let taken = map (λ d. letters_of d.name) (declared n) in
      let free : ℕ → Bool = λ k. not (any (same_letters (stem_letters stem ++ decimal k)) taken) in
      stem_letters stem ++ decimal (get_or (keep free (up_from 0 (length taken + suc j))) j 0)

  -- its id among some names
  abbrev pub new_id : List Letters → Node → Stem → ℕ → ℕ
  new_id all n stem j = id_of all (new_letters n stem j)

-- a node with what inference and checking say of it
pub record ClockedNode : Type 0 where
  pub node : Node
  pub clocking : Clocking

module _ (names : List Letters) (sheet : Sheet) where
  -- a node's equations rewritten, with what they needed; new names and `condact` have their ids among these names
  unfoldable pub rewritten : List Letters → ClockedNode → Rewritten (List Equation)
  unfolding new_letters old_equations bytes
  rewritten all n = old_equations sheet.types sheet.nodes (new_id names all n.node) (condact_id all) n.node 0 n.clocking.equations nothing_needed

  -- the fault that a rewriting stopped at
  abbrev pub stopped_at : Rewritten (List Equation) → Option NodeFault
  stopped_at (stopped f) = some f
  stopped_at (done es s) = none

  -- a node's faults: "its clock faults, else rewriting's first"; a node that uses no clocks has none
  unfoldable pub node_faults : ClockedNode → List NodeFault
  unfolding rewritten clock_faults uses_clocks
  node_faults n =
      elim (clock_faults n.clocking.findings) [
        | f ∷ rest ↦ f ∷ rest
        | [] ↦ elim (choose (uses_clocks n.node) (stopped_at (rewritten names n)) none) [ none ↦ [] | some f ↦ f ∷ [] ]
      ]

  -- the names with those that a node adds: its "new locals in order, then `condact` if that node first needs it"
  abbrev pub with_names_of : List Letters → Node → State → List Letters
  with_names_of all n s =
      let more = add_names all (map (λ l. new_letters names n l.stem l.number) (new_locals (letters_of names) (λ stem j. 0) s)) in
      choose s.condact (add_name more (bytes "condact")) more

  -- the same of a node that is rewritten; one that uses no clocks adds none (a faulty one is refused before)
  unfoldable pub with_new_names : List Letters → ClockedNode → List Letters
  unfolding rewritten uses_clocks new_letters new_locals bytes
  with_new_names all n =
      choose (uses_clocks n.node)
      (elim (rewritten names n) [ stopped f ↦ all | done es s ↦ with_names_of all n.node s ])
      all

  -- "The output's names are the input's, then each node's"
  unfoldable pub output_names : List Letters → List ClockedNode → List Letters
  unfolding with_new_names
  output_names all [] = all
  output_names all (n ∷ ns) = output_names (with_new_names all n) ns

  -- a node of the output: rewritten, or, if it uses no clocks, as it came (a faulty one is refused before)
  unfoldable pub output_node : List Letters → ClockedNode → Node
  unfolding rewritten new_letters new_locals with_new uses_clocks
  output_node all n =
      choose (uses_clocks n.node)
      (elim (rewritten all n) [
        | stopped f ↦ n.node
        | done es s ↦ with_new (new_id names all n.node) n.node (new_locals (letters_of names) (new_id names all n.node) s) es
      ])
      n.node

  -- the output's names, and its sheet
  unfoldable pub names_out : List ClockedNode → List Letters
  unfolding output_names
  names_out ns = output_names names ns

  unfoldable pub sheet_out : List ClockedNode → Sheet
  unfolding names_out output_node
  sheet_out ns = record { types = sheet.types; nodes = map (output_node (names_out ns)) ns }
