-- Document 01, "Sheets to hold it against": the starred sheets, and one with every tag, as one table.
-- A sheet's first names are `start`, `x` and `c`: ids 0, 1 and 2. The node asked about is node 0.
use Rattle.std.specs.Prelude.{ℕ, zero, suc, ◌≡◌, refl, List, [], ◌∷◌, ◌++◌, map}
use Prim.Native.String.{String}
use Rattle.definitions.specs.declared.UnaryOp.{UnaryOp}
use Rattle.definitions.specs.declared.BinOp.{BinOp}
use Rattle.definitions.specs.declared.Primitive.{Primitive}
use Rattle.definitions.specs.declared.Literal.{Literal}
use Rattle.definitions.specs.declared.NodeKind.{NodeKind}
use Rattle.definitions.specs.declared.Refusal.{Refusal}
use Rattle.definitions.specs.Lists.{Letters, bytes}
use Rattle.definitions.specs.Tree.{Ty, Declared, Body, Head, Expr, Exprs, Equation, Sheet}
use Rattle.definitions.specs.Refusals.{Answer, accepted, refused, faulty}
use Rattle.definitions.specs.Clock.{is_on, is_not}
use Rattle.definitions.specs.Declock.{true_of, not_of, and_of, if_of}
use Rattle.definitions.specs.Output.{written}
use Rattle.definitions.specs.Answer.{Input, input, rewrite_answer, listing_answer, text_answer}
use Rattle.definitions.specs.LiteralSheets.{k1, k2, every_tag}

-- Trees in short.

abbrev v : ℕ → Expr
v = Expr.var

abbrev x : Expr
x = v 1

abbrev c : Expr
c = v 2

abbrev int : ℕ → Expr
int n = Expr.const (Literal.Int n) 0

abbrev when_c : Expr → Expr
when_c e = Expr.when (is_on 2) e

abbrev pre : Expr → Expr
pre = Expr.pre

infixr 75 ◌⟶◌
abbrev ◌⟶◌ : Expr → Expr → Expr
a ⟶ b = Expr.arrow a b

abbrev one : Expr → Exprs
one a = Exprs.and a Exprs.end

abbrev two : Expr → Expr → Exprs
two a b = Exprs.and a (one b)

infixl 85 ◌plus◌
abbrev ◌plus◌ : Expr → Expr → Expr
a plus b = Expr.op (Head.binary BinOp.Add) (two a b)

infix 70 ◌≔◌
abbrev ◌≔◌ : ℕ → Expr → Equation
y ≔ e = record { left = y ∷ []; right = e }

infix 70 ◌is◌
abbrev ◌is◌ : ℕ → Primitive → Declared
y is p = record { name = y; type = Ty.primitive p }

abbrev int32 : ℕ → Declared
int32 y = y is Primitive.Int32

abbrev boolean : ℕ → Declared
boolean y = y is Primitive.Bool

-- the operator `start` with inputs x and c, alone in a sheet
abbrev start : List Declared → List Declared → List Equation → Sheet
start outputs locals equations =
    record {
      types = [];
      nodes =
          record { name = 0; kind = NodeKind.Operator; inputs = int32 1 ∷ boolean 2 ∷ []; outputs = outputs; locals = locals; equations = equations; probes = [] } ∷ [];
    }

-- names and a tree
abbrev says : List String → Sheet → Input
says more s = record { names = map bytes ("start" ∷ "x" ∷ "c" ∷ more); sheet = s }

-- its bytes
unfoldable pub bytes_of : Input → List ℕ
unfolding written
bytes_of i = written i.names i.sheet

-- x under so many whens of name 4
abbrev whens : ℕ → Expr
whens zero = x
whens (suc n) = Expr.when (is_on 4) (whens n)

-- c joined with itself by these operators
abbrev joined : List BinOp → Expr
joined [] = c
joined (o ∷ os) = Expr.op (Head.binary o) (two c (joined os))

-- the sheet with every tag, its first equation's right side given; node 1 is a function `f`, node 2 an imported `g`
unfoldable pub every_tag_says : Expr → Input
unfolding bytes
every_tag_says first =
    says
    ("y" ∷ "f" ∷ "g" ∷ "E" ∷ "V" ∷ "W" ∷ "R" ∷ "p" ∷ "q" ∷ "A" ∷ "z" ∷ "r" ∷ "m" ∷ "s" ∷ "t" ∷ "u" ∷ "v" ∷ "o" ∷ "l"
    ∷ "i8" ∷ "i64" ∷ "u8" ∷ "u16" ∷ "u32" ∷ "u64" ∷ "f32" ∷ "k" ∷ [])
    (record {
      types =
          record { name = 6; body = Body.enum (7 ∷ 8 ∷ []) }
          ∷ record { name = 9; body = Body.fields (record { name = 10; type = Ty.named 6 } ∷ record { name = 11; type = Ty.array 2 (Ty.primitive Primitive.Int32) } ∷ []) }
          ∷ record { name = 12; body = Body.alias (Ty.named 9) } ∷ [];
      nodes =
          record {
            name = 0;
            kind = NodeKind.Operator;
            inputs =
                int32 1 ∷ boolean 2 ∷ 22 is Primitive.Int8 ∷ 23 is Primitive.Int64 ∷ 24 is Primitive.Uint8 ∷ 25 is Primitive.Uint16
                ∷ 26 is Primitive.Uint32 ∷ 27 is Primitive.Uint64 ∷ 28 is Primitive.Float32 ∷ [];
            outputs = int32 3 ∷ [];
            locals =
                boolean 13 ∷ record { name = 14; type = Ty.named 12 } ∷ record { name = 15; type = Ty.array 2 (Ty.primitive Primitive.Int32) }
                ∷ int32 16 ∷ 17 is Primitive.Char ∷ 18 is Primitive.Float64 ∷ 19 is Primitive.Int16 ∷ int32 20 ∷ boolean 21 ∷ [];
            equations =
                3 ≔ first
                ∷ 13 ≔ true_of ⟶ pre (v 13)
                ∷ 14 ≔ Expr.op (Head.struct 9 (10 ∷ 11 ∷ [])) (two (v 7) (Expr.op Head.array (two x (int 7))))
                ∷ 15 ≔ Expr.op (Head.map 4 0) (one (Expr.op (Head.field 11) (one (v 14))))
                ∷ 16 ≔ Expr.op (Head.fold 4 1) (two (Expr.const (Literal.Int 3) 4) (v 15))
                ∷ record { left = 17 ∷ 18 ∷ []; right = Expr.op Head.tuple (two (Expr.const (Literal.Char 97) 0) (Expr.const (Literal.Float 5) 6)) }
                ∷ 19 ≔ Expr.op (Head.cast (Ty.primitive Primitive.Int16)) (one (Expr.op (Head.unary UnaryOp.Neg) (one (Expr.op Head.index (two (v 15) (int 0))))))
                ∷ 20 ≔ if_of (not_of c) (Expr.call 4 (one x)) (Expr.call 5 (one x))
                ∷ 21 ≔ joined
                (BinOp.And ∷ BinOp.Or ∷ BinOp.Xor ∷ BinOp.Implies ∷ BinOp.Eq ∷ BinOp.Neq ∷ BinOp.Lt ∷ BinOp.Le ∷ BinOp.Gt ∷ BinOp.Ge
                ∷ BinOp.Add ∷ BinOp.Sub ∷ BinOp.Mul ∷ BinOp.Div ∷ BinOp.Mod ∷ BinOp.BitAnd ∷ BinOp.BitOr ∷ BinOp.BitXor ∷ BinOp.Shl ∷ BinOp.Shr ∷ [])
                ∷ [];
            probes = record { label = 29; name = 3 } ∷ [];
          }
          ∷ record { name = 4; kind = NodeKind.Function; inputs = int32 1 ∷ []; outputs = int32 3 ∷ []; locals = []; equations = []; probes = [] }
          ∷ record { name = 5; kind = NodeKind.Imported; inputs = int32 1 ∷ []; outputs = int32 3 ∷ []; locals = []; equations = []; probes = [] } ∷ [];
    })

-- a sheet's bytes; what they say; what rewriting answers; the listing of node 0: passes, the equations' clocks, chains, clock faults;
-- the text of its first fault
pub record Row : Type 0 where
  pub sheet : List ℕ
  pub tree : Answer Input
  pub rewritten : Answer (List ℕ)
  pub listing : Answer Letters
  pub text : Answer Letters

-- a row of a sheet that is read, its bytes being the tree's
abbrev row : Input → Answer (List ℕ) → Answer Letters → Answer Letters → Row
row i out listed said = record { sheet = bytes_of i; tree = accepted i; rewritten = out; listing = listed; text = said }

-- rewritten to this; listed so; no fault to tell of
abbrev to : List String → Sheet → Answer (List ℕ)
to more s = accepted (bytes_of (says more s))

abbrev so : String → Answer Letters
so s = accepted (bytes s)

abbrev no_fault : Answer Letters
no_fault = refused Refusal.Missing

-- the first fault of node 0
abbrev fault_at : ℕ → ℕ → Answer (List ℕ)
fault_at f e = faulty (record { node = 0; fault = f; equation = e } ∷ [])

-- K3's tree: no when or merge, undeclared names
abbrev k3 : Input
k3 = says ("y" ∷ "u" ∷ "w" ∷ "q" ∷ []) (start (int32 3 ∷ []) [] (3 ≔ v 4 plus pre (v 5) ∷ 6 ≔ v 4 ∷ []))

-- the starred sheets
unfoldable pub table : List Row
unfolding bytes_of bytes k1 k2 every_tag every_tag_says
table =
    -- K1
    record {
      sheet = k1;
      tree = accepted (says ("y" ∷ "a" ∷ []) (start (int32 3 ∷ []) (int32 4 ∷ [])
          (4 ≔ when_c x ⟶ pre (v 4) plus when_c x ∷ 3 ≔ Expr.merge 2 (v 4) (int 0) ∷ [])));
      rewritten = to ("y" ∷ "a" ∷ "__ck0" ∷ "__first0" ∷ []) (start (int32 3 ∷ []) (int32 4 ∷ boolean 5 ∷ boolean 6 ∷ [])
          (5 ≔ c
          ∷ 6 ≔ true_of ⟶ and_of (pre (v 6)) (not_of (pre (v 5)))
          ∷ 4 ≔ if_of (v 5) (if_of (v 6) x (pre (v 4) plus x)) (int 0 ⟶ pre (v 4))
          ∷ 3 ≔ if_of c (v 4) (int 0) ∷ []));
      listing = so "start 2 2 1\n0 base/c+\n1 base\nchain base/c+\n";
      text = no_fault;
    }
    -- K2
    ∷ record { sheet = k2; tree = accepted (record { names = []; sheet = record { types = []; nodes = [] } }); rewritten = accepted k2; listing = refused Refusal.Missing; text = refused Refusal.Missing }
    -- K3
    ∷ row k3 (accepted (bytes_of k3)) (so "start 2 1 0\n0 base\n1 base\n") no_fault
    -- K5
    ∷ row (says ("p" ∷ "q" ∷ "r" ∷ []) (start [] (int32 3 ∷ int32 4 ∷ int32 5 ∷ []) (3 ≔ v 4 ∷ 4 ≔ v 5 ∷ 5 ≔ when_c x ∷ [])))
    (to ("p" ∷ "q" ∷ "r" ∷ "__ck0" ∷ []) (start [] (int32 3 ∷ int32 4 ∷ int32 5 ∷ boolean 6 ∷ [])
    (6 ≔ c
    ∷ 3 ≔ if_of (v 6) (v 4) (int 0 ⟶ pre (v 3))
    ∷ 4 ≔ if_of (v 6) (v 5) (int 0 ⟶ pre (v 4))
    ∷ 5 ≔ if_of (v 6) x (int 0 ⟶ pre (v 5)) ∷ [])))
    (so "start 3 4 0\n0 base/c+\n1 base/c+\n2 base/c+\n")
    no_fault
    -- K6
    ∷ row (says ("p" ∷ "q" ∷ []) (start [] (int32 3 ∷ int32 4 ∷ []) (3 ≔ when_c (v 4) ∷ 4 ≔ v 3 ∷ [])))
    (fault_at 1 0)
    (so "start 2 3 0\n0 base/c+/c+/c+/c+\n1 base/c+/c+/c+\nfault 0 1 0 `p` is on clock `when c when c when c` but its defining equation runs on clock `when c when c when c when c`\nfault 0 4 0 clock variable `c` is on the base clock but samples a stream on clock `when c when c when c`\n")
    (so "`p` is on clock `when c when c when c` but its defining equation runs on clock `when c when c when c when c`")
    -- K7
    ∷ row (says ("a" ∷ []) (start [] (int32 3 ∷ []) (3 ≔ pre (when_c x) ∷ [])))
    (to ("a" ∷ "__ck0" ∷ "__hold0" ∷ []) (start [] (int32 3 ∷ boolean 4 ∷ int32 5 ∷ [])
    (4 ≔ c
    ∷ 5 ≔ if_of (v 4) x (pre (v 5))
    ∷ 3 ≔ if_of (v 4) (pre (v 5)) (int 0 ⟶ pre (v 3)) ∷ [])))
    (so "start 1 2 1\n0 base/c+\nchain base/c+\n")
    no_fault
    -- K8
    ∷ row (says ("a" ∷ []) (start [] (int32 3 ∷ []) (3 ≔ pre (when_c x plus when_c x) ∷ [])))
    (fault_at 9 0)
    (so "start 1 2 1\n0 base/c+\nchain base/c+\n")
    (so "cannot determine the type of a clocked `pre` operand")
    -- K9
    ∷ row (says ("__ck0" ∷ "a" ∷ []) (start [] (boolean 3 ∷ int32 4 ∷ []) (3 ≔ true_of ∷ 4 ≔ when_c x ∷ [])))
    (to ("__ck0" ∷ "a" ∷ "__ck1" ∷ []) (start [] (boolean 3 ∷ int32 4 ∷ boolean 5 ∷ [])
    (5 ≔ c ∷ 3 ≔ true_of ∷ 4 ≔ if_of (v 5) x (int 0 ⟶ pre (v 4)) ∷ [])))
    (so "start 2 2 0\n0 base\n1 base/c+\n")
    no_fault
    -- K10, eight whens
    ∷ row (says ("a" ∷ "u" ∷ []) (start [] (int32 3 ∷ []) (3 ≔ whens 8 ∷ [])))
    (to ("a" ∷ "u" ∷ "__ck0" ∷ "__ck1" ∷ "__ck2" ∷ "__ck3" ∷ "__ck4" ∷ "__ck5" ∷ "__ck6" ∷ "__ck7" ∷ [])
    (start [] (int32 3 ∷ map boolean (5 ∷ 6 ∷ 7 ∷ 8 ∷ 9 ∷ 10 ∷ 11 ∷ 12 ∷ []))
    (5 ≔ v 4
    ∷ (map (λ k. suc k ≔ and_of (v k) (v 4)) (5 ∷ 6 ∷ 7 ∷ 8 ∷ 9 ∷ 10 ∷ 11 ∷ [])
    ++ (3 ≔ if_of (v 12) x (int 0 ⟶ pre (v 3)) ∷ [])))))
    (so "start 1 2 0\n0 base/u+/u+/u+/u+/u+/u+/u+/u+\n")
    no_fault
    -- K10, nine
    ∷ row (says ("a" ∷ "u" ∷ []) (start [] (int32 3 ∷ []) (3 ≔ whens 9 ∷ []))) (refused (Refusal.Deep 0)) (refused (Refusal.Deep 0)) (refused (Refusal.Deep 0))
    -- two chains, needed the other way round: "on before not", "both in chain order"
    ∷ row (says ("a" ∷ "b" ∷ []) (start [] (int32 3 ∷ int32 4 ∷ []) (3 ≔ Expr.when (is_not 2) x ⟶ pre (v 3) ∷ 4 ≔ when_c x ⟶ pre (v 4) ∷ [])))
    (to ("a" ∷ "b" ∷ "__ck1" ∷ "__ck0" ∷ "__first1" ∷ "__first0" ∷ [])
    (start [] (int32 3 ∷ int32 4 ∷ map boolean (5 ∷ 6 ∷ 7 ∷ 8 ∷ []))
    (5 ≔ c
    ∷ 6 ≔ not_of c
    ∷ 7 ≔ true_of ⟶ and_of (pre (v 7)) (not_of (pre (v 5)))
    ∷ 8 ≔ true_of ⟶ and_of (pre (v 8)) (not_of (pre (v 6)))
    ∷ 3 ≔ if_of (v 6) (if_of (v 8) x (pre (v 3))) (int 0 ⟶ pre (v 3))
    ∷ 4 ≔ if_of (v 5) (if_of (v 7) x (pre (v 4))) (int 0 ⟶ pre (v 4)) ∷ [])))
    (so "start 2 2 2\n0 base/c-\n1 base/c+\nchain base/c+\nchain base/c-\n")
    no_fault
    -- every tag: of the first equation the merge becomes an if
    ∷ record {
      sheet = every_tag;
      tree = accepted (every_tag_says (Expr.merge 2 (when_c x) (Expr.when (is_not 2) x)));
      rewritten = accepted (bytes_of (every_tag_says (if_of c x x)));
      listing = so "start 9 2 0\n0 base\n1 base\n2 base\n3 base\n4 base\n5 base\n6 base\n7 base\n8 base\n";
      text = no_fault;
    }
    ∷ []

-- the most bytes that an output may need: 12 + 1,024 + 16,384 + 5 × 8,192
abbrev most : ℕ
most = 58380

-- the bytes that an accepted tree is written to
unfoldable pub written_back : Answer Input → List ℕ
unfolding bytes_of
written_back (accepted i) = bytes_of i
written_back (refused r) = []
written_back (faulty l) = []

-- what the definitions answer to a row's sheet; the sheet itself is what the writer makes of the tree
unfoldable pub answers : Row → Row
unfolding written_back input rewrite_answer listing_answer text_answer
answers r =
    record {
      sheet = written_back (input r.sheet);
      tree = input r.sheet;
      rewritten = rewrite_answer r.sheet most;
      listing = listing_answer r.sheet 0 most;
      text = text_answer r.sheet 0 0 most;
    }

-- each starred sheet is answered as its row says
pub starred : map answers table ≡ table
unfolding table answers
starred = refl
