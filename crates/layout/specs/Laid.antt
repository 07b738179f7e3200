-- Where the parts of what was read stand.
use Rattle.std.specs.Prelude.{ℕ, ◌≤◌, ◌≡◌, List, length, get_or}
use Rattle.std.proofs.Math.Option.{some}
use Rattle.std.proofs.Math.ListN.{get_elem?}
use Rattle.definitions.specs.Tokens.{TagValue}
use Rattle.definitions.specs.Tree.{Declared, Equation, Node, Sheet}
use Rattle.definitions.specs.Reading.{Reader, got}
use Rattle.definitions.specs.Grammar.{name, ty, declaration, expr, equation, probe, type_def, node}
use Rattle.layout.specs.Spans.{Spans}
use Rattle.layout.specs.declared.DeclarationLayout.{DeclarationLayout}
use Rattle.layout.specs.declared.NodeLayout.{NodeLayout}
use Rattle.layout.specs.declared.SheetLayout.{SheetLayout}
use Rattle.layout.specs.declared.Span.{Span}

-- a name with its type, from p up to q: the type stands behind the name, where the layout says
pub record LaidDeclaration (M : ℕ) (ts : List TagValue) (p : ℕ) (d : Declared) (q : ℕ) (l : DeclarationLayout) : Type 0 where
  pub named : l.name ≡ d.name
  pub label : name M ts p ≡ got d.name l.type_at
  pub typed : ty M 8 ts l.type_at ≡ got d.type q
  pub ends : l.end ≡ q

-- a node that ends at q: its lists stand where the layout says
pub record LaidNode (M : ℕ) (ts : List TagValue) (n : Node) (q : ℕ) (l : NodeLayout) : Type 0 where
  pub named : l.name ≡ n.name
  pub kinded : l.kind ≡ n.kind
  pub inputs : Spans (declaration M) ts n.inputs l.inputs
  pub outputs : Spans (declaration M) ts n.outputs l.outputs
  pub locals : Spans (declaration M) ts n.locals l.locals
  pub equations : Spans (equation M) ts n.equations l.equations
  pub probes : Spans (probe M) ts n.probes l.probes
  pub ends : l.end ≡ q

-- an equation that ends at q: its left names stand there, and its right side behind them
pub record LaidEquation (M : ℕ) (ts : List TagValue) (e : Equation) (q : ℕ) (l : Span) (end : ℕ) : Type 0 where
  pub left : Spans (name M) ts e.left l
  pub right : expr M 32 ts l.end ≡ got e.right q
  pub ends : end ≡ q

-- a sheet: its types and its nodes stand where the layout says, and fill it
pub record LaidSheet (M : ℕ) (ts : List TagValue) (s : Sheet) (l : SheetLayout) : Type 0 where
  pub types : Spans (type_def M) ts s.types l.types
  pub nodes : Spans (node M) ts s.nodes l.nodes
  pub few-types : l.types.count ≤ 32
  pub few-nodes : l.nodes.count ≤ 16
  pub whole : l.nodes.end ≡ length ts

-- each item of a list is read at its place
pub record Places {A : Type 0} (R : Reader A) (ts : List TagValue) (ps : List ℕ) (l : List A) : Type 0 where
  pub stands : (i : ℕ) (a : A) → get_elem? l i ≡ some a → (q : ℕ) × (R ts (get_or ps i 0) ≡ got a q)
