-- The parts of a node, a definition and a sheet that a function of their own reads, for the code's sake.
use Rattle.std.specs.Prelude.{ℕ, ◌-◌, List, length, Result}
use Rattle.definitions.specs.declared.Refusal.{Refusal}
use Rattle.definitions.specs.Tokens.{TagValue}
use Rattle.definitions.specs.Tree.{Declared, TypeDef, Expr, Equation, Probe, Node}
use Rattle.definitions.specs.Reading.{Reader, ◌>>=◌, times}
use Rattle.definitions.specs.Grammar.{counted, name, declarations, type_def, equation, probe, node, most_types, most_nodes, most_counted, most_declared}
use Rattle.grammar.specs.Outcome.{outcome}
use Rattle.grammar.specs.Repeated.{onward}

-- M is the number of names
module _ (M : ℕ) where
  -- a field: a name, and a value that r reads
  abbrev pub field : Reader Expr → List TagValue → ℕ → Result ℕ Refusal
  field r ts p = onward (outcome (name M ts p)) (λ v. outcome (r ts v))

  -- names behind their count, which is from low to most
  unfoldable pub names : ℕ → ℕ → Reader (List ℕ)
  names low most = counted 3 low most >>= λ n. times n (name M)

  -- a node's inputs, outputs and locals: the locals
  unfoldable pub ports : Reader (List Declared)
  ports =
      declarations M most_declared >>= λ ins.
      declarations M (most_declared - length ins) >>= λ outs.
      declarations M (most_declared - length ins - length outs)

  -- a node's equations
  unfoldable pub equations : Reader (List Equation)
  equations = counted 3 0 most_counted >>= λ e. times e (equation M)

  -- a node's equations and probes: the probes
  unfoldable pub body : Reader (List Probe)
  body = equations >>= λ es. counted 3 0 most_counted >>= λ n. times n (probe M)

  -- a sheet's types
  unfoldable pub sheet_types : Reader (List TypeDef)
  sheet_types = counted 1 0 most_types >>= λ n. times n (type_def M)

  -- a sheet's nodes
  unfoldable pub sheet_nodes : Reader (List Node)
  sheet_nodes = counted 2 0 most_nodes >>= λ m. times m (node M)
