-- Where the operands of a first token stand, in the code's terms.
use Rattle.std.specs.Prelude.{ℕ, ◌+◌, List, eqb, length}
use Rattle.definitions.specs.Lists.{choose}
use Rattle.definitions.specs.Tokens.{TagValue}
use Rattle.definitions.specs.Tree.{Ty, Expr}
use Rattle.definitions.specs.Reading.{Got, got, rejected}
use Rattle.definitions.specs.Grammar.{counted, ty, most_counted, deepest_type}
use Rattle.grammar.specs.declared.Shape.{Shape}
use Rattle.operands.specs.declared.Gap.{Gap}
use Rattle.operands.specs.declared.Operands.{Operands}
use Rattle.layout.specs.Spans.{past_in}
use Rattle.operands.specs.Spread.{tree}

-- the place after an expression at p, where there is one
abbrev pub skipped : ℕ → Got Expr → ℕ
skipped p (got e q) = q
skipped p (rejected r) = p

-- operands with nothing between them
abbrev pub plain_at : ℕ → ℕ → Operands
plain_at p n = record { rest = record { next = p; gap = Gap.Nothing }; count = n }

-- operands behind their count, a start value and its operands, an operand behind a type
abbrev pub behind_count : Gap → ℕ → Got ℕ → Operands
behind_count g p (got n q) = record { rest = record { next = q; gap = g }; count = n }
behind_count g p (rejected r) = plain_at p 0

abbrev pub behind_start : ℕ → Got ℕ → Operands
behind_start p (got n q) = record { rest = record { next = p; gap = Gap.Between }; count = n + 1 }
behind_start p (rejected r) = plain_at p 0

abbrev pub behind_type : ℕ → Got Ty → Operands
behind_type p (got a q) = plain_at q 1
behind_type p (rejected r) = plain_at p 0

module _ (M : ℕ) (ts : List TagValue) where
  -- behind a count of start values
  abbrev pub iterated : ℕ → Got ℕ → Operands
  iterated p (got k q) = choose (eqb k 0)
      (behind_count Gap.Nothing q (counted 3 0 most_counted ts q))
      (behind_start q (counted 3 0 most_counted ts (skipped q (tree M ts q))))
  iterated p (rejected r) = plain_at p 0

  -- the operands that follow a first token of this shape
  unfoldable pub operands_at : Shape → ℕ → Operands
  operands_at Shape.Wide p = plain_at (past_in (length ts) p) 0
  operands_at (Shape.Operands k) p = plain_at p k
  operands_at Shape.Items p = behind_count Gap.Nothing p (counted 3 0 most_counted ts p)
  operands_at Shape.Fields p = behind_count Gap.Names p (counted 3 0 most_counted ts p)
  operands_at Shape.Cast p = behind_type p (ty M deepest_type ts p)
  operands_at Shape.Iteration p = iterated p (counted 3 0 1 ts p)
