-- Operands among the tokens: so many, with what stands between them.
use Rattle.std.specs.Prelude.{ℕ, zero, suc}
use Rattle.definitions.specs.Tree.{Expr, Exprs}
use Rattle.definitions.specs.Reading.{Reader, ◌>>=◌, return}
use Rattle.definitions.specs.Grammar.{name, count, expr, most_counted, deepest_expr}
use Rattle.layout.specs.Spans.{past_in}
use Rattle.operands.specs.declared.Gap.{Gap}

-- what stands behind the first operand
unfoldable pub behind : Gap → Reader ℕ
behind Gap.Nothing = return 0
behind Gap.Names = return 0
behind Gap.Between = count most_counted

-- the gap of the operands after the first
abbrev pub later : Gap → Gap
later Gap.Nothing = Gap.Nothing
later Gap.Names = Gap.Names
later Gap.Between = Gap.Nothing

-- the place of the first operand, and where the rest begin behind it
abbrev pub operand_at : ℕ → Gap → ℕ → ℕ
operand_at most Gap.Nothing p = p
operand_at most Gap.Names p = past_in most p
operand_at most Gap.Between p = p

abbrev pub rest_at : ℕ → Gap → ℕ → ℕ
rest_at most Gap.Nothing q = q
rest_at most Gap.Names q = q
rest_at most Gap.Between q = past_in most q

-- M is the number of names
module _ (M : ℕ) where
  -- an expression of an accepted sheet
  abbrev pub tree : Reader Expr
  tree = expr M deepest_expr

  -- what stands before an operand
  unfoldable pub before : Gap → Reader ℕ
  before Gap.Nothing = return 0
  before Gap.Names = name M
  before Gap.Between = return 0

  -- n operands with this gap, r reading one
  unfoldable pub spread : Gap → ℕ → Reader Expr → Reader Exprs
  spread g zero r = return Exprs.end
  spread g (suc n) r = before g >>= λ x. r >>= λ e. behind g >>= λ y. spread (later g) n r >>= λ es. return (Exprs.and e es)
