-- What a call does that writes an expression.
use Rattle.std.specs.Prelude.{◌≡◌}
use Rattle.std.specs.Borrow.{MutBor}
use Rattle.definitions.specs.Tree.{Expr}
use Rattle.definitions.specs.Output.{expr_tokens}
use Rattle.emit.specs.declared.output.Output.{Output}
use Rattle.emit.specs.Out.{emits}

-- whatever is written already, its tokens follow
abbrev pub Emits : (MutBor Output → Unit {0} → MutBor Output → Type 0) → Expr → Type 0
Emits call e = (o o' : MutBor Output) → call o tt o' → o'.now ≡ emits o.now (expr_tokens e)
