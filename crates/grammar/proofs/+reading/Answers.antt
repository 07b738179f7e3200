-- The readers of an expression and of its parts call each other: the depth that is left falls, or stays while a part is told from its
-- whole.
use mathlib.Core.Path.{sym, ◌∙◌}
use Rattle.std.proofs.Common.{rules}
use Rattle.definitions.specs.Grammar.{expr}
use Rattle.grammar.specs.Outcome.{outcome}
use Rattle.grammar.specs.Parts.{field}
use Rattle.grammar.specs.Read.{tokens_of}
use Rattle.grammar.proofs.Laws.{passes, expr-stop, expr-deep, exprs-repeated, fields-repeated}
use Rattle.grammar.proofs.Shapes.{expr-follows}
use Rattle.grammar.proofs.+reading.Goals as goal

pub read_expr-returns-in_err-t : goal.read_expr-returns-in_err-t
read_expr-returns-in_err-t t c = passes _ _ _ c.from_residual.ensures (expr-stop _ _ _ _ c.expr_head.ensures _ _ c.in_err-t.was)

pub read_expr-returns-then-depth-eq0 : goal.read_expr-returns-then-depth-eq0
read_expr-returns-then-depth-eq0 t c = expr-deep _ _ _ _ c.expr_head.ensures _ _ _ c.in_ok-t.was c.if-depth-eq0.true

pub read_expr-returns : goal.read_expr-returns
read_expr-returns t c = expr-follows _ _ _ _ c.expr_head.ensures _ _ _ c.in_ok-t.was c.if-depth-eq0.false _ c.shape_of.ensures _ c.read_following.ensures

pub read_exprs-returns : goal.read_exprs-returns
read_exprs-returns t c =
    let a = c.args.source.now in
    c.read_times.ensures (λ q. outcome (expr a.names c.args.depth (tokens_of a) q)) (λ p s h. search rules) ∙ sym (exprs-repeated _ _ _ _)

pub read_fields-returns : goal.read_fields-returns
read_fields-returns t c =
    let a = c.args.source.now in
    c.read_times.ensures (λ q. field a.names (expr a.names c.args.depth) (tokens_of a) q) (λ p s h. search rules) ∙ sym (fields-repeated _ _ _ _ _)
