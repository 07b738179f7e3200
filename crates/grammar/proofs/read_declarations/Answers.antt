-- A count, then a list that is read in one loop.
use Rattle.std.proofs.Common.{rules}
use Rattle.definitions.specs.Grammar.{declaration}
use Rattle.grammar.specs.Outcome.{outcome}
use Rattle.grammar.specs.Read.{tokens_of}
use Rattle.grammar.proofs.Laws.{passes}
use Rattle.grammar.proofs.Parts.{declarations_refused, declarations-all}
use Rattle.grammar.proofs.read_declarations.Goals as goal

pub returns-in_err-end : goal.returns-in_err-end
returns-in_err-end c =
    let a = c.args.source.now in
    passes _ _ _ c.from_residual-in_err-end.ensures (declarations_refused _ _ _ _ _ c.read_count.ensures _ _ c.in_ok-n.was _ (c.read_times.ensures (λ q. outcome (declaration a.names (tokens_of a) q)) (λ p s h. search rules)) _ c.in_err-end.was)

pub returns : goal.returns
returns c =
    let a = c.args.source.now in
    declarations-all _ _ _ _ _ c.read_count.ensures _ _ c.in_ok-n.was _ (c.read_times.ensures (λ q. outcome (declaration a.names (tokens_of a) q)) (λ p s h. search rules)) _ c.in_ok-end.was
