use Rattle.std.proofs.Common.{rules}
use Rattle.definitions.specs.Grammar.{probe}
use Rattle.grammar.specs.Outcome.{outcome}
use Rattle.grammar.specs.Read.{tokens_of}
use Rattle.grammar.proofs.Parts.{body_more, listed-all}
use Rattle.grammar.proofs.read_body.Goals as goal

pub returns : goal.returns
returns c =
    let a = c.args.source.now in
    body_more _ _ _ _ c.read_equations.ensures _ _ c.in_ok-next.was (listed-all (probe a.names) _ _ _ _ _ _ c.read_count.ensures _ _ _ c.in_ok-n.was (c.read_times.ensures (λ q. outcome (probe a.names (tokens_of a) q)) (λ p s h. search rules)))
