-- A count, then a list that is read in one loop.
use Rattle.definitions.specs.Grammar.{equation}
use Rattle.grammar.specs.Outcome.{outcome}
use Rattle.grammar.specs.Parts.{equations}
use Rattle.grammar.specs.Read.{tokens_of}
use Rattle.std.proofs.Common.{rules}
use Rattle.grammar.proofs.Parts.{listed-all}
use Rattle.grammar.proofs.read_equations.Goals as goal

pub returns : goal.returns
unfolding equations
returns c =
    let a = c.args.source.now in
    listed-all (equation a.names) 3 0 64 (tokens_of a) c.args.at _ c.read_count.ensures _ _ _ c.in_ok-n.was (c.read_times.ensures (λ q. outcome (equation a.names (tokens_of a) q)) (λ p s h. search rules))
