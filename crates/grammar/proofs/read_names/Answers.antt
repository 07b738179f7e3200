-- A count, then a list that is read in one loop.
use Rattle.definitions.specs.Grammar.{name}
use Rattle.grammar.specs.Outcome.{outcome}
use Rattle.grammar.specs.Parts.{names}
use Rattle.grammar.specs.Read.{tokens_of}
use Rattle.std.proofs.Common.{rules}
use Rattle.grammar.proofs.Parts.{listed-all}
use Rattle.grammar.proofs.read_names.Goals as goal

pub returns : goal.returns
unfolding names
returns c =
    let a = c.args.source.now in
    listed-all (name a.names) 3 c.args.low c.args.most (tokens_of a) c.args.at _ c.read_count.ensures _ _ _ c.in_ok-n.was (c.read_times.ensures (λ q. outcome (name a.names (tokens_of a) q)) (λ p s h. search rules))
