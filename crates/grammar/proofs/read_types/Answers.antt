-- A count, then a list that is read in one loop.
use Rattle.definitions.specs.Grammar.{type_def}
use Rattle.grammar.specs.Outcome.{outcome}
use Rattle.grammar.specs.Parts.{sheet_types}
use Rattle.grammar.specs.Read.{tokens_of}
use Rattle.std.proofs.Common.{rules}
use Rattle.grammar.proofs.Parts.{listed-all}
use Rattle.grammar.proofs.read_types.Goals as goal

pub returns : goal.returns
unfolding sheet_types
returns c =
    let a = c.args.source.now in
    listed-all (type_def a.names) 1 0 32 (tokens_of a) c.args.at _ c.read_count.ensures _ _ _ c.in_ok-n.was (c.read_times.ensures (λ q. outcome (type_def a.names (tokens_of a) q)) (λ p s h. search rules))
