-- A test of the place, and the token that stands there.
use mathlib.Core.Path.{sym, ap}
use mathlib.Core.Option.{Option}
use Rattle.definitions.specs.Tokens.{TagValue}
use Rattle.grammar.specs.Step.{step_of}
use Rattle.grammar.proofs.ReaderLaws.{tokens-at, tokens-end}
use Rattle.grammar.proofs.source.Reader.next_token.Goals as goal

pub returns-then-self-clause-token : goal.returns-then-self-clause-token
returns-then-self-clause-token c =
    let r = c.args.self.now in
    ap (λ (o : Option TagValue). step_of o r.at) (sym (tokens-at r.tags.now r.values.now r.at r.same_length c.if-self.true))

pub returns-else-self-clause-token : goal.returns-else-self-clause-token
returns-else-self-clause-token c =
    let r = c.args.self.now in
    ap (λ (o : Option TagValue). step_of o r.at) (sym (tokens-end r.tags.now r.values.now r.at c.if-self.false))
