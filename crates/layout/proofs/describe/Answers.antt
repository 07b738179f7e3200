-- The first token decides, and its variants or fields stand behind their count.
use Rattle.definitions.specs.declared.DefinitionToken.{DefinitionToken}
use Rattle.layout.proofs.TypedefsLaws.{err-of, ok-of, describe-stop, definition-is, describe-alias}
use Rattle.layout.proofs.Laws.{described-enum, described-record}
use Rattle.layout.proofs.describe.Goals as goal

pub returns-in_err-head : goal.returns-in_err-head
returns-in_err-head c = λ d q g. let e = err-of _ _ c.ok.ensures.value c.in_err-head.was in absurd (describe-stop _ _ _ _ c.definition_head.ensures d q g e.0 e.1)

pub returns-in-Enum : goal.returns-in-Enum
returns-in-Enum c = λ d q g.
    let i = definition-is _ _ _ _ c.definition_head.ensures d q g _ _ (ok-of _ _ _ c.ok.ensures.value c.in_ok-head.was) (DefinitionToken.Enum _) c.in-Enum.is in
    described-enum _ _ c.args.source.now.same_length _ _ _ d q _ i c.names_at-variants.ensures

pub returns-in-Record : goal.returns-in-Record
returns-in-Record c = λ d q g.
    let i = definition-is _ _ _ _ c.definition_head.ensures d q g _ _ (ok-of _ _ _ c.ok.ensures.value c.in_ok-head.was) (DefinitionToken.Record _) c.in-Record.is in
    described-record _ _ c.args.source.now.same_length _ _ _ d q _ i c.declared_at-fields.ensures

pub returns-in-Alias : goal.returns-in-Alias
returns-in-Alias c = λ d q g. describe-alias _ _ _ _ c.definition_head.ensures d q g _ _ (ok-of _ _ _ c.ok.ensures.value c.in_ok-head.was) _ c.in-Alias.is
