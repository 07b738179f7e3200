-- A definition ends where the last of its parts does.
use Rattle.layout.proofs.Ends.{enum-ends, record-ends, alias-ends}
use Rattle.layout.proofs.definition_end.Goals as goal

pub returns-in-Some-Enum : goal.returns-in-Some-Enum
returns-in-Some-Enum c = λ d q g. enum-ends _ _ c.args.source.now.same_length _ d q _ (c.in-Some-Enum.ensures d q g) _ _ c.in-Some-Enum.field-0-is

pub returns-in-Some-Record : goal.returns-in-Some-Record
returns-in-Some-Record c = λ d q g. record-ends _ _ c.args.source.now.same_length _ d q _ (c.in-Some-Record.ensures d q g) _ _ c.in-Some-Record.field-0-is

pub returns-in-Some-Alias : goal.returns-in-Some-Alias
returns-in-Some-Alias c = λ d q g. alias-ends _ _ c.args.source.now.same_length _ d q _ (c.in-Some-Alias.ensures d q g) _ _ _ c.in-Some-Alias.field-0-is c.past.ensures
