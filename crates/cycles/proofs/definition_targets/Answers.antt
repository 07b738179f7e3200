-- `cycles::definition_targets` meets its contract: by the kind of the definition.
-- Assumes nothing.
use mathlib.Core.List.{[]}
use Rattle.cycles.proofs.Laws.{targets-enum, targets-record, targets-alias}
use Rattle.cycles.proofs.definition_targets.Goals as goal

pub returns-in-Some-Enum : goal.returns-in-Some-Enum
returns-in-Some-Enum c = let s = c.in-Some-Enum in λ types d q k g. targets-enum types _ _ d q _ (s.ensures d q g) _ _ s.field-0-is

pub returns-in-Some-Record : goal.returns-in-Some-Record
returns-in-Some-Record c = let s = c.in-Some-Record in λ types d q k g. targets-record types _ _ d q _ (s.ensures d q g) _ _ _ s.field-0-is (λ fs r. c.field_targets.ensures types fs k r)

pub returns-in-Some-Alias : goal.returns-in-Some-Alias
returns-in-Some-Alias c = let s = c.in-Some-Alias in λ types d q k g. targets-alias types _ _ d q _ (s.ensures d q g) _ _ _ s.field-0-is (λ t s r. c.add_type.ensures types t s [] k r (c.no_targets.ensures types))
