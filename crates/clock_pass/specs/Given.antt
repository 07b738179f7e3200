-- The list of fault records for callers that lend none.
use Rattle.definitions.specs.declared.FaultRecord.{FaultRecord}

-- no fault: what the records of a list that is not lent are before
abbrev pub blank : FaultRecord
blank = record { node = 0; fault = 0; equation = 0 }
