-- The faults and findings that values stand for.
use Rattle.std.specs.Prelude.{Option, None, Some}
use mathlib.Core.Option as maybe
use Rattle.std.proofs.Math.Option.{none, some}
use Rattle.definitions.specs.InferClocks as rules
use Rattle.definitions.specs.InferClocks.{left_elsewhere, used_elsewhere, when_elsewhere, clock_name_elsewhere, undeclared, no_default, no_output_default, not_single_call, pre_untyped, NodeFault, found, site, too_deep}
use Rattle.clock_tables.specs.Value.{value_of}
use Rattle.findings.specs.declared.ClockFault.{ClockFault}
use Rattle.findings.specs.declared.Fault.{Fault}
use Rattle.findings.specs.declared.Found.{Found}
use Rattle.findings.specs.declared.Finding.{Finding}
use Rattle.findings.specs.declared.Row.{Row}
use Rattle.findings.specs.Findings.{fault_as, finding_as}

-- a clock fault
abbrev pub clock_fault_of : ClockFault → rules.Fault
clock_fault_of (ClockFault.LeftElsewhere e p) = left_elsewhere e.name (value_of e.on) (value_of e.expected) p
clock_fault_of (ClockFault.UsedElsewhere e) = used_elsewhere e.name (value_of e.on) (value_of e.expected)
clock_fault_of (ClockFault.WhenElsewhere k d) = when_elsewhere k (value_of d)
clock_fault_of (ClockFault.ClockNameElsewhere e) = clock_name_elsewhere e.name (value_of e.on) (value_of e.expected)

-- a fault
abbrev pub fault_of : Fault → rules.Fault
fault_of (Fault.Clock f) = clock_fault_of f
fault_of (Fault.Undeclared x) = undeclared x
fault_of (Fault.NoDefault x) = no_default x
fault_of (Fault.NoOutputDefault x f) = no_output_default x f
fault_of Fault.NotSingleCall = not_single_call
fault_of Fault.PreUntyped = pre_untyped

-- a fault with its equation
abbrev pub node_fault_of : Found → NodeFault
node_fault_of f = record { equation = f.equation; fault = fault_of f.fault }

-- the same, if there is one
abbrev pub found_of : Option Found → maybe.Option NodeFault
found_of None = none
found_of (Some f) = some (node_fault_of f)

-- what checking meets
abbrev pub finding_of : Finding → rules.Finding
finding_of (Finding.Fault i f) = found (record { equation = i; fault = clock_fault_of f })
finding_of (Finding.Site c) = site (value_of c)
finding_of Finding.Deep = too_deep

-- the fault that a row says, if it says one
abbrev pub row_fault : Row → rules.Fault
row_fault r = fault_as r.kind r.elsewhere.name r.flag (value_of r.elsewhere.on) (value_of r.elsewhere.expected)

-- the finding that a row says
abbrev pub row_finding : Row → rules.Finding
row_finding r = finding_as r.kind r.elsewhere.name r.flag r.equation (value_of r.elsewhere.on) (value_of r.elsewhere.expected)
