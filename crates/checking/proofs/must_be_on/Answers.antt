-- A fault where the name is on another clock.
use mathlib.Core.Path.{refl}
use Rattle.clock_tables.specs.Value.{value_of}
use Rattle.findings.specs.Value.{clock_fault_of}
use Rattle.checking.proofs.Laws.{nothing-met, met-as, met-other, met-none}
use Rattle.checking.proofs.must_be_on.Goals as goal

pub returns-in-Some-clause-held : goal.returns-in-Some-clause-held
returns-in-Some-clause-held g c = λ make clocks m k. met-as _ _ _ _ _ (met-other clocks c.args.input.now.equation (value_of c.args.on) make c.args.input.now.env.now c.args.x k _ c.elsewhere.ensures _ (clock_fault_of c.fault-fault.result) c.in-Some.is (m _ _ c.fault-fault.ensures)) refl c.push.ensures

pub returns-clause-held : goal.returns-clause-held
returns-clause-held g c = λ make clocks m k. nothing-met _ _ _ (met-none clocks c.args.input.now.equation (value_of c.args.on) make c.args.input.now.env.now c.args.x k _ c.elsewhere.ensures c.in_default.not-Some) refl
