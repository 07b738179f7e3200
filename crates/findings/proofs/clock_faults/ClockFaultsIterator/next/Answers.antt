-- A step of a walk over clock faults gives that of the first row that has one. Assumes nothing.
use Prim.Native.Nat.{ℕ, ◌*◌, ◌≤◌, ◌<◌}
use mathlib.Core.Path.{◌≡◌, ap}
use mathlib.Core.Bool.{Bool, true, false}
use native.Mathlib.Omega.{arith}
use lib.ListN.{length}
use Rattle.std.proofs.Common.{rules, tests}
use Rattle.std.specs.Option.{MatchOption}
use Rattle.std.proofs.lemmas.Iterator.{first_from_Range}
use Rattle.findings.specs.Findings.{finding_in, is_fault}
use Rattle.findings.proofs.Laws.{faults-end, faults-step}
use Rattle.findings.proofs.clock_faults.ClockFaultsIterator.next.Goals as goal
use Rattle.findings.proofs.clock_faults.ClockFaultsIterator.next.Goals.{After-find}

abbrev Tells : After-find → Bool → ℕ → Type 0
Tells c b k = is_fault (finding_in c.args.self.now.words.now (38 * k)) ≡ b

sought : (c : After-find)
    → MatchOption c.find.result ((k : ℕ) → c.args.self.now.at ≤ k → k < c.args.self.now.count → Tells c false k)
    (λ i. (c.args.self.now.at ≤ i) × (i < c.args.self.now.count) × Tells c true i × ((k : ℕ) → c.args.self.now.at ≤ k → k < i → Tells c false k))
sought c = first_from_Range _ _ _ _ (Tells c true) (Tells c false) c.find.ensures.ran (λ x q k. search (rules, tests)) (λ x q k. search (rules, tests))

pub returns-in_err-i-clause-steps : goal.returns-in_err-i-clause-steps
returns-in_err-i-clause-steps c =
    let e = faults-end _ _ _ (rw c.in_err-i.was at (sought (goal.at.returns-in_err-i-clause-steps c).After-find)) in
    rw c.from_residual.ensures (e, e)

pub overflow_add-self : goal.overflow_add-self
overflow_add-self c =
    let s = rw c.in_ok-i.was at (sought (goal.at.overflow_add-self c).After-find) in
    omega (arith, s.1, c.type_inv.self)

pub returns-clause-steps : goal.returns-clause-steps
returns-clause-steps c =
    let s = rw c.in_ok-i.was at (sought (goal.at.returns-clause-steps c).After-find) in
    rw c.fault_in.ensures (faults-step _ _ _ _ s.0 s.1 s.2 s.3)

pub returns-clause-goes : goal.returns-clause-goes
returns-clause-goes c =
    let s = rw c.in_ok-i.was at (sought (goal.at.returns-clause-goes c).After-find) in
    let n = ap length (faults-step c.args.self.now.words.now _ _ _ s.0 s.1 s.2 s.3) in
    record { on = λ f. (tt, tt, omega (arith, n)); keeps = tt; rests = λ f. tt }
