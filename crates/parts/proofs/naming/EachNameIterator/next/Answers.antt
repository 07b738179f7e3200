-- A step of a walk over names gives the first that is left. Assumes nothing.
use Rattle.std.proofs.Common.{◌≡◌, ◌∷◌, ap, length, arith}
use Rattle.definitions.specs.Bytes.{cut}
use Rattle.parts.proofs.Cuts.{cut-none, cut-first}
use Rattle.parts.proofs.naming.EachNameIterator.next.Goals as goal

pub returns-in_err-n-clause-steps : goal.returns-in_err-n-clause-steps
returns-in_err-n-clause-steps c =
    let e = cut-none c.args.self.now.lengths.now c.args.self.now.letters.now c.in_err-n.ensures.cases in
    rw c.from_residual.ensures (e, e)

pub returns-clause-steps : goal.returns-clause-steps
returns-clause-steps c = cut-first _ _ _ _ c.in_ok-n.ensures.cases.0 _ c.from.ensures _ _ c.split_at.ensures.front c.split_at.ensures.back

pub returns-clause-goes : goal.returns-clause-goes
returns-clause-goes c =
    let w = c.args.self.now in
    let e : cut w.lengths.now w.letters.now ≡ c.split_at.result.0.now ∷ cut c.in_ok-n.lengths.now c.split_at.result.1.now =
    cut-first _ _ _ _ c.in_ok-n.ensures.cases.0 _ c.from.ensures _ _ c.split_at.ensures.front c.split_at.ensures.back in
    let n = ap length e in
    record { on = λ f. (tt, tt, omega (arith, n)); keeps = tt; rests = λ f. tt }
