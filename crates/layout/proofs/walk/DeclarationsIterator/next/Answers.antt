-- A step of a walk over names with their types gives the first that is left. Assumes nothing.
use Rattle.std.proofs.Common.{◌≡◌, ◌∷◌, refl, ap, length, arith}
use Rattle.grammar.specs.Read.{tokens_of}
use Rattle.layout.specs.Walk.{layouts_in, declared_left}
use Rattle.layout.proofs.Walks.{layouts-step, layouts-end}
use Rattle.layout.proofs.walk.DeclarationsIterator.next.Goals as goal

pub returns-in_err-left-clause-steps : goal.returns-in_err-left-clause-steps
unfolding declared_left layouts_in
returns-in_err-left-clause-steps c =
    let e : c.args.self.now.left ≡ 0 = omega (arith, c.in_err-left.ensures) in
    rw (c.from_residual.ensures, e) (refl, refl)

pub returns-in_err-declared-clause-steps : goal.returns-in_err-declared-clause-steps
unfolding declared_left
returns-in_err-declared-clause-steps c =
    let e = layouts-end _ _ _ c.in_ok-left.left _ (omega (arith, c.in_ok-left.ensures)) _ c.declaration_at.ensures.read c.in_err-declared.was in
    rw c.from_residual-in_err-declared.ensures (e, e)

pub returns-clause-steps : goal.returns-clause-steps
unfolding declared_left
returns-clause-steps c = layouts-step _ _ _ c.in_ok-left.left _ (omega (arith, c.in_ok-left.ensures)) _ c.declaration_at.ensures.read _ c.in_ok-declared.was c.declaration_at.ensures.refused

pub returns-clause-goes : goal.returns-clause-goes
unfolding declared_left
returns-clause-goes c =
    let w = c.args.self.now in
    let d = c.in_ok-declared.declared in
    let e : layouts_in w.source.names (tokens_of w.source) w.left w.at ≡ d ∷ layouts_in w.source.names (tokens_of w.source) c.in_ok-left.left d.end =
    layouts-step _ _ _ c.in_ok-left.left _ (omega (arith, c.in_ok-left.ensures)) _ c.declaration_at.ensures.read _ c.in_ok-declared.was c.declaration_at.ensures.refused in
    let n = ap length e in
    record { on = λ f. (tt, tt, omega (arith, n)); keeps = tt; rests = λ f. tt }
