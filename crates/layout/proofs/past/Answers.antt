-- `layout::past` meets its contract: what is owed from here ends where all of it does.
use Rattle.std.proofs.Common.{ℕ, ◌+◌, subst}
use native.Mathlib.Omega.{arith}
use Rattle.layout.specs.Owed.{Owed}
use Rattle.layout.proofs.Owed.{owed-step, owed-few}
use Rattle.layout.proofs.past.Goals as goal

pub loop-place-preserved : goal.loop-place-preserved
loop-place-preserved c = λ q h.
    let s = (owed-step (c.loop-place.invariant q h) (omega (arith, c.if-owed-eq0.false))).1 in
    subst (λ (k : ℕ). Owed c.args.source.now.tags.now c.args.source.now.values.now (c.loop-place.place + 1) k q) (omega (arith, owed-few s, c.saturating_add-owed.ensures, c.follow-more.ensures)) s
