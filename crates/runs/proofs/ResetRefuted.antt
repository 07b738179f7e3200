-- The wrong rewriting `reset` of K1, refuted: apart from its node and its run, so that where the node is edited it is the run that fails.
use mathlib.Core.Path.{◌≡◌, refl}
use Prim.Native.Nat.{ℕ}
use native.Mathlib.Omega.{arith}
use Rattle.runs.specs.Callees.{Callees}
use Rattle.runs.specs.Run.{SourceRun, Kept, AllHold, Holds, Takes, value, stream, on}
use Rattle.runs.specs.Demand.{RunsKept}
use Rattle.runs.proofs.Small.{numbers}
use Rattle.runs.proofs.K1.{source}
use Rattle.runs.proofs.Refuted.{reset, ρ₁, reset_runs}

pub reset-refuted : (C C' : Callees) → ¬ RunsKept ℕ C C' source reset
unfolding RunsKept Kept SourceRun AllHold Holds Takes value stream on
reset-refuted C C' h =
    let r : SourceRun numbers C source 3 ρ₁ = h numbers 3 ρ₁ ρ₁ (reset_runs C') (λ x t l i c. refl) in
    let e : ◌≡◌ {A = ℕ} 7 12 = r.1.0 2 (omega arith) refl in
    absurd (omega arith)
