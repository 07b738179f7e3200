-- The flag of an equation's clock.
-- Assumes nothing.
use mathlib.Core.Path.{◌≡◌, refl, ◌∙◌, ap}
use mathlib.Core.Bool.{Bool, true, false, ◌||◌}
use mathlib.Core.List.{List}
use Prim.Native.Nat.{ℕ, suc, ◌*◌, ◌≤◌, ◌<◌}
use native.Mathlib.Omega.{arith}
use lib.ListN.{length, get_or, set}
use lib.Dec.{eqb}
use Rattle.std.proofs.Math.Bool.{or-true, or-false}
use Rattle.definitions.specs.Lists.{choose}
use Rattle.definitions.specs.Clock.{Clock}
use Rattle.definitions.specs.Declock.{clock_place, add_with_parents}
use Rattle.clock_tables.specs.Rows.{RowsHold}
use Rattle.stateless.specs.Need.{Needs, with_flag, with_gate}
use Rattle.plan.specs.Tables.{Tables, Begun}
use Rattle.plan.proofs.Closing.{beside, there, row-found, row-least}
use Rattle.node_plan.specs.Noted.{Flagged}

module _ (s : Tables) (plan' flags' : List ℕ) (p w n i k : ℕ) (d : Clock) (gated : Bool) (word : i < 4294967295 → w ≡ choose gated (suc i) (choose (eqb k 1) (suc i) 0))
    (A : (cs : List Clock) → RowsHold s.flags s.counts.flags cs → RowsHold flags' n (add_with_parents d cs)) (finds : (cs : List Clock) → 17 * n ≤ length flags' → RowsHold flags' n cs → i ≡ clock_place d cs) (y : Needs) (B : Begun s y) where
  flag-rows : RowsHold flags' n (add_with_parents d y.flags)
  flag-rows = A y.flags B.flagged

  flag_word : plan' ≡ set s.plan p w → p < length s.plan → 17 * length (add_with_parents d y.flags) ≤ length flags' → length (add_with_parents d y.flags) < 4294967295 →
      get_or plan' p 0 ≡ choose gated (suc (clock_place d (add_with_parents d y.flags))) (choose (eqb k 1) (suc (clock_place d (add_with_parents d y.flags))) 0)
  flag_word e f g o =
      there s.plan plan' p w e f
      ∙ (word (omega (arith, row-least flags' n i w d finds (add_with_parents d y.flags) flag-rows g)) ∙ ap (λ (r : ℕ). choose gated (suc r) (choose (eqb k 1) (suc r) 0)) (row-found flags' n i w d finds (add_with_parents d y.flags) flag-rows g))

  -- what is there then
  abbrev after_flag : Tables
  after_flag = record { plan = plan'; flags = flags'; firsts = s.firsts; holds = s.holds; counts = record { flags = n; firsts = s.counts.firsts; holds = s.counts.holds; condact = s.counts.condact || gated } }

  with-flag : (g : Bool) → gated ≡ g → Begun after_flag (choose g (with_gate d y) (with_flag d y))
  with-flag true e = record { flagged = flag-rows; first-flagged = B.first-flagged; held = B.held; gated = ap (λ (b : Bool). s.counts.condact || b) e ∙ or-true s.counts.condact }
  with-flag false e = record { flagged = flag-rows; first-flagged = B.first-flagged; held = B.held; gated = ap (λ (b : Bool). s.counts.condact || b) e ∙ (or-false s.counts.condact ∙ B.gated) }

  pub flag-noted : plan' ≡ set s.plan p w → Flagged s after_flag d k gated y p
  flag-noted e = record { begun = with-flag gated refl; beside = beside s.plan plan' p w e; held = refl; word = flag_word e }
