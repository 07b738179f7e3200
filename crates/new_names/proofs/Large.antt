-- A node that needs more flags, first-tick flags or holds than an output has names needs too many. Assumes nothing.
use Prim.Native.Nat.{ℕ, ◌*◌, ◌≤◌, ◌<◌}
use mathlib.Core.Path.{◌≡◌, refl}
use mathlib.Core.Bool.{Bool, true, false}
use mathlib.Core.List.{List}
use mathlib.Core.Logic.{inr}
use native.Mathlib.Omega.{arith}
use lib.Dec.{leb}
use lib.ListN.{length}
use borrow.Author.Tests.{leb-true, leb-false}
use Rattle.definitions.specs.Clock.{Clock}
use Rattle.clock_tables.specs.Rows.{RowsHold}
use Rattle.clock_tables.proofs.RowsLaws.{has-count, has_more}
use Rattle.stateless.specs.declared.Counts.{Counts}
use Rattle.stateless.specs.Need.{Needs, Counted}
use Rattle.new_names.specs.Many.{TooMany}
use Rattle.new_names.specs.Filled.{HasRows}

-- a table of clocks that has a row for each, or rows for as many as an output may have names
module _ (t : List ℕ) (n : ℕ) (cs : List Clock) (room : HasRows t cs) where
  -- what a count within the output's names says
  pub rows_fit : n ≤ 1024 → RowsHold t n cs → 17 * n ≤ length t
  rows_fit few h = go (leb (17 * n) (length t)) refl
    where
      go : (b : Bool) → leb (17 * n) (length t) ≡ b → 17 * n ≤ length t
      go true e = leb-true (17 * n) (length t) e
      go false e =
          let past = leb-false (17 * n) (length t) e in
          absurd (omega (arith, room (omega (arith, past)), has_more t n cs past h))

  -- and what one past them says
  pub rows-past : 1024 < n → RowsHold t n cs → 1024 < length cs
  rows-past many h = go (leb (17 * n) (length t)) refl (leb (length cs) 1024) refl
    where
      go : (b : Bool) → leb (17 * n) (length t) ≡ b → (d : Bool) → leb (length cs) 1024 ≡ d → 1024 < length cs
      go true e d f = omega (arith, has-count t n cs (leb-true (17 * n) (length t) e) h)
      go false e true f =
          let more = has_more t n cs (leb-false (17 * n) (length t) e) h in
          absurd (omega (arith, more, room (omega (arith, more, leb-true (length cs) 1024 f))))
      go false e false f = leb-false (length cs) 1024 f

module _ {flags firsts : List ℕ} {c : Counts} {w : Needs} (h : Counted flags firsts c w) where
  pub holds-past : 1024 < c.holds → TooMany w
  holds-past k = inr (inr (omega (arith, h.held)))

  pub holds-fit : c.holds ≤ 1024 → c.holds ≡ w.holds
  holds-fit k = omega (arith, h.held)
