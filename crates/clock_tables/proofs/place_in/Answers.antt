-- The check finds this alone. It stands here so that an edit is refused by it.
use native.Mathlib.Omega.{arith}
use Rattle.clock_tables.proofs.WordsLaws.{place-before}
use Rattle.clock_tables.proofs.place_in.Goals as goal

pub returns : goal.returns
returns c = let h = c.in_ok-checked_sub.ensures in place-before _ _ (omega (arith, h.0)) h.1
