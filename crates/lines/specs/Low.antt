-- Clocks of no more conditions than a clock may have.
use Rattle.std.specs.Prelude.{◌≤◌, List, [], ◌∷◌}
use Rattle.definitions.specs.Clock.{Clock, depth}

-- each has at most eight conditions
unfoldable pub Low : List Clock → Type 0
Low [] = Unit {0}
Low (c ∷ cs) = (depth c ≤ 8) × Low cs
