-- What a node needs that no output has names for.
use Rattle.std.specs.Prelude.{◌<◌, ◌⊎◌, length}
use Rattle.definitions.specs.Bytes.{most_names}
use Rattle.stateless.specs.Need.{Needs}

-- more flags, first-tick flags or holds than an output has names
abbrev pub TooMany : Needs → Type 0
TooMany w = (most_names < length w.flags) ⊎ ((most_names < length w.firsts) ⊎ (most_names < w.holds))
