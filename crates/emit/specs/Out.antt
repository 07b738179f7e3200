-- Tokens written one after the other into arrays of 8,192; past them nothing is written, and the output is full.
use Rattle.std.specs.Prelude.{ℕ, ◌+◌, ◌-◌, Bool, true, false, List, [], ◌∷◌, map, set, ltb}
use Rattle.definitions.specs.declared.Token.{Token}
use Rattle.definitions.specs.Lists.{choose}
use Rattle.definitions.specs.Tokens.{TagValue, code_of}
use Rattle.emit.specs.declared.output.Output.{Output}

-- for how many tokens more there is room: none, where one had no place
abbrev pub room : Output → ℕ
room o = choose o.full 0 (8192 - o.count)

-- one tag and value more, by whether there is room
abbrev pub put_by : Output → TagValue → Bool → Output
put_by o k true = record { tags = set o.tags o.count k.tag; values = set o.values o.count k.value; count = o.count + 1; full = o.full }
put_by o k false = record { tags = o.tags; values = o.values; count = o.count; full = true }

-- one tag and value more
abbrev pub put : Output → TagValue → Output
put o k = put_by o k (ltb 0 (room o))

-- tags and values, one after the other
unfoldable pub puts : Output → List TagValue → Output
puts o [] = o
puts o (k ∷ l) = puts (put o k) l

-- tokens, one after the other
unfoldable pub emits : Output → List Token → Output
emits o l = puts o (map code_of l)
