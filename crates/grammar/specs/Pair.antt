-- The tag and the value of a token, as the code answers them.
use Rattle.std.specs.Prelude.{ℕ}
use Rattle.definitions.specs.Tokens.{TagValue}

abbrev pub pair : TagValue → ℕ × ℕ
pair t = (t.tag, t.value)
