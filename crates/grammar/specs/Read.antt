-- The tokens of a sheet that the code reads.
use Rattle.std.specs.Prelude.{List}
use Rattle.definitions.specs.Bytes.{tokens}
use Rattle.definitions.specs.Tokens.{TagValue}
use Rattle.grammar.specs.declared.source.Source.{Source}

-- each tag with its value
abbrev pub tokens_of : Source → List TagValue
tokens_of s = tokens s.tags.now s.values.now
