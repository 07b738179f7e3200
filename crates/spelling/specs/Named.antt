-- Sheets whose texts fit the places that are counted.
use Rattle.std.specs.Prelude.{◌≤◌, length}
use Rattle.spelling.specs.declared.named.NamedSource.{NamedSource}

-- as many letters and tokens as a sheet may have
pub record Short (n : NamedSource) : Type 0 where
  pub few-letters : length n.spelling.letters.now ≤ 16384
  pub few-tokens : length n.source.tags.now ≤ 4096
