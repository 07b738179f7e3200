-- The code's stems, as the definitions have them.
use Rattle.std.specs.Prelude.{◌++◌}
use Rattle.definitions.specs.Lists.{bytes, decimal, Letters}
use Rattle.definitions.specs.Output.{stem_letters}
use Rattle.definitions.specs.Declock.{Stem, ck, first, hold}
use Rattle.spelling.specs.declared.StemName.{StemName}
use Rattle.spelling.specs.declared.NewName.{NewName}

abbrev pub stem_of : StemName → Stem
stem_of StemName.Ck = ck
stem_of StemName.First = first
stem_of StemName.Hold = hold

-- the letters of a new name
abbrev pub new_letters : NewName → Letters
new_letters (NewName.Numbered stem number) = stem_letters (stem_of stem) ++ decimal number
new_letters NewName.Condact = bytes "condact"
