-- What a call does to a table of findings that is built.
use Rattle.std.specs.Prelude.{◌≡◌, List, ◌++◌, length}
use Rattle.definitions.specs.InferClocks.{Finding}
use Rattle.findings.specs.declared.Findings as table
use Rattle.findings.specs.Findings.{FindingsHeld}

-- t' has the words of t, as many as before, and holds these findings behind those that t held
pub record Met (met : List Finding) (t t' : table.Findings) : Type 0 where
  pub same_reference : t'.words.ghost_name ≡ t.words.ghost_name
  pub same_length : length t'.words.now ≡ length t.words.now
  pub held : (fs : List Finding) → FindingsHeld t.words.now t.count fs → FindingsHeld t'.words.now t'.count (fs ++ met)

-- t' has the words of t, as many as before
pub record StillLent (t t' : table.Findings) : Type 0 where
  pub same_reference : t'.words.ghost_name ≡ t.words.ghost_name
  pub same_length : length t'.words.now ≡ length t.words.now
