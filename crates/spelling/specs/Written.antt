-- What it means that a text was put by a writer.
use Rattle.std.specs.Prelude.{◌≡◌, ◌+◌, min, length}
use Rattle.definitions.specs.Lists.{Letters}
use Rattle.spelling.specs.Writing.{Put, farthest, last_place}
use Rattle.spelling.specs.declared.text_writer.TextWriter.{TextWriter}

-- l was put at the writer's place of its lent bytes, which it still holds; its place goes on as far as there are places
pub record Wrote (l : Letters) (w w₁ : TextWriter) : Type 0 where
  pub same : w₁.out.ghost_name ≡ w.out.ghost_name
  pub next : w₁.at ≡ min (w.at + length l) last_place
  pub put : Put l w.at w.out.now (min w₁.at farthest) w₁.out.now
