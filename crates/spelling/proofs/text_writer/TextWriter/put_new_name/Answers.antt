-- `spelling::text_writer::TextWriter::put_new_name` meets its contract. Assumes nothing.
use Rattle.definitions.specs.Lists.{bytes}
use Rattle.spelling.proofs.Writers.{wrote_then}
use Rattle.spelling.proofs.text_writer.TextWriter.put_new_name.Goals as goal

pub returns-in-Numbered : goal.returns-in-Numbered
returns-in-Numbered c = rw c.in-Numbered.is (wrote_then c.put_stem.ensures c.put_decimal.ensures)

pub returns-in-Condact : goal.returns-in-Condact
unfolding bytes
returns-in-Condact c = rw c.in-Condact.is c.put_all.ensures
