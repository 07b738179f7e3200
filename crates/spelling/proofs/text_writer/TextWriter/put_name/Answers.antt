-- `spelling::text_writer::TextWriter::put_name` meets its contract: the letters of this name, and no other's. Assumes nothing.
use Rattle.spelling.proofs.Writers.{wrote_as}
use Rattle.spelling.proofs.text_writer.TextWriter.put_name.Goals as goal

pub returns : goal.returns
returns c = wrote_as c.name.ensures c.put_all.ensures
