-- `spelling::text_writer::TextWriter::put_number` meets its contract. Assumes nothing.
use Rattle.spelling.proofs.Writers.{wrote_then}
use Rattle.spelling.proofs.text_writer.TextWriter.put_number.Goals as goal

pub returns : goal.returns
returns c = wrote_then c.put.ensures c.put_decimal.ensures
