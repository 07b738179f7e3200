-- `spelling::text_writer::TextWriter::put_stem` meets its contract. Assumes nothing.
use Rattle.definitions.specs.Lists.{bytes}
use Rattle.spelling.proofs.text_writer.TextWriter.put_stem.Goals as goal

pub returns-in-Ck : goal.returns-in-Ck
unfolding bytes
returns-in-Ck c = rw c.in-Ck.is c.put_all.ensures

pub returns-in-First : goal.returns-in-First
unfolding bytes
returns-in-First c = rw c.in-First.is c.put_all-in-First.ensures

pub returns-in-Hold : goal.returns-in-Hold
unfolding bytes
returns-in-Hold c = rw c.in-Hold.is c.put_all-in-Hold.ensures
