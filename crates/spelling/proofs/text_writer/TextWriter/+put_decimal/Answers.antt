-- `spelling::text_writer::TextWriter::put_decimal` meets its contract. Assumes nothing.
use mathlib.Core.Path.{sym}
use native.Mathlib.Omega.{arith}
use Rattle.spelling.proofs.Writers.{wrote_then, wrote_as}
use Rattle.spelling.proofs.Decimal.{decimal-short, decimal-long}
use Rattle.spelling.proofs.text_writer.TextWriter.+put_decimal.Goals as goal
use Rattle.spelling.proofs.text_writer.TextWriter.+put_decimal.Goals.{then-n-ge10, else-n-ge10}

pub returns : goal.returns
returns t c =
    elim c.if-n-ge10.branch [
      | then-n-ge10 w ↦ wrote_as (sym (decimal-long c.args.n w.if-n-ge10.true (omega arith))) (wrote_then w.put_decimal.ensures (rw w.self-is at c.put.ensures))
      | else-n-ge10 w ↦ wrote_as (sym (decimal-short c.args.n (omega (arith, w.if-n-ge10.false)))) (rw w.self-is at c.put.ensures)
    ]
