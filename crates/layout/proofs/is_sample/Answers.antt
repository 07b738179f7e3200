-- `layout::is_sample` meets its contract: the range, and the tags before and behind it.
-- Assumes nothing.
use native.Mathlib.Omega.{arith}
use borrow.Author.Tests.{lt-ltb, le-ltb, le-leb, lt-leb}
use Rattle.layout.specs.Marks.{is_sample}
use Rattle.layout.proofs.is_sample.Goals as goal

pub returns-in-67-to-69 : goal.returns-in-67-to-69
unfolding is_sample
returns-in-67-to-69 c = let t = c.args.tag in simp (le-ltb t 67 (omega arith), le-leb t 69 (omega arith))

pub returns-in_default : goal.returns-in_default
unfolding is_sample
returns-in_default c = let t = c.args.tag in simp (lt-ltb t 67 (omega arith))

pub returns-in_default-2 : goal.returns-in_default-2
unfolding is_sample
returns-in_default-2 c = let t = c.args.tag in simp (le-ltb t 67 (omega arith), lt-leb t 69 (omega arith))
