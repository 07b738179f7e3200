-- `parts::read_words` meets its contract. The loop has read the first k words. Assumes nothing.
use mathlib.Core.Path.{ap, ◌∙◌}
use native.Mathlib.Omega.{arith}
use lib.ListN.{set}
use Rattle.parts.proofs.Words.{words_read, words-end}
use Rattle.parts.proofs.read_words.Goals as goal

pub loop-k-preserved : goal.loop-k-preserved
loop-k-preserved c = let l = c.loop-k in ap (set l.words l.k) c.read_word.ensures ∙ words_read c.args.bytes.now c.args.words.now l.words _ l.k c.requires (omega arith) l.invariant

pub returns : goal.returns
returns c = c.loop-k.invariant ∙ words-end c.args.bytes.now c.args.words.now c.loop-k.k c.requires (omega arith)
