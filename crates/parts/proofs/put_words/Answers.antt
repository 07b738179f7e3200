-- `parts::put_words` meets its contract. The loop has stored the first k words. Assumes nothing.
use mathlib.Core.Path.{◌∙◌}
use native.Mathlib.Omega.{arith}
use Rattle.parts.proofs.Stores.{words_step, words-end}
use Rattle.parts.proofs.put_words.Goals as goal

pub loop-k-preserved : goal.loop-k-preserved
loop-k-preserved c = let l = c.loop-k in words_step c.args.bytes.now l.bytes c.args.words.now _ l.k c.requires (omega arith) l.invariant (c.copy_from_slice.ensures.after ∙ c.to_le_bytes.ensures)

pub returns : goal.returns
returns c = c.loop-k.invariant ∙ words-end c.args.bytes.now c.args.words.now c.loop-k.k c.requires (omega arith)
