-- `emit::put_items` meets its contract: what is left to copy makes the whole of what is written so far; a value that is read is a word.
-- Assumes nothing.
use native.Mathlib.Omega.{arith}
use Prim.Native.Nat.{◌<◌}
use Rattle.emit.proofs.Laws.{copied_more, copied_all}
use Rattle.emit.proofs.NodePartsLaws.{after, all_words, copy-outside, copy-all}
use Rattle.emit.proofs.put_items.Goals as goal

pub returns-then-tags-s : goal.returns-then-tags-s
returns-then-tags-s c = λ l t. after _ _ _ _ _ c.emit.ensures (copy-outside _ _ l _ _ t _ c.args.source.now.same_length c.if-tags-s.true)

pub loop-i-preserved : goal.loop-i-preserved
loop-i-preserved c = (
  λ h. all_words _ _ (λ i. omega (arith, c.type_inv.values i)),
  copied_more _ _ c.args.source.now.same_length _ _ _ _ _ c.loop-i-test.true c.if-tags-s.false c.loop-i.invariant.1 c.put.ensures,
)

pub returns : goal.returns
returns c = λ l t.
    let read : c.args.s.at < c.args.s.end → c.args.s.at < c.loop-i.i = λ h. omega (arith, h, c.loop-i-test.false) in
    after _ _ _ _ _ c.emit.ensures (copy-all _ _ l _ _ t _ (λ h. c.loop-i.invariant.0 (read h)) _ (copied_all _ _ c.args.source.now.same_length _ _ _ _ c.loop-i-test.false c.loop-i.invariant.1))
