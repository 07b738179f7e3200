-- `planned::put_kept` meets its contract.
-- Assumes nothing.
use Rattle.planned.proofs.FramesLaws.{kept-written}
use Rattle.planned.proofs.put_kept.Goals as goal

pub returns : goal.returns
returns c = λ ts l n xs ks t s k.
    kept-written ts l n xs ks _ _ _ c.args.written.now.index.now.source.same_length _ s k _ (c.names_in.ensures.spanned xs s) _ c.in-Some.ensures.item.1 _ _ _ _ c.emit.ensures (λ b f. c.put_left_default.ensures ts l n t b f) c.put_named.ensures
