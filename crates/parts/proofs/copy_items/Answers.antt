-- `parts::copy_items` meets its contract: one item more is put.
use Rattle.std.proofs.Common.{◌++◌, [], ◌∷◌, ◌∙◌, sym, ap, ap₂}
use native.Mathlib.Omega.{arith}
use native.Mathlib.Numerals.{add-one}
use lib.ListN.{length-set, take}
use lib.Seq.{take-suc}
use Rattle.std.proofs.lemmas.List.{take_more_set}
use Rattle.parts.proofs.copy_items.Goals as goal

pub loop-i-preserved : goal.loop-i-preserved
loop-i-preserved g c =
    let l = c.loop-i in
    let x = c.index-from-i.result in
    let more = take-suc c.args.from.now l.i x c.loop-i-test.true in (
      length-set l.to l.i x ∙ l.invariant.0,
      take_more_set l.to l.i x (omega (arith, c.loop-i-test.true, l.invariant.0))
          ∙ ap₂ (λ a b. a ++ b ∷ []) l.invariant.1 c.index-from-i.is
          ∙ sym more
          ∙ ap (λ n. take n c.args.from.now) (sym (add-one l.i)),
    )
