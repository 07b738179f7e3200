-- `inference::equation_ends` meets its contract: the table so far says where the first equations end.
-- Assumes nothing.
use mathlib.Core.Path.{refl, ◌∙◌}
use native.Mathlib.Omega.{arith}
use lib.ListN.{length-set}
use Rattle.std.proofs.lemmas.List.{length-take-le, get_or_append_left}
use Rattle.inference.specs.Settled.{place_of}
use Rattle.inference.proofs.PassesLaws.{front-fits, front-inside, ends_more}
use Rattle.inference.proofs.equation_ends.Goals as goal

pub loop-end-preserved : goal.loop-end-preserved
loop-end-preserved c = (
  c.loop-end.invariant.0,
  length-set c.loop-end.end-items c.loop-end.end-index c.equation_end-place.result ∙ c.loop-end.invariant.1,
  λ l q g. ends_more _ _ _ _ _ _ _ c.loop-end.end-items l q g (omega (arith, c.loop-end.invariant.0, c.loop-end-test.true)) (omega (arith, c.loop-end-test.true, c.loop-end.invariant.1)) (λ e u h. c.equation_end-place.ensures _ e u h) (c.loop-end.invariant.2 l q g),
)

pub loop-end-init : goal.loop-end-init
unfolding place_of
loop-end-init c = (length-take-le c.min-n.result _ (front-fits _ _ c.min-n.ensures) ∙ c.min-n.ensures, refl, λ l q g. (refl, λ k h. absurd (omega arith)))

pub returns : goal.returns
returns c = λ l q g. record {
  ends_at = λ k h b.
      let i = front-inside _ _ _ k _ c.loop-end.invariant.0 c.loop-end.invariant.1 c.loop-end-test.false h b in
      get_or_append_left c.loop-end.end-items _ 0 k i.0 ∙ (c.loop-end.invariant.2 l q g).1 k i.1;
}
