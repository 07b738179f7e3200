-- `layout::places_of` meets its contract: the places so far, and that of the item that is next.
use Rattle.std.proofs.Common.{ℕ, ◌∙◌, refl}
use native.Mathlib.Omega.{arith}
use lib.ListN.{length-set, length-replicate}
use Rattle.std.proofs.lemmas.List.{length-take-le}
use Rattle.layout.specs.Spans.{here}
use Rattle.layout.proofs.TypedefsLaws.{further, placed-more}
use Rattle.layout.proofs.places_of.Goals as goal

pub loop-place-init : goal.loop-place-init
loop-place-init g c = record {
  many = length-take-le c.min-count.result _ (omega (arith, c.min-count.ensures, length-replicate {A = ℕ} g.row.N 0)) ∙ c.min-count.ensures;
  room = refl;
  next = here;
  each = λ k h. absurd (omega arith);
}

pub loop-place-preserved : goal.loop-place-preserved
loop-place-preserved g c = record {
  many = c.loop-place.invariant.many;
  room = length-set c.loop-place.place-items c.loop-place.place-index c.loop-place.next ∙ c.loop-place.invariant.room;
  next = further c.loop-place.invariant.next c.item_end-next.ensures;
  each = placed-more c.loop-place.place-items c.loop-place.place-index c.loop-place.next (omega (arith, c.loop-place.invariant.room, c.loop-place-test.true)) c.loop-place.invariant.each c.loop-place.invariant.next;
}

-- as many as were asked for
pub returns-clause-count : goal.returns-clause-count
returns-clause-count g c = c.min-count.ensures
