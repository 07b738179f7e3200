-- `inference::scanned` meets its contract: what is owed from here ends where the expression does, and no token passed gives a clock.
-- Assumes nothing.
use mathlib.Core.Path.{◌≡◌, refl, sym, ◌∙◌, ap}
use mathlib.Core.List.{[], ◌∷◌}
use native.Mathlib.Omega.{arith}
use lib.ListN.{length, drop, length-append}
use Rattle.std.specs.Iterator.Adapters.{zip_first, zip_second}
use Rattle.std.specs.Slice.Iter.{iter_rest}
use Rattle.std.proofs.lemmas.Slice.Zip.{zip_turn}
use Rattle.std.proofs.lemmas.List.{take_rest}
use Rattle.inference.proofs.Scan.{Here, here-of, left-all, left-on, left-none, left-found}
use Rattle.inference.proofs.scanned.Goals as goal
use Rattle.inference.proofs.scanned.Goals.{After-gives}

-- the pair that is looked at is the next token
here : (c : After-gives) → Here c.args.input.now.source.tags.now c.args.input.now.source.values.now c.args.at c.min-from.result (length c.loop-tag.yielded) c.in-Some.field-0-0.now c.in-Some.field-0-1.now
here c =
    let s = c.args.input.now.source in
    let n = c.min-from.result in
    let first : iter_rest (zip_first c.into_iter-tag-iterator.result) ≡ drop n s.tags.now = ap (λ z. iter_rest (zip_first z)) c.into_iter-tag-iterator.ensures.into_iter_gives ∙ (ap iter_rest c.zip-tag-items.ensures.first ∙ (c.iter.ensures.rest ∙ take_rest s.tags.now n)) in
    let second : iter_rest (zip_second c.into_iter-tag-iterator.result) ≡ drop n s.values.now = ap (λ z. iter_rest (zip_second z)) c.into_iter-tag-iterator.ensures.into_iter_gives ∙ (ap iter_rest c.zip-tag-items.ensures.second ∙ (c.iter-2.ensures.rest ∙ take_rest s.values.now n)) in
    here-of s.tags.now s.values.now c.args.at n _ _ _ c.min-from.ensures (zip_turn _ _ c.loop-tag.yielded c.into_iter-tag-iterator.result c.loop-tag.tag-iterator c.next.new.self c.next.result first second c.loop-tag.yielded_by (c.in-Some.field-0-0, c.in-Some.field-0-1) c.in-Some.is c.next.ensures.steps)

pub loop-tag-init : goal.loop-tag-init
loop-tag-init c = (omega arith, left-all (omega arith))

pub returns-then-tag-eq-VAR : goal.returns-then-tag-eq-VAR
returns-then-tag-eq-VAR c = λ M e q clocks g a.
    let h = here (goal.at.returns-then-tag-eq-VAR c).After-gives in
    left-found c.loop-tag.invariant.1 c.args.input.now.source.same_length M e q clocks (rw (← h.began) at g) a _ _ h.tags h.values c.loop-tag.invariant.0 (sym c.gives.ensures ∙ c.if-gives.true) c.if-tag-eq-VAR.true

pub overflow_sub-owed : goal.overflow_sub-owed
overflow_sub-owed c = omega (arith, c.loop-tag.invariant.0)

pub returns-then-owed-eq0 : goal.returns-then-owed-eq0
returns-then-owed-eq0 c = λ M e q clocks g a.
    let h = here (goal.at.returns-then-owed-eq0 c).After-gives in
    left-none (left-on c.loop-tag.invariant.1 c.loop-tag.invariant.0 _ h.tags _ h.values (sym c.gives.ensures ∙ c.if-gives.false) _ c.follow-more.ensures refl) c.args.input.now.source.same_length M e q clocks (rw (← h.began) at g) a c.if-owed-eq0.true

pub loop-tag-preserved : goal.loop-tag-preserved
loop-tag-preserved c =
    let h = here (goal.at.loop-tag-preserved c).After-gives in
    (omega (arith, c.if-owed-eq0.false), left-on c.loop-tag.invariant.1 c.loop-tag.invariant.0 _ h.tags _ h.values (sym c.gives.ensures ∙ c.if-gives.false) _ c.follow-more.ensures (omega (arith, length-append c.loop-tag.yielded ((c.in-Some.field-0-0, c.in-Some.field-0-1) ∷ []))))
