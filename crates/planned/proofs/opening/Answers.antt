-- `planned::opening` meets its contract: an arm for each thing that becomes of a token.
-- Assumes nothing.
use mathlib.Core.Path.{refl}
use Rattle.planned.proofs.Walk.{opened-stay, opened-drop, opened-choice, opened-hold}
use Rattle.planned.proofs.opening.Goals as goal

pub returns-in-Stay-clause-opened_as : goal.returns-in-Stay-clause-opened_as
returns-in-Stay-clause-opened_as c = λ W at q l s f g v i x. opened-stay c.args.written.now W at q l x _ i _ _ _ c.in-Stay.is _ (rw (g, v) at c.put.ensures) (rw (g, v) at c.follow.ensures) (rw f at c.bare.ensures)

pub returns-in-Drop-clause-opened_as : goal.returns-in-Drop-clause-opened_as
returns-in-Drop-clause-opened_as c = λ W at q l s f g v i x. opened-drop c.args.written.now W at q l x _ i _ _ _ c.in-Drop.is refl (rw f at c.bare-in-Drop.ensures)

pub returns-in-Choose-clause-opened_as : goal.returns-in-Choose-clause-opened_as
returns-in-Choose-clause-opened_as c = λ W at q l s f g v i x. opened-choice c.args.written.now W at q l x _ i _ _ _ _ c.in-Choose.is c.put_named.ensures (rw f at c.bare-in-Choose.ensures)

pub returns-in-Hold-clause-opened_as : goal.returns-in-Hold-clause-opened_as
returns-in-Hold-clause-opened_as c = λ W at q l s f g v i x. opened-hold c.args.written.now W at q l x _ i _ _ _ _ c.in-Hold.is c.put_named-in-Hold.ensures _ (rw f at c.part_end.ensures.by_index) c.bare-in-Hold.ensures
