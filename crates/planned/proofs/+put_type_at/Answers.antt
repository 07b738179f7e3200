-- `planned::put_type_at` meets its contract: the first token is written, and an element's tokens follow an array's.
-- Assumes nothing.
use mathlib.Core.Logic.{⊎_elim}
use native.Mathlib.Omega.{arith}
use Rattle.layout.proofs.TypedefsLaws.{type-not-refused, type-is-basic, type-is-named, type-is-array}
use Rattle.planned.proofs.HoldsLaws.{wrote-basic, wrote-named, wrote-array, array-past, type-there}
use Rattle.planned.proofs.+put_type_at.Goals as goal

pub returns-then-next-at : goal.returns-then-next-at
returns-then-next-at t c = λ d y q g. absurd (array-past _ _ _ _ c.type_head.ensures d y q g _ _ c.in-Ok.is c.if-next-at.true)

pub put_type_at-requires : goal.put_type_at-requires
put_type_at-requires t c = omega (arith, c.decreases, type-there _ _ _ c.args.source.now.same_length _ _ c.type_head.ensures _ _ c.in-Ok.is, c.if-next-at.false)

pub returns-in_default : goal.returns-in_default
returns-in_default t c = λ d y q g. absurd (type-not-refused _ _ _ _ c.type_head.ensures d y q g _ c.in_default.is)

pub returns-in-Basic : goal.returns-in-Basic
returns-in-Basic t c = λ d y q g.
    ⊎_elim (λ s. wrote-basic _ _ _ c.emit.ensures y _ s.1 (type-is-basic _ _ _ _ c.type_head.ensures d y q g _ _ c.in-Ok.is _ s.1))
    (λ s. wrote-named _ _ _ c.emit.ensures y _ s.1 (type-is-named _ _ _ _ c.type_head.ensures d y q g _ _ c.in-Ok.is _ s.1)) c.in-Basic.is

pub returns-else-next-at : goal.returns-else-next-at
returns-else-next-at t c = λ d y q g. let b = type-is-array _ _ _ _ c.type_head.ensures d y q g _ _ c.in-Ok.is _ c.in-Array.is in wrote-array _ _ _ c.emit.ensures y _ b.0 _ c.in-Array.is b.4 (c.put_type_at.ensures _ b.0 q b.3)
