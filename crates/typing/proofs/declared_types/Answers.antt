-- `typing::declared_types` meets its contract.
-- Assumes nothing.
use native.Mathlib.Omega.{arith}
use Rattle.clock_tables.proofs.FrontLaws.{front-filled}
use Rattle.typing.proofs.Laws.{declares-start, declares-lists}
use Rattle.typing.proofs.declared_types.Goals as goal

pub returns-clause-declares : goal.returns-clause-declares
returns-clause-declares c = λ n u d room few.
    let z = declares-start _ _ _ (λ x. front-filled _ _ _ x 0 0 (c.fill_front.ensures.filled room)) in
    let x = c.declare.ensures.declares n.inputs _ d.inputs (omega (arith, room, c.fill_front.ensures.list_len_unchanged)) few z in
    let y = c.declare-2.ensures.declares n.outputs _ d.outputs (omega (arith, room, c.fill_front.ensures.list_len_unchanged, c.declare.ensures.types_len_unchanged)) few x in
    declares-lists _ _ _ n (c.declare-3.ensures.declares n.locals _ d.locals (omega (arith, room, c.fill_front.ensures.list_len_unchanged, c.declare.ensures.types_len_unchanged, c.declare-2.ensures.types_len_unchanged)) few y)
