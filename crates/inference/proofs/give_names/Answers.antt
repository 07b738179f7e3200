-- `inference::give_names` meets its contract: what is left to do makes the whole. Assumes nothing.
use mathlib.Core.Path.{refl, ap}
use mathlib.Core.Bool.{◌||◌}
use Rattle.definitions.specs.InferClocks.{give}
use Rattle.clock_tables.specs.Value.{value_of}
use Rattle.inference.specs.Settled.{dates}
use Rattle.inference.proofs.PassesLaws.{kept-all, kept-then, name-below, giving-step, giving-end}
use Rattle.inference.proofs.give_names.Goals as goal

pub loop-x-init : goal.loop-x-init
loop-x-init c = (
  kept-all _,
  λ n p xs q b m g s.
      let e = c.names_in-names.ensures.read xs q g in
      record { pass = p; stands = s; final = ap (λ l. give n (value_of c.args.c) l p) e; changes = ap (λ l. dates n (value_of c.args.c) c.args.round.now.present l p c.args.tables.now.since.now) e },
)

pub loop-x-preserved : goal.loop-x-preserved
loop-x-preserved c = (
  kept-then _ _ _ c.loop-x.invariant.0 c.give_name-changed.ensures.kept,
  λ n p xs q b m g s.
      let r = c.args.round.now in
      let l = c.loop-x in
      let below = name-below r.source.now c.args.left.count c.args.left.at c.names_in-names.result.now xs q (c.names_in-names.ensures.read xs q g) g l.x-index c.loop-x-test.true in
      giving-step r n (value_of c.args.c) l.tables c.names_in-names.result.now _ _ c.give_name-changed.new.tables l.changed c.give_name-changed.result b l.x-index _ c.loop-x-test.true refl below m c.give_name-changed.ensures.held (l.invariant.1 n p xs q b m g s),
)

pub returns-clause-held : goal.returns-clause-held
returns-clause-held c = λ n p xs q b m g s.
    let l = c.loop-x in
    giving-end c.args.round.now n (value_of c.args.c) l.tables c.names_in-names.result.now _ _ (l.changed || b) l.x-index c.loop-x-test.false (l.invariant.1 n p xs q b m g s)
