use mathlib.Core.Path.{refl, sym, ◌∙◌}
use Rattle.definitions.specs.Declock.{add_with_parents}
use Rattle.clock_tables.specs.Grown.{Grown}
use Rattle.clock_tables.specs.Value.{value_of}
use Rattle.clock_tables.proofs.RowsLaws.{parents-none, parents-added}
use Rattle.clock_tables.proofs.ClockTable.+add_with_parents.Goals as goal
use Rattle.clock_tables.proofs.ClockTable.+add_with_parents.Goals.{then-not-is_base, else-not-is_base}

pub returns-then-is_base-clause-grown : goal.returns-then-is_base-clause-grown
returns-then-is_base-clause-grown t c =
    record { same_reference = refl; same_length = refl; held = λ cs h. rw (parents-none (value_of c.args.c) cs (sym c.is_base.ensures ∙ c.if-is_base.true)) h }

pub returns-clause-grown : goal.returns-clause-grown
returns-clause-grown t c =
    let g : Grown (add_with_parents (value_of c.parent-above.result)) c.args.self.now c.if-not-is_base.self =
    elim c.if-not-is_base.branch [
      | then-not-is_base w ↦ rw w.self-is w.add_with_parents.ensures.grown
      | else-not-is_base w ↦
          rw w.self-is (record { same_reference = refl; same_length = refl; held = λ cs h. rw (parents-none _ cs (sym c.is_base-2.ensures ∙ w.if-not-is_base.false)) h })
    ]
    in
    let a = c.add.ensures.grown in
    record {
      same_reference = a.same_reference ∙ g.same_reference;
      same_length = a.same_length ∙ g.same_length;
      held = λ cs h. rw (← parents-added (value_of c.args.c) cs (sym c.is_base.ensures ∙ c.if-is_base.false), ← c.parent-above.ensures) (a.held _ (g.held cs h));
    }
