use Prim.Native.Nat.{◌*◌, ◌≤◌}
use native.Mathlib.Omega.{arith}
use mathlib.Core.Path.{refl, ◌∙◌}
use lib.ListN.{length}
use Rattle.clock_tables.specs.Value.{value_of}
use Rattle.clock_tables.proofs.RowsLaws.{there, absent, has-over, has-found, has_absent}
use Rattle.clock_tables.proofs.Distinct.{row-found, row-behind}
use Rattle.clock_tables.proofs.ClockTable.add.Goals as goal

pub returns-then-self-behind-clause-grown : goal.returns-then-self-behind-clause-grown
returns-then-self-behind-clause-grown c =
    let t = c.args.self.now in
    record { same_reference = refl; same_length = refl; held = λ cs h. has-over t.words.now t.count (value_of c.args.c) cs (omega (arith, c.if-self-behind.true)) h }

pub returns-in-Some-clause-grown : goal.returns-in-Some-clause-grown
returns-in-Some-clause-grown c =
    let t = c.args.self.now in
    let room : 17 * t.count ≤ length t.words.now = omega (arith, c.if-self-behind.false) in
    let found = c.in-Some.ensures ∙ rw (c.list.ensures.words_value, c.list.ensures.count_value) refl in
    record { same_reference = refl; same_length = refl; held = λ cs h. has-found t.words.now t.count (value_of c.args.c) cs room (there t.words.now t.count (value_of c.args.c) _ found refl) h }

pub returns-in-Some-clause-row : goal.returns-in-Some-clause-row
returns-in-Some-clause-row c =
    let t = c.args.self.now in
    λ cs. row-found t.words.now t.count (value_of c.args.c) cs c.in-Some.row (c.in-Some.ensures ∙ rw (c.list.ensures.words_value, c.list.ensures.count_value) refl)

pub returns-in-None-clause-grown : goal.returns-in-None-clause-grown
returns-in-None-clause-grown c =
    let t = c.args.self.now in
    let gone = absent t.words.now t.count (value_of c.args.c) _ (c.in-None.ensures ∙ rw (c.list.ensures.words_value, c.list.ensures.count_value) refl) refl in
    record {
      same_reference = c.push.ensures.same_reference;
      same_length = c.push.ensures.same_length;
      held = λ cs h. has_absent t.words.now t.count (value_of c.args.c) cs _ _ (omega (arith, c.if-self-behind.false)) gone h (c.push.ensures.held cs h);
    }

pub returns-in-None-clause-row : goal.returns-in-None-clause-row
returns-in-None-clause-row c =
    let t = c.args.self.now in
    let gone = absent t.words.now t.count (value_of c.args.c) _ (c.in-None.ensures ∙ rw (c.list.ensures.words_value, c.list.ensures.count_value) refl) refl in
    λ cs. row-behind t.words.now t.count (value_of c.args.c) cs _ _ (omega (arith, c.if-self-behind.false)) gone (c.push.ensures.held _)
