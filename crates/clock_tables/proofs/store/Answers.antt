use mathlib.Core.Path.{◌≡◌, ap, ◌∙◌}
use native.Mathlib.Omega.{arith}
use borrow.Author.Rules.{rules}
use lib.ListN.{length, get_or}
use Rattle.clock_tables.specs.Value.{value_of}
use Rattle.clock_tables.specs.Flat.{words_of}
use Rattle.clock_tables.proofs.FlatLaws.{stored, put-there}
use Rattle.clock_tables.proofs.store.Goals as goal

pub returns-clause-b_after : goal.returns-clause-b_after
returns-clause-b_after c =
    let l = c.loop-i in
    (stored l.t c.args.b l.i c.conditions-ks.result.now c.conditions-ks.ensures.upper_bound (omega (arith, c.loop-i-test.false, l.auto.i-end)) l.invariant.1 l.invariant.2).0 ∙ c.conditions-ks.ensures.clock

pub returns-clause-by_index_2 : goal.returns-clause-by_index_2
returns-clause-by_index_2 c =
    let l = c.loop-i in
    λ j u. (stored l.t c.args.b l.i c.conditions-ks.result.now c.conditions-ks.ensures.upper_bound (omega (arith, c.loop-i-test.false, l.auto.i-end)) l.invariant.1 l.invariant.2).1 j u
    ∙ ap (λ k. get_or (words_of k) j 0) c.conditions-ks.ensures.clock

pub returns-clause-words : goal.returns-clause-words
returns-clause-words c =
    let l = c.loop-i in
    let n : length l.t ≡ length c.args.t.now = search rules in
    put-there c.args.t.now l.t c.args.b (value_of c.args.c) c.requires n l.invariant.3 (returns-clause-by_index_2 c)
