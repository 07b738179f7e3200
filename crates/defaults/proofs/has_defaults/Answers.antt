-- `defaults::has_defaults` meets its contract: after k rounds the set says what is known k definitions down.
-- Assumes nothing.
use native.Mathlib.Omega.{arith}
use native.Mathlib.Numerals.{add-one}
use Rattle.std.specs.Cmp.{booleans_Decides}
use Rattle.std.proofs.lemmas.Slice.Eq.{slice_eq-Decides}
use Rattle.defaults.proofs.Laws.{has-start}
use Rattle.defaults.proofs.Rounds.{has_more, has-settled}
use Rattle.defaults.proofs.has_defaults.Goals as goal

pub loop-init : goal.loop-init
loop-init c = λ types s. has-start types _

pub loop-preserved : goal.loop-preserved
loop-preserved c = λ types s. rw (add-one c.loop.counter) (has_more types _ s.count c.edges-graph.result (c.edges-graph.ensures.edges types s) c.loop.has c.has_round-more.result (λ i h. c.has_round-more.ensures i (omega (arith, c.edges-graph.ensures.count, h))) c.loop.counter (c.loop.invariant types s))

pub returns-then-eq : goal.returns-then-eq
returns-then-eq c = λ types s. has-settled types _ s.count c.edges-graph.result (c.edges-graph.ensures.edges types s) c.loop.has c.has_round-more.result (λ i h. c.has_round-more.ensures i (omega (arith, c.edges-graph.ensures.count, h))) ((slice_eq-Decides booleans_Decides _ _ _ c.eq.ensures).0 c.if-eq.true) c.loop.counter (omega (arith, c.loop-test.true)) (c.loop.invariant types s)
