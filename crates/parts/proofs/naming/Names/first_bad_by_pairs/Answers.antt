-- `parts::naming::Names::first_bad_by_pairs` meets its contract. The names so far are good, and the next ones are left. Assumes nothing.
use mathlib.Core.Path.{sym, ◌∙◌}
use mathlib.Core.Logic.{inl}
use native.Mathlib.Omega.{arith}
use Rattle.parts.proofs.Walked.{Walked, started, left-in-words, ill, again, gone_on, ended}
use Rattle.parts.proofs.naming.Names.first_bad_by_pairs.Goals as goal
use Rattle.parts.proofs.naming.Names.first_bad_by_pairs.Goals.{After-into_iter-i-iterator, then-not-well_formed-via-then-not-well_formed, then-not-well_formed-via-else-not-well_formed+then-has_before}

starts : (c : goal.After-into_iter-i-iterator) → Walked c.args.self c.into_iter-i-iterator.result
starts c =
    let e = c.enumerate-i-items.ensures in
    started c.args.self _ _ _ c.into_iter-i-iterator.ensures.into_iter_gives e.count e.source c.each.ensures

pub loop-i-init-derived : goal.loop-i-init-derived
loop-i-init-derived c = ((tt, tt, inl (omega (arith, left-in-words (starts c)))), tt)

pub loop-i-init : goal.loop-i-init
loop-i-init c = starts c

pub returns-then-not-well_formed : goal.returns-then-not-well_formed
returns-then-not-well_formed c = elim c.then-not-well_formed.branch [
  | then-not-well_formed-via-then-not-well_formed w ↦ ill c.loop-i.invariant c.next.new.self c.in-Some.ensures.steps (sym c.well_formed-in-loop-i.ensures ∙ w.if-not-well_formed.true)
  | then-not-well_formed-via-else-not-well_formed+then-has_before w ↦ again c.loop-i.invariant c.next.new.self c.in-Some.ensures.steps (sym w.has_before.ensures ∙ w.if-has_before.true)
]

pub loop-i-preserved : goal.loop-i-preserved
loop-i-preserved c =
    gone_on c.loop-i.invariant c.next.new.self c.in-Some.ensures.steps (sym c.well_formed-in-loop-i.ensures ∙ c.if-not-well_formed.false) (sym c.has_before.ensures ∙ c.if-has_before.false)

pub returns : goal.returns
returns c = ended c.loop-i.invariant c.in-None.ensures.steps.0.0
