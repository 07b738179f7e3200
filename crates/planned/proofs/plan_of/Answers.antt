-- `planned::plan_of` meets its contract: an arm for each tag.
-- Assumes nothing.
use mathlib.Core.Logic.{inl, inr}
use Rattle.clock_tables.proofs.WordsLaws.{none-said, item-said}
use Rattle.planned.proofs.Arms.{arm-hold, arm-first, arm-gate, arm-when, arm-when-not, arm-merge, arm-bare, arm-other}
use Rattle.planned.proofs.plan_of.Goals as goal

pub returns-in-67-default : goal.returns-in-67-default
returns-in-67-default c = arm-when _ _ _ _ _ _ c.in-67-default.is-0

pub returns-in-68-default : goal.returns-in-68-default
returns-in-68-default c = arm-when-not _ _ _ _ _ _ c.in-68-default.is-0

pub returns-in-69-default : goal.returns-in-69-default
returns-in-69-default c = arm-merge _ _ _ _ _ _ c.in-69-default.is-0

pub returns-in-58-Some : goal.returns-in-58-Some
returns-in-58-Some c = let s = item-said _ _ _ _ _ c.place_in.ensures c.in-58-Some.is-1 c.word_at.ensures in arm-hold _ _ _ _ _ _ c.in-58-Some.is-0 s.0 _ s.1

pub returns-in-59-Some : goal.returns-in-59-Some
returns-in-59-Some c = let s = item-said _ _ _ _ _ c.place_in.ensures c.in-59-Some.is-1 c.word_at-in-59-Some.ensures in arm-first _ _ _ _ _ _ c.in-59-Some.is-0 s.0 _ s.1

pub returns-in-60-Some : goal.returns-in-60-Some
returns-in-60-Some c = let s = item-said _ _ _ _ _ c.place_in.ensures c.in-60-Some.is-1 c.word_at-in-60-Some.ensures in arm-gate _ _ _ _ _ _ c.in-60-Some.is-0 s.0 _ s.1

pub returns-in_default : goal.returns-in_default
returns-in_default c = arm-bare _ _ _ _ _ _ (inl c.in_default.is-0) (none-said _ _ c.place_in.ensures c.in_default.is-1)

pub returns-in_default-2 : goal.returns-in_default-2
returns-in_default-2 c = arm-bare _ _ _ _ _ _ (inr (inl c.in_default.is-0)) (none-said _ _ c.place_in.ensures c.in_default.is-1)

pub returns-in_default-3 : goal.returns-in_default-3
returns-in_default-3 c = arm-bare _ _ _ _ _ _ (inr (inr c.in_default.is-0)) (none-said _ _ c.place_in.ensures c.in_default.is-1)

pub returns-in_default-4 : goal.returns-in_default-4
returns-in_default-4 c = let z = c.in_default.is-0 in arm-other _ _ _ _ _ _ z.0.0.0.0.0.1 z.0.0.0.0.1 z.0.0.0.1 z.0.0.1 z.0.1 z.1
