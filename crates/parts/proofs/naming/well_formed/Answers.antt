-- `parts::naming::well_formed` meets its contract. Assumes nothing.
use native.Mathlib.Omega.{arith}
use mathlib.Core.Path.{sym, ◌∙◌}
use Rattle.std.proofs.Common.{rules, tests}
use Rattle.std.proofs.lemmas.Iterator.{YieldsList-from_slice}
use Rattle.std.proofs.lemmas.Iterator.Search.{all_from_yields_List}
use Rattle.parts.proofs.NamesLaws.{is_part, wf-none, wf-first, wf-long, wf-rest}
use Rattle.parts.proofs.naming.well_formed.Goals as goal
use Rattle.parts.proofs.naming.well_formed.Goals.{then-not-is_letter-via-then-not-is_letter, then-not-is_letter-via-else-not-is_letter+then-rest-ge-NAME_LETTERS}

pub returns-in_default : goal.returns-in_default
returns-in_default c = wf-none c.args.name.now c.in_default.ensures.cases

pub returns-then-not-is_letter : goal.returns-then-not-is_letter
returns-then-not-is_letter c = elim c.then-not-is_letter.branch [
  | then-not-is_letter-via-then-not-is_letter w ↦ wf-first c.args.name.now _ _ c.in-Some.ensures.cases.0 (sym c.is_letter.ensures ∙ w.if-not-is_letter.true)
  | then-not-is_letter-via-else-not-is_letter+then-rest-ge-NAME_LETTERS w ↦ wf-long c.args.name.now _ _ c.in-Some.ensures.cases.0 (omega (arith, w.if-rest-ge-NAME_LETTERS.true))
]

pub returns : goal.returns
returns c =
    wf-rest c.args.name.now _ _ c.in-Some.ensures.cases.0 (sym c.is_letter.ensures ∙ c.if-not-is_letter.false) (omega (arith, c.if-rest-ge-NAME_LETTERS.false)) _
    (all_from_yields_List is_part _ _ c.all.result c.all.ensures.ran (YieldsList-from_slice c.in-Some.rest.now cc) (λ x b q k. search (rules, tests)))
