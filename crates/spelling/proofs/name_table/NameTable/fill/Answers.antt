-- `spelling::name_table::NameTable::fill` meets its contract. Assumes nothing.
use mathlib.Core.Path.{refl, ap, ◌∙◌}
use native.Mathlib.Omega.{arith}
use lib.ListN.{length, take}
use Rattle.definitions.specs.Lists.{sum}
use Rattle.spelling.proofs.Table.{over-taken, filled}
use Rattle.spelling.proofs.name_table.NameTable.fill.Goals as goal

pub invariant_of-self-clause-summed : goal.invariant_of-self-clause-summed
invariant_of-self-clause-summed g c =
    let given = c.args.given.now in
    ap (λ l. sum (take (length given) l)) c.copy_at.ensures.out_after ∙ ap sum (over-taken given c.args.self.now.lengths (omega (arith, c.requires.given_len_bound, c.args.self.now.sized.0))) ∙ c.requires.given_value

pub returns : goal.returns
returns g c =
    let t = c.args.self.now in
    filled _ c.args.given.now c.args.text.now t.lengths t.letters refl refl refl c.copy_at.ensures.out_after c.copy_at-2.ensures.out_after (omega (arith, c.requires.given_len_bound, t.sized.0)) (omega (arith, c.requires.text_len_bound, t.sized.1))
