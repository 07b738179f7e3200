-- The check finds this alone. It stands here so that an edit is refused by it.
use Prim.Native.Nat.{suc}
use mathlib.Core.Path.{◌≡◌, ap, ◌∙◌}
use native.Mathlib.Omega.{arith}
use Rattle.std.specs.Result.{result_unwrap_or}
use Rattle.std.proofs.lemmas.Result.{Ok-from_Ok_iff}
use Rattle.clock_tables.proofs.word_past.Goals as goal

pub returns-clause-says : goal.returns-clause-says
returns-clause-says c = λ h.
    let more : c.saturating_add.result ≡ suc c.args.i = omega (arith, c.saturating_add.ensures, h) in
    c.unwrap_or.ensures ∙ (ap (λ r. result_unwrap_or r 0) (Ok-from_Ok_iff _ _ _ c.try_from.ensures (omega (arith, more, h))) ∙ more)
