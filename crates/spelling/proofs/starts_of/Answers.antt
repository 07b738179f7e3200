-- `spelling::starts_of` meets its contract. Assumes nothing.
use mathlib.Core.Path.{refl}
use native.Mathlib.Omega.{arith}
use Rattle.spelling.proofs.Places.{names-fit, starts-stand}
use Rattle.spelling.proofs.starts_of.Goals as goal

pub fill_starts-requires-clause-lengths_in_bounds : goal.fill_starts-requires-clause-lengths_in_bounds
fill_starts-requires-clause-lengths_in_bounds c = omega (arith, (names-fit c.args.sheet.accepted _ _ c.lengths.ensures.value refl).1)

pub fill_starts-requires-clause-lengths_bound : goal.fill_starts-requires-clause-lengths_bound
fill_starts-requires-clause-lengths_bound c = let z = names-fit c.args.sheet.accepted _ _ c.lengths.ensures.value refl in omega (arith, z.0, z.2)

pub returns : goal.returns
returns c = starts-stand c.args.sheet.accepted _ _ c.lengths.ensures.value c.fill_starts.ensures
