-- `spelling::sheet_names::SheetNames::condact` meets its contract: an id is at most the number of names. Assumes nothing.
use native.Mathlib.Omega.{arith}
use Rattle.spelling.proofs.Table.{condact-few}
use Rattle.spelling.proofs.sheet_names.SheetNames.condact.Goals as goal

pub overflow_cast-result : goal.overflow_cast-result
overflow_cast-result c =
    let names = c.args.self.now in
    omega (arith, condact-few names.lengths.now names.spelling.letters.now c.find_new.result c.find_new.ensures names.few)
