-- `arguments::optional_number` meets its contract. Assumes nothing.
use Rattle.std.proofs.Common.{◌≡◌, sym, ap₂, ℕ, Option, Some, None}
use Rattle.arguments.specs.declared.Asked.{Asked}
use Rattle.arguments.specs.Words.{optional_number}
use Rattle.arguments.proofs.optional_number.Goals as goal

given : (n : ℕ) (first second : Option (Asked ℕ)) → first ≡ Some (Asked.For n) → second ≡ None → Asked.For (Some n) ≡ optional_number first second
given n first second e f = sym (ap₂ optional_number e f)

pub returns-in-Some-For-None : goal.returns-in-Some-For-None
returns-in-Some-For-None c = given c.in-Some-For-None.n _ _ (cc) c.in-Some-For-None.is-1
