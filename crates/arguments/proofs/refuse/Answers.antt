-- `arguments::refuse` meets its contract. Assumes nothing.
use mathlib.Core.Path.{sym}
use Rattle.std.proofs.Common.{rules, ◌≡◌, ℕ, List, Option, take}
use Rattle.std.proofs.lemmas.Result.{on_ok_weaker}
use Rattle.std.specs.Io.KnownBytes.{Appends}
use Rattle.arguments.proofs.refuse.Goals as goal

-- what is written by another name, as the bytes behind a reference when what held it ends
written-as : (old new : Option (List ℕ)) (n m : ℕ) (front line held : List ℕ) → Appends old new front → front ≡ take m held → n ≡ m → line ≡ held → Appends old new (take n line)
written-as old new n m front line held a i e f = rw (e, f, ← i) a

pub returns : goal.returns
returns g c = on_ok_weaker c.write_all.result (λ a. (c.put_reason.new.text.out.now, _, c.put_reason.ensures.put, written-as _ _ _ _ _ _ _ a c.front.ensures (sym c.place-n.ensures) (search rules))) c.write_all.ensures.bytes
