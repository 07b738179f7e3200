-- `spelling::TakenNames::next_free` meets its contract. Assumes nothing.
use Rattle.std.proofs.lemmas.List.{length-map}
use Prim.Native.Nat.{ℕ}
use mathlib.Core.Path.{◌≡◌, ◌∙◌}
use mathlib.Core.Bool.{true, false}
use mathlib.Core.List.{map}
use native.Mathlib.Omega.{arith}
use borrow.Author.Rules.{rules}
use Rattle.std.proofs.lemmas.Iterator.{first_from_Range}
use Rattle.spelling.specs.Stems.{stem_of}
use Rattle.spelling.specs.Places.{letters_in}
use Rattle.spelling.specs.Free.{is_free}
use Rattle.spelling.proofs.Free.{found-next}
use Rattle.spelling.proofs.TakenNames.next_free.Goals as goal

pub returns : goal.returns
returns c =
    let taken = map (letters_in c.args.self.spelling) c.args.self.ids.now in
    let stem = stem_of c.args.stem in
    c.unwrap_or.ensures
    ∙ found-next taken stem c.args.from _ c.find.result (omega (arith, length-map c.args.self.ids.now (letters_in c.args.self.spelling)))
    (first_from_Range _ _ _ _ (λ (i : ℕ). is_free taken stem i ≡ true) (λ (i : ℕ). is_free taken stem i ≡ false) c.find.ensures.ran (λ x q k. search rules) (λ x q k. search rules))
