-- `emit::Output::emit_many` meets its contract: as many are filled in as there is room for. Assumes nothing.
use mathlib.Core.Path.{◌≡◌, refl, ap}
use Prim.Native.Nat.{ℕ}
use lib.ListN.{length}
use borrow.Author.Rules.{rules}
use Rattle.emit.proofs.Laws.{many-written}
use Rattle.emit.proofs.output.Output.emit_many.Goals as goal

pub returns : goal.returns
returns c =
    let o = c.args.self.now in
    let tags : length o.tags ≡ 8192 = search rules in
    let values : length o.values ≡ 8192 = search rules in
    many-written _ _ _ _ _ _ _ _ _ _ (ap (λ (x : ℕ × ℕ). x.0) c.code_of-tag.ensures) (ap (λ (x : ℕ × ℕ). x.1) c.code_of-tag.ensures) c.room.ensures.room c.room.ensures.behind c.min-many.ensures c.min-from.ensures refl _ _ tags values
    (c.fill.ensures.after (λ y h. h)) (c.fill-2.ensures.after (λ y h. h)) refl refl refl refl
