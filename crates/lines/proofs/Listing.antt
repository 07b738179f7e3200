-- The lines of a listing, put one behind another.
use Prim.Native.Nat.{ℕ}
use mathlib.Core.Path.{◌≡◌, sym, ap, ◌∙◌}
use mathlib.Core.List.{List, [], ◌∷◌, ◌++◌}
use native.Mathlib.Nat.{zero-add}
use lib.ListN.{length}
use Rattle.definitions.specs.Lists.{join, numbered, Letters}
use Rattle.spelling.specs.Written.{Wrote}
use Rattle.spelling.specs.declared.text_writer.TextWriter.{TextWriter}
use Rattle.spelling.proofs.Writers.{wrote_then, wrote_as}
use Rattle.lines.proofs.Pieces.{numbered-last}

module _ {A : Type 0} where
  -- one line more, with its number
  pub put-numbered : (f : ℕ → A → Letters) (l : List A) (i : ℕ) (a : A) {w w₁ w₂ : TextWriter} → i ≡ length l
      → Wrote (join (numbered f 0 l)) w w₁ → Wrote (f i a) w₁ w₂ → Wrote (join (numbered f 0 (l ++ (a ∷ [])))) w w₂
  put-numbered f l i a e u v =
      wrote_as (ap (λ n. join (numbered f 0 l) ++ f n a) (e ∙ sym (zero-add (length l))) ∙ sym (numbered-last f 0 l a)) (wrote_then u v)
