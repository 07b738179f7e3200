-- A text measured, and then put where the lent bytes are enough.
use Prim.Native.Nat.{ℕ, ◌≤◌}
use mathlib.Core.Path.{◌≡◌, refl, ap, ◌∙◌}
use mathlib.Core.List.{List, [], ◌∷◌, ◌++◌}
use lib.ListN.{length, take, drop}
use borrow.Author.Tests.{le-leb}
use Rattle.definitions.specs.Lists.{over, Letters}
use Rattle.spelling.specs.Writing.{Put, farthest}
use Rattle.spelling.proofs.Writing.{put-measure, put-over}
use Rattle.std.specs.Prelude.{Ok}
use Rattle.lines.specs.Lending.{Gives}

-- a text over as many bytes as it has, before the others
over-part : (l lent : List ℕ) → over l (take (length l) lent) ++ drop (length l) lent ≡ over l lent
over-part [] lent = refl
over-part (a ∷ l) [] = refl
over-part (a ∷ l) (b ∷ lent) = ap (λ r. a ∷ r) (over-part l lent)

module _ (text : Letters) (lent : List ℕ) (n : ℕ) {none none₁ : List ℕ} (h : length text ≤ farthest) (u : Put text 0 none n none₁) where
  -- the first n bytes were lent on
  pub gives-written : {q : ℕ} {part : List ℕ} → n ≤ length lent → Put text 0 (take n lent) q part → Gives text lent (Ok n) (part ++ drop n lent)
  gives-written {q} {part} k v =
      let e : n ≡ length text = put-measure h u in
      let f : length text ≤ length lent = rw e at k in
      let g = le-leb (length text) (length lent) f in
      let b : part ++ drop n lent ≡ over text lent = ap (λ r. r ++ drop n lent) (put-over v) ∙ ap (λ i. over text (take i lent) ++ drop i lent) e ∙ over-part text lent in
      record { answer = rw g; size = e; bytes = rw g b }
