-- A walk over the names of a struct: those so far are good, and the others are left to give.
-- Assumes nothing.
use Prim.Native.Nat.{ℕ, suc, ◌+◌, ◌≤◌, ◌<◌, ◌^◌}
use mathlib.Core.Path.{◌≡◌, sym, ap, ◌∙◌}
use mathlib.Core.Bool.{true, false}
use mathlib.Core.List.{List, [], ◌∷◌}
use mathlib.Core.Logic.{inl, inr}
use native.Mathlib.Nat.{zero-add}
use native.Mathlib.Numerals.{add-one}
use native.Mathlib.Omega.{arith}
use lib.ListN.{length, get_or, drop, length-drop, drop_of_length-le}
use lib.Seq.{drop-cons, drop-drop, length-take-le}
use Rattle.std.proofs.Math.Bool.{and-false}
use Rattle.std.proofs.lemmas.Bool.{cases_lt}
use Rattle.std.specs.Prelude.{Option, Some, None}
use Rattle.std.specs.declared.iter.Enumerate.{Enumerate}
use Rattle.definitions.specs.Lists.{Letters, any, same_letters}
use Rattle.definitions.specs.Bytes.{well_formed, bad_name, cut}
use Rattle.parts.specs.Answers.{FirstBad}
use Rattle.parts.specs.Places.{start, name_at, before}
use Rattle.parts.specs.declared.naming.EachName.{EachName}
use Rattle.parts.specs.declared.naming.Names.{Names}
use Rattle.parts.proofs.Cuts.{cut-count}
use Rattle.parts.proofs.NamesLaws.{start-sum, start-next, end-within}

-- the names that a walk has still to give
abbrev pub to_give : Enumerate EachName → List Letters
to_give w = cut w.iter.lengths.now w.iter.letters.now

module _ (names : Names) where
  abbrev lens : List ℕ
  lens = names.lengths.now

  abbrev letters : List ℕ
  letters = names.letters.now

  -- the first bad name, if there is one
  abbrev Bad : Option ℕ → Type 0
  Bad o = FirstBad lens letters o

  -- the names from name i on
  unfoldable pub left : ℕ → List Letters
  unfolding start cut
  left i = cut (drop i lens) (drop (start lens i) letters)

  -- the place of the first bad name, counted from name i
  unfoldable pub rest : ℕ → ℕ
  unfolding left before bad_name
  rest i = bad_name (before lens letters i) (left i)

  pub starts-in-words : (i : ℕ) → start lens i < 2 ^ 32
  starts-in-words i = omega (arith, start-sum lens i, names.whole, names.in_words)

  left-some : (i : ℕ) → i < length lens → left i ≡ name_at lens letters i ∷ left (suc i)
  unfolding left cut name_at start
  left-some i h = rw (drop-cons lens i 0 h, drop-drop (get_or lens i 0) (start lens i) letters)

  none-left : (i : ℕ) → length lens ≤ i → left i ≡ []
  unfolding left cut
  none-left i h = rw (drop_of_length-le lens h)

  -- the first of the names that are left, from name i on
  left-first : (i : ℕ) (name : Letters) (r : List Letters) → left i ≡ name ∷ r → (i < length lens) × (name ≡ name_at lens letters i) × (r ≡ left (i + 1))
  left-first i name r e = elim (cases_lt i (length lens)) [
    | inl h ↦ let c = sym e ∙ left-some i h in (h, cc, rw (add-one i) (cc))
    | inr h ↦ absurd (cc (sym e ∙ none-left i h))
  ]

  left-none : (i : ℕ) → left i ≡ [] → length lens ≤ i
  left-none i e = elim (cases_lt i (length lens)) [ inl h ↦ absurd (cc (sym (left-some i h) ∙ e)) | inr h ↦ h ]

  rest-end : (i : ℕ) → length lens ≤ i → rest i ≡ 0
  unfolding rest bad_name
  rest-end i h = rw (none-left i h)

  -- a name is as long as its length says, and the next one starts behind it
  name-next : (i at : ℕ) (name : Letters) → name ≡ name_at lens letters i → at ≡ start lens i → at + length name ≡ start lens (i + 1)
  unfolding name_at
  name-next i at name e f =
      let n = length-take-le (get_or lens i 0) (drop (start lens i) letters) (omega (arith, end-within lens letters i (omega (arith, names.whole)), length-drop (start lens i) letters)) in
      omega (arith, start-next lens i, n, ap length e, f)

  -- name i is ill formed, repeats an earlier one, or neither
  module _ (i : ℕ) (x : Letters) (n : x ≡ name_at lens letters i) (h : i < length lens) where
    rest-ill : well_formed x ≡ false → rest i ≡ 0
    unfolding rest bad_name
    rest-ill e = rw (left-some i h, ← n, e)

    rest-again : any (same_letters x) (before lens letters i) ≡ true → rest i ≡ 0
    unfolding rest bad_name
    rest-again e = rw (left-some i h, ← n, e, and-false (well_formed x))

    rest-step : well_formed x ≡ true → any (same_letters x) (before lens letters i) ≡ false → rest i ≡ suc (rest (i + 1))
    unfolding rest bad_name before
    rest-step e f = rw (add-one i, left-some i h, ← n, e, f)

pub record Walked (names : Names) (w : Enumerate EachName) : Type 0 where
  pub left : to_give w ≡ left names w.count
  pub good : bad_name [] (cut (lens names) (letters names)) ≡ w.count + rest names w.count
  pub few : w.count ≤ length (lens names)

pub started : (names : Names) (w v : Enumerate EachName) (walk : EachName) → w ≡ v → v.count ≡ 0 → v.iter ≡ walk
    → cut walk.lengths.now walk.letters.now ≡ cut (lens names) (letters names) → Walked names w
unfolding left rest start before
started names w v walk g n s h = rw (g, n, s) (record { left = h; good = sym (zero-add (rest names 0)); few = omega arith })

module _ {names : Names} {w : Enumerate EachName} (h : Walked names w) where
  pub left-in-words : w.count + length (to_give w) < 2 ^ 32
  unfolding left
  left-in-words =
      let n : length (to_give w) ≡ length (drop w.count (lens names)) = ap length h.left ∙ cut-count (drop w.count (lens names)) _ in
      omega (arith, n, length-drop w.count (lens names), h.few, names.in_words)

  pub ended : to_give w ≡ [] → Bad names None
  ended e =
      let n = left-none names w.count (sym h.left ∙ e) in
      omega (arith, h.good, h.few, n, rest-end names w.count n)

  -- a name is given
  module _ (v : Enumerate EachName) {i : ℕ} {name : Letters} (s : (to_give w ≡ name ∷ to_give v) × (i ≡ w.count) × (v.count ≡ w.count + 1) × (i + 1 < 2 ^ 64)) where
    first : (i < length (lens names)) × (name ≡ name_at (lens names) (letters names) i) × (to_give v ≡ left names (i + 1))
    first = left-first names i name _ (rw s.1 (sym h.left ∙ s.0))

    pub one-of : i < length (lens names)
    one-of = first.0

    pub named : name ≡ name_at (lens names) (letters names) i
    named = first.1

    good_at : bad_name [] (cut (lens names) (letters names)) ≡ i + rest names i
    good_at = rw s.1 h.good

    pub ill : well_formed name ≡ false → Bad names (Some i)
    ill e = (omega (arith, good_at, rest-ill names i name named one-of e), one-of)

    pub again : any (same_letters name) (before (lens names) (letters names) i) ≡ true → Bad names (Some i)
    again e = (omega (arith, good_at, rest-again names i name named one-of e), one-of)

    pub gone_on : well_formed name ≡ true → any (same_letters name) (before (lens names) (letters names) i) ≡ false → Walked names v
    gone_on e f =
        record {
          left = rw (s.2, ← s.1) first.2;
          good = rw (s.2, ← s.1) (omega (arith, good_at, rest-step names i name named one-of e f));
          few = omega (arith, s.2, s.1, one-of);
        }

    pub next-starts : (at : ℕ) → at ≡ start (lens names) w.count → at + length name ≡ start (lens names) v.count
    next-starts at e = rw (s.2, ← s.1) (name-next names i at name named (rw s.1 e))
