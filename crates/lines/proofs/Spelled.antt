-- Laws on what a text with names puts.
use mathlib.Core.Path.{◌≡◌, refl, sym, ◌∙◌, subst}
use mathlib.Core.List.{List, [], ◌∷◌, ◌++◌, map}
use Prim.Native.Nat.{ℕ}
use borrow.Rule.Reborrow.{re_v}
use lib.ListN.{length}
use Rattle.definitions.specs.Lists.{join, numbered, Letters}
use Rattle.definitions.specs.Clock.{Clock}
use Rattle.definitions.specs.Texts.{listing}
use Rattle.spelling.specs.Places.{letters_in}
use Rattle.spelling.specs.Written.{Wrote}
use Rattle.spelling.specs.declared.names.Spelling.{Spelling}
use Rattle.spelling.specs.declared.text_writer.TextWriter.{TextWriter}
use Rattle.spelling.proofs.Writers.{wrote_then, wrote_as, wrote_none}
use Rattle.lines.specs.declared.NamedText.{NamedText}
use Rattle.lines.specs.Pieces.{head_line, equation_line, chain_line}
use Rattle.lines.specs.Spelled.{Spells}
use Rattle.lines.proofs.Pieces.{join_last, listing-pieces}

-- one text, then another
pub spells_then : {f g : (ℕ → Letters) → Letters} {w w₁ w₂ : NamedText} → Spells f w w₁ → Spells g w₁ w₂ → Spells (λ n. f n ++ g n) w w₂
spells_then {f} {g} {w} {w₁} {w₂} u v =
    record {
      names = v.names ∙ u.names;
      same = v.same ∙ u.same;
      wrote = wrote_then u.wrote (subst (λ (s : Spelling). Wrote (g (letters_in s)) w₁.text.now w₂.text.now) u.names v.wrote);
    }

-- a text by another's name
pub spells_as : {f g : (ℕ → Letters) → Letters} {w w₁ : NamedText} → ((n : ℕ → Letters) → f n ≡ g n) → Spells f w w₁ → Spells g w w₁
spells_as {w = w} e u = record { names = u.names; same = u.same; wrote = wrote_as (e (letters_in w.spelling)) u.wrote }

-- letters, and a name, that the writer put
pub letters_put : {l : Letters} {w : NamedText} {t : TextWriter} → Wrote l w.text.now t → Spells (λ n. l) w (record { text = re_v t w.text; spelling = w.spelling })
letters_put u = record { names = refl; same = refl; wrote = u }

pub name_put : {x : ℕ} {w : NamedText} {t : TextWriter} → Wrote (letters_in w.spelling x) w.text.now t → Spells (λ n. n x) w (record { text = re_v t w.text; spelling = w.spelling })
name_put u = record { names = refl; same = refl; wrote = u }

-- what was put stands where the lent text came to
pub wrote_to : {l : Letters} {w t w₁ : TextWriter} → Wrote l w t → t ≡ w₁ → Wrote l w w₁
wrote_to {l} {w} u e = subst (λ (t : TextWriter). Wrote l w t) e u

-- nothing
pub spells_none : (w : NamedText) → Spells (λ n. []) w w
spells_none w = record { names = refl; same = refl; wrote = wrote_none w.text.now }

-- one line more
module _ {A : Type 0} (line : (ℕ → Letters) → A → Letters) (l : List A) (a : A) where
  pub line_more : {w w₁ w₂ : NamedText} → Spells (λ n. join (map (line n) l)) w w₁ → Spells (λ n. line n a) w₁ w₂ → Spells (λ n. join (map (line n) (l ++ (a ∷ [])))) w w₂
  line_more u v = spells_as (λ n. sym (join_last (line n) l a)) (spells_then u v)

-- the first line, the equations' lines and the chains' lines are the listing
pub listing_spelled : (name passes : ℕ) (equations chains : List Clock) {w w₁ w₂ w₃ : NamedText} → Spells (λ n. head_line n name (length equations) passes (length chains)) w w₁
    → Spells (λ n. join (numbered (equation_line n) 0 equations)) w₁ w₂ → Spells (λ n. join (map (chain_line n) chains)) w₂ w₃ → Spells (λ n. listing n name passes equations chains) w w₃
listing_spelled name passes equations chains u v x = spells_as (λ n. sym (listing-pieces n name passes equations chains)) (spells_then u (spells_then v x))
