-- Laws on bytes in hex.
-- Assumes nothing.
use Prim.Native.Nat.{ℕ, ◌+◌, ◌*◌, ◌/◌, ◌≤◌, ◌<◌}
use mathlib.Core.Path.{◌≡◌, refl, sym, ap, ap₂, ◌∙◌, subst}
use mathlib.Core.List.{[], ◌∷◌, ◌++◌, append_assoc, append-nil}
use native.Mathlib.Numerals.{add-one}
use native.Mathlib.Omega.{arith}
use lib.ListN.{length, get_or, drop, drop_of_length-le}
use lib.Seq.{drop-cons}
use Rattle.definitions.specs.Lists.{Letters}
use Rattle.spelling.specs.Written.{Wrote}
use Rattle.spelling.specs.declared.text_writer.TextWriter.{TextWriter}
use Rattle.spelling.proofs.Writers.{wrote_then, wrote_none}
use Rattle.vectors.specs.Fields.{digit_of, decoded, hex_digit, hex}

-- what is put so far of a text, with what is left of it
pub record Left (whole rest : Letters) (w w₁ : TextWriter) : Type 0 where
  pub front : Letters
  pub put : Wrote front w w₁
  pub all : front ++ rest ≡ whole

module _ {whole : Letters} {w : TextWriter} where
  pub left-none : Left whole whole w w
  left-none = record { front = []; put = wrote_none w; all = refl }

  -- one part more
  pub left_one : {rest : Letters} {w₁ w₂ : TextWriter} (part later : Letters) → Left whole rest w w₁ → rest ≡ part ++ later → Wrote part w₁ w₂ → Left whole later w w₂
  left_one {rest} part later o e u =
      record {
        front = o.front ++ part;
        put = wrote_then o.put u;
        all = append_assoc o.front part later ∙ ap (λ l. o.front ++ l) (sym e) ∙ o.all;
      }

  -- nothing is left
  pub left-all : {rest : Letters} {w₁ : TextWriter} → Left whole rest w w₁ → rest ≡ [] → Wrote whole w w₁
  left-all {rest} {w₁} o e = subst (λ l. Wrote l w w₁) (sym (append-nil o.front) ∙ ap (λ l. o.front ++ l) (sym e) ∙ o.all) o.put

-- no digit is read yet
pub decoded-none : {whole rest : Letters} {w : TextWriter} → rest ≡ whole → Left (decoded whole) (decoded rest) w w
decoded-none {whole} {rest} {w} e = subst (λ l. Left (decoded whole) (decoded l) w w) (sym e) left-none

-- two digits of hex are one byte
decoded-two : (pair l : Letters) → length pair ≡ 2 → decoded (pair ++ l) ≡ (16 * digit_of (get_or pair 0 0) + digit_of (get_or pair 1 0)) ∷ decoded l
unfolding decoded
decoded-two [] l h = absurd (omega (arith, h))
decoded-two (a ∷ []) l h = absurd (omega (arith, h))
decoded-two (a ∷ b ∷ []) l h = refl
decoded-two (a ∷ b ∷ c ∷ pair) l h = absurd (omega (arith, h))

-- one digit is none
pub decoded-end : (l : Letters) → length l < 2 → decoded l ≡ []
unfolding decoded
decoded-end [] h = refl
decoded-end (a ∷ []) h = refl
decoded-end (a ∷ b ∷ l) h = absurd (omega (arith, h))

-- one byte is two digits of hex
pub hex-one : (l : Letters) (i : ℕ) → i < length l → hex (drop i l) ≡ hex_digit (get_or l i 0 / 16) ∷ hex_digit (get_or l i 0) ∷ hex (drop (i + 1) l)
unfolding hex
hex-one l i h = rw (drop-cons l i 0 h, add-one i)

pub hex-end : (l : Letters) (i : ℕ) → length l ≤ i → hex (drop i l) ≡ []
unfolding hex
hex-end l i h = rw (drop_of_length-le l h)

-- one byte more of what hex says
pub decoded-step : {whole rest : Letters} (pair later : Letters) {high low : ℕ} {w w₁ w₂ : TextWriter} → Left whole (decoded rest) w w₁ → rest ≡ pair ++ later → length pair ≡ 2
    → high ≡ digit_of (get_or pair 0 0) → low ≡ digit_of (get_or pair 1 0) → Wrote ((16 * high + low) ∷ []) w₁ w₂
    → Left whole (decoded later) w w₂
decoded-step pair later {high} {low} o r h e f u =
    left_one ((16 * high + low) ∷ []) (decoded later) o
    (ap decoded r ∙ (decoded-two pair later h ∙ sym (ap₂ (λ a b. (16 * a + b) ∷ decoded later) e f))) u

-- one byte more in hex
pub hex-step : (l : Letters) (i : ℕ) {high low : ℕ} {w w₁ w₂ w₃ : TextWriter} → Left (hex l) (hex (drop i l)) w w₁ → i < length l
    → high ≡ hex_digit (get_or l i 0 / 16) → low ≡ hex_digit (get_or l i 0) → Wrote (high ∷ []) w₁ w₂ → Wrote (low ∷ []) w₂ w₃
    → Left (hex l) (hex (drop (i + 1) l)) w w₃
hex-step l i {high} {low} o h e f u v =
    left_one (high ∷ low ∷ []) (hex (drop (i + 1) l)) o
    (hex-one l i h ∙ sym (ap₂ (λ a b. a ∷ b ∷ hex (drop (i + 1) l)) e f)) (wrote_then u v)
