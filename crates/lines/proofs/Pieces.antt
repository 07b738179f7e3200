-- The pieces of texts and listings make the whole.
use Prim.Native.Nat.{ℕ, suc, ◌+◌}
use mathlib.Core.Path.{◌≡◌, sym, ap, ◌∙◌}
use mathlib.Core.List.{List, [], ◌∷◌, ◌++◌, map, append_assoc, append-nil}
use mathlib.Core.Bool.{true, false}
use native.Mathlib.Nat.{add-zero}
use native.Mathlib.Omega.{arith}
use lib.ListN.{length}
use Rattle.definitions.specs.Lists.{join, numbered, Letters, bytes, decimal}
use Rattle.definitions.specs.Clock.{Clock}
use Rattle.definitions.specs.InferClocks.{Fault, left_elsewhere, used_elsewhere, fault_number}
use Rattle.definitions.specs.Texts.{quoted, clock_text, fault_text, listing, fault_line}
use Rattle.lines.specs.Pieces.{on_another, head_line, equation_line, chain_line}

five : (a b c d e f : Letters) → (a ++ (b ++ (c ++ (d ++ e)))) ++ f ≡ a ++ (b ++ (c ++ (d ++ (e ++ f))))
five a b c d e f = simp append_assoc

module _ (letters : ℕ → Letters) (x : ℕ) (c d : Clock) where
  -- a text that ends behind the second clock
  another-then : (between after : Letters)
      → on_another letters x c between d ++ after ≡ quoted letters x ++ (bytes " is on " ++ (clock_text letters c ++ (between ++ (clock_text letters d ++ after))))
  unfolding on_another
  another-then between after = five (quoted letters x) (bytes " is on ") (clock_text letters c) between (clock_text letters d) after

  pub text-left : on_another letters x c (bytes " but its defining equation runs on ") d ≡ fault_text letters (left_elsewhere x c d false)
  unfolding fault_text
  text-left = sym (append-nil _) ∙ another-then (bytes " but its defining equation runs on ") []

  pub text-port : on_another letters x c (bytes " but its defining equation runs on ") d
      ++ bytes " — inputs and outputs are always base-clocked; use merge(...) to bring the stream back up" ≡ fault_text letters (left_elsewhere x c d true)
  unfolding fault_text
  text-port = another-then (bytes " but its defining equation runs on ") (bytes " — inputs and outputs are always base-clocked; use merge(...) to bring the stream back up")

  pub text-used : on_another letters x c (bytes " but is used here on ") d ++ bytes " — sample it with `when` or join it with `merge` first"
      ≡ fault_text letters (used_elsewhere x c d)
  unfolding fault_text
  text-used = another-then (bytes " but is used here on ") (bytes " — sample it with `when` or join it with `merge` first")

-- a fault's line, by its number
pub text-line : (letters : ℕ → Letters) (i n e : ℕ) (f : Fault) → n ≡ fault_number f
    → bytes "fault " ++ (decimal i ++ (bytes " " ++ (decimal n ++ (bytes " " ++ (decimal e ++ (bytes " " ++ (fault_text letters f ++ bytes "\n")))))))
    ≡ fault_line letters i (record { equation = e; fault = f })
unfolding fault_line
text-line letters i n e f h = rw h

-- one list more, and one line more
module _ {A : Type 0} where
  pub join_last : (f : A → Letters) (l : List A) (a : A) → join (map f (l ++ (a ∷ []))) ≡ join (map f l) ++ f a
  join_last f [] a = append-nil (f a)
  join_last f (b ∷ l) a = ap (λ r. f b ++ r) (join_last f l a) ∙ sym (append_assoc (f b) (join (map f l)) (f a))

  pub numbered-last : (f : ℕ → A → Letters) (k : ℕ) (l : List A) (a : A) → join (numbered f k (l ++ (a ∷ []))) ≡ join (numbered f k l) ++ f (k + length l) a
  numbered-last f k [] a = append-nil (f k a) ∙ ap (λ i. f i a) (sym (add-zero k))
  numbered-last f k (b ∷ l) a =
      ap (λ r. f k b ++ r) (numbered-last f (suc k) l a ∙ ap (λ i. join (numbered f (suc k) l) ++ f i a) (omega arith))
      ∙ sym (append_assoc (f k b) (join (numbered f (suc k) l)) (f (k + suc (length l)) a))

module _ (letters : ℕ → Letters) where
  -- the pieces in order make the listing
  pub listing-pieces : (name passes : ℕ) (equations chains : List Clock)
      → listing letters name passes equations chains
      ≡ head_line letters name (length equations) passes (length chains) ++ (join (numbered (equation_line letters) 0 equations) ++ join (map (chain_line letters) chains))
  unfolding listing head_line equation_line chain_line
  listing-pieces name passes equations chains = simp append_assoc
