-- Letters cut into names and joined again; tags and values as tokens and apart again.
use Prim.Native.Nat.{ℕ, suc}
use mathlib.Core.Path.{◌≡◌, refl, ap}
use mathlib.Core.List.{List, [], ◌∷◌, ◌++◌, map}
use native.Mathlib.Omega.{arith}
use lib.ListN.{length, take, drop, length-append}
use lib.Seq.{take-append_seam, drop-append_seam}
use Rattle.definitions.specs.Lists.{sum, join, Letters}
use Rattle.definitions.specs.Tokens.{TagValue}
use Rattle.definitions.specs.Bytes.{cut, tokens}
use Rattle.definitions.specs.Output.{word_bytes}
pub use Rattle.shapes.proofs.ReadBytes.{cut-count, cut-lengths, cut-join, tokens-tags}

-- ---- names
pub cut-none : (ns ls : List ℕ) → length ns ≡ 0 → cut ns ls ≡ []
unfolding cut
cut-none [] ls h = refl
cut-none (n ∷ ns) ls h = absurd (omega arith)

pub cut-first : (ns ls : List ℕ) (n : ℕ) (rest : List ℕ) → ns ≡ n ∷ rest → (m : ℕ) → m ≡ n → (name later : List ℕ) → name ≡ take m ls → later ≡ drop m ls → cut ns ls ≡ name ∷ cut rest later
unfolding cut
cut-first ns ls n rest s m e name later f g = rw (s, f, g, e) refl

pub join-cut : (names : List Letters) → cut (map length names) (join names) ≡ names
unfolding cut
join-cut [] = refl
join-cut (n ∷ names) = rw (take-append_seam n (join names), drop-append_seam n (join names), join-cut names)

pub join-length : (names : List Letters) → sum (map length names) ≡ length (join names)
join-length [] = refl
join-length (n ∷ names) = omega (arith, length-append n (join names), join-length names)

-- ---- tokens
pub tokens-count : (ts vs : List ℕ) → length ts ≡ length vs → length (tokens ts vs) ≡ length ts
unfolding tokens
tokens-count [] vs h = refl
tokens-count (t ∷ ts) [] h = absurd (omega arith)
tokens-count (t ∷ ts) (v ∷ vs) h = ap suc (tokens-count ts vs (omega arith))

pub tokens-values : (ts vs : List ℕ) → length ts ≡ length vs → map (λ (k : TagValue). k.value) (tokens ts vs) ≡ vs
unfolding tokens
tokens-values [] [] h = refl
tokens-values [] (v ∷ vs) h = absurd (omega arith)
tokens-values (t ∷ ts) [] h = absurd (omega arith)
tokens-values (t ∷ ts) (v ∷ vs) h = ap (λ (r : List ℕ). v ∷ r) (tokens-values ts vs (omega arith))

pub tokens-words : (ts vs : List ℕ) → length ts ≡ length vs → join (map (λ (k : TagValue). word_bytes k.value) (tokens ts vs)) ≡ join (map word_bytes vs)
unfolding tokens
tokens-words [] [] h = refl
tokens-words [] (v ∷ vs) h = absurd (omega arith)
tokens-words (t ∷ ts) [] h = absurd (omega arith)
tokens-words (t ∷ ts) (v ∷ vs) h = ap (λ (r : List ℕ). word_bytes v ++ r) (tokens-words ts vs (omega arith))

pub tokens-apart : (ks : List TagValue) → tokens (map (λ (k : TagValue). k.tag) ks) (map (λ (k : TagValue). k.value) ks) ≡ ks
unfolding tokens
tokens-apart [] = refl
tokens-apart (k ∷ ks) = ap (λ (r : List TagValue). k ∷ r) (tokens-apart ks)
