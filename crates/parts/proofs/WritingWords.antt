-- Words to bytes and back.
use Prim.Native.Nat.{ℕ, zero, suc, ◌+◌, ◌*◌, ◌/◌, ◌%◌, ◌^◌, ◌<◌}
use mathlib.Core.Path.{◌≡◌, refl}
use mathlib.Core.List.{List, [], ◌∷◌, map}
use native.Mathlib.Omega.{arith}
use lib.ListN.{length, take, drop}
use Rattle.definitions.specs.Lists.{join}
use Rattle.definitions.specs.Bytes.{four_byte_words}
use Rattle.definitions.specs.Output.{word_bytes}
use Rattle.parts.specs.Bytes.{AllBelow}

pub below-take : (n k : ℕ) (l : List ℕ) → AllBelow n l → AllBelow n (take k l)
below-take n zero l h = tt
below-take n (suc k) [] h = tt
below-take n (suc k) (x ∷ l) h = (h.0, below-take n k l h.1)

pub below-drop : (n k : ℕ) (l : List ℕ) → AllBelow n l → AllBelow n (drop k l)
below-drop n zero l h = h
below-drop n (suc k) [] h = tt
below-drop n (suc k) (x ∷ l) h = below-drop n k l h.1

-- a word's bytes make the word
div-second : (n : ℕ) → n / 65536 ≡ (n / 256) / 256
div-second n = omega arith

div-third : (n : ℕ) → n / 16777216 ≡ (n / 65536) / 256
div-third n = omega arith

pub word-bytes : (n : ℕ) → n < 2 ^ 32 → n % 256 + 2 ^ 8 * ((n / 2 ^ 8) % 256) + 2 ^ 16 * ((n / 2 ^ 16) % 256) + 2 ^ 24 * ((n / 2 ^ 24) % 256) ≡ n
word-bytes n h =
    let a : 256 * (n / 256) + n % 256 ≡ n = omega arith in
    let b : 256 * (n / 65536) + (n / 256) % 256 ≡ n / 256 = omega (arith, div-second n) in
    let c : 256 * (n / 16777216) + (n / 65536) % 256 ≡ n / 65536 = omega (arith, div-third n) in
    let d : (n / 16777216) % 256 ≡ n / 16777216 = omega arith in
    together (n % 256) (n / 256) ((n / 256) % 256) (n / 65536) ((n / 65536) % 256) (n / 16777216) ((n / 16777216) % 256) n a b c d
  where
    together : (a p b q c r d n : ℕ) → 256 * p + a ≡ n → 256 * q + b ≡ p → 256 * r + c ≡ q → d ≡ r → a + 256 * b + 65536 * c + 16777216 * d ≡ n
    together a p b q c r d n e f g h = omega arith

pub words_back : (vs : List ℕ) → AllBelow (2 ^ 32) vs → four_byte_words (join (map word_bytes vs)) ≡ vs
unfolding four_byte_words
words_back [] h = refl
words_back (v ∷ vs) h = rw (word-bytes v h.0, words_back vs h.1)

-- four bytes are their word's
first_byte : (a b c d : ℕ) → a < 256 → b < 256 → c < 256 → d < 256 → (a + 256 * b + 65536 * c + 16777216 * d) % 256 ≡ a
first_byte a b c d p q r s = omega arith

second-byte : (a b c d : ℕ) → a < 256 → b < 256 → c < 256 → d < 256 → ((a + 256 * b + 65536 * c + 16777216 * d) / 256) % 256 ≡ b
second-byte a b c d p q r s = omega arith

third-byte : (a b c d : ℕ) → a < 256 → b < 256 → c < 256 → d < 256 → ((a + 256 * b + 65536 * c + 16777216 * d) / 65536) % 256 ≡ c
third-byte a b c d p q r s = omega arith

fourth-byte : (a b c d : ℕ) → a < 256 → b < 256 → c < 256 → d < 256 → ((a + 256 * b + 65536 * c + 16777216 * d) / 16777216) % 256 ≡ d
fourth-byte a b c d p q r s = omega arith

pub bytes_back : (n : ℕ) (l : List ℕ) → length l ≡ 4 * n → AllBelow 256 l → join (map word_bytes (four_byte_words l)) ≡ l
unfolding four_byte_words
bytes_back n [] e h = refl
bytes_back n (a ∷ []) e h = absurd (omega arith)
bytes_back n (a ∷ b ∷ []) e h = absurd (omega arith)
bytes_back n (a ∷ b ∷ c ∷ []) e h = absurd (omega arith)
bytes_back zero (a ∷ b ∷ c ∷ d ∷ l) e h = absurd (omega arith)
bytes_back (suc n) (a ∷ b ∷ c ∷ d ∷ l) e (p, (q, (r, (s, h)))) =
    rw (first_byte a b c d p q r s, second-byte a b c d p q r s, third-byte a b c d p q r s, fourth-byte a b c d p q r s, bytes_back n l (omega arith) h)

-- words of bytes are below 2 ^ 32
pub words-below : (l : List ℕ) → AllBelow 256 l → AllBelow (2 ^ 32) (four_byte_words l)
unfolding four_byte_words
words-below [] h = tt
words-below (a ∷ []) h = tt
words-below (a ∷ b ∷ []) h = tt
words-below (a ∷ b ∷ c ∷ []) h = tt
words-below (a ∷ b ∷ c ∷ d ∷ l) (p, (q, (r, (s, h)))) = (omega arith, words-below l h)
