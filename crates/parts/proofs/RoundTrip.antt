-- Names and tokens to bytes and back, and the bytes of an accepted sheet again.
use Prim.Native.Nat.{ℕ, ◌+◌, ◌*◌, ◌^◌, ◌<◌}
use mathlib.Core.Path.{◌≡◌, refl, sym, ap, ◌∙◌}
use mathlib.Core.List.{List, [], ◌∷◌, ◌++◌, map}
use native.Mathlib.Omega.{arith}
use lib.ListN.{length, take, drop, take-append-drop, length-drop, length-map}
use lib.Seq.{drop-drop, take-append_seam, drop-append_seam, length-take-le}
use Rattle.definitions.specs.Lists.{join, Letters}
use Rattle.definitions.specs.Tokens.{TagValue}
use Rattle.definitions.specs.Refusals.{accepted}
use Rattle.definitions.specs.Bytes.{Parts, size, M, L, T, lengths, letters, tags, values, tokens, four_byte_words, cut, parts}
use Rattle.definitions.specs.Output.{word_bytes, sheet_bytes}
use Rattle.shapes.proofs.ReadBytes.{three}
use Rattle.parts.specs.Answers.{parts_of, sizes_of, SizedParts, Accepted}
use Rattle.parts.proofs.Laws.{accepted-is, accepted-only, accepted-parts, lengths-long, letters-long, tags-long, values-long}
use Rattle.parts.proofs.Words.{words-length}
use Rattle.parts.specs.Bytes.{plain_bytes, AllBelow, Within}
use Rattle.parts.proofs.Cuts.{cut-count, cut-join, join-cut, join-length, tokens-count, tokens-values, tokens-apart}
use Rattle.parts.proofs.WritingWords.{word-bytes, words_back, bytes_back, words-below, below-take, below-drop}
use Rattle.parts.proofs.Whole.{plain, plain-long}

-- ---- the parts of the bytes of parts
module _ (ns ls ts vs : List ℕ) where
  -- the bytes
  abbrev all : List ℕ
  all = plain_bytes ns ls ts vs

  module _ (m : length ns < 2 ^ 32) (l : length ls < 2 ^ 32) (t : length ts < 2 ^ 32) where
    M-is : M all ≡ length ns
    unfolding size four_byte_words plain_bytes
    M-is = word-bytes (length ns) m

    L-is : L all ≡ length ls
    unfolding size four_byte_words plain_bytes
    L-is = word-bytes (length ls) l

    T-is : T all ≡ length ts
    unfolding size four_byte_words plain_bytes
    T-is = word-bytes (length ts) t

    -- what follows the sizes, the lengths, the letters, the tags
    after-lengths : drop (12 + M all) all ≡ ls ++ (ts ++ join (map word_bytes vs))
    unfolding plain_bytes
    after-lengths = sym (drop-drop (M all) 12 all) ∙ rw M-is (drop-append_seam ns (ls ++ (ts ++ join (map word_bytes vs))))

    after_letters : drop (12 + M all + L all) all ≡ ts ++ join (map word_bytes vs)
    after_letters = sym (drop-drop (L all) (12 + M all) all) ∙ rw (after-lengths, L-is) (drop-append_seam ls (ts ++ join (map word_bytes vs)))

    after-tags : drop (12 + M all + L all + T all) all ≡ join (map word_bytes vs)
    after-tags = sym (drop-drop (T all) (12 + M all + L all) all) ∙ rw (after_letters, T-is) (drop-append_seam ts (join (map word_bytes vs)))

    lengths-are : lengths all ≡ ns
    unfolding lengths plain_bytes
    lengths-are = rw M-is (take-append_seam ns (ls ++ (ts ++ join (map word_bytes vs))))

    letters-are : letters all ≡ ls
    unfolding letters
    letters-are = rw (after-lengths, L-is) (take-append_seam ls (ts ++ join (map word_bytes vs)))

    tags-are : tags all ≡ ts
    unfolding tags
    tags-are = rw (after_letters, T-is) (take-append_seam ts (join (map word_bytes vs)))

    values-are : AllBelow (2 ^ 32) vs → values all ≡ vs
    unfolding values
    values-are h = rw after-tags (words_back vs h)

-- ---- from names and tokens to bytes and back
module _ (names : List Letters) (ks : List TagValue) where
  abbrev tags_of : List ℕ
  tags_of = map (λ (k : TagValue). k.tag) ks

  abbrev values_of : List ℕ
  values_of = map (λ (k : TagValue). k.value) ks

  tags-count : length tags_of ≡ length ks
  tags-count = length-map ks (λ (k : TagValue). k.tag)

  values-count : length values_of ≡ length ks
  values-count = length-map ks (λ (k : TagValue). k.value)

  names-count : length (map length names) ≡ length names
  names-count = length-map names length

  bytes-are : sheet_bytes names ks ≡ plain_bytes (map length names) (join names) tags_of values_of
  bytes-are = rw (join-cut names, tokens-apart ks) at (plain (map length names) (join names) tags_of values_of (join-length names) (tags-count ∙ sym values-count))

  module _ (w : Within names ks) where
    abbrev bytes : List ℕ
    bytes = plain_bytes (map length names) (join names) tags_of values_of

    few-lengths : length (map length names) < 2 ^ 32
    few-lengths = omega (arith, names-count, w.few)

    few-letters : length (join names) < 2 ^ 32
    few-letters = omega (arith, w.short)

    few-tokens : length tags_of < 2 ^ 32
    few-tokens = omega (arith, tags-count, w.most)

    M-names : M bytes ≡ length names
    M-names = M-is (map length names) (join names) tags_of values_of few-lengths few-letters few-tokens ∙ names-count

    L-letters : L bytes ≡ length (join names)
    L-letters = L-is (map length names) (join names) tags_of values_of few-lengths few-letters few-tokens

    T-tokens : T bytes ≡ length ks
    T-tokens = T-is (map length names) (join names) tags_of values_of few-lengths few-letters few-tokens ∙ tags-count

    lengths-names : lengths bytes ≡ map length names
    lengths-names = lengths-are (map length names) (join names) tags_of values_of few-lengths few-letters few-tokens

    letters-names : letters bytes ≡ join names
    letters-names = letters-are (map length names) (join names) tags_of values_of few-lengths few-letters few-tokens

    bytes-long : length bytes ≡ 12 + length names + length (join names) + 5 * length ks
    bytes-long = omega (arith, plain-long (map length names) (join names) tags_of values_of, names-count, tags-count, values-count)

    bytes-sized : SizedParts bytes (sizes_of bytes)
    bytes-sized = record { told = refl; long = omega (arith, bytes-long); names = omega (arith, M-names, w.few); letters = omega (arith, L-letters, w.short); few = omega (arith, T-tokens, w.least); many = omega (arith, T-tokens, w.most); whole = omega (arith, bytes-long, M-names, L-letters, T-tokens) }

    names-again : cut (lengths bytes) (letters bytes) ≡ names
    names-again = rw (lengths-names, letters-names) (join-cut names)

    bytes-accepted : Accepted bytes
    bytes-accepted = record { sized = bytes-sized; summed = rw lengths-names (join-length names ∙ sym L-letters); distinct = rw names-again (w.distinct ∙ sym M-names) }

    tokens-again : tokens (tags bytes) (values bytes) ≡ ks
    tokens-again = rw (tags-are (map length names) (join names) tags_of values_of few-lengths few-letters few-tokens, values-are (map length names) (join names) tags_of values_of few-lengths few-letters few-tokens w.small) (tokens-apart ks)

    -- what is written is read back
    pub read_back : parts (sheet_bytes names ks) ≡ accepted (record { names = names; tokens = ks })
    unfolding parts_of
    read_back = ap parts bytes-are ∙ (accepted-is bytes bytes-accepted ∙ rw (names-again, tokens-again))

-- ---- from bytes to names and tokens and back
-- a part and what follows it
seam : (n k : ℕ) (b : List ℕ) → take n (drop k b) ++ drop (k + n) b ≡ drop k b
seam n k b = rw (← drop-drop n k b) (take-append-drop n (drop k b))

module _ (b : List ℕ) (a : Accepted b) (h : AllBelow 256 b) where
  sizes-again : word_bytes (M b) ++ (word_bytes (L b) ++ (word_bytes (T b) ++ [])) ≡ take 12 b
  unfolding size
  sizes-again =
      let n : length (take 12 b) ≡ 4 * 3 = length-take-le 12 b a.sized.long in
      let e : M b ∷ L b ∷ T b ∷ [] ≡ four_byte_words (take 12 b) = three (four_byte_words (take 12 b)) (words-length 3 (take 12 b) n) in
      ap (λ (r : List ℕ). join (map word_bytes r)) e ∙ bytes_back 3 (take 12 b) n (below-take 256 12 b h)

  values-bytes : join (map word_bytes (values b)) ≡ drop (12 + M b + L b + T b) b
  unfolding values
  values-bytes =
      bytes_back (T b) (drop (12 + M b + L b + T b) b) (omega (arith, length-drop (12 + M b + L b + T b) b, a.sized.whole)) (below-drop 256 (12 + M b + L b + T b) b h)

  rest-again : lengths b ++ (letters b ++ (tags b ++ join (map word_bytes (values b)))) ≡ drop 12 b
  unfolding lengths letters tags
  rest-again = rw (values-bytes, seam (T b) (12 + M b + L b) b, seam (L b) (12 + M b) b) (seam (M b) 12 b)

  plain-again : plain_bytes (lengths b) (letters b) (tags b) (values b) ≡ b
  unfolding plain_bytes
  plain-again =
      rw (lengths-long b (sizes_of b) a.sized, letters-long b (sizes_of b) a.sized, tags-long b (sizes_of b) a.sized, rest-again)
      (ap (λ (r : List ℕ). r ++ drop 12 b) sizes-again ∙ take-append-drop 12 b)

  parts_again : sheet_bytes (cut (lengths b) (letters b)) (tokens (tags b) (values b)) ≡ b
  parts_again =
      plain (lengths b) (letters b) (tags b) (values b) (a.summed ∙ sym (letters-long b (sizes_of b) a.sized)) (tags-long b (sizes_of b) a.sized ∙ sym (values-long b (sizes_of b) a.sized))
      ∙ plain-again

  names-made : length (cut (lengths b) (letters b)) ≡ M b
  names-made = cut-count (lengths b) (letters b) ∙ lengths-long b (sizes_of b) a.sized

  letters-made : length (join (cut (lengths b) (letters b))) ≡ L b
  letters-made = ap length (cut-join (lengths b) (letters b) (a.summed ∙ sym (letters-long b (sizes_of b) a.sized))) ∙ letters-long b (sizes_of b) a.sized

  tags-values : length (tags b) ≡ length (values b)
  tags-values = tags-long b (sizes_of b) a.sized ∙ sym (values-long b (sizes_of b) a.sized)

  tokens-made : length (tokens (tags b) (values b)) ≡ T b
  tokens-made = tokens-count (tags b) (values b) tags-values ∙ tags-long b (sizes_of b) a.sized

  values-made : AllBelow (2 ^ 32) (map (λ (k : TagValue). k.value) (tokens (tags b) (values b)))
  unfolding values
  values-made = rw (tokens-values (tags b) (values b) tags-values) (words-below (drop (12 + M b + L b + T b) b) (below-drop 256 (12 + M b + L b + T b) b h))

  parts_within : Within (cut (lengths b) (letters b)) (tokens (tags b) (values b))
  parts_within = record { few = omega (arith, names-made, a.sized.names); short = omega (arith, letters-made, a.sized.letters); distinct = a.distinct ∙ sym names-made; least = omega (arith, tokens-made, a.sized.few); most = omega (arith, tokens-made, a.sized.many); small = values-made }

-- what is read is within the limits
pub read-within : (b : List ℕ) (p : Parts) → AllBelow 256 b → parts b ≡ accepted p → Within p.names p.tokens
unfolding parts_of
read-within b p h e = rw (accepted-parts b p e) (parts_within b (accepted-only b p e) h)

-- what is read is written back
pub write-back : (b : List ℕ) (p : Parts) → AllBelow 256 b → parts b ≡ accepted p → sheet_bytes p.names p.tokens ≡ b
unfolding parts_of
write-back b p h e = rw (accepted-parts b p e) (parts_again b (accepted-only b p e) h)
