-- The definition `parts`, one refusal at a time, and what acceptance says.
use Prim.Native.Nat.{ℕ, ◌+◌, ◌-◌, ◌*◌, ◌≤◌, ◌<◌}
use mathlib.Core.Path.{◌≡◌, refl, sym, ap, ◌∙◌}
use mathlib.Core.List.{List, [], ◌++◌}
use mathlib.Core.Bool.{Bool, true, false}
use native.Mathlib.Omega.{arith}
use lib.Dec.{eqb}
use lib.ListN.{length, take, drop, length-drop}
use lib.Seq.{length-take-le}
use borrow.Author.Tests.{le-leb, lt-leb, eq-eqb, ne_eqb, eqb-true, eqb-false}
use Rattle.definitions.specs.declared.Refusal.{Refusal}
use Rattle.definitions.specs.declared.FaultRecord.{FaultRecord}
use Rattle.definitions.specs.Lists.{sum}
use Rattle.definitions.specs.Refusals.{Answer, accepted, refused, faulty, told, must, ◌>>=◌}
use Rattle.definitions.specs.Bytes.{Parts, size, M, L, T, lengths, letters, tags, values, four_byte_words, cut, bad_name, parts}
use Rattle.parts.specs.declared.Sizes.{Sizes}
use Rattle.std.specs.Prelude.{Result, IfOk, Ok, Err, Some, None}
use Rattle.parts.specs.Answers.{word_at, sizes_of, parts_of, answered, told_of, parts_answer, tags_after, values_after, SizedParts, FirstBad, Accepted}
use Rattle.parts.proofs.Words.{word_of, word-take, words-length, tags-copied, words-left, words-copied}

-- the sizes that the code reads are the sheet's
pub record SizesRead (b : List ℕ) (m l t : ℕ) : Type 0 where
  pub names : M b ≡ m
  pub letters : L b ≡ l
  pub tokens : T b ≡ t

-- these sizes are within their limits, and give the sheet's length
record SizesFit (b : List ℕ) (s : Sizes) : Type 0 where
  names : s.names ≤ 1024
  letters : s.letters ≤ 16384
  tokens : s.tokens ≤ 4096
  whole : length b ≡ 12 + s.names + s.letters + 5 * s.tokens

module _ (b : List ℕ) where
  pub short : length b < 12 → parts b ≡ refused Refusal.Short
  unfolding parts
  short h = rw (lt-leb 12 (length b) h)

  -- size k is the word at 4 * k
  pub size-read : 12 ≤ length b → (k : ℕ) → k ≤ 2 → size b k ≡ word_at b (4 * k)
  unfolding size
  size-read long k h =
      let e : length (take 12 b) ≡ 12 = length-take-le 12 b long in
      word_of (take 12 b) k (omega arith) ∙ word-take 12 (4 * k) b (omega arith)

  pub sizes-read : 12 ≤ length b → (m l t : ℕ) → m ≡ word_at b 0 → l ≡ word_at b 4 → t ≡ word_at b 8 → SizesRead b m l t
  sizes-read h m l t p q r = record { names = size-read h 0 (omega arith) ∙ sym p; letters = size-read h 1 (omega arith) ∙ sym q; tokens = size-read h 2 (omega arith) ∙ sym r }

module _ {b : List ℕ} {m l t : ℕ} (r : SizesRead b m l t) (long : 12 ≤ length b) where
  pub many-names : 1024 < m → parts b ≡ refused (Refusal.Size 0)
  unfolding parts
  many-names h = rw (le-leb 12 (length b) long, r.names, lt-leb m 1024 h)

  module _ (names : m ≤ 1024) where
    pub many-letters : 16384 < l → parts b ≡ refused (Refusal.Size 1)
    unfolding parts
    many-letters h = rw (le-leb 12 (length b) long, r.names, le-leb m 1024 names, r.letters, lt-leb l 16384 h)

    module _ (letters : l ≤ 16384) where
      pub few-tokens : t < 2 → parts b ≡ refused (Refusal.Size 2)
      unfolding parts
      few-tokens h = rw (le-leb 12 (length b) long, r.names, le-leb m 1024 names, r.letters, le-leb l 16384 letters, r.tokens, lt-leb 2 t h)

      module _ (few : 2 ≤ t) where
        pub many-tokens : 4096 < t → parts b ≡ refused (Refusal.Size 2)
        unfolding parts
        many-tokens h = rw (le-leb 12 (length b) long, r.names, le-leb m 1024 names, r.letters, le-leb l 16384 letters, r.tokens, le-leb 2 t few, lt-leb t 4096 h)

        module _ (many : t ≤ 4096) where
          pub other_length : (length b ≡ 12 + m + l + 5 * t → ⊥) → parts b ≡ refused Refusal.Length
          unfolding parts
          other_length h =
              rw (le-leb 12 (length b) long, r.names, le-leb m 1024 names, r.letters, le-leb l 16384 letters, r.tokens, le-leb 2 t few, le-leb t 4096 many, ne_eqb (length b) (12 + m + l + 5 * t) h)

          -- the sizes read are the sheet's
          pub sized : length b ≡ 12 + m + l + 5 * t → SizedParts b (record { names = m; letters = l; tokens = t })
          sized h =
              record {
                told = rw (r.names, r.letters, r.tokens);
                long = long;
                names = omega (arith, r.names, names);
                letters = omega (arith, r.letters, letters);
                few = omega (arith, r.tokens, few);
                many = omega (arith, r.tokens, many);
                whole = omega (arith, r.names, r.letters, r.tokens, h);
              }

module _ (b : List ℕ) where
  -- the refusal that the definition gives is the code's answer
  pub refused-answer : (r : Refusal) → parts b ≡ refused r → Err r ≡ parts_answer b
  unfolding parts_answer
  refused-answer r e = rw e

  pub accepted-answer : (p : Parts) → parts b ≡ accepted p → Ok (sizes_of b) ≡ parts_answer b
  unfolding parts_answer
  accepted-answer p e = rw e

  -- what is left to check once the sizes are right
  unfoldable names_checked : Answer Parts
  names_checked =
      must (eqb (sum (lengths b)) (L b)) (Refusal.Name (M b)) >>= λ _.
      must (eqb (bad_name [] (cut (lengths b) (letters b))) (M b)) (Refusal.Name (bad_name [] (cut (lengths b) (letters b)))) >>= λ _.
      accepted (parts_of b)

  module _ (s : Sizes) (z : SizedParts b s) where
    pub names-told : s.names ≡ M b
    names-told = ap (λ (k : Sizes). k.names) z.told

    pub letters-told : s.letters ≡ L b
    letters-told = ap (λ (k : Sizes). k.letters) z.told

    pub tokens-told : s.tokens ≡ T b
    tokens-told = ap (λ (k : Sizes). k.tokens) z.told

    pub lengths-long : length (lengths b) ≡ M b
    unfolding lengths
    lengths-long = length-take-le (M b) (drop 12 b) (omega (arith, length-drop 12 b, z.whole))

    pub letters-long : length (letters b) ≡ L b
    unfolding letters
    letters-long = length-take-le (L b) (drop (12 + M b) b) (omega (arith, length-drop (12 + M b) b, z.whole))

    pub tags-long : length (tags b) ≡ T b
    unfolding tags
    tags-long = length-take-le (T b) (drop (12 + M b + L b) b) (omega (arith, length-drop (12 + M b + L b) b, z.whole))

    pub values-long : length (values b) ≡ T b
    unfolding values
    values-long = words-length (T b) (drop (12 + M b + L b + T b) b) (omega (arith, length-drop (12 + M b + L b + T b) b, z.whole))

module _ {b : List ℕ} {s : Sizes} (z : SizedParts b s) where
  -- the sizes in numbers
  fit : SizesFit b s
  fit =
      let n = names-told b s z in
      let l = letters-told b s z in
      let t = tokens-told b s z in
      record { names = omega (arith, n, z.names); letters = omega (arith, l, z.letters); tokens = omega (arith, t, z.many); whole = omega (arith, n, l, t, z.whole) }

  -- the places that the code takes from the sizes
  pub lengths-part : take (12 + s.names - 12) (drop 12 b) ≡ lengths b
  unfolding lengths
  lengths-part = let e : 12 + s.names - 12 ≡ M b = omega (arith, names-told b s z) in rw e

  pub lengths-count : length (take (12 + s.names - 12) (drop 12 b)) ≡ s.names
  lengths-count = ap length lengths-part ∙ (lengths-long b s z ∙ sym (names-told b s z))

  pub letters-part : take (12 + s.names + s.letters - (12 + s.names)) (drop (12 + s.names) b) ≡ letters b
  unfolding letters
  letters-part =
      let e : 12 + s.names + s.letters - (12 + s.names) ≡ L b = omega (arith, letters-told b s z) in
      rw (e, names-told b s z)

  pub letters-count : length (take (12 + s.names + s.letters - (12 + s.names)) (drop (12 + s.names) b)) ≡ s.letters
  letters-count = ap length letters-part ∙ (letters-long b s z ∙ sym (letters-told b s z))

  pub tags-part : take s.tokens (drop (12 + s.names + s.letters) b) ≡ tags b
  unfolding tags
  tags-part = rw (names-told b s z, letters-told b s z, tokens-told b s z)

  pub values-part : four_byte_words (drop (12 + s.names + s.letters + s.tokens) b) ≡ values b
  unfolding values
  values-part = rw (names-told b s z, letters-told b s z, tokens-told b s z)

  names-left : parts b ≡ names_checked b
  unfolding parts parts_of names_checked
  names-left = rw (le-leb 12 (length b) z.long, le-leb (M b) 1024 z.names, le-leb (L b) 16384 z.letters, le-leb 2 (T b) z.few, le-leb (T b) 4096 z.many, eq-eqb (length b) (12 + M b + L b + 5 * T b) z.whole)

  other-sum : (sum (lengths b) ≡ L b → ⊥) → parts b ≡ refused (Refusal.Name (M b))
  unfolding names_checked
  other-sum h = names-left ∙ rw (ne_eqb (sum (lengths b)) (L b) h)

  -- the lengths and the letters that the code takes from the sheet
  module _ {lens text : List ℕ} (el : lens ≡ lengths b) (et : text ≡ letters b) {n : ℕ} (e : n ≡ sum lens) where
    -- their sum is another
    pub sum-answer : (n ≡ s.letters → ⊥) → Err (Refusal.Name s.names) ≡ parts_answer b
    sum-answer h = rw (names-told b s z) (refused-answer b (Refusal.Name (M b)) (other-sum (λ q. h (e ∙ (ap sum el ∙ (q ∙ sym (letters-told b s z)))))))

    module _ (u : n ≡ s.letters) where
      right-sum : sum (lengths b) ≡ L b
      right-sum = sym (ap sum el) ∙ (sym e ∙ (u ∙ letters-told b s z))

      -- the code's first bad name is one of the names
      pub bad-answer : (bad : ℕ) → FirstBad lens text (Some bad) → Err (Refusal.Name bad) ≡ parts_answer b
      unfolding names_checked
      bad-answer bad f =
          let i : bad ≡ bad_name [] (cut (lengths b) (letters b)) = rw (el, et) at f.0 in
          let l : bad < M b = rw (el, lengths-long b s z) at f.1 in
          let g : bad_name [] (cut (lengths b) (letters b)) ≡ M b → ⊥ = λ q. omega (arith, i, l, q) in
          rw i (refused-answer b (Refusal.Name (bad_name [] (cut (lengths b) (letters b)))) (names-left ∙ rw (eq-eqb (sum (lengths b)) (L b) right-sum, ne_eqb (bad_name [] (cut (lengths b) (letters b))) (M b) g)))

      pub good-answer : FirstBad lens text None → Ok s ≡ parts_answer b
      unfolding names_checked
      good-answer f =
          let g : bad_name [] (cut (lengths b) (letters b)) ≡ M b = rw (el, et, lengths-long b s z) at f in
          rw z.told (accepted-answer b (parts_of b) (names-left ∙ rw (eq-eqb (sum (lengths b)) (L b) right-sum, eq-eqb (bad_name [] (cut (lengths b) (letters b))) (M b) g)))

-- ---- acceptance
-- both tests of a number's value
stable : (m n : ℕ) → ((m ≡ n → ⊥) → ⊥) → m ≡ n
stable m n h = go (eqb m n) refl
  where
    go : (t : Bool) → eqb m n ≡ t → m ≡ n
    go true e = eqb-true m n e
    go false e = absurd (h (eqb-false m n e))

-- an answer that is one thing is no other
other : {A : Type 0} (a : Answer A) (r : Refusal) (p : A) → a ≡ accepted p → a ≡ refused r → ⊥
other a r p e f = cc

no-fault : {A : Type 0} (a : Answer A) (r : Refusal) (l : List FaultRecord) → a ≡ faulty l → a ≡ refused r → ⊥
no-fault a r l e f = cc

module _ (b : List ℕ) where
  -- a sheet that passes each test is accepted, with its parts
  pub accepted-is : Accepted b → parts b ≡ accepted (parts_of b)
  unfolding names_checked
  accepted-is a = names-left a.sized ∙ rw (eq-eqb (sum (lengths b)) (L b) a.summed, eq-eqb (bad_name [] (cut (lengths b) (letters b))) (M b) a.distinct)

  -- what is not refused passes each test
  module _ (n : (r : Refusal) → parts b ≡ refused r → ⊥) where
    long-enough : 12 ≤ length b
    long-enough = let h : length b < 12 → ⊥ = λ u. n Refusal.Short (short b u) in omega arith

    read : SizesRead b (M b) (L b) (T b)
    read = record { names = refl; letters = refl; tokens = refl }

    few-names : M b ≤ 1024
    few-names = let h : 1024 < M b → ⊥ = λ u. n (Refusal.Size 0) (many-names read long-enough u) in omega arith

    few-letters : L b ≤ 16384
    few-letters = let h : 16384 < L b → ⊥ = λ u. n (Refusal.Size 1) (many-letters read long-enough few-names u) in omega arith

    tokens-least : 2 ≤ T b
    tokens-least = let h : T b < 2 → ⊥ = λ u. n (Refusal.Size 2) (few-tokens read long-enough few-names few-letters u) in omega arith

    tokens-most : T b ≤ 4096
    tokens-most = let h : 4096 < T b → ⊥ = λ u. n (Refusal.Size 2) (many-tokens read long-enough few-names few-letters tokens-least u) in omega arith

    right-length : length b ≡ 12 + M b + L b + 5 * T b
    right-length = stable (length b) (12 + M b + L b + 5 * T b) (λ u. n Refusal.Length (other_length read long-enough few-names few-letters tokens-least tokens-most u))

    right-sizes : SizedParts b (sizes_of b)
    right-sizes = sized read long-enough few-names few-letters tokens-least tokens-most right-length

    sum-right : sum (lengths b) ≡ L b
    sum-right = stable (sum (lengths b)) (L b) (λ u. n (Refusal.Name (M b)) (other-sum right-sizes u))

    names-right : bad_name [] (cut (lengths b) (letters b)) ≡ M b
    unfolding names_checked
    names-right = stable (bad_name [] (cut (lengths b) (letters b))) (M b) (λ u. n (Refusal.Name (bad_name [] (cut (lengths b) (letters b)))) (names-left right-sizes ∙ rw (eq-eqb (sum (lengths b)) (L b) sum-right, ne_eqb (bad_name [] (cut (lengths b) (letters b))) (M b) u)))

    pub not-refused : Accepted b
    not-refused = record { sized = right-sizes; summed = sum-right; distinct = names-right }

  pub accepted-only : (p : Parts) → parts b ≡ accepted p → Accepted b
  accepted-only p e = not-refused (λ r. other (parts b) r p e)

  -- the parts of an accepted sheet are those at the places that its sizes say
  pub accepted-parts : (p : Parts) → parts b ≡ accepted p → p ≡ parts_of b
  accepted-parts p e = let f : parts b ≡ accepted (parts_of b) = accepted-is (accepted-only p e) in cc

  never-faulty : (l : List FaultRecord) → parts b ≡ faulty l → ⊥
  never-faulty l e = let f : parts b ≡ accepted (parts_of b) = accepted-is (not-refused (λ r. no-fault (parts b) r l e)) in cc

  -- the code's answer tells the definition's
  pub answer-told : told_of (parts_answer b) ≡ told (parts b)
  unfolding parts_answer
  answer-told = go (parts b)
    where
      go : (a : Answer Parts) → told_of (answered a b) ≡ told a
      go (accepted p) = refl
      go (refused r) = refl
      go (faulty l) = refl

  pub answer-refused : (r : Refusal) → Err r ≡ parts_answer b → parts b ≡ refused r
  unfolding parts_answer
  answer-refused r e = go (parts b) refl e
    where
      go : (a : Answer Parts) → parts b ≡ a → Err r ≡ answered a b → parts b ≡ refused r
      go (accepted p) f g = absurd cc
      go (refused q) f g = cc
      go (faulty l) f g = absurd (never-faulty l f)

  module _ (s : Sizes) (e : Ok s ≡ parts_answer b) where
    pub answer-accepted : Accepted b
    unfolding parts_answer
    answer-accepted = not-refused (λ r f. let g : Ok s ≡ Err r = e ∙ rw f in cc)

    pub answer-sizes : s ≡ sizes_of b
    answer-sizes = let f : Ok (sizes_of b) ≡ parts_answer b = accepted-answer b (parts_of b) (accepted-is answer-accepted) in cc

    pub answer-sized : SizedParts b s
    answer-sized = rw answer-sizes answer-accepted.sized

    pub answer-parts : parts b ≡ accepted (parts_of b)
    answer-parts = accepted-is answer-accepted

    -- the working arrays
    module _ (lent : List ℕ) (l : length lent ≡ 4096) where
      pub values-left : length (take (length b - (12 + s.names + s.letters + s.tokens)) (drop (12 + s.names + s.letters + s.tokens) b)) ≡ 4 * length (take s.tokens lent)
      values-left = let f = fit answer-sized in words-left b lent (12 + s.names + s.letters + s.tokens) s.tokens (omega (arith, f)) (omega (arith, f, l))

      pub tags-over : (out : List ℕ) → out ≡ take s.tokens (drop (12 + s.names + s.letters) b) → out ++ drop s.tokens lent ≡ tags_after (parts b) b lent
      tags-over out e =
          let f = fit answer-sized in
          tags-copied b lent out (12 + s.names + s.letters) s.tokens (omega (arith, f)) (omega (arith, f, l)) e ∙ rw (answer-parts, tags-part answer-sized)

      pub values-over : (out : List ℕ) → out ≡ four_byte_words (take (length b - (12 + s.names + s.letters + s.tokens)) (drop (12 + s.names + s.letters + s.tokens) b))
          → out ++ drop s.tokens lent ≡ values_after (parts b) b lent
      values-over out e =
          let f = fit answer-sized in
          words-copied b lent (12 + s.names + s.letters + s.tokens) s.tokens (omega (arith, f)) (omega (arith, f, l)) out e ∙ rw (answer-parts, values-part answer-sized)

  pub sized-answer : (r : Result Sizes Refusal) → r ≡ parts_answer b → IfOk r (SizedParts b)
  sized-answer (Ok s) e = answer-sized s e
  sized-answer (Err r) e = tt

  module _ (r : Refusal) (e : Err r ≡ parts_answer b) where
    pub tags-kept : (lent : List ℕ) → lent ≡ tags_after (parts b) b lent
    tags-kept lent = rw (answer-refused r e)

    pub values-kept : (lent : List ℕ) → lent ≡ values_after (parts b) b lent
    values-kept lent = rw (answer-refused r e)
