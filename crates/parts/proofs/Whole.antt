-- The bytes of a whole sheet, as the code writes them.
use Prim.Native.Nat.{ℕ, ◌+◌, ◌-◌, ◌*◌, ◌≤◌, ◌<◌}
use mathlib.Core.Path.{◌≡◌, refl, sym, ap, ◌∙◌}
use mathlib.Core.List.{List, [], ◌∷◌, ◌++◌, map, append_assoc}
use native.Mathlib.Omega.{arith}
use lib.ListN.{length, drop, length-append}
use lib.Seq.{sets}
use borrow.Rule.Slice.PartMut.{put_mid}
use borrow.Author.Tests.{le-leb, lt-leb}
use Rattle.definitions.specs.Lists.{sum, join, over}
use Rattle.definitions.specs.Bytes.{cut, tokens}
use Rattle.definitions.specs.Output.{word_bytes, sheet_bytes}
use Rattle.std.specs.Prelude.{Ok, Err}
use Rattle.definitions.specs.declared.Refusal.{Refusal}
use Rattle.parts.specs.declared.naming.Names.{Names}
use Rattle.parts.specs.Bytes.{plain_bytes, written_answer, written_bytes}
use Rattle.parts.proofs.Stores.{sets_over, part-put, words_long}
use Rattle.parts.proofs.Words.{bytes_over}
use Rattle.parts.proofs.Cuts.{cut-count, cut-lengths, cut-join, tokens-count, tokens-tags, tokens-words}

module _ (ns ls ts vs : List ℕ) where
  pub plain : sum ns ≡ length ls → length ts ≡ length vs → sheet_bytes (cut ns ls) (tokens ts vs) ≡ plain_bytes ns ls ts vs
  unfolding sheet_bytes plain_bytes
  plain s p = rw (cut-count ns ls, cut-join ns ls s, cut-lengths ns ls s, tokens-count ts vs p, tokens-tags ts vs p, tokens-words ts vs p)

  pub plain-long : length (plain_bytes ns ls ts vs) ≡ 12 + length ns + length ls + length ts + 4 * length vs
  unfolding plain_bytes
  plain-long = simp (length-append) (omega (arith, words_long vs))

-- a sheet of the names of a struct
module _ (names : Names) (ts vs : List ℕ) (p : length ts ≡ length vs) where
  abbrev pub ns : List ℕ
  ns = names.lengths.now

  abbrev pub ls : List ℕ
  ls = names.letters.now

  -- the code's five stores are the sheet
  pub sheet-stored : (o f n l t w : List ℕ) → 12 + length ns + length ls + length ts + 4 * length vs ≤ length o →
      f ≡ join (map word_bytes (length ns ∷ length ls ∷ length ts ∷ [])) → n ≡ ns → l ≡ ls → t ≡ ts → w ≡ join (map word_bytes vs) →
      put_mid (12 + length ns + length ls + length ts) (12 + length ns + length ls + length ts + 4 * length vs - (12 + length ns + length ls + length ts))
      (put_mid (12 + length ns + length ls) (12 + length ns + length ls + length ts - (12 + length ns + length ls))
      (put_mid (12 + length ns) (12 + length ns + length ls - (12 + length ns)) (put_mid 12 (12 + length ns - 12) (f ++ drop 12 o) n) l) t) w
      ≡ over (sheet_bytes (cut ns ls) (tokens ts vs)) o
  unfolding plain_bytes
  sheet-stored o f n l t w h e₁ e₂ e₃ e₄ e₅ =
      let front = join (map word_bytes (length ns ∷ length ls ∷ length ts ∷ [])) in
      let a₁ : f ++ drop 12 o ≡ sets o 0 front = rw e₁ (bytes_over o front (omega arith)) ∙ sym (sets_over o front) in
      let a₂ = part-put o (f ++ drop 12 o) front ns n 12 (12 + length ns - 12) a₁ refl (omega arith) (omega arith) e₂ in
      let a₃ = part-put o _ (front ++ ns) ls l (12 + length ns) (12 + length ns + length ls - (12 + length ns)) a₂ (omega arith) (omega arith) (omega arith) e₃ in
      let a₄ = part-put o _ ((front ++ ns) ++ ls) ts t (12 + length ns + length ls) (12 + length ns + length ls + length ts - (12 + length ns + length ls)) a₃ (simp length-append (omega arith)) (omega arith) (omega arith) e₄ in
      let a₅ = part-put o _ (((front ++ ns) ++ ls) ++ ts) (join (map word_bytes vs)) w (12 + length ns + length ls + length ts) (12 + length ns + length ls + length ts + 4 * length vs - (12 + length ns + length ls + length ts)) a₄ (simp length-append (omega arith)) (omega (arith, words_long vs)) (omega (arith, words_long vs)) e₅ in
      let w₀ = join (map word_bytes vs) in
      let g : (((front ++ ns) ++ ls) ++ ts) ++ w₀ ≡ plain_bytes ns ls ts vs = append_assoc ((front ++ ns) ++ ls) ts w₀ ∙ (append_assoc (front ++ ns) ls (ts ++ w₀) ∙ append_assoc front ns (ls ++ (ts ++ w₀))) in
      a₅ ∙ (ap (sets o 0) g ∙ (sets_over o (plain_bytes ns ls ts vs) ∙ ap (λ (b : List ℕ). over b o) (sym (plain ns ls ts vs names.whole p))))

  pub sheet-long : length (sheet_bytes (cut ns ls) (tokens ts vs)) ≡ 12 + length ns + length ls + length ts + 4 * length vs
  sheet-long = ap length (plain ns ls ts vs names.whole p) ∙ plain-long ns ls ts vs

-- the answers
module _ (b lent : List ℕ) (n : ℕ) (e : length b ≡ n) where
  pub enough : n ≤ length lent → Ok n ≡ written_answer b lent
  unfolding written_answer
  enough h = rw (e, le-leb n (length lent) h)

  pub too_few : length lent < n → Err (Refusal.Lent n) ≡ written_answer b lent
  unfolding written_answer
  too_few h = rw (e, lt-leb n (length lent) h)

  pub filled : n ≤ length lent → over b lent ≡ written_bytes b lent
  unfolding written_bytes
  filled h = rw (e, le-leb n (length lent) h)

  pub untouched : length lent < n → lent ≡ written_bytes b lent
  unfolding written_bytes
  untouched h = rw (e, lt-leb n (length lent) h)
