-- What follows from `read`'s contract: what the definition accepts is not refused, what it refuses is refused at the same place, and
-- what was written is read again.
-- Assumes nothing.
use Rattle.std.specs.Prelude.{Result, Ok, Err}
use mathlib.Core.Path.{◌≡◌, refl, sym, ◌∙◌, ap}
use mathlib.Core.List.Memᴰ
use mathlib.Core.List.{List, [], ◌∷◌}
use mathlib.Core.Logic.{⊎_elim}
use Prim.Native.Nat.{ℕ, suc, ◌≤◌, ◌<◌}
use native.Mathlib.Omega.{arith}
use lib.ListN.{length, get_or, take}
use Rattle.definitions.specs.declared.Refusal.{Refusal}
use Rattle.definitions.specs.Lists.{Letters}
use Rattle.definitions.specs.Tokens.{TagValue}
use Rattle.definitions.specs.Refusals.{Answer, accepted, refused, faulty, Told, fine, down, told}
use Rattle.definitions.specs.Bytes.{Parts, M, T, tokens}
use Rattle.definitions.specs.Answer.{Input, input}
use Rattle.definitions.specs.Output.{sheet_bytes, written}
use Rattle.parts.specs.declared.Sizes.{Sizes}
use Rattle.parts.specs.Answers.{sizes_of, parts_of, Accepted}
use Rattle.parts.proofs.Laws.{accepted-parts}
use Rattle.parts.proofs.Laws as parts_laws
use Rattle.parts.specs.Bytes.{AllBelow, Within}
use Rattle.parts.proofs.RoundTrip.{read_back, write-back}
use Rattle.shapes.specs.Shape.{Bytes}
use Rattle.shapes.proofs.Source.{read-written}
use Rattle.sheet.specs.Answers.{checked_told, sheet_answered, Stands, SheetRead, TokensRead}
use Rattle.grammar.specs.declared.source.Source.{Source}
use Rattle.sheet.proofs.Laws.{input-parts}

module _ {b ts vs ts' vs' : List ℕ} {r : Result Sizes Refusal} (z : SheetRead b ts vs ts' vs' r) where
  -- the answer tells what the definition's does
  pub answer-told : checked_told r ≡ told (input b)
  answer-told = ap checked_told z.answer ∙ go (told (input b))
    where
      go : (x : Told) → checked_told (sheet_answered x b) ≡ x
      go fine = refl
      go (down t) = refl

  -- what the definition accepts is not refused
  pub accepts : (i : Input) → input b ≡ accepted i → r ≡ Ok (sizes_of b)
  accepts i h = z.answer ∙ ap (λ (a : Answer Input). sheet_answered (told a) b) h

  -- what it refuses is refused, under the same number and at the same place
  pub refuses : (t : Refusal) → input b ≡ refused t → r ≡ Err t
  refuses t h = z.answer ∙ ap (λ (a : Answer Input). sheet_answered (told a) b) h

  -- what is accepted the definition accepts, and the sheet stands in the working arrays
  pub accepted-only : (s : Sizes) → r ≡ Ok s → (i : Input) × (input b ≡ accepted i) × (s ≡ sizes_of b) × Stands b ts' vs' i
  accepted-only s e = go (input b) refl (sym e ∙ z.answer)
    where
      go : (a : Answer Input) → input b ≡ a → Ok s ≡ sheet_answered (told a) b → (i : Input) × (input b ≡ accepted i) × (s ≡ sizes_of b) × Stands b ts' vs' i
      go (accepted i) h k = (i, h, cc, z.stands i h)
      go (refused t) h k = absurd cc
      go (faulty l) h k = absurd cc

  -- refusals 1 to 4 do not apply to what is accepted
  pub accepted-sized : (s : Sizes) → r ≡ Ok s → Accepted b × (s ≡ sizes_of b)
  accepted-sized s e =
      let a = accepted-only s e in
      let p = input-parts b a.0 a.1 in
      (parts_laws.accepted-only b p.0 p.1, a.2)

  -- what is refused is what the definition tells
  pub refused-only : (t : Refusal) → r ≡ Err t → told (input b) ≡ down t
  refused-only t e = sym answer-told ∙ ap checked_told e

  -- the tokens at the front of the working arrays are written back to the bytes that were read
  pub writes-back : AllBelow 256 b → (i : Input) → input b ≡ accepted i → sheet_bytes i.names (tokens (take (T b) ts') (take (T b) vs')) ≡ b
  unfolding parts_of
  writes-back h i e =
      let p = input-parts b i e in
      let q = accepted-parts b p.0 p.1 in
      let s = z.stands i e in
      let f : tokens (take (T b) ts') (take (T b) vs') ≡ p.0.tokens = rw (s.front-tags, s.front-values) (sym (ap (λ (x : Parts). x.tokens) q)) in
      rw (p.2, f) (write-back b p.0 h p.1)

-- a sheet that was read is read again from the bytes that its tree is written to: the same answer, and the same tree stands there
pub read_again : {b ts vs ts' vs' : List ℕ} {r : Result Sizes Refusal} → Bytes b → (i : Input) → input b ≡ accepted i → SheetRead (written i.names i.sheet) ts vs ts' vs' r →
    (r ≡ Ok (sizes_of b)) × Stands b ts' vs' i
read_again {b} {ts} {vs} {ts'} {vs'} {r} h i e z =
    let w : SheetRead b ts vs ts' vs' r = rw (read-written b h i e) at z in
    (accepts w i e, w.stands i e)

-- names and tokens that were written, if the grammar allows them, are read back: the same names, and the same tokens stand there
pub reads-back : {ts vs ts' vs' : List ℕ} {s : Sizes} (names : List Letters) (ks : List TagValue) → Within names ks → SheetRead (sheet_bytes names ks) ts vs ts' vs' (Ok s) →
    (i : Input) × (input (sheet_bytes names ks) ≡ accepted i) × (i.names ≡ names) × (tokens (take s.tokens ts') (take s.tokens vs') ≡ ks)
unfolding parts_of
reads-back {ts} {vs} {ts'} {vs'} {s} names ks w z =
    let a = accepted-only z s refl in
    let q = accepted-parts (sheet_bytes names ks) (record { names = names; tokens = ks }) (read_back names ks w) in
    let t : s.tokens ≡ T (sheet_bytes names ks) = ap (λ (x : Sizes). x.tokens) a.2 in
    let f = a.3 in
    (a.0, a.1, f.names ∙ sym (ap (λ (x : Parts). x.names) q), rw (t, f.front-tags, f.front-values) (sym (ap (λ (x : Parts). x.tokens) q)))

-- ---- a sheet that is read, and its tokens
-- what a slice of bytes has is below 256
pub bytes_below : (l : List ℕ) → ((i : ℕ) → get_or l i 0 < 256) → Bytes l
bytes_below [] h a m = absurd (Memᴰ.not-nil m)
bytes_below (b ∷ l) h a m = ⊎_elim (λ e. let z : b < 256 = h 0 in omega arith) (λ t. bytes_below l (λ i. h (suc i)) a t) (Memᴰ.cases_cons m)

module _ {b : List ℕ} {s : Sizes} (a : Accepted b × (s ≡ sizes_of b)) where
  names-are : s.names ≡ M b
  names-are = ap (λ (k : Sizes). k.names) a.1

  tokens-are : s.tokens ≡ T b
  tokens-are = ap (λ (k : Sizes). k.tokens) a.1

  pub few-parts : (s.tokens ≤ 4096) × (s.names ≤ 1024)
  few-parts = (omega (arith, tokens-are, a.0.sized.many), omega (arith, names-are, a.0.sized.names))

  -- the tokens at the front of the working arrays are the sheet's
  pub tokens-read : (ts vs : List ℕ) (source : Source) → source.tags.now ≡ take s.tokens ts → source.values.now ≡ take s.tokens vs → source.names ≡ s.names →
      Bytes b → (i : Input) → input b ≡ accepted i → Stands b ts vs i → TokensRead b source i
  tokens-read ts vs source et ev en below i h z =
      let n = en ∙ names-are in
      let f = et ∙ ap (λ (k : ℕ). take k ts) tokens-are in
      let g = ev ∙ ap (λ (k : ℕ). take k vs) tokens-are in
      let m : length source.tags.now ≡ T b = ap length f ∙ z.tags-count in
      record {
        are-bytes = below;
        reading = h;
        names = z.names;
        count = n;
        few = omega (arith, m, z.few-tokens);
        tree = rw (n, f, g, z.tags-count) z.tree;
      }
