-- `input` by its parts, and the front of the working arrays.
-- Assumes nothing.
use Rattle.std.specs.Prelude.{Result, Ok, Err}
use mathlib.Core.Path.{◌≡◌, refl, sym, ◌∙◌, ap}
use mathlib.Core.List.{List, []}
use mathlib.Core.Bool.{Bool, true, false}
use Prim.Native.Nat.{ℕ, ◌≤◌, ◌<◌}
use native.Mathlib.Omega.{arith}
use lib.Dec.{eqb}
use lib.ListN.{length, take}
use borrow.Author.Tests.{eq-eqb, ne_eqb}
use Rattle.definitions.specs.declared.Refusal.{Refusal}
use Rattle.definitions.specs.Lists.{over}
use Rattle.definitions.specs.Tokens.{TagValue}
use Rattle.definitions.specs.Tree.{Sheet}
use Rattle.definitions.specs.Refusals.{Answer, accepted, refused, faulty, Told, fine, down, told, must, ◌>>=◌}
use Rattle.definitions.specs.Reading.{Got, got, rejected}
use Rattle.definitions.specs.Bytes.{Parts, M, T, lengths, letters, tags, values, cut, tokens, parts}
use Rattle.definitions.specs.Grammar.{sheet}
use Rattle.definitions.specs.Types.{first_cycle}
use Rattle.definitions.specs.Answer.{Input, answered, input}
use Rattle.shapes.proofs.Facts.{over-long, over-there}
use Rattle.grammar.specs.Outcome.{outcome}
use Rattle.grammar.proofs.Laws.{next-got, tokens-length}
use Rattle.grammar.proofs.Laws as grammar-laws
use Rattle.grammar.proofs.Got.{sheet-got}
use Rattle.parts.specs.declared.Sizes.{Sizes}
use Rattle.parts.specs.declared.TokenArrays.{TokenArrays}
use Rattle.parts.specs.Answers.{parts_of, parts_answer, tags_after, values_after, SizedParts}
use Rattle.parts.proofs.Laws.{answer-refused, answer-sizes, answer-sized, answer-parts, names-told, tokens-told, lengths-long, tags-long, values-long}
use Rattle.parts.proofs.Cuts.{cut-count}
use Rattle.sheet.specs.Answers.{tokens_answer, checked_told, sheet_answered, Stands, SheetRead}

-- ---- refusals 5 to 7
module _ (names : ℕ) (ts : List TagValue) where
  pub tokens-refused : (r : Result ℕ Refusal) (t : Refusal) → r ≡ outcome (sheet names ts 0) → r ≡ Err t → down t ≡ told (tokens_answer names ts)
  unfolding tokens_answer
  tokens-refused r t e g = rw (grammar-laws.refused (sheet names ts 0) r t e g)

  pub tokens-read : (r : Result ℕ Refusal) (q : ℕ) (c : Result Unit Refusal) → r ≡ outcome (sheet names ts 0) → r ≡ Ok q →
      ((s : Sheet) (q : ℕ) → sheet names ts 0 ≡ got s q → checked_told c ≡ told (tokens_answer names ts)) → checked_told c ≡ told (tokens_answer names ts)
  tokens-read r q c e g h = let n = next-got (sheet names ts 0) r q e g in h n.0 q n.1

  module _ (s : Sheet) (q : ℕ) (g : sheet names ts 0 ≡ got s q) where
    pub no-cycle : first_cycle s.types [] s.types ≡ length s.types → fine ≡ told (tokens_answer names ts)
    unfolding tokens_answer
    no-cycle h = rw g (rw (eq-eqb (first_cycle s.types [] s.types) (length s.types) h))

    pub a-cycle : (c : ℕ) → (c ≡ first_cycle s.types [] s.types) × (c < length s.types) → down (Refusal.Cycle c) ≡ told (tokens_answer names ts)
    unfolding tokens_answer
    a-cycle c h = rw g (rw (ne_eqb (first_cycle s.types [] s.types) (length s.types) (λ z. omega (arith, z, h.0, h.1))) (ap (λ (k : ℕ). down (Refusal.Cycle k)) h.0))

-- ---- refusals 1 to 7
same_test : {A B : Type 0} (t : Bool) (r : Refusal) (a : A) (b : B) → told (must t r >>= λ _. accepted a) ≡ told (must t r >>= λ _. accepted b)
same_test true r a b = refl
same_test false r a b = refl

passed : {A : Type 0} (t : Bool) (r : Refusal) (a b : A) → (must t r >>= λ _. accepted a) ≡ accepted b → a ≡ b
passed true r a b e = cc
passed false r a b e = absurd cc

module _ (b : List ℕ) where
  pub told-refused : (r : Refusal) → parts b ≡ refused r → told (input b) ≡ down r
  unfolding input
  told-refused r e = rw e

  pub not-accepted : (r : Refusal) → parts b ≡ refused r → (i : Input) → input b ≡ accepted i → ⊥
  unfolding input
  not-accepted r e i h = let f : refused r ≡ accepted i = rw e at h in cc

  module _ (p : Parts) (e : parts b ≡ accepted p) where
    pub told-parts : told (input b) ≡ told (tokens_answer (length p.names) p.tokens)
    unfolding input tokens_answer
    told-parts = rw e (go (sheet (length p.names) p.tokens 0))
      where
        go : (x : Got Sheet) →
            told {A = Input} (answered x >>= λ s. must (eqb (first_cycle s.types [] s.types) (length s.types)) (Refusal.Cycle (first_cycle s.types [] s.types)) >>= λ _. accepted (record { names = p.names; sheet = s })) ≡
            told {A = Sheet} (answered x >>= λ s. must (eqb (first_cycle s.types [] s.types) (length s.types)) (Refusal.Cycle (first_cycle s.types [] s.types)) >>= λ _. accepted s)
        go (rejected r) = refl
        go (got s q) = same_test (eqb (first_cycle s.types [] s.types) (length s.types)) _ _ _

    -- the names and the sheet that the definition reads
    pub input-got : (i : Input) → input b ≡ accepted i → (i.names ≡ p.names) × (sheet (length p.names) p.tokens 0 ≡ got i.sheet (length p.tokens))
    unfolding input
    input-got i h = go (sheet (length p.names) p.tokens 0) refl (rw e at h)
      where
        go : (x : Got Sheet) → sheet (length p.names) p.tokens 0 ≡ x →
            (answered x >>= λ s. must (eqb (first_cycle s.types [] s.types) (length s.types)) (Refusal.Cycle (first_cycle s.types [] s.types)) >>= λ _. accepted (record { names = p.names; sheet = s })) ≡ accepted i →
            (i.names ≡ p.names) × (sheet (length p.names) p.tokens 0 ≡ got i.sheet (length p.tokens))
        go (rejected r) f k = absurd cc
        go (got s q) f k =
            let u = passed (eqb (first_cycle s.types [] s.types) (length s.types)) (Refusal.Cycle (first_cycle s.types [] s.types)) (record { names = p.names; sheet = s }) i k in
            let g : sheet (length p.names) p.tokens 0 ≡ got i.sheet q = f ∙ ap (λ (y : Input). got y.sheet q) u in
            let w = sheet-got (length p.names) p.tokens 0 i.sheet q g in
            (sym (ap (λ (y : Input). y.names) u), g ∙ ap (got i.sheet) w.9)

-- an accepted sheet's parts are accepted, and its names are theirs
pub input-parts : (b : List ℕ) (i : Input) → input b ≡ accepted i → (p : Parts) × (parts b ≡ accepted p) × (i.names ≡ p.names)
unfolding input
input-parts b i h = go (parts b) refl
  where
    go : (a : Answer Parts) → parts b ≡ a → (p : Parts) × (parts b ≡ accepted p) × (i.names ≡ p.names)
    go (accepted p) e = (p, e, (input-got b p e i h).0)
    go (refused t) e = absurd (not-accepted b t e i h)
    go (faulty l) e = let f : faulty l ≡ accepted i = rw e at h in absurd cc

-- ---- the front of an array
front : (l lent after : List ℕ) (n most : ℕ) → after ≡ over l lent → length l ≡ n → n ≤ most → length after ≡ most → take n after ≡ l
front l lent after n most e h k m =
    let f : length after ≡ length lent = ap length e ∙ over-long l lent in
    rw (← h, e) (over-there l lent (omega arith))

-- ---- what `read` finds
-- a sheet that is refused by 1 to 4
pub parts-refused : (b ts vs ts' vs' : List ℕ) (r : Refusal) → Err r ≡ parts_answer b → ts' ≡ tags_after (parts b) b ts → vs' ≡ values_after (parts b) b vs → SheetRead b ts vs ts' vs' (Err r)
parts-refused b ts vs ts' vs' r e et ev =
    let f = answer-refused b r e in
    record {
      answer = ap (λ (x : Told). sheet_answered x b) (sym (told-refused b r f));
      tags = et;
      values = ev;
      stands = λ i h. absurd (not-accepted b r f i h);
    }

-- where the parts of a sheet are read, they stand in the arrays
pub record PartsStand (b : List ℕ) (s : Sizes) (lent held : TokenArrays) : Type 0 where
  pub answer : Ok s ≡ parts_answer b
  pub tags : held.tags ≡ tags_after (parts b) b lent.tags
  pub values : held.values ≡ values_after (parts b) b lent.values
  pub long : (length held.tags ≡ 4096) × (length held.values ≡ 4096)

module _ {b : List ℕ} {s : Sizes} {lent held : TokenArrays} (h : PartsStand b s lent held) where
  sized : SizedParts b s
  sized = answer-sized b s h.answer

  is-accepted : parts b ≡ accepted (parts_of b)
  is-accepted = answer-parts b s h.answer

  pub few : (s.names ≤ 1024) × (s.tokens ≤ 4096)
  few = (omega (arith, names-told b s sized, sized.names), omega (arith, tokens-told b s sized, sized.many))

  tags-front : take (T b) held.tags ≡ tags b
  tags-front = front (tags b) lent.tags held.tags (T b) 4096 (h.tags ∙ ap (λ (a : Answer Parts). tags_after a b lent.tags) is-accepted) (tags-long b s sized) (omega (arith, sized.many)) h.long.0

  values-front : take (T b) held.values ≡ values b
  values-front = front (values b) lent.values held.values (T b) 4096 (h.values ∙ ap (λ (a : Answer Parts). values_after a b lent.values) is-accepted) (values-long b s sized) (omega (arith, sized.many)) h.long.1

  names-long : length (cut (lengths b) (letters b)) ≡ M b
  names-long = cut-count (lengths b) (letters b) ∙ lengths-long b s sized

  tokens-long : length (tokens (tags b) (values b)) ≡ T b
  tokens-long = tokens-length (tags b) (values b) (values-long b s sized ∙ sym (tags-long b s sized)) ∙ tags-long b s sized

  stands : (i : Input) → input b ≡ accepted i → Stands b held.tags held.values i
  unfolding parts_of
  stands i a =
      let g = input-got b (parts_of b) is-accepted i a in
      record {
        few-names = sized.names;
        few-tokens = sized.many;
        names = g.0;
        names-count = ap length g.0 ∙ names-long;
        front-tags = tags-front;
        front-values = values-front;
        tags-count = ap length tags-front ∙ tags-long b s sized;
        values-count = ap length values-front ∙ values-long b s sized;
        tree = rw (tags-front, values-front, ← names-long, ← tokens-long) g.1;
      }

  module _ {names : ℕ} (en : names ≡ s.names) (r : Result Unit Refusal) (er : checked_told r ≡ told (tokens_answer names (tokens (take s.tokens held.tags) (take s.tokens held.values)))) where
    told_is : told (input b) ≡ checked_told r
    unfolding parts_of
    told_is =
        told-parts b (parts_of b) is-accepted ∙ sym (er ∙ go names (en ∙ names-told b s sized ∙ sym names-long) s.tokens (tokens-told b s sized))
      where
        go : (m : ℕ) → m ≡ length (cut (lengths b) (letters b)) → (n : ℕ) → n ≡ T b →
            told (tokens_answer m (tokens (take n held.tags) (take n held.values))) ≡ told (tokens_answer (length (cut (lengths b) (letters b))) (tokens (tags b) (values b)))
        go m f n k = rw (f, k, tags-front, values-front)

    pub sheet-accepted : r ≡ Ok tt → SheetRead b lent.tags lent.values held.tags held.values (Ok s)
    sheet-accepted f = record {
      answer = ap Ok (answer-sizes b s h.answer) ∙ ap (λ (x : Told). sheet_answered x b) (sym (told_is ∙ ap checked_told f));
      tags = h.tags;
      values = h.values;
      stands = stands;
    }

    pub sheet-refused : {t : Refusal} → r ≡ Err t → SheetRead b lent.tags lent.values held.tags held.values (Err t)
    sheet-refused f = record {
      answer = ap (λ (x : Told). sheet_answered x b) (sym (told_is ∙ ap checked_told f));
      tags = h.tags;
      values = h.values;
      stands = stands;
    }
