-- What was read is a tree that the format says, and is written back as it came: `read-shaped`, `read-written`, `round_trip`, `read-once`.
use mathlib.Core.Path.{◌≡◌, sym, ap, ◌∙◌, subst}
use mathlib.Core.List.{List, [], map}
use Prim.Native.Nat.{ℕ, ◌≤◌}
use native.Mathlib.Omega.{arith}
use lib.Dec.{eqb}
use lib.ListN.{length, length-map}
use Rattle.definitions.specs.declared.Refusal.{Refusal}
use Rattle.definitions.specs.Lists.{join, Letters}
use Rattle.definitions.specs.Tokens.{TagValue, words, code_of}
use Rattle.definitions.specs.Tree.{Sheet}
use Rattle.definitions.specs.Reading.{Got}
use Rattle.definitions.specs.Grammar.{sheet}
use Rattle.definitions.specs.Refusals.{Answer, accepted}
use Rattle.definitions.specs.Bytes.{most_names, most_letters, most_tokens, bad_name, Parts}
use Rattle.definitions.specs.Types.{first_cycle}
use Rattle.definitions.specs.Output.{sheet_tokens, sheet_bytes, written}
use Rattle.definitions.specs.Answer.{Input, input, answered}
use Rattle.shapes.proofs.Facts.{All}
use Rattle.shapes.proofs.Accepts.{Accepts, accepts, no-refused, accepts-after, accepts-must, is-accepted}
use Rattle.shapes.proofs.Once.{written_once}
use Rattle.shapes.proofs.Gives.{Gives}
use Rattle.shapes.proofs.ReadShape.{sheet-read}
use Rattle.shapes.proofs.ReadBytes.{PartsFacts, parts-facts}
use Rattle.shapes.specs.Shape.{Word, Bytes, ShapedBelow, ShapedSheet, SizedSheet}

-- what is known of a sheet that was read
pub record InputFacts (bytes : List ℕ) (r : Input) : Type 0 where
  -- its names are well formed and distinct, and few; its letters and tokens are few
  pub good-names : bad_name [] r.names ≡ length r.names
  pub few-names : length r.names ≤ most_names
  pub few-letters : length (join r.names) ≤ most_letters
  pub few-tokens : length (sheet_tokens r.sheet) ≤ most_tokens
  -- its ids are its names' places
  pub below : ShapedBelow (length r.names) r.sheet
  pub shaped : ShapedSheet r.sheet
  pub sized : SizedSheet r.names r.sheet
  pub back : written r.names r.sheet ≡ bytes

-- the tokens are read at the number of names, and at all words
answered-facts : (m n : ℕ) → m ≤ n → (ts : List TagValue) → All (λ k. Word k.value) ts → Accepts (λ s. ShapedBelow n s × (map code_of (sheet_tokens s) ≡ ts)) (answered (sheet m ts 0))
answered-facts m n l ts w = go (sheet-read m n l ts w)
  where
    go : {x : Got Sheet} → Gives (λ s q. ShapedBelow n s × (map code_of (sheet_tokens s) ≡ ts)) x → Accepts (λ s. ShapedBelow n s × (map code_of (sheet_tokens s) ≡ ts)) (answered x)
    go Gives.refuses = no-refused
    go (Gives.gives q) = accepts q

both : {A : Type 0} {P Q : A → Type 0} {a : Answer A} → Accepts P a → Accepts Q a → Accepts (λ x. P x × Q x) a
both Accepts.no-refused Accepts.no-refused = Accepts.no-refused
both Accepts.no-faulty Accepts.no-faulty = Accepts.no-faulty
both (Accepts.accepts p) (Accepts.accepts q) = Accepts.accepts (p, q)

whole : (bytes : List ℕ) → Bytes bytes → (p : Parts) → PartsFacts bytes p → (s : Sheet) → ShapedBelow (length p.names) s → ShapedSheet s → map code_of (sheet_tokens s) ≡ p.tokens → InputFacts bytes (record { names = p.names; sheet = s })
unfolding written
whole bytes h p f s b c e =
    let n : length (sheet_tokens s) ≤ most_tokens = subst (λ (z : ℕ). z ≤ most_tokens) (ap length (sym e) ∙ length-map (sheet_tokens s) code_of) f.few-tokens in
    record {
      good-names = f.good-names;
      few-names = f.few-names;
      few-letters = f.few-letters;
      few-tokens = n;
      below = b;
      shaped = c;
      sized = record { names-word = let q = f.few-names in omega arith; letters-word = let q = f.few-letters in omega arith; tokens-word = omega arith };
      back = ap (sheet_bytes p.names) e ∙ f.back h;
    }

input-facts : (bytes : List ℕ) → Bytes bytes → Accepts (InputFacts bytes) (input bytes)
unfolding input
input-facts bytes h = accepts-after _ (parts-facts bytes) (λ p f.
    accepts-after _ (both (answered-facts (length p.names) (length p.names) (omega arith) p.tokens (f.wide h)) (answered-facts (length p.names) words (let q = f.few-names in omega arith) p.tokens (f.wide h))) (λ s u.
    accepts-after _ (accepts-must (eqb (first_cycle s.types [] s.types) (length s.types)) (Refusal.Cycle (first_cycle s.types [] s.types))) (λ _ c.
    accepts (whole bytes h p f s u.0.0 u.1.0 u.0.1))))

-- all of it
pub read-facts : (bytes : List ℕ) → Bytes bytes → (r : Input) → input bytes ≡ accepted r → InputFacts bytes r
read-facts bytes h r e = is-accepted (input bytes) r e (input-facts bytes h)

-- a sheet that was read is a tree that the format can say
pub read-shaped : (bytes : List ℕ) → Bytes bytes → (r : Input) → input bytes ≡ accepted r → ShapedSheet r.sheet × SizedSheet r.names r.sheet
read-shaped bytes h r e = let f = read-facts bytes h r e in (f.shaped, f.sized)

-- one format for source and output: what was read is what the writer writes
pub read-written : (bytes : List ℕ) → Bytes bytes → (r : Input) → input bytes ≡ accepted r → written r.names r.sheet ≡ bytes
read-written bytes h r e = (read-facts bytes h r e).back

-- what was read is read again from its written bytes
pub round_trip : (bytes : List ℕ) → Bytes bytes → (names : List Letters) (s : Sheet) → input bytes ≡ accepted (record { names = names; sheet = s }) → input (written names s) ≡ accepted (record { names = names; sheet = s })
round_trip bytes h names s e = ap input (read-written bytes h (record { names = names; sheet = s }) e) ∙ e

-- and it is the only tree that the format can say with these bytes
pub read-once : (bytes : List ℕ) → Bytes bytes → (r : Input) → input bytes ≡ accepted r → (names : List Letters) (s : Sheet) → ShapedSheet s → SizedSheet names s → written names s ≡ bytes → (names ≡ r.names) × (s ≡ r.sheet)
read-once bytes h r e names s a b q = let f = read-facts bytes h r e in written_once names r.names s r.sheet a b f.shaped f.sized (q ∙ sym f.back)
