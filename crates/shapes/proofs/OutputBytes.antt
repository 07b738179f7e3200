-- What is written consists of bytes, where the names do; the input's names and the output's do: `written-bytes`, `out-bytes`.
use mathlib.Core.Path.{◌≡◌, refl, subst}
use mathlib.Core.Bool.{Bool, true, false, not, ◌&&◌, ◌||◌}
use mathlib.Core.List.Memᴰ
use mathlib.Core.List.{List, [], ◌∷◌, ◌++◌, map}
use Prim.Native.Nat.{ℕ, zero, suc, ◌+◌, ◌/◌, ◌%◌, ◌^◌, ◌<◌, ◌≤◌}
use native.Mathlib.Omega.{arith}
use lib.Dec.{ltb, leb, eqb}
use lib.ListN.{length, get_or, length-append}
use Rattle.std.proofs.lemmas.Bool.{eqb-true, leb-true, ltb-true, and_parts}
use Rattle.definitions.specs.declared.Primitive.{Primitive}
use Rattle.definitions.specs.declared.Literal.{Literal}
use Rattle.definitions.specs.declared.NodeKind.{NodeKind}
use Rattle.definitions.specs.declared.TypeToken.{TypeToken}
use Rattle.definitions.specs.declared.DefinitionToken.{DefinitionToken}
use Rattle.definitions.specs.declared.ExprToken.{ExprToken}
use Rattle.definitions.specs.declared.Token.{Token}
use Rattle.definitions.specs.Lists.{choose, any, all, keep, join, up_from, Letters, same_letters, digits, decimal, bytes}
use Rattle.definitions.specs.Tokens.{TagValue, code_of, tag_of}
use Rattle.definitions.specs.Tree.{Equation, Node, Sheet}
use Rattle.definitions.specs.Refusals.{accepted}
use Rattle.definitions.specs.Bytes.{longest_name, is_letter, is_digit, well_formed, bad_name}
use Rattle.definitions.specs.InferClocks.{uses_clocks}
use Rattle.definitions.specs.Declock.{State, Stem, ck, first, hold, declared, Rewritten, stopped, done, new_locals}
use Rattle.definitions.specs.Output.{word_bytes, sheet_bytes, written, sheet_tokens, stem_letters, add_name, add_names, letters_of, new_letters, ClockedNode, rewritten, with_names_of, with_new_names, output_names, names_out, sheet_out}
use Rattle.definitions.specs.Answer.{Input, input}
use Rattle.shapes.proofs.Facts.{All, all_nil, all_cons, all_app}
use Rattle.shapes.proofs.Source.{read-facts}
use Rattle.shapes.specs.Shape.{Bytes}

abbrev Byte : ℕ → Type 0
Byte b = b < 256

-- a name that the format can say: its length is a byte, and its letters are
abbrev pub SpelledName : Letters → Type 0
SpelledName l = (length l < 256) × Bytes l

-- tags are bytes
primitive-tag : (p : Primitive) → Byte (tag_of (Token.Type (TypeToken.Basic p)))
unfolding code_of
primitive-tag Primitive.Bool = omega arith
primitive-tag Primitive.Int8 = omega arith
primitive-tag Primitive.Int16 = omega arith
primitive-tag Primitive.Int32 = omega arith
primitive-tag Primitive.Int64 = omega arith
primitive-tag Primitive.Uint8 = omega arith
primitive-tag Primitive.Uint16 = omega arith
primitive-tag Primitive.Uint32 = omega arith
primitive-tag Primitive.Uint64 = omega arith
primitive-tag Primitive.Float32 = omega arith
primitive-tag Primitive.Float64 = omega arith
primitive-tag Primitive.Char = omega arith

expr-tag : (h : ExprToken) → Byte (tag_of (Token.Expression h))
unfolding code_of
expr-tag (ExprToken.Const (Literal.Bool v)) = omega arith
expr-tag (ExprToken.Const (Literal.Int v)) = omega arith
expr-tag (ExprToken.Const (Literal.Float v)) = omega arith
expr-tag (ExprToken.Const (Literal.Char v)) = omega arith
expr-tag (ExprToken.Var x) = omega arith
expr-tag (ExprToken.Unary o) = omega arith
expr-tag (ExprToken.Binary o) = omega arith
expr-tag ExprToken.If = omega arith
expr-tag ExprToken.Pre = omega arith
expr-tag ExprToken.Arrow = omega arith
expr-tag (ExprToken.Call f) = omega arith
expr-tag (ExprToken.Field x) = omega arith
expr-tag ExprToken.Index = omega arith
expr-tag ExprToken.Tuple = omega arith
expr-tag ExprToken.Array = omega arith
expr-tag (ExprToken.Struct x) = omega arith
expr-tag ExprToken.Cast = omega arith
expr-tag (ExprToken.When x) = omega arith
expr-tag (ExprToken.WhenNot x) = omega arith
expr-tag (ExprToken.Merge x) = omega arith
expr-tag (ExprToken.Map f) = omega arith
expr-tag (ExprToken.Fold f) = omega arith

tag-byte : (t : Token) → Byte (tag_of t)
unfolding code_of
tag-byte (Token.Types n) = omega arith
tag-byte (Token.Nodes n) = omega arith
tag-byte (Token.Count n) = omega arith
tag-byte (Token.Name x) = omega arith
tag-byte (Token.High w) = omega arith
tag-byte (Token.Definition (DefinitionToken.Enum x)) = omega arith
tag-byte (Token.Definition (DefinitionToken.Record x)) = omega arith
tag-byte (Token.Definition (DefinitionToken.Alias x)) = omega arith
tag-byte (Token.Type (TypeToken.Basic p)) = primitive-tag p
tag-byte (Token.Type (TypeToken.Array n)) = omega arith
tag-byte (Token.Type (TypeToken.Named x)) = omega arith
tag-byte (Token.Node x) = omega arith
tag-byte (Token.Kind NodeKind.Function) = omega arith
tag-byte (Token.Kind NodeKind.Operator) = omega arith
tag-byte (Token.Kind NodeKind.Imported) = omega arith
tag-byte (Token.Expression h) = expr-tag h

-- the four bytes of a word are bytes
word-bytes : (n : ℕ) → Bytes (word_bytes n)
word-bytes n = all_cons Byte _ _ (rest n) (all_cons Byte _ _ (rest (n / 2 ^ 8)) (all_cons Byte _ _ (rest (n / 2 ^ 16)) (all_cons Byte _ _ (rest (n / 2 ^ 24)) (all_nil Byte))))
  where
    rest : (n : ℕ) → n % 256 < 256
    rest n = omega arith

join-bytes : (ls : List (List ℕ)) → All Bytes ls → Bytes (join ls)
join-bytes [] h = all_nil Byte
join-bytes (l ∷ ls) h = all_app Byte l (join ls) (h l (Memᴰ.head refl)) (join-bytes ls (λ x m. h x (Memᴰ.tail m)))

tags-bytes : (ts : List Token) → Bytes (map (λ k. k.tag) (map code_of ts))
tags-bytes [] = all_nil Byte
tags-bytes (t ∷ ts) = all_cons Byte (tag_of t) _ (tag-byte t) (tags-bytes ts)

values-bytes : (ts : List TagValue) → Bytes (join (map (λ k. word_bytes k.value) ts))
values-bytes [] = all_nil Byte
values-bytes (t ∷ ts) = all_app Byte (word_bytes t.value) _ (word-bytes t.value) (values-bytes ts)

pub written-bytes : (names : List Letters) (s : Sheet) → All SpelledName names → Bytes (written names s)
unfolding written sheet_bytes
written-bytes names s h =
    all_app Byte (word_bytes (length names)) _ (word-bytes (length names))
    (all_app Byte (word_bytes (length (join names))) _ (word-bytes (length (join names)))
    (all_app Byte (word_bytes (length (map code_of (sheet_tokens s)))) _ (word-bytes (length (map code_of (sheet_tokens s))))
    (all_app Byte (map length names) _ lengths
    (all_app Byte (join names) _ (join-bytes names (λ l m. (h l m).1))
    (all_app Byte (map (λ k. k.tag) (map code_of (sheet_tokens s))) _ (tags-bytes (sheet_tokens s)) (values-bytes (map code_of (sheet_tokens s))))))))
  where
    lengths : Bytes (map length names)
    lengths x m = let r = Memᴰ.of_map length names m in subst Byte r.2 (h r.0 r.1).0

-- a well-formed name
letter-byte : (b : ℕ) → is_letter b ≡ true → Byte b
letter-byte b e = go (leb 65 b && leb b 90) (leb 97 b && leb b 122) refl refl e
  where
    go : (u v : Bool) → (leb 65 b && leb b 90) ≡ u → (leb 97 b && leb b 122) ≡ v → (u || v || eqb b 95) ≡ true → Byte b
    go true v p q r = let l = leb-true b 90 (and_parts (leb 65 b) (leb b 90) p).1 in omega arith
    go false true p q r = let l = leb-true b 122 (and_parts (leb 97 b) (leb b 122) q).1 in omega arith
    go false false p q r = let l = eqb-true b 95 r in omega arith

letters-bytes : (l : Letters) → all (λ d. is_letter d || is_digit d) l ≡ true → Bytes l
letters-bytes [] e = all_nil Byte
letters-bytes (b ∷ l) e = all_cons Byte b l (go (is_letter b) refl (and_parts (is_letter b || is_digit b) _ e).0) (letters-bytes l (and_parts (is_letter b || is_digit b) _ e).1)
  where
    go : (u : Bool) → is_letter b ≡ u → (u || is_digit b) ≡ true → Byte b
    go true p q = letter-byte b p
    go false p q = let l = leb-true b 57 (and_parts (leb 48 b) (leb b 57) q).1 in omega arith

well-formed-spelled : (l : Letters) → well_formed l ≡ true → SpelledName l
unfolding well_formed
well-formed-spelled [] e = (omega arith, all_nil Byte)
well-formed-spelled (b ∷ l) e =
    let p = (and_parts (is_letter b && all (λ d. is_letter d || is_digit d) l) (ltb (length l) longest_name) e).0 in
    let q = ltb-true (length l) longest_name (and_parts (is_letter b && all (λ d. is_letter d || is_digit d) l) (ltb (length l) longest_name) e).1 in
    (omega arith, all_cons Byte b l (letter-byte b (and_parts (is_letter b) _ p).0) (letters-bytes l (and_parts (is_letter b) _ p).1))

good-spelled : (earlier names : List Letters) → bad_name earlier names ≡ length names → All SpelledName names
unfolding bad_name
good-spelled earlier [] e = all_nil SpelledName
good-spelled earlier (n ∷ names) e = go (well_formed n) (not (any (same_letters n) earlier)) refl e (λ q. good-spelled (n ∷ earlier) names q)
  where
    go : (u v : Bool) → well_formed n ≡ u → choose (u && v) (suc (bad_name (n ∷ earlier) names)) 0 ≡ suc (length names) → (bad_name (n ∷ earlier) names ≡ length names → All SpelledName names) → All SpelledName (n ∷ names)
    go true true p q ih = all_cons SpelledName n names (well-formed-spelled n p) (ih (omega arith))
    go true false p q ih = absurd (omega arith)
    go false v p q ih = absurd (omega arith)

-- new names
tested : (l : Letters) → all (λ b. ltb b 256) l ≡ true → Bytes l
tested [] e = all_nil Byte
tested (b ∷ l) e = all_cons Byte b l (ltb-true b 256 (and_parts (ltb b 256) _ e).0) (tested l (and_parts (ltb b 256) _ e).1)

-- bytes, at most so many
abbrev AtMost : ℕ → Letters → Type 0
AtMost n l = Bytes l × (length l ≤ n)

digits-spelled : (k n : ℕ) (l : Letters) → Bytes l → AtMost (k + length l) (digits k n l)
unfolding digits
digits-spelled zero n l h = (h, omega arith)
digits-spelled (suc k) n l h = go (ltb n 10) refl (digits-spelled k (n / 10) ((48 + (n % 10)) ∷ l) (all_cons Byte _ l (omega arith) h))
  where
    go : (u : Bool) → ltb n 10 ≡ u → AtMost (k + suc (length l)) (digits k (n / 10) ((48 + (n % 10)) ∷ l)) → AtMost (suc k + length l) (elim u as (λ x. Letters) [ true ↦ (48 + n) ∷ l | false ↦ digits k (n / 10) ((48 + (n % 10)) ∷ l) ])
    go true e ih = let p = ltb-true n 10 e in (all_cons Byte (48 + n) l (omega arith) h, omega arith)
    go false e ih = let p = ih.1 in (ih.0, omega arith)

numbered-spelled : (l : Letters) (n : ℕ) → Bytes l → length l ≤ 7 → SpelledName (l ++ decimal n)
unfolding decimal
numbered-spelled l n h s =
    let d = digits-spelled 20 n [] (all_nil Byte) in
    let p = d.1 in
    let q = length-append l (digits 20 n []) in
    (omega arith, all_app Byte l (digits 20 n []) h d.0)

stem-bytes : (stem : Stem) → AtMost 7 (stem_letters stem)
unfolding bytes
stem-bytes ck = (tested (stem_letters ck) refl, leb-true 4 7 refl)
stem-bytes first = (tested (stem_letters first) refl, leb-true 7 7 refl)
stem-bytes hold = (tested (stem_letters hold) refl, leb-true 6 7 refl)

new-spelled : (names : List Letters) (n : Node) (stem : Stem) (j : ℕ) → SpelledName (new_letters names n stem j)
unfolding new_letters
new-spelled names n stem j =
    let taken : List Letters = map (λ d. letters_of names d.name) (declared n) in
    let free : ℕ → Bool = λ k. not (any (same_letters (stem_letters stem ++ decimal k)) taken) in
    let s = stem-bytes stem in
    numbered-spelled (stem_letters stem) (get_or (keep free (up_from 0 (length taken + suc j))) j 0) s.0 s.1

-- names that are added
add-spelled : (names : List Letters) (l : Letters) → All SpelledName names → SpelledName l → All SpelledName (add_name names l)
add-spelled names l h s = go (any (same_letters l) names)
  where
    go : (u : Bool) → All SpelledName (choose u names (names ++ (l ∷ [])))
    go true = h
    go false = all_app SpelledName names (l ∷ []) h (all_cons SpelledName l [] s (all_nil SpelledName))

adds-spelled : (names ls : List Letters) → All SpelledName names → All SpelledName ls → All SpelledName (add_names names ls)
adds-spelled names [] h s = h
adds-spelled names (l ∷ ls) h s = adds-spelled (add_name names l) ls (add-spelled names l h (s l (Memᴰ.head refl))) (λ x m. s x (Memᴰ.tail m))

module _ (names : List Letters) (sheet : Sheet) where
  of-spelled : (all : List Letters) (n : Node) (s : State) → All SpelledName all → All SpelledName (with_names_of names sheet all n s)
  unfolding new_letters new_locals bytes
  of-spelled all n s h =
      let ls : List Letters = map (λ l. new_letters names n l.stem l.number) (new_locals (letters_of names) (λ stem j. 0) s) in
      more (add_names all ls) s.condact (adds-spelled all ls h (λ x m. let r = Memᴰ.of_map (λ l. new_letters names n l.stem l.number) (new_locals (letters_of names) (λ stem j. 0) s) m in subst SpelledName r.2 (new-spelled names n r.0.stem r.0.number)))
    where
      more : (a : List Letters) (u : Bool) → All SpelledName a → All SpelledName (choose u (add_name a (bytes "condact")) a)
      more a true g = add-spelled a (bytes "condact") g (ltb-true 7 256 refl, tested (bytes "condact") refl)
      more a false g = g

  with-spelled : (all : List Letters) (n : ClockedNode) → All SpelledName all → All SpelledName (with_new_names names sheet all n)
  unfolding with_new_names
  with-spelled all n h = go (uses_clocks n.node) (rewritten names sheet names n)
    where
      go : (u : Bool) (r : Rewritten (List Equation)) → All SpelledName (choose u (elim r as (λ x. List Letters) [ stopped f ↦ all | done es s ↦ with_names_of names sheet all n.node s ]) all)
      go false r = h
      go true (stopped f) = h
      go true (done es s) = of-spelled all n.node s h

  names-spelled : (all : List Letters) (ns : List ClockedNode) → All SpelledName all → All SpelledName (output_names names sheet all ns)
  unfolding output_names
  names-spelled all [] h = h
  names-spelled all (n ∷ ns) h = names-spelled (with_new_names names sheet all n) ns (with-spelled all n h)

  pub out-spelled : (ns : List ClockedNode) → All SpelledName names → All SpelledName (names_out names sheet ns)
  unfolding names_out
  out-spelled ns h = names-spelled names ns h

-- the output's bytes are bytes
pub out-bytes : (given : List ℕ) → Bytes given → (r : Input) → input given ≡ accepted r → (ns : List ClockedNode) → Bytes (written (names_out r.names r.sheet ns) (sheet_out r.names r.sheet ns))
out-bytes given h r e ns = written-bytes (names_out r.names r.sheet ns) (sheet_out r.names r.sheet ns) (out-spelled r.names r.sheet ns (good-spelled [] r.names (read-facts given h r e).good-names))
