-- Laws on a table of names that grows.
use Prim.Native.Nat.{ℕ, suc, ◌+◌, ◌-◌, ◌≤◌, ◌<◌}
use mathlib.Core.Path.{◌≡◌, refl, sym, ap, ◌∙◌}
use mathlib.Core.Bool.{Bool, true, false, false≢true, ◌&&◌, ◌||◌, not}
use mathlib.Core.List.{List, [], ◌∷◌, ◌++◌}
use mathlib.Core.Logic.{◌⊎◌, inl, inr}
use native.Mathlib.Nat.{zero-add}
use native.Mathlib.Numerals.{add-one}
use native.Mathlib.Omega.{arith}
use lib.Dec.{leb}
use Rattle.std.specs.Prelude.{Option, Some, None, is_some, IfSome}
use Rattle.std.specs.Cmp.Lexicographic.{pointwise}
use Rattle.std.proofs.Common.{nat_eq}
use Rattle.std.specs.Option.{unwrap_or}
use lib.ListN.{length, take, drop, set, length-append, length-drop}
use lib.Seq.{take-length, take-suc-set, length-take-le, take-append-le, drop-append-le}
use borrow.Author.Tests.{le-leb, leb-true}
use Rattle.definitions.specs.Lists.{choose, any, place_by, sum, join, bytes, Letters, same_letters}
use Rattle.definitions.specs.Bytes.{cut}
use Rattle.definitions.specs.Tree.{Sheet}
use Rattle.definitions.specs.Output.{id_of, condact_id, add_name, add_names, within_limits, sheet_tokens, most_tokens_out}
use Rattle.shapes.proofs.Names.{id_below}
use Rattle.parts.proofs.Cuts.{cut-join, cut-count}
use Rattle.spelling.specs.Table.{names_of, within, NamesHeld}
use Rattle.spelling.specs.declared.name_table.NameTable.{NameTable}
use Rattle.spelling.specs.Writing.{over_at}
use Rattle.spelling.proofs.Writing.{over-take}
use Rattle.spelling.proofs.Places.{same-pointwise}

-- ---- lists
sum-append : (a b : List ℕ) → sum (a ++ b) ≡ sum a + sum b
sum-append [] b = sym (zero-add (sum b))
sum-append (x ∷ a) b = omega (arith, sum-append a b)

join_last : (ls : List Letters) (l : Letters) → length (join (ls ++ (l ∷ []))) ≡ length (join ls) + length l
join_last [] l = simp length-append (omega arith)
join_last (x ∷ ls) l = simp length-append (omega (arith, join_last ls l))

-- an item is there where its place is before the end
place_in : {A : Type 0} (p : A → Bool) (l : List A) → place_by p l < length l → any p l ≡ true
place_in p [] h = absurd (omega arith)
place_in p (a ∷ l) h = go (p a) h (place_in p l)
  where
    go : (t : Bool) → choose t 0 (suc (place_by p l)) < suc (length l) → (place_by p l < length l → any p l ≡ true) → (t || any p l) ≡ true
    go true h f = refl
    go false h f = f (omega arith)

place_out : {A : Type 0} (p : A → Bool) (l : List A) → length l ≤ place_by p l → any p l ≡ false
place_out p [] h = refl
place_out p (a ∷ l) h = go (p a) h (place_out p l)
  where
    go : (t : Bool) → suc (length l) ≤ choose t 0 (suc (place_by p l)) → (length l ≤ place_by p l → any p l ≡ false) → (t || any p l) ≡ false
    go true h f = absurd (omega arith)
    go false h f = f (omega arith)

-- a name looked for among those that are left: the first is it, or is not
module _ (n m : Letters) {l left : List Letters} {r : Bool} (s : left ≡ m ∷ l) (e : r ≡ pointwise nat_eq n m) where
  pub id-first : r ≡ true → id_of left n ≡ 0
  id-first f = let t : same_letters n m ≡ true = sym (same-pointwise n m) ∙ sym e ∙ f in rw (s, t) refl

  pub id-later : r ≡ false → id_of left n ≡ suc (id_of l n)
  id-later f = let t : same_letters n m ≡ false = sym (same-pointwise n m) ∙ sym e ∙ f in rw (s, t) refl

-- that of `condact` among names cut out of letters
pub condact-few : (lens letters : List ℕ) (x : ℕ) → x ≡ condact_id (cut lens letters) → length lens ≤ 1024 → x ≤ 1024
condact-few lens letters x e h = omega (arith, id_below (cut lens letters) (bytes "condact"), cut-count lens letters)

-- ---- a place, if there is one
there-within : (o : Option ℕ) (n : ℕ) → IfSome o (λ i. i < n) → is_some o ≡ true → unwrap_or o n < n
there-within None n h e = absurd (false≢true e)
there-within (Some i) n h e = h

none-behind : (o : Option ℕ) (n : ℕ) → is_some o ≡ false → n ≤ unwrap_or o n
none-behind None n e = omega arith
none-behind (Some i) n e = absurd (false≢true (sym e))

-- ---- names cut out of letters
cut-last : (lens letters : List ℕ) (name : Letters) → sum lens ≡ length letters → cut (lens ++ (length name ∷ [])) (letters ++ name) ≡ cut lens letters ++ (name ∷ [])
unfolding cut
cut-last [] [] name e = ap (λ l. l ∷ []) (take-length name)
cut-last [] (b ∷ letters) name e = absurd (omega arith)
cut-last (n ∷ ns) letters name e =
    let h : n ≤ length letters = omega arith in
    let f : sum ns ≡ length (drop n letters) = omega (arith, length-drop n letters) in
    rw (take-append-le n letters name h, drop-append-le n letters name h) (ap (λ l. take n letters ∷ l) (cut-last ns (drop n letters) name f))

-- ---- names that have no places
within-not : (many long : ℕ) (names : List Letters) → (length names ≤ many → length (join names) ≤ long → ⊥) → within many long names ≡ false
within-not many long names h = go (leb (length names) many) (leb (length (join names)) long) refl refl
  where
    go : (t u : Bool) → leb (length names) many ≡ t → leb (length (join names)) long ≡ u → (t && u) ≡ false
    go false u e f = refl
    go true false e f = refl
    go true true e f = absurd (h (leb-true (length names) many e) (leb-true (length (join names)) long f))

-- names that have no places have none with one more
within_more : (many long : ℕ) (names : List Letters) (name : Letters) → within many long names ≡ false → within many long (names ++ (name ∷ [])) ≡ false
within_more many long names name e =
    within-not many long (names ++ (name ∷ []))
    (λ h k.
    let a : length names ≤ many = omega (arith, length-append names (name ∷ [])) in
    let b : length (join names) ≤ long = omega (arith, join_last names name) in
    let f : within many long names ≡ true = rw (le-leb (length names) many a, le-leb (length (join names)) long b) in
    cc)

-- a text at the front is read there
pub over-taken : {A : Type 0} (l s : List A) → length l ≤ length s → take (length l) (over_at 0 l s) ≡ l
over-taken l s h = let e : 0 + length l ≡ length l = omega arith in rw e at (over-take 0 l s (omega arith))

module _ {many long : ℕ} where
  -- ---- what a table holds
  module _ (t : NameTable many long) where
    names-within : t.names ≤ length t.lengths
    names-within = omega (arith, t.few, t.sized.0)

    letters-within : t.used ≤ length t.letters
    letters-within = omega (arith, t.short, t.sized.1)

    -- the letters in use are as many as the lengths say
    pub used : sum (take t.names t.lengths) ≡ length (take t.used t.letters)
    used = t.summed ∙ sym (length-take-le t.used t.letters letters-within)

    pub names-count : length (names_of t) ≡ t.names
    unfolding names_of
    names-count = cut-count (take t.names t.lengths) (take t.used t.letters) ∙ length-take-le t.names t.lengths names-within

    pub names-letters : length (join (names_of t)) ≡ t.used
    unfolding names_of
    names-letters = ap length (cut-join (take t.names t.lengths) (take t.used t.letters) used) ∙ length-take-le t.used t.letters letters-within

  -- ---- a name is added
  -- the lengths say as many letters with one name more
  pub added-sum : (t : NameTable many long) (n : ℕ) → t.names < many → sum (take (t.names + 1) (set t.lengths t.names n)) ≡ t.used + n
  added-sum t n h =
      let f : take (t.names + 1) (set t.lengths t.names n) ≡ take t.names t.lengths ++ (n ∷ []) = rw (add-one t.names) (take-suc-set t.lengths t.names n (omega (arith, h, t.sized.0))) in
      ap sum f ∙ sum-append (take t.names t.lengths) (n ∷ []) ∙ omega (arith, t.summed)

  module _ (t t₁ : NameTable many long) (names : List Letters) (name : Letters) (e : names ≡ names_of t) where
    pub added : t.names < many → length name ≤ long - t.used → t₁.names ≡ t.names + 1 → t₁.used ≡ t.used + length name → t₁.full ≡ false
        → t₁.lengths ≡ set t.lengths t.names (length name) → t₁.letters ≡ over_at t.used name t.letters → NamesHeld t₁ (names ++ (name ∷ []))
    unfolding names_of
    added h k a b c d l =
        let f : take t₁.names t₁.lengths ≡ take t.names t.lengths ++ (length name ∷ []) = rw (a, d, add-one t.names) (take-suc-set t.lengths t.names (length name) (omega (arith, h, t.sized.0))) in
        let g : take t₁.used t₁.letters ≡ take t.used t.letters ++ name = rw (b, l) (over-take t.used name t.letters (omega (arith, k, t.short, t.sized.1))) in
        record {
          kept = λ _. ap (λ x. x ++ (name ∷ [])) e ∙ sym (cut-last (take t.names t.lengths) (take t.used t.letters) name (used t)) ∙ rw (f, g);
          past = λ z. absurd cc;
        }

    -- there is no place for it
    pub not-added : (long - t.used < length name) ⊎ (many ≤ t.names) → t₁.full ≡ true → NamesHeld t₁ (names ++ (name ∷ []))
    not-added h f =
        record {
          kept = λ z. absurd cc;
          past = λ _. within-not many long (names ++ (name ∷ [])) (no h);
        }
      where
        no : (long - t.used < length name) ⊎ (many ≤ t.names) → length (names ++ (name ∷ [])) ≤ many → length (join (names ++ (name ∷ []))) ≤ long → ⊥
        no (inl x) a b = omega (arith, x, b, join_last names name, ap (λ l. length (join l)) e, names-letters t)
        no (inr x) a b = omega (arith, x, a, length-append names (name ∷ []), ap length e, names-count t)

  -- is a name among those in use? its id says it
  module _ (t : NameTable many long) (name : Letters) {r : ℕ} (f : r ≡ id_of (names_of t) name) where
    present : r < t.names → any (same_letters name) (names_of t) ≡ true
    present h = place_in (same_letters name) (names_of t) (omega (arith, names-count t))

    absent : t.names ≤ r → any (same_letters name) (names_of t) ≡ false
    absent h = place_out (same_letters name) (names_of t) (omega (arith, names-count t))

  module _ (name : Letters) {t : NameTable many long} (names : List Letters) (h : NamesHeld t names) where
    -- a full table stays as it is
    pub stays-full : t.full ≡ true → NamesHeld t (add_name names name)
    stays-full e = go (any (same_letters name) names)
      where
        go : (b : Bool) → NamesHeld t (choose b names (names ++ (name ∷ [])))
        go true = h
        go false =
            record {
              kept = λ z. absurd cc;
              past = λ _. within_more many long names name (h.past e);
            }

    -- a name present is not added
    pub stays-there : (o : Option ℕ) → t.full ≡ false → unwrap_or o t.names ≡ id_of (names_of t) name → IfSome o (λ i. i < t.names) → is_some o ≡ true → NamesHeld t (add_name names name)
    stays-there o e f i j =
        let k : unwrap_or o t.names < t.names = there-within o t.names i j in
        let g : any (same_letters name) names ≡ true = ap (λ l. any (same_letters name) l) (h.kept e) ∙ present t name f k in
        rw g h

    -- any other is put behind
    pub goes_on : (o : Option ℕ) {t₁ : NameTable many long} → t.full ≡ false → unwrap_or o t.names ≡ id_of (names_of t) name → is_some o ≡ false
        → ((ns : List Letters) → ns ≡ names_of t → NamesHeld t₁ (ns ++ (name ∷ []))) → NamesHeld t₁ (add_name names name)
    goes_on o e f j m =
        let k : t.names ≤ unwrap_or o t.names = none-behind o t.names j in
        let g : any (same_letters name) names ≡ false = ap (λ l. any (same_letters name) l) (h.kept e) ∙ absent t name f k in
        rw g (m names (h.kept e))

  -- ---- a table of given names
  pub filled : (t₁ : NameTable many long) (given text lens letters : List ℕ) → t₁.names ≡ length given → t₁.used ≡ length text → t₁.full ≡ false
      → t₁.lengths ≡ over_at 0 given lens → t₁.letters ≡ over_at 0 text letters → length given ≤ length lens → length text ≤ length letters → NamesHeld t₁ (cut given text)
  unfolding names_of
  filled t₁ given text lens letters c d e l m h k =
      let f : take t₁.names t₁.lengths ≡ given = rw (c, l) (over-taken given lens h) in
      let g : take t₁.used t₁.letters ≡ text = rw (d, m) (over-taken text letters k) in
      record {
        kept = λ _. sym (rw (f, g));
        past = λ z. absurd cc;
      }

  -- ---- what a table that is not full says of the names
  module _ {t : NameTable many long} {names : List Letters} (h : NamesHeld t names) (e : t.full ≡ false) where
    pub holds-count : length names ≡ t.names
    holds-count = ap length (h.kept e) ∙ names-count t

    pub holds-size : length (join names) ≡ t.used
    holds-size = ap (λ l. length (join l)) (h.kept e) ∙ names-letters t

  -- a table is full exactly where its names have no places
  pub holds-within : {t : NameTable many long} {names : List Letters} → NamesHeld t names → within many long names ≡ not t.full
  holds-within {t} {names} h = go t.full refl
    where
      go : (b : Bool) → t.full ≡ b → within many long names ≡ not b
      go true e = h.past e
      go false e =
          let a : length names ≤ many = omega (arith, holds-count h e, t.few) in
          let b : length (join names) ≤ long = omega (arith, holds-size h e, t.short) in
          rw (le-leb (length names) many a, le-leb (length (join names)) long b)

-- names added one after another: the last one last
pub add-last-name : (names ns : List Letters) (n : Letters) → add_names names (ns ++ (n ∷ [])) ≡ add_name (add_names names ns) n
add-last-name names [] n = refl
add-last-name names (m ∷ ns) n = add-last-name (add_name names m) ns n

-- the table's limits are the output's: refusal 11 is that the table is full, or that there are too many tokens
pub holds-limits : {t : NameTable 1024 16384} {names : List Letters} (s : Sheet) → NamesHeld t names
    → within_limits names s ≡ (not t.full && leb (length (sheet_tokens s)) most_tokens_out)
unfolding within_limits
holds-limits {t} {names} s h = ap (λ b. b && leb (length (sheet_tokens s)) most_tokens_out) (holds-within h)
