-- Laws of the table of definitions, and of a definition's parts.
-- Assumes nothing.
use Rattle.std.specs.Prelude.{Result, Ok, Err, Option, Some, None, ◌==◌, nat_lt, cond, position}
use Rattle.std.specs.List.{position_or_len}
use Rattle.std.specs.Result.{result_ok}
use Rattle.std.proofs.lemmas.List.{get_or-take, length-take-le}
use mathlib.Core.Path.{◌≡◌, refl, sym, ◌∙◌, ap, ap₂}
use mathlib.Core.List.{List, [], ◌∷◌}
use mathlib.Core.Bool.{Bool, true, false}
use mathlib.Core.Option.{none, some}
use Prim.Native.Nat.{ℕ, zero, suc, ◌+◌, ◌-◌, ◌≤◌, ◌<◌}
use native.Mathlib.Omega.{arith}
use native.Mathlib.Numerals.{add-one}
use lib.ListN.{length, get_or, set, take}
use lib.Seq.{get_or-set_same, get_or-set_other}
use lib.Dec.{eqb, ltb}
use borrow.Author.Tests.{eqb-true, eqb-false, ltb-true, ltb-false}
use Rattle.definitions.specs.declared.Refusal.{Refusal}
use Rattle.definitions.specs.declared.DefinitionToken.{DefinitionToken}
use Rattle.definitions.specs.declared.Primitive.{Primitive}
use Rattle.definitions.specs.declared.TypeToken.{TypeToken}
use Rattle.definitions.specs.Lists.{choose, find, place_by}
use Rattle.definitions.specs.Tokens.{TagValue, given, type_token_of, definition_token_of}
use Rattle.definitions.specs.Tree.{Ty, TypeDef}
use Rattle.definitions.specs.Reading.{Got, got, rejected, Reader, token, times}
use Rattle.definitions.specs.Grammar.{name, tagged, ty, definition, type_def}
use Rattle.definitions.specs.Bytes.{tokens}
use Rattle.grammar.specs.Outcome.{told}
use Rattle.grammar.proofs.Laws.{told-got, told-refused, after-got, wrap-got, times-length, tokens-length}
use Rattle.grammar.proofs.Longer.{token-got}
use Rattle.grammar.proofs.Got.{definition-got, enum-got, record-got, alias-got, token-value, tagged-value, type-got, primitive-got, named-got, element-got}
use Rattle.layout.specs.declared.Defined.{Defined}
use Rattle.layout.specs.Spans.{Ended, here, later}
use Rattle.layout.specs.Table.{nowhere, def_at, is_named, Found, FoundFirst, Table, Named, Described}

-- what a reading was, by its good answer
pub err-of : {A E : Type 0} (r : Result A E) (o : Option A) → o ≡ result_ok r → o ≡ None → (t : E) × (r ≡ Err t)
err-of (Ok a) o e f = absurd cc
err-of (Err t) o e f = (t, refl)

pub ok-of : {A E : Type 0} (r : Result A E) (o : Option A) (a : A) → o ≡ result_ok r → o ≡ Some a → r ≡ Ok a
ok-of {A} (Ok b) o a e f = let g : ◌≡◌ {A = Option A} (Some b) (Some a) = sym e ∙ f in cc
ok-of (Err t) o a e f = absurd cc

-- a list that a loop fills, one element a turn: of each element so far, with its place, P is known
pub filled-such : (P : ℕ → ℕ → Type 0) (l : List ℕ) (i v : ℕ) → i < length l → ((k : ℕ) → k < i → P k (get_or l k 0)) → P i v → (k : ℕ) → k < i + 1 → P k (get_or (set l i v) k 0)
filled-such P l i v h filled e k b = go (eqb k i) refl
  where
    go : (t : Bool) → eqb k i ≡ t → P k (get_or (set l i v) k 0)
    go true t = let f : k ≡ i = eqb-true k i t in rw f (rw (get_or-set_same l i v 0 h) e)
    go false t = rw (get_or-set_other l i k v 0 (eqb-false k i t)) (filled k (omega (arith, eqb-false k i t)))

-- the same, where the k-th element is to be F k
pub filled_more : (F : ℕ → ℕ) (l : List ℕ) (i v : ℕ) → i < length l → ((k : ℕ) → k < i → get_or l k 0 ≡ F k) → v ≡ F i → (k : ℕ) → k < i + 1 → get_or (set l i v) k 0 ≡ F k
filled_more F l i v h filled e = filled-such (λ k x. x ≡ F k) l i v h filled e

-- one item more is gone through, and its place is in the table
pub further : {E : ℕ → ℕ → Type 0} {p n q r : ℕ} → Ended E p n q → E q r → Ended E p (n + 1) r
further {n = n} o e = rw (add-one n) (later o e)

pub placed-more : {E : ℕ → ℕ → Type 0} {p : ℕ} (l : List ℕ) (i v : ℕ) → i < length l → ((k : ℕ) → k < i → Ended E p k (get_or l k 0)) → Ended E p i v → (k : ℕ) → k < i + 1 → Ended E p k (get_or (set l i v) k 0)
placed-more {E} {p} l i v h filled e = filled-such (λ k x. Ended E p k x) l i v h filled e

-- where a reading that starts at p goes on; p itself, where it is refused
abbrev pub following : {A : Type 0} → Got A → ℕ → ℕ
following (got a q) p = q
following (rejected r) p = p

module _ {A : Type 0} (R : Reader A) (ts : List TagValue) where
  -- the place of the k-th item, where the first stands at p
  unfoldable pub place_at : ℕ → ℕ → ℕ
  place_at p zero = p
  place_at p (suc k) = following (R ts (place_at p k)) (place_at p k)

  shift : (k p : ℕ) → place_at p (suc k) ≡ place_at (following (R ts p) p) k
  unfolding place_at
  shift zero p = refl
  shift (suc k) p = ap (λ (x : ℕ). following (R ts x) x) (shift k p)

  -- each item was read at its place
  pub item : (n k p : ℕ) (l : List A) (q : ℕ) (d : A) → times n R ts p ≡ got l q → k < n → (s : ℕ) × (R ts (place_at p k) ≡ got (get_or l k d) s)
  unfolding times place_at
  item zero k p l q d g h = absurd (omega arith)
  item (suc n) zero p l q d g h =
      let a = after-got (R ts p) _ l q g in
      let b = wrap-got (times n R ts a.1) _ l q a.3 in
      (a.1, a.2 ∙ ap (λ (y : List A). got (get_or y 0 d) a.1) (sym b.2))
  item (suc n) (suc k) p l q d g h =
      let a = after-got (R ts p) _ l q g in
      let b = wrap-got (times n R ts a.1) _ l q a.3 in
      let r = item n k a.1 b.0 q d b.1 (omega arith) in
      let e : following (R ts p) p ≡ a.1 = ap (λ (x : Got A). following x p) a.2 in
      let f : place_at p (suc k) ≡ place_at a.1 k = shift k p ∙ ap (λ (x : ℕ). place_at x k) e in
      (r.0, ap (R ts) f ∙ r.1 ∙ ap (λ (y : List A). got (get_or y (suc k) d) r.0) (sym b.2))

  -- all of them end at the place behind the last
  all-end : (n p : ℕ) (l : List A) (q : ℕ) → times n R ts p ≡ got l q → place_at p n ≡ q
  unfolding times place_at
  all-end zero p l q g = cc
  all-end (suc n) p l q g =
      let a = after-got (R ts p) _ l q g in
      let b = wrap-got (times n R ts a.1) _ l q a.3 in
      let e : following (R ts p) p ≡ a.1 = ap (λ (x : Got A). following x p) a.2 in
      shift n p ∙ ap (λ (x : ℕ). place_at x n) e ∙ all-end n a.1 b.0 q b.1

  -- something was read at each place
  there : (n k p : ℕ) (l : List A) (q : ℕ) → times n R ts p ≡ got l q → k < n → (a : A) × (s : ℕ) × (R ts (place_at p k) ≡ got a s)
  there n k p [] q g h = let m = times-length R ts n p [] q g in absurd (omega arith)
  there n k p (d ∷ l) q g h = let i = item n k p (d ∷ l) q d g h in (get_or (d ∷ l) k d, i.0, i.1)

  -- items that are gone through by where each ends, which is where it was read to end
  module _ (E : ℕ → ℕ → Type 0) (ends : (p r : ℕ) → E p r → (a : A) (s : ℕ) → R ts p ≡ got a s → r ≡ s) (n p : ℕ) (l : List A) (q : ℕ) (g : times n R ts p ≡ got l q) where
    pub ended-at : {k r : ℕ} → Ended E p k r → k ≤ n → r ≡ place_at p k
    unfolding place_at
    ended-at here h = refl
    ended-at (later {n = k} {q = m} {r = r} o e) h =
        let i : m ≡ place_at p k = ended-at o (omega arith) in
        let a = there n k p l q g (omega arith) in
        ends m r e a.0 a.1 (ap (R ts) i ∙ a.2) ∙ sym (ap (λ (x : Got A). following x (place_at p k)) a.2)

    pub ended : (r : ℕ) → Ended E p n r → r ≡ q
    ended r o = ended-at o (omega arith) ∙ all-end n p l q g

-- a table that is filled
pub placed : (M : ℕ) (ts : List TagValue) (places : List ℕ) (n p : ℕ) (types : List TypeDef) (q : ℕ) → ((k : ℕ) → k < n → get_or places k 0 ≡ place_at (type_def M) ts p k) →
    times n (type_def M) ts p ≡ got types q → Table M ts places n types
placed M ts places n p types q filled g = record {
  count = times-length (type_def M) ts n p types q g;
  stands = λ i h. let a = item (type_def M) ts n i p types q nowhere g h in (a.0, ap (type_def M ts) (filled i h) ∙ a.1);
}

-- a definition's first token has its name
abbrev id_of : DefinitionToken → ℕ
id_of (DefinitionToken.Enum x) = x
id_of (DefinitionToken.Record x) = x
id_of (DefinitionToken.Alias x) = x

token-id : (M tag v : ℕ) (h : DefinitionToken) → definition_token_of M tag v ≡ some h → id_of h ≡ v
unfolding definition_token_of
token-id M tag v h e = go (eqb tag 10) (eqb tag 11) (eqb tag 12) (ltb v M) e
  where
    go : (a b c l : Bool) → choose a (given l (DefinitionToken.Enum v)) (choose b (given l (DefinitionToken.Record v)) (choose c (given l (DefinitionToken.Alias v)) none)) ≡ some h → id_of h ≡ v
    go true b c true e = let f : h ≡ DefinitionToken.Enum v = cc in rw f
    go true b c false e = absurd cc
    go false true c true e = let f : h ≡ DefinitionToken.Record v = cc in rw f
    go false true c false e = absurd cc
    go false false true true e = let f : h ≡ DefinitionToken.Alias v = cc in rw f
    go false false true false e = absurd cc
    go false false false l e = absurd cc

-- a definition has the name of its first token
definition-id : (M : ℕ) (ts : List TagValue) (p : ℕ) (h : DefinitionToken) (d : TypeDef) (q : ℕ) → definition M h ts p ≡ got d q → d.name ≡ id_of h
definition-id M ts p (DefinitionToken.Enum x) d q g = ap (λ (y : TypeDef). y.name) (enum-got M ts p x d q g).5
definition-id M ts p (DefinitionToken.Record x) d q g = ap (λ (y : TypeDef). y.name) (record-got M ts p x d q g).5
definition-id M ts p (DefinitionToken.Alias x) d q g = ap (λ (y : TypeDef). y.name) (alias-got M ts p x d q g).2

module _ (M : ℕ) (tags vs : List ℕ) (same_length : length vs ≡ length tags) where
  -- the value at a definition's place is its name
  pub definition-name : (p : ℕ) (d : TypeDef) (q : ℕ) → type_def M (tokens tags vs) p ≡ got d q → get_or vs p 0 ≡ d.name
  definition-name p d q g =
      let a = definition-got M (tokens tags vs) p d q g in
      let k = token-got (definition_token_of M) (tokens tags vs) p a.0 (p + 1) a.1 in
      let t = token-value tags vs same_length p (definition_token_of M) a.0 (p + 1) (omega (arith, k.1, tokens-length tags vs same_length)) a.1 in
      sym (token-id M (get_or tags p 0) (get_or vs p 0) a.0 t.0) ∙ sym (definition-id M (tokens tags vs) (p + 1) a.0 d q a.2)

  -- the value at a name's place is the name
  pub name-value : (p x q : ℕ) → name M (tokens tags vs) p ≡ got x q → x ≡ get_or vs p 0
  unfolding name tagged
  name-value p x q g =
      let k = token-got _ (tokens tags vs) p x q g in
      (tagged-value tags vs same_length p 4 M x q (omega (arith, k.1, tokens-length tags vs same_length)) g).0

  -- where the definitions stand, their names stand
  pub named : (places : List ℕ) (n : ℕ) (types : List TypeDef) → Table M (tokens tags vs) places n types → Named vs places n types
  named places n types t = record {
    count = t.count;
    same = λ i h. let s = t.stands i h in definition-name (get_or places i 0) (def_at types i) s.0 s.1;
  }

-- the first item that passes a test is in the list, or behind its last
pub place-few : {A : Type 0} (p : A → Bool) (l : List A) → place_by p l ≤ length l
place-few p [] = omega arith
place-few p (a ∷ l) = go (p a) (place-few p l)
  where
    go : (b : Bool) → place_by p l ≤ length l → choose b 0 (suc (place_by p l)) ≤ suc (length l)
    go true h = omega arith
    go false h = omega arith

-- it is found among the places of all by what stands there
module _ {A : Type 0} (f : ℕ → Bool) (p : A → Bool) (d : A) where
  first-place : (ps : List ℕ) (l : List A) → length ps ≡ length l → ((i : ℕ) → i < length l → f (get_or ps i 0) ≡ p (get_or l i d)) → position_or_len f ps ≡ place_by p l
  first-place [] [] e h = refl
  first-place [] (a ∷ l) e h = absurd (omega arith)
  first-place (x ∷ ps) [] e h = absurd (omega arith)
  first-place (x ∷ ps) (a ∷ l) e h = go (p a) (h 0 (omega arith)) (first-place ps l (omega arith) (λ i j. h (suc i) (omega arith)))
    where
      go : (b : Bool) → f x ≡ b → position_or_len f ps ≡ place_by p l → position_or_len f (x ∷ ps) ≡ choose b 0 (suc (place_by p l))
      go true j k = rw j
      go false j k = rw j (rw k (omega arith))

  pub found : (ps : List ℕ) (n : ℕ) (l : List A) → n ≤ length ps → length l ≡ n → ((i : ℕ) → i < n → f (get_or ps i 0) ≡ p (get_or l i d)) → (r : Option ℕ) → r ≡ position f (take n ps) → Found (place_by p l) (length l) r
  found ps n l b m h r e = go (nat_lt (place_by p l) (length l)) refl (e ∙ ap₂ (λ (k w : ℕ). cond (nat_lt k w) (Some k) None) k w)
    where
      w : length (take n ps) ≡ length l
      w = length-take-le n ps b ∙ sym m

      k : position_or_len f (take n ps) ≡ place_by p l
      k = first-place (take n ps) l w (λ i j. let g : i < n = omega arith in ap f (get_or-take n ps i 0 g) ∙ h i g)

      go : (t : Bool) → nat_lt (place_by p l) (length l) ≡ t → r ≡ cond t (Some (place_by p l)) None → Found (place_by p l) (length l) r
      go true j i = rw i (refl, ltb-true _ _ j)
      go false j i = rw i (omega (arith, ltb-false _ _ j, place-few p l))

-- the first definition of a name
pub found-first : (vs places : List ℕ) (n : ℕ) (types : List TypeDef) (x : ℕ) → n ≤ length places → Named vs places n types → (r : Option ℕ) → r ≡ position (λ p. get_or vs p 0 == x) (take n places) → FoundFirst types x r
found-first vs places n types x b t r e = found (λ p. get_or vs p 0 == x) (is_named x) nowhere places n types b t.count (λ i h. ap (λ (y : ℕ). y == x) (t.same i h)) r e

-- the parts of a definition, as the code finds them
module _ (M : ℕ) (ts : List TagValue) (p : ℕ) (r : Result (DefinitionToken × ℕ) Refusal) (i : r ≡ told (token (definition_token_of M) ts p)) (d : TypeDef) (q : ℕ) (g : type_def M ts p ≡ got d q) where
  pub describe-stop : (t : Refusal) → r ≡ Err t → ⊥
  describe-stop t e =
      let a = definition-got M ts p d q g in
      let f = told-refused (token (definition_token_of M) ts p) r t i e in
      cc

  module _ (h : DefinitionToken) (s : ℕ) (e : r ≡ Ok (h, s)) where
    pub definition-is : (k : DefinitionToken) → h ≡ k → definition M k ts s ≡ got d q
    definition-is k j =
        let a = definition-got M ts p d q g in
        let f = told-got (token (definition_token_of M) ts p) r h s i e in
        let u : a.0 ≡ k = cc in
        let v : p + 1 ≡ s = cc in
        rw (u, v) at a.2

    pub describe-alias : (x : ℕ) → h ≡ DefinitionToken.Alias x → Described M ts d q (Defined.Alias x s)
    unfolding Described
    describe-alias x j = alias-got M ts s x d q (definition-is (DefinitionToken.Alias x) j)

-- a type by its first token, as the code finds it
module _ (M : ℕ) (ts : List TagValue) (p : ℕ) (r : Result (TypeToken × ℕ) Refusal) (i : r ≡ told (token (type_token_of M) ts p)) (depth : ℕ) (t : Ty) (q : ℕ) (g : ty M depth ts p ≡ got t q) where
  pub type-not-refused : (f : Refusal) → r ≡ Err f → ⊥
  type-not-refused f e =
      let a = type-got M ts p depth t q g in
      let b = told-refused (token (type_token_of M) ts p) r f i e in
      cc

  module _ (h : TypeToken) (s : ℕ) (e : r ≡ Ok (h, s)) where
    pub type-is-basic : (b : Primitive) → h ≡ TypeToken.Basic b → t ≡ Ty.primitive b
    type-is-basic b j =
        let a = type-got M ts p depth t q g in
        let f = told-got (token (type_token_of M) ts p) r h s i e in
        let u : a.0 ≡ TypeToken.Basic b = cc in
        (primitive-got M ts p b depth t q (p + 1) (rw u at a.3)).0

    pub type-is-named : (x : ℕ) → h ≡ TypeToken.Named x → t ≡ Ty.named x
    type-is-named x j =
        let a = type-got M ts p depth t q g in
        let f = told-got (token (type_token_of M) ts p) r h s i e in
        let u : a.0 ≡ TypeToken.Named x = cc in
        (named-got M ts p x depth t q (p + 1) (rw u at a.3)).0

    pub type-is-array : (n : ℕ) → h ≡ TypeToken.Array n → (b : Ty) × (depth ≡ 0 → ⊥) × (n ≤ 256) × (ty M (depth - 1) ts s ≡ got b q) × (t ≡ Ty.array n b)
    type-is-array n j =
        let a = type-got M ts p depth t q g in
        let f = told-got (token (type_token_of M) ts p) r h s i e in
        let u : a.0 ≡ TypeToken.Array n = cc in
        let v : p + 1 ≡ s = cc in
        element-got M ts p n depth t q s (rw (u, v) at a.3) (rw u at a.2)

-- the first definition that passes a test, and whether there is one
module _ (p : TypeDef → Bool) where
  pub find_none : (l : List TypeDef) → length l ≤ place_by p l → find p l ≡ none
  find_none [] h = refl
  find_none (d ∷ l) h = go (p d) h (find_none l)
    where
      go : (b : Bool) → suc (length l) ≤ choose b 0 (suc (place_by p l)) → (length l ≤ place_by p l → find p l ≡ none) → choose b (some d) (find p l) ≡ none
      go true h r = absurd (omega arith)
      go false h r = r (omega arith)

  pub find-some : (l : List TypeDef) (n : TypeDef) → place_by p l < length l → find p l ≡ some (get_or l (place_by p l) n)
  find-some [] n h = absurd (omega arith)
  find-some (d ∷ l) n h = go (p d) h (find-some l n)
    where
      go : (b : Bool) → choose b 0 (suc (place_by p l)) < suc (length l) → (place_by p l < length l → find p l ≡ some (get_or l (place_by p l) n)) →
          choose b (some d) (find p l) ≡ some (get_or (d ∷ l) (choose b 0 (suc (place_by p l))) n)
      go true h r = refl
      go false h r = r (omega arith)

  pub place-true : (l : List TypeDef) (n : TypeDef) → place_by p l < length l → p (get_or l (place_by p l) n) ≡ true
  place-true [] n h = absurd (omega arith)
  place-true (d ∷ l) n h = go (p d) refl h (place-true l n)
    where
      go : (b : Bool) → p d ≡ b → choose b 0 (suc (place_by p l)) < suc (length l) → (place_by p l < length l → p (get_or l (place_by p l) n) ≡ true) →
          p (get_or (d ∷ l) (choose b 0 (suc (place_by p l))) n) ≡ true
      go true e h r = e
      go false e h r = r (omega arith)

  pub place-before : (l : List TypeDef) (n : TypeDef) (i : ℕ) → i < length l → p (get_or l i n) ≡ true → place_by p l ≤ i
  place-before [] n i h e = absurd (omega arith)
  place-before (d ∷ l) n zero h e = rw e (omega arith)
  place-before (d ∷ l) n (suc i) h e = go (p d) (place-before l n i (omega arith) e)
    where
      go : (b : Bool) → place_by p l ≤ i → choose b 0 (suc (place_by p l)) ≤ suc i
      go true r = omega arith
      go false r = omega arith
