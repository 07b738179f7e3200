-- Laws of tables of clocks.
-- Assumes nothing.
use mathlib.Core.Path.{◌≡◌, refl, sym, ◌∙◌, ap}
use mathlib.Core.List.{List, [], ◌∷◌, ◌++◌}
use mathlib.Core.Bool.{Bool, true, false, true≢false, ◌||◌, cond, not}
use mathlib.Core.Logic.{inl, inr}
use Prim.Native.Nat.{ℕ, zero, suc, ◌+◌, ◌-◌, ◌*◌, ◌≤◌, ◌<◌}
use native.Mathlib.Omega.{arith}
use native.Mathlib.Numerals.{add-one, sub-one}
use lib.ListN.{length, get_or, length-append}
use Rattle.definitions.specs.declared.Condition.{Condition}
use Rattle.definitions.specs.Lists.{choose, any, place_by}
use Rattle.definitions.specs.Clock.{Clock, base, ◌↓◌, parent, is_base, same_condition, same_clock, ends_in}
use Rattle.std.specs.Prelude.{Option, Some, None, position, is_some}
use Rattle.std.specs.Option.{unwrap_or}
use Rattle.std.specs.List.{range_with_len, position_or_len}
use Rattle.std.proofs.lemmas.List.FromFn.{length-range_with_len}
use lib.Dec.{ltb}
use borrow.Author.Tests.{ltb-true, ltb-false}
use Rattle.definitions.specs.Declock.{clock_place, add, add_with_parents}
use Rattle.shapes.proofs.Facts.{condition-self, clock-eq}
use Rattle.shapes.proofs.Added.{length-add}
use Rattle.clock_tables.specs.Value.{clock_at}
use Rattle.clock_tables.proofs.ClockLaws.{last-at}
use Rattle.clock_tables.specs.Flat.{condition_at, conditions_from, depth_in, clock_in}
use Rattle.clock_tables.proofs.FlatLaws.{at_from, Within, clock-same}
use Rattle.clock_tables.specs.Rows.{clocks_from, clocks_in, RowsHold}

-- ---- the clocks of rows
module _ (t : List ℕ) where
  pub from-none : (i n : ℕ) → n ≡ 0 → clocks_from t i n ≡ []
  unfolding clocks_from
  from-none i n z = rw z

  pub from_more : (i n : ℕ) → 0 < n → clocks_from t i n ≡ clock_in t (17 * i) ∷ clocks_from t (i + 1) (n - 1)
  unfolding clocks_from
  from_more i zero z = absurd (omega arith)
  from_more i (suc n) z = rw (sub-one (suc n))

  pub length_from : (i n : ℕ) → length (clocks_from t i n) ≡ n
  unfolding clocks_from
  length_from i zero = refl
  length_from i (suc n) = ap suc (length_from (i + 1) n)

  -- one row more, at the end
  pub from_last : (i n : ℕ) → clocks_from t i (suc n) ≡ clocks_from t i n ++ (clock_in t (17 * (i + n)) ∷ [])
  unfolding clocks_from
  from_last i zero = let e : i + 0 ≡ i = omega arith in rw e
  from_last i (suc n) =
      let e : i + suc n ≡ i + 1 + n = omega arith in
      rw e (ap (λ (l : List Clock). clock_in t (17 * i) ∷ l) (from_last (i + 1) n))

  -- the clock in a row
  pub from_at : (i n j : ℕ) → j < n → get_or (clocks_from t i n) j base ≡ clock_in t (17 * (i + j))
  unfolding clocks_from
  from_at i zero j h = absurd (omega arith)
  from_at i (suc n) zero h = let e : i + 0 ≡ i = omega arith in rw e
  from_at i (suc n) (suc j) h =
      let l : j < n = omega arith in
      let e : i + suc j ≡ i + 1 + j = omega arith in
      from_at (i + 1) n j l ∙ rw e

from-same : (t t' : List ℕ) (i n : ℕ) → ((k : ℕ) → k < 17 * (i + n) → get_or t' k 0 ≡ get_or t k 0) → clocks_from t' i n ≡ clocks_from t i n
unfolding clocks_from
from-same t t' i zero h = refl
from-same t t' i (suc n) h =
    rw (clock-same t t' (17 * i) (λ k u v. h k (omega arith)), from-same t t' (i + 1) n (λ k u. h k (omega arith)))

-- ---- another clock
module _ (t : List ℕ) (b d : ℕ) where
  last-in : depth_in t b ≡ d → (d ≡ 0 → ⊥) → clock_in t b ≡ clock_at (conditions_from t (b + 1) 8) (d - 1) ↓ condition_at t (b + 2 * d - 1)
  last-in e z =
      let p : b + 1 + 2 * (d - 1) ≡ b + 2 * d - 1 = omega arith in
      rw e (last-at (conditions_from t (b + 1) 8) d z ∙ rw (at_from t (b + 1) 8 (d - 1) (omega arith), p))

  -- a clock that ends otherwise
  pub ends-other : (c : Clock) (k : Condition) → k ≡ condition_at t (b + 2 * d - 1) → depth_in t b ≡ d → (d ≡ 0 → ⊥) → ends_in k c ≡ false → same_clock c (clock_in t b) ≡ false
  ends-other c k i e z h = go (same_clock c (clock_in t b)) refl
    where
      go : (s : Bool) → same_clock c (clock_in t b) ≡ s → s ≡ false
      go false s = refl
      go true s = absurd (true≢false (sym (condition-self k) ∙ (ap (λ (l : Condition). same_condition k l) i ∙ (ap (ends_in k) (sym (clock-eq c (clock_in t b) s ∙ last-in e z)) ∙ h))))

-- ---- the place of a clock
-- the first row that passes the test, by the rows' numbers
module _ (t : List ℕ) (c : Clock) where
  place-rows : (i n : ℕ) → position_or_len (λ j. same_clock c (clock_in t (17 * j))) (range_with_len i n) ≡ clock_place c (clocks_from t i n)
  unfolding clocks_from
  place-rows i zero = refl
  place-rows i (suc n) = go (same_clock c (clock_in t (17 * i))) (place-rows (i + 1) n)
    where
      others : List ℕ
      others = range_with_len (i + 1) n

      go : (b : Bool) → position_or_len (λ j. same_clock c (clock_in t (17 * j))) others ≡ clock_place c (clocks_from t (i + 1) n)
          → cond (not b) (1 + position_or_len (λ j. same_clock c (clock_in t (17 * j))) others) 0 ≡ choose b 0 (suc (clock_place c (clocks_from t (i + 1) n)))
      go true e = refl
      go false e = omega (arith, e)

  place-within : (i n : ℕ) → clock_place c (clocks_from t i n) ≤ n
  unfolding clocks_from
  place-within i zero = omega arith
  place-within i (suc n) = go (same_clock c (clock_in t (17 * i))) (place-within (i + 1) n)
    where
      go : (b : Bool) → clock_place c (clocks_from t (i + 1) n) ≤ n → choose b 0 (suc (clock_place c (clocks_from t (i + 1) n))) ≤ suc n
      go true l = omega arith
      go false l = omega arith

  -- what a search over the rows' numbers answers
  pub place_found : (n : ℕ) (o : Option ℕ) → o ≡ position (λ j. same_clock c (clock_in t (17 * j))) (range_with_len 0 n) → unwrap_or o n ≡ clock_place c (clocks_in t n)
  place_found n o e = rw (e, place-rows 0 n, length-range_with_len 0 n) (go (ltb (clock_place c (clocks_in t n)) n) refl)
    where
      go : (b : Bool) → ltb (clock_place c (clocks_in t n)) n ≡ b → unwrap_or (cond b (Some (clock_place c (clocks_in t n))) None) n ≡ clock_place c (clocks_in t n)
      go true q = refl
      go false q = omega (arith, place-within 0 n, ltb-false (clock_place c (clocks_in t n)) n q)

  found-by : (n : ℕ) (o : Option ℕ) → o ≡ position (λ j. same_clock c (clock_in t (17 * j))) (range_with_len 0 n) → is_some o ≡ ltb (clock_place c (clocks_in t n)) n
  found-by n o e = rw (e, place-rows 0 n, length-range_with_len 0 n) (go (ltb (clock_place c (clocks_in t n)) n))
    where
      go : (b : Bool) → is_some (cond b (Some (clock_place c (clocks_in t n))) None) ≡ b
      go true = refl
      go false = refl

-- some item passes where the place is one of the list's, and none where it is past the end
module _ {A : Type 0} (p : A → Bool) where
  any-there : (l : List A) → place_by p l < length l → any p l ≡ true
  any-there [] h = absurd (omega arith)
  any-there (a ∷ l) h = go (p a) (any-there l) h
    where
      go : (b : Bool) → (place_by p l < length l → any p l ≡ true) → choose b 0 (suc (place_by p l)) < suc (length l) → (b || any p l) ≡ true
      go true r u = refl
      go false r u = r (omega arith)

  any-absent : (l : List A) → length l ≤ place_by p l → any p l ≡ false
  any-absent [] h = refl
  any-absent (a ∷ l) h = go (p a) (any-absent l) h
    where
      go : (b : Bool) → (length l ≤ place_by p l → any p l ≡ false) → suc (length l) ≤ choose b 0 (suc (place_by p l)) → (b || any p l) ≡ false
      go true r u = absurd (omega arith)
      go false r u = r (omega arith)

module _ (t : List ℕ) (n : ℕ) (c : Clock) (o : Option ℕ) (e : o ≡ position (λ j. same_clock c (clock_in t (17 * j))) (range_with_len 0 n)) where
  pub there : is_some o ≡ true → any (same_clock c) (clocks_in t n) ≡ true
  there h =
      let l : clock_place c (clocks_in t n) < n = ltb-true (clock_place c (clocks_in t n)) n (sym (found-by t c n o e) ∙ h) in
      any-there (same_clock c) (clocks_in t n) (omega (arith, l, length_from t 0 n))

  pub absent : is_some o ≡ false → any (same_clock c) (clocks_in t n) ≡ false
  absent h =
      let l : n ≤ clock_place c (clocks_in t n) = omega (arith, ltb-false (clock_place c (clocks_in t n)) n (sym (found-by t c n o e) ∙ h)) in
      any-absent (same_clock c) (clocks_in t n) (omega (arith, l, length_from t 0 n))

-- ---- a table and the clocks that it has
pub has-none : (t : List ℕ) → RowsHold t 0 []
unfolding RowsHold clocks_from
has-none t = inl (omega arith, refl)

pub has-own : (t : List ℕ) (n : ℕ) → 17 * n ≤ length t → RowsHold t n (clocks_in t n)
unfolding RowsHold
has-own t n l = inl (l, refl)

-- what a table that holds them all has
pub has_all : (t : List ℕ) (n : ℕ) (cs : List Clock) → 17 * n ≤ length t → RowsHold t n cs → clocks_in t n ≡ cs
unfolding RowsHold
has_all t n cs l (inl (a, e)) = e
has_all t n cs l (inr (a, b)) = absurd (omega arith)

pub has-count : (t : List ℕ) (n : ℕ) (cs : List Clock) → 17 * n ≤ length t → RowsHold t n cs → length cs ≡ n
has-count t n cs l h = ap length (sym (has_all t n cs l h)) ∙ length_from t 0 n

-- a count past the room: there are more clocks than rows
pub has_more : (t : List ℕ) (n : ℕ) (cs : List Clock) → length t < 17 * n → RowsHold t n cs → length t < 17 * length cs
unfolding RowsHold
has_more t n cs l (inl (a, e)) = absurd (omega arith)
has_more t n cs l (inr (a, b)) = b

module _ (t : List ℕ) (n : ℕ) (c : Clock) (cs : List Clock) where
  pub has-over : length t < 17 * n → RowsHold t n cs → RowsHold t n (add c cs)
  unfolding RowsHold
  has-over h (inl (a, e)) = absurd (omega arith)
  has-over h (inr (a, b)) = inr (a, omega (arith, length-add c cs))

  pub has-found : 17 * n ≤ length t → any (same_clock c) (clocks_in t n) ≡ true → RowsHold t n cs → RowsHold t n (add c cs)
  unfolding RowsHold
  has-found room h (inl (a, e)) = let f : any (same_clock c) cs ≡ true = ap (any (same_clock c)) (sym e) ∙ h in inl (a, rw f e)
  has-found room h (inr (a, b)) = absurd (omega arith)

  -- a clock that is not there comes behind the others
  pub has_absent : (t' : List ℕ) (m : ℕ) → 17 * n ≤ length t → any (same_clock c) (clocks_in t n) ≡ false → RowsHold t n cs → RowsHold t' m (cs ++ (c ∷ [])) → RowsHold t' m (add c cs)
  has_absent t' m room gone h k = let f : any (same_clock c) cs ≡ false = ap (any (same_clock c)) (sym (has_all t n cs room h)) ∙ gone in rw f k

  pub last-over : length t < 17 * n → RowsHold t n cs → RowsHold t n (cs ++ (c ∷ []))
  unfolding RowsHold
  last-over h (inl (a, e)) = absurd (omega arith)
  last-over h (inr (a, b)) = inr (a, omega (arith, length-append cs (c ∷ [])))

  last-full : 17 * n ≤ length t → length t < 17 * (n + 1) → RowsHold t n cs → RowsHold t (n + 1) (cs ++ (c ∷ []))
  unfolding RowsHold
  last-full room full (inl (a, e)) =
      let k : length cs ≡ n = ap length (sym e) ∙ length_from t 0 n in
      inr (full, omega (arith, length-append cs (c ∷ [])))
  last-full room full (inr (a, b)) = absurd (omega arith)

  last_stored : (t' : List ℕ) → 17 * n + 17 ≤ length t → length t' ≡ length t → clock_in t' (17 * n) ≡ c → Within t t' (17 * n) 17 → RowsHold t n cs → RowsHold t' (n + 1) (cs ++ (c ∷ []))
  unfolding RowsHold
  last_stored t' room len row same (inl (a, e)) =
      let o : 0 + n ≡ n = omega arith in
      let s : clocks_in t' n ≡ cs = from-same t t' 0 n (λ k u. same k (inl (omega arith))) ∙ e in
      inl (omega arith, rw (add-one n) (from_last t' 0 n ∙ rw (o, s, row)))
  last_stored t' room len row same (inr (a, b)) = absurd (omega arith)

  pub last-put : (t' : List ℕ) → 17 * n ≤ length t → length t' ≡ length t → (17 * n + 17 ≤ length t → clock_in t' (17 * n) ≡ c) → Within t t' (17 * n) 17 → (length t < 17 * n + 17 → t' ≡ t)
      → RowsHold t n cs → RowsHold t' (n + 1) (cs ++ (c ∷ []))
  last-put t' room len row same past h = go (ltb (length t) (17 * n + 17)) refl
    where
      go : (b : Bool) → ltb (length t) (17 * n + 17) ≡ b → RowsHold t' (n + 1) (cs ++ (c ∷ []))
      go true e = let l : length t < 17 * n + 17 = ltb-true _ _ e in rw (past l) (last-full room (omega arith) h)
      go false e = let l : 17 * n + 17 ≤ length t = ltb-false _ _ e in last_stored t' l len (row l) same h

-- ---- parents
pub parents-none : (c : Clock) (cs : List Clock) → is_base c ≡ true → add_with_parents c cs ≡ cs
unfolding add_with_parents
parents-none base cs h = refl
parents-none (c ↓ k) cs h = absurd (true≢false (sym h))

pub parents-added : (c : Clock) (cs : List Clock) → is_base c ≡ false → add c (add_with_parents (parent c) cs) ≡ add_with_parents c cs
unfolding add_with_parents
parents-added base cs h = absurd (true≢false h)
parents-added (c ↓ k) cs h = refl
