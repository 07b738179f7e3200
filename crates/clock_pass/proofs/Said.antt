-- Fault records in words and lists of records: what a list of records becomes, record after record, and words that have room for all.
-- Assumes nothing.
use mathlib.Core.Path.{◌≡◌, refl, sym, ◌∙◌, ap, subst}
use Prim.Native.Nat.{ℕ, zero, suc, ◌+◌, ◌*◌, ◌/◌, ◌≤◌}
use native.Mathlib.Omega.{arith}
use mathlib.Core.List.{List, [], ◌∷◌, ◌++◌, map}
use lib.ListN.{length, get_or, take, drop, set, length-map}
use lib.Seq.{get_or-drop, take_all}
use Rattle.definitions.specs.declared.FaultRecord.{FaultRecord}
use Rattle.definitions.specs.Lists.{join, over}
use Rattle.clock_pass.specs.Said.{record_at, records, said, record_words, entries_over}

over-snoc : {A : Type 0} (l xs : List A) (r : A) → over (l ++ (r ∷ [])) xs ≡ set (over l xs) (length l) r
over-snoc [] [] r = refl
over-snoc [] (x ∷ xs) r = refl
over-snoc (a ∷ l) [] r = refl
over-snoc (a ∷ l) (x ∷ xs) r = ap (λ (t : List _). a ∷ t) (over-snoc l xs r)

-- ---- records in words
records-length : (ws : List ℕ) (n : ℕ) → length (records ws n) ≡ n
records-length ws zero = refl
records-length ws (suc n) = ap suc (records-length (drop 3 ws) n)

-- word k behind a record
next-word : (ws : List ℕ) (k m : ℕ) → m ≡ k + 3 → get_or (drop 3 ws) k 0 ≡ get_or ws m 0
next-word ws k m e = get_or-drop 3 ws k 0 ∙ ap (λ (j : ℕ). get_or ws j 0) (omega (arith, e))

record-next : (ws : List ℕ) (n : ℕ) → record_at (drop 3 ws) n ≡ record_at ws (suc n)
record-next ws n = λ i. record {
  node = next-word ws (3 * n) (3 * suc n) (omega arith) i;
  fault = next-word ws (3 * n + 1) (3 * suc n + 1) (omega arith) i;
  equation = next-word ws (3 * n + 2) (3 * suc n + 2) (omega arith) i;
}

records-snoc : (ws : List ℕ) (n : ℕ) → records ws (suc n) ≡ records ws n ++ (record_at ws n ∷ [])
records-snoc ws zero = refl
records-snoc ws (suc n) = ap (λ (t : List FaultRecord). record_at ws 0 ∷ t) (records-snoc (drop 3 ws) n ∙ ap (λ (r : FaultRecord). records (drop 3 ws) n ++ (r ∷ [])) (record-next ws n))

-- one more record
pub over-next : (ws : List ℕ) (n : ℕ) (xs : List FaultRecord) → set (over (records ws n) xs) n (record_at ws n) ≡ over (records ws (suc n)) xs
over-next ws n xs =
    sym (ap (λ (l : List FaultRecord). over l xs) (records-snoc ws n) ∙ (over-snoc (records ws n) xs (record_at ws n) ∙ ap (λ (k : ℕ). set (over (records ws n) xs) k (record_at ws n)) (records-length ws n)))

-- a turn of the loop that stores records
pub over-turn : (ws : List ℕ) (i : ℕ) (xs ys : List FaultRecord) (r : FaultRecord) → ys ≡ over (records ws i) xs → r ≡ record_at ws i → set ys i r ≡ over (records ws (i + 1)) xs
over-turn ws i xs ys r e f =
    let one : suc i ≡ i + 1 = omega arith in
    rw (e, f) (subst (λ (n : ℕ). set (over (records ws i) xs) i (record_at ws i) ≡ over (records ws n) xs) one (over-next ws i xs))

-- ---- from records to what words say
-- each entry is whole: the words have room for all
pub entries_over_lem : (n : ℕ) (l : List FaultRecord) (ws : List ℕ) → length ws / 3 ≡ n → length l ≤ n → said (over (join (map record_words l)) ws) ≡ l → said (entries_over 3 (map record_words l) ws) ≡ l
unfolding entries_over
entries_over_lem n l ws long few e =
    let most : length (map record_words l) ≤ n = omega (arith, few, length-map l record_words) in
    ap (λ (n : ℕ). said (over (join (take n (map record_words l))) ws)) long ∙ (ap (λ (t : List (List ℕ)). said (over (join t) ws)) (take_all n (map record_words l) most) ∙ e)
