-- Laws of tables of findings.
use mathlib.Core.Path.{◌≡◌, refl, sym, ◌∙◌, ap}
use mathlib.Core.List.{List, [], ◌∷◌, ◌++◌, append_assoc, append-nil}
use mathlib.Core.Bool.{Bool, true, false, ◌||◌, true≢false}
use mathlib.Core.Logic.{◌⊎◌, inl, inr}
use Prim.Native.Nat.{ℕ, zero, suc, ◌+◌, ◌-◌, ◌*◌, ◌≤◌, ◌<◌}
use native.Mathlib.Omega.{arith}
use native.Mathlib.Numerals.{add-one}
use lib.ListN.{length, get_or, set, length-set, length-append}
use lib.Seq.{get_or-set_same, get_or-set_other}
use Rattle.definitions.specs.Lists.{choose, any}
use Rattle.definitions.specs.Clock.{Clock, is_base}
use Rattle.std.proofs.Math.ListN.{get_elem?}
use lib.Dec.{eqb, ltb}
use borrow.Author.Tests.{ne_eqb}
use Rattle.std.proofs.lemmas.Bool.{le-ltb}
use Rattle.std.proofs.Common.{rules, tests}
use Rattle.std.specs.Prelude.{Option, Some, None, Result, Ok, Err, is_ok}
use Rattle.std.specs.Result.{MatchResult}
use Rattle.std.specs.List.{range_with_len, list_any, slice_get}
use Rattle.std.specs.Option.{option_map}
use Rattle.definitions.specs.InferClocks.{NodeFault, Finding, found, site, too_deep, is_too_deep, clock_faults, sites}
use Rattle.clock_tables.specs.Flat.{clock_in}
use Rattle.clock_tables.proofs.FlatLaws.{Within, clock-same}
use Rattle.clock_tables.specs.declared.clock.Clock as clock
use Rattle.findings.specs.declared.Finding as value
use Rattle.findings.specs.declared.Found.{Found}
use Rattle.findings.specs.Value.{node_fault_of, found_of, finding_of}
use Rattle.clock_tables.specs.declared.ClockTable.{ClockTable}
use Rattle.clock_tables.specs.Grown.{Grown}
use Rattle.findings.specs.Findings.{fault_in, finding_as, finding_in, is_fault, is_site, findings_from, findings_in, FindingsHeld}

-- ---- the findings of rows
module _ (t : List ℕ) where
  pub length_from : (i n : ℕ) → length (findings_from t i n) ≡ n
  unfolding findings_from
  length_from i zero = refl
  length_from i (suc n) = ap suc (length_from (i + 1) n)

  -- one row more, at the end
  pub from_last : (i n : ℕ) → findings_from t i (suc n) ≡ findings_from t i n ++ (finding_in t (38 * (i + n)) ∷ [])
  unfolding findings_from
  from_last i zero = let e : i + 0 ≡ i = omega arith in rw e
  from_last i (suc n) =
      let e : i + suc n ≡ i + 1 + n = omega arith in
      rw e (ap (λ (l : List Finding). finding_in t (38 * i) ∷ l) (from_last (i + 1) n))

  pub in-last : (n : ℕ) → findings_in t (n + 1) ≡ findings_in t n ++ (finding_in t (38 * n) ∷ [])
  in-last n = let e : 0 + n ≡ n = omega arith in rw (add-one n) (from_last 0 n ∙ rw e)

-- ---- a row by its kind
-- a kind past the others says too deep a clock
pub deep-row : (t : List ℕ) (b k : ℕ) → k ≡ get_or t (b + 0) 0 → 6 ≤ k → too_deep ≡ finding_in t b
deep-row t b k e h =
    let z : b + 0 ≡ b = omega arith in
    let f : k ≡ get_or t b 0 = rw z at e in
    rw (le-ltb (get_or t b 0) 5 (omega (arith, f, h)), ne_eqb (get_or t b 0) 5 (λ q. omega (arith, f, h, q))) refl

-- and no other kind does
pub deep-kind : (t : List ℕ) (b k : ℕ) (r : Bool) → k ≡ get_or t (b + 0) 0 → (r ≡ true → 6 ≤ k) → (r ≡ false → k < 6) → r ≡ is_too_deep (finding_in t b)
deep-kind t b k true e h g = ap is_too_deep (deep-row t b k e (h refl))
deep-kind t b k false e h g = let m = g refl in search (rules, tests)

-- a site's clock is the second of its row
pub site-row : (t : List ℕ) (b : ℕ) (d : Clock) → d ≡ clock_in t (b + 21) → is_site (finding_in t b) ≡ true → site d ≡ finding_in t b
site-row t b d q = go (ltb (get_or t b 0) 5) (eqb (get_or t b 0) 5)
  where
    go : (x y : Bool) → is_site (choose x (found (fault_in t b)) (choose y (site (clock_in t (b + 21))) too_deep)) ≡ true
        → site d ≡ choose x (found (fault_in t b)) (choose y (site (clock_in t (b + 21))) too_deep)
    go true y e = absurd (true≢false (sym e))
    go false true e = ap site q
    go false false e = absurd (true≢false (sym e))

-- the kind behind the faults says a site
pub site-kind : (k x w i : ℕ) (c d e : Clock) → k ≡ 5 → d ≡ e → finding_as k x w i c d ≡ site e
site-kind k x w i c d e h j = rw (h, j) refl

-- ---- a row is its words
module _ (t t' : List ℕ) where
  finding-same : (b : ℕ) → ((i : ℕ) → b ≤ i → i < b + 38 → get_or t' i 0 ≡ get_or t i 0) → finding_in t' b ≡ finding_in t b
  finding-same b h =
      let a : get_or t' b 0 ≡ get_or t b 0 = h b (omega arith) (omega arith) in
      let p : get_or t' (b + 1) 0 ≡ get_or t (b + 1) 0 = h (b + 1) (omega arith) (omega arith) in
      let q : get_or t' (b + 2) 0 ≡ get_or t (b + 2) 0 = h (b + 2) (omega arith) (omega arith) in
      let r : get_or t' (b + 3) 0 ≡ get_or t (b + 3) 0 = h (b + 3) (omega arith) (omega arith) in
      let c : clock_in t' (b + 4) ≡ clock_in t (b + 4) = clock-same t t' (b + 4) (λ i u v. h i (omega arith) (omega arith)) in
      let d : clock_in t' (b + 21) ≡ clock_in t (b + 21) = clock-same t t' (b + 21) (λ i u v. h i (omega arith) (omega arith)) in
      cc

  from-same : (i n : ℕ) → ((k : ℕ) → k < 38 * (i + n) → get_or t' k 0 ≡ get_or t k 0) → findings_from t' i n ≡ findings_from t i n
  unfolding findings_from
  from-same i zero h = refl
  from-same i (suc n) h =
      let a : finding_in t' (38 * i) ≡ finding_in t (38 * i) = finding-same (38 * i) (λ k u v. h k (omega arith)) in
      let b : findings_from t' (i + 1) n ≡ findings_from t (i + 1) n = from-same (i + 1) n (λ k u. h k (omega arith)) in
      cc

-- a row's four words written, then its two clocks
module _ (t : List ℕ) (b k x w e : ℕ) where
  abbrev pub words_put : List ℕ
  words_put = set (set (set (set t b k) (b + 1) x) (b + 2) w) (b + 3) e

  outside : (i : ℕ) → (i ≡ b → ⊥) → (i ≡ b + 1 → ⊥) → (i ≡ b + 2 → ⊥) → (i ≡ b + 3 → ⊥) → get_or words_put i 0 ≡ get_or t i 0
  outside i p q r s =
      get_or-set_other (set (set (set t b k) (b + 1) x) (b + 2) w) (b + 3) i e 0 s
      ∙ (get_or-set_other (set (set t b k) (b + 1) x) (b + 2) i w 0 r ∙ (get_or-set_other (set t b k) (b + 1) i x 0 q ∙ get_or-set_other t b i k 0 p))

  put-at : (i : ℕ) → (i < b) ⊎ (b + 4 ≤ i) → get_or words_put i 0 ≡ get_or t i 0
  put-at i (inl u) = outside i (omega arith) (omega arith) (omega arith) (omega arith)
  put-at i (inr u) = outside i (omega arith) (omega arith) (omega arith) (omega arith)

  put-words : b + 38 ≤ length t → (get_or words_put b 0 ≡ k) × (get_or words_put (b + 1) 0 ≡ x) × (get_or words_put (b + 2) 0 ≡ w) × (get_or words_put (b + 3) 0 ≡ e)
  put-words l =
      let a₀ : b < length t = omega arith in
      let a₁ : b + 1 < length (set t b k) = simp length-set (omega arith) in
      let a₂ : b + 2 < length (set (set t b k) (b + 1) x) = simp length-set (omega arith) in
      let a₃ : b + 3 < length (set (set (set t b k) (b + 1) x) (b + 2) w) = simp length-set (omega arith) in (
        get_or-set_other (set (set (set t b k) (b + 1) x) (b + 2) w) (b + 3) b e 0 (omega arith)
            ∙ (get_or-set_other (set (set t b k) (b + 1) x) (b + 2) b w 0 (omega arith)
            ∙ (get_or-set_other (set t b k) (b + 1) b x 0 (omega arith) ∙ get_or-set_same t b k 0 a₀)),
        get_or-set_other (set (set (set t b k) (b + 1) x) (b + 2) w) (b + 3) (b + 1) e 0 (omega arith)
            ∙ (get_or-set_other (set (set t b k) (b + 1) x) (b + 2) (b + 1) w 0 (omega arith) ∙ get_or-set_same (set t b k) (b + 1) x 0 a₁),
        get_or-set_other (set (set (set t b k) (b + 1) x) (b + 2) w) (b + 3) (b + 2) e 0 (omega arith) ∙ get_or-set_same (set (set t b k) (b + 1) x) (b + 2) w 0 a₂,
        get_or-set_same (set (set (set t b k) (b + 1) x) (b + 2) w) (b + 3) e 0 a₃,
      )

  pub row-stored : (t₂ t₃ : List ℕ) (c d : Clock) → b + 38 ≤ length t → clock_in t₂ (b + 4) ≡ c → Within words_put t₂ (b + 4) 17 → clock_in t₃ (b + 21) ≡ d → Within t₂ t₃ (b + 21) 17
      → (finding_in t₃ b ≡ finding_as k x w e c d) × Within t t₃ b 38
  row-stored t₂ t₃ c d l i u j v =
      let h = put-words l in
      let a : get_or t₃ b 0 ≡ k = v b (inl (omega arith)) ∙ (u b (inl (omega arith)) ∙ h.0) in
      let p : get_or t₃ (b + 1) 0 ≡ x = v (b + 1) (inl (omega arith)) ∙ (u (b + 1) (inl (omega arith)) ∙ h.1) in
      let q : get_or t₃ (b + 2) 0 ≡ w = v (b + 2) (inl (omega arith)) ∙ (u (b + 2) (inl (omega arith)) ∙ h.2) in
      let r : get_or t₃ (b + 3) 0 ≡ e = v (b + 3) (inl (omega arith)) ∙ (u (b + 3) (inl (omega arith)) ∙ h.3) in
      let m : clock_in t₃ (b + 4) ≡ c = clock-same t₂ t₃ (b + 4) (λ n y z. v n (inl (omega arith))) ∙ i in
      (cc, outside)
    where
      outside : Within t t₃ b 38
      outside n (inl y) = v n (inl (omega arith)) ∙ (u n (inl (omega arith)) ∙ put-at n (inl y))
      outside n (inr y) = v n (inr (omega arith)) ∙ (u n (inr (omega arith)) ∙ put-at n (inr (omega arith)))

-- ---- a table and the findings that it holds
pub holds-none : (t : List ℕ) → FindingsHeld t 0 []
unfolding FindingsHeld findings_from
holds-none t = inl (omega arith, refl)

-- it never fills where there are no more findings than rows
pub holds_fits : (t : List ℕ) (n : ℕ) (fs : List Finding) → 38 * length fs ≤ length t → FindingsHeld t n fs → (38 * n ≤ length t) × (findings_in t n ≡ fs)
unfolding FindingsHeld
holds_fits t n fs l (inl h) = h
holds_fits t n fs l (inr (a, b)) = absurd (omega arith)

module _ (t : List ℕ) (n : ℕ) (f : Finding) (fs : List Finding) where
  pub holds-over : length t < 38 * n → FindingsHeld t n fs → FindingsHeld t n (fs ++ (f ∷ []))
  unfolding FindingsHeld
  holds-over h (inl (a, e)) = absurd (omega arith)
  holds-over h (inr (a, b)) = inr (a, omega (arith, length-append fs (f ∷ [])))

  pub holds-full : 38 * n ≤ length t → length t < 38 * (n + 1) → FindingsHeld t n fs → FindingsHeld t (n + 1) (fs ++ (f ∷ []))
  unfolding FindingsHeld
  holds-full room full (inl (a, e)) =
      let k : length fs ≡ n = ap length (sym e) ∙ length_from t 0 n in
      inr (full, omega (arith, length-append fs (f ∷ [])))
  holds-full room full (inr (a, b)) = absurd (omega arith)

  pub holds_more : (t' : List ℕ) → 38 * n + 38 ≤ length t → length t' ≡ length t → finding_in t' (38 * n) ≡ f → Within t t' (38 * n) 38 → FindingsHeld t n fs → FindingsHeld t' (n + 1) (fs ++ (f ∷ []))
  unfolding FindingsHeld
  holds_more t' room len row same (inl (a, e)) =
      let s : findings_in t' n ≡ fs = from-same t t' 0 n (λ k u. same k (inl (omega arith))) ∙ e in
      inl (omega arith, in-last t' n ∙ rw (s, row))
  holds_more t' room len row same (inr (a, b)) = absurd (omega arith)

-- ---- lists of findings, one after another
pub sites-append : (k l : List Finding) → sites (k ++ l) ≡ sites k ++ sites l
unfolding sites
sites-append [] l = refl
sites-append (found f ∷ k) l = sites-append k l
sites-append (site c ∷ k) l = go (is_base c) (sites-append k l)
  where
    go : (b : Bool) → sites (k ++ l) ≡ sites k ++ sites l → choose b (sites (k ++ l)) (c ∷ sites (k ++ l)) ≡ choose b (sites k) (c ∷ sites k) ++ sites l
    go true e = e
    go false e = ap (λ (m : List Clock). c ∷ m) e
sites-append (too_deep ∷ k) l = sites-append k l

-- ---- the rows by their numbers
module _ (t : List ℕ) where
  pub any-row : (i n : ℕ) → list_any (λ j. is_too_deep (finding_in t (38 * j))) (range_with_len i n) ≡ any is_too_deep (findings_from t i n)
  unfolding findings_from
  any-row i zero = refl
  any-row i (suc n) = ap (λ (b : Bool). is_too_deep (finding_in t (38 * i)) || b) (any-row (i + 1) n)

-- ---- a finding that is no site
pub no-sites : (f : Finding) → is_site f ≡ false → sites (f ∷ []) ≡ []
unfolding sites
no-sites (found f) h = refl
no-sites (site c) h = absurd (true≢false h)
no-sites too_deep h = refl

-- the same of one by value
pub not-site : (x : value.Finding) → ((c : clock.Clock) → x ≡ value.Finding.Site c → ⊥) → sites (finding_of x ∷ []) ≡ []
not-site (value.Finding.Fault i f) h = no-sites _ refl
not-site (value.Finding.Site c) h = absurd (h c refl)
not-site value.Finding.Deep h = no-sites _ refl

-- ---- one row more
module _ (t : List ℕ) (i : ℕ) where
  sites-last : sites (findings_in t (i + 1)) ≡ sites (findings_in t i) ++ sites (finding_in t (38 * i) ∷ [])
  sites-last = ap sites (in-last t i) ∙ sites-append (findings_in t i) (finding_in t (38 * i) ∷ [])

  module _ (f : Finding) (e : f ≡ finding_in t (38 * i)) where
    pub sites-no : sites (f ∷ []) ≡ [] → sites (findings_in t (i + 1)) ≡ sites (findings_in t i)
    sites-no h = sites-last ∙ (ap (λ (l : List Clock). sites (findings_in t i) ++ l) (ap (λ (x : Finding). sites (x ∷ [])) (sym e) ∙ h) ∙ append-nil _)

    pub sites-base : {c : Clock} → f ≡ site c → is_base c ≡ true → sites (findings_in t (i + 1)) ≡ sites (findings_in t i)
    unfolding sites
    sites-base {c} h b = sites-no (ap (λ (x : Finding). sites (x ∷ [])) h ∙ ap (λ (x : Bool). choose x [] (c ∷ [])) b)

    pub sites-more : {c : Clock} → f ≡ site c → is_base c ≡ false → sites (findings_in t (i + 1)) ≡ sites (findings_in t i) ++ (c ∷ [])
    unfolding sites
    sites-more {c} h b =
        sites-last ∙ (ap (λ (x : Finding). sites (findings_in t i) ++ sites (x ∷ [])) (sym e ∙ h)
        ∙ ap (λ (x : Bool). sites (findings_in t i) ++ choose x [] (c ∷ [])) b)

-- ---- the faults in rows, one after another
module _ (t : List ℕ) where
  -- the first row has none
  faults-skip : (i n : ℕ) → is_fault (finding_in t (38 * i)) ≡ false → clock_faults (findings_from t i (suc n)) ≡ clock_faults (findings_from t (i + 1) n)
  unfolding findings_from clock_faults
  faults-skip i n = go (ltb (get_or t (38 * i) 0) 5) (eqb (get_or t (38 * i) 0) 5)
    where
      go : (a b : Bool) → is_fault (choose a (found (fault_in t (38 * i))) (choose b (site (clock_in t (38 * i + 21))) too_deep)) ≡ false
          → clock_faults (choose a (found (fault_in t (38 * i))) (choose b (site (clock_in t (38 * i + 21))) too_deep) ∷ findings_from t (i + 1) n) ≡ clock_faults (findings_from t (i + 1) n)
      go true b e = absurd (true≢false e)
      go false true e = refl
      go false false e = refl

  -- it has one
  faults-first : (i n : ℕ) → is_fault (finding_in t (38 * i)) ≡ true → clock_faults (findings_from t i (suc n)) ≡ fault_in t (38 * i) ∷ clock_faults (findings_from t (i + 1) n)
  unfolding findings_from clock_faults
  faults-first i n = go (ltb (get_or t (38 * i) 0) 5) (eqb (get_or t (38 * i) 0) 5)
    where
      go : (a b : Bool) → is_fault (choose a (found (fault_in t (38 * i))) (choose b (site (clock_in t (38 * i + 21))) too_deep)) ≡ true
          → clock_faults (choose a (found (fault_in t (38 * i))) (choose b (site (clock_in t (38 * i + 21))) too_deep) ∷ findings_from t (i + 1) n) ≡ fault_in t (38 * i) ∷ clock_faults (findings_from t (i + 1) n)
      go true b e = refl
      go false true e = absurd (true≢false (sym e))
      go false false e = absurd (true≢false (sym e))

  -- m rows that have none
  faults-past : (i m n k : ℕ) → k ≡ m + n → ((j : ℕ) → i ≤ j → j < i + m → is_fault (finding_in t (38 * j)) ≡ false) → clock_faults (findings_from t i k) ≡ clock_faults (findings_from t (i + m) n)
  faults-past i zero n k e h =
      let a : k ≡ n = omega (arith, e) in
      let b : i + 0 ≡ i = omega arith in
      rw (a, b) refl
  faults-past i (suc m) n zero e h = absurd (omega (arith, e))
  faults-past i (suc m) n (suc k) e h =
      let b : i + 1 + m ≡ i + suc m = omega arith in
      faults-skip i k (h i (omega arith) (omega arith))
      ∙ (faults-past (i + 1) m n k (omega (arith, e)) (λ j u v. h j (omega arith) (omega arith)) ∙ ap (λ (j : ℕ). clock_faults (findings_from t j n)) b)

  -- none in the rows from a on, up to row n
  pub faults-end : (a n : ℕ) → ((j : ℕ) → a ≤ j → j < n → is_fault (finding_in t (38 * j)) ≡ false) → clock_faults (findings_from t a (n - a)) ≡ []
  unfolding findings_from clock_faults
  faults-end a n h = faults-past a (n - a) 0 (n - a) (omega arith) (λ j u v. h j u (omega arith))

  -- the first is in row i
  pub faults-step : (a n i : ℕ) → a ≤ i → i < n → is_fault (finding_in t (38 * i)) ≡ true → ((j : ℕ) → a ≤ j → j < i → is_fault (finding_in t (38 * j)) ≡ false)
      → clock_faults (findings_from t a (n - a)) ≡ fault_in t (38 * i) ∷ clock_faults (findings_from t (i + 1) (n - (i + 1)))
  faults-step a n i u v f h =
      let b : a + (i - a) ≡ i = omega arith in
      faults-past a (i - a) (suc (n - (i + 1))) (n - a) (omega arith) (λ j x y. h j x (omega arith))
      ∙ (ap (λ (j : ℕ). clock_faults (findings_from t j (suc (n - (i + 1))))) b ∙ faults-first i (n - (i + 1)) f)

-- item j of faults by value
pub nth-told : (o : Option Found) (fs : List NodeFault) (j : ℕ) → option_map node_fault_of o ≡ slice_get fs j → found_of o ≡ get_elem? fs j
nth-told None [] j e = refl
nth-told (Some f) [] j e = let z : ◌≡◌ {A = Option NodeFault} (Some (node_fault_of f)) None = e in cc
nth-told None (g ∷ fs) zero e = let z : ◌≡◌ {A = Option NodeFault} None (Some g) = e in cc
nth-told (Some f) (g ∷ fs) zero e = let z : ◌≡◌ {A = Option NodeFault} (Some (node_fault_of f)) (Some g) = e in cc
nth-told o (g ∷ fs) (suc j) e = nth-told o fs j e

-- ---- the sites of the first i rows, behind those of a table of clocks
module _ (t : List ℕ) where
  none_yet : sites (findings_in t 0) ≡ []
  unfolding findings_from sites
  none_yet = refl

  pub listed-none : (r : ClockTable) → Grown (λ cs. cs ++ sites (findings_in t 0)) r r
  listed-none r = record { same_reference = refl; same_length = refl; held = λ cs h. rw (none_yet, append-nil cs) h }

  module _ (i : ℕ) (r r' : ClockTable) where
    pub listed_same : sites (findings_in t (i + 1)) ≡ sites (findings_in t i) → Grown (λ cs. cs ++ sites (findings_in t i)) r r' → Grown (λ cs. cs ++ sites (findings_in t (i + 1))) r r'
    listed_same e g = rw e g

    pub listed_more : (r'' : ClockTable) (c : Clock) → sites (findings_in t (i + 1)) ≡ sites (findings_in t i) ++ (c ∷ []) → Grown (λ cs. cs ++ sites (findings_in t i)) r r' → Grown (λ cs. cs ++ (c ∷ [])) r' r''
        → Grown (λ cs. cs ++ sites (findings_in t (i + 1))) r r''
    listed_more r'' c e g h =
        record {
          same_reference = h.same_reference ∙ g.same_reference;
          same_length = h.same_length ∙ g.same_length;
          held = λ cs k. rw (e, ← append_assoc cs (sites (findings_in t i)) (c ∷ [])) (h.held _ (g.held cs k));
        }

-- ---- what is answered in the place of what was met: a value stays
pub ok-told : {A D : Type 0} (E : Type 0) (a : Result A D) (b : A) (Q : D → Type 0) → true ≡ is_ok a → MatchResult a (λ x. ◌≡◌ {A = Result A E} (Ok b) (Ok x)) Q → a ≡ Ok b
ok-told E (Ok x) b Q v m = let y : b ≡ x = cc in ap Ok (sym y)
ok-told E (Err d) b Q v m = absurd (true≢false v)
