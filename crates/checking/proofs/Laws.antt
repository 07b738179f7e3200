-- Checking, step by step: a name's clock, what is met at a token, operands on what may be a clock, a when and a merge.
use mathlib.Core.Path.{◌≡◌, refl, sym, ◌∙◌, ap, subst}
use mathlib.Core.List.{List, [], ◌∷◌, ◌++◌, append_assoc, append-nil}
use mathlib.Core.Bool.{Bool, true, false}
use mathlib.Core.Logic.{◌⊎◌, inl, inr}
use mathlib.Core.Option.{Option, none, some}
use Prim.Native.Nat.{ℕ, ◌+◌, ◌*◌, ◌≤◌, ◌<◌}
use native.Mathlib.Omega.{arith}
use lib.Dec.{eqb, ltb}
use lib.ListN.{length, get_or}
use borrow.Author.Tests.{eqb-true, eqb-false, ltb-true, ltb-false, ne_eqb}
use Rattle.definitions.specs.declared.Condition.{Condition}
use Rattle.definitions.specs.Lists.{choose}
use Rattle.definitions.specs.Tokens.{TagValue}
use Rattle.definitions.specs.Tree.{Expr}
use Rattle.definitions.specs.Clock.{Clock, base, ◌↓◌, depth, deepest, parent, same_clock, ends_in}
use Rattle.definitions.specs.InferClocks as rules
use Rattle.definitions.specs.InferClocks.{Clocks, clock_of, deep, formed, condition_over, natural, Fault, left_elsewhere, used_elsewhere, when_elsewhere, clock_name_elsewhere, Finding, found, site, too_deep, one_down, on_natural, or_base, must_be_on, check}
use Rattle.std.specs.Prelude.{Result, Ok, Err, IsOkAnd}
use Rattle.std.specs.Result.{MatchResult}
use Rattle.std.specs.Prelude as maybe
use Rattle.std.specs.Option.{unwrap_or}
use Rattle.grammar.specs.declared.source.Source.{Source}
use Rattle.grammar.specs.Read.{tokens_of}
use Rattle.grammar.specs.Step.{step_of, step_at}
use Rattle.grammar.proofs.ReaderLaws.{tokens-at, tokens-end}
use Rattle.clock_tables.specs.declared.clock.Clock as struct
use Rattle.clock_tables.specs.declared.TooDeep.{TooDeep}
use Rattle.clock_tables.specs.Value.{value_of, option_of, reached_of, natural_of}
use Rattle.clock_tables.specs.Flat.{clock_in}
use Rattle.clock_tables.proofs.FlatLaws.{Within, clock-same}
use Rattle.clock_tables.specs.Environment.{env_at}
use Rattle.findings.specs.Findings.{FindingsHeld}
use Rattle.findings.specs.Met.{Met}
use Rattle.findings.specs.declared.Findings as table
use Rattle.findings.specs.Value.{clock_fault_of}
use Rattle.findings.specs.declared.ClockFault.{ClockFault}
use Rattle.checking.specs.Walk.{other_than, meets, SiteStored, Stays}
use Rattle.checking.specs.declared.CheckOutput.{CheckOutput}

-- ---- what stands at a place, by what `token_at` says
module _ (s : Source) (p : ℕ) (o : maybe.Option (ℕ × ℕ × ℕ)) where
  -- this tag and value, and the next place
  abbrev pub Tells : ℕ → ℕ → ℕ → Type 0
  Tells tag x next = (o ≡ step_at (tokens_of s) p) × (o ≡ maybe.Some (tag, x, next))

  -- no token any more
  abbrev pub Ends : Type 0
  Ends = (o ≡ step_at (tokens_of s) p) × (o ≡ maybe.None)

  token-here : o ≡ step_at (tokens_of s) p → p < length s.tags.now → o ≡ maybe.Some (get_or s.tags.now p 0, get_or s.values.now p 0, p + 1)
  token-here e h = e ∙ ap (λ (t : Option TagValue). step_of t p) (tokens-at s.tags.now s.values.now p s.same_length h)

  token-past : o ≡ step_at (tokens_of s) p → length s.tags.now ≤ p → o ≡ maybe.None
  token-past e h = e ∙ ap (λ (t : Option TagValue). step_of t p) (tokens-end s.tags.now s.values.now p h)

  pub token-none : Ends → length s.tags.now ≤ p
  token-none (e, i) = go (ltb p (length s.tags.now)) refl
    where
      go : (b : Bool) → ltb p (length s.tags.now) ≡ b → length s.tags.now ≤ p
      go true h = let j = token-here e (ltb-true p (length s.tags.now) h) in absurd cc
      go false h = ltb-false p (length s.tags.now) h

  pub token-some : (tag x next : ℕ) → Tells tag x next → (tag ≡ get_or s.tags.now p 0) × (x ≡ get_or s.values.now p 0) × (next ≡ p + 1)
  token-some tag x next (e, i) = go (ltb p (length s.tags.now)) refl
    where
      go : (b : Bool) → ltb p (length s.tags.now) ≡ b → (tag ≡ get_or s.tags.now p 0) × (x ≡ get_or s.values.now p 0) × (next ≡ p + 1)
      go true h =
          let j = token-here e (ltb-true p (length s.tags.now) h) in
          let m : ◌≡◌ {A = ℕ × ℕ × ℕ} (tag, x, next) (get_or s.tags.now p 0, get_or s.values.now p 0, p + 1) = cc in
          (ap (λ (y : ℕ × ℕ × ℕ). y.0) m, ap (λ (y : ℕ × ℕ × ℕ). y.1) m, ap (λ (y : ℕ × ℕ × ℕ). y.2) m)
      go false h = let j = token-past e (ltb-false p (length s.tags.now) h) in absurd cc

-- ---- a clock unless it is too deep, as what may be a clock
pub some-clock : (r : Result struct.Clock TooDeep) (n : Result (maybe.Option struct.Clock) TooDeep) (Q : struct.Clock → maybe.Option struct.Clock → Type 0)
    → ((d : struct.Clock) (o : maybe.Option struct.Clock) → Q d o → o ≡ maybe.Some d) → MatchResult r (λ d. IsOkAnd n (Q d)) (λ e. n ≡ Err e) → natural_of n ≡ reached_of r
some-clock (Ok d) (Ok o) Q f h = ap (λ (u : maybe.Option struct.Clock). formed (option_of u)) (f d o h)
some-clock (Ok d) (Err e) Q f h = absurd h
some-clock (Err e) n Q f h = ap natural_of h

-- a clock, or base
pub or_value : (o : maybe.Option struct.Clock) (b c : struct.Clock) → value_of b ≡ base → c ≡ unwrap_or o b → value_of c ≡ or_base (option_of o)
or_value maybe.None b c e i = ap value_of i ∙ e
or_value (maybe.Some d) b c e i = ap value_of i

-- ---- tables and lists
pub stays-then : (o o' o'' : CheckOutput) → Stays o o' → Stays o' o'' → Stays o o''
stays-then o o' o'' a b =
    record {
      same_findings = b.same_findings ∙ a.same_findings;
      findings_stay = b.findings_stay ∙ a.findings_stay;
      sites_stay = b.sites_stay ∙ a.sites_stay;
      findings_length = b.findings_length ∙ a.findings_length;
      sites_length = b.sites_length ∙ a.sites_length;
    }

-- nothing is met where the table is as it was
pub nothing-met : (t u : table.Findings) (l : List Finding) → l ≡ [] → u ≡ t → Met l t u
nothing-met t u l e i = rw (e, i) (record { same_reference = refl; same_length = refl; held = λ fs h. rw (append-nil fs) h })

-- these findings are those, and that table is this
pub met-as : (t t' u : table.Findings) (k l : List Finding) → k ≡ l → t' ≡ t → Met k t' u → Met l t u
met-as t t' u k l e i m = rw (e, i) at m

-- these findings, then those
pub met-then : (t u v : table.Findings) (k l : List Finding) → Met k t u → Met l u v → Met (k ++ l) t v
met-then t u v k l a b =
    record {
      same_reference = b.same_reference ∙ a.same_reference;
      same_length = b.same_length ∙ a.same_length;
      held = λ fs h. subst (λ (z : List Finding). FindingsHeld v.words.now v.count z) (append_assoc fs k l) (b.held (fs ++ k) (a.held fs h));
    }

-- ---- a name's clock, where it is another
module _ (clocks : Clocks) (i : ℕ) (c : Clock) (F : Clock → Fault) where
  -- what is met of it
  abbrev told : Option Clock → List Finding
  told none = []
  told (some d) = found (record { equation = i; fault = F d }) ∷ []

  must-tell : (x : ℕ) → must_be_on clocks i c x F ≡ told (other_than c (clock_of clocks x))
  unfolding must_be_on
  must-tell x = go (clock_of clocks x)
    where
      by : (d : Clock) (b : Bool) → choose b [] (found (record { equation = i; fault = F d }) ∷ []) ≡ told (choose b none (some d))
      by d true = refl
      by d false = refl

      go : (o : Option Clock) → ◌≡◌ {A = List Finding} (elim o [ none ↦ [] | some d ↦ choose (same_clock d c) [] (found (record { equation = i; fault = F d }) ∷ []) ]) (told (other_than c o))
      go none = refl
      go (some d) = by d (same_clock d c)

  module _ (env : List ℕ) (x : ℕ) (k : env_at env x ≡ clock_of clocks x) (o : maybe.Option struct.Clock) (e : option_of o ≡ other_than c (env_at env x)) where
    told-by : must_be_on clocks i c x F ≡ told (option_of o)
    told-by = must-tell x ∙ ap told (ap (other_than c) (sym k) ∙ sym e)

    pub met-none : ((d : struct.Clock) → o ≡ maybe.Some d → ⊥) → must_be_on clocks i c x F ≡ []
    met-none h = told-by ∙ go o h
      where
        go : (o : maybe.Option struct.Clock) → ((d : struct.Clock) → o ≡ maybe.Some d → ⊥) → told (option_of o) ≡ []
        go maybe.None h = refl
        go (maybe.Some d) h = absurd (h d refl)

    pub met-other : (d : struct.Clock) (f : Fault) → o ≡ maybe.Some d → f ≡ F (value_of d) → found (record { equation = i; fault = f }) ∷ [] ≡ must_be_on clocks i c x F
    met-other d f h j = ap (λ (g : Fault). found (record { equation = i; fault = g }) ∷ []) j ∙ sym (told-by ∙ ap (λ (u : maybe.Option struct.Clock). told (option_of u)) h)

-- ---- one row of sites
pub site-in : (t t' : List ℕ) (c : Clock) (p : ℕ) → length t' ≡ length t → (17 * p + 17 ≤ length t → clock_in t' (17 * p) ≡ c) → Within t t' (17 * p) 17 → SiteStored t t' true c p
site-in t t' c p n e w = record { long = n; here = λ b. e; elsewhere = λ j m. clock-same t t' (17 * j) (λ i u v. w i (apart i j u v m)) }
  where
    apart : (i j : ℕ) → 17 * j ≤ i → i < 17 * j + 17 → (j ≡ p → ⊥) → (i < 17 * p) ⊎ (17 * p + 17 ≤ i)
    apart i j u v m = go (ltb i (17 * p)) refl
      where
        go : (b : Bool) → ltb i (17 * p) ≡ b → (i < 17 * p) ⊎ (17 * p + 17 ≤ i)
        go true k = inl (ltb-true _ _ k)
        go false k = let l = ltb-false i (17 * p) k in inr (omega arith)

-- ---- what is met at a token, by its tag
module _ (clocks : Clocks) (i : ℕ) (c : Clock) (tag x : ℕ) where
  pub meets-name : tag ≡ 54 → must_be_on clocks i c x (λ d. used_elsewhere x d c) ≡ meets clocks i c tag x
  unfolding meets
  meets-name e = rw e

  pub meets-site : 58 ≤ tag → tag ≤ 59 → site c ∷ [] ≡ meets clocks i c tag x
  unfolding meets
  meets-site l m = go (eqb tag 58) refl
    where
      go : (b : Bool) → eqb tag 58 ≡ b → site c ∷ [] ≡ meets clocks i c tag x
      go true e = let h : tag ≡ 58 = eqb-true tag 58 e in rw h
      go false e = let h : tag ≡ 59 = omega (arith, eqb-false tag 58 e) in rw h

  pub meets-none : (tag ≡ 54 → ⊥) → (tag ≡ 58 → ⊥) → (tag ≡ 59 → ⊥) → meets clocks i c tag x ≡ []
  unfolding meets
  meets-none a b d = rw (ne_eqb tag 54 a, ne_eqb tag 58 b, ne_eqb tag 59 d)

-- one condition down
pub one_down_lem : (n : rules.Natural) (c : Clock) (k : Condition) (f : Clock → List Finding) → n ≡ condition_over k (formed (some c)) → on_natural n f ≡ one_down c k f
one_down_lem n c k f i = rw i (go (ltb (depth c) deepest))
  where
    go : (b : Bool) → on_natural (choose b (formed (some (c ↓ k))) deep) f ≡ elim b [ true ↦ f (c ↓ k) | false ↦ too_deep ∷ [] ]
    go true = refl
    go false = refl

-- ---- a when
module _ (clocks : Clocks) (i : ℕ) (c : Clock) (k : Condition) (e : Expr) (b : Bool) (j : b ≡ ends_in k c) where
  -- by whether the condition matches
  abbrev when-by : Bool → List Finding
  when-by true = must_be_on clocks i (parent c) k.name (λ a. clock_name_elsewhere k.name a (parent c)) ++ check clocks i (parent c) e
  when-by false = found (record { equation = i; fault = when_elsewhere k c }) ∷ on_natural (natural clocks e) (λ a. check clocks i a e)

  when-is : check clocks i c (Expr.when k e) ≡ when-by b
  unfolding check
  when-is = go (ends_in k c) ∙ ap when-by (sym j)
    where
      go : (a : Bool) → ◌≡◌ {A = List Finding} (elim a [
        | true ↦ must_be_on clocks i (parent c) k.name (λ a. clock_name_elsewhere k.name a (parent c)) ++ check clocks i (parent c) e
        | false ↦ found (record { equation = i; fault = when_elsewhere k c }) ∷ on_natural (natural clocks e) (λ a. check clocks i a e)
      ]) (when-by a)
      go true = refl
      go false = refl

  pub when-match : (u : Clock) → b ≡ true → u ≡ parent c → must_be_on clocks i u k.name (λ a. clock_name_elsewhere k.name a u) ++ check clocks i u e ≡ check clocks i c (Expr.when k e)
  when-match u h m = ap (λ (w : Clock). must_be_on clocks i w k.name (λ a. clock_name_elsewhere k.name a w) ++ check clocks i w e) m ∙ sym (when-is ∙ ap when-by h)

  pub when-other : (n : rules.Natural) → b ≡ false → n ≡ natural clocks e → found (record { equation = i; fault = when_elsewhere k c }) ∷ on_natural n (λ a. check clocks i a e) ≡ check clocks i c (Expr.when k e)
  when-other n h l = ap (λ (m : rules.Natural). found (record { equation = i; fault = when_elsewhere k c }) ∷ on_natural m (λ a. check clocks i a e)) l ∙ sym (when-is ∙ ap when-by h)

-- a fault of a left name, which says whether it is an input or output
pub left-told : (x : ℕ) (d on : struct.Clock) (f : ClockFault) (port b : Bool) → f ≡ ClockFault.LeftElsewhere (record { name = x; on = d; expected = on }) port → port ≡ b → clock_fault_of f ≡ left_elsewhere x (value_of d) (value_of on) b
left-told x d on f port b e h = ap clock_fault_of e ∙ ap (left_elsewhere x (value_of d) (value_of on)) h
