-- Walks: stretches one after another, and each step of a walk.
use mathlib.Core.Path.{◌≡◌, refl, sym, ◌∙◌, ap, subst}
use mathlib.Core.Bool.{Bool, true, false, true≢false}
use mathlib.Core.List.{List, [], ◌∷◌, ◌++◌, append_assoc, append-nil}
use mathlib.Core.Logic.{◌⊎◌, inl, inr}
use mathlib.Core.Option.{Option, none, some}
use Prim.Native.Nat.{ℕ, suc, ◌+◌, ◌-◌, ◌*◌, ◌≤◌, ◌<◌}
use native.Mathlib.Omega.{arith}
use lib.Dec.{eqb, ltb}
use lib.ListN.{length, get_or}
use borrow.Author.Tests.{ltb-true, ltb-false, eqb-true, eqb-false}
use Rattle.std.specs.Prelude as maybe
use Rattle.definitions.specs.declared.Condition.{Condition}
use Rattle.definitions.specs.Lists.{choose}
use Rattle.definitions.specs.Bytes.{tokens}
use Rattle.definitions.specs.Tree.{Expr, Exprs, Equation}
use Rattle.definitions.specs.Reading.{got}
use Rattle.definitions.specs.Grammar.{append, equation}
use Rattle.definitions.specs.Clock.{Clock, base, ◌↓◌, depth, deepest, parent, is_on, is_not, ends_in}
use Rattle.definitions.specs.InferClocks as rules
use Rattle.definitions.specs.InferClocks.{Clocks, clock_of, deep, formed, condition_over, natural, Finding, found, when_elsewhere, clock_name_elsewhere, too_deep, one_down, on_natural, or_base, must_be_on, check, checks}
use Rattle.layout.specs.Owed.{follows}
use Rattle.layout.specs.Marks.{is_sample}
use Rattle.layout.proofs.Owed.{owed-on, owed-few}
use Rattle.clock_tables.specs.Flat.{clock_in}
use Rattle.clock_tables.specs.Environment.{env_at, Agrees}
use Rattle.findings.specs.Met.{Met}
use Rattle.operands.specs.declared.Role.{Role}
use Rattle.operands.specs.Role.{role_of_expr, one}
use Rattle.operands.specs.Spread.{tree}
use Rattle.skeleton.specs.Lies.{Frame, hole, code_at, parts_at, Lies, LiesAt}
use Rattle.skeleton.specs.Sites.{is_site, WasRead, Sited}
use Rattle.skeleton.proofs.Laws.{lies-owed, lies-none, Seen, sign-first, expr-first, seen_at, seen-cons, sample_in, join-in}
use Rattle.skeleton.proofs.Reading.{reads-lie}
use Rattle.checking.specs.Walk.{only_sites, is_site_tag, meets, SiteStored, Traversed, Stands, ReadAll, StandAll, EquationStored}
use Rattle.checking.specs.declared.CheckInput.{CheckInput}
use Rattle.checking.specs.declared.CheckOutput.{CheckOutput}
use Rattle.checking.proofs.Laws.{Tells, Ends, token-none, token-some, nothing-met, met-as, met-then, meets-none, one_down_lem, when-match, when-other}
use Rattle.checking.proofs.Only.{only-both}
use Rattle.checking.proofs.Flatten.{lies-join, lies-apart, read-ends, name-is, when-is, when-not-is, merge-is, not-sampled, sampled-range, Opened, opened}

-- ---- what is met in lists of expressions
checks-append : (clocks : Clocks) (i : ℕ) (c : Clock) (us es : Exprs) → checks clocks i c us ++ checks clocks i c es ≡ checks clocks i c (append us es)
unfolding check
checks-append clocks i c Exprs.end es = refl
checks-append clocks i c (Exprs.and e us) es = append_assoc (check clocks i c e) (checks clocks i c us) (checks clocks i c es) ∙ ap (λ (l : List Finding). check clocks i c e ++ l) (checks-append clocks i c us es)

checks-and : (clocks : Clocks) (i : ℕ) (c : Clock) (e : Expr) (es : Exprs) → check clocks i c e ++ checks clocks i c es ≡ checks clocks i c (Exprs.and e es)
unfolding check
checks-and clocks i c e es = refl

checks-one : (clocks : Clocks) (i : ℕ) (c : Clock) (e : Expr) → checks clocks i c (one e) ≡ check clocks i c e
unfolding check
checks-one clocks i c e = append-nil _

checks-none : (clocks : Clocks) (i : ℕ) (c : Clock) (es : Exprs) → es ≡ Exprs.end → [] ≡ checks clocks i c es
unfolding check
checks-none clocks i c es h = rw h

-- what is read, by shorter names
module _ (input : CheckInput) where
  abbrev M : ℕ
  M = input.source.names

  abbrev gs : List ℕ
  gs = input.source.tags.now

  abbrev vs : List ℕ
  vs = input.source.values.now

  abbrev env : List ℕ
  env = input.env.now

  abbrev i : ℕ
  i = input.equation

  -- ---- stretches
  module _ (F G : Clocks → List Finding) (P Q : List ℕ → Type 0) where
    trav-then : (out out' out'' : CheckOutput) (p m q r o : ℕ) → length out'.sites.now ≡ length out.sites.now → p ≤ m → m ≤ q → Traversed input out out' F P p m r → Traversed input out' out'' G Q m q o → Traversed input out out'' (λ cs. F cs ++ G cs) (λ l. P l × Q l) p q o
    trav-then out out' out'' p m q r o len x y s u =
        record {
          end = u.end;
          holds = λ cs a. met-then _ _ _ (F cs) (G cs) (s.holds cs a) (u.holds cs a);
          kept = kept;
          sited = λ cs room only later agree. let b = only-both (F cs) (G cs) only in (s.sited cs room b.0 later (λ j v w. agree j v (omega arith) ∙ u.kept j (inl w)), u.sited cs (omega arith) b.1 later (λ j v w. agree j (omega arith) w));
        }
      where
        kept : (j : ℕ) → (j < p) ⊎ (q ≤ j) → clock_in out''.sites.now (17 * j) ≡ clock_in out.sites.now (17 * j)
        kept j (inl h) = u.kept j (inl (omega arith)) ∙ s.kept j (inl h)
        kept j (inr h) = u.kept j (inr h) ∙ s.kept j (inr (omega arith))

    trav-as : (out out' : CheckOutput) (p q r : ℕ) → ((cs : Clocks) → F cs ≡ G cs) → ((later : List ℕ) → P later → Q later) → Traversed input out out' F P p q r → Traversed input out out' G Q p q r
    trav-as out out' p q r i f s =
        record {
          end = s.end;
          holds = λ cs a. met-as _ _ _ (F cs) (G cs) (i cs) refl (s.holds cs a);
          kept = s.kept;
          sited = λ cs room only later agree. f later (s.sited cs room (ap (λ (l : List Finding). only_sites l) (i cs) ∙ only) later agree);
        }

    -- something met before, in front of the first token
    trav-after : (out out' out'' : CheckOutput) (p q r : ℕ) → out'.sites.now ≡ out.sites.now → ((cs : Clocks) → Agrees env M cs → Met (F cs) out.findings.now out'.findings.now) → Traversed input out' out'' G P p q r → Traversed input out out'' (λ cs. F cs ++ G cs) P p q r
    trav-after out out' out'' p q r same f u =
        record {
          end = u.end;
          holds = λ cs a. met-then _ _ _ (F cs) (G cs) (f cs a) (u.holds cs a);
          kept = λ j h. u.kept j h ∙ ap (λ (l : List ℕ). clock_in l (17 * j)) same;
          sited = λ cs room only later agree. u.sited cs (rw same room) (only-both (F cs) (G cs) only).1 later agree;
        }

  trav-wider : (F : Clocks → List Finding) (P : List ℕ → Type 0) (out out' : CheckOutput) (p q r : ℕ) → Traversed input out out' F P (p + 1) q r → Traversed input out out' F P p q r
  trav-wider F P out out' p q r s = record { end = s.end; holds = s.holds; kept = kept; sited = λ cs room only later agree. s.sited cs room only later (λ j v w. agree j (omega arith) w) }
    where
      kept : (j : ℕ) → (j < p) ⊎ (q ≤ j) → clock_in out'.sites.now (17 * j) ≡ clock_in out.sites.now (17 * j)
      kept j (inl h) = s.kept j (inl (omega arith))
      kept j (inr h) = s.kept j (inr h)

  trav-none : (P : List ℕ → Type 0) (out : CheckOutput) (p : ℕ) → ((later : List ℕ) → P later) → Traversed input out out (λ cs. []) P p p p
  trav-none P out p f = record { end = refl; holds = λ cs a. nothing-met _ _ [] refl refl; kept = λ j h. refl; sited = λ cs room only later agree. f later }

  -- a token, and its row if it is a site
  module _ (c : Clock) (out out' : CheckOutput) (p tag x : ℕ) where
    abbrev pub Enters : Type 0
    Enters = (clocks : Clocks) → (tag ≡ 54 → env_at env x ≡ clock_of clocks x) → Met (meets clocks i c tag x) out.findings.now out'.findings.now

    entered : (P : List ℕ → Type 0) → SiteStored out.sites.now out'.sites.now (is_site_tag tag) c p → Enters → (tag ≡ 54 → x < M) → ((later : List ℕ) → (is_site_tag tag ≡ true → 17 * length gs ≤ length out.sites.now → p < length gs → clock_in later (17 * p) ≡ c) → 17 * length gs ≤ length out.sites.now → P later) →
        Traversed input out out' (λ cs. meets cs i c tag x) P p (p + 1) (p + 1)
    entered P s f low u =
        record {
          end = refl;
          holds = λ cs a. f cs (λ e. a.same x (low e));
          kept = kept;
          sited = λ cs room only later agree. u later (λ e v w. agree p (omega arith) (omega arith) ∙ s.here e (omega arith)) room;
        }
      where
        kept : (j : ℕ) → (j < p) ⊎ (p + 1 ≤ j) → clock_in out'.sites.now (17 * j) ≡ clock_in out.sites.now (17 * j)
        kept j (inl h) = s.elsewhere j (λ e. omega arith)
        kept j (inr h) = s.elsewhere j (λ e. omega arith)

  -- the contracts of `check_expr` and `check_exprs`
  abbrev pub Walks : CheckOutput → CheckOutput → Clock → ℕ → ℕ → Type 0
  Walks out out' c at r = (e : Expr) (q : ℕ) → tree M (tokens gs vs) at ≡ got e q → Traversed input out out' (λ cs. check cs i c e) (λ later. Stands input later c e at q) at q r

  abbrev pub WalksAll : CheckOutput → CheckOutput → Clock → ℕ → ℕ → ℕ → Type 0
  WalksAll out out' c many at r = (es : Exprs) (fs : Frame) (q : ℕ) → ReadAll input c es fs at many q → Traversed input out out' (λ cs. checks cs i c es) (λ later. StandAll input later c es fs at many q) at q r

  -- what was read lies so
  read-lies : (p : ℕ) (e : Expr) (q : ℕ) → tree M (tokens gs vs) p ≡ got e q → (c : Clock) → LiesAt gs vs (WasRead M gs vs) c e p q
  read-lies p e q g c = reads-lie gs vs input.source.same_length M (WasRead M gs vs) (λ d f a b h. h) p e q g c

  lies-read : {c : Clock} {e : Expr} {p q : ℕ} → LiesAt gs vs (WasRead M gs vs) c e p q → tree M (tokens gs vs) p ≡ got e q
  lies-read {e = e} d = (seen_at e refl refl refl d).1

  -- ---- no parts, a token, an expression
  pub walks-none : (out : CheckOutput) (c : Clock) (k at : ℕ) → k ≡ 0 → WalksAll out out c k at at
  walks-none out c k at z es fs q d =
      let x = lies-none d z in
      subst (λ (m : ℕ). Traversed input out out (λ cs. checks cs i c es) (λ later. StandAll input later c es fs at k m) at m at) x.2
      (trav-as (λ cs. []) (λ cs. checks cs i c es) _ _ out out at at _ (λ cs. checks-none cs i c es x.0) (λ later p. p)
      (trav-none (λ later. StandAll input later c es fs at k at) out at (λ later. rw (x.0, x.1, z) Lies.done)))

  module _ (out out' out'' : CheckOutput) (c : Clock) (k at r : ℕ) (stored : SiteStored out.sites.now out'.sites.now (is_site_tag (get_or gs at 0)) c at)
      (enters : Enters c out out' at (get_or gs at 0) (get_or vs at 0)) (z : 0 < k) (many : ℕ) (few : many ≡ k - 1 + parts_at gs vs at) (E : WalksAll out' out'' c many (at + 1) r) where
    token-sign : get_or gs at 0 < 50 → (es : Exprs) (fs : Frame) (q : ℕ) → ReadAll input c es fs at k q → Traversed input out out'' (λ cs. checks cs i c es) (λ later. StandAll input later c es fs at k q) at q r
    token-sign low es fs q d =
        let x = sign-first d z low in
        let o = owed-on (lies-owed x.3) in
        let e : suc (k - 1) ≡ k = omega arith in
        trav-as (λ cs. meets cs i c (get_or gs at 0) (get_or vs at 0) ++ checks cs i c es) (λ cs. checks cs i c es) (λ later. Unit {0} × StandAll input later c es x.0 (at + 1) many q) _ out out'' at q r
        (λ cs. ap (λ (l : List Finding). l ++ checks cs i c es) (meets-none cs i c (get_or gs at 0) (get_or vs at 0) (λ h. omega arith) (λ h. omega arith) (λ h. omega arith)))
        (λ later p. subst (λ (l : Frame). StandAll input later c es l at k q) (sym x.1) (subst (λ (l : ℕ). StandAll input later c es (some (code_at gs vs at) ∷ x.0) at l q) e (Lies.sign x.2 low (subst (λ (l : ℕ). StandAll input later c es x.0 (at + 1) l q) few p.1))))
        (trav-then (λ cs. meets cs i c (get_or gs at 0) (get_or vs at 0)) (λ cs. checks cs i c es) (λ later. Unit {0}) (λ later. StandAll input later c es x.0 (at + 1) many q) out out' out'' at (at + 1) q (at + 1) r stored.long (omega arith) (omega arith)
        (entered c out out' at (get_or gs at 0) (get_or vs at 0) (λ later. Unit {0}) stored enters (λ h. absurd (omega arith)) (λ later h room. tt))
        (E es x.0 q (subst (λ (l : ℕ). ReadAll input c es x.0 (at + 1) l q) (sym few) x.3)))

    -- the first of the parts is this expression, which ends at s
    token-expr : (e : Expr) (es : Exprs) (fs : Frame) (s q : ℕ) → at < length gs → tree M (tokens gs vs) at ≡ got e s → Opened M gs vs c e at s → ReadAll input c es fs s (k - 1) q →
        Traversed input out out'' (λ cs. checks cs i c (Exprs.and e es)) (λ later. StandAll input later c (Exprs.and e es) (none ∷ fs) at (suc (k - 1)) q) at q r
    token-expr e es fs s q b g o d =
        let u : many ≡ parts_at gs vs at + (k - 1) = omega arith in
        let f = owed-on (lies-owed d) in
        let h = owed-on (lies-owed o.inside) in
        trav-as (λ cs. meets cs i c (get_or gs at 0) (get_or vs at 0) ++ checks cs i c (append o.own es)) (λ cs. checks cs i c (Exprs.and e es)) (λ later. Sited M gs vs later c e at s × StandAll input later c (append o.own es) (o.frame ++ fs) (at + 1) many q) _ out out'' at q r
        (λ cs. ap (λ (l : List Finding). meets cs i c (get_or gs at 0) (get_or vs at 0) ++ l) (sym (checks-append cs i c o.own es)) ∙ (sym (append_assoc (meets cs i c (get_or gs at 0) (get_or vs at 0)) (checks cs i c o.own) (checks cs i c es)) ∙ (ap (λ (l : List Finding). l ++ checks cs i c es) (o.met cs i) ∙ checks-and cs i c e es)))
        (λ later p. let x = lies-apart gs vs (WasRead M gs vs) (Sited M gs vs later) (read-ends M gs vs later) es fs (k - 1) q o.inside many u p.1 in seen-cons b p.0 (o.again later x.0) x.1)
        (trav-then (λ cs. meets cs i c (get_or gs at 0) (get_or vs at 0)) (λ cs. checks cs i c (append o.own es)) (λ later. Sited M gs vs later c e at s) (λ later. StandAll input later c (append o.own es) (o.frame ++ fs) (at + 1) many q) out out' out'' at (at + 1) q (at + 1) r stored.long (omega arith) (omega arith)
        (entered c out out' at (get_or gs at 0) (get_or vs at 0) (λ later. Sited M gs vs later c e at s) stored enters (λ h. (name-is M gs vs input.source.same_length at e s g h).0) (λ later h room. record { stands = g; row = λ v. h (o.marked v) room b }))
        (E (append o.own es) (o.frame ++ fs) q (subst (λ (l : ℕ). ReadAll input c (append o.own es) (o.frame ++ fs) (at + 1) l q) (sym u) (lies-join o.inside d))))

    token-first : is_sample (get_or gs at 0) ≡ false → WalksAll out out'' c k at r
    token-first no-when es fs q d = go (ltb (get_or gs at 0) 50) refl
      where
        go : (b : Bool) → ltb (get_or gs at 0) 50 ≡ b → Traversed input out out'' (λ cs. checks cs i c es) (λ later. StandAll input later c es fs at k q) at q r
        go true h = token-sign (ltb-true (get_or gs at 0) 50 h) es fs q d
        go false h =
            let x = expr-first d z (ltb-false (get_or gs at 0) 50 h) in
            let u = not-sampled (get_or gs at 0) no-when in
            let o = opened M gs vs input.source.same_length c at x.first x.end x.known x.seen u.0 u.1 u.2 in
            let A = token-expr x.first x.others x.frame x.end q x.there x.known o x.rest in
            let B = subst (λ (l : Exprs). Traversed input out out'' (λ cs. checks cs i c l) (λ later. StandAll input later c l (none ∷ x.frame) at (suc (k - 1)) q) at q r) (sym x.whole) A in
            let C = subst (λ (l : Frame). Traversed input out out'' (λ cs. checks cs i c es) (λ later. StandAll input later c es l at (suc (k - 1)) q) at q r) (sym x.framed) B in
            subst (λ (l : ℕ). Traversed input out out'' (λ cs. checks cs i c es) (λ later. StandAll input later c es fs at l q) at q r) (omega arith) C

  -- the same, of a token that was looked at
  pub walks-token : (out out' out'' : CheckOutput) (c : Clock) (k at r : ℕ) (o : maybe.Option (ℕ × ℕ × ℕ)) (tag x next : ℕ) → Tells input.source at o tag x next → SiteStored out.sites.now out'.sites.now (is_site_tag tag) c at → Enters c out out' at tag x →
      0 < k → (many : ℕ) → many ≡ k - 1 + follows tag x → WalksAll out' out'' c many next r → is_sample tag ≡ false → WalksAll out out'' c k at r
  walks-token out out' out'' c k at r o tag x next told stored enters z many few E no-when =
      let h = token-some input.source at o tag x next told in
      token-first out out' out'' c k at r (rw h.0 at stored) (rw (h.0, h.1) at enters) z many (rw (h.0, h.1) at few) (rw h.2 at E) (rw h.0 at no-when)

  -- an expression, then the others
  module _ (out out' out'' : CheckOutput) (c : Clock) (at w r : ℕ) (len : length out'.sites.now ≡ length out.sites.now) (W : Walks out out' c at w) where
    item : (k : ℕ) → WalksAll out' out'' c k w r → (e : Expr) (es : Exprs) (fs : Frame) (s q : ℕ) → at < length gs → LiesAt gs vs (WasRead M gs vs) c e at s → ReadAll input c es fs s k q →
        Traversed input out out'' (λ cs. checks cs i c (Exprs.and e es)) (λ later. StandAll input later c (Exprs.and e es) (none ∷ fs) at (suc k) q) at q r
    item k F e es fs s q b d x =
        let a = W e s (lies-read d) in
        let f = owed-on (lies-owed d) in
        let g = owed-on (lies-owed x) in
        let o = F es fs q (subst (λ (z : ℕ). ReadAll input c es fs z k q) (sym a.end) x) in
        trav-as (λ cs. check cs i c e ++ checks cs i c es) (λ cs. checks cs i c (Exprs.and e es)) (λ later. Stands input later c e at s × StandAll input later c es fs s k q) _ out out'' at q r (λ cs. checks-and cs i c e es)
        (λ later p. let y = seen_at e refl refl refl p.0 in seen-cons b y.1 y.2 p.1)
        (trav-then (λ cs. check cs i c e) (λ cs. checks cs i c es) (λ later. Stands input later c e at s) (λ later. StandAll input later c es fs s k q) out out' out'' at s q w r len (omega arith) (omega arith) a
        (subst (λ (z : ℕ). Traversed input out' out'' (λ cs. checks cs i c es) (λ later. StandAll input later c es fs z k q) z q r) a.end o))

    pub walks-item : (o : maybe.Option (ℕ × ℕ × ℕ)) (tag x next : ℕ) → Tells input.source at o tag x next → is_sample tag ≡ true → (k : ℕ) → 0 < k → WalksAll out' out'' c (k - 1) w r → WalksAll out out'' c k at r
    walks-item o tag y next u h k z F es fs q d =
        let x = expr-first d z (omega (arith, (token-some input.source at o tag y next u).0, (sampled-range tag h).0)) in
        let A = item (k - 1) F x.first x.others x.frame x.end q x.there x.here x.rest in
        let B = subst (λ (l : Exprs). Traversed input out out'' (λ cs. checks cs i c l) (λ later. StandAll input later c l (none ∷ x.frame) at (suc (k - 1)) q) at q r) (sym x.whole) A in
        let C = subst (λ (l : Frame). Traversed input out out'' (λ cs. checks cs i c es) (λ later. StandAll input later c es l at (suc (k - 1)) q) at q r) (sym x.framed) B in
        subst (λ (l : ℕ). Traversed input out out'' (λ cs. checks cs i c es) (λ later. StandAll input later c es fs at l q) at q r) (omega arith) C

  -- an expression that was walked ends behind its place
  pub item-past : (out out' : CheckOutput) (c : Clock) (at w : ℕ) → Walks out out' c at w → (o : maybe.Option (ℕ × ℕ × ℕ)) (tag x next : ℕ) → Tells input.source at o tag x next → is_sample tag ≡ true → (k : ℕ) → 0 < k → (es : Exprs) (fs : Frame) (q : ℕ) → ReadAll input c es fs at k q → at < w
  item-past out out' c at w W o tag y next u h k z es fs q d =
      let x = expr-first d z (omega (arith, (token-some input.source at o tag y next u).0, (sampled-range tag h).0)) in
      let a = W x.first x.end x.known in
      let f = owed-on (lies-owed x.here) in
      let g = a.end in
      omega arith

  -- parts that are left: there is a token, and they are no more than all tokens
  pub parts-past : (c : Clock) (k at : ℕ) → 0 < k → (o : maybe.Option (ℕ × ℕ × ℕ)) → Ends input.source at o → (es : Exprs) (fs : Frame) (q : ℕ) → ReadAll input c es fs at k q → ⊥
  parts-past c k at z o told es fs q d = omega (arith, owed-few (lies-owed d), token-none input.source at o told)

  pub parts-few : (c : Clock) (k at : ℕ) (es : Exprs) (fs : Frame) (q : ℕ) → ReadAll input c es fs at k q → k ≤ length gs
  parts-few c k at es fs q d = omega (arith, owed-few (lies-owed d))

  -- ---- `check_expr`, by the first token
  pub walks-past : (at : ℕ) (o : maybe.Option (ℕ × ℕ × ℕ)) → Ends input.source at o → (e : Expr) (q : ℕ) → tree M (tokens gs vs) at ≡ got e q → ⊥
  walks-past at o told e q g = let x = seen_at e refl refl refl (read-lies at e q g base) in omega (arith, x.0, token-none input.source at o told)

  pub walks-other : (out out' : CheckOutput) (c : Clock) (at r : ℕ) → WalksAll out out' c 1 at r → Walks out out' c at r
  walks-other out out' c at r E e q g = trav-as (λ cs. checks cs i c (one e)) (λ cs. check cs i c e) _ _ out out' at q r (λ cs. checks-one cs i c e) (λ later p. p) (E (one e) hole q (read-lies at e q g c))

  -- the contracts of `check_sample` and `check_merge`
  abbrev pub Samples : CheckOutput → CheckOutput → Clock → Condition → ℕ → ℕ → Type 0
  Samples out out' c k at r = (e : Expr) (q : ℕ) → k.name < M → tree M (tokens gs vs) at ≡ got e q → Traversed input out out' (λ cs. check cs i c (Expr.when k e)) (λ later. Stands input later (parent c) e at q) at q r

  abbrev pub Merges : CheckOutput → CheckOutput → Clock → ℕ → ℕ → ℕ → Type 0
  Merges out out' c x at r = (a b : Expr) (m q : ℕ) → x < M → tree M (tokens gs vs) at ≡ got a m → tree M (tokens gs vs) m ≡ got b q →
      Traversed input out out' (λ cs. check cs i c (Expr.merge x a b)) (λ later. Stands input later (c ↓ is_on x) a at m × Stands input later (c ↓ is_not x) b m q) at q r

  module _ (out out' : CheckOutput) (c : Clock) (at r : ℕ) where
    samples : (k : Condition) → 67 ≤ get_or gs at 0 → get_or gs at 0 < 69 → ((e : Expr) (q : ℕ) → tree M (tokens gs vs) at ≡ got e q → (k.name < M) × (Role.Sample k ≡ role_of_expr e)) → Samples out out' c k (at + 1) r → Walks out out' c at r
    unfolding role_of_expr
    samples k lo hi K E e q g =
        let x = seen_at e refl refl refl (read-lies at e q g c) in
        let o = sample_in x.2 lo hi in
        let u = K e q g in
        let v : Role.Sample k ≡ Role.Sample o.0 = u.1 ∙ ap role_of_expr o.2 in
        let l : k ≡ o.0 = cc v in
        let w : e ≡ Expr.when k o.1 = o.2 ∙ ap (λ (z : Condition). Expr.when z o.1) (sym l) in
        trav-wider (λ cs. check cs i c e) (λ later. Stands input later c e at q) out out' at q r
        (trav-as (λ cs. check cs i c (Expr.when k o.1)) (λ cs. check cs i c e) (λ later. Stands input later (parent c) o.1 (at + 1) q) (λ later. Stands input later c e at q) out out' (at + 1) q r
        (λ cs. ap (λ (z : Expr). check cs i c z) (sym w))
        (λ later p. seen-cons x.0 (record { stands = g; row = λ h. absurd (true≢false (sym h ∙ ap is_site w)) }) (Seen.sample k o.1 w lo hi p) Lies.done)
        (E o.1 q u.0 (lies-read o.3)))

    sample-first : (k : Condition) → is_sample (get_or gs at 0) ≡ true → (get_or gs at 0 ≡ 69 → ⊥) → k ≡ choose (eqb (get_or gs at 0) 67) (is_on (get_or vs at 0)) (is_not (get_or vs at 0)) → Samples out out' c k (at + 1) r → Walks out out' c at r
    sample-first k o d j E = let u = sampled-range (get_or gs at 0) o in samples k u.0 (omega (arith, u.1, d)) (λ e q g. by-tag e q g (eqb (get_or gs at 0) 67) refl) E
      where
        by-tag : (e : Expr) (q : ℕ) → tree M (tokens gs vs) at ≡ got e q → (b : Bool) → eqb (get_or gs at 0) 67 ≡ b → (k.name < M) × (Role.Sample k ≡ role_of_expr e)
        by-tag e q g true h = let u = when-is M gs vs input.source.same_length at e q g (eqb-true (get_or gs at 0) 67 h) in rw (j, h) u
        by-tag e q g false h = let v = eqb-false (get_or gs at 0) 67 h in let x = sampled-range (get_or gs at 0) o in let w : get_or gs at 0 ≡ 68 = omega (arith, x.0, x.1, d, v) in let u = when-not-is M gs vs input.source.same_length at e q g w in rw (j, h) u

    join-first : get_or gs at 0 ≡ 69 → Merges out out' c (get_or vs at 0) (at + 1) r → Walks out out' c at r
    join-first tag E e q g =
        let x = seen_at e refl refl refl (read-lies at e q g c) in
        let o = join-in x.2 tag in
        let u = merge-is M gs vs input.source.same_length at e q g tag in
        let w : e ≡ Expr.merge (get_or vs at 0) o.1 o.2 = o.4 ∙ ap (λ (z : ℕ). Expr.merge z o.1 o.2) (sym o.5) in
        trav-wider (λ cs. check cs i c e) (λ later. Stands input later c e at q) out out' at q r
        (trav-as (λ cs. check cs i c (Expr.merge (get_or vs at 0) o.1 o.2)) (λ cs. check cs i c e)
        (λ later. Stands input later (c ↓ is_on (get_or vs at 0)) o.1 (at + 1) o.3 × Stands input later (c ↓ is_not (get_or vs at 0)) o.2 o.3 q) (λ later. Stands input later c e at q) out out' (at + 1) q r
        (λ cs. ap (λ (z : Expr). check cs i c z) (sym w))
        (λ later p. seen-cons x.0 (record { stands = g; row = λ h. absurd (true≢false (sym h ∙ ap is_site w)) }) (Seen.join (get_or vs at 0) o.1 o.2 o.3 w tag refl p.0 p.1) Lies.done)
        (E o.1 o.2 o.3 q u.0 (lies-read o.6) (lies-read o.7)))

    -- the same, of a token that was looked at
    module _ (o : maybe.Option (ℕ × ℕ × ℕ)) (tag x next : ℕ) (told : Tells input.source at o tag x next) where
      pub walks-sample : (k : Condition) → is_sample tag ≡ true → (tag ≡ 69 → ⊥) → k ≡ choose (eqb tag 67) (is_on x) (is_not x) → Samples out out' c k next r → Walks out out' c at r
      walks-sample k b d j E = let h = token-some input.source at o tag x next told in sample-first k (rw h.0 at b) (rw h.0 at d) (rw (h.0, h.1) at j) (rw h.2 at E)

      pub walks-join : tag ≡ 69 → Merges out out' c x next r → Walks out out' c at r
      walks-join j E = let h = token-some input.source at o tag x next told in join-first (rw h.0 at j) (rw (h.1, h.2) at E)

  -- ---- on what may be a clock
  abbrev pub Overs : CheckOutput → CheckOutput → rules.Natural → ℕ → ℕ → Type 0
  Overs out out' over at r = (e : Expr) (q : ℕ) → tree M (tokens gs vs) at ≡ got e q → Traversed input out out' (λ cs. on_natural over (λ d. check cs i d e)) (λ later. (d : Clock) → over ≡ formed (some d) → Stands input later d e at q) at q r

  pub walks-over : (out out' : CheckOutput) (c : Clock) (n : rules.Natural) (own : Option Clock) (at r : ℕ) → n ≡ formed own → c ≡ or_base own → Walks out out' c at r → Overs out out' n at r
  walks-over out out' c n own at r a b W e q g =
      trav-as (λ cs. check cs i c e) (λ cs. on_natural n (λ d. check cs i d e)) (λ later. Stands input later c e at q) _ out out' at q r
      (λ cs. met cs own a b) (λ later p d h. subst (λ (z : Clock). Stands input later z e at q) (here d own h a b) p) (W e q g)
    where
      met : (cs : Clocks) (own : Option Clock) → n ≡ formed own → c ≡ or_base own → check cs i c e ≡ on_natural n (λ d. check cs i d e)
      met cs none a b = rw (a, b) refl
      met cs (some d) a b = rw (a, b) refl

      here : (d : Clock) (own : Option Clock) → n ≡ formed (some d) → n ≡ formed own → c ≡ or_base own → c ≡ d
      here d none h a b = absurd (cc (sym a ∙ h))
      here d (some o) h a b = let x : o ≡ d = cc (sym a ∙ h) in b ∙ x

  -- ---- a branch, one condition down
  abbrev pub Branches : CheckOutput → CheckOutput → Clock → Condition → ℕ → ℕ → Type 0
  Branches out out' c k at r = (e : Expr) (q : ℕ) → tree M (tokens gs vs) at ≡ got e q → Traversed input out out' (λ cs. one_down c k (λ d. check cs i d e)) (λ later. Stands input later (c ↓ k) e at q) at q r

  -- where nothing too deep is met, the clock is one condition longer
  not-deep : (c : Clock) (k : Condition) (f : Clock → List Finding) → only_sites (one_down c k f) ≡ true → condition_over k (formed (some c)) ≡ formed (some (c ↓ k))
  not-deep c k f h = go (ltb (depth c) deepest) h
    where
      go : (b : Bool) → only_sites (elim b [ true ↦ f (c ↓ k) | false ↦ too_deep ∷ [] ]) ≡ true → choose b (formed (some (c ↓ k))) deep ≡ formed (some (c ↓ k))
      go true j = refl
      go false j = absurd (true≢false (sym j))

  pub walks-down : (out out' : CheckOutput) (c : Clock) (k : Condition) (down : rules.Natural) (at r : ℕ) → down ≡ condition_over k (formed (some c)) → Overs out out' down at r → Branches out out' c k at r
  walks-down out out' c k down at r j W e q g =
      let s = W e q g in
      record {
        end = s.end;
        holds = λ cs a. met-as _ _ _ _ _ (one_down_lem down c k (λ (d : Clock). check cs i d e) j) refl (s.holds cs a);
        kept = s.kept;
        sited = λ cs room only later agree. s.sited cs room (ap (λ (l : List Finding). only_sites l) (one_down_lem down c k (λ (d : Clock). check cs i d e) j) ∙ only) later agree (c ↓ k) (j ∙ not-deep c k (λ (d : Clock). check cs i d e) only);
      }

  -- ---- a when
  -- a clock name that was looked up
  abbrev pub Sampled : CheckOutput → CheckOutput → Clock → ℕ → Type 0
  Sampled out out' c x = (cs : Clocks) → env_at env x ≡ clock_of cs x → Met (must_be_on cs i c x (λ d. clock_name_elsewhere x d c)) out.findings.now out'.findings.now

  module _ (out out' out'' : CheckOutput) (c : Clock) (k : Condition) (at r : ℕ) (b : Bool) (j : b ≡ ends_in k c) where
    pub sample-match : (u : Clock) → b ≡ true → u ≡ parent c → Walks out' out'' u at r → out'.sites.now ≡ out.sites.now → Sampled out out' u k.name → Samples out out'' c k at r
    sample-match u h v W same f e q low g =
        trav-as (λ cs. must_be_on cs i u k.name (λ d. clock_name_elsewhere k.name d u) ++ check cs i u e) (λ cs. check cs i c (Expr.when k e)) (λ later. Stands input later u e at q) _ out out'' at q r
        (λ cs. when-match cs i c k e b j u h v) (λ later p. subst (λ (z : Clock). Stands input later z e at q) v p)
        (trav-after (λ cs. must_be_on cs i u k.name (λ d. clock_name_elsewhere k.name d u)) (λ cs. check cs i u e) (λ later. Stands input later u e at q) (λ later. Unit {0}) out out' out'' at q r same (λ cs a. f cs (a.same k.name low)) (W e q g))

    pub sample-other : (own : rules.Natural) → b ≡ false → ((e : Expr) (q : ℕ) (cs : Clocks) → tree M (tokens gs vs) at ≡ got e q → Agrees env M cs → own ≡ natural cs e) →
        Overs out' out'' own at r → out'.sites.now ≡ out.sites.now → Met (found (record { equation = i; fault = when_elsewhere k c }) ∷ []) out.findings.now out'.findings.now → Samples out out'' c k at r
    sample-other own h N W same f e q low g =
        let s = W e q g in
        record {
          end = s.end;
          holds = λ cs a. met-as _ _ _ _ _ (when-other cs i c k e b j own h (N e q cs g a)) refl (met-then _ _ _ _ _ f (s.holds cs a));
          kept = λ j h. s.kept j h ∙ ap (λ (l : List ℕ). clock_in l (17 * j)) same;
          sited = λ cs room only later agree. absurd (true≢false (sym only ∙ sym (ap (λ (l : List Finding). only_sites l) (when-other cs i c k e b j (natural cs e) h refl))));
        }

  -- ---- a merge
  pub merge-past : (out out' : CheckOutput) (c : Clock) (k : Condition) (at w : ℕ) → Branches out out' c k at w → (a : Expr) (s : ℕ) → tree M (tokens gs vs) at ≡ got a s → at < w
  merge-past out out' c k at w B a s g =
      let f = owed-on (lies-owed (read-lies at a s g base)) in
      let u = (B a s g).end in
      omega arith

  module _ (out out' out'' out''' : CheckOutput) (c : Clock) (x at w r : ℕ) (k l : Condition) (first : Branches out' out'' c k at w) where
    pub merge-both : out'.sites.now ≡ out.sites.now → length out''.sites.now ≡ length out'.sites.now → k ≡ is_on x → l ≡ is_not x → Sampled out out' c x → Branches out'' out''' c l w r → Merges out out''' c x at r
    unfolding check
    merge-both same len i₁ i₂ f B a b s q low g h =
        let y : Branches out' out'' c (is_on x) at w = subst (λ (z : Condition). Branches out' out'' c z at w) i₁ first in
        let z : Branches out'' out''' c (is_not x) w r = subst (λ (z : Condition). Branches out'' out''' c z w r) i₂ B in
        let A = y a s g in
        let C = z b q (subst (λ (u : ℕ). tree M (tokens gs vs) u ≡ got b q) (sym A.end) h) in
        let D = subst (λ (u : ℕ). Traversed input out'' out''' (λ cs. one_down c (is_not x) (λ d. check cs i d b)) (λ later. Stands input later (c ↓ is_not x) b u q) u q r) A.end C in
        let p₁ = owed-on (lies-owed (read-lies at a s g base)) in
        let p₂ = owed-on (lies-owed (read-lies s b q h base)) in
        trav-after (λ cs. must_be_on cs i c x (λ d. clock_name_elsewhere x d c)) (λ cs. one_down c (is_on x) (λ d. check cs i d a) ++ one_down c (is_not x) (λ d. check cs i d b)) (λ later. Stands input later (c ↓ is_on x) a at s × Stands input later (c ↓ is_not x) b s q) (λ later. Unit {0}) out out' out''' at q r same
        (λ cs e. f cs (e.same x low))
        (trav-then (λ cs. one_down c (is_on x) (λ d. check cs i d a)) (λ cs. one_down c (is_not x) (λ d. check cs i d b)) (λ later. Stands input later (c ↓ is_on x) a at s) (λ later. Stands input later (c ↓ is_not x) b s q) out' out'' out''' at s q w r len (omega arith) (omega arith) A D)

  -- ---- an equation: its clock in its count's row, then its right side
  pub equation-stored : (sites : List ℕ) (out out' : CheckOutput) (c : Clock) (p next r : ℕ) → Walks out out' c next r → SiteStored sites out.sites.now true c p → length out'.sites.now ≡ length out.sites.now → (e : Equation) (q : ℕ) → equation M (tokens gs vs) p ≡ got e q → tree M (tokens gs vs) next ≡ got e.right q
      → next ≡ p + 1 + length e.left → p < length gs → EquationStored input.source sites out'.sites.now i c e p q
  equation-stored sites out out' c p next r W stored len e q g a j there =
      let w = W e.right q a in
      let y = owed-on (lies-owed (read-lies next e.right q a base)) in
      let row : 17 * length gs ≤ length sites → clock_in out'.sites.now (17 * p) ≡ c = λ room. w.kept p (inl (omega arith)) ∙ stored.here refl (omega arith) in
      record {
        kept = kept w y there j;
        row = row;
        sited = λ cs room only later agree. record { stands = g; row = agree p (omega arith) (omega arith) ∙ row room; right = subst (λ (z : ℕ). Stands input later c e.right z q) j (w.sited cs (omega (arith, stored.long)) only later (λ m u v. agree m (omega arith) v)) };
      }
    where
      kept : {P : List ℕ → Type 0} {F : Clocks → List Finding} → Traversed input out out' F P next q r → next + 1 ≤ q → p < length gs → next ≡ p + 1 + length e.left → (m : ℕ) → (m < p) ⊎ (q ≤ m) → clock_in out'.sites.now (17 * m) ≡ clock_in sites (17 * m)
      kept w y there j m (inl v) = w.kept m (inl (omega arith)) ∙ stored.elsewhere m (λ z. omega arith)
      kept w y there j m (inr v) = w.kept m (inr v) ∙ stored.elsewhere m (λ z. omega arith)
