-- What is found in a node's equations, one after another; the nodes before the first too deep one.
use mathlib.Core.Path.{◌≡◌, refl, sym, ◌∙◌, ap}
use mathlib.Core.List.{List, [], ◌∷◌, ◌++◌, map, append_assoc, append-nil}
use mathlib.Core.Bool.{Bool, true, false}
use mathlib.Core.Logic.{inl, inr}
use mathlib.Core.Option.{Option}
use Prim.Native.Nat.{ℕ, suc, ◌+◌, ◌-◌, ◌*◌, ◌≤◌, ◌<◌}
use native.Mathlib.Omega.{arith}
use native.Mathlib.Numerals.{add-one}
use lib.ListN.{length}
use Rattle.definitions.specs.declared.Refusal.{Refusal}
use Rattle.definitions.specs.Lists.{choose, any, join, numbered, Letters}
use Rattle.definitions.specs.Tokens.{TagValue}
use Rattle.definitions.specs.Tree.{Equation, Node}
use Rattle.definitions.specs.Reading.{got, times}
use Rattle.definitions.specs.Grammar.{equation, node}
use Rattle.definitions.specs.Clock.{Clock, is_base, in_chain_order}
use Rattle.std.specs.Prelude.{Result, Ok, Err, is_err}
use Rattle.std.specs.Prelude as maybe
use Rattle.clock_tables.specs.declared.clock.Clock as struct
use Rattle.clock_tables.specs.declared.TooDeep.{TooDeep}
use Rattle.clock_tables.specs.Value.{option_of, natural_of}
use Rattle.definitions.specs.Refusals.{Answer, accepted, refused}
use Rattle.definitions.specs.InferClocks.{Formed, deep, formed, ◌>>=◌, Natural, Clocks, Finding, found, site, too_deep, Inferred, Clocking, Clocked, is_too_deep, ports, natural, or_base, clocked_by, check_equation, inferred, clocking, sites, chains, uses_clocks}
use Rattle.definitions.specs.Output.{ClockedNode}
use Rattle.definitions.specs.Answer.{clockings}
use Rattle.shapes.proofs.Clockless.{clockless}
use Rattle.grammar.specs.Read.{tokens_of}
use Rattle.grammar.specs.declared.source.Source.{Source}
use Rattle.grammar.proofs.Laws.{tokens-length}
use Rattle.grammar.proofs.Got.{times-nil, times-cons}
use Rattle.grammar.proofs.Longer.{times-keeps, keeps, equation-grows}
use Rattle.clock_tables.specs.Environment.{Agrees}
use Rattle.layout.specs.declared.NodeLayout.{NodeLayout}
use Rattle.layout.specs.Laid.{LaidNode}
use Rattle.findings.specs.Findings.{findings_in, FindingsHeld}
use Rattle.findings.proofs.Laws.{holds-none, holds_fits, length_from}
use Rattle.clock_tables.specs.Rows.{clocks_in, RowsHold}
use Rattle.clock_tables.proofs.RowsLaws as row-laws
use Rattle.inference.specs.Passes.{Marked, Infers}
use Rattle.inference.proofs.PassesLaws.{names-room-kept}
use Rattle.checking.specs.declared.CheckOutput.{CheckOutput}
use Rattle.checking.specs.declared.CheckInput.{CheckInput}
use Rattle.checking.specs.Walk.{ReadsNode}
use Rattle.checking.proofs.Size.{equations-fit}
use Rattle.infer_clocks.specs.declared.NodeClocked.{NodeClocked}
use Rattle.infer_clocks.specs.Clocked.{is_deep, found_in, found_from, joined, Tallied, Counted, ClockedOrDeep, Deeply, RoomToClock}

-- ---- findings after findings
module _ (fs gs : List Finding) where
  joined-more : (u v : Formed (List Finding)) → joined fs u ≡ formed gs → joined fs (u >>= λ l. v >>= λ rest. formed (l ++ rest)) ≡ joined gs v
  joined-more deep v h = absurd cc
  joined-more (formed l) deep h = refl
  joined-more (formed l) (formed r) h =
      let e : fs ++ l ≡ gs = cc in
      ap formed (sym (append_assoc fs l r) ∙ ap (λ (k : List Finding). k ++ r) e)

  joined-next : (u v w : Formed (List Finding)) → joined fs u ≡ formed gs → joined fs (u >>= λ l. v >>= λ rest. formed (l ++ rest)) ≡ w → joined gs v ≡ w
  joined-next u v w h k = sym (joined-more u v h) ∙ k

joined-deep : (fs : List Finding) (u v : Formed (List Finding)) → joined fs u ≡ deep → joined fs (u >>= λ l. v >>= λ rest. formed (l ++ rest)) ≡ deep
joined-deep fs deep v h = refl
joined-deep fs (formed l) v h = absurd cc

joined-none : (u : Formed (List Finding)) → joined [] u ≡ u
joined-none deep = refl
joined-none (formed l) = refl

-- ---- too deep a clock, which is none
pub natural-told : (r : Result (maybe.Option struct.Clock) TooDeep) (d : TooDeep) (v : Natural) (o : Option Clock) → natural_of r ≡ v → r ≡ Err d → v ≡ formed o → ⊥
natural-told r d v o e j f =
    let x : deep ≡ formed o = sym (ap natural_of j) ∙ (e ∙ f) in
    cc

-- ---- one equation
module _ (n : Node) (clocks : Clocks) (o : CheckOutput) (fs : List Finding) (i : ℕ) (e : Equation) where
  pub one-deep : (A : Type 0) (r : Result (maybe.Option struct.Clock) TooDeep) (d u : TooDeep) → natural_of r ≡ natural clocks e.right → r ≡ Err d → Tallied {A = A} o (Err u) (joined fs (found_in n clocks i e))
  unfolding Tallied found_in
  one-deep A r d u h j = let f : natural clocks e.right ≡ deep = sym h ∙ ap natural_of j in rw f

  pub one_found : {A : Type 0} (x : A) (r : Result (maybe.Option struct.Clock) TooDeep) (u : maybe.Option struct.Clock) (c : Clock) → natural_of r ≡ natural clocks e.right → r ≡ Ok u → c ≡ or_base (option_of u) →
      FindingsHeld o.findings.now.words.now o.findings.now.count (fs ++ check_equation n clocks i (record { clock = c; equation = e })) → Tallied o (Ok x) (joined fs (found_in n clocks i e))
  unfolding Tallied found_in
  one_found x r u c h j k w =
      let f : natural clocks e.right ≡ formed (option_of u) = sym h ∙ ap natural_of j in
      (fs ++ check_equation n clocks i (record { clock = or_base (option_of u); equation = e }), rw f, rw k at w)

-- ---- the equations
module _ (n : Node) (clocks : Clocks) where
  found-step : (g : ℕ → Clocked → List Finding) (w : Formed (List Clocked)) (x : Clocked) (i : ℕ) →
      ((w >>= λ rest. formed (x ∷ rest)) >>= λ cs. formed (join (numbered g i cs))) ≡ ((w >>= λ cs. formed (join (numbered g (suc i) cs))) >>= λ rest. formed (g i x ++ rest))
  found-step g deep x i = refl
  found-step g (formed cs) x i = refl

  -- THE LAW: clocks before all findings, or each before its own: the same answer
  pub found_all : (es : List Equation) (i : ℕ) → (clocked_by clocks es >>= λ cs. formed (join (numbered (check_equation n clocks) i cs))) ≡ found_from n clocks i es
  unfolding clocked_by found_from found_in
  found_all [] i = refl
  found_all (e ∷ es) i = go (natural clocks e.right) refl (found_all es (suc i))
    where
      go : (v : Natural) → natural clocks e.right ≡ v → (clocked_by clocks es >>= λ cs. formed (join (numbered (check_equation n clocks) (suc i) cs))) ≡ found_from n clocks (suc i) es → (clocked_by clocks (e ∷ es) >>= λ cs. formed (join (numbered (check_equation n clocks) i cs))) ≡ found_from n clocks i (e ∷ es)
      go deep q k = rw q
      go (formed o) q k =
          rw q
          (found-step (check_equation n clocks) (clocked_by clocks es) (record { clock = or_base o; equation = e }) i
          ∙ ap (λ (v : Formed (List Finding)). v >>= λ rest. formed (check_equation n clocks i (record { clock = or_base o; equation = e }) ++ rest)) k)

  -- the equations are the same
  same-equations : (es : List Equation) (cs : List Clocked) → clocked_by clocks es ≡ formed cs → map (λ c. c.equation) cs ≡ es
  unfolding clocked_by
  same-equations [] cs h = let e : cs ≡ [] = cc in rw e
  same-equations (e ∷ es) cs h = go (natural clocks e.right) (clocked_by clocks es) refl h (λ rest b. same-equations es rest b)
    where
      go : (v : Natural) (w : Formed (List Clocked)) → clocked_by clocks es ≡ w → (v >>= λ o. w >>= λ rest. formed (record { clock = or_base o; equation = e } ∷ rest)) ≡ formed cs → ((rest : List Clocked) → clocked_by clocks es ≡ formed rest → map (λ (c : Clocked). c.equation) rest ≡ es) → map (λ (c : Clocked). c.equation) cs ≡ e ∷ es
      go deep w b k f = absurd cc
      go (formed o) deep b k f = absurd cc
      go (formed o) (formed rest) b k f =
          let x : cs ≡ record { clock = or_base o; equation = e } ∷ rest = cc in
          rw x (ap (λ (l : List Equation). e ∷ l) (f rest b))

-- some findings, the rest being those of the equations left; all are v
pub record Going (S : Source) (n : Node) (clocks : Clocks) (o : CheckOutput) (left i place q : ℕ) (v : Formed (List Finding)) : Type 0 where
  pub rest : List Equation
  pub so_far : List Finding
  pub items : times left (equation S.names) (tokens_of S) place ≡ got rest q
  pub holds : FindingsHeld o.findings.now.words.now o.findings.now.count so_far
  pub final : joined so_far (found_from n clocks i rest) ≡ v

pub going_start : (S : Source) (n : Node) (clocks : Clocks) (o : CheckOutput) (count at q : ℕ) (es : List Equation) → times count (equation S.names) (tokens_of S) at ≡ got es q → o.findings.now.count ≡ 0 → Going S n clocks o (count - 0) 0 at q (found_from n clocks 0 es)
going_start S n clocks o count at q es g z =
    let k : count - 0 ≡ count = omega arith in
    record { rest = es; so_far = []; items = rw k g; holds = rw z (holds-none o.findings.now.words.now); final = joined-none (found_from n clocks 0 es) }

pub going_end : {A : Type 0} (x : A) (S : Source) (n : Node) (clocks : Clocks) (o : CheckOutput) (left i place q : ℕ) (v : Formed (List Finding)) → left ≡ 0 → Going S n clocks o left i place q v → Tallied o (Ok x) v
unfolding Tallied found_from
going_end x S n clocks o left i place q v z h =
    let e = times-nil (equation S.names) (tokens_of S) left place h.rest q z h.items in
    let f : formed (h.so_far ++ []) ≡ v = rw e.0 at h.final in
    (h.so_far, sym f ∙ ap formed (append-nil h.so_far), h.holds)

module _ {A : Type 0} (S : Source) (n : Node) (clocks : Clocks) (I : CheckInput) (o o' : CheckOutput) (count i place q : ℕ) (v : Formed (List Finding)) (r : Result A TooDeep) (z : i < count)
    (E : (n : Node) (clocks : Clocks) (e : Equation) (q : ℕ) (fs : List Finding) → ReadsNode I n clocks → equation S.names (tokens_of S) place ≡ got e q → FindingsHeld o.findings.now.words.now o.findings.now.count fs → Tallied o' r (joined fs (found_in n clocks i e)))
    (a : ReadsNode I n clocks) (h : Going S n clocks o (count - i) i place q v) where
  pub going_step : (k : A) → r ≡ Ok k → (end : ℕ) → ((e : Equation) (q : ℕ) → equation S.names (tokens_of S) place ≡ got e q → end ≡ q) → Going S n clocks o' (count - (i + 1)) (i + 1) end q v
  unfolding Tallied found_from
  going_step k j end L =
      let c = times-cons (equation S.names) (tokens_of S) (count - i) place h.rest q (λ y. omega (arith, y)) h.items in
      let x : Tallied o' (Ok k) (joined h.so_far (found_in n clocks i c.0)) = rw j at (E n clocks c.0 c.1 h.so_far a c.3 h.holds) in
      let f : joined h.so_far (found_from n clocks i (c.0 ∷ c.2)) ≡ v = rw c.5 at h.final in
      let w : joined x.0 (found_from n clocks (suc i) c.2) ≡ v = joined-next h.so_far x.0 (found_in n clocks i c.0) (found_from n clocks (suc i) c.2) v x.1 f in
      let u : count - (i + 1) ≡ count - i - 1 = omega arith in
      record { rest = c.2; so_far = x.0; items = rw (L c.0 c.1 c.3, u) c.4; holds = x.2; final = rw (add-one i) w }

  pub going-deep : (B : Type 0) (w u : TooDeep) → r ≡ Err w → Tallied {A = B} o' (Err u) v
  unfolding Tallied found_from
  going-deep B w u j =
      let c = times-cons (equation S.names) (tokens_of S) (count - i) place h.rest q (λ y. omega (arith, y)) h.items in
      let x : Tallied {A = A} o' (Err w) (joined h.so_far (found_in n clocks i c.0)) = rw j at (E n clocks c.0 c.1 h.so_far a c.3 h.holds) in
      let w : joined h.so_far (found_from n clocks i (c.0 ∷ c.2)) ≡ deep = joined-deep h.so_far (found_in n clocks i c.0) (found_from n clocks (suc i) c.2) x in
      let f : joined h.so_far (found_from n clocks i (c.0 ∷ c.2)) ≡ v = rw c.5 at h.final in
      sym f ∙ w

-- ---- a node
-- what is said of a node's equations with their clocks
abbrev saying : Node → Inferred → List Clocked → Formed Clocking
saying n i es =
    let all = join (numbered (check_equation n i.clocks) 0 es) in
    choose (any is_too_deep all) deep (formed (record { passes = i.passes; names = i.clocks; equations = es; findings = all }))

module _ (n : Node) where
  pub node-deep : inferred n ≡ deep → clocking n ≡ deep
  unfolding clocking
  node-deep h = rw h

  module _ (i : Inferred) (h : inferred n ≡ formed i) where
    node-said : (w : Formed (List Clocked)) → clocked_by i.clocks n.equations ≡ w → clocking n ≡ (w >>= saying n i)
    unfolding clocking
    node-said w k = rw (h, k)

    -- too deep a clock of an equation
    pub equations-deep : found_from n i.clocks 0 n.equations ≡ deep → clocking n ≡ deep
    equations-deep k = go (clocked_by i.clocks n.equations) refl (found_all n i.clocks n.equations 0 ∙ k)
      where
        go : (w : Formed (List Clocked)) → clocked_by i.clocks n.equations ≡ w → (clocked_by i.clocks n.equations >>= λ cs. formed (join (numbered (check_equation n i.clocks) 0 cs))) ≡ deep → clocking n ≡ deep
        go deep e f = node-said deep e
        go (formed cs) e f =
            let x : formed (join (numbered (check_equation n i.clocks) 0 cs)) ≡ deep = rw e at f in
            absurd cc

    -- the findings, within the tokens
    module _ (M : ℕ) (ts : List TagValue) (count at q : ℕ) (g : times count (equation M) ts at ≡ got n.equations q) (fs : List Finding) (k : found_from n i.clocks 0 n.equations ≡ formed fs) where
      pub node-found : (cs : List Clocked) × (join (numbered (check_equation n i.clocks) 0 cs) ≡ fs) × (clocking n ≡ saying n i cs) × (length fs ≤ length ts)
      node-found = go (clocked_by i.clocks n.equations) refl (found_all n i.clocks n.equations 0 ∙ k)
        where
          go : (w : Formed (List Clocked)) → clocked_by i.clocks n.equations ≡ w → (clocked_by i.clocks n.equations >>= λ cs. formed (join (numbered (check_equation n i.clocks) 0 cs))) ≡ formed fs
              → (cs : List Clocked) × (join (numbered (check_equation n i.clocks) 0 cs) ≡ fs) × (clocking n ≡ saying n i cs) × (length fs ≤ length ts)
          go deep e f = let x : deep ≡ formed fs = rw e at f in absurd cc
          go (formed cs) e f =
              let x : formed (join (numbered (check_equation n i.clocks) 0 cs)) ≡ formed fs = rw e at f in
              let y : join (numbered (check_equation n i.clocks) 0 cs) ≡ fs = cc in
              let a = equations-fit M ts n i.clocks count at n.equations q g cs (same-equations n i.clocks n.equations cs e) 0 in
              let b = times-keeps (equation M) (keeps _ (equation-grows M)) count ts at n.equations q g in
              let d : length (join (numbered (check_equation n i.clocks) 0 cs)) ≤ length ts = omega (arith, a, b.1) in
              (cs, y, node-said (formed cs) e, rw y at d)

      module _ (env t : List ℕ) (m : ℕ) (room : 38 * length ts ≤ length t) (w : FindingsHeld t m fs) where
        held : (38 * m ≤ length t) × (findings_in t m ≡ fs)
        held = holds_fits t m fs (omega (arith, room, node-found.3)) w

        -- too deep a clock among the findings
        pub findings-deep : any is_too_deep (findings_in t m) ≡ true → clocking n ≡ deep
        findings-deep b =
            let a = node-found in
            let e : any is_too_deep (join (numbered (check_equation n i.clocks) 0 a.0)) ≡ true = ap (any is_too_deep) (a.1 ∙ sym held.1) ∙ b in
            a.2 ∙ rw e

        pub findings-told : any is_too_deep (findings_in t m) ≡ false → Agrees env M i.clocks → (p : ℕ) → i.passes ≡ p → ClockedOrDeep env t M (Ok (record { passes = p; findings = m })) (clocking n)
        unfolding ClockedOrDeep
        findings-told b c p d =
            let a = node-found in
            let e : any is_too_deep (join (numbered (check_equation n i.clocks) 0 a.0)) ≡ false = ap (any is_too_deep) (a.1 ∙ sym held.1) ∙ b in (
              record { passes = i.passes; names = i.clocks; equations = a.0; findings = join (numbered (check_equation n i.clocks) 0 a.0) },
              a.2 ∙ rw e,
              record { made = d; named = c; room = held.0; all = held.1 ∙ sym a.1 },
            )

-- checking's answer
pub tallied-deep : {A : Type 0} (o : CheckOutput) (s : Result A TooDeep) (d : TooDeep) (v : Formed (List Finding)) → s ≡ Err d → Tallied o s v → (t : List ℕ) (u : TooDeep) → Counted t (Err u) v
unfolding Tallied Counted
tallied-deep o s d v e h t u = rw e at h

pub tallied-count : {A : Type 0} (o : CheckOutput) (s : Result A TooDeep) (a : A) (v : Formed (List Finding)) → s ≡ Ok a → Tallied o s v → (t : List ℕ) (n : ℕ) → t ≡ o.findings.now.words.now → n ≡ o.findings.now.count → Counted t (Ok n) v
unfolding Tallied Counted
tallied-count o s a v e h t n u w = rw (u, w) (rw e at h)

counted-deep : (t : List ℕ) (s : Result ℕ TooDeep) (d : TooDeep) (v : Formed (List Finding)) → s ≡ Err d → Counted t s v → v ≡ deep
unfolding Counted
counted-deep t s d v e h = rw e at h

counted-all : (t : List ℕ) (s : Result ℕ TooDeep) (c : ℕ) (v : Formed (List Finding)) → s ≡ Ok c → Counted t s v → (fs : List Finding) × (v ≡ formed fs) × FindingsHeld t c fs
unfolding Counted
counted-all t s c v e h = rw e at h

-- room in tables
pub room-kept : {s : Source} {env env' table table' : List ℕ} {marks marks' : List Bool} → length env' ≡ length env → length marks' ≡ length marks → length table' ≡ length table → RoomToClock s env marks table → RoomToClock s env' marks' table'
room-kept e m t r = record { named = names-room-kept e m r.named; rowed = omega (arith, t, r.rowed) }

pub room-stays : (s : Source) (t t' : List ℕ) → 38 * length s.tags.now ≤ length t → length t' ≡ length t → 38 * length (tokens_of s) ≤ length t'
room-stays s t t' h k = omega (arith, tokens-length s.tags.now s.values.now s.same_length, h, k)

-- the code's answers: inference's r, then checking's s
pub told-deep : (env t : List ℕ) (M : ℕ) (n : Node) (u : TooDeep) → clocking n ≡ deep → ClockedOrDeep env t M (Err u) (clocking n)
unfolding ClockedOrDeep
told-deep env t M n u h = h

pub formed-not-deep : (n : Node) (k : Clocking) → clocking n ≡ formed k → clocking n ≡ deep → ⊥
formed-not-deep n k f h = let x : deep ≡ formed k = sym h ∙ f in cc

pub laid-deep : (M : ℕ) (n : Node) (env : List ℕ) (r : Result ℕ TooDeep) (d : TooDeep) → r ≡ Err d → Infers env M r (inferred n) → clocking n ≡ deep
unfolding Infers
laid-deep M n env r d j i = let e : inferred n ≡ deep = rw j at i in node-deep n e

module _ (n : Node) (I : CheckInput) (t : List ℕ) (r : Result ℕ TooDeep) (s : Result ℕ TooDeep) (k count at q : ℕ)
    (C : (n : Node) (clocks : Clocks) (es : List Equation) (q : ℕ) → ReadsNode I n clocks → times count (equation I.source.names) (tokens_of I.source) at ≡ got es q → Counted t s (found_from n clocks 0 es))
    (j : r ≡ Ok k) (i : Infers I.env.now I.source.names r (inferred n)) (m : Marked I.ports.now I.source.names (ports n))
    (g : times count (equation I.source.names) (tokens_of I.source) at ≡ got n.equations q) where
  made : (i : Inferred) × (inferred n ≡ formed i) × (i.passes ≡ k) × Agrees I.env.now I.source.names i.clocks
  unfolding Infers
  made = rw j at i

  counted : Counted t s (found_from n made.0.clocks 0 n.equations)
  counted = C n made.0.clocks n.equations q (record { agrees = made.3; ports = record { same = m.same } }) g

  pub laid-sunk : (d : TooDeep) → s ≡ Err d → clocking n ≡ deep
  laid-sunk d e = equations-deep n made.0 made.1 (counted-deep t s d (found_from n made.0.clocks 0 n.equations) e counted)

  module _ (c : ℕ) (e : s ≡ Ok c) (room : 38 * length (tokens_of I.source) ≤ length t) (b : Bool) (d : b ≡ any is_too_deep (findings_in t c)) where
    all-found : (fs : List Finding) × (found_from n made.0.clocks 0 n.equations ≡ formed fs) × FindingsHeld t c fs
    all-found = counted-all t s c (found_from n made.0.clocks 0 n.equations) e counted

    pub laid-found : b ≡ true → clocking n ≡ deep
    laid-found f = findings-deep n made.0 made.1 I.source.names (tokens_of I.source) count at q g all-found.0 all-found.1 I.env.now t c room all-found.2 (sym d ∙ f)

    pub laid-told : b ≡ false → ClockedOrDeep I.env.now t I.source.names (Ok (record { passes = k; findings = c })) (clocking n)
    laid-told f = findings-told n made.0 made.1 I.source.names (tokens_of I.source) count at q g all-found.0 all-found.1 I.env.now t c room all-found.2 (sym d ∙ f) made.3 k made.2

-- ---- was too deep a clock formed in a node?
is-deep : {A : Type 0} (v : Formed A) → is_deep v ≡ true → v ≡ deep
is-deep deep e = refl
is-deep (formed a) e = absurd cc

not-deep : {A : Type 0} (v : Formed A) → is_deep v ≡ false → (a : A) × (v ≡ formed a)
not-deep deep e = absurd cc
not-deep (formed a) e = (a, refl)

-- not in one that uses no clocks
pub deep-clockless : (n : Node) (b : Bool) → b ≡ uses_clocks n → b ≡ false → false ≡ is_deep (clocking n)
deep-clockless n b e f = sym (ap is_deep (clockless n (sym e ∙ f)).1.clocks)

-- the code's answer says it
module _ (M : ℕ) (n : Node) (env t : List ℕ) (r : Result NodeClocked TooDeep) (h : ClockedOrDeep env t M r (clocking n)) where
  pub deep-told : (d : TooDeep) → r ≡ Err d → true ≡ is_deep (clocking n)
  unfolding ClockedOrDeep
  deep-told d j = let x : clocking n ≡ deep = rw j at h in sym (ap is_deep x)

  pub deep-not-told : (c : NodeClocked) → r ≡ Ok c → false ≡ is_deep (clocking n)
  unfolding ClockedOrDeep
  deep-not-told c j = let x : ClockedOrDeep env t M (Ok c) (clocking n) = rw j at h in sym (ap is_deep x.1)

  pub deep-by : is_err r ≡ is_deep (clocking n)
  deep-by = go r refl
    where
      go : (s : Result NodeClocked TooDeep) → r ≡ s → is_err r ≡ is_deep (clocking n)
      go (Ok c) e = rw e (deep-not-told c e)
      go (Err d) e = rw e (deep-told d e)

-- ---- the nodes
-- a node whose clocks are formed, before others
next-sunk : (i j : ℕ) (n : Node) (k : Clocking) (ns : List Node) → clocking n ≡ formed k → clockings (suc i) ns ≡ refused (Refusal.Deep j) → clockings i (n ∷ ns) ≡ refused (Refusal.Deep j)
unfolding clockings
next-sunk i j n k ns h e = rw (h, clockings, e)

next-fine : (i : ℕ) (n : Node) (k : Clocking) (ns : List Node) (l : List ClockedNode) → clocking n ≡ formed k → clockings (suc i) ns ≡ accepted l → clockings i (n ∷ ns) ≡ accepted (record { node = n; clocking = k } ∷ l)
unfolding clockings
next-fine i n k ns l h e = rw (h, clockings, e)

here-sunk : (i : ℕ) (n : Node) (ns : List Node) → clocking n ≡ deep → clockings i (n ∷ ns) ≡ refused (Refusal.Deep i)
unfolding clockings
here-sunk i n ns h = rw (h, clockings)

-- the same of a list that is such
module _ (i : ℕ) (n : Node) (k : Clocking) (all ns : List Node) (r : all ≡ n ∷ ns) (h : clocking n ≡ formed k) where
  rest-sunk : (j : ℕ) → clockings (i + 1) ns ≡ refused (Refusal.Deep j) → clockings i all ≡ refused (Refusal.Deep j)
  rest-sunk j e = ap (clockings i) r ∙ next-sunk i j n k ns h (ap (λ (x : ℕ). clockings x ns) (sym (add-one i)) ∙ e)

  rest-fine : (l : List ClockedNode) → clockings (i + 1) ns ≡ accepted l → clockings i all ≡ accepted (record { node = n; clocking = k } ∷ l)
  rest-fine l e = ap (clockings i) r ∙ next-fine i n k ns l h (ap (λ (x : ℕ). clockings x ns) (sym (add-one i)) ∙ e)

-- what v is, by the nodes left from node i on
pub record Ahead (i : ℕ) (rest : List Node) (v : Answer (List ClockedNode)) : Type 0 where
  pub sunk : (j : ℕ) → clockings i rest ≡ refused (Refusal.Deep j) → v ≡ refused (Refusal.Deep j)
  pub fine : (l : List ClockedNode) → clockings i rest ≡ accepted l → (k : List ClockedNode) × (v ≡ accepted k)

pub ahead-start : {i : ℕ} (ns : List Node) → Ahead i ns (clockings i ns)
ahead-start ns = record { sunk = λ j e. e; fine = λ l e. (l, e) }

module _ (i : ℕ) (rest : List Node) (v : Answer (List ClockedNode)) (h : Ahead i rest v) where
  pub ahead-end : rest ≡ [] → (l : List ClockedNode) × (v ≡ accepted l)
  unfolding clockings
  ahead-end e = h.fine [] (rw e)

  module _ (n : Node) (ns : List Node) (r : rest ≡ n ∷ ns) (b : Bool) (d : b ≡ is_deep (clocking n)) where
    pub ahead_step : b ≡ false → Ahead (i + 1) ns v
    ahead_step j =
        let x = not-deep (clocking n) (sym d ∙ j) in
        record {
          sunk = λ k e. h.sunk k (rest-sunk i n x.0 rest ns r x.1 k e);
          fine = λ k e. h.fine (record { node = n; clocking = x.0 } ∷ k) (rest-fine i n x.0 rest ns r x.1 k e);
        }

    pub ahead-deep : b ≡ true → v ≡ refused (Refusal.Deep i)
    ahead-deep j = h.sunk i (ap (clockings i) r ∙ here-sunk i n ns (is-deep (clocking n) (sym d ∙ j)))

-- the nodes left stand there, and tell what v is
pub record Nodes (s : Source) (left i place q : ℕ) (v : Answer (List ClockedNode)) : Type 0 where
  pub rest : List Node
  pub items : times left (node s.names) (tokens_of s) place ≡ got rest q
  pub ahead : Ahead i rest v

pub nodes-start : (s : Source) (i count at q : ℕ) (ns : List Node) → times count (node s.names) (tokens_of s) at ≡ got ns q → Nodes s (i + count - i) i at q (clockings i ns)
nodes-start s i count at q ns g =
    let k : i + count - i ≡ count = omega arith in
    record { rest = ns; items = rw k g; ahead = ahead-start ns }

pub nodes-end : (s : Source) (left i place q : ℕ) (v : Answer (List ClockedNode)) → left ≡ 0 → Nodes s left i place q v → Deeply q (Ok place) v
unfolding Deeply
nodes-end s left i place q v z h =
    let n = times-nil (node s.names) (tokens_of s) left place h.rest q z h.items in
    let e = ahead-end i h.rest v h.ahead n.0 in
    (sym n.1, e.0, e.1)

module _ (s : Source) (count i place q : ℕ) (v : Answer (List ClockedNode)) (l : NodeLayout) (b : Bool) (z : i < count)
    (L : (n : Node) (q : ℕ) → node s.names (tokens_of s) place ≡ got n q → LaidNode s.names (tokens_of s) n q l)
    (E : (n : Node) (q : ℕ) → LaidNode s.names (tokens_of s) n q l → b ≡ is_deep (clocking n))
    (h : Nodes s (count - i) i place q v) where
  pub nodes-step : b ≡ false → Nodes s (count - (i + 1)) (i + 1) l.end q v
  nodes-step j =
      let c = times-cons (node s.names) (tokens_of s) (count - i) place h.rest q (λ y. omega (arith, y)) h.items in
      let d = L c.0 c.1 c.3 in
      let u : count - (i + 1) ≡ count - i - 1 = omega arith in
      record { rest = c.2; items = rw (d.ends, u) c.4; ahead = ahead_step i h.rest v h.ahead c.0 c.2 c.5 b (E c.0 c.1 d) j }

  pub nodes-deep : b ≡ true → Deeply q (Err (Refusal.Deep i)) v
  unfolding Deeply
  nodes-deep j =
      let c = times-cons (node s.names) (tokens_of s) (count - i) place h.rest q (λ y. omega (arith, y)) h.items in
      ahead-deep i h.rest v h.ahead c.0 c.2 c.5 b (E c.0 c.1 (L c.0 c.1 c.3)) j

-- ---- the chains
pub few-sites : (l : List Finding) → length (sites l) ≤ length l
unfolding sites
few-sites [] = omega arith
few-sites (found f ∷ l) = omega (arith, few-sites l)
few-sites (too_deep ∷ l) = omega (arith, few-sites l)
few-sites (site c ∷ l) = go (is_base c) (few-sites l)
  where
    go : (b : Bool) → length (sites l) ≤ length l → length (choose b (sites l) (c ∷ sites l)) ≤ suc (length l)
    go true h = omega arith
    go false h = omega arith

rows-exact : (t : List ℕ) (m : ℕ) (cs : List Clock) → 17 * length cs ≤ length t → RowsHold t m cs → (clocks_in t m ≡ cs)
unfolding RowsHold
rows-exact t m cs l (inl h) = h.1
rows-exact t m cs l (inr h) = absurd (omega (arith, h.1))

-- the sites of n findings in as many rows
module _ (t rows rows' : List ℕ) (n m : ℕ) (room : 17 * n ≤ length rows) (same : length rows' ≡ length rows) (h : RowsHold rows' m (sites (findings_in t n))) where
  pub sites-listed : clocks_in rows' m ≡ sites (findings_in t n)
  sites-listed = rows-exact rows' m (sites (findings_in t n)) (omega (arith, few-sites (findings_in t n), length_from t 0 n, room, same)) h

  pub sites-fit : m ≤ n
  sites-fit = let e : m ≡ length (sites (findings_in t n)) = sym (row-laws.length_from rows' 0 m) ∙ ap length sites-listed in omega (arith, e, few-sites (findings_in t n), length_from t 0 n)

  pub chains-sorted : (letters : ℕ → Letters) (l : List Clock) → l ≡ in_chain_order letters (clocks_in rows' m) → l ≡ chains letters (findings_in t n)
  unfolding chains
  chains-sorted letters l e = e ∙ ap (in_chain_order letters) sites-listed
