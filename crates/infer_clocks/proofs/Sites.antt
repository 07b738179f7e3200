-- The sites of a node's equations, one equation after another.
use Prim.Native.Nat.{ℕ, suc, ◌+◌, ◌-◌, ◌*◌, ◌≤◌, ◌<◌}
use mathlib.Core.Path.{◌≡◌, refl, sym, ap, ◌∙◌, subst}
use mathlib.Core.Bool.{Bool, true, false}
use mathlib.Core.List.{List, [], ◌∷◌}
use mathlib.Core.Logic.{inl}
use mathlib.Core.Option.{Option}
use native.Mathlib.Omega.{arith}
use lib.ListN.{length}
use Rattle.definitions.specs.Lists.{choose, any, join, numbered}
use Rattle.definitions.specs.Tree.{Equation, Node}
use Rattle.definitions.specs.Reading.{got, times}
use Rattle.definitions.specs.Grammar.{equation}
use Rattle.definitions.specs.Clock.{Clock}
use Rattle.definitions.specs.InferClocks.{Natural, deep, formed, ◌>>=◌, Formed, Clocks, Clocked, Clocking, Finding, Inferred, inferred, natural, or_base, clocked_by, check_equation, is_too_deep, clocking}
use Rattle.grammar.specs.Read.{tokens_of}
use Rattle.grammar.specs.declared.source.Source.{Source}
use Rattle.grammar.proofs.Got.{times-nil, times-cons}
use Rattle.clock_tables.specs.Flat.{clock_in}
use Rattle.skeleton.specs.Sites.{EquationsSited, EquationsOn}
use Rattle.checking.specs.Walk.{only_sites, EquationStored}
use Rattle.checking.proofs.Only.{only-both, only-right}
use Rattle.infer_clocks.specs.Clocked.{SitesTold}
use Rattle.clock_tables.specs.Environment.{Agrees}
use Rattle.std.specs.Prelude.{Result, Ok}
use Rattle.clock_tables.specs.declared.TooDeep.{TooDeep}
use Rattle.inference.specs.Passes.{Infers}

-- two tables have the same rows from p up to q
abbrev pub SameRows : List ℕ → List ℕ → ℕ → ℕ → Type 0
SameRows t t' p q = (j : ℕ) → p ≤ j → j < q → clock_in t' (17 * j) ≡ clock_in t (17 * j)

-- an equation's clock, and the others'
by-clocks : (clocks : Clocks) (e : Equation) (es : List Equation) (cs : List Clocked) → clocked_by clocks (e ∷ es) ≡ formed cs →
    (o : Option Clock) × (rest : List Clocked) × (natural clocks e.right ≡ formed o) × (clocked_by clocks es ≡ formed rest) × (cs ≡ record { clock = or_base o; equation = e } ∷ rest)
unfolding clocked_by
by-clocks clocks e es cs h = go (natural clocks e.right) (clocked_by clocks es) refl refl h
  where
    go : (v : Natural) (w : Formed (List Clocked)) → natural clocks e.right ≡ v → clocked_by clocks es ≡ w → (v >>= λ o. w >>= λ rest. formed (record { clock = or_base o; equation = e } ∷ rest)) ≡ formed cs →
        (o : Option Clock) × (rest : List Clocked) × (natural clocks e.right ≡ formed o) × (clocked_by clocks es ≡ formed rest) × (cs ≡ record { clock = or_base o; equation = e } ∷ rest)
    go deep w a b k = absurd cc
    go (formed o) deep a b k = absurd cc
    go (formed o) (formed rest) a b k = let x : cs ≡ record { clock = or_base o; equation = e } ∷ rest = cc in (o, rest, a, b, x)

-- the equations left, and that what later tables say of them decides for all
pub record Siting (S : Source) (sites : List ℕ) (n : Node) (clocks : Clocks) (left i place at q : ℕ) (cs : List Clocked) : Type 0 where
  pub rest : List Equation
  pub those : List Clocked
  pub items : times left (equation S.names) (tokens_of S) place ≡ got rest q
  pub clocked : clocked_by clocks rest ≡ formed those
  pub past : at ≤ place
  pub on : (later : List ℕ) → SameRows sites later at place → EquationsOn S.names S.tags.now S.values.now later those place q → EquationsOn S.names S.tags.now S.values.now later cs at q
  pub alone : only_sites (join (numbered (check_equation n clocks) 0 cs)) ≡ true → only_sites (join (numbered (check_equation n clocks) i those)) ≡ true
  pub sited : (later : List ℕ) → SameRows sites later at place → only_sites (join (numbered (check_equation n clocks) 0 cs)) ≡ true → EquationsSited S.names S.tags.now S.values.now later those place q → EquationsSited S.names S.tags.now S.values.now later cs at q

pub siting-start : (S : Source) (sites : List ℕ) (n : Node) (clocks : Clocks) (count at q : ℕ) (es : List Equation) (cs : List Clocked) → times count (equation S.names) (tokens_of S) at ≡ got es q → clocked_by clocks es ≡ formed cs → Siting S sites n clocks (count - 0) 0 at at q cs
siting-start S sites n clocks count at q es cs g h =
    let k : count - 0 ≡ count = omega arith in
    record { rest = es; those = cs; items = rw k g; clocked = h; past = omega arith; on = λ later s x. x; alone = λ x. x; sited = λ later s o x. x }

pub siting-end : (S : Source) (sites : List ℕ) (n : Node) (clocks : Clocks) (left i place at q : ℕ) (cs : List Clocked) → left ≡ 0 → Siting S sites n clocks left i place at q cs → SitesTold S sites (join (numbered (check_equation n clocks) 0 cs)) cs at q
unfolding clocked_by EquationsOn EquationsSited
siting-end S sites n clocks left i place at q cs z h =
    let e = times-nil (equation S.names) (tokens_of S) left place h.rest q z h.items in
    let c : h.those ≡ [] = let x : formed [] ≡ formed h.those = rw e.0 at h.clocked in cc in
    record {
      on = h.on sites (λ j a b. refl) (rw c (sym e.1));
      sited = λ o. h.sited sites (λ j a b. refl) o (rw c (sym e.1));
    }

-- one equation more
module _ (S : Source) (sites sites' : List ℕ) (n : Node) (clocks : Clocks) (count i place at q : ℕ) (cs : List Clocked) (z : i < count) (room : 17 * length S.tags.now ≤ length sites)
    (ends : (e : Equation) (r : ℕ) → equation S.names (tokens_of S) place ≡ got e r → place < r)
    (E : (e : Equation) (r : ℕ) (o : Option Clock) → equation S.names (tokens_of S) place ≡ got e r → natural clocks e.right ≡ formed o → EquationStored S sites sites' i (or_base o) e place r)
    (h : Siting S sites n clocks (count - i) i place at q cs) where
  pub siting-step : (end : ℕ) → ((e : Equation) (r : ℕ) → equation S.names (tokens_of S) place ≡ got e r → end ≡ r) → Siting S sites' n clocks (count - (i + 1)) (i + 1) end at q cs
  unfolding EquationsOn EquationsSited
  siting-step end L =
      let c = times-cons (equation S.names) (tokens_of S) (count - i) place h.rest q (λ y. omega (arith, y)) h.items in
      let b = by-clocks clocks c.0 c.2 h.those (rw c.5 at h.clocked) in
      let s = E c.0 c.1 b.0 c.3 b.2 in
      let r = L c.0 c.1 c.3 in
      let f = ends c.0 c.1 c.3 in
      let p = h.past in
      let u : count - (i + 1) ≡ count - i - 1 = omega arith in
      let v : suc i ≡ i + 1 = omega arith in
      let before : (later : List ℕ) → SameRows sites' later at end → SameRows sites later at place = λ later w j x y. w j x (omega (arith, y, f, r)) ∙ s.kept j (inl y) in
      let here : (later : List ℕ) → SameRows sites' later at end → SameRows sites' later place c.1 = λ later w j x y. w j (omega (arith, p, x)) (omega (arith, y, r)) in
      record {
        rest = c.2;
        those = b.1;
        items = rw (r, u) c.4;
        clocked = b.3;
        past = omega (arith, p, f, r);
        on = λ later w x. h.on later (before later w) (rw b.4 (c.1, c.3, (w place p (omega (arith, f, r)) ∙ s.row room), rw r at x));
        alone = λ o. rw (← v) (only-both (check_equation n clocks i (record { clock = or_base b.0; equation = c.0 })) _ (rw b.4 at (h.alone o))).1;
        sited = λ later w o x.
            let a = (only-both (check_equation n clocks i (record { clock = or_base b.0; equation = c.0 })) _ (rw b.4 at (h.alone o))).0 in
            h.sited later (before later w) o (rw b.4 (c.1, s.sited clocks room (only-right n clocks i (or_base b.0) c.0 a) later (here later w), rw r at x));
      }

-- the clock that is formed
pub formed-value : (v : Natural) (o p : Option Clock) → v ≡ formed o → v ≡ formed p → o ≡ p
formed-value v o p e f = let x : formed o ≡ formed p = sym e ∙ f in cc

-- stored on the clock that it is
pub stored_on : {S : Source} {sites sites' : List ℕ} {i : ℕ} {c d : Clock} {e : Equation} {p q : ℕ} → c ≡ d → EquationStored S sites sites' i c e p q → EquationStored S sites sites' i d e p q
stored_on {S} {sites} {sites'} {i} {e = e} {p = p} {q = q} h s = subst (λ (x : Clock). EquationStored S sites sites' i x e p q) h s

-- a node's clocks by its parts
module _ (n : Node) (i : Inferred) (k : Clocking) (h : inferred n ≡ formed i) (f : clocking n ≡ formed k) where
  by_parts : (w : Formed (List Clocked)) → clocked_by i.clocks n.equations ≡ w → clocking n ≡ (w >>= λ es. choose (any is_too_deep (join (numbered (check_equation n i.clocks) 0 es))) deep (formed (record { passes = i.passes; names = i.clocks; equations = es; findings = join (numbered (check_equation n i.clocks) 0 es) })))
  unfolding clocking
  by_parts w e = rw (h, e)

  pub node-parts : (clocked_by i.clocks n.equations ≡ formed k.equations) × (join (numbered (check_equation n i.clocks) 0 k.equations) ≡ k.findings)
  node-parts = go (clocked_by i.clocks n.equations) refl
    where
      go : (w : Formed (List Clocked)) → clocked_by i.clocks n.equations ≡ w → (clocked_by i.clocks n.equations ≡ formed k.equations) × (join (numbered (check_equation n i.clocks) 0 k.equations) ≡ k.findings)
      go deep e = let x : deep ≡ formed k = sym (by_parts deep e) ∙ f in absurd cc
      go (formed es) e = told (any is_too_deep (join (numbered (check_equation n i.clocks) 0 es))) (sym (by_parts (formed es) e) ∙ f)
        where
          told : (b : Bool) → choose b deep (formed (record { passes = i.passes; names = i.clocks; equations = es; findings = join (numbered (check_equation n i.clocks) 0 es) })) ≡ formed k →
              (clocked_by i.clocks n.equations ≡ formed k.equations) × (join (numbered (check_equation n i.clocks) 0 k.equations) ≡ k.findings)
          told true x = absurd cc
          told false x =
              let y : record { passes = i.passes; names = i.clocks; equations = es; findings = join (numbered (check_equation n i.clocks) 0 es) } ≡ k = cc in
              (e ∙ ap (λ (c : Clocking). formed c.equations) y, subst (λ (c : Clocking). join (numbered (check_equation n i.clocks) 0 c.equations) ≡ c.findings) y refl)

-- what was told of sites, by the findings
pub told-by : {S : Source} {sites : List ℕ} {fs gs : List Finding} {cs : List Clocked} {p q : ℕ} → fs ≡ gs → SitesTold S sites fs cs p q → SitesTold S sites gs cs p q
told-by {S} {sites} {cs = cs} {p = p} {q = q} e s = subst (λ (x : List Finding). SitesTold S sites x cs p q) e s

-- the same of a table that is that one
pub told-in : {S : Source} (sites sites' : List ℕ) {fs : List Finding} {cs : List Clocked} {p q : ℕ} → sites' ≡ sites → SitesTold S sites fs cs p q → SitesTold S sites' fs cs p q
told-in {S} sites sites' {fs} {cs} {p} {q} e s = subst (λ (x : List ℕ). SitesTold S x fs cs p q) (sym e) s

-- what inference answered
pub inferred-here : (M : ℕ) (n : Node) (env : List ℕ) (r : Result ℕ TooDeep) (k : ℕ) → r ≡ Ok k → Infers env M r (inferred n) → (i : Inferred) × (inferred n ≡ formed i) × Agrees env M i.clocks
unfolding Infers
inferred-here M n env r k j h = let x : Infers env M (Ok k) (inferred n) = rw j at h in (x.0, x.1, x.3)
