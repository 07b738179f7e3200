-- A node's faults one by one: its clock faults, else the first that rewriting meets.
-- Assumes nothing.
use Prim.Native.Nat.{ℕ, zero, suc, ◌≤◌, ◌<◌}
use mathlib.Core.Path.{◌≡◌, refl, sym, ap, ◌∙◌, subst}
use mathlib.Core.List.{List, [], ◌∷◌}
use mathlib.Core.Bool.{Bool, true, false, true≢false}
use mathlib.Core.Option.{Option, none, some, none-ne-some}
use native.Mathlib.Omega.{arith}
use lib.ListN.{length, get_or, get_elem?, length-map}
use Rattle.definitions.specs.Tokens.{TagValue}
use Rattle.grammar.specs.declared.source.Source.{Source}
use Rattle.grammar.specs.Read.{tokens_of}
use Rattle.definitions.specs.Tree.{TypeDef, Node}
use Rattle.definitions.specs.Reading.{got}
use Rattle.definitions.specs.Grammar.{node}
use Rattle.definitions.specs.Refusals.{accepted}
use Rattle.definitions.specs.InferClocks.{formed, NodeFault, Clocked, Clocking, Finding, clocking, clock_faults, uses_clocks}
use Rattle.definitions.specs.Output.{condact_id, ClockedNode, node_faults}
use Rattle.definitions.specs.Answer.{Input, clockings}
use Rattle.shapes.proofs.Clockless.{no-node-faults}
use Rattle.shapes.proofs.Formed.{node-checks, same-clocking, clocked}
use Rattle.layout.specs.declared.NodeLayout.{NodeLayout}
use Rattle.layout.specs.Laid.{LaidNode}
use Rattle.lines.proofs.Laws.{clocked-many}
use Rattle.findings.specs.Value.{node_fault_of, found_of}
use Rattle.findings.specs.Findings.{findings_in}
use Rattle.infer_clocks.specs.Clocked.{is_deep, SitesTold}
use Rattle.lines.specs.declared.ToldNode.{ToldNode}
use Rattle.query.specs.Standing.{ClockedAs}
use Rattle.checking.proofs.Only.{sites-alone}
use Rattle.skeleton.specs.Sites.{EquationsSited}
use Rattle.stateless.specs.Sheets.{one_of, faults_by}
use Rattle.stateless.proofs.Nodes.{clockings-form, node-here, node-faults, rewriting-faulty}
use Rattle.stateless.proofs.Stops as stops
use Rattle.index.specs.declared.Index.{Index}
use Rattle.index.specs.Indexed.{Indexed}
use Rattle.stateless.specs.declared.Counts.{Counts}
use Rattle.planned.specs.declared.HeldOperand.{HeldOperand}
use Rattle.node_plan.specs.Outcomes.{met_by, PlansNode}
use Rattle.std.specs.Prelude.{Result, Ok, Err, IfErr}
use Rattle.std.specs.Prelude as code
use Rattle.std.specs.Result.{result_err, is_err}
use Rattle.definitions.specs.declared.Refusal.{Refusal}
use Rattle.findings.specs.declared.Found.{Found}
use Rattle.workspace.specs.declared.Working.{Working}
use Rattle.first_faults.specs.Faults.{fault_in, fault_found, LaidIn, RoomIn, DeepAt, FoundIn, NodeMet}

-- ---- which fault is fault j
none-first : {A : Type 0} (l : List A) (j : ℕ) → j ≡ 0 → get_elem? l j ≡ none → l ≡ []
none-first [] j z e = refl
none-first (a ∷ l) zero z e = absurd (none-ne-some a (sym e))
none-first (a ∷ l) (suc j) z e = absurd (omega arith)

by-later : (u : Bool) (o : Option NodeFault) (j : ℕ) → 0 < j → get_elem? (faults_by [] u o) j ≡ none
by-later true none j h = refl
by-later true (some f) zero h = absurd (omega arith)
by-later true (some f) (suc j) h = refl
by-later false o j h = refl

-- behind the first, clock faults alone
later-faults : (l : List NodeFault) (u : Bool) (o : Option NodeFault) (j : ℕ) → 0 < j → get_elem? l j ≡ get_elem? (faults_by l u o) j
later-faults [] u o j h = sym (by-later u o j h)
later-faults (f ∷ l) u o j h = refl

-- a clock fault is the first
first-fault : (l : List NodeFault) (u : Bool) (o : Option NodeFault) (f : NodeFault) → some f ≡ get_elem? l 0 → some f ≡ get_elem? (faults_by l u o) 0
first-fault [] u o f e = absurd (none-ne-some f (sym e))
first-fault (g ∷ l) u o f e = e

by_first : (o : Option NodeFault) → get_elem? (one_of o) 0 ≡ o
by_first none = refl
by_first (some f) = refl

-- a node that uses no clocks has none
pub none-unclocked : (r : Input) (n : Node) (k : Clocking) (j : ℕ) (found : Option NodeFault) → uses_clocks n ≡ false → clocking n ≡ formed k → found ≡ none → found ≡ get_elem? (node_faults r.names r.sheet (record { node = n; clocking = k })) j
none-unclocked r n k j found u f e = e ∙ sym (ap (λ (x : List NodeFault). get_elem? x j) (no-node-faults r.names r.sheet (record { node = n; clocking = k }) u f))

-- ---- a node clocked
module _ (t : Index) (k : ℕ) (l : NodeLayout) (w : Working) (table sites : List ℕ) where
  -- node k, which has this layout, is told so, if the working tables have room
  abbrev pub ToldAs : Result ToldNode Refusal → Type 0
  ToldAs r = (n : Node) (q : ℕ) → LaidIn t l n q → RoomIn t w → ClockedAs t.source table sites k n r

  pub deep-at : {A : Type 0} (r : Refusal) → r ≡ Refusal.Deep k → ToldAs (Err r) → DeepAt {A = A} t k l w (Err r)
  unfolding ClockedAs
  deep-at r e h = record { refused_at = e; deep = λ n q d room. sym (ap is_deep (h n q d room).0) }

  pub formed-at : {A : Type 0} (told : ToldNode) (a : A) → ToldAs (Ok told) → DeepAt t k l w (Ok a)
  unfolding ClockedAs
  formed-at told a h = record { refused_at = tt; deep = λ n q d room. sym (ap is_deep (h n q d room).1) }

module _ (s : Source) (table sites : List ℕ) (k : ℕ) (n : Node) where
  pub all-told : (told : ToldNode) → ClockedAs s table sites k n (Ok told) → (c : Clocking) → clocking n ≡ formed c → findings_in table told.clocked.findings ≡ c.findings
  unfolding ClockedAs
  all-told told h c f = subst (λ (x : Clocking). findings_in table told.clocked.findings ≡ x.findings) (same-clocking n h.0 c h.1 f) h.2.tells.all

-- where too deep a clock is formed, a node has none
pub deep-unformed : (n : Node) (k : Clocking) → true ≡ is_deep (clocking n) → clocking n ≡ formed k → ⊥
deep-unformed n k e f = true≢false (e ∙ ap is_deep f)

-- by the id of `condact` that the index has
pub by-condact : (M : ℕ) (gs vs plan flags firsts : List ℕ) (holds : List HeldOperand) (types : List ℕ) (tys : List TypeDef) (ns : List Node) (n : Node) (g h : ℕ) (cs : List Clocked) (p q : ℕ) (o : Result Counts Found) → g ≡ h
    → PlansNode M gs vs plan flags firsts holds types tys ns n g cs p q o → PlansNode M gs vs plan flags firsts holds types tys ns n h cs p q o
by-condact M gs vs plan flags firsts holds types tys ns n g h cs p q o e x = subst (λ (i : ℕ). PlansNode M gs vs plan flags firsts holds types tys ns n i cs p q o) e x

-- as many equations with clocks as the layout says
pub as_many : (M : ℕ) (ts : List TagValue) (n : Node) (q : ℕ) (l : NodeLayout) (k : Clocking) → LaidNode M ts n q l → clocking n ≡ formed k → length k.equations ≡ l.equations.count
as_many M ts n q l k d f =
    let b = clocked-many k.names n.equations k.equations (clocked n k f) in
    omega (arith, b, length-map k.equations (λ (x : Clocked). x.clock), d.equations.many)

-- every site has its clock, where there is no clock fault
pub all-sited : (t : Source) (sites : List ℕ) (n : Node) (k : Clocking) (p q : ℕ) → clocking n ≡ formed k → clock_faults k.findings ≡ [] → SitesTold t sites k.findings k.equations p q → EquationsSited t.names t.tags.now t.values.now sites k.equations p q
all-sited t sites n k p q f z s = s.sited (sites-alone k.findings z (node-checks n k f).shallow)

-- ---- what is found in a clocked node
module _ (r : Input) (n : Node) (k : Clocking) (t : List ℕ) (m : ℕ) (all : findings_in t m ≡ k.findings) where
  abbrev this : ClockedNode
  this = record { node = n; clocking = k }

  -- a fault behind the first
  pub found-later : (j : ℕ) (found : Option NodeFault) → 0 < j → found ≡ get_elem? (clock_faults (findings_in t m)) j → found ≡ get_elem? (node_faults r.names r.sheet this) j
  found-later j found h e =
      e ∙ (ap (λ (l : List Finding). get_elem? (clock_faults l) j) all
      ∙ (later-faults (clock_faults k.findings) (uses_clocks n) (stops.fault_of r.sheet r.names this) j h
      ∙ ap (λ (l : List NodeFault). get_elem? l j) (sym (node-faults r.names r.sheet this))))

  -- there is no clock fault
  pub no-clock-fault : none ≡ get_elem? (clock_faults (findings_in t m)) 0 → clock_faults k.findings ≡ []
  no-clock-fault e = none-first (clock_faults k.findings) 0 refl (ap (λ (l : List Finding). get_elem? (clock_faults l) 0) (sym all) ∙ sym e)

  module _ (x : Index) (w : Working) (holds : List HeldOperand) (l : NodeLayout) where
    -- the first is a clock fault
    pub found-clock : (f : Found) → some (node_fault_of f) ≡ get_elem? (clock_faults (findings_in t m)) 0 → FoundIn x w holds r this l (Err f)
    found-clock f e =
        let told =
        e ∙ ap (λ (l : List Finding). get_elem? (clock_faults l) 0) all in
        let first =
        first-fault (clock_faults k.findings) (uses_clocks n) (stops.fault_of r.sheet r.names this) (node_fault_of f) told
        ∙ ap (λ (l : List NodeFault). get_elem? l 0) (sym (node-faults r.names r.sheet this)) in
        record {
          fault = first;
          sited = λ clean. absurd (none-ne-some (node_fault_of f) (sym (first ∙ ap (λ (l : List NodeFault). get_elem? l 0) clean)));
          planned = λ s c. absurd (other f s c);
        }
      where
        other : (f : Found) (s : Counts) → ◌≡◌ {A = Result Counts Found} (Err f) (Ok s) → ⊥
        other f s c = cc

    -- what planning met
    pub found-planned : (o : Result Counts Found) → none ≡ get_elem? (clock_faults (findings_in t m)) 0 → uses_clocks n ≡ true
        → PlansNode x.source.names x.source.tags.now x.source.values.now w.chain.now w.table.now w.env.now holds w.rows.now r.sheet.types r.sheet.nodes n (condact_id r.names) k.equations l.equations.at l.equations.end o
        → EquationsSited x.source.names x.source.tags.now x.source.values.now w.sites.now k.equations l.equations.at l.equations.end → FoundIn x w holds r this l o
    found-planned o e uses p sited =
        record {
          fault = p.met ∙ sym (ap (λ (x : List NodeFault). get_elem? x 0) (rewriting-faulty r.names r.sheet this (no-clock-fault e) uses) ∙ by_first (stops.fault_of r.sheet r.names this));
          sited = λ clean. sited;
          planned = p.planned;
        }

  -- the first, of what planning a node answers
  pub found-first : (j : ℕ) (a : Result Counts Found) (found : code.Option Found) → j ≤ 0 → found ≡ result_err a → met_by a ≡ get_elem? (node_faults r.names r.sheet this) 0 → found_of found ≡ get_elem? (node_faults r.names r.sheet this) j
  found-first j a found h e f =
      let z : j ≡ 0 = omega arith in
      ap found_of e ∙ (same a ∙ (f ∙ ap (λ (i : ℕ). get_elem? (node_faults r.names r.sheet this) i) (sym z)))
    where
      same : (a : Result Counts Found) → found_of (result_err a) ≡ met_by a
      same (Ok s) = refl
      same (Err f) = refl

-- ---- node k
module _ (t : Index) (r : Input) (ns : List ClockedNode) (h : Indexed t r) (f : clockings 0 r.sheet.nodes ≡ accepted ns) (k j : ℕ) where
  pub at-node : (o : Option NodeFault) (l : NodeLayout) → k < t.nodes.count
      → ((n : Node) (q : ℕ) → node t.source.names (tokens_of t.source) (get_or t.nodes.at k 0) ≡ got n q → LaidNode t.source.names (tokens_of t.source) n q l)
      → ((n : Node) (q : ℕ) (c : Clocking) → LaidNode t.source.names (tokens_of t.source) n q l → clocking n ≡ formed c → o ≡ get_elem? (node_faults r.names r.sheet (record { node = n; clocking = c })) j)
      → o ≡ fault_in r (get_elem? ns k) j
  at-node o l few L F =
      let here = node-here (clockings-form 0 r.sheet.nodes ns f) k (omega (arith, few, h.nodes.count)) in
      let p = h.nodes.each.stands k here.clocked.node here.node-here in
      F here.clocked.node p.0 here.clocked.clocking (L here.clocked.node p.0 p.1) here.forms
      ∙ sym (ap (λ (x : Option ClockedNode). fault_in r x j) here.here)

-- it is laid out where it stands
pub laid-at : {P : Type 0} (t : Index) (r : Input) → Indexed t r → (k : ℕ) (n : Node) → get_elem? r.sheet.nodes k ≡ some n → (l : NodeLayout)
    → ((n : Node) (q : ℕ) → node t.source.names (tokens_of t.source) (get_or t.nodes.at k 0) ≡ got n q → LaidNode t.source.names (tokens_of t.source) n q l)
    → ((q : ℕ) → LaidNode t.source.names (tokens_of t.source) n q l → P) → P
laid-at t r h k n e l L F = let p = h.nodes.each.stands k n e in F p.0 (L n p.0 p.1)

-- ---- node k, which has this layout
module _ (t : Index) (k : ℕ) (l : NodeLayout) (L : (n : Node) (q : ℕ) → node t.source.names (tokens_of t.source) (get_or t.nodes.at k 0) ≡ got n q → LaidNode t.source.names (tokens_of t.source) n q l) (few : k < t.nodes.count)
    (a : Result (code.Option Found) Refusal) (refused_at : IfErr a (λ r. r ≡ Refusal.Deep k)) (deep : (n : Node) (q : ℕ) → LaidNode t.source.names (tokens_of t.source) n q l → is_err a ≡ is_deep (clocking n)) where
  -- it uses clocks
  pub met-clocked : ((r : Input) (n : Node) (q : ℕ) (c : Clocking) → Indexed t r → LaidNode t.source.names (tokens_of t.source) n q l → clocking n ≡ formed c → fault_found a ≡ get_elem? (node_faults r.names r.sheet (record { node = n; clocking = c })) 0)
      → NodeMet t k a
  met-clocked fault = record {
    refused_at = refused_at;
    deep = λ r n h here. laid-at t r h k n here l L (deep n);
    fault = λ r ns h f. at-node t r ns h f k 0 (fault_found a) l few L (λ n q c d e. fault r n q c h d e);
  }

  -- it uses none
  pub met-unclocked : ((n : Node) (q : ℕ) → LaidNode t.source.names (tokens_of t.source) n q l → uses_clocks n ≡ false) → fault_found a ≡ none → NodeMet t k a
  met-unclocked unused nothing = record {
    refused_at = refused_at;
    deep = λ r n h here. laid-at t r h k n here l L (deep n);
    fault = λ r ns h f. at-node t r ns h f k 0 (fault_found a) l few L (λ n q c d e. none-unclocked r n c 0 (fault_found a) (unused n q d) e nothing);
  }
