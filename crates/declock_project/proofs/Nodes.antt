-- A node written, and node after node: the names so far and the tokens so far.
-- Assumes nothing.
use Prim.Native.Nat.{ℕ, ◌+◌, ◌*◌, ◌≤◌, ◌<◌}
use mathlib.Core.Path.{◌≡◌, refl, sym, ap, ap₂, ◌∙◌, subst}
use mathlib.Core.Bool.{Bool, true, false, true≢false, ◌&&◌}
use mathlib.Core.List.Memᴰ
use mathlib.Core.List.{List, [], ◌∷◌, ◌++◌, map, Memᴰ}
use mathlib.Core.Option.{some, none-ne-some}
use native.Mathlib.Omega.{arith}
use lib.Dec.{leb}
use borrow.Author.Tests.{le-leb, leb-true}
use lib.ListN.{length, get_or, get_elem?, take, drop, length-append}
use lib.ListN.{take-append-drop}
use Rattle.std.proofs.lemmas.Bool.{and_parts}
use Rattle.definitions.specs.declared.Token.{Token}
use Rattle.definitions.specs.Lists.{join, Letters}
use Rattle.grammar.specs.Read.{tokens_of}
use Rattle.definitions.specs.Tree.{Node, Sheet}
use Rattle.definitions.specs.Reading.{got}
use Rattle.definitions.specs.Grammar.{node}
use Rattle.definitions.specs.Clock.{Clock}
use Rattle.definitions.specs.InferClocks.{NodeFault, Clocked, formed, clocking, uses_clocks}
use Rattle.definitions.specs.Refusals.{accepted}
use Rattle.definitions.specs.Output.{condact_id, ClockedNode, node_faults, with_new_names, output_names, names_out, definition_tokens, node_tokens, sheet_out, sheet_tokens, output_node}
use Rattle.definitions.specs.Answer.{Input, clockings}
use Rattle.shapes.proofs.Facts.{Goes}
use Rattle.shapes.proofs.Source.{read-facts}
use Rattle.shapes.proofs.Clockless.{output-as-came}
use Rattle.shapes.proofs.Names.{goes-output}
use Rattle.spelling.specs.declared.names.Spelling.{Spelling}
use Rattle.spelling.specs.declared.name_table.NameTable.{NameTable}
use Rattle.spelling.specs.Table.{within, NamesHeld}
use Rattle.layout.specs.declared.NodeLayout.{NodeLayout}
use Rattle.layout.specs.Laid.{LaidNode}
use Rattle.infer_clocks.specs.Clocked.{is_deep}
use Rattle.emit.specs.declared.output.Output.{Output}
use Rattle.emit.specs.Out.{emits}
use Rattle.emit.proofs.Laws.{emits_none}
use Rattle.stateless.specs.Sheets.{NodeHere, head_tokens, output_tokens}
use Rattle.stateless.proofs.Nodes.{clockings-form, node-here, all-before, no-faults, no-node-faulty, faultless, names-out, names-end, names-append, names_same, names-front, out-tokens, tokens-end, tokens-front}
use Rattle.stateless.proofs.Output.{names-by-needs}
use Rattle.stateless.proofs.Condact.{sheet-fault}
use Rattle.emit.proofs.NodePartsLaws.{after}
use Rattle.index.specs.declared.Index.{Index}
use Rattle.index.specs.Indexed.{Indexed}
use Rattle.clock_tables.specs.Rows.{RowsHold}
use Rattle.clock_tables.proofs.RowsLaws.{has-count}
use Rattle.stateless.specs.declared.Counts.{Counts}
use Rattle.new_names.specs.Filled.{counts_of}
use Rattle.std.specs.Prelude.{Result, Ok, Err}
use Rattle.findings.specs.declared.Found.{Found}
use Rattle.findings.specs.Value.{node_fault_of}
use Rattle.skeleton.specs.Sites.{EquationsSited}
use Rattle.planned.specs.declared.HeldOperand.{HeldOperand}
use Rattle.node_plan.specs.Outcomes.{met_by, PlansNode}
use Rattle.workspace.specs.declared.Working.{Working}
use Rattle.first_faults.proofs.Laws.{as_many}
use Rattle.declock.specs.declared.NodePlan.{NodePlan}
use Rattle.declock.specs.Planned.{node_needs, names_with, PlannedNode, NamesAhead}
use Rattle.declock_project.specs.Walk.{PlannedIn, LeftIn, SitedIn, Faultless, CleanNode, CleanClocked, NodePut, LaidPut, AllPut}

-- ---- a node that uses clocks
module _ {spelling : Spelling} {t : Index} {r : Input} {n : ClockedNode} {p : NodePlan} (h : Indexed t r) (u : CleanClocked spelling t r n p.layout)
    (q : PlannedIn spelling t p.layout (counts_of p.needs) p.needs.flags.words.now p.needs.firsts.words.now p.plan.now p.holds.now p.types.now) where
  -- it is planned
  planned-node : PlannedNode spelling t p r.names r.sheet n
  planned-node =
      let x = q.planned r n h u in
      record {
        named = u.clean.named;
        standing = h.nodes;
        table = h.types.table;
        uses = u.uses;
        place = u.place;
        end = u.end;
        read = u.read;
        laid = u.laid;
        forms = u.clean.forms;
        going = (faultless r.names r.sheet n u.clean.clean).1 u.uses;
        distinct = u.clean.distinct;
        below = u.clean.below;
        declares = x.declares;
        flag-room = λ small. all-rows p.needs.flags.words.now p.needs.flags.count (node_needs r.names r.sheet n).flags (q.flag-room small) x.counted.flagged;
        first-room = λ small. all-rows p.needs.firsts.words.now p.needs.firsts.count (node_needs r.names r.sheet n).firsts (q.first-room small) x.counted.first-flagged;
        hold-room = q.hold-room;
        counted = x.counted;
        planned = x.planned;
        held = x.held;
      }
    where
      all-rows : (rows : List ℕ) (m : ℕ) (clocks : List Clock) → 17 * m ≤ length rows → RowsHold rows m clocks → 17 * length clocks ≤ length rows
      all-rows rows m clocks room held = omega (arith, has-count rows m clocks room held)

-- one that is planned is written by its plan
pub plan-put : {spelling : Spelling} {t : Index} {l : NodeLayout} {s : Counts} {flags firsts plan : List ℕ} {holds : List HeldOperand} {types : List ℕ} (p : NodePlan) {c c' : NameTable 1024 16384} {o o' : Output} → c.full ≡ false
    → LeftIn l s flags firsts plan holds types p → PlannedIn spelling t l s flags firsts plan holds types
    → ((names before : List Letters) (sheet : Sheet) (n : ClockedNode) → PlannedNode spelling t p names sheet n → NamesHeld c before → NamesHeld c' (names_with names before sheet n))
    → ((names before all : List Letters) (sheet : Sheet) (n : ClockedNode) → PlannedNode spelling t p names sheet n → NamesHeld c before → NamesAhead names before sheet n all → c'.full ≡ false → o' ≡ emits o (node_tokens (output_node names sheet all n)))
    → LaidPut spelling t l c c' o o'
plan-put {spelling} {t} {l} {s} {flags} {firsts} {plan} {holds} {types} p {c} {c'} {o} {o'} free a q names tokens =
    let own : PlannedIn spelling t p.layout (counts_of p.needs) p.needs.flags.words.now p.needs.firsts.words.now p.plan.now p.holds.now p.types.now = rw (a.of-layout, a.of-counts, a.of-flags, a.of-firsts, a.of-plan, a.of-holds, a.of-types) q in
    subst (λ (x : NodeLayout). LaidPut spelling t x c c' o o') a.of-layout
    (record {
      free = λ e. free;
      names = λ i n before h u held. names i.names before i.sheet n (planned-node {p = p} h u own) held;
      tokens = λ i n before all h u held ahead whole. tokens i.names before all i.sheet n (planned-node {p = p} h u own) held ahead whole;
    })

-- nothing is said of a node that is no such
pub never-put : {spelling : Spelling} {t : Index} {l : NodeLayout} {c : NameTable 1024 16384} {o o' : Output} → ((r : Input) (n : ClockedNode) → Indexed t r → CleanClocked spelling t r n l → ⊥) → LaidPut spelling t l c c o o'
never-put unlike = record { free = λ free. free; names = λ r n before h u held. absurd (unlike r n h u); tokens = λ r n before all h u held ahead free. absurd (unlike r n h u) }

-- one in which too deep a clock was formed is no such
pub deep-unclean : (n : ClockedNode) → true ≡ is_deep (clocking n.node) → clocking n.node ≡ formed n.clocking → ⊥
deep-unclean n d k = true≢false (d ∙ ap is_deep k)

-- nor one in which a fault was found
pub unclean : (r : Input) (n : ClockedNode) (f : Found) → some (node_fault_of f) ≡ get_elem? (node_faults r.names r.sheet n) 0 → node_faults r.names r.sheet n ≡ [] → ⊥
unclean r n f e c = none-ne-some (node_fault_of f) (sym (e ∙ ap (λ (l : List NodeFault). get_elem? l 0) c))

-- ---- one whose sites have their clocks is planned again, in tables of as many rows as an output may have names
module _ {spelling : Spelling} {w : Working} {holds : List HeldOperand} {plan' flags' firsts' : List ℕ} {holds' : List HeldOperand} {types' : List ℕ} {t : Index} {l : NodeLayout} (o : Result Counts Found) (s : SitedIn spelling t l w holds)
    (P : (i : Input) (node : Node) (q : ℕ) (cs : List Clocked) → Indexed t i → LaidNode t.source.names (tokens_of t.source) node q l → EquationsSited t.source.names t.source.tags.now t.source.values.now w.sites.now cs l.equations.at l.equations.end → length cs ≡ l.equations.count
    → t.source.names ≤ length w.rows.now → length t.source.tags.now ≤ length w.chain.now → length t.source.tags.now ≤ 4096 → PlansNode t.source.names t.source.tags.now t.source.values.now plan' flags' firsts' holds' types' i.sheet.types i.sheet.nodes node (condact_id i.names) cs l.equations.at l.equations.end o) where
  again : (r : Input) (n : ClockedNode) → Indexed t r → (u : CleanClocked spelling t r n l)
      → PlansNode t.source.names t.source.tags.now t.source.values.now plan' flags' firsts' holds' types' r.sheet.types r.sheet.nodes n.node (condact_id r.names) n.clocking.equations l.equations.at l.equations.end o
  again r n h u = P r n.node u.end n.clocking.equations h u.laid (s.sited r n h u) (as_many _ _ n.node _ _ n.clocking u.laid u.clean.forms) s.typed s.noted s.few-tokens

  pub sited-planned : (m : Counts) → o ≡ Ok m → length flags' ≡ 17408 → length firsts' ≡ 17408 → length holds' ≡ 1024 → PlannedIn spelling t l m flags' firsts' plan' holds' types'
  sited-planned m e a b d =
      record {
        planned = λ r n h u. (again r n h u).planned m e;
        flag-room = λ small. absurd (omega (arith, a, small));
        first-room = λ small. absurd (omega (arith, b, small));
        hold-room = d;
      }

  -- and meets no fault
  pub sited-clean : (f : Found) → o ≡ Err f → (r : Input) (n : ClockedNode) → Indexed t r → CleanClocked spelling t r n l → ⊥
  sited-clean f e r n h u = none-ne-some (node_fault_of f) (sym (sym (ap met_by e) ∙ ((again r n h u).met ∙ (faultless r.names r.sheet n u.clean.clean).1 u.uses)))

-- ---- node k
-- it stands where the layout says
module _ (t : Index) (k : ℕ) (l : NodeLayout) (L : (n : Node) (q : ℕ) → node t.source.names (tokens_of t.source) (get_or t.nodes.at k 0) ≡ got n q → LaidNode t.source.names (tokens_of t.source) n q l) (r : Input) (h : Indexed t r) (n : Node) (here : get_elem? r.sheet.nodes k ≡ some n) where
  pub stands : (q : ℕ) × (node t.source.names (tokens_of t.source) (get_or t.nodes.at k 0) ≡ got n q) × LaidNode t.source.names (tokens_of t.source) n q l
  stands = let p = h.nodes.each.stands k n here in (p.0, p.1, L n p.0 p.1)

module _ (spelling : Spelling) (t : Index) (k : ℕ) (l : NodeLayout) (L : (n : Node) (q : ℕ) → node t.source.names (tokens_of t.source) (get_or t.nodes.at k 0) ≡ got n q → LaidNode t.source.names (tokens_of t.source) n q l) where
  clocked-here : (r : Input) (h : Indexed t r) (n : ClockedNode) → get_elem? r.sheet.nodes k ≡ some n.node → CleanNode spelling r n → uses_clocks n.node ≡ true → CleanClocked spelling t r n l
  clocked-here r h n here c u =
      let p = stands t k l L r h n.node here in
      record { clean = c; uses = u; place = get_or t.nodes.at k 0; end = p.0; read = p.1; laid = p.2 }

  -- one that uses clocks is written by its plan
  pub put-clocked : {c c' : NameTable 1024 16384} {o o' : Output} → ((n : Node) (q : ℕ) → LaidNode t.source.names (tokens_of t.source) n q l → uses_clocks n ≡ true) → LaidPut spelling t l c c' o o' → NodePut spelling t k c c' o o'
  put-clocked {c'} uses p =
      let used : (r : Input) (h : Indexed t r) (n : ClockedNode) → get_elem? r.sheet.nodes k ≡ some n.node → uses_clocks n.node ≡ true = λ r h n here. let x = stands t k l L r h n.node here in uses n.node x.0 x.2 in
      record {
        free = p.free;
        names = λ r n before h here clean held.
            let u = used r h n here in
            let going = (faultless r.names r.sheet n clean.clean).1 u in
            subst (λ (x : List Letters). NamesHeld c' x) (sym (names-by-needs r.names r.sheet before n u going)) (p.names r n before h (clocked-here r h n here clean u) held);
        tokens = λ r n before all h here clean held ahead free. p.tokens r n before all h (clocked-here r h n here clean (used r h n here)) held (ahead (used r h n here)) free;
      }

  -- any other is as it came
  pub put-came : {c : NameTable 1024 16384} {o o' : Output} → ((n : Node) (q : ℕ) → LaidNode t.source.names (tokens_of t.source) n q l → uses_clocks n ≡ false)
      → ((M : ℕ) (n : Node) (q : ℕ) → LaidNode M (tokens_of t.source) n q l → o' ≡ emits o (node_tokens n)) → NodePut spelling t k c c o o'
  put-came {c} {o} unused p =
      record {
        free = λ free. free;
        names = λ r n before h here clean held. let x = stands t k l L r h n.node here in subst (λ (y : List Letters). NamesHeld c y) (sym (names_same r.names r.sheet before n (unused n.node x.0 x.2))) held;
        tokens = λ r n before all h here clean held ahead free.
            let x = stands t k l L r h n.node here in
            p t.source.names n.node x.0 x.2 ∙ ap (λ (y : Node). emits o (node_tokens y)) (sym (output-as-came r.names r.sheet all n (unused n.node x.0 x.2)));
      }

-- ---- names for which there is no place have none with more
room-before : (l all : List Letters) → Goes l all → within 1024 16384 all ≡ true → within 1024 16384 l ≡ true
room-before l all g w =
    let x = and_parts (leb (length all) 1024) (leb (length (join all)) 16384) w in
    let m : length l + length g.0 ≡ length all = sym (length-append l g.0) ∙ ap length g.1 in
    let j : length (join l) ≤ length (join all) = subst (λ (y : List Letters). length (join l) ≤ length (join y)) g.1 (joined l g.0) in
    ap₂ ◌&&◌ (le-leb (length l) 1024 (omega (arith, leb-true (length all) 1024 x.0, m))) (le-leb (length (join l)) 16384 (omega (arith, leb-true (length (join all)) 16384 x.1, j)))
  where
    joined : (l m : List Letters) → length (join l) ≤ length (join (l ++ m))
    joined [] m = omega arith
    joined (x ∷ l) m = let i = joined l m in omega (arith, i, length-append x (join l), length-append x (join (l ++ m)))

stays-full : {c : NameTable 1024 16384} (l all : List Letters) → Goes l all → c.full ≡ true → NamesHeld c l → NamesHeld c all
stays-full {c} l all g full h =
    record { kept = λ e. absurd (true≢false (sym full ∙ e)); past = λ e. go (within 1024 16384 all) refl }
  where
    go : (b : Bool) → within 1024 16384 all ≡ b → b ≡ false
    go true e = absurd (true≢false (sym (room-before l all g e) ∙ h.past full))
    go false e = refl

-- names that a node adds stand behind those so far
goes_one : (names : List Letters) (sheet : Sheet) (l : List Letters) (n : ClockedNode) → Goes l (with_new_names names sheet l n)
unfolding output_names
goes_one names sheet l n = goes-output names sheet l (n ∷ [])

-- where the table is full nothing more is put
pub full_put : {spelling : Spelling} {t : Index} {l : NodeLayout} {c : NameTable 1024 16384} {o o' : Output} → c.full ≡ true → LaidPut spelling t l c c o o'
full_put full =
    record {
      free = λ free. free;
      names = λ r n before h u held.
          let same = names-by-needs r.names r.sheet before n u.uses ((faultless r.names r.sheet n u.clean.clean).1 u.uses) in
          stays-full before (names_with r.names before r.sheet n) (subst (λ (x : List Letters). Goes before x) same (goes_one r.names r.sheet before n)) full held;
      tokens = λ r n before all h u held ahead free. absurd (true≢false (sym full ∙ free));
    }

-- ---- node after node
module _ {spelling : Spelling} {bytes : List ℕ} {r : Input} {ns : List ClockedNode} (f : Faultless spelling bytes r ns) where
  abbrev all : List Letters
  all = names_out r.names r.sheet ns

  -- the names and the tokens up to a node
  abbrev pub names-to : ℕ → List Letters
  names-to i = output_names r.names r.sheet r.names (take i ns)

  abbrev pub tokens-to : ℕ → Output → Output
  tokens-to i o = emits o (output_tokens r.names r.sheet all (take i ns))

  pub names-start : {c : NameTable 1024 16384} → NamesHeld c r.names → NamesHeld c (names-to 0)
  names-start {c} h = subst (λ (l : List Letters). NamesHeld c l) (sym (names-end r.names r.sheet r.names)) h

  pub tokens-start : (o : Output) → o ≡ tokens-to 0 o
  tokens-start o = sym (ap (emits o) (tokens-end r.names r.sheet all) ∙ emits_none o)

  pub all-put : (i : ℕ) {c : NameTable 1024 16384} {o o' : Output} → length r.sheet.nodes ≤ i → NamesHeld c (names-to i) → (c.full ≡ false → o' ≡ tokens-to i o) → AllPut r ns c o o'
  all-put i {c} {o} l h e =
      let a : take i ns ≡ ns = all-before (clockings-form 0 r.sheet.nodes ns f.clocked) i l in
      record {
        names = subst (λ (x : List Letters). NamesHeld c x) (ap (output_names r.names r.sheet r.names) a ∙ sym (names-out r.names r.sheet ns)) h;
        tokens = λ free. e free ∙ ap (λ (x : List ClockedNode). emits o (output_tokens r.names r.sheet all x)) a;
      }

  module _ {t : Index} (h : Indexed t r) (i : ℕ) (few : i < t.nodes.count) where
    here : NodeHere r.sheet.nodes ns i
    here = node-here (clockings-form 0 r.sheet.nodes ns f.clocked) i (omega (arith, few, h.nodes.count))

    clean-here : CleanNode spelling r here.clocked
    clean-here =
        let facts = read-facts bytes f.are-bytes r f.read in
        record {
          named = f.named;
          forms = here.forms;
          clean = no-node-faulty r 0 ns f.faultless here.clocked here.member;
          distinct = facts.good-names;
          below = (facts.below.nodes here.clocked.node (subst (λ (l : List Node). Memᴰ here.clocked.node l) (clockings-form 0 r.sheet.nodes ns f.clocked).same_nodes (Memᴰ.map (λ x. x.node) here.member))).equations;
        }

    next-names : with_new_names r.names r.sheet (names-to i) here.clocked ≡ names-to (i + 1)
    next-names = sym (names-front r.names r.sheet here r.names)

    -- they begin with the input's names, and begin all the output's
    goes-from : Goes r.names (names-to (i + 1))
    goes-from = goes-output r.names r.sheet r.names (take (i + 1) ns)

    goes_on : Goes (names-to (i + 1)) all
    goes_on =
        let e : all ≡ output_names r.names r.sheet (names-to (i + 1)) (drop (i + 1) ns) = names-out r.names r.sheet ns ∙ (ap (output_names r.names r.sheet r.names) (sym (take-append-drop (i + 1) ns)) ∙ names-append r.names r.sheet r.names (take (i + 1) ns) (drop (i + 1) ns)) in
        subst (λ (l : List Letters). Goes (names-to (i + 1)) l) (sym e) (goes-output r.names r.sheet (names-to (i + 1)) (drop (i + 1) ns))

    ahead-here : uses_clocks here.clocked.node ≡ true → NamesAhead r.names (names-to i) r.sheet here.clocked all
    ahead-here u =
        let clear = no-faults r ns f.faultless here.clocked here.member in
        let same : names_with r.names (names-to i) r.sheet here.clocked ≡ names-to (i + 1) = sym (names-by-needs r.names r.sheet (names-to i) here.clocked u (clear.1 u)) ∙ next-names in
        record {
          input = subst (λ (l : List Letters). Goes r.names l) (sym same) goes-from;
          output = subst (λ (l : List Letters). Goes l all) (sym same) goes_on;
          going = sheet-fault bytes f.are-bytes r f.read ns f.clocked here.clocked here.member ∙ clear.1 u;
        }

    module _ {c c' : NameTable 1024 16384} {o o' : Output} (p : NodePut spelling t i c c' o o') (held : NamesHeld c (names-to i)) where
      pub names_more : NamesHeld c' (names-to (i + 1))
      names_more = subst (λ (l : List Letters). NamesHeld c' l) next-names (p.names r here.clocked (names-to i) h here.node-here clean-here held)

      pub tokens-more : (o₀ : Output) → (c.full ≡ false → o ≡ tokens-to i o₀) → c'.full ≡ false → o' ≡ tokens-to (i + 1) o₀
      tokens-more o₀ before free =
          after o₀ o o' _ _ (before (p.free free)) (p.tokens r here.clocked (names-to i) all h here.node-here clean-here held ahead-here free) ∙ ap (emits o₀) (sym (tokens-front r.names r.sheet all here))

-- ---- the tokens before the nodes, then those of the nodes
pub whole-put : (r : Input) (ns : List ClockedNode) → clockings 0 r.sheet.nodes ≡ accepted ns → (o o₁ o₂ : Output)
    → o₁ ≡ emits o (Token.Types (length r.sheet.types) ∷ (join (map (λ d. definition_tokens d.name d.body) r.sheet.types) ++ (Token.Nodes (length r.sheet.nodes) ∷ [])))
    → o₂ ≡ emits o₁ (output_tokens r.names r.sheet (names_out r.names r.sheet ns) ns) → o₂ ≡ emits o (sheet_tokens (sheet_out r.names r.sheet ns))
unfolding head_tokens
whole-put r ns clocks o o₁ o₂ e d =
    let k = clockings-form 0 r.sheet.nodes ns clocks in
    after o o₁ o₂ _ _ e d
    ∙ ap (emits o) (ap (λ (m : ℕ). head_tokens r.sheet.types m ++ output_tokens r.names r.sheet (names_out r.names r.sheet ns) ns) (sym k.same_length) ∙ sym (out-tokens r.names r.sheet ns))
