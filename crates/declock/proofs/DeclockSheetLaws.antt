-- A planned node written with its tables filled is the node of the output.
-- Assumes nothing.
use Prim.Native.Nat.{ℕ, ◌*◌, ◌≤◌, ◌<◌, min}
use mathlib.Core.Path.{◌≡◌, refl, sym, ap, ap₂, ◌∙◌, subst}
use mathlib.Core.Bool.{Bool, false}
use mathlib.Core.Option.{none}
use mathlib.Core.List.{List, []}
use native.Mathlib.Omega.{arith}
use lib.Dec.{eqb}
use lib.ListN.{length, take, length-map}
use lib.Seq.{length-take-le}
use denote.Ref.{Bor}
use Rattle.definitions.specs.Lists.{Letters}
use Rattle.grammar.specs.Read.{tokens_of}
use Rattle.definitions.specs.Tokens.{TagValue}
use Rattle.definitions.specs.Tree.{Node, Sheet}
use Rattle.definitions.specs.Clock.{Clock}
use Rattle.definitions.specs.Reading.{got}
use Rattle.definitions.specs.Grammar.{count, equation, node}
use Rattle.definitions.specs.InferClocks.{Formed, Clocked, Clocking}
use Rattle.definitions.specs.Declock.{ck, first, hold}
use Rattle.definitions.specs.Output.{new_id, condact_id, ClockedNode, output_node, node_tokens}
use Rattle.grammar.proofs.Laws.{times-length}
use Rattle.grammar.proofs.Parts.{counted-within}
use Rattle.grammar.proofs.Got.{node-got}
use Rattle.shapes.proofs.Facts.{All, goes-trans}
use Rattle.shapes.proofs.Inference.{Forms}
use Rattle.shapes.proofs.ClockNames.{NamedEquation, clocking-named}
use Rattle.runs.proofs.Names.{names_apart}
use Rattle.spelling.specs.Writing.{over_at}
use Rattle.spelling.specs.declared.names.Spelling.{Spelling}
use Rattle.spelling.specs.declared.name_table.NameTable.{NameTable}
use Rattle.spelling.specs.Table.{NamesHeld, names_of}
use Rattle.index.specs.declared.Index.{Index}
use Rattle.clock_tables.proofs.RowsLaws.{has_all, has-count}
use Rattle.emit.specs.declared.output.Output.{Output}
use Rattle.emit.specs.Out.{emits}
use Rattle.lines.proofs.Laws.{clocked-many}
use Rattle.stateless.specs.Need.{Needs}
use Rattle.stateless.specs.Yield.{Ids, old_yield}
use Rattle.stateless.specs.Faults.{old_fault}
use Rattle.stateless.specs.Whole.{no_needs, old_needs}
use Rattle.stateless.specs.Locals.{ids_in, Agree}
use Rattle.stateless.specs.Rewritten.{node_by}
use Rattle.stateless.proofs.Condact.{same-condact, same-fault, same-needs, Below}
use Rattle.shapes.proofs.Formed.{clocked}
use Rattle.new_names.specs.Names.{ids_of}
use Rattle.new_names.proofs.Ids.{declared-few}
use Rattle.new_names.proofs.Added.{ids-filled, ids-agree}
use Rattle.new_names.proofs.Apart.{apart_none, apart-old}
use Rattle.new_names.specs.Many.{TooMany}
use Rattle.new_names.specs.declared.TooMany as new
use Rattle.new_names.proofs.Large.{rows_fit}
use Rattle.new_names.proofs.Named.{named_none, named-old}
use Rattle.new_names.proofs.Many.{too_many}
use Rattle.new_names.proofs.Written.{output-standing}
use Rattle.planned.specs.Writes.{Writer}
use Rattle.planned.specs.Held.{HeldFrom}
use Rattle.planned.specs.declared.HeldOperand.{HeldOperand}
use Rattle.plan.specs.Planned.{Whole}
use Rattle.new_names.specs.declared.node_names.NodeNames.{NodeNames}
use Rattle.new_names.specs.Filled.{FlagsNamed, Filled, FilledAt, FilledOrNot}
use Rattle.declock.specs.declared.ReadyNode.{ReadyNode}
use Rattle.declock.specs.declared.NodePlan.{NodePlan}
use Rattle.declock.specs.Tabled.{flagged_clocks}
use Rattle.std.specs.Prelude.{Result}
use Rattle.declock.specs.Ready as ready
use Rattle.declock.specs.Ready.{NodeReady, needs_in, yield_in}
use Rattle.declock.specs.Planned.{node_needs, names_with, writer_of, ids_by, PlannedNode, NamesAhead}
use Rattle.declock.proofs.Alike.{planned-alike}
use Rattle.declock.proofs.Laws.{holds-made}
use Rattle.planned.proofs.HoldsLaws.{holds-cut}

-- a node of an accepted sheet has at most 64 equations
equations-few : (M : ℕ) (ts : List TagValue) (p : ℕ) (n : Node) (q : ℕ) → node M ts p ≡ got n q → length n.equations ≤ 64
unfolding count
equations-few M ts p n q g =
    let x = node-got M ts p n q g in
    omega (arith, times-length (equation M) ts x.equation_count x.equations_at n.equations x.probe_count_at x.equations, (counted-within 3 0 64 ts x.count_at x.equation_count x.equations_at x.counted-equations).1)

module _ {spelling : Spelling} {t : Index} {p : NodePlan} {names : List Letters} {sheet : Sheet} {n : ClockedNode} (h : PlannedNode spelling t p names sheet n) where
  named-equations : All (NamedEquation (length names)) n.clocking.equations
  named-equations = subst (λ (x : Formed Clocking). Forms (Unit {0}) (λ k. All (NamedEquation (length names)) k.equations) x) h.forms (clocking-named (length names) n.node h.below)

  pub shaped : Below (length names) n
  shaped = λ e m. (named-equations e m).1

-- the plan of a node that is to be written
abbrev pub plan_in : ReadyNode → ℕ → Bool → Bor (List HeldOperand) → NodePlan
plan_in r many gated table =
    record { layout = r.layout; needs = record { flags = r.flags.clocks; firsts = r.firsts.clocks; holds = many; condact = gated }; plan = r.written.plan; holds = table; types = r.written.types }

module _ (spelling : Spelling) (r : ReadyNode) {many : ℕ} {gated : Bool} {table : Bor (List HeldOperand)} {names : List Letters} {sheet : Sheet} {n : ClockedNode} (h : PlannedNode spelling r.written.index.now (plan_in r many gated table) names sheet n)
    (f : Filled names n.node (node_needs names sheet n) (plan_in r many gated table).needs r.names.now)
    {long : ℕ} (cut : r.written.holds.now ≡ take long table.now) (least : long ≡ min r.names.now.holds (length table.now))
    (f-flags : FlagsNamed names n.node ck r.flags.clocks.words.now r.flags.names.now (node_needs names sheet n).flags) (f-firsts : FlagsNamed names n.node first r.firsts.clocks.words.now r.firsts.names.now (node_needs names sheet n).firsts)
    {o : NameTable 1024 16384} {before all : List Letters} (held : NamesHeld o (names_with names before sheet n)) (kept : o.full ≡ false) (ahead : NamesAhead names before sheet n all)
    (same-flags : r.flags.ids.now ≡ r.written.ids.flags.now) (same-firsts : r.firsts.ids.now ≡ r.written.ids.firsts.now)
    (flags₀ firsts₀ holds₀ : List ℕ) (a : length flags₀ ≡ 1024) (b : length firsts₀ ≡ 1024) (d : length holds₀ ≡ 1024)
    (x : r.flags.ids.now ≡ over_at 0 (ids_of (names_of o) ck r.flags.names.now.numbers r.flags.clocks.count) flags₀)
    (y : r.firsts.ids.now ≡ over_at 0 (ids_of (names_of o) first r.firsts.names.now.numbers r.firsts.clocks.count) firsts₀)
    (z : r.written.ids.holds.now ≡ over_at 0 (ids_of (names_of o) hold r.names.now.hold_numbers r.names.now.holds) holds₀)
    (gate : r.written.ids.condact ≡ condact_id (names_of o)) where
  abbrev w : Needs
  w = node_needs names sheet n

  abbrev sofar : List Letters
  sofar = names_with names before sheet n

  abbrev K : ℕ
  K = r.written.ids.condact

  gate-so-far : K ≡ condact_id sofar
  gate-so-far = gate ∙ ap condact_id (sym (held.kept kept))

  flags-fit : 17 * r.flags.clocks.count ≤ length r.flags.clocks.words.now
  flags-fit = rows_fit r.flags.clocks.words.now r.flags.clocks.count w.flags h.flag-room f.few.flags f.counted.flagged

  firsts-fit : 17 * r.firsts.clocks.count ≤ length r.firsts.clocks.words.now
  firsts-fit = rows_fit r.firsts.clocks.words.now r.firsts.clocks.count w.firsts h.first-room f.few.firsts f.counted.first-flagged

  flagged : flagged_clocks r.flags ≡ w.flags
  flagged = has_all r.flags.clocks.words.now r.flags.clocks.count w.flags flags-fit f.counted.flagged

  first-flagged : flagged_clocks r.firsts ≡ w.firsts
  first-flagged = has_all r.firsts.clocks.words.now r.firsts.clocks.count w.firsts firsts-fit f.counted.first-flagged

  many-flags : length w.flags ≡ r.flags.clocks.count
  many-flags = has-count r.flags.clocks.words.now r.flags.clocks.count w.flags flags-fit f.counted.flagged

  many-firsts : length w.firsts ≡ r.firsts.clocks.count
  many-firsts = has-count r.firsts.clocks.words.now r.firsts.clocks.count w.firsts firsts-fit f.counted.first-flagged

  few-holds : w.holds ≤ 1024
  few-holds = omega (arith, f.counted.held, f.few.holds)

  -- as many holds are lent as are needed
  lent-many : long ≡ w.holds
  lent-many = omega (arith, least, h.hold-room, f.held, few-holds)

  lent-length : length r.written.holds.now ≡ w.holds
  lent-length = ap length cut ∙ (length-take-le long table.now (omega (arith, lent-many, h.hold-room, few-holds)) ∙ lent-many)

  whole : Whole (length r.flags.clocks.words.now) (length r.firsts.clocks.words.now) (length table.now) w
  whole =
      record {
        flags-fit = omega (arith, many-flags, flags-fit);
        firsts-fit = omega (arith, many-firsts, firsts-fit);
        holds-fit = omega (arith, few-holds, h.hold-room);
        few-flags = omega (arith, many-flags, f.few.flags);
        few-firsts = omega (arith, many-firsts, f.few.firsts);
        few-holds = omega (arith, few-holds);
      }

  alike : (g : ℕ) → g < length names → eqb g (condact_id names) ≡ eqb g K
  alike g u = sym (same-condact names sofar ahead.input g u) ∙ ap (eqb g) (sym gate-so-far)

  abbrev ids : Ids
  ids = ids_by w r.flags.ids.now r.firsts.ids.now r.written.ids.holds.now K

  -- the ids are those that the tables say
  same-ids : ids ≡ ready.ids_of r
  same-ids = ap₂ (λ (u v : List Clock). ids_in u v r.flags.ids.now r.firsts.ids.now r.written.ids.holds.now K) (sym flagged) (sym first-flagged)

  needs-same : w ≡ old_needs sheet.types sheet.nodes n.node K n.clocking.equations no_needs
  needs-same = same-needs sheet.types sheet.nodes n.node (length names) (condact_id names) K alike n.clocking.equations no_needs (shaped h)

  abbrev writer : Writer
  writer = writer_of sheet n K r.flags.ids.now r.firsts.ids.now r.written.ids.holds.now

  faultless : old_fault sheet.types sheet.nodes n.node K 0 n.clocking.equations ≡ none
  faultless = sym (same-fault sheet.types sheet.nodes n.node (length names) (condact_id names) K alike 0 n.clocking.equations (shaped h)) ∙ h.going

  -- the holds that are lent are planned
  held-lent : HeldFrom r.written.index.now.source.names r.written.index.now.source.tags.now r.written.index.now.source.values.now writer r.written.plan.now r.written.holds.now 0 (old_yield sheet.types sheet.nodes n.node ids 0 n.clocking.equations).holds
  held-lent =
      let S = r.written.index.now.source in
      let made : length (old_yield sheet.types sheet.nodes n.node ids 0 n.clocking.equations).holds ≡ w.holds =
      subst (λ (v : Needs). length (old_yield sheet.types sheet.nodes n.node (ids_by v r.flags.ids.now r.firsts.ids.now r.written.ids.holds.now K) 0 n.clocking.equations).holds ≡ v.holds) (sym needs-same)
      (holds-made sheet.types sheet.nodes n.node K n.clocking.equations faultless r.flags.ids.now r.firsts.ids.now r.written.ids.holds.now).0 in
      subst (λ (l : List HeldOperand). HeldFrom S.names S.tags.now S.values.now writer r.written.plan.now l 0 (old_yield sheet.types sheet.nodes n.node ids 0 n.clocking.equations).holds) (sym cut)
      (holds-cut S.names S.tags.now S.values.now writer r.written.plan.now table.now long 0 _ (omega (arith, made, lent-many)) (h.held K r.flags.ids.now r.firsts.ids.now r.written.ids.holds.now whole))

  -- it can be written
  pub is-ready : NodeReady names r
  is-ready =
      let S = r.written.index.now.source in
      record {
        writer = writer;
        grounds = record { stands = record { standing = h.standing; table = h.table; condact = refl; flags = same-flags; firsts = same-firsts; holds = refl }; end = h.end; laid = h.laid; declares = h.declares };
        equations = n.clocking.equations;
        many = sym (length-map n.clocking.equations (λ (e : Clocked). e.clock)) ∙ (clocked-many n.clocking.names n.node.equations n.clocking.equations (clocked n.node n.clocking h.forms) ∙ sym h.laid.equations.many);
        faultless = faultless;
        few-declared = declared-few S.names (tokens_of S) h.place n.node h.end h.read;
        few-equations = equations-few S.names (tokens_of S) h.place n.node h.end h.read;
        flags =
            subst (λ (v : Needs). ready.FlagsReady names r.flags v.flags) needs-same
            (record { fit = flags-fit; flagged = flagged; order = f-flags.order; few = omega (arith, many-flags, f.few.flags) });
        firsts =
            subst (λ (v : Needs). ready.FlagsReady names r.firsts v.firsts) needs-same
            (record { fit = firsts-fit; flagged = first-flagged; order = f-firsts.order; few = omega (arith, many-firsts, f.few.firsts) });
        held-many = f.held ∙ ap (λ (v : Needs). v.holds) needs-same;
        few-holds = omega (arith, f.held, few-holds);
        planned = rw (← same-ids) (planned-alike S.names S.tags.now S.values.now writer r.written.plan.now (length names) (condact_id names) K alike ids n.clocking.equations 0 _ _ (shaped h) (h.planned K r.flags.ids.now r.firsts.ids.now r.written.ids.holds.now whole));
        held-length = lent-length ∙ sym f.held;
        held = rw (← same-ids) held-lent;
      }

  agree : Agree w.flags w.firsts w.holds (new_id names sofar n.node) K ids
  agree =
      ids-agree (new_id names sofar n.node) w.flags w.firsts w.holds r.flags.ids.now r.firsts.ids.now r.written.ids.holds.now K K
      (ids-filled names sofar n.node held kept ck r.flags.names.now.numbers (length w.flags) flags₀ r.flags.ids.now f-flags.numbers (omega (arith, a, many-flags, f.few.flags))
      (x ∙ ap (λ (i : ℕ). over_at 0 (ids_of (names_of o) ck r.flags.names.now.numbers i) flags₀) (sym many-flags)))
      (ids-filled names sofar n.node held kept first r.firsts.names.now.numbers (length w.firsts) firsts₀ r.firsts.ids.now f-firsts.numbers (omega (arith, b, many-firsts, f.few.firsts))
      (y ∙ ap (λ (i : ℕ). over_at 0 (ids_of (names_of o) first r.firsts.names.now.numbers i) firsts₀) (sym many-firsts)))
      (ids-filled names sofar n.node held kept hold r.names.now.hold_numbers w.holds holds₀ r.written.ids.holds.now f.hold-numbers (omega (arith, d, few-holds))
      (z ∙ ap (λ (i : ℕ). over_at 0 (ids_of (names_of o) hold r.names.now.hold_numbers i) holds₀) f.held))
      refl

  -- the node of the output
  same-node : output_node names sheet all n ≡ node_by names ids n.node w (old_yield sheet.types sheet.nodes n.node ids 0 n.clocking.equations)
  same-node =
      let apart = names_apart [] names h.distinct in
      let once = apart-old sheet.types sheet.nodes n.node (condact_id names) n.clocking.equations no_needs apart_none in
      let named = named-old (length names) sheet.types sheet.nodes n.node (condact_id names) n.clocking.equations no_needs (named-equations h) (named_none (length names)) in
      output-standing names before all sheet n h.uses apart (shaped h) once.flags once.firsts named (goes-trans names sofar all ahead.input ahead.output) ahead.input ahead.output ahead.going ids gate-so-far agree

  -- THE LAW: the node's tokens
  pub filled-written : (o₁ o₂ : Output)
      → ((names : List Letters) (m : NodeReady names r) (i : Ids) → i ≡ ready.ids_of r → o₂ ≡ emits o₁ (node_tokens (node_by names i m.writer.node (needs_in m) (yield_in m i))))
      → o₂ ≡ emits o₁ (node_tokens (output_node names sheet all n))
  unfolding is-ready
  filled-written o₁ o₂ put =
      put names is-ready ids same-ids
      ∙ ap (λ (m : Node). emits o₁ (node_tokens m)) (ap (λ (v : Needs). node_by names ids n.node v (old_yield sheet.types sheet.nodes n.node ids 0 n.clocking.equations)) (sym needs-same) ∙ sym same-node)

-- ---- names
module _ {spelling : Spelling} {t : Index} {p : NodePlan} {names : List Letters} {sheet : Sheet} {n : ClockedNode} (h : PlannedNode spelling t p names sheet n) where
  -- its tables
  pub filled : (f : NodeNames) (r : Result Unit new.TooMany) → FilledAt spelling t.source p.layout p.needs f r → FilledOrNot names n.node (node_needs names sheet n) p.needs f r
  filled f r g = g names n.node h.end (condact_id names) n.clocking.equations sheet.types sheet.nodes h.named h.laid (declared-few t.source.names (tokens_of t.source) h.place n.node h.end h.read) h.flag-room h.first-room h.counted

  -- more names than the output has places for
  pub crowded : (before : List Letters) → TooMany (node_needs names sheet n) → 1024 < length (names_with names before sheet n)
  crowded before c =
      let once = apart-old sheet.types sheet.nodes n.node (condact_id names) n.clocking.equations no_needs apart_none in
      let named = named-old (length names) sheet.types sheet.nodes n.node (condact_id names) n.clocking.equations no_needs (named-equations h) (named_none (length names)) in
      too_many names n.node (node_needs names sheet n) before (declared-few t.source.names (tokens_of t.source) h.place n.node h.end h.read) (names_apart [] names h.distinct) once.flags once.firsts named c
