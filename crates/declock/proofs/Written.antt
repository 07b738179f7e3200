-- A node with its working tables: what each part that is written says of it.
-- Assumes nothing.
use Prim.Native.Nat.{ℕ, ◌+◌, ◌≤◌, ◌<◌}
use mathlib.Core.Path.{◌≡◌, sym, ap, ap₂, ◌∙◌, subst}
use mathlib.Core.List.{List, [], ◌∷◌, ◌++◌, map}
use mathlib.Core.Option.{none}
use native.Mathlib.Omega.{arith}
use lib.ListN.{length, length-append, get_or}
use Rattle.definitions.specs.declared.Token.{Token}
use Rattle.definitions.specs.Lists.{join, Letters}
use Rattle.definitions.specs.Tree.{Equation, Node}
use Rattle.definitions.specs.Clock.{Clock, in_chain_order}
use Rattle.definitions.specs.Declock.{clock_place}
use Rattle.definitions.specs.Output.{letters_of, declared_tokens, counted_tokens, equation_tokens, probe_tokens, node_tokens}
use Rattle.chain_order.specs.Order.{row_of}
use Rattle.emit.specs.declared.output.Output.{Output}
use Rattle.emit.specs.Out.{emits}
use Rattle.stateless.specs.Need.{Needs}
use Rattle.stateless.specs.Yield.{Ids, Yield}
use Rattle.stateless.specs.Faults.{old_fault}
use Rattle.stateless.specs.Locals.{ids_in, Local, activation_by, first_tick_by, flag_locals, first_locals, hold_locals, local_equation}
use Rattle.stateless.specs.Rewritten.{locals_by, node_by}
use Rattle.planned.specs.Held.{HeldFrom}
use Rattle.planned.specs.Planned.{EquationsPlanned}
use Rattle.planned.specs.Shown.{hold_declarations, hold_equations}
use Rattle.declock.specs.Tabled.{FlagIds, flagged_clocks, ordered_clocks}
use Rattle.declock.specs.declared.Flags.{Flags}
use Rattle.declock.specs.Parts.{declarations, front_tokens, body_tokens}
use Rattle.declock.proofs.FlagsLaws.{declared-locals}
use Rattle.declock.specs.declared.ReadyNode.{ReadyNode}
use Rattle.declock.specs.Ready.{ids_of, FlagsReady, NodeReady, needs_in, yield_in}
use Rattle.declock.proofs.Laws.{front-written, body-written, node-written, ordered-count, new-count, yield-length, holds-made}

-- each row in the order is its clock's place
rows-own : {names : List Letters} (f : Flags) {clocks : List Clock} → FlagsReady names f clocks → (i : ℕ) → i < f.names.now.ordered
    → clock_place (row_of f.clocks.words.now (get_or f.names.now.order i 0)) (flagged_clocks f) ≡ get_or f.names.now.order i 0
rows-own f h i u = ap (clock_place (row_of f.clocks.words.now (get_or f.names.now.order i 0))) h.flagged ∙ h.order.own i u

-- there is a place for each row in the order
rows-few : {names : List Letters} (f : Flags) {clocks : List Clock} → FlagsReady names f clocks → f.names.now.ordered ≤ 1024
rows-few {names} f {clocks} h = omega (arith, (ordered-count (letters_of names) (row_of f.clocks.words.now) f.names.now.order f.names.now.ordered clocks h.order.sorted).1, h.few)

module _ (names : List Letters) {t : ReadyNode} (h : NodeReady names t) (ids : Ids) (q : ids ≡ ids_of t) where
  abbrev node : Node
  node = h.writer.node

  abbrev w : Needs
  w = needs_in h

  abbrev y : Yield (List Equation)
  y = yield_in h ids

  -- clocks in chain order, as needed and as the tables say
  abbrev flagged : List Clock
  flagged = in_chain_order (letters_of names) w.flags

  abbrev firstly : List Clock
  firstly = in_chain_order (letters_of names) w.firsts

  pub flags-tabled : FlagIds t.flags ids.flag
  flags-tabled = record { room = h.flags.fit; few = rows-few t.flags h.flags; stands = λ c. ap (λ (i : Ids). i.flag c) q; own = rows-own t.flags h.flags }

  pub firsts-tabled : FlagIds t.firsts ids.first
  firsts-tabled = record { room = h.firsts.fit; few = rows-few t.firsts h.firsts; stands = λ c. ap (λ (i : Ids). i.first c) q; own = rows-own t.firsts h.firsts }

  -- as many holds as are needed
  made : (length y.holds ≡ w.holds) × (y.after ≡ w.holds)
  made =
      let k = t.written.ids.condact in
      let e : ids_in w.flags w.firsts t.flags.ids.now t.firsts.ids.now t.written.ids.holds.now k ≡ ids =
      ap₂ (λ (a b : List Clock). ids_in a b t.flags.ids.now t.firsts.ids.now t.written.ids.holds.now k) (sym h.flags.flagged) (sym h.firsts.flagged) ∙ sym q in
      subst (λ (i : Ids). (length (yield_in h i).holds ≡ w.holds) × ((yield_in h i).after ≡ w.holds)) e
      (holds-made h.writer.types h.writer.nodes node k h.equations h.faultless t.flags.ids.now t.firsts.ids.now t.written.ids.holds.now)

  -- the ids of holds and of `condact`
  pub hold-ids : (j : ℕ) → ids.hold j ≡ get_or t.written.ids.holds.now j 0
  hold-ids j = ap (λ (i : Ids). i.hold j) q

  pub condact-id : ids.condact ≡ h.writer.condact
  condact-id = ap (λ (i : Ids). i.condact) q ∙ sym h.grounds.stands.condact

  -- its holds and its equations are planned, by these ids
  pub ready-holds : HeldFrom t.written.index.now.source.names t.written.index.now.source.tags.now t.written.index.now.source.values.now h.writer t.written.plan.now t.written.holds.now 0 y.holds
  ready-holds = subst (λ (i : Ids). HeldFrom t.written.index.now.source.names t.written.index.now.source.tags.now t.written.index.now.source.values.now h.writer t.written.plan.now t.written.holds.now 0 (yield_in h i).holds) (sym q) h.held

  pub ready-equations : EquationsPlanned t.written.index.now.source.names t.written.index.now.source.tags.now t.written.index.now.source.values.now h.writer t.written.plan.now h.writer.condact ids 0 h.equations t.layout.equations.at t.layout.equations.end
  ready-equations = subst (λ (i : Ids). EquationsPlanned t.written.index.now.source.names t.written.index.now.source.tags.now t.written.index.now.source.values.now h.writer t.written.plan.now h.writer.condact i 0 h.equations t.layout.equations.at t.layout.equations.end) (sym q) h.planned

  pub ready-faultless : old_fault h.writer.types h.writer.nodes node h.writer.condact 0 h.equations ≡ none
  ready-faultless = ap (λ (x : ℕ). old_fault h.writer.types h.writer.nodes node x 0 h.equations) h.grounds.stands.condact ∙ h.faultless

  -- how many there are
  counts : (length flagged ≡ t.flags.names.now.ordered) × (length firstly ≡ t.firsts.names.now.ordered) × (length y.holds ≡ t.names.now.holds) × (t.flags.names.now.ordered ≤ 1024) × (t.firsts.names.now.ordered ≤ 1024) × (t.names.now.holds ≤ 1024)
  counts =
      let a = ordered-count (letters_of names) (row_of t.flags.clocks.words.now) t.flags.names.now.order t.flags.names.now.ordered w.flags h.flags.order.sorted in
      let b = ordered-count (letters_of names) (row_of t.firsts.clocks.words.now) t.firsts.names.now.order t.firsts.names.now.ordered w.firsts h.firsts.order.sorted in
      (a.0, b.0, made.0 ∙ sym h.held-many, rows-few t.flags h.flags, rows-few t.firsts h.firsts, h.few-holds)

  abbrev new : List Local
  new = locals_by names ids w y.holds

  new-many : length new ≡ t.flags.names.now.ordered + (t.firsts.names.now.ordered + t.names.now.holds)
  new-many = new-count ids flagged firstly y.holds _ _ _ counts.0 counts.1 counts.2

  -- the answer of a count with so many more
  abbrev Counts : ℕ → ℕ → Type 0
  Counts more r = t.flags.names.now.ordered ≤ 1024 → t.firsts.names.now.ordered ≤ 1024 → t.names.now.holds ≤ 1024 → more ≤ 1024 → r ≡ t.flags.names.now.ordered + (t.firsts.names.now.ordered + t.names.now.holds) + more

  counted : (more r : ℕ) → more ≤ 1024 → Counts more r → r ≡ length new + more
  counted more r u f = f counts.3 counts.4 counts.5 u ∙ ap (λ (x : ℕ). x + more) (sym new-many)

  few-locals : length node.locals ≤ 128
  few-locals = omega (arith, h.few-declared, length-append node.inputs (node.outputs ++ node.locals), length-append node.outputs node.locals)

  pub holds-many : length y.holds ≡ length t.written.holds.now
  holds-many = counts.2 ∙ sym h.held-length

  -- the front
  pub ready-front : (o : Output) {o₁ o₂ o₃ o₄ o₅ : Output} {more : ℕ} → Counts 0 more
      → o₁ ≡ emits o (Token.Node node.name ∷ Token.Kind node.kind ∷ (counted_tokens declared_tokens node.inputs ++ counted_tokens declared_tokens node.outputs))
      → (length node.locals + more < 4294967296 → o₂ ≡ emits o₁ (Token.Count (length node.locals + more) ∷ join (map declared_tokens node.locals)))
      → o₃ ≡ emits o₂ (declarations ids.flag (ordered_clocks t.flags)) → o₄ ≡ emits o₃ (declarations ids.first (ordered_clocks t.firsts))
      → o₅ ≡ emits o₄ (hold_declarations ids 0 y.holds) → o₅ ≡ emits o (front_tokens node new)
  ready-front o {o₁} {o₂} {o₃} {o₄} {o₅} {more} n a b c d s =
      let m : more ≡ length new = counted 0 more (omega arith) n ∙ omega arith in
      front-written node (flag_locals ids flagged) (first_locals ids firstly) (hold_locals ids 0 y.holds) o o₁ o₂ o₃ o₄ o₅ more m a
      (b (omega (arith, m, new-many, counts.3, counts.4, counts.5, few-locals)))
      (c ∙ ap (emits o₂) (ap (declarations ids.flag) h.flags.order.sorted ∙ declared-locals ids.flag (activation_by ids) flagged))
      (d ∙ ap (emits o₃) (ap (declarations ids.first) h.firsts.order.sorted ∙ declared-locals ids.first (first_tick_by ids) firstly))
      s

  -- the body
  pub ready-body : (o : Output) {o₁ o₂ o₃ o₄ o₅ : Output} {old total : ℕ} → old ≡ t.layout.equations.count → Counts old total → o₁ ≡ emits o (Token.Count total ∷ [])
      → o₂ ≡ emits o₁ (join (map equation_tokens (map local_equation (flag_locals ids (ordered_clocks t.flags)))))
      → o₃ ≡ emits o₂ (join (map equation_tokens (map local_equation (first_locals ids (ordered_clocks t.firsts)))))
      → o₄ ≡ emits o₃ (hold_equations ids 0 y.holds) → o₅ ≡ emits o₄ (join (map equation_tokens y.value)) → o₅ ≡ emits o (body_tokens new y.value)
  ready-body o {o₁} {o₂} {o₃} {o₄} {o₅} {old} {total} u n a b c s s' =
      let v : old ≡ length y.value = u ∙ sym (yield-length h.writer.types h.writer.nodes node t.written.ids.condact ids 0 h.equations ∙ h.many) in
      let m : total ≡ length new + length y.value = counted old total (omega (arith, u, h.grounds.laid.equations.many, h.few-equations)) n ∙ ap (λ (x : ℕ). length new + x) v in
      body-written node (flag_locals ids flagged) (first_locals ids firstly) (hold_locals ids 0 y.holds) o o₁ o₂ o₃ o₄ o₅ y.value total m a
      (b ∙ ap (λ (cs : List Clock). emits o₁ (join (map equation_tokens (map local_equation (flag_locals ids cs))))) h.flags.order.sorted)
      (c ∙ ap (λ (cs : List Clock). emits o₂ (join (map equation_tokens (map local_equation (first_locals ids cs))))) h.firsts.order.sorted)
      s s'

  -- the whole node
  pub ready-node : (o : Output) {o₁ o₂ o₃ : Output} → o₁ ≡ emits o (front_tokens node new) → o₂ ≡ emits o₁ (body_tokens new y.value) → o₃ ≡ emits o₂ (counted_tokens probe_tokens node.probes)
      → o₃ ≡ emits o (node_tokens (node_by names ids node w y))
  ready-node o {o₁} {o₂} {o₃} a b c = node-written node (flag_locals ids flagged) (first_locals ids firstly) (hold_locals ids 0 y.holds) o o₁ o₂ o₃ y.value a b c
