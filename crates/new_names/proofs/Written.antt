-- A node written with the ids of the names so far is the node of the output: `output-standing`.
-- Assumes nothing.
use Prim.Native.Nat.{ℕ, ◌<◌}
use mathlib.Core.Path.{◌≡◌, refl, sym, ap, ◌∙◌, subst}
use mathlib.Core.Bool.{Bool, true, false}
use mathlib.Core.List.{List, []}
use mathlib.Core.Option.{none}
use lib.Dec.{eqb}
use lib.ListN.{length}
use Rattle.definitions.specs.Lists.{Letters}
use Rattle.definitions.specs.Tree.{Sheet}
use Rattle.definitions.specs.InferClocks.{uses_clocks}
use Rattle.definitions.specs.Output.{new_id, condact_id, ClockedNode, output_node}
use Rattle.shapes.proofs.Facts.{Goes}
use Rattle.runs.proofs.Names.{Apart}
use Rattle.clock_tables.proofs.Distinct.{Distinct}
use Rattle.stateless.specs.Need.{Needs}
use Rattle.stateless.specs.Yield.{Ids, old_yield}
use Rattle.stateless.specs.Whole.{no_needs}
use Rattle.stateless.specs.Locals.{Agree}
use Rattle.stateless.specs.Rewritten.{names_by, node_by}
use Rattle.stateless.proofs.Stops.{fault_of}
use Rattle.stateless.proofs.Condact.{same-condact, same-needs, needs_of_node, Below}
use Rattle.stateless.proofs.Ungated.{ids_with, same_old}
use Rattle.stateless.proofs.Output.{output-by-needs}
use Rattle.new_names.proofs.Named.{NamedNeeds}
use Rattle.new_names.proofs.Standing.{condact-stays, agree-stays}

module _ (names before all : List Letters) (s : Sheet) (n : ClockedNode) (uses : uses_clocks n.node ≡ true) (apart : Apart [] names) (below : Below (length names) n) where
  -- what is needed, and the names so far with the node's own
  abbrev pub w : Needs
  w = needs_of_node s names n

  abbrev pub sofar : List Letters
  sofar = names_by names before n.node w

  module _ (flags : Distinct w.flags) (firsts : Distinct w.firsts) (named : NamedNeeds (length names) w) (first-names : Goes names all) (own : Goes names sofar) (goes : Goes sofar all) (going : fault_of s all n ≡ none) where
    needs-same : needs_of_node s all n ≡ w
    needs-same = same-needs s.types s.nodes n.node (length names) (condact_id all) (condact_id names) (same-condact names all first-names) n.clocking.equations no_needs below

    -- by ids that agree with all names
    by_all : (ids : Ids) → Agree w.flags w.firsts w.holds (new_id names all n.node) (condact_id all) ids → output_node names s all n ≡ node_by names ids n.node w (old_yield s.types s.nodes n.node ids 0 n.clocking.equations)
    by_all ids a =
        output-by-needs names s all n ids uses going (subst (λ (z : Needs). Agree z.flags z.firsts z.holds (new_id names all n.node) (condact_id all) ids) (sym needs-same) a)
        ∙ ap (λ (z : Needs). node_by names ids n.node z (old_yield s.types s.nodes n.node ids 0 n.clocking.equations)) needs-same

    -- THE LAW
    pub output-standing : (ids : Ids) → ids.condact ≡ condact_id sofar → Agree w.flags w.firsts w.holds (new_id names sofar n.node) ids.condact ids →
        output_node names s all n ≡ node_by names ids n.node w (old_yield s.types s.nodes n.node ids 0 n.clocking.equations)
    output-standing ids e a = go w.condact refl
      where
        -- with the id of `condact` among all names
        ids' : Ids
        ids' = ids_with s.types s.nodes n.node ids.flag ids.first ids.hold (condact_id all)

        a' : Agree w.flags w.firsts w.holds (new_id names sofar n.node) ids'.condact ids'
        a' = record { flags-agree = a.flags-agree; firsts-agree = a.firsts-agree; holds_agree = a.holds_agree; condact-agrees = refl }

        alike : (f : ℕ) → f < length names → eqb f (condact_id all) ≡ eqb f ids.condact
        alike f h = same-condact names all first-names f h ∙ (sym (same-condact names sofar own f h) ∙ ap (eqb f) (sym e))

        ungated : w.condact ≡ false → old_yield s.types s.nodes n.node ids' 0 n.clocking.equations ≡ old_yield s.types s.nodes n.node ids 0 n.clocking.equations
        ungated q = same_old s.types s.nodes n.node ids.flag ids.first ids.hold (condact_id all) ids.condact (length names) alike n.clocking.equations 0 no_needs below (ap (λ (z : Needs). z.condact) needs-same ∙ q)

        go : (b : Bool) → w.condact ≡ b → output_node names s all n ≡ node_by names ids n.node w (old_yield s.types s.nodes n.node ids 0 n.clocking.equations)
        go true q = by_all ids (agree-stays names n.node w apart flags firsts named before all goes ids (condact_id all) (e ∙ sym (condact-stays names n.node w apart flags firsts named before all goes q)) a)
        go false q =
            by_all ids' (agree-stays names n.node w apart flags firsts named before all goes ids' (condact_id all) refl a')
            ∙ ap (node_by names ids n.node w) (ungated q)
