-- What a node's working tables say.
-- Assumes nothing.
use Prim.Native.Nat.{ℕ, ◌*◌, ◌≤◌}
use mathlib.Core.Path.{◌≡◌, sym, ◌∙◌, subst}
use mathlib.Core.Logic.{inl, inr}
use mathlib.Core.List.{List}
use lib.ListN.{length}
use Rattle.definitions.specs.Lists.{Letters}
use Rattle.definitions.specs.Tree.{Node}
use Rattle.definitions.specs.Clock.{Clock}
use Rattle.definitions.specs.Declock.{Stem, ck, first, hold}
use Rattle.definitions.specs.Output.{letters_of}
use Rattle.clock_tables.specs.Rows.{RowsHold}
use Rattle.clock_tables.proofs.RowsLaws.{has-count}
use Rattle.clock_tables.proofs.Distinct.{Distinct}
use Rattle.stateless.specs.Need.{Needs}
use Rattle.new_names.specs.Many.{TooMany}
use Rattle.new_names.proofs.Large.{rows_fit, rows-past, holds-past, holds-fit}
use Rattle.new_names.specs.Names.{Numbered, ChainOrdered}
use Rattle.new_names.proofs.Added.{rows-ordered}
use Rattle.new_names.proofs.Apart.{Apart}
use Rattle.new_names.specs.declared.NodeNeeds.{NodeNeeds}
use Rattle.new_names.specs.declared.node_names.NodeNames.{NodeNames}
use Rattle.new_names.specs.Filled.{Many, Few, HasRows, Sorted, Filled, counted_in}

-- ---- rows in chain order
sorted-ordered : (letters : ℕ → Letters) (names : List Letters) (rows order : List ℕ) (n k : ℕ) (clocks : List Clock) → letters ≡ letters_of names → 17 * n ≤ length rows → RowsHold rows n clocks → Distinct clocks
    → Sorted letters rows order n k → ChainOrdered (letters_of names) rows order k clocks
sorted-ordered letters names rows order n k clocks e room h d s =
    subst (λ (f : ℕ → Letters). ChainOrdered f rows order k clocks) e (rows-ordered letters rows order n k clocks room h d s.few s.sorted s.below)

-- ---- numbers
pub numbered-same : (names : List Letters) (node : Node) (stem : Stem) (numbers : List ℕ) (m n : ℕ) → m ≡ n → Numbered names node stem numbers m → Numbered names node stem numbers n
numbered-same names node stem numbers m n e h = subst (λ (i : ℕ). Numbered names node stem numbers i) e h

-- ---- the tables
module _ (w : Needs) (needs : NodeNeeds) (a : HasRows needs.flags.words.now w.flags) (b : HasRows needs.firsts.words.now w.firsts) (h : counted_in needs w) where
  -- more is needed than there are places for
  pub many-needed : Many needs → TooMany w
  many-needed (inl u) = inl (rows-past needs.flags.words.now needs.flags.count w.flags a u h.flagged)
  many-needed (inr (inl u)) = inr (inl (rows-past needs.firsts.words.now needs.firsts.count w.firsts b u h.first-flagged))
  many-needed (inr (inr u)) = holds-past h u

  -- the tables are filled
  pub told-filled : (names : List Letters) (node : Node) (t : NodeNames) → Apart w → Few needs → (letters : ℕ → Letters) → letters ≡ letters_of names
      → Sorted letters needs.flags.words.now t.flags.order needs.flags.count t.flags.ordered → Numbered names node ck t.flags.numbers needs.flags.count
      → Sorted letters needs.firsts.words.now t.firsts.order needs.firsts.count t.firsts.ordered → Numbered names node first t.firsts.numbers needs.firsts.count
      → Numbered names node hold t.hold_numbers needs.holds → t.holds ≡ needs.holds → t.condact ≡ needs.condact → Filled names node w needs t
  told-filled names node t apart few letters e f i g j k x y =
      let p : 17 * needs.flags.count ≤ length needs.flags.words.now = rows_fit needs.flags.words.now needs.flags.count w.flags a few.flags h.flagged in
      let q : 17 * needs.firsts.count ≤ length needs.firsts.words.now = rows_fit needs.firsts.words.now needs.firsts.count w.firsts b few.firsts h.first-flagged in
      let held : needs.holds ≡ w.holds = holds-fit h few.holds in
      record {
        counted = h;
        few = few;
        flags = record { order = sorted-ordered letters names _ t.flags.order _ t.flags.ordered w.flags e p h.flagged apart.flags f; numbers = numbered-same names node ck t.flags.numbers needs.flags.count (length w.flags) (sym (has-count _ _ w.flags p h.flagged)) i };
        firsts = record { order = sorted-ordered letters names _ t.firsts.order _ t.firsts.ordered w.firsts e q h.first-flagged apart.firsts g; numbers = numbered-same names node first t.firsts.numbers needs.firsts.count (length w.firsts) (sym (has-count _ _ w.firsts q h.first-flagged)) j };
        hold-numbers = numbered-same names node hold t.hold_numbers needs.holds w.holds held k;
        held = x ∙ held;
        gated = y ∙ h.gated;
      }
