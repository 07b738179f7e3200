-- Demand 3 for a sheet's bytes: the theorem `demand-three`.
use mathlib.Core.Path.{◌≡◌, refl, sym, ap, ◌∙◌, subst, subst⁻¹}
use mathlib.Core.List.Memᴰ
use mathlib.Core.List.{List, [], ◌∷◌, map, Memᴰ}
use mathlib.Core.Option.{Option, some, some-injective, none-ne-some}
use Prim.Native.Nat.{ℕ, zero, suc}
use lib.Dec.{leb}
use lib.ListN.{length, get_elem?, length-map}
use Rattle.definitions.specs.declared.Refusal.{Refusal}
use Rattle.definitions.specs.Lists.{Letters}
use Rattle.definitions.specs.Tree.{Node, Sheet}
use Rattle.definitions.specs.Refusals.{accepted}
use Rattle.definitions.specs.Output.{ClockedNode, output_node, names_out, sheet_out, within_limits, written}
use Rattle.definitions.specs.Answer.{Input, input, clockings, first_faults, rewrite_answer}
use Rattle.shapes.specs.Shape.{Bytes, ShapedSheet, SizedSheet}
use Rattle.shapes.proofs.Accepts.{Accepts, accepts, accepts-after, accepts-must, is-accepted}
use Rattle.shapes.proofs.Source.{InputFacts, read-facts}
use Rattle.shapes.proofs.Names.{goes-out, same_names}
use Rattle.shapes.proofs.OutputShape.{out-shaped}
use Rattle.shapes.proofs.Once.{written_once}
use Rattle.runs.specs.Callees.{is_operator}
use Rattle.runs.specs.Demand.{NodeKept, SheetKept, DemandThree, DemandThreeAt}
use Rattle.runs.proofs.Facts.{All}
use Rattle.runs.proofs.Parts.{EachOf}
use Rattle.runs.proofs.Inferred.{clocked}
use Rattle.runs.proofs.Names.{Apart, names_apart}
use Rattle.runs.proofs.NamesApart.{apart_out}
use Rattle.runs.proofs.PlainNode.{Within, node_kept, source-run-kept}
use Rattle.shapes.proofs.Answered.{accepted-itself, no-fault}
use Rattle.runs.proofs.Accepted.{within, Formings, formings, faults-of, no-faults, faultless, same-face, same-operator, ports-kept}

-- what stands at a place of a list is a member, and what a function makes of it stands at the same place
at-member : {A : Type 0} (l : List A) (i : ℕ) (a : A) → get_elem? l i ≡ some a → Memᴰ a l
at-member [] i a e = absurd (none-ne-some a e)
at-member (b ∷ l) zero a e = Memᴰ.head (sym (some-injective b a e))
at-member (b ∷ l) (suc i) a e = Memᴰ.tail (at-member l i a e)

at_map : {A B : Type 0} (f : A → B) (l : List A) (i : ℕ) (a : A) → get_elem? l i ≡ some a → get_elem? (map f l) i ≡ some (f a)
at_map f [] i a e = absurd (none-ne-some a e)
at_map {B} f (b ∷ l) zero a e = ap {B = Option B} (λ x. some (f x)) (some-injective b a e)
at_map f (b ∷ l) (suc i) a e = at_map f l i a e

-- a sheet that was read, its nodes with their clocks, all without faults
module _ (Val : Type 0) (bytes : List ℕ) (r : Input) (facts : InputFacts bytes r) (ns : List ClockedNode) (forms : Formings r.sheet.nodes ns)
    (sound : All (λ n. faults-of r n ≡ []) ns) where
  abbrev pub all : List Letters
  all = names_out r.names r.sheet ns

  abbrev pub out : Sheet
  out = sheet_out r.names r.sheet ns

  apart : Apart [] r.names
  apart = names_apart [] r.names facts.good-names

  operators : (f : ℕ) → is_operator out.nodes f ≡ is_operator r.sheet.nodes f
  unfolding sheet_out
  operators f = same-operator r.names r.sheet all f ns ∙ ap (λ (l : List Node). is_operator l f) forms.0

  node-within : (n : ClockedNode) → Memᴰ n ns → EachOf (Within (length r.names)) n.node.equations
  node-within n m e j = within (length r.names) e.right ((facts.below.nodes n.node (subst (Memᴰ n.node) forms.0 (Memᴰ.map (λ n. n.node) m))).equations e j).0

  kept : (n : ClockedNode) → Memᴰ n ns → NodeKept Val r all out n (output_node r.names r.sheet all n)
  kept n m =
      let face = same-face r.names r.sheet all n in
      let f = faultless r n (sound n m) in
      let c = forms.1 n m in
      record {
        same_inputs = face.inputs;
        same-outputs = face.outputs;
        ports-kept = ports-kept Val n (clocked n.node n.clocking c);
        runs-kept = λ plain. node_kept r.names apart r.sheet n (node-within n m) c f.0 plain all (goes-out r.names r.sheet ns) out operators Val f.1;
        kept-alone = λ plain. source-run-kept r.names apart r.sheet n (node-within n m) c f.0 plain Val;
      }

  -- the output that is written
  pub sheet-kept : SheetKept Val r ns all out
  unfolding sheet_out
  sheet-kept = record {
    same_names = same_names r.names r.sheet ns;
    names_apart = apart_out r.names r.sheet ns apart.distinct;
    same_length = length-map ns (output_node r.names r.sheet all);
    nodes-kept = λ i n e. (output_node r.names r.sheet all n, at_map (output_node r.names r.sheet all) ns i n e, kept n (at-member ns i n e));
  }

  -- and so every sheet that its bytes say
  demand : input bytes ≡ accepted r → clockings 0 r.sheet.nodes ≡ accepted ns → ShapedSheet out × SizedSheet all out → DemandThree Val bytes (written all out)
  demand read clocks shaped = record {
    source = r;
    nodes = ns;
    reading = read;
    clocks = clocks;
    all-nodes = forms.0;
    source-written = facts.back;
    some-sheet = (all, out, shaped.0, shaped.1, refl);
    every-sheet = λ names s h w e.
        let q = written_once names all s out h w shaped.0 shaped.1 e in
        subst⁻¹ (λ (l : List Letters). SheetKept Val r ns l s) q.0 (subst⁻¹ (SheetKept Val r ns all) q.1 sheet-kept);
  }

answer-kept : (Val : Type 0) (bytes : List ℕ) (lent : ℕ) → Bytes bytes → Accepts (DemandThree Val bytes) (rewrite_answer bytes lent)
unfolding rewrite_answer first_faults
answer-kept Val bytes lent b =
    accepts-after _ (accepted-itself (input bytes)) (λ r e.
    accepts-after _ (accepted-itself (clockings 0 r.sheet.nodes)) (λ ns f.
    accepts-after _ (no-fault (first_faults r ns)) (λ _ h.
    accepts-after _ (accepts-must (within_limits (names_out r.names r.sheet ns) (sheet_out r.names r.sheet ns)) Refusal.Large) (λ _ w.
    accepts-after _ (accepts-must (leb (length (written (names_out r.names r.sheet ns) (sheet_out r.names r.sheet ns))) lent) _) (λ _ l.
    accepts (demand Val bytes r (read-facts bytes b r e) ns (is-accepted (clockings 0 r.sheet.nodes) ns f (formings 0 r.sheet.nodes)) (no-faults r 0 ns h) e f (out-shaped bytes b r e ns f w)))))))

-- demand 3: whatever the bytes and the room, what is accepted keeps every plain node's runs, for every type of values
pub demand-three : (Val : Type 0) (bytes : List ℕ) (lent : ℕ) (out : List ℕ) → Bytes bytes → rewrite_answer bytes lent ≡ accepted out → DemandThree Val bytes out
demand-three Val bytes lent out b e = is-accepted (rewrite_answer bytes lent) out e (answer-kept Val bytes lent b)

-- for values that are numbers, as a contract carries it
pub demand-three-at : (bytes : List ℕ) (lent : ℕ) (out : List ℕ) → Bytes bytes → rewrite_answer bytes lent ≡ accepted out → DemandThreeAt bytes out
demand-three-at = demand-three ℕ
