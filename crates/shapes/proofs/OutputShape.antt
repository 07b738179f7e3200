-- The rewritten sheet is a tree that the format can say: `out-shaped`.
use mathlib.Core.Path.{◌≡◌, refl, subst}
use mathlib.Core.Bool.{Bool, true, false, ◌&&◌}
use mathlib.Core.List.Memᴰ
use mathlib.Core.List.{List, [], ◌∷◌, ◌++◌, map}
use Prim.Native.Nat.{ℕ, suc, ◌<◌, ◌≤◌}
use native.Mathlib.Omega.{arith}
use lib.Dec.{leb}
use lib.ListN.{length}
use Rattle.std.proofs.lemmas.Bool.{leb-true, and_parts}
use Rattle.definitions.specs.declared.Refusal.{Refusal}
use Rattle.definitions.specs.Lists.{choose, join, Letters, bytes}
use Rattle.definitions.specs.Tokens.{words}
use Rattle.definitions.specs.Tree.{Equation, Node, Sheet}
use Rattle.definitions.specs.Refusals.{Answer, accepted, refused, ◌>>=◌}
use Rattle.definitions.specs.Bytes.{most_names, most_letters}
use Rattle.definitions.specs.InferClocks.{Formed, deep, formed, Clocking, clocking, uses_clocks}
use Rattle.definitions.specs.Declock.{State, nothing_needed, Stem, Rewritten, stopped, done, declared, new_locals, with_new}
use Rattle.definitions.specs.Output.{condact_id, letters_of, new_letters, new_id, ClockedNode, rewritten, output_node, names_out, sheet_out, sheet_tokens, most_tokens_out, within_limits}
use Rattle.definitions.specs.Answer.{Input, input, clockings}
use Rattle.shapes.proofs.Facts.{All, all_nil, all_cons, all_app}
use Rattle.shapes.proofs.Accepts.{Accepts, accepts, no-refused, accepts-after, is-accepted}
use Rattle.shapes.proofs.Source.{read-facts}
use Rattle.shapes.proofs.Inference.{Forms}
use Rattle.shapes.proofs.ClockNames.{NamedEquation, clocking-named}
use Rattle.shapes.proofs.Yields.{yielded}
use Rattle.shapes.proofs.RewriteShape.{ShapedState, old_equations-shape, with_new-shape}
use Rattle.shapes.proofs.Names.{id_below}
use Rattle.shapes.specs.Shape.{Bytes, ShapedDeclared, ShapedDefinition, ShapedNode, ShapedSheet, SizedSheet}

-- a shaped node whose equations' clocks are made of names
abbrev ShapedClocked : ClockedNode → Type 0
ShapedClocked n = ShapedNode words n.node × All (NamedEquation words) n.clocking.equations

clockings-shape : (i : ℕ) (ns : List Node) → All (ShapedNode words) ns → Accepts (All ShapedClocked) (clockings i ns)
unfolding clockings
clockings-shape i [] h = accepts (all_nil ShapedClocked)
clockings-shape i (n ∷ ns) h = go (clocking n) (clocking-named words n (h n (Memᴰ.head refl)).equations) (clockings-shape (suc i) ns (λ x m. h x (Memᴰ.tail m)))
  where
    go : (u : Formed Clocking) → Forms (Unit {0}) (λ k. All (NamedEquation words) k.equations) u → Accepts (All ShapedClocked) (clockings (suc i) ns)
        → Accepts (All ShapedClocked) (elim u as (λ x. Answer (List ClockedNode)) [ deep ↦ refused (Refusal.Deep i) | formed k ↦ (clockings (suc i) ns >>= λ rest. accepted (record { node = n; clocking = k } ∷ rest)) ])
    go deep f ih = no-refused
    go (formed k) f ih = accepts-after _ ih (λ rest q. accepts (all_cons ShapedClocked _ rest (h n (Memᴰ.head refl), f) q))

module _ (names : List Letters) (s : Sheet) (types : All (ShapedDefinition words) s.types) (all : List Letters) (small : length all ≤ most_names) where
  module _ (n : ClockedNode) (shape : ShapedClocked n) where
    new-below : (stem : Stem) (j : ℕ) → new_id names all n.node stem j < words
    unfolding new_letters
    new-below stem j = let p = id_below all (new_letters names n.node stem j) in omega arith

    condact-below : condact_id all < words
    unfolding bytes
    condact-below = let p = id_below all (bytes "condact") in omega arith

    declared-shape : All (ShapedDeclared words) (declared n.node)
    declared-shape = all_app (ShapedDeclared words) n.node.inputs (n.node.outputs ++ n.node.locals) shape.0.inputs (all_app (ShapedDeclared words) n.node.outputs n.node.locals shape.0.outputs shape.0.locals)

    nothing-shape : ShapedState words nothing_needed
    nothing-shape = record { holds = all_nil _; flags = all_nil _ }

    rewritten-shape : (es : List Equation) (S : State) → rewritten names s all n ≡ done es S → ShapedNode words (with_new (new_id names all n.node) n.node (new_locals (letters_of names) (new_id names all n.node) S) es)
    unfolding rewritten
    rewritten-shape es S e =
        let r = yielded es S e (old_equations-shape words s.types s.nodes (new_id names all n.node) (condact_id all) n.node types declared-shape new-below condact-below 0 n.clocking.equations nothing_needed shape.1 nothing-shape) in
        with_new-shape words (letters_of names) (new_id names all n.node) new-below S r.1 n.node es shape.0 r.0

    node-shape : ShapedNode words (output_node names s all n)
    unfolding output_node
    node-shape = go (uses_clocks n.node) (rewritten names s all n) refl
      where
        go : (u : Bool) (r : Rewritten (List Equation)) → rewritten names s all n ≡ r
            → ShapedNode words (choose u (elim r as (λ x. Node) [ stopped f ↦ n.node | done es s ↦ with_new (new_id names all n.node) n.node (new_locals (letters_of names) (new_id names all n.node) s) es ]) n.node)
        go false r e = shape.0
        go true (stopped f) e = shape.0
        go true (done es t) e = rewritten-shape es t e

  nodes-shape : (ns : List ClockedNode) → All ShapedClocked ns → All (ShapedNode words) (map (output_node names s all) ns)
  nodes-shape ns h x m = let r = Memᴰ.of_map (output_node names s all) ns m in subst (ShapedNode words) r.2 (node-shape r.0 (h r.0 r.1))

-- "Output: 8,192 tokens, same M and L"
pub record Limits (names : List Letters) (s : Sheet) : Type 0 where
  pub few-names : length names ≤ most_names
  pub few-letters : length (join names) ≤ most_letters
  pub few-tokens : length (sheet_tokens s) ≤ most_tokens_out

pub limits : (names : List Letters) (s : Sheet) → within_limits names s ≡ true → Limits names s
unfolding within_limits
limits names s e =
    let a = (and_parts (leb (length names) most_names && leb (length (join names)) most_letters) (leb (length (sheet_tokens s)) most_tokens_out) e).0 in
    record {
      few-names = leb-true (length names) most_names (and_parts (leb (length names) most_names) (leb (length (join names)) most_letters) a).0;
      few-letters = leb-true (length (join names)) most_letters (and_parts (leb (length names) most_names) (leb (length (join names)) most_letters) a).1;
      few-tokens = leb-true (length (sheet_tokens s)) most_tokens_out (and_parts (leb (length names) most_names && leb (length (join names)) most_letters) (leb (length (sheet_tokens s)) most_tokens_out) e).1;
    }

-- what rewriting makes of a sheet that was read is a tree that the format can say, where it is within the output's limits
pub out-shaped : (bytes : List ℕ) → Bytes bytes → (r : Input) → input bytes ≡ accepted r → (ns : List ClockedNode) → clockings 0 r.sheet.nodes ≡ accepted ns
    → within_limits (names_out r.names r.sheet ns) (sheet_out r.names r.sheet ns) ≡ true
    → ShapedSheet (sheet_out r.names r.sheet ns) × SizedSheet (names_out r.names r.sheet ns) (sheet_out r.names r.sheet ns)
unfolding sheet_out
out-shaped bytes h r e ns f w =
    let l = limits (names_out r.names r.sheet ns) (sheet_out r.names r.sheet ns) w in
    let s = (read-facts bytes h r e).shaped in
    let c : All ShapedClocked ns = is-accepted (clockings 0 r.sheet.nodes) ns f (clockings-shape 0 r.sheet.nodes s.nodes) in (
      record { types = s.types; nodes = nodes-shape r.names r.sheet s.types (names_out r.names r.sheet ns) l.few-names ns c },
      record { names-word = let p = l.few-names in omega arith; letters-word = let p = l.few-letters in omega arith; tokens-word = let p = l.few-tokens in omega arith },
    )
