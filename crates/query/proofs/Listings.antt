-- Listings put one behind another. Assumes nothing.
use mathlib.Core.Path.{◌≡◌, refl, sym, subst, ◌∙◌, ap}
use mathlib.Core.List.{List, [], ◌∷◌, ◌++◌, append_assoc, append-nil}
use Prim.Native.Nat.{ℕ, suc, ◌+◌, ◌*◌, ◌≤◌, ◌<◌}
use native.Mathlib.Omega.{arith}
use lib.ListN.{length, length-append}
use Rattle.std.specs.Prelude.{None, Some}
use Rattle.std.proofs.Common.{Ok, Err}
use Rattle.definitions.specs.Lists.{join, numbered, Letters}
use Rattle.definitions.specs.Tree.{Node}
use Rattle.definitions.specs.Refusals.{Answer, accepted, refused, faulty, ◌>>=◌}
use Rattle.definitions.specs.Output.{ClockedNode}
use Rattle.definitions.specs.Answer.{clockings, node_listing}
use Rattle.grammar.specs.declared.source.Source.{Source}
use Rattle.grammar.specs.Read.{tokens_of}
use Rattle.layout.specs.declared.walk.Nodes.{Nodes}
use Rattle.layout.specs.Walk.{GivesNode, NodesLeft}
use Rattle.layout.proofs.Walks.{FirstNode, first-node, no-node}
use Rattle.layout.specs.declared.NodeLayout.{NodeLayout}
use Rattle.layout.specs.Laid.{LaidNode}
use Rattle.definitions.specs.declared.Refusal.{Refusal}
use Rattle.lines.specs.declared.ToldNode.{ToldNode}
use Rattle.lines.specs.ToldClocks.{NodeWithClocks}
use Rattle.spelling.specs.Writing.{over_at, farthest, last_place}
use Rattle.spelling.specs.Written.{Wrote}
use Rattle.spelling.specs.declared.text_writer.TextWriter.{TextWriter}
use Rattle.spelling.proofs.Writers.{wrote_none, wrote_as, wrote_then}
use Rattle.lines.proofs.Pieces.{numbered-last}
use Rattle.query.specs.Standing.{ClockedAs}
use Rattle.query.specs.Listed.{TextStands, listings_text}
use Rattle.query.specs.Words.{PutText}
use Rattle.query.proofs.Nodes.{all_left, node-formed, node-deep}

-- a text that a writer put from the front on
wrote-put : (text : Letters) {w w₁ : TextWriter} (lent now : List ℕ) → w.at ≡ 0 → lent ≡ w.out.now → now ≡ w₁.out.now → length text ≤ last_place → Wrote text w w₁ → PutText text 0 lent w₁.at now
wrote-put text {w} {w₁} lent now z e f few u =
    record { long = omega (arith, u.next, z, few); bytes = f ∙ (u.put.bytes ∙ (ap (λ (p : ℕ). over_at p text w.out.now) z ∙ ap (λ (l : List ℕ). over_at 0 text l) (sym e))) }

-- ---- all nodes
-- the listings so far are put, and the nodes left, of n in all; `v` is what is answered of all
pub record Putting (source : Source) (letters : ℕ → Letters) (n i q : ℕ) (s : Nodes) (from now : TextWriter) (v : Answer (List ClockedNode)) : Type 0 where
  pub rest : List Node
  pub so_far : List ClockedNode
  pub left : NodesLeft source rest q s
  pub total : i + s.left ≡ n
  pub many : i ≡ length so_far
  pub whole : v ≡ (clockings i rest >>= λ l. accepted (so_far ++ l))
  pub put : Wrote (join (numbered (node_listing letters) 0 so_far)) from now
  pub few : length (join (numbered (node_listing letters) 0 so_far)) ≤ farthest * i

-- one behind those so far
one-behind : {A : Type 0} (so_far : List A) (a : A) (v : Answer (List A)) → ((v >>= λ l. accepted (a ∷ l)) >>= λ l. accepted (so_far ++ l)) ≡ (v >>= λ l. accepted ((so_far ++ (a ∷ [])) ++ l))
one-behind so_far a (accepted l) = ap accepted (sym (append_assoc so_far (a ∷ []) l))
one-behind so_far a (refused r) = refl
one-behind so_far a (faulty l) = refl

module _ (source : Source) (letters : ℕ → Letters) (n q : ℕ) (from : TextWriter) where
  pub putting-none : (s : Nodes) (ns : List Node) → s.left ≡ n → NodesLeft source ns q s → Putting source letters n 0 q s from from (clockings 0 ns)
  putting-none s ns e h = record { rest = ns; so_far = []; left = h; total = omega (arith, e); many = refl; whole = all_left (clockings 0 ns); put = wrote_none from; few = omega arith }

  module _ (i : ℕ) (s t : Nodes) (now : TextWriter) (v : Answer (List ClockedNode)) (l : NodeLayout) (h : Putting source letters n i q s from now v) (g : GivesNode s (Some l) t) where
    -- the node that stands there
    here : FirstNode source h.rest q s l t
    here = first-node h.left g

    lefts : s.left ≡ suc t.left
    unfolding GivesNode
    lefts = g.0

    module _ (k : ℕ) (e : k ≡ i) (table sites : List ℕ) where
      pub putting-deep : (r : Refusal) → ((x : Node) (e : ℕ) → LaidNode source.names (tokens_of source) x e l → ClockedAs source table sites k x (Err r)) → v ≡ refused r
      unfolding ClockedAs
      putting-deep r C =
          let d = C here.first here.to here.laid in
          let w : clockings i h.rest ≡ refused (Refusal.Deep i) = ap (clockings i) here.whole ∙ node-deep i here.first here.rest d.0 in
          h.whole ∙ (ap (λ (y : Answer (List ClockedNode)). y >>= λ l. accepted (h.so_far ++ l)) w ∙ (ap (λ (j : ℕ). refused (Refusal.Deep j)) (sym e) ∙ ap refused (sym d.1)))

      pub putting-more : (j : ℕ) → j ≡ i + 1 → (told : ToldNode) (after : TextWriter) → ((x : Node) (e : ℕ) → LaidNode source.names (tokens_of source) x e l → ClockedAs source table sites k x (Ok told)) → ((y : ClockedNode) → NodeWithClocks source table sites told y → Wrote (node_listing letters told.number y) now after) → ((y : ClockedNode) → NodeWithClocks source table sites told y → length (node_listing letters told.number y) ≤ farthest)
          → Putting source letters n j q t from after v
      unfolding ClockedAs
      putting-more j next told after C P F =
          let d = C here.first here.to here.laid in
          let y : ClockedNode = record { node = here.first; clocking = d.0 } in
          let w : clockings i h.rest ≡ (clockings (suc i) here.rest >>= λ l. accepted (y ∷ l)) = ap (clockings i) here.whole ∙ node-formed i here.first here.rest d.0 d.1 in
          let b : v ≡ (clockings (suc i) here.rest >>= λ l. accepted ((h.so_far ++ (y ∷ [])) ++ l)) =
          h.whole ∙ (ap (λ (x : Answer (List ClockedNode)). x >>= λ l. accepted (h.so_far ++ l)) w ∙ one-behind h.so_far y (clockings (suc i) here.rest)) in
          let o : told.number ≡ 0 + length h.so_far = omega (arith, d.3, h.many) in
          let f : join (numbered (node_listing letters) 0 h.so_far) ++ node_listing letters told.number y ≡ join (numbered (node_listing letters) 0 (h.so_far ++ (y ∷ []))) =
          ap (λ (x : ℕ). join (numbered (node_listing letters) 0 h.so_far) ++ node_listing letters x y) o ∙ sym (numbered-last (node_listing letters) 0 h.so_far y) in
          record {
            rest = here.rest;
            so_far = h.so_far ++ (y ∷ []);
            left = here.others;
            total = omega (arith, h.total, lefts, next);
            many = simp length-append (omega (arith, h.many, next));
            whole = let u : j ≡ suc i = omega (arith, next) in rw u b;
            put = wrote_as f (wrote_then h.put (P y d.2));
            few = subst (λ (x : Letters). length x ≤ farthest * j) f (simp length-append (omega (arith, h.few, next, F y d.2)));
          }

  pub putting-all : (ns : List Node) (i : ℕ) (s t : Nodes) (now : TextWriter) (lent after : List ℕ) → from.at ≡ 0 → lent ≡ from.out.now → after ≡ now.out.now → n < 4294967296 → Putting source letters n i q s from now (clockings 0 ns) → GivesNode s None t → TextStands (listings_text letters ns) lent after (Ok now.at)
  unfolding TextStands clockings
  putting-all ns i s t now lent after e f g small h z =
      let w : clockings 0 ns ≡ accepted h.so_far = h.whole ∙ (ap (λ (l : List Node). clockings i l >>= λ r. accepted (h.so_far ++ r)) (no-node h.left t z).0 ∙ ap accepted (append-nil h.so_far)) in
      let text = join (numbered (node_listing letters) 0 h.so_far) in
      (text, rw w refl, wrote-put text lent after e f g (omega (arith, h.few, h.total, small)) h.put)

-- refusal 9
pub stands-deep : (letters : ℕ → Letters) (ns : List Node) (lent now : List ℕ) (r : Refusal) → clockings 0 ns ≡ refused r → TextStands (listings_text letters ns) lent now (Err r)
unfolding TextStands
stands-deep letters ns lent now r h = rw h refl
