-- A sheet's nodes one by one: each has its clocks (`clockings-form`, `node-here`), its faults are its clock faults, else the one that
-- rewriting stops at (`node-faults`, `no-faults`). For loops over nodes, faults, names and tokens of the output up to node i (`..-front`).
use Prim.Native.Nat.{ℕ, zero, suc, ◌+◌, ◌≤◌, ◌<◌}
use mathlib.Core.Path.{◌≡◌, refl, sym, ap, ap₂, ◌∙◌}
use mathlib.Core.List.{List, [], ◌∷◌, ◌++◌, map, append_assoc, append-nil, cons≢nil, Memᴰ}
use mathlib.Core.Bool.{Bool, true, false, ◌&&◌, false≢true}
use mathlib.Core.Option.{Option, none, some, some-injective, none-ne-some}
use native.Mathlib.Omega.{arith}
use native.Mathlib.Numerals.{add-one}
use lib.Dec.{leb}
use lib.ListN.{length, take, drop, get_elem?, length-map}
use lib.Seq.{length-take-le, take_all}
use borrow.Author.Tests.{lt-leb}
use Rattle.definitions.specs.declared.Refusal.{Refusal}
use Rattle.definitions.specs.declared.FaultRecord.{FaultRecord}
use Rattle.definitions.specs.declared.Token.{Token}
use Rattle.definitions.specs.Lists.{choose, all, join, numbered, Letters}
use Rattle.definitions.specs.Tree.{Node, Sheet}
use Rattle.definitions.specs.InferClocks.{Formed, deep, formed, NodeFault, Clocking, clocking, clock_faults, uses_clocks}
use Rattle.definitions.specs.Refusals as answers
use Rattle.definitions.specs.Refusals.{Answer, accepted, refused}
use Rattle.definitions.specs.Output.{ClockedNode, rewritten, stopped_at, node_faults, with_new_names, output_names, output_node, names_out, sheet_out, definition_tokens, node_tokens, sheet_tokens, within_limits}
use Rattle.definitions.specs.Answer.{Input, clockings, first_of, first_faults}
use Rattle.shapes.proofs.Facts.{All, all_nil, all_cons}
use Rattle.shapes.proofs.Accepts.{Accepts, accepts, no-refused, accepts-after, is-accepted}
use Rattle.stateless.specs.Sheets.{Formings, NodeHere, one_of, faults_by, first_faults_from, head_tokens, output_tokens}
use Rattle.stateless.proofs.Stops.{fault_of, stopped-at}

-- ---- each node has its clocks
formings-none : Formings [] []
formings-none = record { same_nodes = refl; same_length = refl; each = all_nil _ }

formings-more : (n : Node) (k : Clocking) (nodes : List Node) (ns : List ClockedNode) → clocking n ≡ formed k → Formings nodes ns → Formings (n ∷ nodes) (record { node = n; clocking = k } ∷ ns)
formings-more n k nodes ns e h =
    record { same_nodes = ap (λ (l : List Node). n ∷ l) h.same_nodes; same_length = ap suc h.same_length; each = all_cons _ _ ns e h.each }

clockings-accept : (i : ℕ) (nodes : List Node) → Accepts (Formings nodes) (clockings i nodes)
unfolding clockings
clockings-accept i [] = accepts formings-none
clockings-accept i (n ∷ nodes) = go (clocking n) refl (clockings-accept (suc i) nodes)
  where
    go : (u : Formed Clocking) → clocking n ≡ u → Accepts (Formings nodes) (clockings (suc i) nodes)
        → Accepts (Formings (n ∷ nodes)) (elim u as (λ x. Answer (List ClockedNode)) [ deep ↦ refused (Refusal.Deep i) | formed k ↦ (answers.◌>>=◌ (clockings (suc i) nodes) (λ rest. accepted (record { node = n; clocking = k } ∷ rest))) ])
    go deep e h = no-refused
    go (formed k) e h = accepts-after _ h (λ ns q. accepts (formings-more n k nodes ns e q))

-- THE LAW: nodes whose clocks are all formed
pub clockings-form : (i : ℕ) (nodes : List Node) (ns : List ClockedNode) → clockings i nodes ≡ accepted ns → Formings nodes ns
clockings-form i nodes ns e = is-accepted (clockings i nodes) ns e (clockings-accept i nodes)

-- ---- the nodes from node i on
here-from : (nodes : List Node) (ns : List ClockedNode) (i : ℕ) → map (λ n. n.node) ns ≡ nodes → i < length ns
    → (n : ClockedNode) × (get_elem? nodes i ≡ some n.node) × (get_elem? ns i ≡ some n) × (drop i ns ≡ n ∷ drop (suc i) ns) × Memᴰ n ns
here-from nodes [] i e h = absurd (omega arith)
here-from nodes (n ∷ ns) zero e h = (n, ap (λ (l : List Node). get_elem? l 0) (sym e), refl, refl, Memᴰ.head refl)
here-from nodes (n ∷ ns) (suc i) e h =
    let r = here-from (map (λ n. n.node) ns) ns i refl (omega arith) in
    (r.0, ap (λ (l : List Node). get_elem? l (suc i)) (sym e) ∙ r.1, r.2, r.3, Memᴰ.tail r.4)

front-more : {A : Type 0} (l : List A) (i : ℕ) (a : A) → get_elem? l i ≡ some a → take (suc i) l ≡ take i l ++ (a ∷ [])
front-more [] i a e = absurd (none-ne-some a e)
front-more (b ∷ l) zero a e = ap (λ x. x ∷ []) (some-injective b a e)
front-more (b ∷ l) (suc i) a e = ap (λ (r : List _). b ∷ r) (front-more l i a e)

-- THE LAW: node i, and the nodes left from it on
pub node-here : {nodes : List Node} {ns : List ClockedNode} → Formings nodes ns → (i : ℕ) → i < length nodes → NodeHere nodes ns i
node-here {nodes} {ns} h i l =
    let r = here-from nodes ns i h.same_nodes (omega (arith, h.same_length, l)) in
    let s = add-one i in
    record {
      clocked = r.0;
      node-here = r.1;
      here = r.2;
      left = r.3 ∙ ap (λ (j : ℕ). r.0 ∷ drop j ns) (sym s);
      forms = h.each r.0 r.4;
      front = ap (λ (j : ℕ). take j ns) s ∙ front-more ns i r.0 r.2;
      before = length-take-le i ns (omega (arith, h.same_length, l));
      member = r.4;
    }

-- all nodes are before the end
pub all-before : {nodes : List Node} {ns : List ClockedNode} → Formings nodes ns → (i : ℕ) → length nodes ≤ i → take i ns ≡ ns
all-before {nodes} {ns} h i l = take_all i ns (omega (arith, h.same_length, l))

-- ---- a node's faults
module _ (names : List Letters) (sheet : Sheet) (n : ClockedNode) where
  -- THE LAW: a node's faults are its clock faults, else the one that rewriting stops at, if it uses clocks
  pub node-faults : node_faults names sheet n ≡ faults_by (clock_faults n.clocking.findings) (uses_clocks n.node) (fault_of sheet names n)
  unfolding node_faults
  node-faults = go (clock_faults n.clocking.findings) (uses_clocks n.node) (stopped_at names sheet (rewritten names sheet names n)) (fault_of sheet names n) (stopped-at names sheet names n)
    where
      go : (l : List NodeFault) (u : Bool) (o p : Option NodeFault) → o ≡ p
          → ◌≡◌ {A = List NodeFault} (elim l as (λ x. List NodeFault) [ f ∷ rest ↦ f ∷ rest | [] ↦ (elim (choose u o none) as (λ x. List NodeFault) [ none ↦ [] | some f ↦ f ∷ [] ]) ]) (faults_by l u p)
      go (f ∷ l) u o p e = refl
      go [] false o p e = refl
      go [] true o p e = one o ∙ ap one_of e
        where
          one : (o : Option NodeFault) → ◌≡◌ {A = List NodeFault} (elim o as (λ x. List NodeFault) [ none ↦ [] | some f ↦ f ∷ [] ]) (one_of o)
          one none = refl
          one (some f) = refl

  -- the same case by case: it has clock faults; it uses no clocks; it does
  pub rewriting-faulty : clock_faults n.clocking.findings ≡ [] → uses_clocks n.node ≡ true → node_faults names sheet n ≡ one_of (fault_of sheet names n)
  rewriting-faulty e u = node-faults ∙ ap₂ (λ (l : List NodeFault) (b : Bool). faults_by l b (fault_of sheet names n)) e u

  -- a node without faults has no clock fault, and its rewriting does not stop
  pub faultless : node_faults names sheet n ≡ [] → (clock_faults n.clocking.findings ≡ []) × (uses_clocks n.node ≡ true → fault_of sheet names n ≡ none)
  faultless h = go (clock_faults n.clocking.findings) (uses_clocks n.node) (fault_of sheet names n) (sym node-faults ∙ h)
    where
      no_one : (o : Option NodeFault) → one_of o ≡ [] → o ≡ none
      no_one none e = refl
      no_one (some f) e = absurd (cons≢nil e)

      go : (l : List NodeFault) (u : Bool) (o : Option NodeFault) → faults_by l u o ≡ [] → (l ≡ []) × (u ≡ true → o ≡ none)
      go (f ∷ l) u o e = absurd (cons≢nil e)
      go [] false o e = (refl, λ t. absurd (false≢true t))
      go [] true o e = (refl, λ t. no_one o e)

-- ---- each faulty node's first fault, from node i on
module _ (r : Input) where
  pub first-faults : (ns : List ClockedNode) → first_faults r ns ≡ first_faults_from r 0 ns
  unfolding first_faults first_faults_from
  first-faults ns = refl

  pub faults-end : (i : ℕ) → first_faults_from r i [] ≡ []
  unfolding first_faults_from
  faults-end i = refl

  pub faults-step : (i : ℕ) (n : ClockedNode) (rest : List ClockedNode) → first_faults_from r i (n ∷ rest) ≡ first_of i (node_faults r.names r.sheet n) ++ first_faults_from r (i + 1) rest
  unfolding first_faults_from
  faults-step i n rest = ap (λ (j : ℕ). first_of i (node_faults r.names r.sheet n) ++ join (numbered (λ i n. first_of i (node_faults r.names r.sheet n)) j rest)) (sym (add-one i))

  -- where there is none, no node has a fault
  pub no-node-faulty : (i : ℕ) (ns : List ClockedNode) → first_faults_from r i ns ≡ [] → All (λ n. node_faults r.names r.sheet n ≡ []) ns
  no-node-faulty i [] h = all_nil _
  no-node-faulty i (n ∷ ns) h = go (node_faults r.names r.sheet n) refl (sym (faults-step i n ns) ∙ h) (no-node-faulty (i + 1) ns)
    where
      go : (l : List NodeFault) → node_faults r.names r.sheet n ≡ l → first_of i l ++ first_faults_from r (i + 1) ns ≡ []
          → (first_faults_from r (i + 1) ns ≡ [] → All (λ n. node_faults r.names r.sheet n ≡ []) ns) → All (λ n. node_faults r.names r.sheet n ≡ []) (n ∷ ns)
      go [] e q rest = all_cons _ n ns e (rest q)
      go (f ∷ fs) e q rest = absurd (cons≢nil q)

  -- THE LAW: then every node's clocks fit, and its rewriting, if it uses clocks, does not stop
  pub no-faults : (ns : List ClockedNode) → first_faults_from r 0 ns ≡ []
      → All (λ n. (clock_faults n.clocking.findings ≡ []) × (uses_clocks n.node ≡ true → fault_of r.sheet r.names n ≡ none)) ns
  no-faults ns h n m = faultless r.names r.sheet n (no-node-faulty 0 ns h n m)

-- ---- from node i on, and up to node i
pub append-joined : {A B : Type 0} (f : A → List B) (l m : List A) → join (map f (l ++ m)) ≡ join (map f l) ++ join (map f m)
append-joined f [] m = refl
append-joined f (a ∷ l) m = ap (λ k. f a ++ k) (append-joined f l m) ∙ sym (append_assoc (f a) (join (map f l)) (join (map f m)))

append-numbered : {A B : Type 0} (f : ℕ → A → List B) (i : ℕ) (l m : List A) → join (numbered f i (l ++ m)) ≡ join (numbered f i l) ++ join (numbered f (i + length l) m)
append-numbered f i [] m = let e : i + 0 ≡ i = omega arith in rw e
append-numbered f i (a ∷ l) m =
    let e : i + suc (length l) ≡ suc i + length l = omega arith in
    rw e (ap (λ k. f i a ++ k) (append-numbered f (suc i) l m) ∙ sym (append_assoc (f i a) (join (numbered f (suc i) l)) (join (numbered f (suc i + length l) m))))

module _ (r : Input) {nodes : List Node} {ns : List ClockedNode} {i : ℕ} (u : NodeHere nodes ns i) where
  pub faults-front : first_faults_from r 0 (take (i + 1) ns) ≡ first_faults_from r 0 (take i ns) ++ first_of i (node_faults r.names r.sheet u.clocked)
  unfolding first_faults_from
  faults-front =
      let e : 0 + length (take i ns) ≡ i = omega (arith, u.before) in
      ap (first_faults_from r 0) u.front
      ∙ (append-numbered (λ i n. first_of i (node_faults r.names r.sheet n)) 0 (take i ns) (u.clocked ∷ [])
      ∙ ap (λ (k : List FaultRecord). first_faults_from r 0 (take i ns) ++ k) (append-nil _ ∙ ap (λ (j : ℕ). first_of j (node_faults r.names r.sheet u.clocked)) e))

-- ---- the output's names, node by node
module _ (names : List Letters) (sheet : Sheet) where
  pub names-out : (ns : List ClockedNode) → names_out names sheet ns ≡ output_names names sheet names ns
  unfolding names_out
  names-out ns = refl

  pub names-end : (all : List Letters) → output_names names sheet all [] ≡ all
  unfolding output_names
  names-end all = refl

  pub names-append : (all : List Letters) (l m : List ClockedNode) → output_names names sheet all (l ++ m) ≡ output_names names sheet (output_names names sheet all l) m
  unfolding output_names
  names-append all [] m = refl
  names-append all (n ∷ l) m = names-append (with_new_names names sheet all n) l m

  -- a node that uses no clocks adds none
  pub names_same : (all : List Letters) (n : ClockedNode) → uses_clocks n.node ≡ false → with_new_names names sheet all n ≡ all
  unfolding with_new_names
  names_same all n f = rw f

  module _ {nodes : List Node} {ns : List ClockedNode} {i : ℕ} (u : NodeHere nodes ns i) (all : List Letters) where
    pub names-front : output_names names sheet all (take (i + 1) ns) ≡ with_new_names names sheet (output_names names sheet all (take i ns)) u.clocked
    unfolding output_names
    names-front = ap (output_names names sheet all) u.front ∙ names-append all (take i ns) (u.clocked ∷ [])

  -- ---- the output's tokens, node by node
  -- THE LAW: the tokens of the types and the number of nodes, then each node's
  pub out-tokens : (ns : List ClockedNode) → sheet_tokens (sheet_out names sheet ns) ≡ head_tokens sheet.types (length ns) ++ output_tokens names sheet (names_out names sheet ns) ns
  unfolding sheet_tokens sheet_out head_tokens output_tokens
  out-tokens ns =
      let types = join (map (λ d. definition_tokens d.name d.body) sheet.types) in
      let e : join (map node_tokens (map (output_node names sheet (names_out names sheet ns)) ns)) ≡ output_tokens names sheet (names_out names sheet ns) ns = joined-map (output_node names sheet (names_out names sheet ns)) node_tokens ns in
      ap₂ (λ (k : ℕ) (l : List Token). Token.Types (length sheet.types) ∷ (types ++ (Token.Nodes k ∷ l))) (length-map ns (output_node names sheet (names_out names sheet ns))) e
      ∙ ap (λ (l : List Token). Token.Types (length sheet.types) ∷ l) (sym (append_assoc types (Token.Nodes (length ns) ∷ []) (output_tokens names sheet (names_out names sheet ns) ns)))
    where
      joined-map : {A B C : Type 0} (f : A → B) (g : B → List C) (l : List A) → join (map g (map f l)) ≡ join (map (λ a. g (f a)) l)
      joined-map f g [] = refl
      joined-map f g (a ∷ l) = ap (λ k. g (f a) ++ k) (joined-map f g l)

  module _ (all : List Letters) where
    pub tokens-end : output_tokens names sheet all [] ≡ []
    unfolding output_tokens
    tokens-end = refl

    module _ {nodes : List Node} {ns : List ClockedNode} {i : ℕ} (u : NodeHere nodes ns i) where
      pub tokens-front : output_tokens names sheet all (take (i + 1) ns) ≡ output_tokens names sheet all (take i ns) ++ node_tokens (output_node names sheet all u.clocked)
      unfolding output_tokens
      tokens-front =
          ap (output_tokens names sheet all) u.front
          ∙ (append-joined (λ n. node_tokens (output_node names sheet all n)) (take i ns) (u.clocked ∷ []) ∙ ap (λ (k : List Token). output_tokens names sheet all (take i ns) ++ k) (append-nil _))

-- ---- the limits of an output
module _ (names : List Letters) (out : Sheet) where
  pub many-tokens : 8192 < length (sheet_tokens out) → within_limits names out ≡ false
  unfolding within_limits
  many-tokens h = rw (lt-leb (length (sheet_tokens out)) 8192 h) (and_none (leb (length names) 1024) (leb (length (join names)) 16384))
    where
      and_none : (a b : Bool) → a && b && false ≡ false
      and_none true true = refl
      and_none true false = refl
      and_none false b = refl
