-- How many faults there are: at most sixteen nodes are faulty, and a node has at most as many clock faults as a sheet has tokens. No fault has the number 0.
-- Assumes nothing.
use Prim.Native.Nat.{ℕ, zero, suc, ◌≤◌, ◌<◌}
use mathlib.Core.Path.{◌≡◌, refl, sym, ◌∙◌, ap, subst}
use mathlib.Core.List.{List, [], ◌∷◌, ◌++◌, map}
use mathlib.Core.Bool.{Bool, true, false}
use native.Mathlib.Omega.{arith}
use lib.Dec.{eqb, leb}
use lib.ListN.{length, length-append}
use Rattle.definitions.specs.declared.Refusal.{Refusal}
use Rattle.definitions.specs.declared.FaultRecord.{FaultRecord}
use Rattle.definitions.specs.Lists.{choose, any, join, numbered}
use Rattle.definitions.specs.Tokens.{TagValue}
use Rattle.definitions.specs.Tree.{Equation, Node, Sheet}
use Rattle.definitions.specs.Reading.{Got, got, rejected, times}
use Rattle.definitions.specs.Grammar.{equation, node, sheet}
use Rattle.definitions.specs.Types.{first_cycle}
use Rattle.definitions.specs.InferClocks as infer
use Rattle.definitions.specs.InferClocks.{Formed, deep, formed, Natural, Clocks, Inferred, Fault, left_elsewhere, used_elsewhere, when_elsewhere, clock_name_elsewhere, undeclared, no_default, no_output_default, not_single_call, pre_untyped, fault_number, NodeFault, Finding, found, site, too_deep, Clocked, Clocking, natural, or_base, inferred, clocked_by, check_equation, is_too_deep, clocking, clock_faults}
use Rattle.definitions.specs.Refusals.{Answer, accepted, refused, faulty, must, lending, told, ◌>>=◌}
use Rattle.definitions.specs.Output.{ClockedNode, node_faults, names_out, sheet_out, within_limits, written}
use Rattle.definitions.specs.Answer.{Input, answered, input, clockings, fault_record, first_of, unless_faulty, first_faults, rewrite_answer, item_at, node_at, NodeClocks, node_clocks, clocks_answer}
use Rattle.shapes.specs.Shape.{All}
use Rattle.shapes.proofs.Facts.{all_nil, all_cons, all_head, all_tail}
use Rattle.shapes.proofs.Accepts.{Accepts, accepts, no-refused, no-faulty, accepts-after, accepts-itself, accepts-must, is-accepted}
use Rattle.shapes.proofs.ReadBytes.{parts-facts}
use Rattle.grammar.proofs.Laws.{after-got, wrap-got, times-length}
use Rattle.grammar.proofs.Parts.{counted-within}
use Rattle.grammar.proofs.Longer.{keeps, times-keeps, equation-grows}
use Rattle.grammar.proofs.Got.{node-got, sheet-got}
use Rattle.checking.proofs.Size.{equations-fit}
use Rattle.stateless.proofs.Nodes.{clockings-form}
use Rattle.stateless.proofs.Answers.{input-refused}

-- no record of a list has the fault number 0
abbrev pub Real : List FaultRecord → Type 0
Real [] = Unit {0}
Real (r ∷ l) = (0 < r.fault) × Real l

-- ---- a sheet that was read: its nodes are few, and each was read among few tokens
abbrev ReadIn : ℕ → List TagValue → Node → Type 0
ReadIn M ts n = (p : ℕ) × (q : ℕ) × (node M ts p ≡ got n q)

record Reads (r : Input) : Type 0 where
  few : length r.sheet.nodes ≤ 16
  M : ℕ
  ts : List TagValue
  short : length ts ≤ 4096
  each : All (ReadIn M ts) r.sheet.nodes

each_read : (M : ℕ) (ts : List TagValue) (m p : ℕ) (l : List Node) (q : ℕ) → times m (node M) ts p ≡ got l q → All (ReadIn M ts) l
unfolding times
each_read M ts zero p l q g = let e : l ≡ [] = cc in rw e (all_nil (ReadIn M ts))
each_read M ts (suc m) p l q g =
    let a = after-got (node M ts p) _ l q g in
    let b = wrap-got (times m (node M) ts a.1) _ l q a.3 in
    rw b.2 (all_cons (ReadIn M ts) a.0 b.0 (p, a.1, a.2) (each_read M ts m a.1 b.0 q b.1))

sheet-read : (M : ℕ) (ts : List TagValue) → Accepts (λ s. (length s.nodes ≤ 16) × All (ReadIn M ts) s.nodes) (answered (sheet M ts 0))
sheet-read M ts = go (sheet M ts 0) refl
  where
    go : (x : Got Sheet) → sheet M ts 0 ≡ x → Accepts (λ s. (length s.nodes ≤ 16) × All (ReadIn M ts) s.nodes) (answered x)
    go (got s q) e =
        let x = sheet-got M ts 0 s q e in
        let b = times-length (node M) ts x.3 x.4 s.nodes q x.8 in
        let d = counted-within 2 0 16 ts x.2 x.3 x.4 x.7 in
        let few : length s.nodes ≤ 16 = omega (arith, b, d.1) in
        accepts {a = s} (few, each_read M ts x.3 x.4 s.nodes q x.8)
    go (rejected t) e = no-refused

input-reads : (b : List ℕ) → Accepts Reads (input b)
unfolding input
input-reads b =
    accepts-after _ (parts-facts b) (λ p facts.
    accepts-after _ (sheet-read (length p.names) p.tokens) (λ s h.
    accepts-after _ (accepts-must (eqb (first_cycle s.types [] s.types) (length s.types)) (Refusal.Cycle (first_cycle s.types [] s.types))) (λ _ _.
    accepts (record { few = h.0; M = length p.names; ts = p.tokens; short = facts.few-tokens; each = h.1 }))))

-- ---- the findings of a node, within the tokens
same-equations : (clocks : Clocks) (es : List Equation) (cs : List Clocked) → clocked_by clocks es ≡ formed cs → map (λ c. c.equation) cs ≡ es
unfolding clocked_by
same-equations clocks [] cs h = let e : cs ≡ [] = cc in rw e
same-equations clocks (e ∷ es) cs h = go (natural clocks e.right) (clocked_by clocks es) refl h (λ rest b. same-equations clocks es rest b)
  where
    go : (v : Natural) (w : Formed (List Clocked)) → clocked_by clocks es ≡ w → (infer.◌>>=◌ v (λ o. infer.◌>>=◌ w (λ rest. formed (record { clock = or_base o; equation = e } ∷ rest)))) ≡ formed cs
        → ((rest : List Clocked) → clocked_by clocks es ≡ formed rest → map (λ c. c.equation) rest ≡ es) → map (λ (c : Clocked). c.equation) cs ≡ e ∷ es
    go deep w b k f = let z : ◌≡◌ {A = ℕ} 0 1 = cc in absurd (omega arith)
    go (formed o) deep b k f = let z : ◌≡◌ {A = ℕ} 0 1 = cc in absurd (omega arith)
    go (formed o) (formed rest) b k f =
        let x : cs ≡ record { clock = or_base o; equation = e } ∷ rest = cc in
        rw x (ap (λ (l : List Equation). e ∷ l) (f rest b))

module _ (M : ℕ) (ts : List TagValue) (n : Node) (p q : ℕ) (g : node M ts p ≡ got n q) (k : Clocking) where
  found-few : clocking n ≡ formed k → length k.findings ≤ length ts
  unfolding clocking
  found-few e = go (inferred n) e
    where
      last : (r : Inferred) (cs : List Clocked) (t : Bool) → clocked_by r.clocks n.equations ≡ formed cs
          → choose t deep (formed (record { passes = r.passes; names = r.clocks; equations = cs; findings = join (numbered (check_equation n r.clocks) 0 cs) })) ≡ formed k → length k.findings ≤ length ts
      last r cs true w h = let z : ◌≡◌ {A = ℕ} 0 1 = cc in absurd (omega arith)
      last r cs false w h =
          let x : record { passes = r.passes; names = r.clocks; equations = cs; findings = join (numbered (check_equation n r.clocks) 0 cs) } ≡ k = cc in
          let d = node-got M ts p n q g in
          let a = equations-fit M ts n r.clocks d.equation_count d.equations_at n.equations d.probe_count_at d.equations cs (same-equations r.clocks n.equations cs w) 0 in
          let b = times-keeps (equation M) (keeps _ (equation-grows M)) d.equation_count ts d.equations_at n.equations d.probe_count_at d.equations in
          let y : length (join (numbered (check_equation n r.clocks) 0 cs)) ≤ length ts = omega (arith, a, b.1) in
          subst (λ (c : Clocking). length c.findings ≤ length ts) x y

      then : (r : Inferred) (w : Formed (List Clocked)) → clocked_by r.clocks n.equations ≡ w
          → (infer.◌>>=◌ w (λ es. choose (any is_too_deep (join (numbered (check_equation n r.clocks) 0 es))) deep (formed (record { passes = r.passes; names = r.clocks; equations = es; findings = join (numbered (check_equation n r.clocks) 0 es) })))) ≡ formed k
          → length k.findings ≤ length ts
      then r deep w h = let z : ◌≡◌ {A = ℕ} 0 1 = cc in absurd (omega arith)
      then r (formed cs) w h = last r cs (any is_too_deep (join (numbered (check_equation n r.clocks) 0 cs))) w h

      go : (u : Formed Inferred)
          → (infer.◌>>=◌ u (λ r. infer.◌>>=◌ (clocked_by r.clocks n.equations) (λ es. choose (any is_too_deep (join (numbered (check_equation n r.clocks) 0 es))) deep (formed (record { passes = r.passes; names = r.clocks; equations = es; findings = join (numbered (check_equation n r.clocks) 0 es) }))))) ≡ formed k
          → length k.findings ≤ length ts
      go deep h = let z : ◌≡◌ {A = ℕ} 0 1 = cc in absurd (omega arith)
      go (formed r) h = then r (clocked_by r.clocks n.equations) refl h

faults-few : (l : List Finding) → length (clock_faults l) ≤ length l
unfolding clock_faults
faults-few [] = omega arith
faults-few (found f ∷ l) = let h = faults-few l in omega (arith, h)
faults-few (site c ∷ l) = let h = faults-few l in omega (arith, h)
faults-few (too_deep ∷ l) = let h = faults-few l in omega (arith, h)

-- ---- the clock query
any-accepted : {A : Type 0} (a : Answer A) → Accepts (λ _. Unit {0}) a
any-accepted (accepted a) = accepts tt
any-accepted (refused r) = no-refused
any-accepted (faulty l) = no-faulty

item-all : {A : Type 0} (P : A → Type 0) (l : List A) (k : ℕ) → All P l → Accepts P (item_at l k)
item-all P [] k h = no-refused
item-all P (a ∷ l) zero h = accepts (all_head P a l h)
item-all P (a ∷ l) (suc k) h = item-all P l k (all_tail P a l h)

abbrev Few : ClockedNode → Type 0
Few n = length n.clocking.findings ≤ 4096

all-few : (M : ℕ) (ts : List TagValue) → length ts ≤ 4096 → (ns : List ClockedNode) → All (ReadIn M ts) (map (λ n. n.node) ns) → All (λ n. clocking n.node ≡ formed n.clocking) ns → All Few ns
all-few M ts short [] reads each = all_nil Few
all-few M ts short (n ∷ ns) reads each =
    let r = all_head (ReadIn M ts) n.node (map (λ m. m.node) ns) reads in
    let b = found-few M ts n.node r.0 r.1 r.2 n.clocking (all_head _ n ns each) in
    all_cons Few n ns (omega (arith, b, short)) (all-few M ts short ns (all_tail (ReadIn M ts) n.node (map (λ m. m.node) ns) reads) (all_tail _ n ns each))

node-few : (r : Input) → Reads r → (k : ℕ) → Accepts Few (node_at r k)
unfolding node_at
node-few r h k =
    accepts-after _ (any-accepted (item_at r.sheet.nodes k)) (λ _ _.
    accepts-after _ (accepts-itself (any-accepted (clockings 0 r.sheet.nodes))) (λ ns e.
    let f = clockings-form 0 r.sheet.nodes ns e.0 in
    item-all Few ns k (all-few h.M h.ts h.short ns (subst (All (ReadIn h.M h.ts)) (sym f.same_nodes) h.each) f.each)))

clocks-accept : (b : List ℕ) (k : ℕ) → Accepts (λ q. length q.faults ≤ 4096) (clocks_answer b k)
unfolding clocks_answer node_clocks
clocks-accept b k =
    accepts-after _ (input-reads b) (λ r h.
    accepts-after _ (node-few r h k) (λ n f. let g = faults-few n.clocking.findings in let few : length (clock_faults n.clocking.findings) ≤ 4096 = omega (arith, f, g) in accepts few))

-- THE LAW: a node has at most 4,096 clock faults
pub few-clock-faults : (b : List ℕ) (k : ℕ) (q : NodeClocks) → clocks_answer b k ≡ accepted q → length q.faults ≤ 4096
few-clock-faults b k q e = is-accepted (clocks_answer b k) q e (clocks-accept b k)

-- ---- no fault has the number 0
number-real : (f : Fault) → 0 < fault_number f
number-real (left_elsewhere x c d p) = omega arith
number-real (used_elsewhere x c d) = omega arith
number-real (when_elsewhere k c) = omega arith
number-real (clock_name_elsewhere x c d) = omega arith
number-real (undeclared x) = omega arith
number-real (no_default x) = omega arith
number-real (no_output_default x f) = omega arith
number-real not_single_call = omega arith
number-real pre_untyped = omega arith

pub clock-faults-real : (k : ℕ) (fs : List NodeFault) → Real (map (fault_record k) fs)
clock-faults-real k [] = tt
clock-faults-real k (f ∷ fs) = (number-real f.fault, clock-faults-real k fs)

-- ---- rewriting: what holds of the faults, where there are any
abbrev FaultyIs : {A : Type 0} → (List FaultRecord → Type 0) → Answer A → Type 0
FaultyIs P (accepted a) = Unit {0}
FaultyIs P (refused r) = Unit {0}
FaultyIs P (faulty l) = P l

faulty-after : {A B : Type 0} (P : List FaultRecord → Type 0) (a : Answer A) (f : A → Answer B) → FaultyIs P a → ((x : A) → a ≡ accepted x → FaultyIs P (f x)) → FaultyIs P (a >>= f)
faulty-after P (accepted x) f h k = k x refl
faulty-after P (refused r) f h k = tt
faulty-after P (faulty l) f h k = h

faulty-must : (P : List FaultRecord → Type 0) (b : Bool) (r : Refusal) → FaultyIs P (must b r)
faulty-must P true r = tt
faulty-must P false r = tt

faulty-lending : (P : List FaultRecord → Type 0) (needed lent : ℕ) → FaultyIs P (lending needed lent)
faulty-lending P needed lent = faulty-must P (leb needed lent) (Refusal.Lent needed)

faulty-input : (P : List FaultRecord → Type 0) (b : List ℕ) → FaultyIs P (input b)
faulty-input P b = go (input b) refl
  where
    go : (a : Answer Input) → input b ≡ a → FaultyIs P a
    go (accepted r) e = tt
    go (refused r) e = tt
    go (faulty l) e =
        let x = input-refused b (Refusal.Faulty (length l)) (ap told e) in
        let y : faulty l ≡ refused (Refusal.Faulty (length l)) = sym e ∙ x in
        let z : ◌≡◌ {A = ℕ} 0 1 = cc in absurd (omega arith)

faulty-clockings : (P : List FaultRecord → Type 0) (i : ℕ) (nodes : List Node) → FaultyIs P (clockings i nodes)
unfolding clockings
faulty-clockings P i [] = tt
faulty-clockings P i (n ∷ nodes) = go (clocking n) (faulty-clockings P (suc i) nodes)
  where
    go : (u : Formed Clocking) → FaultyIs P (clockings (suc i) nodes)
        → FaultyIs {A = List ClockedNode} P (elim u as (λ x. Answer (List ClockedNode)) [ deep ↦ refused (Refusal.Deep i) | formed k ↦ (clockings (suc i) nodes >>= λ rest. accepted (record { node = n; clocking = k } ∷ rest)) ])
    go deep h = tt
    go (formed k) h = faulty-after P (clockings (suc i) nodes) _ h (λ rest _. tt)

real-app : (a b : List FaultRecord) → Real a → Real b → Real (a ++ b)
real-app [] b h k = k
real-app (r ∷ a) b h k = (h.0, real-app a b h.1 k)

abbrev Good : ℕ → List FaultRecord → Type 0
Good n l = Real l × (length l ≤ n)

first_good : (i : ℕ) (fs : List NodeFault) → Good 1 (first_of i fs)
first_good i [] = (tt, omega arith)
first_good i (f ∷ fs) = ((number-real f.fault, tt), omega arith)

firsts-good : (f : ClockedNode → List NodeFault) (i : ℕ) (ns : List ClockedNode) → Good (length ns) (join (numbered (λ j n. first_of j (f n)) i ns))
firsts-good f i [] = (tt, omega arith)
firsts-good f i (n ∷ ns) =
    let a = first_good i (f n) in
    let b = firsts-good f (suc i) ns in
    (real-app (first_of i (f n)) (join (numbered (λ j m. first_of j (f m)) (suc i) ns)) a.0 b.0, omega (arith, a.1, b.1, length-append (first_of i (f n)) (join (numbered (λ j m. first_of j (f m)) (suc i) ns))))

unless-good : (l : List FaultRecord) → Good 16 l → FaultyIs (Good 16) (unless_faulty l)
unless-good [] h = tt
unless-good (f ∷ fs) h = h

faulty-rewrite : (b : List ℕ) (lent : ℕ) → FaultyIs (Good 16) (rewrite_answer b lent)
unfolding rewrite_answer first_faults
faulty-rewrite b lent =
    faulty-after (Good 16) (input b) _ (faulty-input (Good 16) b) (λ r e.
    faulty-after (Good 16) (clockings 0 r.sheet.nodes) _ (faulty-clockings (Good 16) 0 r.sheet.nodes) (λ ns f.
    let few = (is-accepted (input b) r e (input-reads b)).few in
    let same = (clockings-form 0 r.sheet.nodes ns f).same_length in
    let g = firsts-good (λ n. node_faults r.names r.sheet n) 0 ns in
    faulty-after (Good 16) (unless_faulty (first_faults r ns)) _ (unless-good (first_faults r ns) (g.0, omega (arith, g.1, few, same))) (λ _ _.
    faulty-after (Good 16) (must (within_limits (names_out r.names r.sheet ns) (sheet_out r.names r.sheet ns)) Refusal.Large) _ (faulty-must (Good 16) (within_limits (names_out r.names r.sheet ns) (sheet_out r.names r.sheet ns)) Refusal.Large) (λ _ _.
    faulty-after (Good 16) (lending (length (written (names_out r.names r.sheet ns) (sheet_out r.names r.sheet ns))) lent) _ (faulty-lending (Good 16) (length (written (names_out r.names r.sheet ns) (sheet_out r.names r.sheet ns))) lent) (λ _ _. tt)))))

-- THE LAW: the first faults of nodes are at most 16, and each has a number
pub good-faults : (b : List ℕ) (lent : ℕ) (l : List FaultRecord) → rewrite_answer b lent ≡ faulty l → Real l × (length l ≤ 16)
good-faults b lent l e = subst (FaultyIs (Good 16)) e (faulty-rewrite b lent)
