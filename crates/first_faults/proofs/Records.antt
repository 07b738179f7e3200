-- Fault records put over the front of a lent list, one after another, node after node.
-- Assumes nothing.
use Prim.Native.Nat.{ℕ, zero, suc, ◌+◌, ◌≤◌, ◌<◌, min}
use mathlib.Core.Path.{◌≡◌, refl, sym, ap, ◌∙◌, subst}
use mathlib.Core.List.{List, [], ◌∷◌, ◌++◌}
use mathlib.Core.Bool.{Bool, true, false}
use mathlib.Core.Option.{Option, some, none-ne-some, some-injective}
use native.Mathlib.Omega.{arith}
use native.Mathlib.Numerals.{add-one}
use lib.ListN.{length, take, drop, get_elem?, length-append, drop_of_length-le}
use Rattle.definitions.specs.declared.Refusal.{Refusal}
use Rattle.definitions.specs.declared.FaultRecord.{FaultRecord}
use Rattle.definitions.specs.Lists.{over}
use Rattle.definitions.specs.Tree.{Node}
use Rattle.definitions.specs.Refusals.{accepted, refused}
use Rattle.definitions.specs.InferClocks.{NodeFault, fault_number, clocking}
use Rattle.definitions.specs.Output.{ClockedNode, node_faults}
use Rattle.definitions.specs.Answer.{Input, clockings, fault_record, first_of}
use Rattle.shapes.proofs.Facts.{over-long}
use Rattle.infer_clocks.specs.Clocked.{is_deep}
use Rattle.infer_clocks.proofs.Laws.{Ahead, ahead-end, ahead_step, ahead-deep}
use Rattle.stateless.specs.Sheets.{first_faults_from}
use Rattle.stateless.proofs.Nodes.{clockings-form, node-here, all-before, faults-end, faults-front}
use Rattle.spelling.specs.Writing.{last_place}
use Rattle.query.specs.Faults.{Pushed}
use Rattle.query.specs.declared.fault_list.FaultList.{FaultList}
use Rattle.query.proofs.Entries.{set-behind}
use Rattle.first_faults.specs.Faults.{fault_in, Recorded}

-- ---- the first of a node's faults behind others: its record
module _ (lent l : List FaultRecord) (m : ℕ) (now : List FaultRecord) (h : Recorded lent l m now) (node : ℕ) (fs : List NodeFault) (f : NodeFault) (told : some f ≡ get_elem? fs 0) where
  first-is : first_of node fs ≡ record { node = node; fault = fault_number f.fault; equation = f.equation } ∷ []
  first-is = go fs told
    where
      go : (fs : List NodeFault) → some f ≡ get_elem? fs 0 → first_of node fs ≡ record { node = node; fault = fault_number f.fault; equation = f.equation } ∷ []
      go [] e = absurd (none-ne-some f (sym e))
      go (g ∷ fs) e = ap (λ (y : NodeFault). record { node = node; fault = fault_number y.fault; equation = y.equation } ∷ []) (sym (some-injective f g e))

  one_more : (a : FaultRecord) → first_of node fs ≡ a ∷ [] → m + 1 ≡ length (l ++ first_of node fs)
  one_more a x = omega (arith, h.counted, length-append l (first_of node fs), ap length x)

-- the record of a list that a first fault was put in
pub record-pushed : (lent l : List FaultRecord) (a b : FaultList) → Recorded lent l a.count a.records.now → (node : ℕ) (fs : List NodeFault) (f : NodeFault) → some f ≡ get_elem? fs 0 → a.count < last_place → Pushed (fault_record node f) a b → Recorded lent (l ++ first_of node fs) b.count b.records.now
record-pushed lent l a b h node fs f told few p =
    let x = first-is lent l a.count a.records.now h node fs f told in
    let n : b.count ≡ a.count + 1 = omega (arith, p.next, few) in
    record {
      counted = n ∙ one_more lent l a.count a.records.now h node fs f told (fault_record node f) x;
      written = p.put ∙ (set-behind l (fault_record node f) lent a.count a.records.now h.counted h.written ∙ ap (λ (y : List FaultRecord). over (l ++ y) lent) (sym x));
    }

-- ---- records that were put in one list, copied over the front of another
copied-front : (l first lent : List FaultRecord) (n : ℕ) → n ≡ min (length l) (length lent) → length l ≤ length first → take n (over l first) ++ drop n lent ≡ over l lent
copied-front [] first lent zero e h = refl
copied-front [] first lent (suc n) e h = absurd (omega (arith, e))
copied-front (f ∷ l) first [] zero e h = refl
copied-front (f ∷ l) first [] (suc n) e h = absurd (omega (arith, e))
copied-front (f ∷ l) [] (g ∷ lent) n e h = absurd (omega arith)
copied-front (f ∷ l) (x ∷ first) (g ∷ lent) zero e h = absurd (omega (arith, e))
copied-front (f ∷ l) (x ∷ first) (g ∷ lent) (suc n) e h = ap (λ (r : List FaultRecord). f ∷ r) (copied-front l first lent n (omega (arith, e)) (omega arith))

pub record-copied : (first kept lent l : List FaultRecord) (m n : ℕ) → Recorded first l m kept → m ≤ length kept → n ≡ min m (length lent) → Recorded lent l m (take n kept ++ drop n lent)
record-copied first kept lent l m n h room few =
    let long : length kept ≡ length first = ap length h.written ∙ over-long l first in
    record { counted = h.counted; written = ap (λ (k : List FaultRecord). take n k ++ drop n lent) h.written ∙ copied-front l first lent n (few ∙ ap (λ (i : ℕ). min i (length lent)) h.counted) (omega (arith, room, h.counted, long)) }

-- ---- node after node
module _ (r : Input) (ns : List ClockedNode) (clocks : clockings 0 r.sheet.nodes ≡ accepted ns) (lent : List FaultRecord) where
  pub first-start : Recorded lent (first_faults_from r 0 (take 0 ns)) 0 lent
  first-start = let e = faults-end r 0 in record { counted = ap length (sym e); written = ap (λ (l : List FaultRecord). over l lent) (sym e) }

  pub first_step : (k w m m' : ℕ) (now after : List FaultRecord) (o : Option NodeFault) → k < length r.sheet.nodes → w ≡ k → o ≡ fault_in r (get_elem? ns k) 0
      → ((lent l : List FaultRecord) (fs : List NodeFault) → Recorded lent l m now → o ≡ get_elem? fs 0 → Recorded lent (l ++ first_of w fs) m' after)
      → Recorded lent (first_faults_from r 0 (take k ns)) m now → Recorded lent (first_faults_from r 0 (take (k + 1) ns)) m' after
  first_step k w m m' now after o few e f add h =
      let u = node-here (clockings-form 0 r.sheet.nodes ns clocks) k few in
      let x = add lent (first_faults_from r 0 (take k ns)) (node_faults r.names r.sheet u.clocked) h (f ∙ ap (λ (y : Option ClockedNode). fault_in r y 0) u.here) in
      subst (λ (l : List FaultRecord). Recorded lent l m' after) (ap (λ (i : ℕ). first_faults_from r 0 (take k ns) ++ first_of i (node_faults r.names r.sheet u.clocked)) e ∙ sym (faults-front r u)) x

  pub first-end : (k m : ℕ) (now : List FaultRecord) → length r.sheet.nodes ≤ k → Recorded lent (first_faults_from r 0 (take k ns)) m now → Recorded lent (first_faults_from r 0 ns) m now
  first-end k m now past h = let e = all-before (clockings-form 0 r.sheet.nodes ns clocks) k past in rw e at h

-- ---- node after node, up to the first in which too deep a clock is formed
item-here : {A : Type 0} (l : List A) (k : ℕ) → k < length l → (a : A) × (get_elem? l k ≡ some a) × (drop k l ≡ a ∷ drop (suc k) l)
item-here [] k h = absurd (omega arith)
item-here (a ∷ l) zero h = (a, refl, refl)
item-here (a ∷ l) (suc k) h = item-here l k (omega arith)

module _ (r : Input) (k : ℕ) (ahead : Ahead k (drop k r.sheet.nodes) (clockings 0 r.sheet.nodes)) where
  module _ (b : Bool) (few : k < length r.sheet.nodes) (told : (n : Node) → get_elem? r.sheet.nodes k ≡ some n → b ≡ is_deep (clocking n)) where
    here : (n : Node) × (drop k r.sheet.nodes ≡ n ∷ drop (k + 1) r.sheet.nodes) × (b ≡ is_deep (clocking n))
    here = let x = item-here r.sheet.nodes k few in (x.0, x.2 ∙ ap (λ (i : ℕ). x.0 ∷ drop i r.sheet.nodes) (sym (add-one k)), told x.0 x.1)

    pub nodes-step : b ≡ false → Ahead (k + 1) (drop (k + 1) r.sheet.nodes) (clockings 0 r.sheet.nodes)
    nodes-step e = ahead_step k (drop k r.sheet.nodes) (clockings 0 r.sheet.nodes) ahead here.0 (drop (k + 1) r.sheet.nodes) here.1 b here.2 e

    pub nodes-deep : b ≡ true → clockings 0 r.sheet.nodes ≡ refused (Refusal.Deep k)
    nodes-deep e = ahead-deep k (drop k r.sheet.nodes) (clockings 0 r.sheet.nodes) ahead here.0 (drop (k + 1) r.sheet.nodes) here.1 b here.2 e

  pub nodes-end : length r.sheet.nodes ≤ k → (ns : List ClockedNode) × (clockings 0 r.sheet.nodes ≡ accepted ns)
  nodes-end past = ahead-end k (drop k r.sheet.nodes) (clockings 0 r.sheet.nodes) ahead (drop_of_length-le r.sheet.nodes {i = k} past)
