-- A node found, laid out and clocked. Assumes nothing.
use mathlib.Core.Path.{◌≡◌, refl, sym, ◌∙◌, ap}
use mathlib.Core.Bool.{Bool, false, true≢false}
use mathlib.Core.List.{List, [], ◌∷◌, ◌++◌}
use mathlib.Core.Logic.{inl, inr}
use Prim.Native.Nat.{ℕ, zero, suc, ◌+◌, ◌-◌, ◌≤◌, ◌<◌, min}
use native.Mathlib.Omega.{arith}
use native.Mathlib.Numerals.{add-one}
use lib.ListN.{length, take}
use lib.Seq.{length-take-le, take-append_seam}
use Rattle.std.proofs.Common.{Result, Ok, Err}
use Rattle.std.specs.Prelude.{is_ok}
use Rattle.definitions.specs.declared.Refusal.{Refusal}
use Rattle.definitions.specs.Tokens.{TagValue}
use Rattle.definitions.specs.Tree.{Node}
use Rattle.definitions.specs.Reading.{Reader, got, times}
use Rattle.definitions.specs.Grammar.{node}
use Rattle.definitions.specs.Refusals.{Answer, accepted, refused, faulty, ◌>>=◌}
use Rattle.definitions.specs.InferClocks.{Formed, deep, formed, Clocking, clocking}
use Rattle.definitions.specs.Output.{ClockedNode}
use Rattle.definitions.specs.Answer.{Input, clockings, item_at, node_at}
use Rattle.grammar.proofs.Got.{times-cons}
use Rattle.layout.specs.declared.NodeLayout.{NodeLayout}
use Rattle.layout.specs.Laid.{LaidNode}
use Rattle.lines.specs.declared.ToldNode.{ToldNode}
use Rattle.clock_tables.specs.declared.TooDeep.{TooDeep}
use Rattle.infer_clocks.specs.declared.NodeClocked.{NodeClocked}
use Rattle.infer_clocks.specs.Clocked.{SitesTold, ClockedOrDeep, Deeply}
use Rattle.grammar.specs.declared.source.Source.{Source}
use Rattle.grammar.specs.Read.{tokens_of}
use Rattle.query.specs.declared.FoundNode.{FoundNode}
use Rattle.lines.specs.ToldClocks.{NodeWithClocks}
use Rattle.query.specs.Standing.{first_from, ClockedAs, FoundAt, NodeFound, NodeTold}

-- ---- an item of a list
item-missing : {A : Type 0} (l : List A) (k : ℕ) → length l ≤ k → item_at l k ≡ refused Refusal.Missing
item-missing [] k h = refl
item-missing (a ∷ l) zero h = absurd (omega arith)
item-missing (a ∷ l) (suc k) h = item-missing l k (omega arith)

-- the one behind k others is the first of the rest
item-behind : {A : Type 0} (l m : List A) (k : ℕ) → length l ≡ k → item_at (l ++ m) k ≡ item_at m 0
item-behind [] m k e = let z : k ≡ 0 = omega arith in ap (item_at m) z
item-behind (a ∷ l) m zero e = absurd (omega arith)
item-behind (a ∷ l) m (suc k) e = item-behind l m k (omega arith)

-- ---- items that are read, with k before one of them
pub record Around {A : Type 0} (R : Reader A) (ts : List TagValue) (k behind at : ℕ) (l : List A) (q : ℕ) : Type 0 where
  pub front : List A
  pub place : ℕ
  pub item : A
  pub next : ℕ
  pub rest : List A
  pub before : times k R ts at ≡ got front place
  pub here : R ts place ≡ got item next
  pub after : times behind R ts next ≡ got rest q
  pub whole : l ≡ front ++ (item ∷ rest)
  pub many : length front ≡ k

pub around : {A : Type 0} (R : Reader A) (ts : List TagValue) (k behind at : ℕ) (l : List A) (q : ℕ) → times (k + suc behind) R ts at ≡ got l q → Around R ts k behind at l q
unfolding times
around R ts zero behind at l q g =
    let e : zero + suc behind ≡ suc behind = omega arith in
    let c = times-cons R ts (suc behind) at l q (λ y. omega (arith, y)) (rw e at g) in
    let f : suc behind - 1 ≡ behind = omega arith in
    record { front = []; place = at; item = c.0; next = c.1; rest = c.2; before = refl; here = c.3; after = rw f at c.4; whole = c.5; many = refl }
around {A} R ts (suc k) behind at l q g =
    let c = times-cons R ts (suc k + suc behind) at l q (λ y. omega (arith, y)) g in
    let f : suc k + suc behind - 1 ≡ k + suc behind = omega arith in
    more c.0 c.1 c.2 c.3 c.5 (around R ts k behind c.1 c.2 q (rw f at c.4))
  where
    more : (b : A) (s : ℕ) (r : List A) → R ts at ≡ got b s → l ≡ b ∷ r → Around R ts k behind s r q → Around R ts (suc k) behind at l q
    more b s r e f h =
        let g = h.before in
        record { front = b ∷ h.front; place = h.place; item = h.item; next = h.next; rest = h.rest; before = rw (e, g); here = h.here; after = h.after; whole = f ∙ ap (λ (x : List A). b ∷ x) h.whole; many = ap suc h.many }

-- ---- the same node with its clocks
pub none-clocked : (i : ℕ) (l : List ClockedNode) → clockings i [] ≡ accepted l → l ≡ []
unfolding clockings
none-clocked i l h = cc

pub cons-clocked : (i : ℕ) (n : Node) (ns : List Node) (l : List ClockedNode) → clockings i (n ∷ ns) ≡ accepted l
    → (k : Clocking) × (rest : List ClockedNode) × (clocking n ≡ formed k) × (clockings (suc i) ns ≡ accepted rest) × (l ≡ record { node = n; clocking = k } ∷ rest)
unfolding clockings
cons-clocked i n ns l h = go (clocking n) (clockings (suc i) ns) refl refl h
  where
    said : Formed Clocking → Answer (List ClockedNode) → Answer (List ClockedNode)
    said v w = elim v [ deep ↦ refused (Refusal.Deep i) | formed k ↦ w >>= λ rest. accepted (record { node = n; clocking = k } ∷ rest) ]

    go : (v : Formed Clocking) (w : Answer (List ClockedNode)) → clocking n ≡ v → clockings (suc i) ns ≡ w → said v w ≡ accepted l
        → (k : Clocking) × (rest : List ClockedNode) × (clocking n ≡ formed k) × (clockings (suc i) ns ≡ accepted rest) × (l ≡ record { node = n; clocking = k } ∷ rest)
    go deep w a b e = absurd cc
    go (formed k) (accepted rest) a b e = let x : l ≡ record { node = n; clocking = k } ∷ rest = cc in (k, rest, a, b, x)
    go (formed k) (refused r) a b e = absurd cc
    go (formed k) (faulty r) a b e = absurd cc

-- nothing before
pub all_left : {A : Type 0} (v : Answer (List A)) → v ≡ (v >>= λ l. accepted ([] ++ l))
all_left (accepted l) = refl
all_left (refused r) = refl
all_left (faulty l) = refl

module _ (i : ℕ) (n : Node) (ns : List Node) where
  pub node-formed : (c : Clocking) → clocking n ≡ formed c → clockings i (n ∷ ns) ≡ (clockings (suc i) ns >>= λ l. accepted (record { node = n; clocking = c } ∷ l))
  unfolding clockings
  node-formed c e = rw (e, clockings)

  pub node-deep : clocking n ≡ deep → clockings i (n ∷ ns) ≡ refused (Refusal.Deep i)
  unfolding clockings
  node-deep e = rw (e, clockings)

-- some nodes, then others
pub clockings-append : (i : ℕ) (ns ms : List Node) → clockings i (ns ++ ms) ≡ (clockings i ns >>= λ l. clockings (i + length ns) ms >>= λ m. accepted (l ++ m))
unfolding clockings
clockings-append i [] ms = let e : i + 0 ≡ i = omega arith in rw e (all_left (clockings i ms))
clockings-append i (n ∷ ns) ms = go (clocking n) refl (clockings-append (suc i) ns ms)
  where
    rest : ℕ → Answer (List ClockedNode) → Answer (List ClockedNode)
    rest j v = v >>= λ l. clockings j ms >>= λ m. accepted (l ++ m)

    swap : (a : ClockedNode) (v w : Answer (List ClockedNode)) → ((v >>= λ l. w >>= λ m. accepted (l ++ m)) >>= λ l. accepted (a ∷ l)) ≡ ((v >>= λ l. accepted (a ∷ l)) >>= λ l. w >>= λ m. accepted (l ++ m))
    swap a (accepted l) (accepted m) = refl
    swap a (accepted l) (refused r) = refl
    swap a (accepted l) (faulty f) = refl
    swap a (refused r) w = refl
    swap a (faulty f) w = refl

    go : (v : Formed Clocking) → clocking n ≡ v → clockings (suc i) (ns ++ ms) ≡ rest (suc i + length ns) (clockings (suc i) ns) → clockings i (n ∷ (ns ++ ms)) ≡ rest (i + suc (length ns)) (clockings i (n ∷ ns))
    go deep e h = node-deep i n (ns ++ ms) e ∙ sym (ap (rest (i + suc (length ns))) (node-deep i n ns e))
    go (formed c) e h =
        let j : suc i + length ns ≡ i + suc (length ns) = omega arith in
        let y : ClockedNode = record { node = n; clocking = c } in
        node-formed i n (ns ++ ms) c e
        ∙ (ap (λ (v : Answer (List ClockedNode)). v >>= λ l. accepted (y ∷ l)) h
        ∙ (swap y (clockings (suc i) ns) (clockings (suc i + length ns) ms)
        ∙ (ap (λ (k : ℕ). rest k (clockings (suc i) ns >>= λ l. accepted (y ∷ l))) j ∙ ap (rest (i + suc (length ns))) (sym (node-formed i n ns c e)))))

clocked-long : (i : ℕ) (ns : List Node) (l : List ClockedNode) → clockings i ns ≡ accepted l → length l ≡ length ns
clocked-long i [] l h = ap length (none-clocked i l h)
clocked-long i (n ∷ ns) l h = let a = cons-clocked i n ns l h in ap length a.4 ∙ ap suc (clocked-long (suc i) ns a.1 a.3)

-- ---- what is told of node k
-- 8
pub node-missing : (r : Input) (k : ℕ) → length r.sheet.nodes ≤ k → node_at r k ≡ refused Refusal.Missing
unfolding node_at
node-missing r k h = let e = item-missing r.sheet.nodes k h in rw e

module _ (r : Input) (k : ℕ) (front : List Node) (n : Node) (ns : List Node) (e : r.sheet.nodes ≡ front ++ (n ∷ ns)) (many : length front ≡ k) where
  known : item_at r.sheet.nodes k ≡ accepted n
  known = ap (λ (l : List Node). item_at l k) e ∙ item-behind front (n ∷ ns) k many

  -- 9 at a node before it
  pub node-after-deep : (y : Refusal) → clockings 0 front ≡ refused y → node_at r k ≡ refused y
  unfolding node_at
  node-after-deep y h =
      let x : clockings 0 r.sheet.nodes ≡ refused y = ap (clockings 0) e ∙ (clockings-append 0 front (n ∷ ns) ∙ rw h) in
      rw (known, x)

  -- it and the nodes behind it
  pub node-after : (l : List ClockedNode) → clockings 0 front ≡ accepted l → node_at r k ≡ first_from k (n ∷ ns)
  unfolding node_at
  node-after l h =
      let j : 0 + length front ≡ k = omega (arith, many) in
      let x : clockings 0 r.sheet.nodes ≡ (clockings k (n ∷ ns) >>= λ m. accepted (l ++ m)) = ap (clockings 0) e ∙ (clockings-append 0 front (n ∷ ns) ∙ rw (h, j)) in
      rw (known, x) (go (clockings k (n ∷ ns)))
    where
      go : (v : Answer (List ClockedNode)) → ((v >>= λ m. accepted (l ++ m)) >>= λ a. item_at a k) ≡ (v >>= λ m. item_at m 0)
      go (accepted m) = item-behind l m k (clocked-long 0 front l h ∙ many)
      go (refused x) = refl
      go (faulty x) = refl

-- node k among the nodes of a sheet, which are read there: `before` are as many as k
module _ (M : ℕ) (ts : List TagValue) (r : Input) (k count before at q : ℕ) (few : k < count) (e : before ≡ k) (g : times count (node M) ts at ≡ got r.sheet.nodes q) where
  among : Around (node M) ts before (count - before - 1) at r.sheet.nodes q
  among = let f : count ≡ before + suc (count - before - 1) = omega arith in around (node M) ts before (count - before - 1) at r.sheet.nodes q (ap (λ (n : ℕ). times n (node M) ts at) (sym f) ∙ g)

  module _ (d : Result ℕ Refusal) (D : (ns : List Node) (p : ℕ) → times before (node M) ts at ≡ got ns p → Deeply p d (clockings 0 ns)) where
    -- 9 before it
    pub asked-deep : (source : Source) (y : Refusal) → d ≡ Err y → NodeFound source r k (Err y)
    unfolding NodeFound Deeply
    asked-deep source y f =
        let s = among in
        let x : Deeply s.place (Err y) (clockings 0 s.front) = rw f at (D s.front s.place s.before) in
        let front : take k r.sheet.nodes ≡ s.front = ap (λ (n : ℕ). take n r.sheet.nodes) (sym (s.many ∙ e)) ∙ (ap (take (length s.front)) s.whole ∙ take-append_seam s.front (s.item ∷ s.rest)) in
        (node-after-deep r k s.front s.item s.rest s.whole (s.many ∙ e) y x, inr (ap (clockings 0) front ∙ x))

    -- it stands there, and the nodes behind it after it
    pub asked-there : (p : ℕ) → d ≡ Ok p → (n : Node) × (m : ℕ) × (ns : List Node) × (node M ts p ≡ got n m) × (times (count - before - 1) (node M) ts m ≡ got ns q) × (node_at r k ≡ first_from k (n ∷ ns))
    unfolding Deeply
    asked-there p f =
        let s = among in
        let x : Deeply s.place (Ok p) (clockings 0 s.front) = rw f at (D s.front s.place s.before) in
        (s.item, s.next, s.rest, ap (node M ts) x.0 ∙ s.here, s.after, node-after r k s.front s.item s.rest s.whole (s.many ∙ e) x.1 x.2)

-- what was found of node k
module _ (source : Source) (r : Input) (k : ℕ) where
  pub found-none : length r.sheet.nodes ≤ k → NodeFound source r k (Err Refusal.Missing)
  unfolding NodeFound
  found-none h = (node-missing r k h, inl (h, refl))

  pub found-turned : (x : Refusal) → NodeFound source r k (Err x) → node_at r k ≡ refused x
  unfolding NodeFound
  found-turned x h = h.0

  pub found-there : (f : FoundNode) → FoundAt source r k f → NodeFound source r k (Ok f)
  unfolding NodeFound
  found-there f h = h

  pub found-at : (f : FoundNode) → NodeFound source r k (Ok f) → FoundAt source r k f
  unfolding NodeFound
  found-at f h = h

-- what is told is that
pub told-as : (s : Source) (t sites : List ℕ) (k : ℕ) (a : Result ToldNode Refusal) (v w : Answer ClockedNode) → v ≡ w → NodeTold s t sites k a w → NodeTold s t sites k a v
told-as s t sites k a v w e h = rw e h

pub told-refused : (s : Source) (t sites : List ℕ) (k : ℕ) (x : Refusal) (v : Answer ClockedNode) → v ≡ refused x → NodeTold s t sites k (Err x) v
unfolding NodeTold
told-refused s t sites k x v e = e

-- node k, which is n, and the nodes behind it
module _ (k : ℕ) (n : Node) (ns : List Node) where
  -- 9 at it
  pub first-deep : clocking n ≡ deep → first_from k (n ∷ ns) ≡ refused (Refusal.Deep k)
  first-deep e = let d = node-deep k n ns e in rw d

  module _ (c : Clocking) (e : clocking n ≡ formed c) where
    -- 9 behind it
    pub first-behind : (y : Refusal) → clockings (k + 1) ns ≡ refused y → first_from k (n ∷ ns) ≡ refused y
    first-behind y h =
        let x = node-formed k n ns c e in
        let z = ap (λ (j : ℕ). clockings j ns) (sym (add-one k)) ∙ h in
        rw (x, z)

    pub first-there : (l : List ClockedNode) → clockings (k + 1) ns ≡ accepted l → first_from k (n ∷ ns) ≡ accepted (record { node = n; clocking = c })
    first-there l h =
        let x = node-formed k n ns c e in
        let y = ap (λ (j : ℕ). clockings j ns) (sym (add-one k)) ∙ h in
        rw (x, y)

-- what clocking it and searching behind it tell
module _ (s : Source) (t sites : List ℕ) (k : ℕ) (n : Node) (ns : List Node) where
  pub told-deep : (x : Refusal) → ClockedAs s t sites k n (Err x) → NodeTold s t sites k (Err x) (first_from k (n ∷ ns))
  unfolding NodeTold ClockedAs
  told-deep x h = first-deep k n ns h.0 ∙ ap refused (sym h.1)

  module _ (told : ToldNode) (h : ClockedAs s t sites k n (Ok told)) (q : ℕ) (d : Result ℕ Refusal) (D : Deeply q d (clockings (k + 1) ns)) where
    this : (c : Clocking) × (clocking n ≡ formed c) × NodeWithClocks s t sites told (record { node = n; clocking = c }) × (told.number ≡ k)
    unfolding ClockedAs
    this = h

    pub told-behind : (y : Refusal) → d ≡ Err y → NodeTold s t sites k (Err y) (first_from k (n ∷ ns))
    unfolding NodeTold Deeply
    told-behind y f =
        let x : Deeply q (Err y) (clockings (k + 1) ns) = rw f at D in
        first-behind k n ns this.0 this.1 y x

    pub told-node : (p : ℕ) → d ≡ Ok p → k < 16 → NodeTold s t sites k (Ok told) (first_from k (n ∷ ns))
    unfolding NodeTold Deeply
    told-node p f few =
        let x : Deeply q (Ok p) (clockings (k + 1) ns) = rw f at D in
        (record { node = n; clocking = this.0 }, first-there k n ns this.0 this.1 x.1 x.2, this.2, this.3, few)

-- ---- the part of a working table that names take
module _ (n w : ℕ) (l : List Bool) (e : n ≡ min w 1024) (f : length l ≡ 1024) where
  pub part-long : n ≡ length (take n l)
  part-long = sym (length-take-le n l (omega arith))

  pub part-enough : (M : ℕ) → w ≡ M → M ≤ 1024 → M ≤ length (take n l)
  part-enough M g h = omega (arith, part-long)

-- ---- what is answered in the place of an error
pub deep-told : (env t : List ℕ) (M : ℕ) (n : Node) (r : Result NodeClocked TooDeep) → ClockedOrDeep env t M r (clocking n) → false ≡ is_ok r → clocking n ≡ deep
unfolding ClockedOrDeep
deep-told env t M n (Ok a) h e = absurd (true≢false (sym e))
deep-told env t M n (Err d) h e = h

-- ---- a node clocked
module _ (s : Source) (env t sites : List ℕ) (k : ℕ) (n : Node) (r : Result NodeClocked TooDeep) (h : ClockedOrDeep env t s.names r (clocking n)) where
  pub clocked-deep : (a : Refusal) → false ≡ is_ok r → a ≡ Refusal.Deep k → ClockedAs s t sites k n (Err a)
  unfolding ClockedAs
  clocked-deep a v e = (deep-told env t s.names n r h v, e)

  pub clocked-node : (q : ℕ) (l : NodeLayout) (a : NodeClocked) → r ≡ Ok a → LaidNode s.names (tokens_of s) n q l
      → ((c : Clocking) → clocking n ≡ formed c → SitesTold s sites c.findings c.equations l.equations.at l.equations.end)
      → ClockedAs s t sites k n (Ok (record { layout = l; number = k; clocked = a }))
  unfolding ClockedOrDeep ClockedAs
  clocked-node q l a e d S =
      let x : ClockedOrDeep env t s.names (Ok a) (clocking n) = rw e at h in
      (x.0, x.1, record { end = q; laid = d; formed = x.1; tells = record { made = x.2.made; room = x.2.room; all = x.2.all; on = (S x.0 x.1).on } }, refl)
