-- Entries written over the front of a lent list, one after another. Assumes nothing.
use mathlib.Core.Path.{◌≡◌, refl, sym, ◌∙◌, ap}
use mathlib.Core.List.{List, [], ◌∷◌, ◌++◌, map}
use mathlib.Core.Bool.{Bool, true, false}
use Prim.Native.Nat.{ℕ, zero, suc, ◌+◌, ◌*◌, ◌/◌, ◌≤◌, ◌<◌}
use native.Mathlib.Omega.{arith}
use native.Mathlib.Numerals.{add-one}
use lib.Dec.{leb}
use borrow.Author.Tests.{leb-true, leb-false}
use lib.ListN.{length, get_or, set, take, length-append, length-map}
use lib.Seq.{take-suc, take_all, take-append-le, length-take-le}
use Rattle.definitions.specs.Lists.{join, over, Letters}
use Rattle.definitions.specs.Clock.{Clock, base}
use Rattle.definitions.specs.InferClocks.{Clocked, Finding, NodeFault, chains, clock_faults}
use Rattle.definitions.specs.Output.{ClockedNode}
use Rattle.definitions.specs.declared.FaultRecord.{FaultRecord}
use Rattle.definitions.specs.Answer.{fault_record, node_clocks}
use Rattle.std.specs.Prelude.{Some}
use Rattle.grammar.specs.declared.source.Source.{Source}
use Rattle.shapes.proofs.Facts.{over-long}
use Rattle.clock_tables.specs.declared.clock.Clock as value
use Rattle.clock_tables.specs.Value.{value_of}
use Rattle.lines.specs.declared.ToldNode.{ToldNode}
use Rattle.lines.specs.ToldClocks.{NodeWithClocks}
use Rattle.lines.specs.declared.equation_clocks.EquationClocks.{EquationClocks}
use Rattle.lines.specs.Walk.{GivesClock}
use Rattle.lines.proofs.Walks.{Walked, walked-more}
use Rattle.lines.proofs.Laws.{node-many}
use Rattle.query.specs.declared.NodeCounts.{NodeCounts}
use Rattle.clock_tables.specs.Flat.{clock_words, with_clock}
use Rattle.clock_tables.proofs.FlatLaws.{words_long}
use Rattle.skeleton.specs.Sites.{EquationsOn}
use Rattle.infer_clocks.specs.Clocked.{ChainRoom}
use Rattle.workspace.specs.Room.{Ample}
use Rattle.workspace.proofs.Kept.{ample-room}
use Rattle.findings.specs.Findings.{findings_in}
use Rattle.findings.proofs.Laws.{length_from}
use Rattle.lines.proofs.ListingLengths.{few-faults}
use Rattle.spelling.specs.Writing.{over_at, last_place}
use Rattle.spelling.proofs.Writing.{over_nothing, over-front, over-parts, over-set, over-then}
use Rattle.query.specs.Words.{clocks_over, found_counts, Written}
use Rattle.query.specs.Faults.{Pushed}
use Rattle.query.specs.declared.fault_list.FaultList.{FaultList}
use Rattle.query.proofs.Words.{join_last}

-- ---- clocks
clocks-long : (cs : List Clock) → length (join (map clock_words cs)) ≡ 17 * length cs
clocks-long [] = refl
clocks-long (c ∷ cs) = omega (arith, length-append (clock_words c) (join (map clock_words cs)), words_long c, clocks-long cs)

module _ (cs : List Clock) (v : Clock) (lent : List ℕ) where
  -- one clock more where there is a place for it
  clock-in : 17 * length cs + 17 ≤ length lent → over_at (17 * length cs) (clock_words v) (clocks_over cs lent) ≡ clocks_over (cs ++ (v ∷ [])) lent
  unfolding clocks_over
  clock-in h =
      let p = join (map clock_words cs) in
      let a : length cs ≤ length lent / 17 = omega arith in
      let b : length (cs ++ (v ∷ [])) ≤ length lent / 17 = omega (arith, length-append cs (v ∷ [])) in
      let e : 17 * length cs ≡ 0 + length (join (map clock_words cs)) = omega (arith, clocks-long cs) in
      ap (λ (l : List Clock). over_at (17 * length cs) (clock_words v) (over (join (map clock_words l)) lent)) (take_all (length lent / 17) cs a)
      ∙ (ap (λ (l : List ℕ). over_at (17 * length cs) (clock_words v) l) (sym (over-front p lent))
      ∙ (ap (λ (n : ℕ). over_at n (clock_words v) (over_at 0 p lent)) e
      ∙ (over-then 0 p (clock_words v) lent
      ∙ (over-front (p ++ clock_words v) lent
      ∙ (ap (λ (l : List ℕ). over l lent) (sym (join_last clock_words cs v))
      ∙ ap (λ (l : List Clock). over (join (map clock_words l)) lent) (sym (take_all (length lent / 17) (cs ++ (v ∷ [])) b)))))))

  -- and where there is none
  clock-out : length lent < 17 * length cs + 17 → clocks_over cs lent ≡ clocks_over (cs ++ (v ∷ [])) lent
  unfolding clocks_over
  clock-out h = let a : length lent / 17 ≤ length cs = omega arith in ap (λ (l : List Clock). over (join (map clock_words l)) lent) (sym (take-append-le (length lent / 17) cs (v ∷ []) a))

  -- a clock is put in the row behind the others, if there is one
  clock-behind : (i : ℕ) (now after : List ℕ) → i ≡ length cs → (17 * i + 17 ≤ length now → after ≡ with_clock (17 * i) v now) → (length now < 17 * i + 17 → after ≡ now)
      → now ≡ clocks_over cs lent → after ≡ clocks_over (cs ++ (v ∷ [])) lent
  unfolding clocks_over
  clock-behind i now after e put kept g = go (leb (17 * i + 17) (length now)) refl
    where
      same : length now ≡ length lent
      same = ap length g ∙ over-long (join (map clock_words (take (length lent / 17) cs))) lent

      go : (t : Bool) → leb (17 * i + 17) (length now) ≡ t → after ≡ clocks_over (cs ++ (v ∷ [])) lent
      go true q =
          let w : 17 * i + 17 ≤ length now = leb-true (17 * i + 17) (length now) q in
          put w
          ∙ (sym (over-parts (17 * i) (clock_words v) now)
          ∙ (ap (λ (x : List ℕ). over_at (17 * i) (clock_words v) x) g
          ∙ (ap (λ (n : ℕ). over_at (17 * n) (clock_words v) (clocks_over cs lent)) e ∙ clock-in (omega (arith, w, same, e)))))
      go false q =
          let w : length now < 17 * i + 17 = leb-false (17 * i + 17) (length now) q in
          kept w ∙ (g ∙ clock-out (omega (arith, w, same, e)))

module _ (l : List Clock) (lent : List ℕ) where
  pub clocks-none : lent ≡ clocks_over (take 0 l) lent
  unfolding clocks_over
  clocks-none = none (length lent / 17)
    where
      none : (k : ℕ) → lent ≡ over (join (map clock_words (take {A = Clock} k []))) lent
      none zero = refl
      none (suc k) = refl

  -- clock i is put in its row, if there is one
  pub clock-entered : (v : Clock) (i : ℕ) (now after : List ℕ) → i < length l → v ≡ get_or l i base
      → (17 * i + 17 ≤ length now → after ≡ with_clock (17 * i) v now) → (length now < 17 * i + 17 → after ≡ now)
      → now ≡ clocks_over (take i l) lent → after ≡ clocks_over (take (i + 1) l) lent
  clock-entered v i now after h e put kept g = clock-behind (take i l) v lent i now after (sym (length-take-le i l (omega arith))) put kept g ∙ ap (λ (k : List Clock). clocks_over k lent) more
    where
      more : take i l ++ (v ∷ []) ≡ take (i + 1) l
      more = ap (λ (y : Clock). take i l ++ (y ∷ [])) e ∙ (sym (take-suc l i base h) ∙ ap (λ (n : ℕ). take n l) (sym (add-one i)))

  -- all of them
  pub clocks-entered : (i : ℕ) (now : List ℕ) → length l ≤ i → now ≡ clocks_over (take i l) lent → now ≡ clocks_over l lent
  clocks-entered i now h g = g ∙ ap (λ (k : List Clock). clocks_over k lent) (take_all i l h)

-- ---- the rows of chains
mapped-item : (f : ℕ → Clock) (o : List ℕ) (i : ℕ) → i < length o → get_or (map f o) i base ≡ f (get_or o i 0)
mapped-item f [] i h = absurd (omega arith)
mapped-item f (x ∷ o) zero h = refl
mapped-item f (x ∷ o) (suc i) h = mapped-item f o i (omega arith)

module _ (f : ℕ → Clock) (chain lent : List ℕ) where
  pub row-entered : (i : ℕ) (v : Clock) (now after : List ℕ) → i < length chain → v ≡ f (get_or chain i 0)
      → (17 * i + 17 ≤ length now → after ≡ with_clock (17 * i) v now) → (length now < 17 * i + 17 → after ≡ now)
      → now ≡ clocks_over (take i (map f chain)) lent → after ≡ clocks_over (take (i + 1) (map f chain)) lent
  row-entered i v now after h e put kept g = clock-entered (map f chain) lent v i now after (omega (arith, h, length-map chain f)) (e ∙ sym (mapped-item f chain i h)) put kept g

  pub rows-entered : (i : ℕ) (now : List ℕ) → length chain ≤ i → now ≡ clocks_over (take i (map f chain)) lent → now ≡ clocks_over (map f chain) lent
  rows-entered i now h g = clocks-entered (map f chain) lent i now (omega (arith, h, length-map chain f)) g

-- the rows are these chains
module _ (f : ℕ → Clock) (chain : List ℕ) (cs : List Clock) (h : map f chain ≡ cs) where
  pub chains-many : length chain ≡ length cs
  chains-many = sym (length-map chain f) ∙ ap length h

  pub chains-written : (lent now : List ℕ) → now ≡ clocks_over (map f chain) lent → now ≡ clocks_over cs lent
  chains-written lent now e = e ∙ ap (λ (l : List Clock). clocks_over l lent) h

-- ---- the clocks of equations
-- those left, and those written
abbrev pub Entered : List Clock → List ℕ → ℕ → EquationClocks → List ℕ → Type 0
Entered all lent i s now = Walked all (λ cs. now ≡ clocks_over cs lent) i s

pub entered-more : (all : List Clock) (lent : List ℕ) {i : ℕ} {s : EquationClocks} {now : List ℕ} (h : Entered all lent i s now) (t : EquationClocks) (n j : ℕ) (c : value.Clock) (after : List ℕ) → GivesClock s (Some c) t → j ≡ i → n ≡ i + 1
    → (17 * j + 17 ≤ length now → after ≡ with_clock (17 * j) (value_of c) now) → (length now < 17 * j + 17 → after ≡ now) → Entered all lent n t after
entered-more all lent {now = now} h t n j c after g e k put kept = walked-more h t n c g k (clock-behind h.so_far (value_of c) lent j now after (e ∙ h.many) put kept h.holds)

-- ---- faults
-- one record more behind others that stand over the front of a list, if there is a place for it
pub set-behind : (l : List FaultRecord) (a : FaultRecord) (lent : List FaultRecord) (m : ℕ) (now : List FaultRecord) → m ≡ length l → now ≡ over l lent → set now m a ≡ over (l ++ (a ∷ [])) lent
set-behind l a lent m now e g =
    let n : m ≡ 0 + length l = omega (arith, e) in
    sym (over-set m a now)
    ∙ (ap (λ (s : List FaultRecord). over_at m (a ∷ []) s) (g ∙ sym (over-front l lent))
    ∙ (ap (λ (j : ℕ). over_at j (a ∷ []) (over_at 0 l lent)) n
    ∙ (over-then 0 l (a ∷ []) lent
    ∙ over-front (l ++ (a ∷ [])) lent)))

-- the records of some faults are in the list, and those of the others, put behind them, make it that of all
pub record FaultsPut (node : ℕ) (all : List NodeFault) (lent : List FaultRecord) (left : List NodeFault) (l : FaultList) : Type 0 where
  pub total : l.count + length left ≡ length all
  pub put : over_at l.count (map (fault_record node) left) l.records.now ≡ over (map (fault_record node) all) lent

module _ (node : ℕ) (all : List NodeFault) (lent : List FaultRecord) where
  pub faults-none : (l : FaultList) → l.count ≡ 0 → l.records.now ≡ lent → FaultsPut node all lent all l
  faults-none l z w = record { total = omega (arith, z); put = rw (z, w) (over-front (map (fault_record node) all) lent) }

  pub fault-written : (l l₁ : FaultList) (f : NodeFault) (rest : List NodeFault) → length all ≤ last_place → FaultsPut node all lent (f ∷ rest) l → Pushed (fault_record node f) l l₁ → FaultsPut node all lent rest l₁
  fault-written l l₁ f rest few h p =
      let a = fault_record node f in
      let more = map (fault_record node) rest in
      let n : l₁.count ≡ l.count + 1 = omega (arith, p.next, h.total, few) in
      record {
        total = omega (arith, n, h.total);
        put =
            ap (λ (j : ℕ). over_at j more l₁.records.now) n
            ∙ (ap (λ (s : List FaultRecord). over_at (l.count + 1) more s) (p.put ∙ sym (over-set l.count a l.records.now))
            ∙ (over-then l.count (a ∷ []) more l.records.now ∙ h.put));
      }

  pub faults-all : (l : FaultList) → FaultsPut node all lent [] l → (l.count ≡ length all) × (l.records.now ≡ over (map (fault_record node) all) lent)
  faults-all l h = (omega (arith, h.total), sym (over_nothing l.count l.records.now) ∙ h.put)

-- there are no more faults than rows
pub faults-few : (t : List ℕ) (n : ℕ) → n ≤ last_place → length (clock_faults (findings_in t n)) ≤ last_place
faults-few t n h = omega (arith, h, few-faults (findings_in t n), length_from t 0 n)

-- ---- a node
-- tables that have room for chains have it for as many as were found
pub chain-room : {table rows chain : List ℕ} → Ample table rows chain → (m : ℕ) → 38 * m ≤ length table → ChainRoom m rows chain × (m ≤ 4096)
chain-room a m h = let w = ample-room _ _ _ a m _ refl h in (record { rowed = w.0; placed = w.1; numbered = omega (arith, w.2) }, w.2)

counts_same : (a a' b b' c c' d d' e e' : ℕ) → a ≡ a' → b ≡ b' → c ≡ c' → d ≡ d' → e ≡ e'
    → ◌≡◌ {A = NodeCounts} (record { name = a; passes = b; equations = c; chains = d; faults = e }) (record { name = a'; passes = b'; equations = c'; chains = d'; faults = e' })
counts_same a a' b b' c c' d d' e e' p q r s t = rw (p, q, r, s, t)

module _ (letters : ℕ → Letters) (s : Source) (t sites : List ℕ) (told : ToldNode) (n : ClockedNode) (z : NodeWithClocks s t sites told n) where
  pub node-written : (es cs : List ℕ) (fs : List FaultRecord) (es' cs' : List ℕ) (fs' : List FaultRecord) (r : NodeCounts)
      → ((M : ℕ) (ks : List Clocked) (q : ℕ) → EquationsOn M s.tags.now s.values.now sites ks told.layout.equations.at q → length ks ≡ told.layout.equations.count → es' ≡ clocks_over (map (λ (c : Clocked). c.clock) ks) es)
      → r ≡ found_counts letters t told → cs' ≡ clocks_over (chains letters (findings_in t told.clocked.findings)) cs → fs' ≡ over (map (fault_record told.number) (clock_faults (findings_in t told.clocked.findings))) fs
      → Written told.number (node_clocks letters n) es cs fs es' cs' fs' r
  unfolding node_clocks
  node-written es cs fs es' cs' fs' r E R C F =
      let k = n.clocking in
      let many : length k.equations ≡ told.layout.equations.count = node-many n.node n.clocking z.formed ∙ sym z.laid.equations.many in
      let all = z.tells.all in
      record {
        counts =
            R
            ∙ counts_same _ _ _ _ _ _ _ _ _ _ z.laid.named (sym z.tells.made) (sym many ∙ sym (length-map k.equations (λ (c : Clocked). c.clock))) (ap (λ (l : List Finding). length (chains letters l)) all) (ap (λ (l : List Finding). length (clock_faults l)) all);
        equations = E s.names k.equations told.layout.equations.end z.tells.on many;
        chains = C ∙ ap (λ (l : List Finding). clocks_over (chains letters l) cs) all;
        faults = F ∙ ap (λ (l : List Finding). over (map (fault_record told.number) (clock_faults l)) fs) all;
      }
