-- A node's listing can be measured. Assumes nothing.
use mathlib.Core.Path.{◌≡◌, refl, ap}
use mathlib.Core.List.{List, [], ◌∷◌, ◌++◌, map}
use mathlib.Core.Bool.{Bool, true, false}
use Prim.Native.Nat.{ℕ, zero, suc, ◌+◌, ◌-◌, ◌*◌, ◌≤◌, Ordering}
use native.Mathlib.Omega.{arith}
use lib.ListN.{length, get_or, length-append, length-map}
use lib.Dec.{eqb, ltb}
use Rattle.definitions.specs.Lists.{choose, join, numbered, Letters}
use Rattle.definitions.specs.Tokens.{TagValue}
use Rattle.definitions.specs.Bytes.{tokens}
use Rattle.definitions.specs.Tree.{Equation}
use Rattle.definitions.specs.Reading.{got, times}
use Rattle.definitions.specs.Grammar.{equation}
use Rattle.definitions.specs.Clock.{Clock, depth, chain_order, insert, in_chain_order}
use Rattle.definitions.specs.InferClocks.{Clocked, Finding, left_elsewhere, used_elsewhere, when_elsewhere, clock_name_elsewhere, found, site, too_deep, chains, sites, clock_faults}
use Rattle.definitions.specs.Texts.{listing, fault_line}
use Rattle.definitions.specs.Answer.{node_clocks, node_listing}
use Rattle.grammar.proofs.Laws.{tokens-length}
use Rattle.grammar.proofs.Got.{times-cons}
use Rattle.grammar.proofs.Longer.{times-keeps, keeps, equation-grows}
use Rattle.clock_tables.specs.Flat.{test_of, clock_in}
use Rattle.clock_tables.proofs.FlatLaws.{depth-in}
use Rattle.findings.specs.Findings.{fault_as, fault_in, findings_from, findings_in}
use Rattle.findings.proofs.Laws.{length_from}
use Rattle.spelling.specs.Places.{letters_in}
use Rattle.chain_order.specs.Order.{row_of}
use Rattle.skeleton.specs.Sites.{EquationsOn}
use Rattle.spelling.specs.Writing.{farthest}
use Rattle.infer_clocks.proofs.Laws.{few-sites}
use Rattle.lines.specs.Pieces.{head_line, equation_line, chain_line}
use Rattle.lines.proofs.Pieces.{listing-pieces}
use Rattle.lines.proofs.TextsLengths.{IsShallow, name-length, head-length, equation-length, chain_length, line-length, Within, join-length}
use Rattle.lines.specs.declared.ListedNode.{ListedNode}
use Rattle.lines.specs.Low.{Low}
use Rattle.lines.specs.Listed.{Lists, AreChains, IsSmall, listed}
use Rattle.definitions.specs.Output.{ClockedNode}
use Rattle.chain_order.specs.declared.OrderedClocks.{OrderedClocks}
use Rattle.lines.proofs.Laws.{node-many}

-- ---- how many
numbered-length : {A B : Type 0} (f : ℕ → A → B) (k : ℕ) (l : List A) → length (numbered f k l) ≡ length l
numbered-length f k [] = refl
numbered-length f k (a ∷ l) = ap suc (numbered-length f (suc k) l)

pub few-faults : (l : List Finding) → length (clock_faults l) ≤ length l
unfolding clock_faults
few-faults [] = omega arith
few-faults (found f ∷ l) = omega (arith, few-faults l)
few-faults (site c ∷ l) = omega (arith, few-faults l)
few-faults (too_deep ∷ l) = omega (arith, few-faults l)

module _ (letters : ℕ → Letters) where
  few-inserted : (c : Clock) (l : List Clock) → length (insert letters c l) ≤ suc (length l)
  unfolding insert
  few-inserted c [] = omega arith
  few-inserted c (d ∷ ds) = go (chain_order letters c d) (few-inserted c ds)
    where
      go : (o : Ordering) → length (insert letters c ds) ≤ suc (length ds) → length {A = Clock} (elim o [ Ordering.lt ↦ c ∷ d ∷ ds | Ordering.eq ↦ d ∷ ds | Ordering.gt ↦ d ∷ insert letters c ds ]) ≤ suc (suc (length ds))
      go Ordering.lt h = omega arith
      go Ordering.eq h = omega arith
      go Ordering.gt h = omega arith

  few-ordered : (l : List Clock) → length (in_chain_order letters l) ≤ length l
  unfolding in_chain_order
  few-ordered [] = omega arith
  few-ordered (c ∷ l) = omega (arith, few-ordered l, few-inserted c (in_chain_order letters l))

  few-chains : (l : List Finding) → length (chains letters l) ≤ length l
  unfolding chains
  few-chains l = omega (arith, few-ordered (sites l), few-sites l)

-- equations take tokens
module _ (M : ℕ) (ts : List TagValue) where
  times-many : (k p : ℕ) (es : List Equation) (q : ℕ) → times k (equation M) ts p ≡ got es q → p + k ≤ q
  times-many zero p es q g = omega (arith, (times-keeps (equation M) (keeps _ (equation-grows M)) zero ts p es q g).0)
  times-many (suc k) p es q g =
      let c = times-cons (equation M) ts (suc k) p es q (λ y. omega (arith, y)) g in
      let e : suc k - 1 ≡ k = omega arith in
      let h : times k (equation M) ts c.1 ≡ got c.2 q = rw e at c.4 in
      omega (arith, (equation-grows M ts p c.0 c.1 c.3).0, times-many k c.1 c.2 q h)

  few-equations : (k p : ℕ) (es : List Equation) (q : ℕ) → times k (equation M) ts p ≡ got es q → k ≤ length ts
  few-equations k p es q g = omega (arith, times-many k p es q g, (times-keeps (equation M) (keeps _ (equation-grows M)) k ts p es q g).1)

-- ---- how long
low-rows : (rows o : List ℕ) → Low (map (row_of rows) o)
unfolding Low
low-rows rows [] = tt
low-rows rows (x ∷ o) = (omega (arith, depth-in rows (17 * x)), low-rows rows o)

shallow-in : (k x w : ℕ) (c d : Clock) → depth c ≤ 8 → depth d ≤ 8 → IsShallow (fault_as k x w c d)
unfolding IsShallow
shallow-in k x w c d h g = go (eqb k 1) (eqb k 2) (eqb k 3)
  where
    go : (a b e : Bool) → IsShallow (choose a (left_elsewhere x c d (eqb w 1)) (choose b (used_elsewhere x c d) (choose e (when_elsewhere (record { name = x; test = test_of w }) d) (clock_name_elsewhere x c d))))
    go true b e = (h, g)
    go false true e = (h, g)
    go false false true = g
    go false false false = (h, g)

module _ (letters : ℕ → Letters) (short : (x : ℕ) → length (letters x) ≤ 16384) where
  equations-within : (k : ℕ) (cs : List Clock) → Low cs → Within 131114 (numbered (equation_line letters) k cs)
  unfolding Within Low
  equations-within k [] h = tt
  equations-within k (c ∷ cs) h = (omega (arith, equation-length letters 16384 short k c h.0), equations-within (suc k) cs h.1)

  chains-within : (cs : List Clock) → Low cs → Within 131099 (map (chain_line letters) cs)
  unfolding Within Low
  chains-within [] h = tt
  chains-within (c ∷ cs) h = (omega (arith, chain_length letters 16384 short c h.0), chains-within cs h.1)

  faults-within : (t : List ℕ) (j i n : ℕ) → Within 278998 (map (fault_line letters j) (clock_faults (findings_from t i n)))
  unfolding Within findings_from clock_faults
  faults-within t j i zero = tt
  faults-within t j i (suc n) = go (ltb (get_or t (38 * i) 0) 5) (eqb (get_or t (38 * i) 0) 5) (faults-within t j (i + 1) n)
    where
      deep-enough : (b : ℕ) → depth (clock_in t b) ≤ 8
      deep-enough b = omega (arith, depth-in t b)

      go : (x y : Bool) → Within 278998 (map (fault_line letters j) (clock_faults (findings_from t (i + 1) n)))
          → Within 278998 (map (fault_line letters j) (clock_faults (choose x (found (fault_in t (38 * i))) (choose y (site (clock_in t (38 * i + 21))) too_deep) ∷ findings_from t (i + 1) n)))
      go true y h =
          (omega (arith, line-length letters 16384 short j (fault_in t (38 * i)) (shallow-in (get_or t (38 * i) 0) (get_or t (38 * i + 1) 0) (get_or t (38 * i + 2) 0) (clock_in t (38 * i + 4)) (clock_in t (38 * i + 21)) (deep-enough (38 * i + 4)) (deep-enough (38 * i + 21)))), h)
      go false true h = h
      go false false h = h

  -- the parts of a listing
  parts-fit : (i name passes f : ℕ) (es cs : List Clock) (t : List ℕ) → Low es → Low cs → length es ≤ 4096 → length cs ≤ 4096 → f ≤ 4096
      → length (listing letters name passes es cs ++ join (map (fault_line letters i) (clock_faults (findings_in t f)))) ≤ farthest
  parts-fit i name passes f es cs t a b k m h =
      let head = head_line letters name (length es) passes (length cs) in
      let first = join (numbered (equation_line letters) 0 es) in
      let second = join (map (chain_line letters) cs) in
      let third = join (map (fault_line letters i) (clock_faults (findings_in t f))) in
      let e₁ = join-length 131114 (numbered (equation_line letters) 0 es) (equations-within 0 es a) in
      let e₂ = join-length 131099 (map (chain_line letters) cs) (chains-within cs b) in
      let e₃ = join-length 278998 (map (fault_line letters i) (clock_faults (findings_in t f))) (faults-within t i 0 f) in
      let n₃ = length-map (clock_faults (findings_in t f)) (fault_line letters i) in
      omega (
        arith,
        k,
        m,
        h,
        ap length (listing-pieces letters name passes es cs),
        length-append (listing letters name passes es cs) third,
        length-append head (first ++ second),
        length-append first second,
        head-length letters 16384 short name (length es) passes (length cs),
        e₁,
        e₂,
        e₃,
        numbered-length (equation_line letters) 0 es,
        length-map cs (chain_line letters),
        n₃,
        few-faults (findings_in t f),
        length_from t 0 f,
      )

-- clocks that were read out of rows are low
low-read : (M : ℕ) (gs vs sites : List ℕ) (cs : List Clocked) (p q : ℕ) → EquationsOn M gs vs sites cs p q → Low (map (λ (c : Clocked). c.clock) cs)
unfolding Low EquationsOn
low-read M gs vs sites [] p q h = tt
low-read M gs vs sites (c ∷ cs) p q h = (omega (arith, ap depth h.2, depth-in sites (17 * p)), low-read M gs vs sites cs h.0 q h.3)

-- the listing of a node within a sheet's limits
pub node-fits : (l : ListedNode) (o : OrderedClocks) (n : ClockedNode) → Lists l n → AreChains l o → IsSmall l → length (listed l n) ≤ farthest
unfolding node_listing node_clocks
node-fits l o n h e small =
    let letters = letters_in l.named.spelling in
    let t = l.table.now in
    let k = n.clocking in
    let told = l.told in
    let tags = l.named.source.tags.now in
    let values = l.named.source.values.now in
    let short : (j : ℕ) → length (letters j) ≤ 16384 = λ j. omega (arith, name-length l.named.spelling.starts.now l.named.spelling.letters.now j, small.short.few-letters) in
    let b : Low (map (λ (c : Clocked). c.clock) k.equations) = low-read l.named.source.names tags values l.sites.now k.equations told.layout.equations.at told.layout.equations.end h.tells.on in
    let c : Low (chains letters (findings_in t told.clocked.findings)) = rw e at (low-rows o.rows.now o.order.now) in
    let d : length (map (λ (c : Clocked). c.clock) k.equations) ≤ 4096 =
    omega (arith, length-map k.equations (λ (c : Clocked). c.clock), node-many n.node k h.formed, h.laid.equations.many, few-equations l.named.source.names (tokens tags values) told.layout.equations.count told.layout.equations.at n.node.equations told.layout.equations.end h.laid.equations.items, tokens-length tags values l.named.source.same_length, small.short.few-tokens) in
    let g : length (chains letters (findings_in t told.clocked.findings)) ≤ 4096 = omega (arith, few-chains letters (findings_in t told.clocked.findings), length_from t 0 told.clocked.findings, small.findings) in
    let r = parts-fit letters short told.number n.node.name k.passes told.clocked.findings (map (λ (c : Clocked). c.clock) k.equations) (chains letters (findings_in t told.clocked.findings)) t b c d g small.findings in
    rw h.tells.all at r
