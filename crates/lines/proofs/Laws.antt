-- The lines of a node's listing, one behind another. Assumes nothing.
use mathlib.Core.Path.{◌≡◌, refl, sym, ◌∙◌, ap}
use mathlib.Core.List.{List, [], ◌∷◌, ◌++◌, map}
use mathlib.Core.Option.{Option}
use Prim.Native.Nat.{ℕ, suc, ◌+◌, ◌<◌}
use native.Mathlib.Numerals.{add-one}
use lib.ListN.{length, get_or, take, length-map}
use lib.Seq.{take-suc}
use Rattle.std.proofs.lemmas.List.{map-append}
use Rattle.definitions.specs.Lists.{join, numbered, Letters}
use Rattle.definitions.specs.Tree.{Equation, Node}
use Rattle.definitions.specs.Clock.{Clock}
use Rattle.definitions.specs.InferClocks.{Formed, deep, formed, ◌>>=◌, Natural, Clocks, Clocked, Clocking, Finding, natural, or_base, clocked_by, clocking, chains, clock_faults}
use Rattle.definitions.specs.Texts.{fault_line}
use Rattle.definitions.specs.Answer.{node_clocks, node_listing}
use Rattle.shapes.proofs.Formed.{clocked}
use Rattle.clock_tables.specs.Value.{value_of}
use Rattle.clock_tables.specs.declared.clock.Clock as value
use Rattle.std.specs.Prelude.{Some}
use Rattle.findings.specs.Findings.{findings_in}
use Rattle.spelling.specs.Places.{letters_in}
use Rattle.chain_order.specs.Order.{row_of, ordered_clocks}
use Rattle.chain_order.specs.declared.OrderedClocks.{OrderedClocks}
use Rattle.definitions.specs.Output.{ClockedNode}
use Rattle.skeleton.specs.Sites.{EquationsOn}
use Rattle.spelling.specs.Written.{Wrote}
use Rattle.spelling.specs.declared.text_writer.TextWriter.{TextWriter}
use Rattle.lines.specs.Pieces.{head_line, equation_line, chain_line}
use Rattle.lines.specs.declared.ListedNode.{ListedNode}
use Rattle.lines.specs.declared.NamedText.{NamedText}
use Rattle.lines.specs.Spelled.{Spells}
use Rattle.lines.specs.Listed.{Lists, AreChains, listed}
use Rattle.lines.specs.Walk.{GivesClock}
use Rattle.lines.specs.declared.equation_clocks.EquationClocks.{EquationClocks}
use Rattle.lines.proofs.Walks.{Walked, walked-more}
use Rattle.lines.proofs.Listing.{put-numbered}
use Rattle.lines.proofs.Spelled.{spells_then, spells_as, spells_none, line_more, listing_spelled}

-- ---- a line for each chain
module _ (f : ℕ → Clock) (o : List ℕ) (w : NamedText) where
  pub chains-none : Spells (λ n. join (map (chain_line n) (map f (take 0 o)))) w w
  chains-none = spells_none w

  pub chains-more : (i : ℕ) (c : Clock) {w₁ w₂ : NamedText} → i < length o → c ≡ f (get_or o i 0)
      → Spells (λ n. join (map (chain_line n) (map f (take i o)))) w w₁ → Spells (λ n. chain_line n c) w₁ w₂ → Spells (λ n. join (map (chain_line n) (map f (take (i + 1) o)))) w w₂
  chains-more i c h e u v =
      let g : map f (take i o) ++ (c ∷ []) ≡ map f (take (i + 1) o) =
      ap (λ (x : Clock). map f (take i o) ++ (x ∷ [])) e ∙ sym (map-append f (take i o) (get_or o i 0 ∷ [])) ∙ ap (map f) (sym (take-suc o i 0 h)) ∙ ap (λ (k : ℕ). map f (take k o)) (sym (add-one i)) in
      spells_as (λ n. ap (λ (l : List Clock). join (map (chain_line n) l)) g) (line_more chain_line (map f (take i o)) c u v)

-- ---- a line for each equation
module _ (clocks : Clocks) where
  -- an equation with its clock, before others
  clocked-cons : (e : Equation) (es : List Equation) (cs : List Clocked) → clocked_by clocks (e ∷ es) ≡ formed cs
      → (o : Option Clock) × (ds : List Clocked) × (natural clocks e.right ≡ formed o) × (clocked_by clocks es ≡ formed ds) × (cs ≡ record { clock = or_base o; equation = e } ∷ ds)
  unfolding clocked_by
  clocked-cons e es cs h = go (natural clocks e.right) (clocked_by clocks es) refl refl h
    where
      go : (v : Natural) (w : Formed (List Clocked)) → natural clocks e.right ≡ v → clocked_by clocks es ≡ w → (v >>= λ o. w >>= λ rest. formed (record { clock = or_base o; equation = e } ∷ rest)) ≡ formed cs
          → (o : Option Clock) × (ds : List Clocked) × (natural clocks e.right ≡ formed o) × (clocked_by clocks es ≡ formed ds) × (cs ≡ record { clock = or_base o; equation = e } ∷ ds)
      go deep w a b k = absurd cc
      go (formed o) deep a b k = absurd cc
      go (formed o) (formed ds) a b k = let x : cs ≡ record { clock = or_base o; equation = e } ∷ ds = cc in (o, ds, a, b, x)

  clocked-nil : (cs : List Clocked) → clocked_by clocks [] ≡ formed cs → cs ≡ []
  unfolding clocked_by
  clocked-nil cs h = cc

  -- as many clocks as equations
  pub clocked-many : (es : List Equation) (cs : List Clocked) → clocked_by clocks es ≡ formed cs → length (map (λ (c : Clocked). c.clock) cs) ≡ length es
  clocked-many [] cs h = ap (λ (l : List Clocked). length (map (λ (c : Clocked). c.clock) l)) (clocked-nil cs h)
  clocked-many (e ∷ es) cs h =
      let a = clocked-cons e es cs h in
      ap (λ (l : List Clocked). length (map (λ (c : Clocked). c.clock) l)) a.4 ∙ ap suc (clocked-many es a.1 a.3)

-- the lines so far, and the equations left; all clocks are `all`
abbrev pub Lines : (ℕ → Clock → Letters) → TextWriter → TextWriter → List Clock → ℕ → EquationClocks → Type 0
Lines line w w₁ all i s = Walked all (λ cs. Wrote (join (numbered line 0 cs)) w w₁) i s

pub lines_step : (line : ℕ → Clock → Letters) (w : TextWriter) (all : List Clock) {i : ℕ} {s : EquationClocks} {w₁ : TextWriter} (h : Lines line w w₁ all i s) (t : EquationClocks) (n j : ℕ) (c : value.Clock) {w₂ : TextWriter}
    → GivesClock s (Some c) t → j ≡ i → n ≡ i + 1 → Wrote (line j (value_of c)) w₁ w₂ → Lines line w w₂ all n t
lines_step line w all h t n j c g e k u = walked-more h t n c g k (put-numbered line h.so_far j (value_of c) (e ∙ h.many) h.holds u)

-- ---- a node
-- as many clocks as the node has equations
pub node-many : (n : Node) (k : Clocking) → clocking n ≡ formed k → length k.equations ≡ length n.equations
node-many n k h = sym (length-map k.equations (λ (c : Clocked). c.clock)) ∙ clocked-many k.names n.equations k.equations (clocked n k h)

head-same : (letters : ℕ → Letters) (a a' b b' c c' d d' : ℕ) → a ≡ a' → b ≡ b' → c ≡ c' → d ≡ d' → head_line letters a b c d ≡ head_line letters a' b' c' d'
head-same letters a a' b b' c c' d d' e f g h = rw (e, f, g, h)

-- the head, the lines of equations, chains and faults are the node's listing
pub node-put : (l : ListedNode) (o : OrderedClocks) (n : ClockedNode) {w w₁ w₂ w₃ w₄ : NamedText} → w.spelling ≡ l.named.spelling → Lists l n → AreChains l o
    → Spells (λ s. head_line s l.told.layout.name l.told.layout.equations.count l.told.clocked.passes (length o.order.now)) w w₁
    → ((M : ℕ) (cs : List Clocked) (q : ℕ) → EquationsOn M l.named.source.tags.now l.named.source.values.now l.sites.now cs l.told.layout.equations.at q → length cs ≡ l.told.layout.equations.count → Spells (λ s. join (numbered (equation_line s) 0 (map (λ (c : Clocked). c.clock) cs))) w₁ w₂)
    → Spells (λ s. join (map (chain_line s) (ordered_clocks o))) w₂ w₃
    → Spells (λ s. join (map (fault_line s l.told.number) (clock_faults (findings_in l.table.now l.told.clocked.findings)))) w₃ w₄
    → Wrote (listed l n) w.text.now w₄.text.now
unfolding node_listing node_clocks
node-put l o n {w} {w₄ = w₄} same h e u v x y =
    let letters = letters_in l.named.spelling in
    let told = l.told in
    let k = n.clocking in
    let clocks = map (λ (c : Clocked). c.clock) k.equations in
    let ch : ordered_clocks o ≡ chains letters k.findings = e ∙ ap (chains letters) h.tells.all in
    let all : length k.equations ≡ told.layout.equations.count = node-many n.node k h.formed ∙ sym h.laid.equations.many in
    let many : told.layout.equations.count ≡ length clocks = sym all ∙ sym (length-map k.equations (λ (c : Clocked). c.clock)) in
    let few : length o.order.now ≡ length (chains letters k.findings) = sym (length-map o.order.now (row_of o.rows.now)) ∙ ap length ch in
    let whole =
    spells_then
    (listing_spelled n.node.name k.passes clocks (chains letters k.findings)
    (spells_as (λ s. head-same s _ _ _ _ _ _ _ _ h.laid.named many (sym h.tells.made) few) u)
    (v l.named.source.names k.equations told.layout.equations.end h.tells.on all)
    (spells_as (λ s. ap (λ (l : List Clock). join (map (chain_line s) l)) ch) x))
    (spells_as (λ s. ap (λ (l : List Finding). join (map (fault_line s told.number) (clock_faults l))) h.tells.all) y) in
    rw same at whole.wrote
