-- What was read stands where it was read as the tokens that it is written as.
-- Assumes nothing.
use mathlib.Core.Path.{◌≡◌, refl, sym, ◌∙◌, ap, ap₂, subst}
use mathlib.Core.List.{List, [], ◌∷◌, ◌++◌, map, append_assoc}
use mathlib.Core.Bool.{Bool, true, false}
use Prim.Native.Nat.{ℕ, zero, suc, min, ◌+◌, ◌-◌, ◌≤◌, ◌<◌}
use Rattle.std.proofs.Math.Nat.{min-eq_left}
use native.Mathlib.Omega.{arith}
use lib.ListN.{length, get_or, take, drop, length-append, length-drop}
use lib.Seq.{take-append_seam}
use lib.Dec.{ltb}
use borrow.Author.Tests.{ltb-true, ltb-false}
use Rattle.definitions.specs.declared.NodeKind.{NodeKind}
use Rattle.definitions.specs.declared.Token.{Token}
use Rattle.definitions.specs.Bytes.{tokens}
use Rattle.definitions.specs.Lists.{join}
use Rattle.definitions.specs.Tokens.{TagValue, code_of}
use Rattle.definitions.specs.Tree.{Declared, TypeDef, Equation, Probe, Node, Sheet}
use Rattle.definitions.specs.Reading.{Got, got, Reader, times}
use Rattle.definitions.specs.Grammar.{declaration, type_def, equation, probe}
use Rattle.definitions.specs.Output.{declared_tokens, counted_tokens, equation_tokens, probe_tokens, definition_tokens, node_tokens}
use Rattle.shapes.specs.Shape.{All, Word, ShapedDeclared, ShapedEquation, ShapedProbe, ShapedDefinition}
use Rattle.shapes.proofs.Facts.{all_nil, all_cons}
use Rattle.shapes.proofs.Gives.{Gives, gives, refuses, Stands, times-gives}
use Rattle.shapes.proofs.ReadBytes.{tokens-wide}
use Rattle.shapes.proofs.ReadShape.{declaration-read, type_def-read, equation-read, probe-read}
use Rattle.grammar.proofs.Laws.{tokens-length, after-got}
use Rattle.grammar.proofs.Longer.{Grows, keeps, times-keeps, declaration-grows, definition-grows, equation-grows, probe-grows}
use Rattle.layout.specs.declared.Span.{Span}
use Rattle.layout.specs.declared.NodeLayout.{NodeLayout}
use Rattle.layout.specs.declared.SheetLayout.{SheetLayout}
use Rattle.layout.specs.Spans.{Spans}
use Rattle.layout.specs.Laid.{LaidNode, LaidSheet}
use Rattle.emit.specs.declared.output.Output.{Output}
use Rattle.emit.specs.Out.{puts, emits}
use Rattle.emit.proofs.Laws.{emits-append, emits-codes}
use Rattle.emit.specs.Copies.{Copies, Words}

-- ---- copying
-- one after the other
pub after : (o o₁ o₂ : Output) (a b : List Token) → o₁ ≡ emits o a → o₂ ≡ emits o₁ b → o₂ ≡ emits o (a ++ b)
after o o₁ o₂ a b e f = f ∙ (ap (λ (x : Output). emits x b) e ∙ emits-append o a b)

-- the values of a slice of words are words
pub all_words : (ts vs : List ℕ) → ((i : ℕ) → get_or vs i 0 < 4294967296) → Words (tokens ts vs)
all_words ts vs h = tokens-wide ts vs (go vs h)
  where
    go : (l : List ℕ) → ((i : ℕ) → get_or l i 0 < 4294967296) → All Word l
    go [] f = all_nil Word
    go (x ∷ l) f = all_cons Word x l (f 0) (go l (λ i. f (suc i)))

module _ (tags vs : List ℕ) (l : List Token) (p q : ℕ) (c : Copies (tokens tags vs) l p q) (o : Output) where
  -- nothing stands behind the end
  pub copy-outside : length vs ≡ length tags → length tags < q → o ≡ emits o l
  unfolding puts
  copy-outside e k = go (ltb p q) refl
    where
      go : (b : Bool) → ltb p q ≡ b → o ≡ emits o l
      go true h = absurd (omega (arith, ltb-true p q h, tokens-length tags vs e, c.within (ltb-true p q h), k))
      go false h =
          let z : q - p ≡ 0 = omega (arith, ltb-false p q h) in
          emits-codes o [] l (sym (ap (λ (k : ℕ). take k (drop p (tokens tags vs))) z) ∙ c.same (λ u. absurd (omega (arith, u, ltb-false p q h))))

  pub copy-all : (p < q → Words (tokens tags vs)) → (o₁ : Output) → o₁ ≡ puts o (take (q - p) (drop p (tokens tags vs))) → o₁ ≡ emits o l
  copy-all w o₁ e = e ∙ emits-codes o _ l (c.same w)

-- ---- what was read stands there
-- what holds of what a reading yields
given : {A : Type 0} {Q : A → ℕ → Type 0} {g : Got A} → Gives Q g → (a : A) (q : ℕ) → g ≡ got a q → Q a q
given refuses a q e = absurd cc
given {A} {Q} (gives {a = b} {p = r} u) a q e =
    let x : b ≡ a = cc in
    let y : r ≡ q = cc in
    subst (λ (z : ℕ). Q a z) y (subst (λ (z : A). Q z r) x u)

-- of items that end where they begin there are none
none-stand : {A : Type 0} (R : Reader A) → Grows R → (n : ℕ) (ts : List TagValue) (l : List A) (p q : ℕ) → times n R ts p ≡ got l q → q ≤ p → l ≡ []
unfolding times
none-stand R h zero ts l p q g e = cc
none-stand R h (suc n) ts l p q g e =
    let a = after-got (R ts p) _ l q g in
    let b = after-got (times n R ts a.1) _ l q a.3 in
    let last : b.1 ≡ q = cc in
    absurd (omega (arith, h ts p a.0 a.1 a.2, times-keeps R (keeps R h) n ts a.1 b.0 b.1 b.2, last, e))

-- tokens that stand from p up to q are copied from there
stood : (ts : List TagValue) (l : List Token) (p q : ℕ) → p ≤ q → q ≤ p + (length ts - p) → Stands ts l p q → take (q - p) (drop p ts) ≡ map code_of l
stood ts l p q a b s =
    let n : length (map code_of l) + (length ts - q) ≡ length ts - p = simp (length-append, length-drop) at (ap length s.stand) in
    let m : q - p ≡ length (map code_of l) = omega arith in
    rw (m, ← s.stand) (take-append_seam (map code_of l) (drop q ts))

-- items that stand behind one another
module _ {A : Type 0} (R : Reader A) (grows-R : Grows R) (P : A → Type 0) (f : A → List Token) (ts : List TagValue) (read : Words ts → (p : ℕ) → Gives (λ a q. P a × Stands ts (f a) p q) (R ts p)) where
  items : (l : List A) (s : Span) → Spans R ts l s → Copies ts (join (map f l)) s.at s.end
  items l s g = record { within = λ h. omega (arith, k, h); same = go (ltb s.at s.end) refl }
    where
      k : (s.at ≤ s.end) × (s.end ≤ s.at + (length ts - s.at))
      k = times-keeps R (keeps R grows-R) s.count ts s.at l s.end g.items

      go : (b : Bool) → ltb s.at s.end ≡ b → (s.at < s.end → Words ts) → take (s.end - s.at) (drop s.at ts) ≡ map code_of (join (map f l))
      go true e w =
          let u = given (times-gives ts (w (ltb-true s.at s.end e)) P f s.count R (read (w (ltb-true s.at s.end e))) s.at) l s.end g.items in
          stood ts _ s.at s.end k.0 k.1 u.2
      go false e w =
          let z : s.end - s.at ≡ 0 = omega (arith, ltb-false s.at s.end e) in
          let none : l ≡ [] = none-stand R grows-R s.count ts l s.at s.end g.items (ltb-false s.at s.end e) in
          ap (λ (i : ℕ). take i (drop s.at ts)) z ∙ ap (λ (x : List A). map code_of (join (map f x))) (sym none)

module _ (M : ℕ) (ts : List TagValue) where
  same : M ≤ M
  same = omega arith

  pub declared-stand : (l : List Declared) (s : Span) → Spans (declaration M) ts l s → Copies ts (join (map declared_tokens l)) s.at s.end
  declared-stand l s g = items (declaration M) (declaration-grows M) (ShapedDeclared M) declared_tokens ts (λ w. declaration-read M M same ts w) l s g

  pub equations-stand : (l : List Equation) (s : Span) → Spans (equation M) ts l s → Copies ts (join (map equation_tokens l)) s.at s.end
  equations-stand l s g = items (equation M) (equation-grows M) (ShapedEquation M) equation_tokens ts (λ w. equation-read M M same ts w) l s g

  pub probes-stand : (l : List Probe) (s : Span) → Spans (probe M) ts l s → Copies ts (join (map probe_tokens l)) s.at s.end
  probes-stand l s g = items (probe M) (probe-grows M) (ShapedProbe M) probe_tokens ts (λ w. probe-read M M same ts w) l s g

  pub definitions-stand : (l : List TypeDef) (s : Span) → Spans (type_def M) ts l s → Copies ts (join (map (λ d. definition_tokens d.name d.body) l)) s.at s.end
  unfolding definition_tokens
  definitions-stand l s g = items (type_def M) (definition-grows M) (ShapedDefinition M) (λ d. definition_tokens d.name d.body) ts (λ w. type_def-read M M same ts w) l s g

-- ---- parts behind a count
-- what a copy of a span writes
abbrev Wrote : List TagValue → Span → Output → Output → Token → Type 0
Wrote ts s o o₁ head = (l : List Token) → Copies ts l s.at s.end → o₁ ≡ emits o (head ∷ l)

-- the count is the number of what was read
pub counted : (ts : List TagValue) (l : List Token) (s : Span) (n : ℕ) (o o₁ : Output) → s.count ≡ n → Copies ts l s.at s.end → Wrote ts s o o₁ (Token.Count s.count) → o₁ ≡ emits o (Token.Count n ∷ l)
counted ts l s n o o₁ e c f = f l c ∙ ap (λ (k : ℕ). emits o (Token.Count k ∷ l)) e

-- the count with more that follow
pub counted-more : (ts : List TagValue) (l : List Token) (s : Span) (n more r : ℕ) (o o₁ : Output) → s.count ≡ n → r ≡ min (s.count + more) 4294967295 → n + more < 4294967296
    → Copies ts l s.at s.end → Wrote ts s o o₁ (Token.Count r) → o₁ ≡ emits o (Token.Count (n + more) ∷ l)
counted-more ts l s n more r o o₁ e g h c f = f l c ∙ ap (λ (k : ℕ). emits o (Token.Count k ∷ l)) (g ∙ min-eq_left (omega arith) ∙ ap (λ (k : ℕ). k + more) e)

-- ---- a node
module _ (M : ℕ) (ts : List TagValue) (n : Node) (q : ℕ) (l : NodeLayout) (h : LaidNode M ts n q l) where
  pub declared-inputs : (o o₁ : Output) → Wrote ts l.inputs o o₁ (Token.Count l.inputs.count) → o₁ ≡ emits o (counted_tokens declared_tokens n.inputs)
  declared-inputs o o₁ f = counted ts _ l.inputs _ o o₁ h.inputs.many (declared-stand M ts n.inputs l.inputs h.inputs) f

  pub declared-outputs : (o o₁ : Output) → Wrote ts l.outputs o o₁ (Token.Count l.outputs.count) → o₁ ≡ emits o (counted_tokens declared_tokens n.outputs)
  declared-outputs o o₁ f = counted ts _ l.outputs _ o o₁ h.outputs.many (declared-stand M ts n.outputs l.outputs h.outputs) f

  pub declared-locals : (o o₁ : Output) → Wrote ts l.locals o o₁ (Token.Count l.locals.count) → o₁ ≡ emits o (counted_tokens declared_tokens n.locals)
  declared-locals o o₁ f = counted ts _ l.locals _ o o₁ h.locals.many (declared-stand M ts n.locals l.locals h.locals) f

  pub front : (o o₁ o₂ o₃ : Output) → o₁ ≡ emits o (Token.Node l.name ∷ Token.Kind l.kind ∷ [])
      → Wrote ts l.inputs o₁ o₂ (Token.Count l.inputs.count) → Wrote ts l.outputs o₂ o₃ (Token.Count l.outputs.count)
      → o₃ ≡ emits o (Token.Node n.name ∷ Token.Kind n.kind ∷ (counted_tokens declared_tokens n.inputs ++ counted_tokens declared_tokens n.outputs))
  front o o₁ o₂ o₃ a b c =
      after o o₂ o₃ _ _ (after o o₁ o₂ _ _ a (declared-inputs o₁ o₂ b)) (declared-outputs o₂ o₃ c)
      ∙ ap₂ (λ (x : ℕ) (k : NodeKind). emits o (Token.Node x ∷ Token.Kind k ∷ (counted_tokens declared_tokens n.inputs ++ counted_tokens declared_tokens n.outputs))) h.named h.kinded

  pub whole-node : (o o₁ o₂ o₃ o₄ : Output) → o₁ ≡ emits o (Token.Node n.name ∷ Token.Kind n.kind ∷ (counted_tokens declared_tokens n.inputs ++ counted_tokens declared_tokens n.outputs))
      → o₂ ≡ emits o₁ (counted_tokens declared_tokens n.locals) → o₃ ≡ emits o₂ (counted_tokens equation_tokens n.equations) → o₄ ≡ emits o₃ (counted_tokens probe_tokens n.probes) → o₄ ≡ emits o (node_tokens n)
  unfolding node_tokens
  whole-node o o₁ o₂ o₃ o₄ a b c d =
      let i = counted_tokens declared_tokens n.inputs in
      let u = counted_tokens declared_tokens n.outputs in
      let v = counted_tokens declared_tokens n.locals in
      let e = counted_tokens equation_tokens n.equations in
      let p = counted_tokens probe_tokens n.probes in
      after o o₁ o₄ _ _ a (after o₁ o₂ o₄ _ _ b (after o₂ o₃ o₄ _ _ c d))
      ∙ ap (λ (x : List Token). emits o (Token.Node n.name ∷ Token.Kind n.kind ∷ x)) (append_assoc i u (v ++ (e ++ p)))

-- ---- a sheet
pub front-types : (M : ℕ) (ts : List TagValue) (s : Sheet) (l : SheetLayout) (o o₁ o₂ : Output) → LaidSheet M ts s l → Wrote ts l.types o o₁ (Token.Types l.types.count) → o₂ ≡ emits o₁ (Token.Nodes l.nodes.count ∷ [])
    → o₂ ≡ emits o (Token.Types (length s.types) ∷ (join (map (λ d. definition_tokens d.name d.body) s.types) ++ (Token.Nodes (length s.nodes) ∷ [])))
front-types M ts s l o o₁ o₂ h f e =
    after o o₁ o₂ _ _ (f _ (definitions-stand M ts s.types l.types h.types)) e
    ∙ ap₂ (λ (i j : ℕ). emits o (Token.Types i ∷ (join (map (λ d. definition_tokens d.name d.body) s.types) ++ (Token.Nodes j ∷ [])))) h.types.many h.nodes.many
