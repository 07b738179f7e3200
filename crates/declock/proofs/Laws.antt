-- The parts of a rewritten node: its tokens one part after the other, how many new locals and equations there are.
-- Assumes nothing.
use Prim.Native.Nat.{ℕ, zero, suc, ◌+◌, ◌≤◌, Ordering}
use mathlib.Core.Path.{◌≡◌, refl, sym, ap, ap₂, ◌∙◌, subst}
use mathlib.Core.List.{List, [], ◌∷◌, ◌++◌, map, append_assoc}
use mathlib.Core.Option.{none}
use native.Mathlib.Omega.{arith}
use lib.ListN.{length, get_or, length-append, length-map}
use Rattle.std.proofs.lemmas.List.{map-append}
use Rattle.definitions.specs.declared.Token.{Token}
use Rattle.definitions.specs.Lists.{join, Letters}
use Rattle.definitions.specs.Tree.{TypeDef, Equation, Node}
use Rattle.definitions.specs.Clock.{Clock, chain_order, insert, in_chain_order}
use Rattle.definitions.specs.InferClocks.{Clocked}
use Rattle.definitions.specs.Declock.{Stem, ck, first, hold, Hold, nothing_needed}
use Rattle.definitions.specs.Output.{declared_tokens, counted_tokens, equation_tokens, probe_tokens, node_tokens}
use Rattle.chain_order.specs.Order.{picked}
use Rattle.emit.specs.declared.output.Output.{Output}
use Rattle.emit.specs.Out.{emits}
use Rattle.stateless.specs.Need.{Needs}
use Rattle.stateless.specs.Yield.{Ids, old_yield, right_yield}
use Rattle.stateless.specs.Faults.{old_fault}
use Rattle.stateless.specs.Whole.{no_needs, old_needs}
use Rattle.stateless.specs.Locals.{ids_in, Agree, Local, flag_locals, first_locals, hold_locals, local_declared, local_equation, with_locals}
use Rattle.stateless.proofs.Stops.{old-outcome, meets-none}
use Rattle.stateless.proofs.Growth.{leads-self}
use Rattle.stateless.proofs.Yields.{old-yields, old-needs}
use Rattle.stateless.proofs.Nodes.{append-joined}
use Rattle.emit.proofs.NodePartsLaws.{after}
use Rattle.declock.specs.Parts.{front_tokens, body_tokens}

-- ---- the tokens, part by part
-- items of three lists behind one another
joined-three : {A B : Type 0} (f : A → B) (g : B → List Token) (a b c : List A) → join (map g (map f (a ++ (b ++ c)))) ≡ join (map g (map f a)) ++ (join (map g (map f b)) ++ join (map g (map f c)))
joined-three {A} f g a b c = joined-two a (b ++ c) ∙ ap (λ (l : List Token). join (map g (map f a)) ++ l) (joined-two b c)
  where
    joined-two : (a b : List A) → join (map g (map f (a ++ b))) ≡ join (map g (map f a)) ++ join (map g (map f b))
    joined-two a b = ap (λ l. join (map g l)) (map-append f a b) ∙ append-joined g (map f a) (map f b)

-- THE LAW: a node with new locals is its front, its body, its probes
pub node-parts : (n : Node) (new : List Local) (old : List Equation) → node_tokens (with_locals n new old) ≡ front_tokens n new ++ (body_tokens new old ++ counted_tokens probe_tokens n.probes)
unfolding node_tokens with_locals front_tokens body_tokens
node-parts n new old =
    let i = counted_tokens declared_tokens n.inputs in
    let u = counted_tokens declared_tokens n.outputs in
    let v = counted_tokens declared_tokens (n.locals ++ map local_declared new) in
    let r = counted_tokens equation_tokens (map local_equation new ++ old) ++ counted_tokens probe_tokens n.probes in
    ap (λ (l : List Token). Token.Node n.name ∷ Token.Kind n.kind ∷ l)
    (ap (λ (l : List Token). i ++ l) (sym (append_assoc u v r)) ∙ sym (append_assoc i (u ++ v) r))

module _ (n : Node) (a b c : List Local) (o : Output) where
  -- the front: what the node has before its locals, its locals, then the declarations of the new ones
  pub front-written : (o₁ o₂ o₃ o₄ o₅ : Output) (more : ℕ) → more ≡ length (a ++ (b ++ c))
      → o₁ ≡ emits o (Token.Node n.name ∷ Token.Kind n.kind ∷ (counted_tokens declared_tokens n.inputs ++ counted_tokens declared_tokens n.outputs))
      → o₂ ≡ emits o₁ (Token.Count (length n.locals + more) ∷ join (map declared_tokens n.locals))
      → o₃ ≡ emits o₂ (join (map declared_tokens (map local_declared a))) → o₄ ≡ emits o₃ (join (map declared_tokens (map local_declared b)))
      → o₅ ≡ emits o₄ (join (map declared_tokens (map local_declared c))) → o₅ ≡ emits o (front_tokens n (a ++ (b ++ c)))
  unfolding front_tokens
  front-written o₁ o₂ o₃ o₄ o₅ more m e f g h k =
      let i = counted_tokens declared_tokens n.inputs in
      let u = counted_tokens declared_tokens n.outputs in
      let new = a ++ (b ++ c) in
      let own = join (map declared_tokens n.locals) in
      let s : length n.locals + more ≡ length (n.locals ++ map local_declared new) = ap (λ (x : ℕ). length n.locals + x) (m ∙ sym (length-map new local_declared)) ∙ sym (length-append n.locals (map local_declared new)) in
      let t : own ++ (join (map declared_tokens (map local_declared a)) ++ (join (map declared_tokens (map local_declared b)) ++ join (map declared_tokens (map local_declared c)))) ≡ join (map declared_tokens (n.locals ++ map local_declared new)) =
      ap (λ (l : List Token). own ++ l) (sym (joined-three local_declared declared_tokens a b c)) ∙ sym (append-joined declared_tokens n.locals (map local_declared new)) in
      after o o₁ o₅ _ _ e (after o₁ o₂ o₅ _ _ f (after o₂ o₃ o₅ _ _ g (after o₃ o₄ o₅ _ _ h k)))
      ∙ (ap₂ (λ (x : ℕ) (l : List Token). emits o (Token.Node n.name ∷ Token.Kind n.kind ∷ ((i ++ u) ++ (Token.Count x ∷ l)))) s t
      ∙ ap (λ (l : List Token). emits o (Token.Node n.name ∷ Token.Kind n.kind ∷ l)) (append_assoc i u (counted_tokens declared_tokens (n.locals ++ map local_declared new))))

  -- the body: how many equations there are, those of the new locals, then the old ones
  pub body-written : (o₁ o₂ o₃ o₄ o₅ : Output) (old : List Equation) (total : ℕ) → total ≡ length (a ++ (b ++ c)) + length old → o₁ ≡ emits o (Token.Count total ∷ [])
      → o₂ ≡ emits o₁ (join (map equation_tokens (map local_equation a))) → o₃ ≡ emits o₂ (join (map equation_tokens (map local_equation b)))
      → o₄ ≡ emits o₃ (join (map equation_tokens (map local_equation c))) → o₅ ≡ emits o₄ (join (map equation_tokens old)) → o₅ ≡ emits o (body_tokens (a ++ (b ++ c)) old)
  unfolding body_tokens
  body-written o₁ o₂ o₃ o₄ o₅ old total m e f g h k =
      let new = a ++ (b ++ c) in
      let A = join (map equation_tokens (map local_equation a)) in
      let B = join (map equation_tokens (map local_equation b)) in
      let C = join (map equation_tokens (map local_equation c)) in
      let O = join (map equation_tokens old) in
      let s : total ≡ length (map local_equation new ++ old) = m ∙ (ap (λ (x : ℕ). x + length old) (sym (length-map new local_equation)) ∙ sym (length-append (map local_equation new) old)) in
      let t : A ++ (B ++ (C ++ O)) ≡ join (map equation_tokens (map local_equation new ++ old)) =
      ap (λ (l : List Token). A ++ l) (sym (append_assoc B C O)) ∙ (sym (append_assoc A (B ++ C) O)
      ∙ (ap (λ (l : List Token). l ++ O) (sym (joined-three local_equation equation_tokens a b c)) ∙ sym (append-joined equation_tokens (map local_equation new) old))) in
      after o o₁ o₅ _ _ e (after o₁ o₂ o₅ _ _ f (after o₂ o₃ o₅ _ _ g (after o₃ o₄ o₅ _ _ h k)))
      ∙ ap₂ (λ (x : ℕ) (l : List Token). emits o (Token.Count x ∷ l)) s t

  -- the whole node
  pub node-written : (o₁ o₂ o₃ : Output) (old : List Equation) → o₁ ≡ emits o (front_tokens n (a ++ (b ++ c))) → o₂ ≡ emits o₁ (body_tokens (a ++ (b ++ c)) old) → o₃ ≡ emits o₂ (counted_tokens probe_tokens n.probes)
      → o₃ ≡ emits o (node_tokens (with_locals n (a ++ (b ++ c)) old))
  node-written o₁ o₂ o₃ old e f g = after o o₁ o₃ _ _ e (after o₁ o₂ o₃ _ _ f g) ∙ ap (emits o) (sym (node-parts n (a ++ (b ++ c)) old))

-- ---- how many there are
-- clocks in chain order are no more
few-inserted : (letters : ℕ → Letters) (c : Clock) (cs : List Clock) → length (insert letters c cs) ≤ suc (length cs)
unfolding insert
few-inserted letters c [] = omega arith
few-inserted letters c (d ∷ cs) = go (chain_order letters c d) (few-inserted letters c cs)
  where
    go : (o : Ordering) → length (insert letters c cs) ≤ suc (length cs) → length {A = Clock} (elim o as (λ x. List Clock) [ Ordering.lt ↦ c ∷ d ∷ cs | Ordering.eq ↦ d ∷ cs | Ordering.gt ↦ d ∷ insert letters c cs ]) ≤ suc (suc (length cs))
    go Ordering.lt h = omega arith
    go Ordering.eq h = omega arith
    go Ordering.gt h = omega arith

few-ordered : (letters : ℕ → Letters) (cs : List Clock) → length (in_chain_order letters cs) ≤ length cs
unfolding in_chain_order
few-ordered letters [] = omega arith
few-ordered letters (c ∷ cs) = omega (arith, few-inserted letters c (in_chain_order letters cs), few-ordered letters cs)

picked-length : (f : ℕ → Clock) (o : List ℕ) (i n : ℕ) → length (picked f o i n) ≡ n
unfolding picked
picked-length f o i zero = refl
picked-length f o i (suc n) = ap suc (picked-length f o (i + 1) n)

-- so many rows in chain order
pub ordered-count : (letters : ℕ → Letters) (f : ℕ → Clock) (o : List ℕ) (k : ℕ) (cs : List Clock) → picked f o 0 k ≡ in_chain_order letters cs → (length (in_chain_order letters cs) ≡ k) × (k ≤ length cs)
ordered-count letters f o k cs e =
    let n : length (in_chain_order letters cs) ≡ k = sym (ap length e) ∙ picked-length f o 0 k in
    (n, omega (arith, few-ordered letters cs))

holds-length : (ids : Ids) (n : ℕ) (hs : List Hold) → length (hold_locals ids n hs) ≡ length hs
holds-length ids n [] = refl
holds-length ids n (h ∷ hs) = ap suc (holds-length ids (suc n) hs)

-- so many new locals: flags, first-tick flags and holds
pub new-count : (ids : Ids) (flags firsts : List Clock) (holds : List Hold) (i j k : ℕ) → length flags ≡ i → length firsts ≡ j → length holds ≡ k
    → length (flag_locals ids flags ++ (first_locals ids firsts ++ hold_locals ids 0 holds)) ≡ i + (j + k)
new-count ids flags firsts holds i j k e f g =
    let a : length (flag_locals ids flags) ≡ length flags = length-map flags _ in
    let b : length (first_locals ids firsts) ≡ length firsts = length-map firsts _ in
    omega (arith, length-append (flag_locals ids flags) (first_locals ids firsts ++ hold_locals ids 0 holds), length-append (first_locals ids firsts) (hold_locals ids 0 holds), a, b, holds-length ids 0 holds, e, f, g)

module _ (types : List TypeDef) (nodes : List Node) (node : Node) (condact : ℕ) where
  -- as many old equations are yielded as there are
  pub yield-length : (ids : Ids) (n : ℕ) (cs : List Clocked) → length (old_yield types nodes node ids n cs).value ≡ length cs
  unfolding old_yield
  yield-length ids n [] = refl
  yield-length ids n (c ∷ cs) = ap suc (yield-length ids (right_yield types nodes node ids c.clock c.equation.left n c.equation.right).after cs)

  -- as many holds as are needed
  module _ (cs : List Clocked) (faultless : old_fault types nodes node condact 0 cs ≡ none) (flag_ids first_ids hold_ids : List ℕ) where
    abbrev w : Needs
    w = old_needs types nodes node condact cs no_needs

    abbrev ids : Ids
    ids = ids_in w.flags w.firsts flag_ids first_ids hold_ids condact

    -- new names by what stands in the tables
    abbrev tabled : Stem → ℕ → ℕ
    tabled ck j = get_or flag_ids j 0
    tabled first j = get_or first_ids j 0
    tabled hold j = get_or hold_ids j 0

    agreed : Agree w.flags w.firsts w.holds tabled condact ids
    agreed = record { flags-agree = λ c h. refl; firsts-agree = λ c h. refl; holds_agree = λ j h. refl; condact-agrees = refl }

    pub holds-made : (length (old_yield types nodes node ids 0 cs).holds ≡ w.holds) × ((old_yield types nodes node ids 0 cs).after ≡ w.holds)
    holds-made =
        let d = meets-none (old-outcome types nodes node tabled condact 0 cs nothing_needed) faultless in
        let e = old-needs types nodes tabled condact node cs d.0 d.1 d.2 in
        let a = subst (λ (v : Needs). Agree v.flags v.firsts v.holds tabled condact ids) (sym e) agreed in
        let y = old-yields types nodes tabled condact node ids _ a 0 cs d.0 nothing_needed d.1 d.2 (leads-self _) in
        let h : length d.1.holds ≡ w.holds = ap (λ (v : Needs). v.holds) e in
        (sym (ap length y.1) ∙ h, sym y.2 ∙ h)
