-- Demand 3 for one node: a run of the rewritten node is a run of the source node, and a source run depends on the kept values alone.
use mathlib.Core.Path.{◌≡◌, refl, sym, ap, ◌∙◌, subst, subst⁻¹}
use mathlib.Core.Bool.{Bool, true, false, ◌||◌, true≢false}
use mathlib.Core.List.{List, [], ◌∷◌, ◌++◌, map, map-append, append_assoc, Memᴰ}
use mathlib.Core.Option.{Option, none, some, some-injective, none-ne-some}
use mathlib.Core.Logic.{◌⊎◌, inl, inr}
use Prim.Native.Nat.{ℕ}
use lib.Dec.{eqb}
use Rattle.std.proofs.lemmas.Bool.{eqb-true}
use Rattle.definitions.specs.declared.Condition.{Condition}
use Rattle.definitions.specs.Lists.{choose, among, Letters}
use Rattle.definitions.specs.Tree.{Declared, TypeDef, Equation, Node}
use Rattle.definitions.specs.Clock.{Clock, base, ◌↓◌, is_base}
use Rattle.definitions.specs.InferClocks.{Clocks, clock_of, is_port, Clocked, Clocking, clock_faults}
use Rattle.definitions.specs.Declock.{State, nothing_needed, Stem, done, declared, old_equations, New, new_locals, with_new}
use Rattle.definitions.specs.Output.{ClockedNode}
use Rattle.runs.specs.Callees.{is_declared, is_operator, Callees}
use Rattle.runs.specs.Run.{Meaning, Env, SourceRun, RewrittenRun, Kept, seen}
use Rattle.runs.specs.Plain.{Part, reads, callee, computes, lefts, names_of}
use Rattle.runs.proofs.Facts.{any-app, or-false}
use Rattle.runs.proofs.Declared.{in-lefts, declared-later, declared-cases, port-declared}
use Rattle.runs.proofs.Parts.{Each, EachOf, each_map}
use Rattle.shapes.proofs.Yields.{yielded}
use Rattle.runs.proofs.Growth.{nothing-sound, OfClock, Sound, Reads, old_equations-steps}
use Rattle.runs.proofs.Checked.{Clean, clean_of, CleanEquation, clean-equations, Fits, Ok, OldParts, check-ok, lefts-ok}
use Rattle.runs.proofs.Inferred.{Clockings, Placed, placed, equation-named}
use Rattle.runs.proofs.Conditions.{equation-good}
use Rattle.runs.proofs.Expressions.{Callable}
use Rattle.runs.proofs.Holding.{on_base, EachHolds, each_left, each_right, each-of-all, all_of_each}
use Rattle.runs.proofs.Settling.{Settled, undeclared}
use Rattle.runs.proofs.Several.{CallIfSeveral}
use Rattle.runs.proofs.Equations.{found, sources}
use Rattle.runs.proofs.Flags.{new_equation, flagged, firsted, held}
use Rattle.runs.proofs.KeptRun.{Keeps, NotCondact, all_same}

-- what checking says of each equation of a node without faults
module _ (node : Node) (k : Clocking) (c : Clockings node k) (clean : clock_faults k.findings ≡ []) where
  equation-clean : (e : Clocked) → Memᴰ e k.equations → CleanEquation node k.names e
  equation-clean e m = clean-equations node k.names e 0 k.equations (subst Clean c.findings (clean_of k.findings clean c.shallow)) m

  equation-ok : (Callable Old : ℕ → Type 0) → EachOf (OldParts k.names Callable Old) node.equations
      → (e : Clocked) → Memᴰ e k.equations → Ok k.names Callable Old e.equation.right e.clock
  equation-ok Callable Old old e m = let d = equation-clean e m in check-ok k.names Callable Old d.place e.equation.right e.clock d.right (old e.equation (c.equations.from e m))

  equation-left : (e : Clocked) → Memᴰ e k.equations → (x : ℕ) → Memᴰ x e.equation.left → Fits k.names x e.clock
  equation-left e m x i = let d = equation-clean e m in lefts-ok k.names d.place node e.clock x e.equation.left d.left i

-- kept values: ρ' in place of ρ in a run of the source node
module _ {Val : Type 0} (M : Meaning Val) (C : Callees) (n : ClockedNode) (c : Clockings n.node n.clocking) (clean : clock_faults n.clocking.findings ≡ [])
    (calls-other : EachOf (OldParts n.clocking.names (NotCondact C) (λ x. Unit {0})) n.node.equations) where
  abbrev k : Clocking
  k = n.clocking

  keeps : (ticks : ℕ) (ρ ρ' : Env Val) → Kept M n ticks ρ ρ' → Keeps M C k.names ticks (seen M n.node ρ) (seen M n.node ρ')
  unfolding Kept
  keeps ticks ρ ρ' h x t l o = go (is_declared n.node x) refl
    where
      go : (u : Bool) → is_declared n.node x ≡ u → choose u (ρ x t) (M.undeclared x) ≡ choose u (ρ' x t) (M.undeclared x)
      go true e = h x t l e o
      go false e = refl

  pub source-kept : (ticks : ℕ) (ρ ρ' : Env Val) → Kept M n ticks ρ ρ' → SourceRun M C n ticks ρ → SourceRun M C n ticks ρ'
  unfolding SourceRun
  source-kept ticks ρ ρ' h r = (
    r.0,
    all_same M C k.names ticks (seen M n.node ρ) (seen M n.node ρ') (keeps ticks ρ ρ' h) k.equations r.0
        (λ e m. (
          equation-good (NotCondact C) n.node k c (equation-ok n.node k c clean (NotCondact C) (λ x. Unit {0}) calls-other) (equation-left n.node k c clean) e m,
          equation-ok n.node k c clean (NotCondact C) (λ x. Unit {0}) calls-other e m,
          equation-left n.node k c clean e m,
        )) r.1,
  )

-- the names that rewriting must not mix up: what is read is known by its letters, and an undeclared name is not a new one
module _ (new : Stem → ℕ → ℕ) (Callable Known : ℕ → Type 0) (node : Node) where
  abbrev pub Fresh : ℕ → Type 0
  Fresh x = Known x × (is_declared node x ≡ false → (stem : Stem) (j : ℕ) → ¬ (x ≡ new stem j))

  abbrev pub Usable : Part → Type 0
  Usable (reads x) = Fresh x
  Usable (callee f) = Callable f
  Usable (computes h) = Unit {0}

-- the node n of a sheet with callees C, its clocks formed and without faults, rewritten into a sheet with callees C'
module _ {Val : Type 0} (types : List TypeDef) (nodes : List Node) (letters : ℕ → Letters) (new : Stem → ℕ → ℕ) (n : ClockedNode)
    (M : Meaning Val) (C C' : Callees) (operators : (f : ℕ) → C.operators f ≡ C'.operators f) (kinds : (f : ℕ) → C.operators f ≡ is_operator nodes f)
    (Known : ℕ → Type 0) (apart : (x y : ℕ) → Known x → Known y → letters x ≡ letters y → x ≡ y)
    (c : Clockings n.node n.clocking) (clean : clock_faults n.clocking.findings ≡ [])
    (usable : EachOf (Usable new (Callable C C') Known n.node) n.node.equations)
    (only-defined : (x : ℕ) → Memᴰ x (lefts n.node.equations) → Memᴰ x (names_of (n.node.outputs ++ n.node.locals)))
    (locals-settled : (x : ℕ) → Memᴰ x (names_of n.node.locals) → clock_of n.clocking.names x ≡ none → Settled C n.node n.clocking.names x)
    (several-call : (e : Clocked) → Memᴰ e n.clocking.equations → is_base e.clock ≡ false → CallIfSeveral e.equation.left e.equation.right)
    (es : List Equation) (S : State) (rewritten : old_equations types nodes new C'.condact n.node 0 n.clocking.equations nothing_needed ≡ done es S)
    (ticks : ℕ) (ρ : Env Val)
  where
    abbrev node : Node
    node = n.node

    abbrev clocks : Clocks
    clocks = n.clocking.names

    abbrev news : List New
    news = new_locals letters new S

    -- the new locals, declared
    abbrev more : List Declared
    more = map (λ l. record { name = new l.stem l.number; type = l.type }) news

    abbrev node' : Node
    node' = with_new new node news es

    abbrev P : ℕ → Type 0
    P x = Fresh new (Callable C C') Known node x

    -- declared in both nodes or in neither
    abbrev Old : ℕ → Type 0
    Old x = is_declared node x ≡ is_declared node' x

    abbrev σ : Env Val
    σ = seen M node ρ

    abbrev τ : Env Val
    τ = seen M node' ρ

    -- a name that no new one is, is not among them
    not_new : (x : ℕ) → ((stem : Stem) (j : ℕ) → ¬ (x ≡ new stem j)) → (l : List New) → among x (names_of (map (λ l. record { name = new l.stem l.number; type = l.type }) l)) ≡ false
    not_new x h [] = refl
    not_new x h (a ∷ l) = go (eqb x (new a.stem a.number)) refl (not_new x h l)
      where
        rest : Bool
        rest = among x (names_of (map (λ l. record { name = new l.stem l.number; type = l.type }) l))

        go : (u : Bool) → eqb x (new a.stem a.number) ≡ u → rest ≡ false → (u || rest) ≡ false
        go true e ih = absurd (h a.stem a.number (eqb-true x (new a.stem a.number) e))
        go false e ih = ih

    -- the rewritten node declares the node's names, and the new ones
    declares : (x : ℕ) → is_declared node' x ≡ (is_declared node x || among x (names_of more))
    unfolding with_new
    declares x =
        let q : declared node' ≡ declared node ++ more = sym (append_assoc node.inputs (node.outputs ++ node.locals) more ∙ ap (λ (z : List Declared). node.inputs ++ z) (append_assoc node.outputs node.locals more)) in
        ap (λ (z : List Declared). among x (names_of z)) q ∙ (ap (among x) (map-append (λ d. d.name) (declared node) more) ∙ any-app (eqb x) (names_of (declared node)) (names_of more))

    old : (x : ℕ) → (is_declared node x ≡ false → (stem : Stem) (j : ℕ) → ¬ (x ≡ new stem j)) → Old x
    old x h = go (is_declared node x) refl
      where
        go : (u : Bool) → is_declared node x ≡ u → Old x
        go true e = e ∙ sym (declares x ∙ ap (λ (u : Bool). u || among x (names_of more)) e)
        go false e = sym (declares x ∙ (ap (λ (u : Bool). is_declared node x || u) (not_new x (h e) news) ∙ or-false (is_declared node x)))

    old-declared : (x : ℕ) → is_declared node x ≡ true → Old x
    old-declared x d = old x (λ e. absurd (true≢false (sym d ∙ e)))

    agree : (x : ℕ) → Old x → (t : ℕ) → σ x t ≡ τ x t
    agree x o t = ap (λ (b : Bool). choose b (ρ x t) (M.undeclared x)) o

    reads-P : EachOf (Reads P) node.equations
    reads-P e m = each_map (Usable new (Callable C C') Known node) (Reads P) w e.right (usable e m)
      where
        w : (p : Part) → Usable new (Callable C C') Known node p → Reads P p
        w (reads x) u = u
        w (callee f) u = tt
        w (computes h) u = tt

    reads_old : EachOf (OldParts clocks (Callable C C') Old) node.equations
    reads_old e m = each_map (Usable new (Callable C C') Known node) (OldParts clocks (Callable C C') Old) w e.right (usable e m)
      where
        w : (p : Part) → Usable new (Callable C C') Known node p → OldParts clocks (Callable C C') Old p
        w (reads x) u = old x u.1
        w (callee f) u = u
        w (computes h) u = tt

    places : Placed P node clocks
    places = placed P node n.clocking c reads-P

    known : (e : Clocked) → Memᴰ e n.clocking.equations → OfClock P e.clock × Each (Reads P) e.equation.right
    known e m =
        let r = reads-P e.equation (c.equations.from e m) in
        (equation-named P node clocks places.named e (c.equations.each e m) r, r)

    left-declared : (e : Equation) → Memᴰ e node.equations → (x : ℕ) → Memᴰ x e.left → is_declared node x ≡ true
    left-declared e m x i = declared-later node x (only-defined x (in-lefts e node.equations m x i))

    -- an undeclared name has no clock
    unclocked : (x : ℕ) → is_declared node x ≡ false → clock_of clocks x ≡ none
    unclocked x u = go (clock_of clocks x) refl (is_port node x) refl
      where
        go : (o : Option Clock) → clock_of clocks x ≡ o → (p : Bool) → is_port node x ≡ p → o ≡ none
        go none e p h = refl
        go (some d) e true h = absurd (true≢false (sym (port-declared node x h) ∙ u))
        go (some d) e false h = let r = places.others x d e h in absurd (true≢false (sym (left-declared r.0 r.1 x r.2) ∙ u))

    -- a name on a clock other than base is a left name
    defining : (x : ℕ) (d : Clock) (l : Condition) → clock_of clocks x ≡ some (d ↓ l) → (e : Clocked) × Memᴰ e n.clocking.equations × Memᴰ x e.equation.left
    defining x d l e =
        let r = places.others x (d ↓ l) e (go (is_port node x) refl) in
        let f = c.equations.to r.0 r.1 in
        (f.0, f.1, subst⁻¹ (λ (z : Equation). Memᴰ x z.left) f.2 r.2)
      where
        go : (u : Bool) → is_port node x ≡ u → is_port node x ≡ false
        go true h = absurd (true≢false (ap is_base (some-injective base (d ↓ l) (sym (places.based x h) ∙ e))))
        go false h = h

    settled : (x : ℕ) → Old x → clock_of clocks x ≡ none → Settled C node clocks x
    settled x o e = go (is_declared node x) refl
      where
        local : (is_port node x ≡ true) ⊎ Memᴰ x (names_of node.locals) → Memᴰ x (names_of node.locals)
        local (inl h) = absurd (none-ne-some base (sym e ∙ places.based x h))
        local (inr i) = i

        go : (u : Bool) → is_declared node x ≡ u → Settled C node clocks x
        go true d = locals-settled x (local (declared-cases node x d)) e
        go false d = undeclared d

    steady : (x : ℕ) → Old x → is_declared node x ≡ false → (t s : ℕ) → τ x t ≡ τ x s
    steady x o u t s = let h : is_declared node' x ≡ false = sym o ∙ u in rw h

    -- the rewritten run, kept to nothing yet
    pub source-run : RewrittenRun M C' node' ticks ρ → SourceRun M C n ticks ρ
    unfolding RewrittenRun SourceRun with_new
    source-run r =
        let a : List Clocked = map on_base (map (new_equation new) news) in
        let b : List Clocked = map on_base es in
        let all : EachHolds M C' τ ticks (a ++ b) = subst (EachHolds M C' τ ticks) (map-append on_base (map (new_equation new) news) es) (each-of-all M C' τ ticks _ r.0 r.1) in
        let new-ones = each_left M C' τ ticks a b all in
        let old-ones = each_right M C' τ ticks a b all in
        let sound : Sound P S = (yielded es S rewritten (old_equations-steps types nodes new C'.condact node P 0 n.clocking.equations nothing_needed known)).1 (nothing-sound P) in
        let agree-P : (x : ℕ) → P x → (t : ℕ) → σ x t ≡ τ x t = λ x p t. agree x (old x p.1) t in
        let apart-P : (x y : ℕ) → P x → P y → letters x ≡ letters y → x ≡ y = λ x y p q e. apart x y p.0 q.0 e in
        let from = c.equations.from in
        let each = sources types nodes new node M C C' operators kinds clocks P Old S σ τ ticks n.clocking.equations agree
        (flagged M C' τ ticks letters P apart-P new S sound σ agree-P new-ones) (firsted M C' τ ticks letters P apart-P new S sound σ agree-P new-ones) (held M C' τ ticks letters P apart-P new S sound σ agree-P new-ones)
        steady unclocked c.equations (λ e m. reads_old e.equation (from e m)) (equation-ok node n.clocking c clean (Callable C C') Old reads_old)
        (λ e m x i. old-declared x (left-declared e.equation (from e m) x i)) (equation-left node n.clocking c clean) several-call defining settled
        (found types nodes new node M C' P S τ ticks 0 n.clocking.equations nothing_needed es known rewritten old-ones) in
        all_of_each M C σ ticks n.clocking.equations (r.0 []) each
