-- A node of the output by the ids of its new names, and the names that it adds by what it needs.
use Prim.Native.Nat.{ℕ, suc, ◌+◌, ◌≤◌}
use mathlib.Core.Path.{◌≡◌, refl, sym, ap, ap₂, ◌∙◌, subst}
use mathlib.Core.Bool.{Bool, true, false}
use mathlib.Core.List.{List, [], ◌∷◌, ◌++◌, map, map-append, Memᴰ}
use mathlib.Core.Option.{none}
use native.Mathlib.Omega.{arith}
use lib.ListN.{length}
use Rattle.definitions.specs.declared.Primitive.{Primitive}
use Rattle.definitions.specs.Lists.{choose, numbered, up_from, Letters}
use Rattle.definitions.specs.Tree.{Ty, Expr, Equation, Node, Sheet}
use Rattle.definitions.specs.Clock.{Clock, base, ◌↓◌, is_base, in_chain_order}
use Rattle.definitions.specs.InferClocks.{uses_clocks}
use Rattle.definitions.specs.Declock.{State, nothing_needed, Hold, done, Stem, ck, first, hold, clock_place, New, activation, first_tick, and_of, condition_expr, new_locals, with_new}
use Rattle.definitions.specs.Output.{letters_of, new_letters, new_id, condact_id, ClockedNode, rewritten, with_new_names, output_node}
use Rattle.shapes.proofs.Facts.{All}
use Rattle.shapes.proofs.Added.{has, member-has}
use Rattle.shapes.proofs.RewriteShape.{order-all}
use Rattle.stateless.specs.Need.{Needs, needs_of}
use Rattle.stateless.specs.Yield.{Ids, Yield, old_yield}
use Rattle.stateless.specs.Locals.{Agree, Local, activation_by, flag_locals, first_locals, hold_locals, local_declared, local_equation, with_locals}
use Rattle.stateless.specs.Rewritten.{locals_by, node_by, new_names, names_by}
use Rattle.stateless.proofs.Stops.{fault_of, done-where}
use Rattle.stateless.proofs.Condact.{needs_of_node}
use Rattle.stateless.proofs.Growth.{Sound, nothing-sound, leads-self}
use Rattle.stateless.proofs.Yields.{old-yields, old-sound, old-needs}

-- maps that agree on the members, and one after another
map_same : {A B C : Type 0} (f : B → C) (g : A → B) (h : A → C) (l : List A) → All (λ a. f (g a) ≡ h a) l → map f (map g l) ≡ map h l
map_same f g h [] e = refl
map_same {C} f g h (a ∷ l) e = ap₂ {C = List C} (λ x xs. x ∷ xs) (e a (Memᴰ.head refl)) (map_same f g h l (λ b m. e b (Memᴰ.tail m)))

-- the three kinds of new locals
module _ (letters : ℕ → Letters) (new : Stem → ℕ → ℕ) (s : State) where
  abbrev flags_new : List New
  flags_new = map (λ c. record { stem = ck; number = clock_place c s.flags; type = Ty.primitive Primitive.Bool; right = activation letters new s c }) (in_chain_order letters s.flags)

  abbrev firsts_new : List New
  firsts_new = map (λ c. record { stem = first; number = clock_place c s.firsts; type = Ty.primitive Primitive.Bool; right = first_tick letters new s c }) (in_chain_order letters s.firsts)

  abbrev holds_new : ℕ → List Hold → List New
  holds_new k hs = numbered (λ j h. record { stem = hold; number = j; type = h.type; right = h.right }) k hs

  map-locals : {B : Type 0} (f : New → B) (x y z : List B) → map f flags_new ≡ x → map f firsts_new ≡ y → map f (holds_new 0 s.holds) ≡ z → map f (new_locals letters new s) ≡ x ++ (y ++ z)
  unfolding new_locals
  map-locals {B} f x y z p q r =
      map-append f flags_new (firsts_new ++ holds_new 0 s.holds) ∙ ap₂ {C = List B} ◌++◌ p (map-append f firsts_new (holds_new 0 s.holds) ∙ ap₂ {C = List B} ◌++◌ q r)

-- a node of the output
module _ (names : List Letters) (new : Stem → ℕ → ℕ) (condact : ℕ) (s : State) (ids : Ids) (agree : Agree s.flags s.firsts (length s.holds) new condact ids) (sound : Sound (needs_of s)) where
  -- a new local has its name
  abbrev named : New → Local
  named l = record { name = new l.stem l.number; type = l.type; right = l.right }

  activation-same : (c : Clock) → has c s.flags ≡ true → activation (letters_of names) new s c ≡ activation_by ids c
  activation-same base h = refl
  activation-same (c ↓ k) h = go (is_base c) refl
    where
      go : (u : Bool) → is_base c ≡ u → choose u (condition_expr k) (and_of (Expr.var (new ck (clock_place c s.flags))) (condition_expr k)) ≡ choose u (condition_expr k) (and_of (Expr.var (ids.flag c)) (condition_expr k))
      go true b = refl
      go false b = ap (λ (x : ℕ). and_of (Expr.var x) (condition_expr k)) (sym (agree.flags-agree c (sound.closed c k h b)))

  flags-same : map named (flags_new (letters_of names) new s) ≡ flag_locals ids (in_chain_order (letters_of names) s.flags)
  flags-same = map_same named _ _ (in_chain_order (letters_of names) s.flags) (order-all _ (letters_of names) s.flags (λ c m.
      let h = member-has c s.flags m in
      rw (agree.flags-agree c h, activation-same c h)))

  firsts_same : map named (firsts_new (letters_of names) new s) ≡ first_locals ids (in_chain_order (letters_of names) s.firsts)
  firsts_same = map_same named _ _ (in_chain_order (letters_of names) s.firsts) (order-all _ (letters_of names) s.firsts (λ c m.
      let h = member-has c s.firsts m in
      rw (agree.firsts-agree c h, agree.flags-agree c (sound.within c h))))

  holds_same : (k : ℕ) (hs : List Hold) → k + length hs ≤ length s.holds → map named (holds_new (letters_of names) new s k hs) ≡ hold_locals ids k hs
  holds_same k [] u = refl
  holds_same k (h ∷ hs) u = ap₂ {C = List Local} (λ x xs. x ∷ xs) (rw (agree.holds_agree k (omega arith))) (holds_same (suc k) hs (omega arith))

  node-same : (n : Node) (old : List Equation) → with_new new n (new_locals (letters_of names) new s) old ≡ with_locals n (locals_by names ids (needs_of s) s.holds) old
  unfolding with_new with_locals
  node-same n old = go (new_locals (letters_of names) new s) _ (map-locals (letters_of names) new s named _ _ _ flags-same firsts_same (holds_same 0 s.holds (omega arith)))
    where
      go : (news : List New) (these : List Local) → map named news ≡ these → with_new new n news old ≡ with_locals n these old
      go news these e =
          let a : map local_declared (map named news) ≡ map (λ l. record { name = new l.stem l.number; type = l.type }) news = map_same local_declared named _ news (λ l m. refl) in
          let b : map local_equation (map named news) ≡ map (λ l. record { left = new l.stem l.number ∷ []; right = l.right }) news = map_same local_equation named _ news (λ l m. refl) in
          rw (← e, a, b)

module _ (names : List Letters) (sheet : Sheet) (all : List Letters) (n : ClockedNode) (ids : Ids) where
  -- what the old equations of the node yield
  abbrev pub yielded : Yield (List Equation)
  yielded = old_yield sheet.types sheet.nodes n.node ids 0 n.clocking.equations

  -- THE LAW: a node that was rewritten
  pub output-node : (es : List Equation) (s : State) → uses_clocks n.node ≡ true → rewritten names sheet all n ≡ done es s
      → Agree s.flags s.firsts (length s.holds) (new_id names all n.node) (condact_id all) ids → output_node names sheet all n ≡ node_by names ids n.node (needs_of s) yielded
  unfolding output_node rewritten
  output-node es s u e agree =
      let same = old-yields sheet.types sheet.nodes (new_id names all n.node) (condact_id all) n.node ids (needs_of s) agree 0 n.clocking.equations es nothing_needed s e (leads-self (needs_of s)) in
      let sound = old-sound sheet.types sheet.nodes (new_id names all n.node) (condact_id all) n.node ids (needs_of s) agree 0 n.clocking.equations es nothing_needed s e nothing-sound in
      rw (u, e) (node-same names (new_id names all n.node) (condact_id all) s ids agree sound n.node es ∙ rw (same.0, same.1))

  -- the same of a node that meets no fault, by what its equations need
  pub output-by-needs : uses_clocks n.node ≡ true → fault_of sheet all n ≡ none
      → Agree (needs_of_node sheet all n).flags (needs_of_node sheet all n).firsts (needs_of_node sheet all n).holds (new_id names all n.node) (condact_id all) ids
      → output_node names sheet all n ≡ node_by names ids n.node (needs_of_node sheet all n) yielded
  unfolding rewritten
  output-by-needs u f agree =
      let d = done-where names sheet all n f in
      let e = old-needs sheet.types sheet.nodes (new_id names all n.node) (condact_id all) n.node n.clocking.equations d.0 d.1 d.2 in
      output-node d.0 d.1 u d.2 (subst (λ (w : Needs). Agree w.flags w.firsts w.holds (new_id names all n.node) (condact_id all) ids) (sym e) agree) ∙ ap (λ (w : Needs). node_by names ids n.node w yielded) e

-- the names that a node adds
module _ (names : List Letters) (sheet : Sheet) (all : List Letters) (n : ClockedNode) where
  abbrev letters_new : New → Letters
  letters_new l = new_letters names n.node l.stem l.number

  holds-letters : (s : State) (k : ℕ) (hs : List Hold) → map letters_new (holds_new (letters_of names) (λ stem j. 0) s k hs) ≡ map (new_letters names n.node hold) (up_from k (length hs))
  holds-letters s k [] = refl
  holds-letters s k (h ∷ hs) = ap (λ (l : List Letters). new_letters names n.node hold k ∷ l) (holds-letters s (suc k) hs)

  new-letters : (s : State) → map letters_new (new_locals (letters_of names) (λ stem j. 0) s) ≡ new_names names n.node (needs_of s)
  unfolding new_names
  new-letters s =
      map-locals (letters_of names) (λ stem j. 0) s letters_new _ _ _
      (map_same letters_new _ _ (in_chain_order (letters_of names) s.flags) (λ c m. refl))
      (map_same letters_new _ _ (in_chain_order (letters_of names) s.firsts) (λ c m. refl))
      (holds-letters s 0 s.holds)

  -- THE LAW: the names with those that a rewritten node adds
  pub new-names : (es : List Equation) (s : State) → uses_clocks n.node ≡ true → rewritten names sheet names n ≡ done es s → with_new_names names sheet all n ≡ names_by names all n.node (needs_of s)
  unfolding with_new_names rewritten
  new-names es s u e = rw (u, e, new-letters s)

  -- the same of a node that meets no fault, by what its equations need
  pub names-by-needs : uses_clocks n.node ≡ true → fault_of sheet names n ≡ none → with_new_names names sheet all n ≡ names_by names all n.node (needs_of_node sheet names n)
  unfolding rewritten
  names-by-needs u f =
      let d = done-where names sheet names n f in
      new-names d.0 d.1 u d.2
      ∙ ap (names_by names all n.node) (old-needs sheet.types sheet.nodes (new_id names names n.node) (condact_id names) n.node n.clocking.equations d.0 d.1 d.2)
