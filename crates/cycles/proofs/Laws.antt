-- Laws of the names that types end in, of sets of definitions, and of the first definition that reaches itself.
-- Assumes nothing.
use Rattle.std.specs.Prelude.{Option, Some, None, MatchOption, IsTrue, ◌↔◌, ◌⊎◌}
use mathlib.Core.Path.{◌≡◌, refl, sym, ◌∙◌, ap}
use mathlib.Core.List.{List, [], ◌∷◌, ◌++◌, map, append_assoc, append-nil}
use mathlib.Core.Bool.{Bool, true, false, ◌||◌, ◌&&◌, not}
use Prim.Native.Nat.{ℕ, zero, suc, ◌+◌, ◌-◌, ◌≤◌, ◌<◌}
use native.Mathlib.Omega.{arith}
use native.Mathlib.Numerals.{add-one}
use lib.ListN.{length, get_or, set, take, drop, replicate}
use lib.Seq.{drop-cons, drop-length, get_or-set_same, get_or-set_other}
use lib.Dec.{eqb, ltb}
use borrow.Author.Tests.{eq-eqb, eqb-true, eqb-false, lt-ltb, le-ltb, ltb-true, ltb-false}
use Rattle.std.proofs.Math.Bool.{and-false, and-true, or-false}
use Rattle.std.specs.Option.{option_eq}
use Rattle.std.specs.List.{list_all, zip}
use Rattle.std.proofs.Common.{inl, inr}
use Rattle.std.proofs.lemmas.Bool.{true≢false, cases_Bool, cases_eq, cases_lt, or_cases, and_parts, or_left, or_right}
use Rattle.definitions.specs.Lists.{choose, all, any, among, keep, join}
use Rattle.definitions.specs.Tokens.{TagValue}
use Rattle.definitions.specs.Tree.{Ty, Declared, Body, TypeDef}
use Rattle.definitions.specs.Reading.{got}
use Rattle.definitions.specs.Grammar.{ty, declaration}
use Rattle.definitions.specs.Types.{target, targets, definition_of, goes_on, one_step, reached, reaches_itself, first_cycle}
use Rattle.shapes.proofs.Facts.{any-app}
use Rattle.layout.specs.declared.Defined.{Defined}
use Rattle.layout.specs.declared.Span.{Span}
use Rattle.layout.specs.Spans.{Spans}
use Rattle.layout.specs.Table.{nowhere, def_at, name_at, is_named, first_of, FoundFirst, Named, Described}
use Rattle.layout.proofs.TypedefsLaws.{named, find_none, find-some, place-true, place-before}
use Rattle.layout.specs.declared.DeclarationLayout.{DeclarationLayout}
use Rattle.layout.specs.Walk.{LaidAll}
use Rattle.layout.proofs.Walks.{FirstLaid, first-laid, none-laid}
use Rattle.cycles.specs.declared.TypeTable.{TypeTable}
use Rattle.cycles.specs.declared.graph.Targets.{Targets}
use Rattle.cycles.specs.declared.graph.Graph.{Graph}
use Rattle.cycles.specs.Defines.{Defines, NamesTypes}
use Rattle.cycles.specs.Edges.{NamesInSet, is_defined, TargetsAre, Marked, own_body, own_name, row_at, Edges, IsCycle, IsWithin, Joined, Acyclic}

-- two truth values that follow from each other
pub iff : (a b : Bool) → (a ≡ true → b ≡ true) → (b ≡ true → a ≡ true) → a ≡ b
iff true true f g = refl
iff true false f g = sym (f refl)
iff false true f g = g refl
iff false false f g = refl

-- what one set has is in another, by the pairs of the first n marks
abbrev pub implied : Bool × Bool → Bool
implied p = not p.0 || p.1

implied-by : (x y : Bool) → implied (x, y) ≡ true → x ≡ true → y ≡ true
implied-by true y e t = e
implied-by false y e t = absurd (true≢false (sym t))

implied-of : (x y : Bool) → (x ≡ true → y ≡ true) → implied (x, y) ≡ true
implied-of true y f = f refl
implied-of false y f = refl

within-of : (n : ℕ) (a b : List Bool) → n ≤ length a → n ≤ length b → list_all implied (take n (zip a b)) ≡ true → IsWithin n a b
within-of zero a b h k e j l t = absurd (omega arith)
within-of (suc n) [] b h k e j l t = absurd (omega arith)
within-of (suc n) (x ∷ a) [] h k e j l t = absurd (omega arith)
within-of (suc n) (x ∷ a) (y ∷ b) h k e zero l t = implied-by x y (and_parts _ _ e).0 t
within-of (suc n) (x ∷ a) (y ∷ b) h k e (suc j) l t = within-of n a b (omega arith) (omega arith) (and_parts _ _ e).1 j (omega arith) t

of-within : (n : ℕ) (a b : List Bool) → n ≤ length a → n ≤ length b → IsWithin n a b → list_all implied (take n (zip a b)) ≡ true
of-within zero a b h k f = refl
of-within (suc n) [] b h k f = absurd (omega arith)
of-within (suc n) (x ∷ a) [] h k f = absurd (omega arith)
of-within (suc n) (x ∷ a) (y ∷ b) h k f =
    rw (implied-of x y (f 0 (omega arith)), of-within n a b (omega arith) (omega arith) (λ j l t. f (suc j) (omega arith) t))

pub within-by : (n : ℕ) (a b : List Bool) (r : Bool) → n ≤ length a → n ≤ length b → r ≡ list_all implied (take n (zip a b)) → (r ≡ true → IsWithin n a b) × (IsWithin n a b → r ≡ true)
within-by n a b r h k e = (λ t. within-of n a b h k (sym e ∙ t), λ f. e ∙ of-within n a b h k f)

any-intro : (G : ℕ → Bool) (x : ℕ) (xs : List ℕ) → among x xs ≡ true → G x ≡ true → any G xs ≡ true
any-intro G x [] e g = e
any-intro G x (y ∷ xs) e g = go (eqb x y) refl e (λ f. any-intro G x xs f g)
  where
    go : (b : Bool) → eqb x y ≡ b → (b || among x xs) ≡ true → (among x xs ≡ true → any G xs ≡ true) → (G y || any G xs) ≡ true
    go true i e r = let f : x ≡ y = eqb-true x y i in or_left (G y) (any G xs) (rw f at g)
    go false i e r = or_right (G y) (any G xs) (r e)

any-elim : (G : ℕ → Bool) (xs : List ℕ) → any G xs ≡ true → (x : ℕ) × (among x xs ≡ true) × (G x ≡ true)
any-elim G [] e = absurd cc
any-elim G (y ∷ xs) e = go (G y) refl e (any-elim G xs)
  where
    go : (b : Bool) → G y ≡ b → (b || any G xs) ≡ true → (any G xs ≡ true → (x : ℕ) × (among x xs ≡ true) × (G x ≡ true)) → (x : ℕ) × ((eqb x y || among x xs) ≡ true) × (G x ≡ true)
    go true i e r = (y, or_left (eqb y y) (among y xs) (eq-eqb y y refl), i)
    go false i e r = let a = r e in (a.0, or_right (eqb a.0 y) (among a.0 xs) a.1, a.2)

keep-none : (f : ℕ → Bool) (y : ℕ) (l : List ℕ) → f y ≡ false → among y (keep f l) ≡ false
keep-none f y [] e = refl
keep-none f y (a ∷ l) e = go (eqb y a) (f a) refl refl (keep-none f y l e)
  where
    go : (b c : Bool) → eqb y a ≡ b → f a ≡ c → among y (keep f l) ≡ false → among y (choose c (a ∷ keep f l) (keep f l)) ≡ false
    go true true i j r = let g : y ≡ a = eqb-true y a i in let k : f a ≡ false = rw g at e in absurd cc
    go false true i j r = rw i r
    go b false i j r = r

keep-among : (f : ℕ → Bool) (y : ℕ) (l : List ℕ) → among y l ≡ true → among y (keep f l) ≡ f y
keep-among f y [] e = absurd cc
keep-among f y (a ∷ l) e = go (eqb y a) (f a) refl refl e (keep-among f y l) (keep-none f y l)
  where
    go : (b c : Bool) → eqb y a ≡ b → f a ≡ c → (b || among y l) ≡ true → (among y l ≡ true → among y (keep f l) ≡ f y) → (f y ≡ false → among y (keep f l) ≡ false) →
        among y (choose c (a ∷ keep f l) (keep f l)) ≡ f y
    go true true i j e r s = let g : y ≡ a = eqb-true y a i in or_left (eqb y a) (among y (keep f l)) i ∙ sym (rw g j)
    go true false i j e r s = let g : y ≡ a = eqb-true y a i in let k : f y ≡ false = rw g j in s k ∙ sym k
    go false true i j e r s = rw i (r e)
    go false false i j e r s = r e

among_self : (types : List TypeDef) (j : ℕ) → j < length types → among (name_at types j) (map (λ d. d.name) types) ≡ true
among_self [] j h = absurd (omega arith)
among_self (d ∷ types) zero h = or_left (eqb d.name d.name) _ (eq-eqb d.name d.name refl)
among_self (d ∷ types) (suc j) h = or_right (eqb (name_at types j) d.name) _ (among_self types j (omega arith))

-- all
pub all_append : {A : Type 0} (p : A → Bool) (l m : List A) → all p (l ++ m) ≡ (all p l && all p m)
all_append p [] m = refl
all_append p (a ∷ l) m = go (p a) (all_append p l m)
  where
    go : (b : Bool) → all p (l ++ m) ≡ (all p l && all p m) → (b && all p (l ++ m)) ≡ ((b && all p l) && all p m)
    go true e = e
    go false e = refl

-- a set without members, and one of which one more is a member
pub empty-at : (n j : ℕ) → get_or (replicate n false) j false ≡ false
empty-at zero j = refl
empty-at (suc n) zero = refl
empty-at (suc n) (suc j) = empty-at n j

pub member-more : (l : List Bool) (i j : ℕ) → i < length l → get_or l j false ≡ true → get_or (set l i true) j false ≡ true
member-more l i j h e = elim (cases_eq j i) [ inl f ↦ rw f (get_or-set_same l i true false h) | inr f ↦ get_or-set_other l i j true false f ∙ e ]

-- targets: none, and one name more
pub no-names : (types : List TypeDef) → NamesInSet types (replicate 32 false) []
no-names types = record { says = λ j h. empty-at 32 j }

module _ (vs places : List ℕ) (n : ℕ) (types : List TypeDef) (t : Named vs places n types) (marks : Targets) (xs : List ℕ) (m : Marked types marks xs) (x : ℕ) where
  joined-name : (j : ℕ) (b : Bool) → b ≡ (get_or marks.set j false || eqb (name_at types j) x) → j < length types → b ≡ among (name_at types j) (xs ++ (x ∷ []))
  joined-name j b e l = e ∙ rw (m.holds.says j l, any-app (eqb (name_at types j)) xs (x ∷ []), or-false (eqb (name_at types j) x))

  all-more : (b : Bool) → ltb (first_of types x) (length types) ≡ b → (all (is_defined types) xs && b) ≡ all (is_defined types) (xs ++ (x ∷ []))
  all-more b e = sym (all_append (is_defined types) xs (x ∷ []) ∙ rw (e, and-true b))

  -- no definition has the name
  pub name-unknown : first_of types x ≡ length types → Marked types (record { set = marks.set; own = false }) (xs ++ (x ∷ []))
  name-unknown h = record {
    holds = record { says = λ j l. joined-name j (get_or marks.set j false) (without j (cases_Bool (eqb (name_at types j) x)) l) l };
    own = sym (and-false (all (is_defined types) xs)) ∙ all-more false (le-ltb (first_of types x) (length types) (omega (arith, h)));
  }
    where
      without : (j : ℕ) → (eqb (name_at types j) x ≡ true) ⊎ (eqb (name_at types j) x ≡ false) → j < length types → get_or marks.set j false ≡ (get_or marks.set j false || eqb (name_at types j) x)
      without j (inl e) l = absurd (omega (arith, h, place-before (is_named x) types nowhere j l e))
      without j (inr e) l = rw e (sym (or-false (get_or marks.set j false)))

  -- the name is there already
  pub name-again : (k : ℕ) → k ≡ first_of types x → k < length types → get_or marks.set k false ≡ true → Marked types marks (xs ++ (x ∷ []))
  name-again k first h e =
      let f : name_at types k ≡ x = rw first (eqb-true _ x (place-true (is_named x) types nowhere (omega arith))) in
      let u : among x xs ≡ true = rw f at (sym (m.holds.says k h) ∙ e) in
      record {
        holds = record { says = λ j l. joined-name j (get_or marks.set j false) (within j (cases_Bool (eqb (name_at types j) x)) l u) l };
        own = m.own ∙ sym (and-true (all (is_defined types) xs)) ∙ all-more true (lt-ltb (first_of types x) (length types) (omega arith));
      }
    where
      within : (j : ℕ) → (eqb (name_at types j) x ≡ true) ⊎ (eqb (name_at types j) x ≡ false) → j < length types → among x xs ≡ true → get_or marks.set j false ≡ (get_or marks.set j false || eqb (name_at types j) x)
      within j (inl d) l u = let g : name_at types j ≡ x = eqb-true (name_at types j) x d in let s : get_or marks.set j false ≡ true = m.holds.says j l ∙ rw g u in rw s
      within j (inr d) l u = rw d (sym (or-false (get_or marks.set j false)))

-- the name that a type ends in
module _ (t : Ty) where
  pub target-basic : (b : _) → t ≡ Ty.primitive b → target t ≡ []
  unfolding target
  target-basic b e = rw e

  pub target-named : (x : ℕ) → t ≡ Ty.named x → target t ≡ x ∷ []
  unfolding target
  target-named x e = rw e

  pub target-array : (b : Ty) (m : ℕ) → t ≡ Ty.array m b → target t ≡ target b
  unfolding target
  target-array b m e = rw e

-- what holds of some names holds of those that a type ends in besides
module _ (P : List ℕ → Type 0) (xs : List ℕ) (t : Ty) where
  pub target-one : (x : ℕ) → target t ≡ x ∷ [] → P (xs ++ (x ∷ [])) → P (xs ++ target t)
  target-one x e h = rw e h

-- the names that the types of fields end in: of the fields that are left, and of those before
pub record FieldsLeft (types : List TypeDef) (M : ℕ) (ts : List TagValue) (marks : Targets) (fs : List Declared) (ls : List DeclarationLayout) : Type 0 where
  pub rest : List Declared
  pub names : List ℕ
  pub laid : LaidAll M ts rest ls
  pub marked : Marked types marks names
  pub whole : names ++ join (map (λ f. target f.type) rest) ≡ join (map (λ f. target f.type) fs)

module _ (types : List TypeDef) (M : ℕ) (ts : List TagValue) (marks : Targets) (fs : List Declared) (ls : List DeclarationLayout) where
  pub fields-begin : LaidAll M ts fs ls → Marked types marks [] → FieldsLeft types M ts marks fs ls
  fields-begin h m = record { rest = fs; names = []; laid = h; marked = m; whole = refl }

  module _ (c : FieldsLeft types M ts marks fs ls) where
    pub fields-end : ls ≡ [] → Marked types marks (join (map (λ f. target f.type) fs))
    fields-end h =
        let e = none-laid (rw h at c.laid) in
        let f : c.names ≡ join (map (λ f. target f.type) fs) = sym (append-nil c.names) ∙ rw e at c.whole in
        rw f at c.marked

module _ (types : List TypeDef) (M : ℕ) (ts : List TagValue) (marks : Targets) (fs : List Declared) (l : DeclarationLayout) (ls : List DeclarationLayout) where
  -- one field more
  pub fields-next : (c : FieldsLeft types M ts marks fs (l ∷ ls)) (more : Targets) → ((f : FirstLaid M ts c.rest l ls) → Marked types more (c.names ++ target f.first.type)) → FieldsLeft types M ts more fs ls
  fields-next c more m = let f = first-laid c.laid in record {
    rest = f.rest;
    names = c.names ++ target f.first.type;
    laid = f.others;
    marked = m f;
    whole = append_assoc c.names (target f.first.type) (join (map (λ g. target g.type) f.rest)) ∙ rw f.whole at c.whole;
  }

-- what a definition goes on to
module _ (types : List TypeDef) (M : ℕ) (ts : List TagValue) (d : TypeDef) (q : ℕ) (D : Defined) (g : Described M ts d q D) where
  pub targets-enum : (y : ℕ) (s : Span) → D ≡ Defined.Enum y s → TargetsAre types (record { set = replicate 32 false; own = ltb 0 s.count }) (targets d.body) (own_body types d.body)
  unfolding Described targets own_body
  targets-enum y s e = let h = rw e at g in rw h.3 (go h.0 (sym h.1.many))
    where
      go : (vs : List ℕ) → length vs ≡ s.count → TargetsAre types (record { set = replicate 32 false; own = ltb 0 s.count }) (targets (Body.enum vs)) (own_body types (Body.enum vs))
      go [] i = record { holds = no-names types; own = le-ltb 0 s.count (omega arith) }
      go (v ∷ vs) i = record { holds = no-names types; own = lt-ltb 0 s.count (omega arith) }

  module _ (marks : Targets) where
    pub targets-record : (y : ℕ) (s : Span) → D ≡ Defined.Record y s →
        ((fs : List Declared) → Spans (declaration M) ts fs s → Marked types marks (join (map (λ f. target f.type) fs))) →
        TargetsAre types marks (targets d.body) (own_body types d.body)
    unfolding Described targets own_body
    targets-record y s e f = let h = rw e at g in rw h.3 (f h.0 h.1)

    pub targets-alias : (y p : ℕ) → D ≡ Defined.Alias y p → ((t : Ty) (s : ℕ) → ty M 8 ts p ≡ got t s → Marked types marks (target t)) → TargetsAre types marks (targets d.body) (own_body types d.body)
    unfolding Described targets own_body
    targets-alias y p e f = let h = rw e at g in rw h.2 (f h.0 q h.1)

-- where the definitions stand, their names stand
pub names-stand : (t : TypeTable) (types : List TypeDef) → Defines t types → NamesTypes t types
names-stand t types = named t.source.names t.source.tags.now t.source.values.now t.source.same_length t.places.now.at t.places.now.count types

-- the names that a name goes on to
module _ (types : List TypeDef) (x : ℕ) where
  pub goes_none : length types ≤ first_of types x → goes_on types x ≡ []
  unfolding goes_on definition_of
  goes_none h = rw (find_none (is_named x) types h, goes_on)

  pub goes_some : (k : ℕ) → k ≡ first_of types x → k < length types → goes_on types x ≡ targets (def_at types k).body
  unfolding goes_on definition_of
  goes_some k e h = rw e (rw (find-some (is_named x) types nowhere (omega arith), goes_on))

  pub first-name : first_of types x < length types → name_at types (first_of types x) ≡ x
  first-name h = eqb-true _ x (place-true (is_named x) types nowhere h)

  pub own-none : length types ≤ first_of types x → own_name types x ≡ false
  unfolding own_name definition_of
  own-none h = rw (find_none (is_named x) types h, own_name)

  pub own-some : (k : ℕ) → k ≡ first_of types x → k < length types → own_name types x ≡ own_body types (def_at types k).body
  unfolding own_name definition_of
  own-some k e h = rw e (rw (find-some (is_named x) types nowhere (omega arith), own_name))

-- what a name goes on to, by the definition that is found
module _ (types : List TypeDef) (x y : ℕ) (same : x ≡ y) where
  pub goes-nowhere : first_of types x ≡ length types → TargetsAre types (record { set = replicate 32 false; own = false }) (goes_on types y) (own_name types y)
  goes-nowhere h = rw (← same) (record { holds = rw (goes_none types x (omega arith)) (no-names types); own = sym (own-none types x (omega arith)) })

  pub goes_by : (k : ℕ) (marks : Targets) → k ≡ first_of types x → k < length types → TargetsAre types marks (targets (def_at types k).body) (own_body types (def_at types k).body) → TargetsAre types marks (goes_on types y) (own_name types y)
  goes_by k marks f h m = rw (← same) (record { holds = rw (goes_some types x k f h) m.holds; own = m.own ∙ sym (own-some types x k f h) })

-- a step of sets is a step of names
module _ (types : List TypeDef) (g : Graph) (e : Edges types g) (members : List Bool) (xs : List ℕ) (holds : NamesInSet types members xs) where
  pub holds-step : (more : List Bool) → ((j : ℕ) → j < g.count → (get_or more j false ≡ true) ↔ ((get_or members j false ≡ true) ⊎ Joined g members j)) → NamesInSet types more (one_step types xs)
  unfolding one_step
  holds-step more f = record { says = each }
    where
      each : (j : ℕ) → j < length types → get_or more j false ≡ among (name_at types j) (one_step types xs)
      each j h =
          let k = keep-among (λ y. among y xs || any (λ x. among y (goes_on types x)) xs) (name_at types j) (map (λ d. d.name) types) (among_self types j h) in
          let l : j < g.count = omega (arith, e.count) in
          iff _ _ (λ t. k ∙ in-names ((f j l).0 t)) (λ t. (f j l).1 (in-set (or_cases _ _ (sym k ∙ t))))
        where
          in-names : (get_or members j false ≡ true) ⊎ Joined g members j → (among (name_at types j) xs || any (λ x. among (name_at types j) (goes_on types x)) xs) ≡ true
          in-names (inl t) = or_left _ _ (sym (holds.says j h) ∙ t)
          in-names (inr (i, l, s, t)) =
              let m : i < length types = omega (arith, e.count) in
              or_right (among (name_at types j) xs) _ (any-intro (λ x. among (name_at types j) (goes_on types x)) (name_at types i) xs (sym (holds.says i m) ∙ s) (sym ((e.rows i m).holds.says j h) ∙ t))

          in-set : (among (name_at types j) xs ≡ true) ⊎ (any (λ x. among (name_at types j) (goes_on types x)) xs ≡ true) → (get_or members j false ≡ true) ⊎ Joined g members j
          in-set (inl t) = inl (holds.says j h ∙ t)
          in-set (inr t) = let a = any-elim (λ x. among (name_at types j) (goes_on types x)) xs t in inr (via a.0 a.1 a.2 (cases_lt (first_of types a.0) (length types)))
            where
              via : (x : ℕ) → among x xs ≡ true → among (name_at types j) (goes_on types x) ≡ true → (first_of types x < length types) ⊎ (length types ≤ first_of types x) → Joined g members j
              via x u v (inl l) =
                  let n : name_at types (first_of types x) ≡ x = first-name types x l in
                  (first_of types x, omega (arith, e.count), holds.says (first_of types x) l ∙ rw n u, (e.rows (first_of types x) l).holds.says j h ∙ rw n v)
              via x u v (inr l) = let w : among (name_at types j) [] ≡ true = rw (goes_none types x l) at v in absurd (true≢false (sym w))

-- the sets that are reached
module _ (types : List TypeDef) (xs ys : List ℕ) (n k : ℕ) (e : reached types n xs ≡ reached types (n - k) ys) where
  pub reached-step : k < n → reached types n xs ≡ reached types (n - (k + 1)) (one_step types ys)
  unfolding reached
  reached-step h = let f : n - k ≡ suc (n - (k + 1)) = omega arith in e ∙ rw f

  pub reached-end : n ≤ k → reached types n xs ≡ ys
  unfolding reached
  reached-end h = let f : n - k ≡ 0 = omega arith in e ∙ rw f

-- from a set that is closed, only its own are reached
module _ (types : List TypeDef) (g : Graph) (e : Edges types g) (members : List Bool) (settled : Acyclic types g members) where
  abbrev Inside : List ℕ → Type 0
  Inside xs = (j : ℕ) → j < length types → among (name_at types j) xs ≡ true → get_or members j false ≡ true

  step-inside : (xs : List ℕ) → Inside xs → Inside (one_step types xs)
  unfolding one_step
  step-inside xs f j h t =
      let k = keep-among (λ y. among y xs || any (λ x. among y (goes_on types x)) xs) (name_at types j) (map (λ d. d.name) types) (among_self types j h) in
      pick (or_cases _ _ (sym k ∙ t))
    where
      via : (x : ℕ) → among x xs ≡ true → among (name_at types j) (goes_on types x) ≡ true → (first_of types x < length types) ⊎ (length types ≤ first_of types x) → get_or members j false ≡ true
      via x u v (inl l) =
          let n : name_at types (first_of types x) ≡ x = first-name types x l in
          settled.closed (first_of types x) l (f (first_of types x) l (rw n u)) j h ((e.rows (first_of types x) l).holds.says j h ∙ rw n v)
      via x u v (inr l) = let w : among (name_at types j) [] ≡ true = rw (goes_none types x l) at v in absurd (true≢false (sym w))

      pick : (among (name_at types j) xs ≡ true) ⊎ (any (λ x. among (name_at types j) (goes_on types x)) xs ≡ true) → get_or members j false ≡ true
      pick (inl p) = f j h p
      pick (inr q) = let w = any-elim (λ x. among (name_at types j) (goes_on types x)) xs q in via w.0 w.1 w.2 (cases_lt (first_of types w.0) (length types))

  reached-inside : (m : ℕ) (xs : List ℕ) → Inside xs → Inside (reached types m xs)
  unfolding reached
  reached-inside zero xs f = f
  reached-inside (suc m) xs f = reached-inside m (one_step types xs) (step-inside xs f)

  -- one more whose own are all in the set
  module _ (i : ℕ) (h : i < length types) (room : i < length members) (within : IsWithin (length types) (row_at g i).set members) where
    itself-not : (m : ℕ) → among (name_at types i) (reached types m (goes_on types (name_at types i))) ≡ false
    itself-not m = pick (cases_Bool (get_or members i false)) (cases_Bool (among (name_at types i) (reached types m (goes_on types (name_at types i)))))
      where
        start : Inside (goes_on types (name_at types i))
        start j l t = within j l ((e.rows i h).holds.says j l ∙ t)

        pick : (get_or members i false ≡ true) ⊎ (get_or members i false ≡ false) →
            (among (name_at types i) (reached types m (goes_on types (name_at types i))) ≡ true) ⊎ (among (name_at types i) (reached types m (goes_on types (name_at types i))) ≡ false) →
            among (name_at types i) (reached types m (goes_on types (name_at types i))) ≡ false
        pick (inl s) t = settled.acyclic i h s m
        pick (inr s) (inl t) = absurd (true≢false (sym (reached-inside m (goes_on types (name_at types i)) start i h t) ∙ s))
        pick (inr s) (inr t) = t

    before : (a : ℕ) → get_or (set members i true) a false ≡ true → (a ≡ i → ⊥) → get_or members a false ≡ true
    before a t n = sym (get_or-set_other members i a true false n) ∙ t

    pub settled-more : Acyclic types g (set members i true)
    settled-more = record {
      closed = λ a l t j u s. member-more members i j room (own a l t (cases_eq a i) j u s);
      acyclic = λ a l t. free a l t (cases_eq a i);
    }
      where
        own : (a : ℕ) → a < length types → get_or (set members i true) a false ≡ true → (a ≡ i) ⊎ (a ≡ i → ⊥) → IsWithin (length types) (row_at g a).set members
        own a l t (inl f) = rw f within
        own a l t (inr n) = settled.closed a l (before a t n)

        free : (a : ℕ) → a < length types → get_or (set members i true) a false ≡ true → (a ≡ i) ⊎ (a ≡ i → ⊥) → (m : ℕ) → among (name_at types a) (reached types m (goes_on types (name_at types a))) ≡ false
        free a l t (inl f) m = rw f (itself-not m)
        free a l t (inr n) m = settled.acyclic a l (before a t n) m

pub settled-none : (types : List TypeDef) (g : Graph) → Acyclic types g (replicate 32 false)
settled-none types g = record { closed = λ i h e. absurd (no i e); acyclic = λ i h e. absurd (no i e) }
  where
    no : (i : ℕ) → get_or (replicate 32 false) i false ≡ true → ⊥
    no i e = true≢false (sym e ∙ empty-at 32 i)

-- the first definition that reaches itself, from the i-th on
pub record Passed (types : List TypeDef) (i : ℕ) : Type 0 where
  pub earlier : List ℕ
  pub from : first_cycle types [] types ≡ i + first_cycle types earlier (drop i types)
  pub are : (x : ℕ) → among x earlier ≡ ltb (first_of types x) i

pub passed_none : (types : List TypeDef) → Passed types 0
passed_none types = record { earlier = []; from = omega arith; are = λ x. sym (le-ltb (first_of types x) 0 (omega arith)) }

module _ (types : List TypeDef) (i : ℕ) (c : Passed types i) where
  pub passed-all : i ≡ length types → first_cycle types [] types ≡ length types
  unfolding first_cycle
  passed-all f = c.from ∙ rw f (rw (drop-length types) (omega arith))

  module _ (h : i < length types) where
    itself : first_of types (name_at types i) ≤ i
    itself = place-before (is_named (name_at types i)) types nowhere i h (eq-eqb (name_at types i) (name_at types i) refl)

    are-more : (x : ℕ) → among x (name_at types i ∷ c.earlier) ≡ ltb (first_of types x) (i + 1)
    are-more x = go (eqb x (name_at types i)) refl
      where
        go : (b : Bool) → eqb x (name_at types i) ≡ b → (b || among x c.earlier) ≡ ltb (first_of types x) (i + 1)
        go true e =
            let f : x ≡ name_at types i = eqb-true x (name_at types i) e in
            sym (lt-ltb (first_of types x) (i + 1) (rw f (omega (arith, itself))))
        go false e = c.are x ∙ iff _ _ up down
          where
            up : ltb (first_of types x) i ≡ true → ltb (first_of types x) (i + 1) ≡ true
            up t = lt-ltb (first_of types x) (i + 1) (omega (arith, ltb-true (first_of types x) i t))

            down : ltb (first_of types x) (i + 1) ≡ true → ltb (first_of types x) i ≡ true
            down t = pick (ltb (first_of types x) i) refl
              where
                pick : (b : Bool) → ltb (first_of types x) i ≡ b → b ≡ true
                pick true s = refl
                pick false s =
                    let f : first_of types x ≡ i = omega (arith, ltb-true (first_of types x) (i + 1) t, ltb-false (first_of types x) i s) in
                    let g : name_at types (first_of types x) ≡ x = first-name types x (omega arith) in
                    absurd (eqb-false x (name_at types i) e (sym g ∙ ap (name_at types) f))

    -- the i-th is the first of its name
    module _ (first : i ≡ first_of types (name_at types i)) (b : Bool) (self : b ≡ among (name_at types i) (reached types (length types) (goes_on types (name_at types i)))) where
      same_body : b ≡ reaches_itself types (def_at types i)
      unfolding reaches_itself
      same_body = self ∙ rw (goes_some types (name_at types i) i first h)

      new : not (among (name_at types i) c.earlier) ≡ true
      new = rw (c.are (name_at types i), le-ltb (first_of types (name_at types i)) i (omega arith))

      pub passed_here : b ≡ true → i ≡ first_cycle types [] types
      unfolding first_cycle
      passed_here t = sym (c.from ∙ rw (drop-cons types i nowhere (omega arith)) (rw (new, ← same_body, t) (omega arith)))

      pub passed_on : b ≡ false → Passed types (i + 1)
      unfolding first_cycle
      passed_on t = record {
        earlier = name_at types i ∷ c.earlier;
        from = c.from ∙ rw (drop-cons types i nowhere (omega arith)) (rw (new, ← same_body, t, add-one i) (omega arith));
        are = are-more;
      }

    -- the i-th is not the first of its name
    pub passed_over : (i ≡ first_of types (name_at types i) → ⊥) → Passed types (i + 1)
    unfolding first_cycle
    passed_over e =
        let l : first_of types (name_at types i) < i = omega (arith, itself) in
        record {
          earlier = name_at types i ∷ c.earlier;
          from = c.from ∙ rw (drop-cons types i nowhere (omega arith)) (rw (c.are (name_at types i), lt-ltb (first_of types (name_at types i)) i l, add-one i) (omega arith));
          are = are-more;
        }

-- is what was found of a name this definition?
pub found-this : (types : List TypeDef) (x y i : ℕ) (o : Option ℕ) → x ≡ y → FoundFirst types x o → option_eq eqb o (Some i) ≡ true → i ≡ first_of types y
found-this types x y i None s f e = absurd (true≢false (sym e))
found-this types x y i (Some k) s f e = let g : k ≡ i = eqb-true k i e in rw (← g, ← s) f.0

pub found-other : (types : List TypeDef) (x y i : ℕ) (o : Option ℕ) → x ≡ y → FoundFirst types x o → option_eq eqb o (Some i) ≡ false → i < length types → i ≡ first_of types y → ⊥
found-other types x y i None s f e h g = let k : first_of types y ≡ length types = rw s at f in omega arith
found-other types x y i (Some k) s f e h g = eqb-false k i e (f.0 ∙ rw s (sym g))

-- is the i-th a cycle? of the definitions of which T and E are known
abbrev pub Told : (T E : List TypeDef → Type 0) → Bool → ℕ → Type 0
Told T E b i = (types : List TypeDef) → T types → E types → IsTrue b ↔ IsCycle types i

-- the cycles among the first definitions tell which is the first of all
module _ (types : List TypeDef) where
  pub passed-until : (i : ℕ) → i ≤ length types → ((k : ℕ) → k < i → IsCycle types k → ⊥) → Passed types i
  passed-until zero h f = passed_none types
  passed-until (suc i) h f =
      rw (← add-one i) (pick (passed-until i (omega arith) (λ k l. f k (omega arith))) (cases_eq i (first_of types (name_at types i))) (cases_Bool (among (name_at types i) (reached types (length types) (goes_on types (name_at types i))))))
    where
      pick : Passed types i → (i ≡ first_of types (name_at types i)) ⊎ (i ≡ first_of types (name_at types i) → ⊥) →
          (among (name_at types i) (reached types (length types) (goes_on types (name_at types i))) ≡ true) ⊎ (among (name_at types i) (reached types (length types) (goes_on types (name_at types i))) ≡ false) → Passed types (i + 1)
      pick c (inl e) (inl t) = absurd (f i (omega arith) (e, t))
      pick c (inl e) (inr t) = passed_on types i c (omega arith) e false (sym t) refl
      pick c (inr e) t = passed_over types i c (omega arith) e

  none-passed : ((k : ℕ) → k < length types → IsCycle types k → ⊥) → first_cycle types [] types ≡ length types
  none-passed f = passed-all types (length types) (passed-until (length types) (omega arith) f) refl

  pub no-cycle : ((i : ℕ) → i < length types → among (name_at types i) (reached types (length types) (goes_on types (name_at types i))) ≡ false) → first_cycle types [] types ≡ length types
  no-cycle none = none-passed (λ k l s. absurd (true≢false (sym s.1 ∙ none k l)))

  -- what a search for the first found, by what is told of each
  module _ (T E : List TypeDef → Type 0) (t : T types) (e : E types) where
    pub first-found : (n : ℕ) (o : Option ℕ) → length types ≡ n → MatchOption o ((k : ℕ) → 0 ≤ k → k < n → Told T E false k) (λ i. (0 ≤ i) × (i < n) × Told T E true i × ((k : ℕ) → 0 ≤ k → k < i → Told T E false k)) →
        MatchOption o (first_cycle types [] types ≡ length types) (λ i. (i ≡ first_cycle types [] types) × (i < length types))
    first-found n None l f = none-passed (λ k h s. absurd (true≢false (sym ((f k (omega arith) (omega (arith, l)) types t e).1 s))))
    first-found n (Some i) l (z, h, y, f) =
        let s : IsCycle types i = (y types t e).0 refl in
        let p : Passed types i = passed-until i (omega (arith, l)) (λ k j r. absurd (true≢false (sym ((f k (omega arith) j types t e).1 r)))) in
        (passed_here types i p (omega (arith, l)) s.0 true (sym s.1) refl, omega (arith, l))
