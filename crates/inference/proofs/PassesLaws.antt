-- Inference step by step: ports, one name, the left names, an equation, a pass, the passes.
-- Assumes nothing.
use Rattle.std.specs.Prelude.{Result, Ok, Err}
use Prim.Native.Nat.{ℕ, zero, suc, ◌+◌, ◌-◌, ◌*◌, ◌≤◌, ◌<◌, min}
use mathlib.Core.Path.{◌≡◌, refl, sym, ◌∙◌, ap, subst}
use mathlib.Core.List.Memᴰ
use mathlib.Core.List.{List, [], ◌∷◌, ◌++◌, map, Memᴰ}
use mathlib.Core.Bool.{Bool, true, false, ◌||◌}
use mathlib.Core.Option.{Option, none, some}
use mathlib.Core.Logic.{◌⊎◌, inl, inr}
use native.Mathlib.Omega.{arith}
use native.Mathlib.Numerals.{add-one}
use lib.Dec.{eqb}
use lib.ListN.{length, get_or, set, drop, drop_of_length-le}
use lib.Seq.{drop-cons}
use Rattle.std.proofs.Math.Bool.{or_assoc, or_comm}
use Rattle.std.proofs.lemmas.Bool.{or_from}
use Rattle.std.specs.Prelude.{Result, Ok, Err}
use Rattle.std.specs.Prelude as maybe
use Rattle.definitions.specs.Lists.{choose, among}
use Rattle.definitions.specs.Tokens.{TagValue}
use Rattle.definitions.specs.Tree.{Declared, Expr, Equation, Node}
use Rattle.definitions.specs.Reading.{Got, got, times}
use Rattle.definitions.specs.Grammar.{name, expr, equation}
use Rattle.definitions.specs.Clock.{Clock, base}
use Rattle.definitions.specs.InferClocks.{Natural, Formed, deep, formed, ◌>>=◌, Clocks, clock_of, Pass, Inferred, natural, ports, is_port, has_clock, give, give_natural, pass, passes_from, inferred}
use Rattle.shapes.proofs.Facts.{eqb-sym}
use Rattle.clock_tables.specs.declared.clock.Clock as struct
use Rattle.clock_tables.specs.declared.TooDeep.{TooDeep}
use Rattle.clock_tables.specs.Value.{value_of, natural_of}
use Rattle.clock_tables.specs.Environment.{env_at, Agrees, Assigned, Cleared}
use Rattle.clock_tables.proofs.EnvironmentLaws.{agrees-assign}
use Rattle.grammar.specs.Read.{tokens_of}
use Rattle.grammar.specs.declared.source.Source.{Source}
use Rattle.grammar.specs.Outcome.{outcome}
use Rattle.grammar.proofs.Laws.{tokens-length}
use Rattle.grammar.proofs.Got.{tagged-value, times-nil, times-cons}
use Rattle.layout.proofs.TypedefsLaws.{filled_more}
use Rattle.layout.specs.Walk.{LaidAll}
use Rattle.layout.proofs.Walks.{first-laid}
use Rattle.operands.proofs.Laws.{name-place}
use Rattle.layout.specs.Spans.{end_of, Spanned}
use Rattle.layout.specs.Laid.{LaidEquation}
use Rattle.layout.specs.declared.DeclarationLayout.{DeclarationLayout}
use Rattle.layout.specs.declared.Span.{Span}
use Rattle.layout.proofs.Laws.{laid-equation}
use Rattle.inference.specs.declared.PassTables.{PassTables}
use Rattle.inference.specs.declared.Round.{Round}
use Rattle.inference.specs.Passes.{RoomForNames, Marked, PortsPlaced, PassSoFar, Kept, on_clock, given, stepped, Infers}
use Rattle.inference.specs.Settled.{end_from, place_of, Ended, Unchanged, Quiet, Calm, Calms, dated, dates, Moves, Turned, Gone}
use Rattle.inference.proofs.Naming.{each-name}
use Rattle.inference.proofs.Calm.{moves-none, moves-all, idle-step, calm-still, calm-idle, calm_free, calm-given}

-- ---- a name in the code's tables
has_on : (clocks : Clocks) (x : ℕ) (c : Clock) → on_clock (clock_of clocks x) c ≡ has_clock clocks x c
has_on clocks x c = go (clock_of clocks x)
  where
    go : (o : Option Clock) → on_clock o c ≡ (elim o [ none ↦ false | some d ↦ on_clock (some d) c ])
    go none = refl
    go (some d) = refl

-- ---- one port
pub names-room-kept : {m : ℕ} {env env' : List ℕ} {marks marks' : List Bool} → length env' ≡ length env → length marks' ≡ length marks → RoomForNames m env marks → RoomForNames m env' marks'
names-room-kept e k r = record { clocked = omega (arith, e, r.clocked); marked = omega (arith, k, r.marked) }

-- the first of a list put in its place
shift : {A : Type 0} (a b : Bool) (u v w : A) → v ≡ choose (a || false) u w → choose b u v ≡ choose (a || b) u w
shift true true u v w e = refl
shift true false u v w e = e
shift false true u v w e = refl
shift false false u v w e = e

-- ---- a list of ports
abbrev name_of : Declared → ℕ
name_of d = d.name

pub places-step : (m : ℕ) (t : List ℕ) (p : List Bool) (t' : List ℕ) (p' : List Bool) (t₀ : List ℕ) (p₀ : List Bool) (rest l : List ℕ) (x : ℕ) → PortsPlaced m t' p' [] t p (x ∷ []) → PortsPlaced m t p (x ∷ rest) t₀ p₀ l → PortsPlaced m t' p' rest t₀ p₀ l
places-step m t p t' p' t₀ p₀ rest l x a b =
    record {
      clocks = λ y u. shift (eqb y x) (among y rest) (some base) (env_at t' y) (env_at t y) (a.clocks y u) ∙ b.clocks y u;
      marks = λ y u. shift (eqb y x) (among y rest) true (get_or p' y false) (get_or p y false) (a.marks y u) ∙ b.marks y u;
    }

-- those that a walk has still to give are left to be put in their places
pub record Placing (s : Source) (t : List ℕ) (p : List Bool) (t₀ : List ℕ) (p₀ : List Bool) (l : List Declared) (ls : List DeclarationLayout) : Type 0 where
  pub rest : List Declared
  pub laid : LaidAll s.names (tokens_of s) rest ls
  pub places : PortsPlaced s.names t p (map name_of rest) t₀ p₀ (map name_of l)

-- a name that was read is one of the sheet
module _ (s : Source) where
  name-low : (p x q : ℕ) → name s.names (tokens_of s) p ≡ got x q → x < s.names
  unfolding name
  name-low p x q g =
      let l = tokens-length s.tags.now s.values.now s.same_length in
      let w = name-place s.names (tokens_of s) p x q g in
      (tagged-value s.tags.now s.values.now s.same_length p 4 s.names x q (omega arith) g).2

  -- the next declaration
  pub placing-step : {t t₀ : List ℕ} {p p₀ : List Bool} {l : List Declared} {o : DeclarationLayout} {ls : List DeclarationLayout} (t' : List ℕ) (p' : List Bool) → Placing s t p t₀ p₀ l (o ∷ ls)
      → ((m : ℕ) → RoomForNames m t p → o.name < m → PortsPlaced m t' p' [] t p (o.name ∷ [])) → RoomForNames s.names t p
      → Placing s t' p' t₀ p₀ l ls
  placing-step {t} {t₀} {p} {p₀} {l} {o} {ls} t' p' h set u =
      let f = first-laid h.laid in
      let w : PortsPlaced s.names t p (f.first.name ∷ map name_of f.rest) t₀ p₀ (map name_of l) = rw f.whole at h.places in
      let y : PortsPlaced s.names t' p' [] t p (f.first.name ∷ []) = rw f.laid.named at (set s.names u (rw f.laid.named (name-low _ _ _ f.laid.label))) in
      record { rest = f.rest; laid = f.others; places = places-step s.names t p t' p' t₀ p₀ (map name_of f.rest) (map name_of l) f.first.name y w }

-- ---- the tables of a pass
pub kept-all : (t : PassTables) → Kept t t
kept-all t = record { same_env = refl; same_since = refl; env_length = refl; since_length = refl }

pub kept-then : (t t' t'' : PassTables) → Kept t t' → Kept t' t'' → Kept t t''
kept-then t t' t'' k h =
    record {
      same_env = h.same_env ∙ k.same_env;
      same_since = h.same_since ∙ k.same_since;
      env_length = h.env_length ∙ k.env_length;
      since_length = h.since_length ∙ k.since_length;
    }

pub infers-in : (t t' : List ℕ) (m : ℕ) (r : Result ℕ TooDeep) (v : Formed Inferred) → t' ≡ t → Infers t m r v → Infers t' m r v
infers-in t t' m r v e h = subst (λ (x : List ℕ). Infers x m r v) (sym e) h

-- ---- one left name
module _ (t : List ℕ) (marks : List Bool) (since : List ℕ) (present : ℕ) (n : Node) (m : ℕ) (k : Marked marks m (ports n)) (x : ℕ) (c : Clock) (l : x < m) (changed : Bool) (p : Pass) (s : PassSoFar t m changed p) where
  -- a name that keeps its clock
  kept : (is_port n x || has_clock p.clocks x c) ≡ true → PassSoFar t m changed (given n c x p) × (since ≡ dated n c present x p since)
  kept e = rw e (s, refl)

  module _ (b : Bool) (i : b ≡ get_or marks x false) (j : b ≡ false) (d : Bool) (u : d ≡ on_clock (env_at t x) c) where
    on : d ≡ has_clock p.clocks x c
    on = u ∙ (ap (λ (o : Option Clock). on_clock o c) (s.agrees.same x l) ∙ has_on p.clocks x c)

    pub name_new : (t' since' : List ℕ) → d ≡ false → Assigned t t' x c → since' ≡ set since x present → PassSoFar t' m true (given n c x p) × (since' ≡ dated n c present x p since)
    name_new t' since' v a e =
        rw (or_from (is_port n x) (has_clock p.clocks x c) (sym (k.same x l) ∙ (sym i ∙ j)) (sym on ∙ v))
        (record { agrees = agrees-assign t t' m x c p.clocks l a s.agrees; changes = refl }, e)

-- ---- the left names
-- these names are left to be given the clock c; then the pass stands at f, and the names changed as s says
pub record Giving (R : Round) (n : Node) (c : Clock) (T : PassTables) (made : Bool) (rest : List ℕ) (f : Pass) (s : List ℕ) : Type 0 where
  pub pass : Pass
  pub stands : PassSoFar T.env.now R.source.now.names made pass
  pub final : give n c rest pass ≡ f
  pub changes : dates n c R.present rest pass T.since.now ≡ s

-- the names that were read are names of the sheet
module _ (s : Source) where
  names-below : (count at : ℕ) (xs : List ℕ) (q : ℕ) → times count (name s.names) (tokens_of s) at ≡ got xs q → (i : ℕ) → i < length xs → get_or xs i 0 < s.names
  names-below zero at xs q g i h = let e = times-nil (name s.names) (tokens_of s) 0 at xs q refl g in absurd (omega (arith, h, ap length e.0))
  names-below (suc count) at xs q g i h =
      let k = times-cons (name s.names) (tokens_of s) (suc count) at xs q (λ y. omega (arith, y)) g in
      let b : suc count - 1 ≡ count = omega arith in
      go i (omega (arith, h, ap length k.5)) k.0 k.2 k.5 (name-low s at k.0 k.1 k.3) (names-below count k.1 k.2 q (rw b at k.4))
    where
      go : (i : ℕ) → i < length xs → (x : ℕ) (rest : List ℕ) → xs ≡ x ∷ rest → x < s.names → ((j : ℕ) → j < length rest → get_or rest j 0 < s.names) → get_or xs i 0 < s.names
      go zero u x rest e v r = rw e v
      go (suc j) u x rest e v r = rw e (r j (omega (arith, u, ap length e)))

  pub name-below : (count at : ℕ) (names xs : List ℕ) (q : ℕ) → names ≡ xs → times count (name s.names) (tokens_of s) at ≡ got xs q → (i : ℕ) → i < length names → get_or names i 0 < s.names
  name-below count at names xs q e g i h = rw e (names-below count at xs q g i (omega (arith, h, ap length e)))

module _ (R : Round) (n : Node) (c : Clock) (T : PassTables) (names : List ℕ) (f : Pass) (s : List ℕ) where
  pub giving-end : (made : Bool) (i : ℕ) → length names ≤ i → Giving R n c T made (drop i names) f s → PassSoFar T.env.now R.source.now.names made f × (T.since.now ≡ s)
  unfolding give dates
  giving-end made i z h =
      let e : drop i names ≡ [] = drop_of_length-le names z in
      let j : h.pass ≡ f = rw e at h.final in
      let k : T.since.now ≡ s = rw e at h.changes in
      (rw (sym j) h.stands, k)

  either-way : (x y b : Bool) → (y || (x || b)) ≡ ((x || y) || b)
  either-way true true b = refl
  either-way true false b = refl
  either-way false true b = refl
  either-way false false b = refl

  pub giving-step : (T' : PassTables) (changed r before : Bool) (i x : ℕ) → i < length names → x ≡ get_or names i 0 → x < R.source.now.names → Marked R.marks.now R.source.now.names (ports n)
      → ((n : Node) (p : Pass) (m : ℕ) (b : Bool) → Marked R.marks.now m (ports n) → x < m → PassSoFar T.env.now m b p → PassSoFar T'.env.now m (r || b) (given n c x p) × (T'.since.now ≡ dated n c R.present x p T.since.now))
      → Giving R n c T (changed || before) (drop i names) f s → Giving R n c T' ((changed || r) || before) (drop (i + 1) names) f s
  unfolding give dates
  giving-step T' changed r before i x z e below m o h =
      let k : drop i names ≡ x ∷ drop (i + 1) names = rw (add-one i, e) (drop-cons names i 0 z) in
      let y = o n h.pass R.source.now.names (changed || before) m below h.stands in
      let d : dates n c R.present (drop (i + 1) names) (given n c x h.pass) (dated n c R.present x h.pass T.since.now) ≡ s = rw k at h.changes in
      record {
        pass = given n c x h.pass;
        stands = subst (λ (b : Bool). PassSoFar T'.env.now R.source.now.names b (given n c x h.pass)) (either-way changed r before) y.0;
        final = rw k at h.final;
        changes = rw y.1 d;
      }

-- ---- where equations stand
-- an equation that was read ends where the table says
pub end_is : (M : ℕ) (ts : List TagValue) (p : ℕ) (e : Equation) (u : ℕ) → equation M ts p ≡ got e u → end_from M ts p ≡ u
end_is M ts p e u g = ap (λ (x : Got Equation). end_of (outcome x) p) g

place-shift : (M : ℕ) (ts : List TagValue) (k p : ℕ) → place_of M ts p (suc k) ≡ place_of M ts (end_from M ts p) k
unfolding place_of
place-shift M ts zero p = refl
place-shift M ts (suc k) p = ap (end_from M ts) (place-shift M ts k p)

-- each of so many was read at its place
pub stands_at : (M : ℕ) (ts : List TagValue) (n k p : ℕ) (l : List Equation) (q : ℕ) → times n (equation M) ts p ≡ got l q → k < n → (e : Equation) × (u : ℕ) × (equation M ts (place_of M ts p k) ≡ got e u)
unfolding place_of
stands_at M ts n zero p l q g h = let t = times-cons (equation M) ts n p l q (λ z. omega arith) g in (t.0, t.1, t.3)
stands_at M ts n (suc k) p l q g h =
    let t = times-cons (equation M) ts n p l q (λ z. omega arith) g in
    let r = stands_at M ts (n - 1) k t.1 t.2 q t.4 (omega arith) in
    (r.0, r.1, ap (equation M ts) (place-shift M ts k p ∙ ap (λ (x : ℕ). place_of M ts x k) (end_is M ts p t.0 t.1 t.3)) ∙ r.2)

-- the first of the 64 ends, as many as there are equations
pub front-fits : (n count : ℕ) → n ≡ min 64 count → n ≤ 64
front-fits n count h = omega (arith, h)

pub front-inside : (m n i k count : ℕ) → n ≡ min 64 count → m ≡ n → n ≤ i → k < count → k < 64 → (k < m) × (k < i)
front-inside m n i k count h e b j l = (omega (arith, h, e, j, l), omega (arith, h, b, j, l))

-- one more end is in the table
pub ends_more : (M : ℕ) (ts : List TagValue) (n p i place end : ℕ) (ends : List ℕ) (l : List Equation) (q : ℕ) → times n (equation M) ts p ≡ got l q → i < n → i < length ends → ((e : Equation) (u : ℕ) → equation M ts place ≡ got e u → end ≡ u) →
    (place ≡ place_of M ts p i) × ((k : ℕ) → k < i → get_or ends k 0 ≡ place_of M ts p (suc k)) → (end ≡ place_of M ts p (i + 1)) × ((k : ℕ) → k < i + 1 → get_or (set ends i end) k 0 ≡ place_of M ts p (suc k))
unfolding place_of
ends_more M ts n p i place end ends l q g h b e f =
    let a = stands_at M ts n i p l q g h in
    let r : equation M ts place ≡ got a.0 a.1 = ap (equation M ts) f.0 ∙ a.2 in
    let m : end ≡ end_from M ts (place_of M ts p i) = e a.0 a.1 r ∙ sym (end_is M ts (place_of M ts p i) a.0 a.1 a.2) in
    (m ∙ ap (place_of M ts p) (sym (add-one i)), filled_more (λ k. place_of M ts p (suc k)) ends i end b f.1 m)

-- ---- an equation that is read
-- where its parts stand
pub lies : (s : Source) (at : ℕ) (l : Span) → Spanned (name s.names) s.tags.now s.values.now at l → (e : Equation) (q : ℕ) → equation s.names (tokens_of s) at ≡ got e q → LaidEquation s.names (tokens_of s) e q l (end_of (outcome (expr s.names 32 (tokens_of s) l.end)) at)
lies s at l i e q g = laid-equation s.tags.now s.values.now s.same_length s.names at l i _ (λ a u h. ap (λ (x : Got Expr). end_of (outcome x) at) h) e q g

module _ (n : Node) (e : Equation) (p : Pass) (present : ℕ) (since : List ℕ) (f : Result (maybe.Option struct.Clock) TooDeep) (h : natural_of f ≡ natural p.clocks e.right) where
  step : (v : Natural) → natural_of f ≡ v → stepped n e p ≡ (v >>= λ o. formed (give_natural n o e.left p))
  step v i = ap (λ (w : Natural). w >>= λ o. formed (give_natural n o e.left p)) (sym h ∙ i)

  pub equation-free : (t : List ℕ) (m : ℕ) (changed : Bool) → f ≡ Ok maybe.None → PassSoFar t m changed p → Turned n e present since since t m p changed (Ok false)
  unfolding Turned
  equation-free t m changed i s = (p, step (formed none) (ap natural_of i), s, moves-none present since p.clocks, calm_free n e p present since (sym h ∙ ap natural_of i))

  pub equation-on : (c : struct.Clock) (t since' : List ℕ) (m : ℕ) (before made : Bool) → f ≡ Ok (maybe.Some c) →
      PassSoFar t m (made || before) (give n (value_of c) e.left p) × (since' ≡ dates n (value_of c) present e.left p since) → Turned n e present since since' t m p before (Ok made)
  unfolding Turned
  equation-on k t since' m before made i s =
      let c = value_of k in
      rw s.1 (give n c e.left p, step (formed (some c)) (ap natural_of i), s.0, moves-all n c present e.left p since, calm-given n e p present since c (sym h ∙ ap natural_of i))

  pub equation-deep : (d u : TooDeep) (t since' : List ℕ) (m : ℕ) (before : Bool) → f ≡ Err d → Turned n e present since since' t m p before (Err u)
  unfolding Turned
  equation-deep d u t since' m before i = step deep (ap natural_of i)

-- ---- an equation that need not be read
pub equation-calm : (s : Source) (T : PassTables) (made present at end : ℕ) (changed : Bool) → Quiet s.tags.now s.values.now T.since.now made at end → (n : Node) (p : Pass) (e : Equation) → equation s.names (tokens_of s) at ≡ got e end → PassSoFar T.env.now s.names changed p → Calm n T.since.now made p.clocks e →
    Turned n e present T.since.now T.since.now T.env.now s.names p changed (Ok false)
unfolding Turned
equation-calm s T made present at end changed k n p e g f h =
    let i = h.idle k.later (each-name s.names s.tags.now s.values.now s.same_length (Unchanged T.since.now made) at e end g k.settled) in
    (p, idle-step n e p i, f, moves-none present T.since.now p.clocks, calm-idle n T.since.now present p.clocks e i)

-- ---- a pass
stepped-pass : (n : Node) (e : Equation) (es : List Equation) (p : Pass) → pass n (e ∷ es) p ≡ (stepped n e p >>= λ r. pass n es r)
unfolding pass
stepped-pass n e es p = go (natural p.clocks e.right)
  where
    go : (v : Natural) → (v >>= λ o. pass n es (give_natural n o e.left p)) ≡ ((v >>= λ o. formed (give_natural n o e.left p)) >>= λ r. pass n es r)
    go deep = refl
    go (formed o) = refl

-- the first of a list, and another
is-first : (l : List Equation) (a : Equation) (rest : List Equation) → l ≡ a ∷ rest → Memᴰ a l
is-first l a rest e = rw e (Memᴰ.head refl)

is-other : (b : Equation) (l : List Equation) (a : Equation) (rest : List Equation) → l ≡ a ∷ rest → Memᴰ b rest → Memᴰ b l
is-other b l a rest e m = rw e (Memᴰ.tail m)

-- i of the equations es have had their turn in the pass `present`; then the pass is f
pub record Going (R : Round) (n : Node) (es : List Equation) (at : ℕ) (T : PassTables) (changed : Bool) (count i place q : ℕ) (f : Formed Pass) : Type 0 where
  pub rest : List Equation
  pub so_far : Pass
  pub here : place ≡ place_of R.source.now.names (tokens_of R.source.now) at i
  pub items : times (count - i) (equation R.source.now.names) (tokens_of R.source.now) place ≡ got rest q
  pub stands : PassSoFar T.env.now R.source.now.names changed so_far
  pub final : pass n rest so_far ≡ f
  pub ahead : Calms n T.since.now (R.present - 1) so_far.clocks rest
  pub behind : (e : Equation) → Memᴰ e es → Memᴰ e rest ⊎ Calm n T.since.now R.present so_far.clocks e

pub going_start : (R : Round) (n : Node) (T : PassTables) (k at q : ℕ) (es : List Equation) (clocks : Clocks) → times k (equation R.source.now.names) (tokens_of R.source.now) at ≡ got es q → Agrees T.env.now R.source.now.names clocks → Calms n T.since.now (R.present - 1) clocks es →
    Going R n es at T false k 0 at q (pass n es (record { changed = false; clocks = clocks }))
unfolding place_of
going_start R n T k at q es clocks g a h =
    let e : k - 0 ≡ k = omega arith in
    record { rest = es; so_far = record { changed = false; clocks = clocks }; here = refl; items = rw e g; stands = record { agrees = a; changes = refl }; final = refl; ahead = h; behind = λ e m. inl m }

pub going_end : (R : Round) (n : Node) (es : List Equation) (at : ℕ) (T : PassTables) (changed : Bool) (count i place q : ℕ) (f : Formed Pass) → count ≤ i → Going R n es at T changed count i place q f → Gone n es R.present T.since.now T.env.now R.source.now.names (Ok changed) f
unfolding Gone pass
going_end R n es at T changed count i place q f z h =
    let e = times-nil (equation R.source.now.names) (tokens_of R.source.now) (count - i) place h.rest q (omega arith) h.items in
    let i : formed h.so_far ≡ f = rw e.0 at h.final in
    (h.so_far, sym i, h.stands, record { each = λ a m. last a e.0 (h.behind a m) })
  where
    last : (a : Equation) → h.rest ≡ [] → Memᴰ a h.rest ⊎ Calm n T.since.now R.present h.so_far.clocks a → Calm n T.since.now R.present h.so_far.clocks a
    last a e (inl m) = absurd (Memᴰ.not-nil (rw e at m))
    last a e (inr c) = c

module _ (R : Round) (n : Node) (es : List Equation) (at : ℕ) (T T' : PassTables) (ends : List ℕ) (changed : Bool) (count i place end q : ℕ) (f : Formed Pass) (r : Result Bool TooDeep) (z : i < count) (m : Marked R.marks.now R.source.now.names (ports n)) (E : Ended R.source.now.names (tokens_of R.source.now) at count ends)
    (D : let s = R.source.now in (e : Equation) (u : ℕ) → equation s.names (tokens_of s) place ≡ got e u → (i < 64 → get_or ends i 0 ≡ end_from s.names (tokens_of s) place) → end ≡ end_from s.names (tokens_of s) place)
    (W : let s = R.source.now in (n : Node) (p : Pass) (e : Equation) (b : Bool) → Marked R.marks.now s.names (ports n) → equation s.names (tokens_of s) place ≡ got e end → PassSoFar T.env.now s.names b p → Calm n T.since.now (R.present - 1) p.clocks e → Turned n e R.present T.since.now T'.since.now T'.env.now s.names p b r)
    (h : Going R n es at T changed count i place q f) where
  abbrev M : ℕ
  M = R.source.now.names

  abbrev ts : List TagValue
  ts = tokens_of R.source.now

  abbrev present : ℕ
  present = R.present

  -- the table says where the equation ends
  ends_there : end ≡ end_from M ts place
  unfolding place_of
  ends_there =
      let k = times-cons (equation M) ts (count - i) place h.rest q (λ y. omega (arith, y, z)) h.items in
      D k.0 k.1 k.3 (λ l. E.ends_at i z l ∙ ap (end_from M ts) (sym h.here))

  -- the next equation, and its turn
  record Next : Type 0 where
    pub one : Equation
    pub others : List Equation
    pub items : times (count - (i + 1)) (equation M) ts end ≡ got others q
    pub whole : h.rest ≡ one ∷ others
    pub turned : Turned n one present T.since.now T'.since.now T'.env.now M h.so_far changed r

  next : Next
  next =
      let k = times-cons (equation M) ts (count - i) place h.rest q (λ y. omega (arith, y, z)) h.items in
      let e : end ≡ k.1 = ends_there ∙ ap (λ (x : Got Equation). end_of (outcome x) place) k.3 in
      let j : count - (i + 1) ≡ count - i - 1 = omega arith in
      record {
        one = k.0;
        others = k.2;
        items = rw (e, j) k.4;
        whole = k.5;
        turned = W n h.so_far k.0 changed m (rw e k.3) h.stands (h.ahead.each k.0 (is-first h.rest k.0 k.2 k.5));
      }

  pub going_step : (b : Bool) → r ≡ Ok b → Going R n es at T' (changed || b) count (i + 1) end q f
  unfolding Turned place_of
  going_step b j =
      let k = next in
      let x : Turned n k.one present T.since.now T'.since.now T'.env.now M h.so_far changed (Ok b) = subst (λ (y : Result Bool TooDeep). Turned n k.one present T.since.now T'.since.now T'.env.now M h.so_far changed y) j k.turned in
      let w : pass n (k.one ∷ k.others) h.so_far ≡ pass n k.others x.0 = stepped-pass n k.one k.others h.so_far ∙ ap (λ (v : Formed Pass). v >>= λ r. pass n k.others r) x.1 in
      record {
        rest = k.others;
        so_far = x.0;
        here = ends_there ∙ (ap (end_from M ts) h.here ∙ ap (place_of M ts at) (sym (add-one i)));
        items = k.items;
        stands = subst (λ (b : Bool). PassSoFar T'.env.now M b x.0) (or_comm b changed) x.2;
        final = sym w ∙ rw k.whole at h.final;
        ahead = record { each = λ e m. calm-still n present T.since.now T'.since.now _ _ x.3 (present - 1) (omega arith) e (h.ahead.each e (is-other e h.rest k.one k.others k.whole m)) };
        behind = λ e m. other k x.0 x.3 x.4 e (h.behind e m);
      }
    where
      this : (k : Next) (p : Pass) → Calm n T'.since.now present p.clocks k.one → (e : Equation) → (e ≡ k.one) ⊎ Memᴰ e k.others → Memᴰ e k.others ⊎ Calm n T'.since.now present p.clocks e
      this k p c e (inl i) = inr (rw i c)
      this k p c e (inr m) = inl m

      other : (k : Next) (p : Pass) → Moves present T.since.now T'.since.now h.so_far.clocks p.clocks → Calm n T'.since.now present p.clocks k.one → (e : Equation) → Memᴰ e h.rest ⊎ Calm n T.since.now present h.so_far.clocks e → Memᴰ e k.others ⊎ Calm n T'.since.now present p.clocks e
      other k p v c e (inl m) = this k p c e (Memᴰ.cases_cons (rw k.whole at m))
      other k p v c e (inr d) = inr (calm-still n present T.since.now T'.since.now _ _ v present (omega arith) e d)

  pub going-deep : (d u : TooDeep) → r ≡ Err d → Gone n es present T'.since.now T'.env.now M (Err u) f
  unfolding Turned Gone
  going-deep d u j =
      let k = next in
      let x : stepped n k.one h.so_far ≡ deep = subst (λ (y : Result Bool TooDeep). Turned n k.one present T.since.now T'.since.now T'.env.now M h.so_far changed y) j k.turned in
      let w : pass n (k.one ∷ k.others) h.so_far ≡ deep = stepped-pass n k.one k.others h.so_far ∙ ap (λ (v : Formed Pass). v >>= λ r. pass n k.others r) x in
      sym (rw k.whole at h.final) ∙ w

-- ---- the passes
-- a pass that changed something, and one that did not
again : (n : Node) (k made : ℕ) (clocks : Clocks) (p : Pass) → pass n n.equations (record { changed = false; clocks = clocks }) ≡ formed p → p.changed ≡ true → passes_from n (suc k) made clocks ≡ passes_from n k (suc made) p.clocks
unfolding passes_from
again n k made clocks p e c = rw e (rw c)

stops : (n : Node) (k made : ℕ) (clocks : Clocks) (p : Pass) → pass n n.equations (record { changed = false; clocks = clocks }) ≡ formed p → p.changed ≡ false → passes_from n (suc k) made clocks ≡ formed (record { passes = suc made; clocks = p.clocks })
unfolding passes_from
stops n k made clocks p e c = rw e (rw c)

too-deep : (n : Node) (k made : ℕ) (clocks : Clocks) → pass n n.equations (record { changed = false; clocks = clocks }) ≡ deep → passes_from n (suc k) made clocks ≡ deep
unfolding passes_from
too-deep n k made clocks e = rw e

-- at most k passes more, so many made; then f is inferred
pub record Repeating (M : ℕ) (n : Node) (T : PassTables) (k made : ℕ) (f : Formed Inferred) : Type 0 where
  pub clocks : Clocks
  pub agrees : Agrees T.env.now M clocks
  pub calms : Calms n T.since.now made clocks n.equations
  pub final : passes_from n k made clocks ≡ f

pub repeating-end : (M : ℕ) (n : Node) (T : PassTables) (most made : ℕ) (f : Formed Inferred) → most ≤ made → Repeating M n T (most - made) made f → Infers T.env.now M (Ok made) f
unfolding Infers passes_from
repeating-end M n T most made f l h =
    let e : most - made ≡ 0 = omega arith in
    let i : passes_from n 0 made h.clocks ≡ f = ap (λ (k : ℕ). passes_from n k made h.clocks) (sym e) ∙ h.final in
    (record { passes = made; clocks = h.clocks }, sym i, refl, h.agrees)

module _ (s : Source) (n : Node) (T T' : PassTables) (marks : List Bool) (ends : List ℕ) (count at q most made : ℕ) (f : Formed Inferred) (r : Result Bool TooDeep) (u : made < most) (m : Marked marks s.names (ports n)) (E : Ended s.names (tokens_of s) at count ends) (g : times count (equation s.names) (tokens_of s) at ≡ got n.equations q)
    (P : (n : Node) (es : List Equation) (q : ℕ) (clocks : Clocks) → Marked marks s.names (ports n) → Ended s.names (tokens_of s) at count ends → times count (equation s.names) (tokens_of s) at ≡ got es q → Agrees T.env.now s.names clocks → Calms n T.since.now (made + 1 - 1) clocks es → Gone n es (made + 1) T'.since.now T'.env.now s.names r (pass n es (record { changed = false; clocks = clocks })))
    (h : Repeating s.names n T (most - made) made f) where
  one : passes_from n (suc (most - (made + 1))) made h.clocks ≡ f
  one = let e : suc (most - (made + 1)) ≡ most - made = omega arith in ap (λ (k : ℕ). passes_from n k made h.clocks) e ∙ h.final

  gone : Gone n n.equations (made + 1) T'.since.now T'.env.now s.names r (pass n n.equations (record { changed = false; clocks = h.clocks }))
  gone = let e : made + 1 - 1 ≡ made = omega arith in P n n.equations q h.clocks m E g h.agrees (rw e h.calms)

  module _ (b : Bool) (i : r ≡ Ok b) where
    made_one : (p : Pass) × (pass n n.equations (record { changed = false; clocks = h.clocks }) ≡ formed p) × PassSoFar T'.env.now s.names b p × Calms n T'.since.now (made + 1) p.clocks n.equations
    unfolding Gone
    made_one = rw i at gone

    pub repeating-step : b ≡ true → Repeating s.names n T' (most - (made + 1)) (made + 1) f
    repeating-step c =
        let x = made_one in
        let w = again n (most - (made + 1)) made h.clocks x.0 x.1 (sym x.2.changes ∙ c) in
        record { clocks = x.0.clocks; agrees = x.2.agrees; calms = x.3; final = ap (λ (k : ℕ). passes_from n (most - (made + 1)) k x.0.clocks) (add-one made) ∙ (sym w ∙ one) }

    pub repeating-stop : b ≡ false → Infers T'.env.now s.names (Ok (made + 1)) f
    unfolding Infers
    repeating-stop c =
        let x = made_one in
        let w = stops n (most - (made + 1)) made h.clocks x.0 x.1 (sym x.2.changes ∙ c) in
        (record { passes = suc made; clocks = x.0.clocks }, sym one ∙ w, sym (add-one made), x.2.agrees)

  pub repeating-deep : (d v : TooDeep) → r ≡ Err d → Infers T'.env.now s.names (Err v) f
  unfolding Infers Gone
  repeating-deep d v i =
      let x : pass n n.equations (record { changed = false; clocks = h.clocks }) ≡ deep = rw i at gone in
      sym one ∙ too-deep n (most - (made + 1)) made h.clocks x

-- "Passes stop after one without change, or after equations + 1."
few : (n : Node) (k made : ℕ) (clocks : Clocks) (i : Inferred) → passes_from n k made clocks ≡ formed i → i.passes ≤ made + k
unfolding passes_from
few n zero made clocks i e = let j : made ≡ i.passes = cc in omega arith
few n (suc k) made clocks i e = go (λ p. few n k (suc made) p.clocks i) (pass n n.equations (record { changed = false; clocks = clocks })) e
  where
    last : ((p : Pass) → passes_from n k (suc made) p.clocks ≡ formed i → i.passes ≤ suc made + k) → (p : Pass) (b : Bool) → choose b (passes_from n k (suc made) p.clocks) (formed (record { passes = suc made; clocks = p.clocks })) ≡ formed i → i.passes ≤ made + suc k
    last f p true e = let l = f p e in omega arith
    last f p false e = let j : suc made ≡ i.passes = cc in omega arith

    go : ((p : Pass) → passes_from n k (suc made) p.clocks ≡ formed i → i.passes ≤ suc made + k) → (v : Formed Pass) → (v >>= λ p. choose p.changed (passes_from n k (suc made) p.clocks) (formed (record { passes = suc made; clocks = p.clocks }))) ≡ formed i → i.passes ≤ made + suc k
    go f deep e = absurd cc
    go f (formed p) e = last f p p.changed e

-- ---- a node
among-append : (x : ℕ) (k l : List Declared) → among x (map name_of (k ++ l)) ≡ (among x (map name_of k) || among x (map name_of l))
among-append x [] l = refl
among-append x (d ∷ k) l = ap (λ (b : Bool). eqb x d.name || b) (among-append x k l) ∙ sym (or_assoc (eqb x d.name) (among x (map name_of k)) (among x (map name_of l)))

chosen-both : {A : Type 0} (a b : Bool) (u v w z : A) → v ≡ choose b u w → w ≡ choose a u z → v ≡ choose (a || b) u z
chosen-both true true u v w z i j = i
chosen-both true false u v w z i j = i ∙ j
chosen-both false true u v w z i j = i
chosen-both false false u v w z i j = i ∙ j

chosen-twice : {A : Type 0} (a b : Bool) (u z : A) → choose a u (choose b u z) ≡ choose (a || b) u z
chosen-twice true b u z = refl
chosen-twice false b u z = refl

chosen-self : (b : Bool) → choose b true false ≡ b
chosen-self true = refl
chosen-self false = refl

on-base : (l : List ℕ) (x : ℕ) → clock_of (map (λ y. record { name = y; clock = base }) l) x ≡ choose (among x l) (some base) none
unfolding clock_of
on-base [] x = refl
on-base (y ∷ l) x = rw (on-base l x, eqb-sym y x) (chosen-twice (eqb x y) (among x l) (some base) none)

module _ (M : ℕ) (n : Node) (t t₀ : List ℕ) (p₀ : List Bool) (t₁ : List ℕ) (p₁ : List Bool) (t₂ : List ℕ) (p₂ : List Bool) (room : 17 * M ≤ length t) (c : Cleared t t₀ M) (d : (x : ℕ) → x < M → get_or p₀ x false ≡ false) (a : PortsPlaced M t₁ p₁ [] t₀ p₀ (map name_of n.inputs)) (b : PortsPlaced M t₂ p₂ [] t₁ p₁ (map name_of n.outputs)) where
  pub ports-marked : Marked p₂ M (ports n)
  ports-marked = record { same = λ x u. mark x u ∙ (chosen-self (among x (map name_of n.inputs) || among x (map name_of n.outputs)) ∙ sym (among-append x n.inputs n.outputs)) }
    where
      mark : (x : ℕ) → x < M → get_or p₂ x false ≡ choose (among x (map name_of n.inputs) || among x (map name_of n.outputs)) true false
      mark x u = chosen-both (among x (map name_of n.inputs)) (among x (map name_of n.outputs)) true (get_or p₂ x false) (get_or p₁ x false) false (b.marks x u) (a.marks x u ∙ ap (λ (k : Bool). choose (among x (map name_of n.inputs)) true k) (d x u))

  pub ports-on-base : 17 * M ≤ length t₂ → Agrees t₂ M (map (λ x. record { name = x; clock = base }) (ports n))
  ports-on-base l = record { room = l; same = λ x u. one x u ∙ (ap (λ (k : Bool). choose k (some base) none) (sym (among-append x n.inputs n.outputs)) ∙ sym (on-base (ports n) x)) }
    where
      one : (x : ℕ) → x < M → env_at t₂ x ≡ choose (among x (map name_of n.inputs) || among x (map name_of n.outputs)) (some base) none
      one x u = chosen-both (among x (map name_of n.inputs)) (among x (map name_of n.outputs)) (some base) (env_at t₂ x) (env_at t₁ x) none (b.clocks x u) (a.clocks x u ∙ ap (λ (k : Option Clock). choose (among x (map name_of n.inputs)) (some base) k) (c.nowhere room x u))

pub infers-node : (M : ℕ) (n : Node) (t : List ℕ) (k : ℕ) (r : Result ℕ TooDeep) → k ≡ length n.equations → Infers t M r (passes_from n (suc k) 0 (map (λ x. record { name = x; clock = base }) (ports n))) → Infers t M r (inferred n)
unfolding inferred
infers-node M n t k r e h = rw e at h
