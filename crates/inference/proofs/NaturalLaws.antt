-- The natural clock, arm by arm, and the walk over operands.
-- Assumes nothing.
use Prim.Native.Nat.{ℕ, ◌+◌, ◌-◌, ◌<◌}
use Rattle.std.specs.Prelude as rust
use Rattle.std.specs.Prelude.{Some, None, Result, Ok, Err}
use mathlib.Core.Path.{◌≡◌, refl, sym, ◌∙◌, ap}
use mathlib.Core.List.{List}
use mathlib.Core.Bool.{Bool, true, false}
use mathlib.Core.Option.{none, some}
use native.Mathlib.Omega.{arith}
use lib.ListN.{length}
use Rattle.definitions.specs.declared.Condition.{Condition}
use Rattle.definitions.specs.Tree.{Expr, Exprs}
use Rattle.definitions.specs.Reading.{got}
use Rattle.definitions.specs.Clock.{base}
use Rattle.definitions.specs.InferClocks.{Natural, Clocks, clock_of, deep, formed, ◌or◌, condition_over, parent_of, natural, naturals}
use Rattle.clock_tables.specs.Value.{value_of, option_of}
use Rattle.clock_tables.specs.Environment.{env_at, Agrees}
use Rattle.operands.specs.declared.Gap.{Gap}
use Rattle.operands.specs.declared.Role.{Role}
use Rattle.operands.specs.Role.{role_of_expr, operands_of}
use Rattle.operands.specs.Spread.{tree, spread, later, operand_at, rest_at}
use Rattle.operands.proofs.Laws.{spread-nil}
use Rattle.operands.proofs.Apart.{Apart, apart}
use Rattle.clock_tables.specs.declared.clock.Clock as struct
use Rattle.clock_tables.specs.declared.TooDeep.{TooDeep}
use Rattle.grammar.specs.Read.{tokens_of}
use Rattle.grammar.specs.declared.source.Source.{Source}
use Rattle.inference.specs.declared.ClockInput.{ClockInput}
use Rattle.inference.specs.declared.Walked.{Walked}
use Rattle.inference.specs.Natural.{Finds, lifted, first_of}

-- ---- clocks or none
-- is there no clock?
abbrev pub is_free : Natural → Bool
is_free deep = false
is_free (formed none) = true
is_free (formed (some c)) = false

pub free-none : (n : Natural) → is_free n ≡ true → n ≡ formed none
free-none deep h = absurd cc
free-none (formed none) h = refl
free-none (formed (some c)) h = absurd cc

-- one that is found is the first
pub kept-first : (n m : Natural) → is_free n ≡ false → n or m ≡ n
kept-first deep m h = refl
kept-first (formed none) m h = absurd cc
kept-first (formed (some c)) m h = refl

-- what a walk comes to
found-deep : (n : Natural) (q : ℕ) (r : Result Walked TooDeep) {d : TooDeep} → r ≡ Err d → Finds r n q → n ≡ deep
found-deep n q r i h = rw i at h

pub found-on : (n : Natural) (q : ℕ) (r : Result Walked TooDeep) {w : Walked} {c : struct.Clock} → r ≡ Ok w → w ≡ Walked.On c → Finds r n q → n ≡ formed (some (value_of c))
found-on n q r i j h = rw j at (rw i at h)

pub found-free : (n : Natural) (q : ℕ) (r : Result Walked TooDeep) {w : Walked} {end : ℕ} → r ≡ Ok w → w ≡ Walked.Free end → Finds r n q → (n ≡ formed none) × (end ≡ q)
found-free n q r i j h = rw j at (rw i at h)

found-so : (n : Natural) (q : ℕ) (r : Result Walked TooDeep) {w : Walked} → r ≡ Ok w → Finds r n q → Finds (Ok w) n q
found-so n q r i h = rw i at h

or-none : (n : Natural) → n or formed none ≡ n
or-none deep = refl
or-none (formed none) = refl
or-none (formed (some c)) = refl

-- ---- operands
-- the first clock among them is that of the definitions
first-naturals : (clocks : Clocks) (es : Exprs) → first_of clocks false es ≡ naturals clocks es
unfolding first_of natural
first-naturals clocks Exprs.end = refl
first-naturals clocks (Exprs.and e es) = rw (first-naturals clocks es)

-- n of them from p on are left, after some that have no clock: the first clock among these is that of all
pub record Remains (s : Source) (clocks : Clocks) (up : Bool) (g : Gap) (n p q : ℕ) (all : Natural) : Type 0 where
  pub others : Exprs
  pub stand : spread s.names g n (tree s.names) (tokens_of s) p ≡ got others q
  pub same : first_of clocks up others ≡ all

module _ (s : Source) (clocks : Clocks) (up : Bool) (g : Gap) (n p q : ℕ) where
  pub remains-none : (all : Natural) → Remains s clocks up g n p q all → n ≡ 0 → Finds (Ok (Walked.Free p)) all q
  unfolding first_of
  remains-none all h z =
      let i = spread-nil s.names (tree s.names) (tokens_of s) g n p h.others q z h.stand in
      let m : formed none ≡ all = rw i.0 at h.same in
      (sym m, sym i.1)

-- an operand at a place, or its parent, has no clock, and it ends there
pub record Passed (I : ClockInput) (up : Bool) (place end : ℕ) : Type 0 where
  pub passed : (e : Expr) (q : ℕ) (clocks : Clocks) → tree I.source.names (tokens_of I.source) place ≡ got e q → Agrees I.env.now I.source.names clocks → (lifted up (natural clocks e) ≡ formed none) × (end ≡ q)

lifted-none : (up : Bool) (n : Natural) → n ≡ formed none → lifted up n ≡ formed none
lifted-none true n i = rw i
lifted-none false n i = i

module _ (I : ClockInput) (up : Bool) (place : ℕ) where
  -- a leaf
  pub passed-leaf : (end : ℕ) (r : rust.Option ℕ) → r ≡ Some end → ((M : ℕ) (e : Expr) (q s : ℕ) (clocks : Clocks) → tree M (tokens_of I.source) place ≡ got e q → Agrees I.env.now M clocks → r ≡ Some s → (natural clocks e ≡ formed none) × (s ≡ q)) → Passed I up place end
  passed-leaf end r b F = record { passed = λ e q clocks g a. let f = F I.source.names e q end clocks g a b in (lifted-none up (natural clocks e) f.0, f.1) }

  -- what was walked
  pub passed-walk : (r : Result Walked TooDeep) (w : Walked) (end : ℕ) → r ≡ Ok w → w ≡ Walked.Free end → ((e : Expr) (q : ℕ) (clocks : Clocks) → tree I.source.names (tokens_of I.source) place ≡ got e q → Agrees I.env.now I.source.names clocks → Finds r (lifted up (natural clocks e)) q) → Passed I up place end
  passed-walk r w end i j F = record { passed = λ e q clocks g a. found-free _ _ r i j (F e q clocks g a) }

-- the first of the operands that are left
module _ (I : ClockInput) (up : Bool) (g : Gap) (n k p place : ℕ) (i : place ≡ operand_at (length I.source.tags.now) g p) (z : k < n) (q : ℕ) (clocks : Clocks) (a : Agrees I.env.now I.source.names clocks) (all : Natural) (h : Remains I.source clocks up g (n - k) p q all) where
  abbrev split : Apart I.source.names I.source.tags.now I.source.values.now g (n - k) p h.others q place
  split = apart I.source.names I.source.tags.now I.source.values.now I.source.same_length g (n - k) p h.others q place (λ y. omega (arith, y, z)) i h.stand

  whole : lifted up (natural clocks split.first) or first_of clocks up split.rest ≡ all
  unfolding first_of
  whole = ap (first_of clocks up) (sym split.whole) ∙ h.same

  -- it has a clock, or too deep a one
  here : (m : Natural) → is_free m ≡ false → lifted up (natural clocks split.first) ≡ m → all ≡ m
  here m t i = sym (sym (kept-first m (first_of clocks up split.rest) t) ∙ (rw i at whole))

  module _ (r : Result Walked TooDeep) (F : (e : Expr) (q : ℕ) (clocks : Clocks) → tree I.source.names (tokens_of I.source) place ≡ got e q → Agrees I.env.now I.source.names clocks → Finds r (lifted up (natural clocks e)) q) where
    pub remains-on : (w : Walked) (c : struct.Clock) → r ≡ Ok w → w ≡ Walked.On c → Finds (Ok w) all q
    remains-on w c i j = rw j (here _ refl (found-on _ _ r i j (F split.first split.end clocks split.here a)))

    pub remains-deep : {d : TooDeep} → r ≡ Err d → all ≡ deep
    remains-deep i = here _ refl (found-deep _ _ r i (F split.first split.end clocks split.here a))

  -- it has none
  module _ (end : ℕ) (b : Passed I up place end) (next : ℕ) (j : next ≡ rest_at (length I.source.tags.now) g end) where
    ends : next ≡ rest_at (length I.source.tags.now) g split.end
    ends = j ∙ ap (rest_at (length I.source.tags.now) g) (b.passed split.first split.end clocks split.here a).1

    pub remains-past : p < next
    remains-past = rw ends split.past

    pub remains-rest : (l : Gap) → l ≡ later g → Remains I.source clocks up l (n - (k + 1)) next q all
    remains-rest l e =
        let m = (b.passed split.first split.end clocks split.here a).0 in
        let f : n - (k + 1) ≡ n - k - 1 = omega arith in
        record { others = split.rest; stand = rw (f, e, ends) split.others; same = rw m at whole }

-- ---- an expression, by its role
pub var-ends : (e : Expr) (x : ℕ) → e ≡ Expr.var x → operands_of e ≡ Exprs.end
unfolding operands_of
var-ends e x i = rw i

-- M is the number of names
module _ (M : ℕ) (env : List ℕ) (clocks : Clocks) (a : Agrees env M clocks) (e : Expr) (q : ℕ) where
  name-clock : (x : ℕ) → x < M → (o : rust.Option struct.Clock) → option_of o ≡ env_at env x → clock_of clocks x ≡ option_of o
  name-clock x l o j = sym (j ∙ a.same x l)

  module _ (x : ℕ) (l : x < M) (o : rust.Option struct.Clock) (j : option_of o ≡ env_at env x) where
    pub name-on : e ≡ Expr.var x → (c : struct.Clock) → o ≡ Some c → Finds (Ok (Walked.On c)) (natural clocks e) q
    unfolding natural
    name-on i c k = rw i (ap formed (name-clock x l o j ∙ ap option_of k))

    pub name-free : e ≡ Expr.var x → o ≡ None → (p : ℕ) → p ≡ q → Finds (Ok (Walked.Free p)) (natural clocks e) q
    unfolding natural
    name-free i k p s = rw i (ap formed (name-clock x l o j ∙ ap option_of k), s)

    pub join-on : (b d : Expr) → e ≡ Expr.merge x b d → (c : struct.Clock) → o ≡ Some c → Finds (Ok (Walked.On c)) (natural clocks e) q
    unfolding natural
    join-on b d i c k =
        let n : clock_of clocks x ≡ some (value_of c) = name-clock x l o j ∙ ap option_of k in
        rw i (rw n refl)

    pub join-branches : (b d : Expr) → e ≡ Expr.merge x b d → o ≡ None → (r : Result Walked TooDeep) → Finds r (first_of clocks true (operands_of e)) q → Finds r (natural clocks e) q
    unfolding natural first_of operands_of
    join-branches b d i k r h =
        let n : clock_of clocks x ≡ none = name-clock x l o j ∙ ap option_of k in
        rw i (rw n (rw (or-none (parent_of (natural clocks d))) at (rw i at h)))

  -- a when over what was found
  module _ (k : Condition) (b : Expr) (i : e ≡ Expr.when k b) (l : k.name < M) (r : Result Walked TooDeep) (h : Finds r (first_of clocks false (operands_of e)) q) where
    operand : first_of clocks false (operands_of e) ≡ natural clocks b
    unfolding natural first_of operands_of
    operand = rw i (or-none (natural clocks b))

    sampled : natural clocks e ≡ condition_over k (natural clocks b or formed (env_at env k.name) or formed (some base))
    unfolding natural
    sampled = rw (i, a.same k.name l) refl

    pub sample-deep : {d : TooDeep} → r ≡ Err d → natural clocks e ≡ deep
    sample-deep j = let n : natural clocks b ≡ deep = sym operand ∙ found-deep _ _ r j h in rw n at sampled

    pub sample-arm : (w : Walked) → r ≡ Ok w → (s : Result Walked TooDeep)
        → ((n : Natural) (q p : ℕ) → Finds (Ok w) n q → Finds s (condition_over k (n or formed (env_at env k.name) or formed (some base))) p) → Finds s (natural clocks e) q
    sample-arm w j s F = rw sampled (F (natural clocks b) q q (rw operand at (found-so _ _ r j h)))

-- the roles other than those of a name, a `when` and a `merge`
record Rest (ρ : Role) : Type 0 where
  name : (x : ℕ) → ρ ≡ Role.Name x → ⊥
  sample : (k : Condition) → ρ ≡ Role.Sample k → ⊥
  join : (x : ℕ) → ρ ≡ Role.Join x → ⊥

rest : (clocks : Clocks) (e : Expr) → Rest (role_of_expr e) → naturals clocks (operands_of e) ≡ natural clocks e
unfolding natural role_of_expr operands_of
rest clocks (Expr.const l w) h = refl
rest clocks (Expr.var x) h = absurd (h.name x refl)
rest clocks (Expr.op o es) h = refl
rest clocks (Expr.pre a) h = or-none (natural clocks a)
rest clocks (Expr.arrow a b) h = ap (λ (n : Natural). natural clocks a or n) (or-none (natural clocks b))
rest clocks (Expr.call f es) h = refl
rest clocks (Expr.when k a) h = absurd (h.sample k refl)
rest clocks (Expr.merge x a b) h = absurd (h.join x refl)

pub rest-arm : (clocks : Clocks) (e : Expr) (v : Role) (r : Result Walked TooDeep) (q : ℕ) → v ≡ role_of_expr e → ((x : ℕ) → v ≡ Role.Name x → ⊥) → ((k : Condition) → v ≡ Role.Sample k → ⊥) → ((x : ℕ) → v ≡ Role.Join x → ⊥)
    → Finds r (first_of clocks false (operands_of e)) q → Finds r (natural clocks e) q
rest-arm clocks e v r q i n s m j =
    rw (sym (rest clocks e (record { name = λ x z. n x (i ∙ z); sample = λ k z. s k (i ∙ z); join = λ x z. m x (i ∙ z) })) ∙ sym (first-naturals clocks (operands_of e))) j
