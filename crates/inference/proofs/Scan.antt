-- The natural clock of an expression by its tokens: that of the first name that has one, where no when or merge stands before it;
-- none, where no token gives one. Assumes nothing.
use Prim.Native.Nat.{ℕ, ◌+◌, ◌-◌, ◌*◌, ◌<◌, min}
use mathlib.Core.Path.{◌≡◌, refl, sym, ◌∙◌, ap, ap₂, subst}
use mathlib.Core.List.{List}
use mathlib.Core.Bool.{Bool, true, false, not}
use mathlib.Core.Option.{Option, none, some}
use native.Mathlib.Omega.{arith}
use lib.Dec.{eqb, ltb}
use lib.ListN.{length, get_or, drop}
use Rattle.std.proofs.lemmas.List.{get_or-drop, length-drop}
use borrow.Author.Tests.{ne_eqb, lt-ltb, ltb-true}
use Rattle.definitions.specs.Lists.{choose}
use Rattle.definitions.specs.Bytes.{tokens}
use Rattle.definitions.specs.Tokens.{given}
use Rattle.definitions.specs.Tree.{Expr, Exprs}
use Rattle.definitions.specs.Reading.{got}
use Rattle.definitions.specs.InferClocks.{Natural, Clocks, clock_of, formed, ◌or◌, natural, naturals}
use Rattle.clock_tables.specs.Flat.{clock_in}
use Rattle.clock_tables.specs.Environment.{env_at, Agrees}
use Rattle.layout.specs.Owed.{follows, Owed}
use Rattle.layout.specs.Marks.{is_sample, Mark, named, sampling, mark_of, first, there, Marks}
use Rattle.layout.proofs.Owed.{owed_none, owed-step, owed-on}
use Rattle.layout.proofs.Ends.{expr-part}
use Rattle.layout.proofs.Marks.{given-there, bears, borne, expr-marks, marks-none, marks-found, marks-past}
use Rattle.operands.specs.Spread.{tree}
use Rattle.inference.specs.Natural.{listed}
use Rattle.inference.proofs.NaturalLaws.{is_free, free-none, kept-first}

-- ---- a token
there-none : (o : Option Mark) → there o ≡ false → o ≡ none
there-none none h = refl
there-none (some m) h = absurd cc

pub name-gives : (env : List ℕ) (tag v : ℕ) {b : Bool} → tag ≡ 54 → b ≡ listed env v → b ≡ there (mark_of (listed env) tag v)
unfolding mark_of
name-gives env tag v i j = j ∙ rw i (sym (given-there _ _))

pub other-gives : (env : List ℕ) (tag v : ℕ) (r : Bool) → (tag ≡ 54 → ⊥) → r ≡ is_sample tag → r ≡ there (mark_of (listed env) tag v)
unfolding mark_of
other-gives env tag v r n i = rw (ne_eqb tag 54 n) (i ∙ sym (given-there _ _))

-- a name that gives one
name-marked : (test : ℕ → Bool) (tag v : ℕ) → tag ≡ 54 → there (mark_of test tag v) ≡ true → mark_of test tag v ≡ some (named v)
unfolding mark_of
name-marked test tag v i h =
    let e : mark_of test tag v ≡ given (test v) (named v) = rw i in
    let b : test v ≡ true = sym (given-there (test v) (named v)) ∙ (sym (ap there e) ∙ h) in
    e ∙ ap (λ (x : Bool). given x (named v)) b

-- ---- a tree
module _ (clocks : Clocks) (M : ℕ) where
  -- a name that has a clock is marked; M is the number of names
  abbrev clock-mark : ℕ → Option Mark
  clock-mark x = given (not (is_free (formed (clock_of clocks x)))) (choose (ltb x M) (named x) sampling)

  -- the table marks the same of the sheet's names
  listed-mark : (env : List ℕ) → Agrees env M clocks → (x : ℕ) → x < M → given (listed env x) (named x) ≡ clock-mark x
  unfolding env_at
  listed-mark env a x l = rw (lt-ltb x M l) (ap (λ (b : Bool). given b (named x)) (go (eqb (get_or env (17 * x) 0) 0) ∙ ap (λ o. not (is_free (formed o))) (a.same x l)))
    where
      go : (b : Bool) → not b ≡ not (is_free (formed (choose b none (some (clock_in env (17 * x))))))
      go true = refl
      go false = refl

  -- what a first mark says of a natural clock
  abbrev Says : Option Mark → Natural → Type 0
  Says none n = n ≡ formed none
  Says (some (named x)) n = (n ≡ formed (clock_of clocks x)) × (is_free n ≡ false) × (x < M)
  Says (some sampling) n = Unit {0}

  says-name : (x : ℕ) → Says (clock-mark x) (formed (clock_of clocks x))
  says-name x = go (is_free (formed (clock_of clocks x))) (ltb x M) refl refl
    where
      go : (b c : Bool) → is_free (formed (clock_of clocks x)) ≡ b → ltb x M ≡ c → Says (given (not b) (choose c (named x) sampling)) (formed (clock_of clocks x))
      go true c i j = free-none _ i
      go false true i j = (refl, i, ltb-true x M j)
      go false false i j = tt

  says_first : (a b : Option Mark) (n m : Natural) → Says a n → Says b m → Says (first a b) (n or m)
  says_first none b n m h k = rw h k
  says_first (some (named x)) b n m h k = let e = kept-first n m h.1 in (e ∙ h.0, ap is_free e ∙ h.1, h.2)
  says_first (some sampling) b n m h k = tt

  mutual
    unfolding bears natural

    says-tree : (e : Expr) → Says (bears clock-mark e) (natural clocks e)
    says-tree (Expr.const l w) = refl
    says-tree (Expr.var x) = says-name x
    says-tree (Expr.op o es) = says-trees es
    says-tree (Expr.pre a) = says-tree a
    says-tree (Expr.arrow a b) = says_first (bears clock-mark a) (bears clock-mark b) (natural clocks a) (natural clocks b) (says-tree a) (says-tree b)
    says-tree (Expr.call f es) = says-trees es
    says-tree (Expr.when k a) = tt
    says-tree (Expr.merge x a b) = tt

    says-trees : (es : Exprs) → Says (borne clock-mark es) (naturals clocks es)
    says-trees Exprs.end = refl
    says-trees (Exprs.and e es) = says_first (bears clock-mark e) (borne clock-mark es) (natural clocks e) (naturals clocks es) (says-tree e) (says-trees es)

  says-by : (e : Expr) (o : Option Mark) → bears clock-mark e ≡ o → Says o (natural clocks e)
  says-by e o i = subst (λ (x : Option Mark). Says x (natural clocks e)) i (says-tree e)

-- ---- the scan
-- what it has left of the part at p: so many parts, from a place on, whose tokens decide for all
pub record Left (env gs vs : List ℕ) (p owed place : ℕ) : Type 0 where
  left : (q : ℕ) (b : Option Mark) → Owed gs vs p 1 q → Marks (listed env) gs vs p q b → Owed gs vs place owed q × Marks (listed env) gs vs place q b

module _ {env gs vs : List ℕ} {p : ℕ} where
  pub left-all : {place : ℕ} → place ≡ p → Left env gs vs p 1 place
  left-all e = record { left = λ q b h k. rw e (h, k) }

  pub left-on : {owed place next : ℕ} → Left env gs vs p owed place → 0 < owed → (tag : ℕ) → tag ≡ get_or gs place 0 → (v : ℕ) → v ≡ get_or vs place 0 → there (mark_of (listed env) tag v) ≡ false
      → (more : ℕ) → more ≡ follows tag v → next ≡ place + 1 → Left env gs vs p (owed - 1 + more) next
  left-on {owed} {place} {next} l z tag i v j m more f e = record {
    left = λ q b h k.
        let o = l.left q b h k in
        let s = owed-step o.0 z in
        let n = owed-on s.1 in
        let g : more ≡ follows (get_or gs place 0) (get_or vs place 0) = f ∙ ap₂ follows i j in
        rw (e, g) (s.1, marks-past o.1 (omega arith) (there-none _ (ap₂ (λ x y. there (mark_of (listed env) x y)) (sym i) (sym j) ∙ m)));
  }

  module _ {owed place : ℕ} (l : Left env gs vs p owed place) (same : length vs ≡ length gs) (M : ℕ) (e : Expr) (q : ℕ) (clocks : Clocks) (g : tree M (tokens gs vs) p ≡ got e q) (a : Agrees env M clocks) where
    rest : Owed gs vs place owed q × Marks (listed env) gs vs place q (bears (clock-mark clocks M) e)
    rest = l.left q _ (expr-part gs vs same M 32 p e q g) (expr-marks (listed env) gs vs same M (clock-mark clocks M) (listed-mark clocks M env a) 32 p e q g)

    pub left-none : owed ≡ 0 → natural clocks e ≡ formed none
    left-none z =
        let i = owed_none rest.0 (omega arith) in
        says-by clocks M e none (marks-none rest.1 (omega arith))

    -- a name that gives one
    pub left-found : (tag v : ℕ) → tag ≡ get_or gs place 0 → v ≡ get_or vs place 0 → 0 < owed → there (mark_of (listed env) tag v) ≡ true → tag ≡ 54 → natural clocks e ≡ formed (env_at env v)
    left-found tag v i j z h k =
        let m : mark_of (listed env) (get_or gs place 0) (get_or vs place 0) ≡ some (named v) = ap₂ (mark_of (listed env)) (sym i) (sym j) ∙ name-marked (listed env) tag v k h in
        let n = owed-on rest.0 in
        let s = says-by clocks M e (some (named v)) (marks-found (named v) rest.1 (omega arith) m) in
        s.0 ∙ ap formed (sym (a.same v s.2))

-- the token that is looked at: the k-th from the place where a scan began, which is its own where there is one
pub record Here (gs vs : List ℕ) (at from k tag v : ℕ) : Type 0 where
  pub began : from ≡ at
  pub tags : tag ≡ get_or gs (from + k) 0
  pub values : v ≡ get_or vs (from + k) 0

pub here-of : (gs vs : List ℕ) (at from k tag v : ℕ) → from ≡ min at (length gs)
    → (k < length (drop from gs)) × (k < length (drop from vs)) × ((d : ℕ) → tag ≡ get_or (drop from gs) k d) × ((d : ℕ) → v ≡ get_or (drop from vs) k d) → Here gs vs at from k tag v
here-of gs vs at from k tag v m t = record {
  began = omega (arith, m, t.0, length-drop from gs);
  tags = t.2 0 ∙ get_or-drop from gs k 0;
  values = t.3 0 ∙ get_or-drop from vs k 0;
}
