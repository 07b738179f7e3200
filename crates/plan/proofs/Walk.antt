-- The walk in the code's terms: an expression by its first token, two expressions, and parts one after another.
-- Assumes nothing.
use mathlib.Core.Path.{◌≡◌, refl, sym, ◌∙◌, ap, subst}
use mathlib.Core.Bool.{Bool, true, false}
use mathlib.Core.List.{List, [], ◌∷◌, ◌++◌, map, append-nil}
use mathlib.Core.Option.{Option, none, some}
use mathlib.Core.Logic.{◌⊎◌, inl, inr}
use Prim.Native.Nat.{ℕ, suc, ◌+◌, ◌-◌, ◌*◌, ◌≤◌, ◌<◌}
use native.Mathlib.Omega.{arith}
use lib.Dec.{eqb}
use lib.ListN.{length, get_or}
use Rattle.definitions.specs.declared.Token.{Token}
use Rattle.definitions.specs.Bytes.{tokens}
use Rattle.definitions.specs.Lists.{choose, join, or_else}
use Rattle.definitions.specs.Tokens.{TagValue, tag_value, code_of}
use Rattle.definitions.specs.Tree.{Ty, Declared, TypeDef, Expr, Exprs, Node}
use Rattle.definitions.specs.Reading.{got}
use Rattle.definitions.specs.Clock.{Clock, ◌↓◌, parent, is_on, is_not, is_base}
use Rattle.definitions.specs.InferClocks.{Fault}
use Rattle.definitions.specs.Declock.{Hold, operator_outputs, declared, operand_type, if_of}
use Rattle.definitions.specs.Output.{expr_tokens, operand_tokens}
use Rattle.shapes.specs.Shape.{many}
use Rattle.clock_tables.specs.Flat.{clock_in}
use Rattle.layout.specs.Owed.{follows}
use Rattle.layout.proofs.Owed.{owed-on, owed-few}
use Rattle.operands.specs.Spread.{tree}
use Rattle.index.specs.Callees.{NodesStand, TypesStand}
use Rattle.defaults.specs.Has.{is_some}
use Rattle.typing.specs.Found.{Declares}
use Rattle.stateless.specs.Need.{Turn, Needs, is_bare, pre_turn, arrow_turn, call_turn, settled, needed, needed_all}
use Rattle.stateless.specs.Leads.{Leads}
use Rattle.stateless.specs.Yield.{Ids, Yield, type_or, gate_of, output_trees, pre_yield, call_tree, yield, yields}
use Rattle.stateless.specs.Faults.{pre_fault, gate_fault, fault_in, fault_among}
use Rattle.skeleton.specs.Around.{around}
use Rattle.skeleton.specs.Lies.{Frame, weave, code_at, Computes, Framed, Lies, LiesAt}
use Rattle.std.proofs.lemmas.List.{map-append}
use Rattle.skeleton.proofs.Laws.{lies-owed, lies-none, sign-first, expr-first, seen_at, bare-is, previous-in, follow-in, calls-in, sample_in, join-in, plain_in}
use Rattle.planned.specs.Writes.{named, gate_codes}
use Rattle.findings.specs.declared.Fault as value
use Rattle.std.specs.Prelude.{Result, Ok, Err}
use Rattle.std.specs.Result.{IsErr, IsErrAnd}
use Rattle.std.proofs.lemmas.Result.{err_from_is_err_and}
use Rattle.plan.specs.declared.Notes.{Notes}
use Rattle.plan.specs.Tables.{Arrays, Tables, tables_of, StillLent, Begun}
use Rattle.planned.specs.declared.HeldOperand.{HeldOperand}
use Rattle.planned.specs.Held.{hold_at}
use Rattle.plan.specs.Planned.{Kept, Ground, Says, Planned, Ended, tree_codes, tree_holds, both_codes, both_holds, frame_codes, frame_holds, no_hold}
use Rattle.plan.specs.Closed.{Beside, Followed, Gated, Preceded}
use Rattle.plan.specs.Walks.{Setting, ground_of, Known, Roomy, Site, Leaves, Walks, WalksBoth, WalksAll}
use Rattle.stateless.proofs.Growth.{leads-needed, leads-all, leads-settled}
use Rattle.plan.proofs.Growth.{arrow-holds, call-holds, yield-holds, yield-count}
use Rattle.plan.proofs.Laws.{stays-but, says_none, says-as, says_then, says-stay, says-drop, says-join, says-follow, says-call, says-previous, arrow_codes, pre_codes, call_codes, defaults_in, pre_holds}

-- an end of a walk that met no fault, or met one, tells which
with_none : (o : Option Fault) → {q : ℕ} {r : Result ℕ value.Fault} {P : Type 0} → Ended q r P o → Ended q r ((o ≡ none) × P) o
with_none o (Ended.goes a b) = Ended.goes (refl, a) b
with_none o (Ended.stops g a b) = Ended.stops g a b

-- a place outside a part is outside what stands further inside
pub before-part : (p r q n : ℕ) → p ≤ r → (n < p) ⊎ (q ≤ n) → (n < r) ⊎ (q ≤ n)
before-part p r q n i (inl h) = inl (omega arith)
before-part p r q n i (inr h) = inr h

pub behind-part : (p r q n : ℕ) → r ≤ q → (n < p) ⊎ (q ≤ n) → (n < p) ⊎ (r ≤ n)
behind-part p r q n o (inl h) = inl h
behind-part p r q n o (inr h) = inr (omega arith)

-- ---- tokens and holds of rewritten expressions
module _ (G : Ground) where
  yields-many : (ids : Ids) (es : Exprs) (c d : Clock) (n : ℕ) → length (operand_tokens (yields G.types G.nodes G.node ids c d n es).value) ≡ many es
  unfolding yield operand_tokens
  yields-many ids Exprs.end c d n = refl
  yields-many ids (Exprs.and e es) c d n = ap suc (yields-many ids es d d (yield G.types G.nodes G.node ids c n e).after)

  -- a form that computes
  computes-codes : (e : Expr) (us : Exprs) (p : ℕ) (ds : Frame) → Computes e us → Framed G.tags G.values e us p ds → (c : Clock) (n : ℕ) (ids : Ids) → code_at G.tags G.values p ∷ frame_codes G c n us ds ids ≡ tree_codes G c n e ids
  unfolding yield expr_tokens around
  computes-codes e us p ds Computes.constant f c n ids = sym (f [] refl)
  computes-codes e us p ds Computes.name f c n ids = sym (f [] refl)
  computes-codes e us p ds Computes.computing f c n ids = sym (f (operand_tokens (yields G.types G.nodes G.node ids c c n us).value) (yields-many ids us c c n))

  computes-holds : (e : Expr) (us : Exprs) → Computes e us → (c : Clock) (n : ℕ) (ids : Ids) → frame_holds G c n us ids ≡ tree_holds G c n e ids
  unfolding yield
  computes-holds e us Computes.constant c n ids = refl
  computes-holds e us Computes.name c n ids = refl
  computes-holds e us Computes.computing c n ids = refl

  computes-needs : (e : Expr) (us : Exprs) → Computes e us → (c : Clock) (y : Needs) → needed_all G.nodes c c us y ≡ needed G.nodes c e y
  unfolding needed
  computes-needs e us Computes.constant c y = refl
  computes-needs e us Computes.name c y = refl
  computes-needs e us Computes.computing c y = refl

  computes-fault : (e : Expr) (us : Exprs) → Computes e us → (c : Clock) → fault_among G.types G.nodes G.node c c us ≡ fault_in G.types G.nodes G.node c e
  unfolding fault_in
  computes-fault e us Computes.constant c = refl
  computes-fault e us Computes.name c = refl
  computes-fault e us Computes.computing c = refl

  -- a call
  outputs-many : (os : List Declared) → length (operand_tokens (output_trees G.types G.nodes G.node os)) ≡ length os
  unfolding output_trees operand_tokens
  outputs-many [] = refl
  outputs-many (d ∷ os) = ap suc (outputs-many os)

  call-law : (u : Option (List Declared)) (c : Clock) (f : ℕ) (ids : Ids) (es : Exprs) (l : List TagValue) → tag_value 60 f ∷ l ≡ map code_of (expr_tokens (Expr.call f es)) →
      call_codes (defaults_in G) u c f ids l ≡ map code_of (expr_tokens (elim u [ none ↦ Expr.call f es | some os ↦ Expr.call ids.condact (Exprs.and (Expr.var (ids.flag c)) (Exprs.and (Expr.call f es) (output_trees G.types G.nodes G.node os))) ]))
  unfolding expr_tokens code_of
  call-law none c f ids es l i = i
  call-law (some os) c f ids es l i =
      let ds = join (operand_tokens (output_trees G.types G.nodes G.node os)) in
      let n : length os + 2 ≡ suc (suc (length (operand_tokens (output_trees G.types G.nodes G.node os)))) = omega (arith, outputs-many os) in
      ap (λ (k : ℕ). gate_codes ids.condact k (ids.flag c) ((tag_value 60 f ∷ l) ++ map code_of ds)) n ∙
      (ap (λ (k : List TagValue). gate_codes ids.condact (suc (suc (length (operand_tokens (output_trees G.types G.nodes G.node os))))) (ids.flag c) (k ++ map code_of ds)) i ∙
      ap (gate_codes ids.condact (suc (suc (length (operand_tokens (output_trees G.types G.nodes G.node os))))) (ids.flag c)) (sym (map-append code_of (expr_tokens (Expr.call f es)) ds)))

  call-codes : (f : ℕ) (us : Exprs) (p : ℕ) (ds : Frame) → code_at G.tags G.values p ≡ tag_value 60 f → Framed G.tags G.values (Expr.call f us) us p ds → (c : Clock) (n : ℕ) (ids : Ids) →
      call_codes (defaults_in G) (gate_of G.types G.nodes G.node c f) c f ids (frame_codes G c n us ds ids) ≡ tree_codes G c n (Expr.call f us) ids
  unfolding yield expr_tokens around
  call-codes f us p ds i g c n ids =
      let es = (yields G.types G.nodes G.node ids c c n us).value in
      go (gate_of G.types G.nodes G.node c f) (call-law (gate_of G.types G.nodes G.node c f) c f ids es (frame_codes G c n us ds ids) (ap (λ (z : TagValue). z ∷ frame_codes G c n us ds ids) (sym i) ∙ sym (g (operand_tokens es) (yields-many ids us c c n))))
    where
      go : (u : Option (List Declared)) →
          call_codes (defaults_in G) u c f ids (frame_codes G c n us ds ids) ≡ map code_of (expr_tokens (elim u [ none ↦ Expr.call f (yields G.types G.nodes G.node ids c c n us).value | some os ↦ Expr.call ids.condact (Exprs.and (Expr.var (ids.flag c)) (Exprs.and (Expr.call f (yields G.types G.nodes G.node ids c c n us).value) (output_trees G.types G.nodes G.node os))) ])) →
          call_codes (defaults_in G) u c f ids (frame_codes G c n us ds ids) ≡ map code_of (expr_tokens (call_tree G.types G.nodes G.node ids u c f (yields G.types G.nodes G.node ids c c n us).value))
      go none h = h
      go (some os) h = h

  -- a merge
  join-codes : (c : Clock) (x : ℕ) (a b : Expr) (n : ℕ) (ids : Ids) → named 57 x (both_codes G (c ↓ is_on x) (c ↓ is_not x) n a b ids) ≡ tree_codes G c n (Expr.merge x a b) ids
  unfolding yield expr_tokens code_of
  join-codes c x a b n ids =
      let u = expr_tokens (yield G.types G.nodes G.node ids (c ↓ is_on x) n a).value in
      let v = expr_tokens (yield G.types G.nodes G.node ids (c ↓ is_not x) (yield G.types G.nodes G.node ids (c ↓ is_on x) n a).after b).value in
      ap (named 57 x) (sym (map-append code_of u (v ++ []) ∙ ap (λ (z : List Token). map code_of u ++ map code_of z) (append-nil v)))

  -- a `->`
  arrow-law : (c : Clock) (ids : Ids) (k : Bool) (a b : Expr) → choose k (tag_value 59 0 ∷ (map code_of (expr_tokens a) ++ map code_of (expr_tokens b))) (named 57 (ids.first c) (map code_of (expr_tokens a) ++ map code_of (expr_tokens b))) ≡ map code_of (expr_tokens (choose k (Expr.arrow a b) (if_of (Expr.var (ids.first c)) a b)))
  unfolding expr_tokens code_of
  arrow-law c ids true a b = ap {B = List TagValue} (λ z. tag_value 59 0 ∷ z) (sym (map-append code_of (expr_tokens a) (expr_tokens b)))
  arrow-law c ids false a b = ap (named 57 (ids.first c)) (sym (map-append code_of (expr_tokens a) (expr_tokens b ++ []) ∙ ap (λ (z : List Token). map code_of (expr_tokens a) ++ map code_of z) (append-nil (expr_tokens b))))

  arrow-codes : (c : Clock) (a b : Expr) (n : ℕ) (ids : Ids) → arrow_codes c ids (both_codes G c c n a b ids) ≡ tree_codes G c n (Expr.arrow a b) ids
  unfolding yield
  arrow-codes c a b n ids = arrow-law c ids (is_base c) (yield G.types G.nodes G.node ids c n a).value (yield G.types G.nodes G.node ids c (yield G.types G.nodes G.node ids c n a).after b).value

  -- a `pre`
  pre-law : (c : Clock) (ids : Ids) (k b : Bool) (t : Ty) (y : Yield Expr) (m : ℕ) → y.after ≡ m → choose k (tag_value 58 0 ∷ map code_of (expr_tokens y.value)) (choose b (tag_value 58 0 ∷ map code_of (expr_tokens y.value)) (named 58 (ids.hold m) [])) ≡ map code_of (expr_tokens (pre_yield G.types G.nodes G.node ids (choose k Turn.Keep (choose b Turn.Keep Turn.Hold)) c t y).value)
  unfolding expr_tokens code_of
  pre-law c ids true b t y m i = refl
  pre-law c ids false true t y m i = refl
  pre-law c ids false false t y m i = rw (sym i)

  pre-codes : (c : Clock) (a : Expr) (y : Needs) (ids : Ids) → pre_codes c (is_bare a) (needed G.nodes c a y).holds ids (tree_codes G c y.holds a ids) ≡ tree_codes G c y.holds (Expr.pre a) ids
  unfolding yield
  pre-codes c a y ids = pre-law c ids (is_base c) (is_bare a) (type_or (operand_type (declared G.node) a)) (yield G.types G.nodes G.node ids c y.holds a) (needed G.nodes c a y).holds (yield-holds G.types G.nodes G.node ids a c y.holds y refl)

  hold-law : (c : Clock) (ids : Ids) (k b : Bool) (t : Ty) (y : Yield Expr) (m : ℕ) → y.after ≡ m → choose k y.holds (choose b y.holds (y.holds ++ (record { type = t; right = if_of (Expr.var (ids.flag c)) y.value (Expr.pre (Expr.var (ids.hold m))) } ∷ []))) ≡ (pre_yield G.types G.nodes G.node ids (choose k Turn.Keep (choose b Turn.Keep Turn.Hold)) c t y).holds
  hold-law c ids true b t y m i = refl
  hold-law c ids false true t y m i = refl
  hold-law c ids false false t y m i = rw (sym i)

  pre_held : (c : Clock) (a : Expr) (y : Needs) (ids : Ids) →
      pre_holds c (is_bare a) (record { type = type_or (operand_type (declared G.node) a); right = if_of (Expr.var (ids.flag c)) (yield G.types G.nodes G.node ids c y.holds a).value (Expr.pre (Expr.var (ids.hold (needed G.nodes c a y).holds))) }) (tree_holds G c y.holds a ids) ≡ tree_holds G c y.holds (Expr.pre a) ids
  unfolding yield
  pre_held c a y ids = hold-law c ids (is_base c) (is_bare a) (type_or (operand_type (declared G.node) a)) (yield G.types G.nodes G.node ids c y.holds a) (needed G.nodes c a y).holds (yield-holds G.types G.nodes G.node ids a c y.holds y refl)

-- ---- answers
module _ (G : Ground) where
  -- the same walk, of a token before its parts
  shifted : (s s' : Tables) (y : Needs) (p n m q : ℕ) (t u : Ids → List TagValue) (j : ℕ) (hs : Ids → List Hold) → Says G s'.plan s'.holds y p m q u j hs → Planned G s s' y (p + 1) n q t j hs → Planned G s s' y p m q u j hs
  shifted s s' y p n m q t u j hs S P = record { begun = P.begun; kept = λ i h. P.kept i (wider i h); held = P.held; says = S }
    where
      wider : (i : ℕ) → (i < p) ⊎ (q ≤ i) → (i < p + 1) ⊎ (q ≤ i)
      wider i (inl h) = inl (omega arith)
      wider i (inr h) = inr h

  -- one walk after another
  followed-by : (s s' s'' : Tables) (y z : Needs) (p a r b q : ℕ) (t u : Ids → List TagValue) (j : ℕ) (hs ks : Ids → List Hold) → ((ids : Ids) → j + length (hs ids) ≡ y.holds) → j ≤ y.holds → Leads y z → p ≤ r → r ≤ q →
      Planned G s s' y p a r t j hs → Planned G s' s'' z r b q u y.holds ks → Planned G s s'' z p (a + b) q (λ ids. t ids ++ u ids) j (λ ids. hs ids ++ ks ids)
  followed-by s s' s'' y z p a r b q t u j hs ks count f A i o P Q =
      let g = A.holds in
      record {
        begun = Q.begun;
        kept = λ n h. Q.kept n (before-part p r q n i h) ∙ P.kept n (behind-part p r q n o h);
        held = λ n h. Q.held n (before-part j y.holds z.holds n f h) ∙ P.held n (behind-part j y.holds z.holds n g h);
        says = says_then G s'.plan s''.plan s'.holds s''.holds y z p a r b q t u j hs ks count P.says Q.says Q.kept Q.held A i o;
      }

  -- other tokens, holds and needs that are the same
  retold : (s s' : Tables) (y z : Needs) (p n q : ℕ) (t u : Ids → List TagValue) (j : ℕ) (hs ks : Ids → List Hold) → y ≡ z → ((ids : Ids) → t ids ≡ u ids) → ((ids : Ids) → hs ids ≡ ks ids) → Planned G s s' y p n q t j hs → Planned G s s' z p n q u j ks
  retold s s' y z p n q t u j hs ks i e f P =
      subst (λ (x : Needs). Planned G s s' x p n q u j ks) i (record { begun = P.begun; kept = P.kept; held = P.held; says = says-as G s'.plan s'.holds y p n q t u j hs ks e f P.says })

  -- a token whose own word is written behind its parts'
  closed : (s s' s'' : Tables) (y z : Needs) (p n q : ℕ) (t u : Ids → List TagValue) (j : ℕ) (hs ks : Ids → List Hold) → p < q → j ≤ y.holds → y.holds ≤ z.holds → Planned G s s' y (p + 1) n q t j hs →
      Beside s'.plan s''.plan p → Kept no_hold s'.holds s''.holds y.holds z.holds → Begun s'' z → Says G s''.plan s''.holds z p 1 q u j ks → Planned G s s'' z p 1 q u j ks
  closed s s' s'' y z p n q t u j hs ks o f g P beside kept B S = record { begun = B; kept = other; held = row; says = S }
    where
      other : (i : ℕ) → (i < p) ⊎ (q ≤ i) → get_or s''.plan i 0 ≡ get_or s.plan i 0
      other i (inl h) = beside i (λ e. omega arith) ∙ P.kept i (inl (omega arith))
      other i (inr h) = beside i (λ e. omega arith) ∙ P.kept i (inr h)

      row : (i : ℕ) → (i < j) ⊎ (z.holds ≤ i) → hold_at s''.holds i ≡ hold_at s.holds i
      row i (inl h) = kept i (inl (omega arith)) ∙ P.held i (inl h)
      row i (inr h) = kept i (inr h) ∙ P.held i (inr (omega arith))

-- ---- by the fault that is met
pub ok-same : (x m : ℕ) (r : Result ℕ value.Fault) → r ≡ Ok x → r ≡ Ok m → x ≡ m
ok-same x m r i e = let h : ◌≡◌ {A = Result ℕ value.Fault} (Ok x) (Ok m) = sym i ∙ e in cc

pub ok-err : (x : ℕ) (g : value.Fault) (r : Result ℕ value.Fault) → r ≡ Ok x → r ≡ Err g → ⊥
ok-err x g r i e = let h : ◌≡◌ {A = Result ℕ value.Fault} (Ok x) (Err g) = sym i ∙ e in cc

pub err-same : (t g : value.Fault) (r : Result ℕ value.Fault) → r ≡ Err t → r ≡ Err g → t ≡ g
err-same t g r i e = let h : ◌≡◌ {A = Result ℕ value.Fault} (Err t) (Err g) = sym i ∙ e in cc

pub ended-map : {end : ℕ} {r : Result ℕ value.Fault} {P Q : Type 0} {o : Option Fault} → (P → Q) → Ended end r P o → Ended end r Q o
ended-map f (Ended.goes h e) = Ended.goes (f h) e
ended-map f (Ended.stops g i e) = Ended.stops g i e

-- what was walked on
ended-on : {end x : ℕ} {r : Result ℕ value.Fault} {P Q : Type 0} {o : Option Fault} → r ≡ Ok x → (P → Q) → Ended end r P o → Ended end (Ok x) Q o
ended-on i f (Ended.goes h e) = Ended.goes (f h) (sym i ∙ e)
ended-on {x = x} {r = r} i f (Ended.stops g j e) = absurd (ok-err x g r i e)

pub ended-then : {m q x : ℕ} {r r' : Result ℕ value.Fault} {P Q R : Type 0} {o u : Option Fault} → r ≡ Ok x → Ended m r P o → (P → x ≡ m → Ended q r' Q u) → (P → Q → R) → Ended q r' R (or_else o u)
ended-then {m = m} {x = x} {r = r} i (Ended.goes h e) k f = ended-map (f h) (k h (ok-same x m r i e))
ended-then {x = x} {r = r} i (Ended.stops g j e) k f = absurd (ok-err x g r i e)

-- a fault that is passed on
pub ended-stop : {m q : ℕ} {r w : Result ℕ value.Fault} {P R : Type 0} {o : Option Fault} (u : Option Fault) (t : value.Fault) → r ≡ Err t → w ≡ r → Ended m r P o → Ended q w R (or_else o u)
ended-stop {m = m} {r = r} u t i k (Ended.goes h e) = absurd (ok-err m t r e i)
ended-stop u t i k (Ended.stops g j e) = Ended.stops g j (k ∙ e)

ended-stopped : {m q : ℕ} {r w : Result ℕ value.Fault} {P R : Type 0} {o : Option Fault} (t : value.Fault) → r ≡ Err t → w ≡ r → Ended m r P o → Ended q w R o
ended-stopped {m = m} {r = r} t i k (Ended.goes h e) = absurd (ok-err m t r e i)
ended-stopped t i k (Ended.stops g j e) = Ended.stops g j (k ∙ e)

-- an end is past the place
ended-past : {m x p : ℕ} {r : Result ℕ value.Fault} {P : Type 0} {o : Option Fault} → r ≡ Ok x → x ≤ p → p < m → Ended m r P o → ⊥
ended-past {m = m} {x = x} {r = r} i l b (Ended.goes h e) = omega (arith, ok-same x m r i e)
ended-past {x = x} {r = r} i l b (Ended.stops g j e) = ok-err x g r i e

-- what a `?` passes on
pub passes : (r w : Result ℕ value.Fault) (t : value.Fault) → IsErr r × IsErrAnd r (λ y. y ≡ t) → w ≡ Err t → r ≡ w
passes r w t e h = let p = err_from_is_err_and r e.1 in rw (p.1, p.2) (sym h)

-- ---- tables as long as before
pub record Sized (s s' : Tables) : Type 0 where
  pub plan : length s'.plan ≡ length s.plan
  pub flags : length s'.flags ≡ length s.flags
  pub firsts : length s'.firsts ≡ length s.firsts
  pub holds : length s'.holds ≡ length s.holds

pub sized : {n n' : Notes} → StillLent n n' → Sized (tables_of n) (tables_of n')
sized L = record { plan = L.plan-long; flags = L.flags-long; firsts = L.firsts-long; holds = L.holds-long }

pub still-then : {a b c : Notes} → StillLent a b → StillLent b c → StillLent a c
still-then L M =
    record {
      plan = M.plan ∙ L.plan;
      same_flags = M.same_flags ∙ L.same_flags;
      same_firsts = M.same_firsts ∙ L.same_firsts;
      same_holds = M.same_holds ∙ L.same_holds;
      flags = M.flags ∙ L.flags;
      firsts = M.firsts ∙ L.firsts;
      holds = M.holds ∙ L.holds;
      plan-long = M.plan-long ∙ L.plan-long;
      flags-long = M.flags-long ∙ L.flags-long;
      firsts-long = M.firsts-long ∙ L.firsts-long;
      holds-long = M.holds-long ∙ L.holds-long;
    }

module _ (A : Arrays) where
  pub roomy_after : (T : Setting) (s s' : Tables) → Sized s s' → Roomy A T s → Roomy A T s'
  roomy_after T s s' L R = let a = L.plan in let b = R.plan in record { plan = omega arith; flags = L.flags ∙ R.flags; firsts = L.firsts ∙ R.firsts; holds = L.holds ∙ R.holds }

  -- how much is needed before and after
  pub grown : (T : Setting) (e : Expr) (c : Clock) (y : Needs) → y.holds ≤ (needed T.nodes c e y).holds
  grown T e c y = (leads-needed T.nodes e c y).holds

  pub counted : (T : Setting) (e : Expr) (c : Clock) (y : Needs) (ids : Ids) → y.holds + length (tree_holds (ground_of A T) c y.holds e ids) ≡ (needed T.nodes c e y).holds
  counted T e c y ids = yield-count T.types T.nodes T.node ids e c y.holds ∙ yield-holds T.types T.nodes T.node ids e c y.holds y refl

  -- no expression stands past the end
  pub walks-past : (s : Tables) (p : ℕ) (r : Result ℕ value.Fault) → length A.tags ≤ p → Walks A s s p r
  walks-past s p r h = record { walk = λ T c e q y K R d B. let x = seen_at e refl refl refl d in absurd (omega arith) }

  module _ (s s' : Tables) (p : ℕ) (r : Result ℕ value.Fault) where
    -- a when
    pub walks-sample : 67 ≤ get_or A.tags p 0 → get_or A.tags p 0 < 69 → Walks A s s' (p + 1) r → Walks A s s' p r
    unfolding needed yield fault_in
    walks-sample lo hi E = record {
      walk = λ T c e q y K R d B.
          let x = seen_at e refl refl refl d in
          let o = sample_in x.2 lo hi in
          rw o.2 (ended-map (λ P. shifted (ground_of A T) s s' _ p 1 1 q _ _ _ _ (says-drop (ground_of A T) _ _ _ p q _ _ _ x.0 lo hi P.says) P) (E.walk T (parent c) o.1 q y K R o.3 B));
    }

    -- a merge
    pub walks-join : get_or A.tags p 0 ≡ 69 → WalksBoth A s s' (p + 1) r → Walks A s s' p r
    unfolding needed yield fault_in
    walks-join t E = record {
      walk = λ T c e q y K R d B.
          let x = seen_at e refl refl refl d in
          let o = join-in x.2 t in
          rw o.4 (ended-map (λ P. retold (ground_of A T) s s' _ _ p 1 q _ _ _ _ _ refl (join-codes (ground_of A T) c o.0 o.1 o.2 y.holds) (λ ids. refl)
          (shifted (ground_of A T) s s' _ p 2 1 q _ _ _ _ (says-join (ground_of A T) _ _ _ p q o.0 _ _ _ x.0 t o.5 P.says) P)) (E.walk T (c ↓ is_on o.0) (c ↓ is_not o.0) o.1 o.2 o.3 q y K R o.6 o.7 B));
    }

    -- what computes
    pub walks-plain : (get_or A.tags p 0 ≡ 58 → ⊥) → (get_or A.tags p 0 ≡ 59 → ⊥) → (get_or A.tags p 0 ≡ 60 → ⊥) → (get_or A.tags p 0 ≡ 67 → ⊥) → (get_or A.tags p 0 ≡ 68 → ⊥) → (get_or A.tags p 0 ≡ 69 → ⊥) → (n v : ℕ) → v ≡ get_or A.values p 0 → n ≡ follows (get_or A.tags p 0) v →
        WalksAll A s s' n (p + 1) r → Walks A s s' p r
    walks-plain n58 n59 n60 n67 n68 n69 n v w j E = record {
      walk = λ T c e q y K R d B.
          let G = ground_of A T in
          let i = j ∙ ap (follows (get_or A.tags p 0)) w in
          let x = seen_at e refl refl refl d in
          let o = plain_in x.2 n58 n59 n60 n67 n68 n69 in
          let us = o.0 in
          let ds = o.1 in
          let f = o.2 in
          let D = subst (λ (z : ℕ). Lies A.tags A.values (Site A) c us ds (p + 1) z q) (sym i) o.3 in
          let W = E.walk T c us ds q y K R D B in
          let stays = stays-but (get_or A.tags p 0) n58 n59 n60 n67 n68 n69 in
          let U : Leaves A T s s' (needed T.nodes c e y) p 1 q (tree_codes G c y.holds e) y.holds (tree_holds G c y.holds e) r (fault_among T.types T.nodes T.node c c us) =
          ended-map (λ P. retold G s s' (needed_all T.nodes c c us y) (needed T.nodes c e y) p 1 q _ _ _ _ _ (computes-needs G e us f.computes c y) (computes-codes G e us p ds f.computes f.framed c y.holds) (computes-holds G e us f.computes c y.holds)
          (shifted G s s' (needed_all T.nodes c c us y) p n 1 q _ _ _ _ (says-stay G _ _ (needed_all T.nodes c c us y) p 0 q (frame_codes G c y.holds us ds) y.holds (frame_holds G c y.holds us) x.0 stays
          (subst (λ (z : ℕ). Says G s'.plan s'.holds (needed_all T.nodes c c us y) (p + 1) z q (frame_codes G c y.holds us ds) y.holds (frame_holds G c y.holds us)) (omega arith) P.says)) P)) W in
          subst (λ (z : Option Fault). Leaves A T s s' (needed T.nodes c e y) p 1 q (tree_codes G c y.holds e) y.holds (tree_holds G c y.holds e) r z) (computes-fault G e us f.computes c) U;
    }

  -- ---- a `->`, a call and a `pre` in whose operands a fault was met
  module _ (s s' : Tables) (p : ℕ) (r w : Result ℕ value.Fault) (g : value.Fault) (i : r ≡ Err g) (k : w ≡ r) where
    pub follow-stops : get_or A.tags p 0 ≡ 59 → WalksBoth A s s' (p + 1) r → Walks A s s' p w
    unfolding needed yield fault_in
    follow-stops t E = record {
      walk = λ T c e q y K R d B.
          let v = seen_at e refl refl refl d in
          let o = follow-in v.2 t in
          rw o.3 (ended-stopped {m = q} g i k (E.walk T c c o.0 o.1 o.2 q y K R o.5 o.6 B));
    }

    pub call-stops : get_or A.tags p 0 ≡ 60 → WalksAll A s s' 1 (p + 1) r → Walks A s s' p w
    unfolding needed yield fault_in
    call-stops t E = record {
      walk = λ T c e q y K R d B.
          let v = seen_at e refl refl refl d in
          let o = calls-in v.2 t in
          rw o.3 (ended-stop {m = q} _ g i k (E.walk T c o.1 o.2 q y K R o.6 B));
    }

    pub previous-stops : get_or A.tags p 0 ≡ 58 → Walks A s s' (p + 1) r → Walks A s s' p w
    unfolding needed yield fault_in
    previous-stops t E = record {
      walk = λ T c e q y K R d B.
          let v = seen_at e refl refl refl d in
          let o = previous-in v.2 t in
          rw o.1 (ended-stop {m = q} _ g i k (E.walk T c o.0 q y K R o.3 B));
    }

  -- ---- and whose operands were walked up to x
  module _ (s s' s'' : Tables) (p x : ℕ) (r₀ : Result ℕ value.Fault) (went : r₀ ≡ Ok x) where
    module _ (L : Sized s s') (L' : Sized s' s'') where
      -- a `->`
      pub walks-follow : get_or A.tags p 0 ≡ 59 → WalksBoth A s s' (p + 1) r₀ → ((y : Needs) → Begun s' y → Followed s' s'' (clock_in A.sites (17 * p)) y p) → Walks A s s'' p (Ok x)
      unfolding needed yield fault_in
      walks-follow t E F = record {
        walk = λ T c e q y K R d B.
            let G = ground_of A T in
            let v = seen_at e refl refl refl d in
            let o = follow-in v.2 t in
            let a = o.0 in
            let b = o.1 in
            let f = owed-on (lies-owed o.5) in
            let g = owed-on (lies-owed o.6) in
            let u : p < q = omega arith in
            let z = needed T.nodes c b (needed T.nodes c a y) in
            let on : clock_in A.sites (17 * p) ≡ c = v.1.row (rw o.3) in
            let W = E.walk T c c a b o.2 q y K R o.5 o.6 B in
            let room = roomy_after T s' s'' L' (roomy_after T s s' L R) in
            let n = arrow-holds c z in
            let k = grown T a c y in
            let m = grown T b c (needed T.nodes c a y) in
            let fits = R.plan in
            let wide = L.plan in
            let there = v.0 in
            rw o.3 (ended-on went (λ P.
            let D : Followed s' s'' c z p = subst (λ (w : Clock). Followed s' s'' w z p) on (F z P.begun) in
            retold G s s'' (settled (arrow_turn c) c z) (settled (arrow_turn c) c z) p 1 q _ _ y.holds _ _ refl (arrow-codes G c a b y.holds) (λ ids. refl)
            (closed G s s' s'' z (settled (arrow_turn c) c z) p 2 q _ _ y.holds _ _ u (omega arith) (omega arith) P D.beside (λ j w. ap (λ (l : List HeldOperand). hold_at l j) D.held) D.begun
            (subst (λ (l : List HeldOperand). Says G s''.plan l (settled (arrow_turn c) c z) p 1 q (λ ids. arrow_codes c ids (both_codes G c c y.holds a b ids)) y.holds (both_holds G c c y.holds a b)) (sym D.held)
            (says-follow G s'.plan s''.plan z c p q (both_codes G c c y.holds a b) y.holds (both_holds G c c y.holds a b) there u D.beside s'.holds o.4 (λ j w. D.word (omega arith) (omega (arith, room.firsts)) w) P.says)))) W);
      }

      -- a call
      pub walks-call : (r : Result ℕ value.Fault) → get_or A.tags p 0 ≡ 60 → WalksAll A s s' 1 (p + 1) r₀ →
          ((types : List TypeDef) (l : List Node) (node : Node) (y : Needs) → NodesStand A.names A.tags A.values A.places A.nodes l → TypesStand A.names A.tags A.values A.defs A.types A.has types → Begun s' y →
          Ended x r (Gated s' s'' (clock_in A.sites (17 * p)) (is_some (operator_outputs l (get_or A.values p 0))) y p) (gate_fault types l node (get_or A.values p 0) (gate_of types l node (clock_in A.sites (17 * p)) (get_or A.values p 0)))) → Walks A s s'' p r
      unfolding needed yield fault_in
      walks-call r t E F = record {
        walk = λ T c e q y K R d B.
            let G = ground_of A T in
            let v = seen_at e refl refl refl d in
            let o = calls-in v.2 t in
            let f = o.0 in
            let us = o.1 in
            let ds = o.2 in
            let g = owed-on (lies-owed o.6) in
            let u : p < q = omega arith in
            let z = needed_all T.nodes c c us y in
            let on : clock_in A.sites (17 * p) ≡ c = v.1.row (rw o.3) in
            let val : get_or A.values p 0 ≡ f = ap (λ (w : TagValue). w.value) o.4 in
            let W = E.walk T c us ds q y K R o.6 B in
            let room = roomy_after T s' s'' L' (roomy_after T s s' L R) in
            let out = operator_outputs T.nodes f in
            let k = (leads-all T.nodes us c c y).holds in
            let n = call-holds c (is_some out) z in
            let fits = R.plan in
            let wide = L.plan in
            let there = v.0 in
            let fault = gate_fault T.types T.nodes T.node f (gate_of T.types T.nodes T.node c f) in
            let next : Planned G s s' z (p + 1) 1 q (frame_codes G c y.holds us ds) y.holds (frame_holds G c y.holds us) → x ≡ q →
            Ended q r ((fault ≡ none) × Gated s' s'' c (is_some out) z p) fault =
            λ P m. with_none fault (subst (λ (w : ℕ). Ended w r (Gated s' s'' c (is_some out) z p) fault) m
            (subst (λ (w : ℕ). Ended x r (Gated s' s'' c (is_some (operator_outputs T.nodes w)) z p) (gate_fault T.types T.nodes T.node w (gate_of T.types T.nodes T.node c w))) val
            (subst (λ (w : Clock). Ended x r (Gated s' s'' w (is_some (operator_outputs T.nodes (get_or A.values p 0))) z p) (gate_fault T.types T.nodes T.node (get_or A.values p 0) (gate_of T.types T.nodes T.node w (get_or A.values p 0)))) on
            (F T.types T.nodes T.node z K.standing K.typed P.begun)))) in
            rw o.3 (ended-then went W next (λ P Q.
            let D = Q.1 in
            let w = settled (call_turn c (is_some out)) c z in
            retold G s s'' w w p 1 q _ _ y.holds _ _ refl (call-codes G f us p ds o.4 (subst (λ (w : Expr). Framed A.tags A.values w us p ds) o.3 o.5) c y.holds) (λ ids. refl)
            (closed G s s' s'' z w p 1 q _ _ y.holds _ _ u k (omega arith) P D.beside (λ i a. ap (λ (l : List HeldOperand). hold_at l i) D.held) D.begun
            (subst (λ (l : List HeldOperand). Says G s''.plan l w p 1 q (λ ids. call_codes (defaults_in G) (gate_of T.types T.nodes T.node c f) c f ids (frame_codes G c y.holds us ds ids)) y.holds (frame_holds G c y.holds us)) (sym D.held)
            (says-call G s'.plan s''.plan z c p q (frame_codes G c y.holds us ds) y.holds (frame_holds G c y.holds us) there u D.beside s'.holds f o.4 Q.0 (λ a b. D.word (omega arith) (omega (arith, room.flags)) b) P.says)))));
      }

      -- a `pre`
      pub walks-previous : (r : Result ℕ value.Fault) → get_or A.tags p 0 ≡ 58 → Walks A s s' (p + 1) r₀ →
          ((e : Expr) (q : ℕ) (ds : List Declared) (y : Needs) → tree A.names (tokens A.tags A.values) (p + 1) ≡ got e q → (p + 1 < length A.tags) × (is_bare e ≡ eqb (get_or A.tags (p + 1) 0) 54) → Declares A.names (tokens A.tags A.values) A.typed ds → Begun s' y →
          Ended x r (Preceded s' s'' (clock_in A.sites (17 * p)) (is_bare e) y p) (pre_fault (pre_turn (clock_in A.sites (17 * p)) (is_bare e)) (operand_type ds e))) → Walks A s s'' p r
      unfolding needed yield fault_in
      walks-previous r t E F = record {
        walk = λ T c e q y K R d B.
            let G = ground_of A T in
            let v = seen_at e refl refl refl d in
            let o = previous-in v.2 t in
            let a = o.0 in
            let inner = seen_at a refl refl refl o.3 in
            let g = owed-on (lies-owed o.3) in
            let u : p < q = omega arith in
            let z = needed T.nodes c a y in
            let bare = is_bare a in
            let on : clock_in A.sites (17 * p) ≡ c = v.1.row (rw o.1) in
            let W = E.walk T c a q y K R o.3 B in
            let room = roomy_after T s' s'' L' (roomy_after T s s' L R) in
            let near = roomy_after T s s' L R in
            let k = grown T a c y in
            let n = (leads-settled (pre_turn c bare) c z).holds in
            let fits = R.plan in
            let wide = L.plan in
            let few = K.few in
            let there = v.0 in
            let type = type_or (operand_type (declared T.node) a) in
            let fault = pre_fault (pre_turn c bare) (operand_type (declared T.node) a) in
            let next : Planned G s s' z (p + 1) 1 q (tree_codes G c y.holds a) y.holds (tree_holds G c y.holds a) → x ≡ q →
            Ended q r ((fault ≡ none) × Preceded s' s'' c bare z p) fault =
            λ P m. with_none fault (subst (λ (w : ℕ). Ended w r (Preceded s' s'' c bare z p) fault) m
            (subst (λ (w : Clock). Ended x r (Preceded s' s'' w bare z p) (pre_fault (pre_turn w bare) (operand_type (declared T.node) a))) on
            (F a q (declared T.node) z inner.1.stands (inner.0, bare-is inner.2) K.declares P.begun))) in
            rw o.1 (ended-then went W next (λ P Q.
            let D = Q.1 in
            let w = settled (pre_turn c bare) c z in
            let value : Ids → Expr = λ ids. (yield T.types T.nodes T.node ids c y.holds a).value in
            retold G s s'' w w p 1 q _ _ y.holds _ _ refl (pre-codes G c a y) (pre_held G c a y)
            (closed G s s' s'' z w p 1 q _ _ y.holds _ _ u k n P D.beside D.kept D.begun
            (says-previous G s'.plan s''.plan s'.holds s''.holds z c bare p q a type value y.holds (tree_holds G c y.holds a) there u D.beside (counted T a c y) P.says inner.1.stands (typed-when c bare (operand_type (declared T.node) a) Q.0) D.kept
            K.few (λ b f g h l m n. D.row b f g h (omega (arith, near.holds)) (omega (arith, room.flags)) n) o.2 (lies-owed o.3) (λ h. D.word (omega arith) h)))));
      }
        where
          typed-when : (c : Clock) (bare : Bool) (o : Option Ty) → pre_fault (pre_turn c bare) o ≡ none → is_base c ≡ false → bare ≡ false → o ≡ some (type_or o)
          typed-when c bare o z b f = go o (rw (b, f) at z)
            where
              go : (o : Option Ty) → pre_fault Turn.Hold o ≡ none → o ≡ some (type_or o)
              go none h = let m : ◌≡◌ {A = Bool} true false = ap is_some h in absurd cc
              go (some t) h = refl

  -- ---- two expressions, and parts
  module _ (s s' : Tables) (p : ℕ) (r₀ : Result ℕ value.Fault) (E : Walks A s s' p r₀) where
    -- a fault was met
    module _ (w : Result ℕ value.Fault) (g : value.Fault) (i : r₀ ≡ Err g) (k : w ≡ r₀) where
      pub both-stops : WalksBoth A s s' p w
      both-stops = record { walk = λ T c d a b m q y K R da db B. ended-stop {m = m} (fault_in T.types T.nodes T.node d b) g i k (E.walk T c a m y K R da B) }

      pub item-stops : 50 ≤ get_or A.tags p 0 → (n : ℕ) → 0 < n → WalksAll A s s' n p w
      unfolding fault_in
      item-stops t n z = record {
        walk = λ T c es fs q y K R d B.
            let o = expr-first d z t in
            rw o.whole (ended-stop {m = o.end} (fault_among T.types T.nodes T.node c c o.others) g i k (E.walk T c o.first o.end y K R o.here B));
      }

    -- an expression ends past its place
    module _ (x : ℕ) (went : r₀ ≡ Ok x) (r : Result ℕ value.Fault) (i : x ≤ p) where
      pub both-past : WalksBoth A s s' p r
      both-past = record { walk = λ T c d a b m q y K R da db B. let f = owed-on (lies-owed da) in absurd (ended-past went i (omega arith) (E.walk T c a m y K R da B)) }

      pub item-past : 50 ≤ get_or A.tags p 0 → (n : ℕ) → 0 < n → WalksAll A s s' n p r
      item-past t n z = record {
        walk = λ T c es fs q y K R d B.
            let o = expr-first d z t in
            let f = owed-on (lies-owed o.here) in
            absurd (ended-past went i (omega arith) (E.walk T c o.first o.end y K R o.here B));
      }

    module _ (x : ℕ) (went : r₀ ≡ Ok x) (s'' : Tables) (r : Result ℕ value.Fault) (L : Sized s s') where
      pub walks-both : Walks A s' s'' x r → WalksBoth A s s'' p r
      walks-both F = record {
        walk = λ T c d a b m q y K R da db B.
            let G = ground_of A T in
            let f = owed-on (lies-owed da) in
            let g = owed-on (lies-owed db) in
            let w = needed T.nodes c a y in
            let z = needed T.nodes d b w in
            ended-then went (E.walk T c a m y K R da B)
            (λ P e. subst (λ (u : ℕ). Leaves A T s' s'' z u 1 q (tree_codes G d w.holds b) w.holds (tree_holds G d w.holds b) r (fault_in T.types T.nodes T.node d b)) e
            (F.walk T d b q w K (roomy_after T s s' L R) (subst (λ (u : ℕ). LiesAt A.tags A.values (Site A) d b u q) (sym e) db) P.begun))
            (λ P Q. retold G s s'' z z p 2 q (λ ids. tree_codes G c y.holds a ids ++ tree_codes G d w.holds b ids) (both_codes G c d y.holds a b) y.holds (λ ids. tree_holds G c y.holds a ids ++ tree_holds G d w.holds b ids) (both_holds G c d y.holds a b) refl
            (λ ids. ap (λ (u : ℕ). tree_codes G c y.holds a ids ++ tree_codes G d u b ids) (sym (yield-holds T.types T.nodes T.node ids a c y.holds y refl)))
            (λ ids. ap (λ (u : ℕ). tree_holds G c y.holds a ids ++ tree_holds G d u b ids) (sym (yield-holds T.types T.nodes T.node ids a c y.holds y refl)))
            (followed-by G s s' s'' w z p 1 m 1 q (tree_codes G c y.holds a) (tree_codes G d w.holds b) y.holds (tree_holds G c y.holds a) (tree_holds G d w.holds b)
            (counted T a c y) (grown T a c y) (leads-needed T.nodes b d w) (omega arith) (omega arith) P Q));
      }

      item : (n : ℕ) → WalksAll A s' s'' n x r → (T : Setting) (c : Clock) (e : Expr) (es : Exprs) (fs : Frame) (m q : ℕ) (y : Needs) → Known A T → Roomy A T s → LiesAt A.tags A.values (Site A) c e p m → Lies A.tags A.values (Site A) c es fs m n q → Begun s y →
          Leaves A T s s'' (needed_all T.nodes c c (Exprs.and e es) y) p (1 + n) q (frame_codes (ground_of A T) c y.holds (Exprs.and e es) (none ∷ fs)) y.holds (frame_holds (ground_of A T) c y.holds (Exprs.and e es)) r (fault_among T.types T.nodes T.node c c (Exprs.and e es))
      unfolding needed yield weave operand_tokens fault_in
      item n F T c e es fs m q y K R d h B =
          let G = ground_of A T in
          let f = owed-on (lies-owed d) in
          let g = owed-on (lies-owed h) in
          let w = needed T.nodes c e y in
          let z = needed_all T.nodes c c es w in
          ended-then went (E.walk T c e m y K R d B)
          (λ P i. subst (λ (u : ℕ). Leaves A T s' s'' z u n q (frame_codes G c w.holds es fs) w.holds (frame_holds G c w.holds es) r (fault_among T.types T.nodes T.node c c es)) i
          (F.walk T c es fs q w K (roomy_after T s s' L R) (subst (λ (u : ℕ). Lies A.tags A.values (Site A) c es fs u n q) (sym i) h) P.begun))
          (λ P Q. retold G s s'' z z p (1 + n) q (λ ids. tree_codes G c y.holds e ids ++ frame_codes G c w.holds es fs ids) (frame_codes G c y.holds (Exprs.and e es) (none ∷ fs)) y.holds (λ ids. tree_holds G c y.holds e ids ++ frame_holds G c w.holds es ids) (frame_holds G c y.holds (Exprs.and e es)) refl
          (λ ids. ap (λ (u : ℕ). tree_codes G c y.holds e ids ++ frame_codes G c u es fs ids) (sym (yield-holds T.types T.nodes T.node ids e c y.holds y refl)))
          (λ ids. ap (λ (u : ℕ). tree_holds G c y.holds e ids ++ frame_holds G c u es ids) (sym (yield-holds T.types T.nodes T.node ids e c y.holds y refl)))
          (followed-by G s s' s'' w z p 1 m n q (tree_codes G c y.holds e) (frame_codes G c w.holds es fs) y.holds (tree_holds G c y.holds e) (frame_holds G c w.holds es)
          (counted T e c y) (grown T e c y) (leads-all T.nodes es c c w) (omega arith) (omega arith) P Q))

      pub walks-item : 50 ≤ get_or A.tags p 0 → (n : ℕ) → 0 < n → WalksAll A s' s'' (n - 1) x r → WalksAll A s s'' n p r
      walks-item t n z F = record {
        walk = λ T c es fs q y K R d B.
            let G = ground_of A T in
            let o = expr-first d z t in
            let I = item (n - 1) F T c o.first o.others o.frame o.end q y K R o.here o.rest B in
            let J = subst (λ (u : Exprs). Leaves A T s s'' (needed_all T.nodes c c u y) p (1 + (n - 1)) q (frame_codes G c y.holds u (none ∷ o.frame)) y.holds (frame_holds G c y.holds u) r (fault_among T.types T.nodes T.node c c u)) (sym o.whole) I in
            let H = subst (λ (u : Frame). Leaves A T s s'' (needed_all T.nodes c c es y) p (1 + (n - 1)) q (frame_codes G c y.holds es u) y.holds (frame_holds G c y.holds es) r (fault_among T.types T.nodes T.node c c es)) (sym o.framed) J in
            subst (λ (m : ℕ). Leaves A T s s'' (needed_all T.nodes c c es y) p m q (frame_codes G c y.holds es fs) y.holds (frame_holds G c y.holds es) r (fault_among T.types T.nodes T.node c c es)) (omega arith) H;
      }

  -- none are left
  pub walks-none : (s : Tables) (n p : ℕ) → n ≡ 0 → WalksAll A s s n p (Ok p)
  unfolding needed yield weave operand_tokens fault_in
  walks-none s n p z = record {
    walk = λ T c es fs q y K R d B.
        let o = lies-none d z in
        rw (o.0, o.1, z, sym o.2) (Ended.goes (record { begun = B; kept = λ i k. refl; held = λ i k. refl; says = says_none (ground_of A T) s.plan s.holds y p y.holds }) refl);
  }

  -- a token that stays
  pub walks-sign : (s s' : Tables) (n p : ℕ) (r : Result ℕ value.Fault) → get_or A.tags p 0 < 50 → 0 < n → (m : ℕ) → m ≡ n - 1 + follows (get_or A.tags p 0) (get_or A.values p 0) → WalksAll A s s' m (p + 1) r → WalksAll A s s' n p r
  unfolding weave
  walks-sign s s' n p r t z m i E = record {
    walk = λ T c es fs q y K R d B.
        let G = ground_of A T in
        let o = sign-first d z t in
        let w = needed_all T.nodes c c es y in
        let W = E.walk T c es o.0 q y K R (subst (λ (k : ℕ). Lies A.tags A.values (Site A) c es o.0 (p + 1) k q) (sym i) o.3) B in
        let stays = stays-but (get_or A.tags p 0) (λ u. omega arith) (λ u. omega arith) (λ u. omega arith) (λ u. omega arith) (λ u. omega arith) (λ u. omega arith) in
        let I = ended-map (λ P. shifted G s s' w p m (suc (n - 1)) q (frame_codes G c y.holds es o.0) (frame_codes G c y.holds es (some (code_at A.tags A.values p) ∷ o.0)) y.holds (frame_holds G c y.holds es)
        (says-stay G s'.plan s'.holds w p (n - 1) q (frame_codes G c y.holds es o.0) y.holds (frame_holds G c y.holds es) o.2 stays
        (subst (λ (k : ℕ). Says G s'.plan s'.holds w (p + 1) k q (frame_codes G c y.holds es o.0) y.holds (frame_holds G c y.holds es)) i P.says)) P) W in
        let J = subst (λ (u : Frame). Leaves A T s s' w p (suc (n - 1)) q (frame_codes G c y.holds es u) y.holds (frame_holds G c y.holds es) r (fault_among T.types T.nodes T.node c c es)) (sym o.1) I in
        subst (λ (k : ℕ). Leaves A T s s' w p k q (frame_codes G c y.holds es fs) y.holds (frame_holds G c y.holds es) r (fault_among T.types T.nodes T.node c c es)) (omega arith) J;
  }

  -- there are tokens for all parts
  pub parts-past : (s : Tables) (n p : ℕ) (r : Result ℕ value.Fault) → 0 < n → length A.tags ≤ p → WalksAll A s s n p r
  parts-past s n p r z h = record { walk = λ T c es fs q y K R d B. let f = owed-few (lies-owed d) in absurd (omega arith) }

  pub parts-over : (s : Tables) (n p : ℕ) (r : Result ℕ value.Fault) → length A.tags < n → WalksAll A s s n p r
  parts-over s n p r h = record { walk = λ T c es fs q y K R d B. let f = owed-few (lies-owed d) in absurd (omega arith) }
