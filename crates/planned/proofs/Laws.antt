-- Laws of what a plan says: parts one after another, and a token by what becomes of it.
-- Assumes nothing.
use mathlib.Core.Path.{◌≡◌, refl, sym, ◌∙◌, ap, subst}
use mathlib.Core.List.{List, [], ◌∷◌, ◌++◌, append_assoc, append-nil}
use mathlib.Core.Option.{none, some}
use Prim.Native.Nat.{ℕ, zero, suc, ◌+◌, ◌≤◌}
use native.Mathlib.Omega.{arith}
use lib.ListN.{length, get_or}
use Rattle.definitions.specs.Tokens.{TagValue}
use Rattle.definitions.specs.Tree.{Declared}
use Rattle.definitions.specs.Declock.{operator_outputs}
use Rattle.stateless.specs.Faults.{outputs_fault}
use Rattle.layout.specs.Owed.{Owed}
use Rattle.layout.proofs.Owed.{owed-on}
use Rattle.emit.specs.declared.output.Output.{Output}
use Rattle.emit.specs.Out.{puts}
use Rattle.emit.proofs.Laws.{puts-append}
use Rattle.skeleton.specs.Lies.{code_at, parts_at}
use Rattle.planned.specs.declared.Plan.{Plan}
use Rattle.planned.specs.Writes.{Writer, plan_at, named, gate_codes, default_codes, Writes}

-- one list after another
pub then : (o m r : Output) (a b l : List TagValue) → m ≡ puts o a → r ≡ puts m b → l ≡ a ++ b → r ≡ puts o l
then o m r a b l i j e = j ∙ (ap (λ (z : Output). puts z b) i ∙ (puts-append o a b ∙ ap (puts o) (sym e)))

-- what stands behind two lists
behind : (a d f b l : List TagValue) → l ≡ f ++ b → a ++ (d ++ l) ≡ (a ++ (d ++ f)) ++ b
behind a d f b l e = ap (λ (z : List TagValue). a ++ (d ++ z)) e ∙ sym (append_assoc a (d ++ f) b ∙ ap (λ (z : List TagValue). a ++ z) (append_assoc d f b))

-- as many parts by another number
pub change : {gs vs : List ℕ} {W : Writer} {plan : List ℕ} {p k m q : ℕ} {l : List TagValue} → k ≡ m → Writes gs vs W plan p k q l → Writes gs vs W plan p m q l
change {gs} {vs} {W} {plan} {p} {k} {m} {q} {l} e h = subst (λ (n : ℕ). Writes gs vs W plan p n q l) e h

module _ (gs vs : List ℕ) (W : Writer) (plan : List ℕ) where
  -- some parts and the others
  pub record Split (p a b q : ℕ) (l : List TagValue) : Type 0 where
    pub end : ℕ
    pub front : List TagValue
    pub back : List TagValue
    pub here : Writes gs vs W plan p a end front
    pub rest : Writes gs vs W plan end b q back
    pub whole : l ≡ front ++ back

  none_first : {p n q : ℕ} {l : List TagValue} (b : ℕ) → n ≡ 0 + b → Writes gs vs W plan p n q l → Split p 0 b q l
  none_first {p} {n} {q} {l} b e w = record { end = p; front = []; back = l; here = Writes.done; rest = change (omega arith) w; whole = refl }

  pub split : {p n q : ℕ} {l : List TagValue} → Writes gs vs W plan p n q l → (a b : ℕ) → n ≡ a + b → Split p a b q l
  split {p} Writes.done a b e = record { end = p; front = []; back = []; here = change (omega arith) Writes.done; rest = change (omega arith) Writes.done; whole = refl }
  split (Writes.stay {p} {k} {q} {l} i j w) a b e = go a e (λ a b e. split w a b e)
    where
      go : (a : ℕ) → suc k ≡ a + b → ((a b : ℕ) → parts_at gs vs p + k ≡ a + b → Split (p + 1) a b q l) → Split p a b q (code_at gs vs p ∷ l)
      go zero e h = none_first b e (Writes.stay i j w)
      go (suc a) e h =
          let s = h (parts_at gs vs p + a) b (omega arith) in
          record { end = s.end; front = code_at gs vs p ∷ s.front; back = s.back; here = Writes.stay i j s.here; rest = s.rest; whole = ap (λ (z : List TagValue). code_at gs vs p ∷ z) s.whole }
  split (Writes.drop {p} {k} {q} {l} i j w) a b e = go a e (λ a b e. split w a b e)
    where
      go : (a : ℕ) → suc k ≡ a + b → ((a b : ℕ) → suc k ≡ a + b → Split (p + 1) a b q l) → Split p a b q l
      go zero e h = none_first b e (Writes.drop i j w)
      go (suc a) e h =
          let s = h (suc a) b (omega arith) in
          record { end = s.end; front = s.front; back = s.back; here = Writes.drop i j s.here; rest = s.rest; whole = s.whole }
  split (Writes.choice {p} {k} {q} {x} {l} i j w) a b e = go a e (λ a b e. split w a b e)
    where
      go : (a : ℕ) → suc k ≡ a + b → ((a b : ℕ) → suc (suc k) ≡ a + b → Split (p + 1) a b q l) → Split p a b q (named 57 x l)
      go zero e h = none_first b e (Writes.choice i j w)
      go (suc a) e h =
          let s = h (suc (suc a)) b (omega arith) in
          record { end = s.end; front = named 57 x s.front; back = s.back; here = Writes.choice i j s.here; rest = s.rest; whole = ap (named 57 x) s.whole }
  split (Writes.hold {p} {k} {r} {q} {x} {l} i j o w) a b e = go a e (λ a b e. split w a b e)
    where
      go : (a : ℕ) → suc k ≡ a + b → ((a b : ℕ) → k ≡ a + b → Split r a b q l) → Split p a b q (named 58 x l)
      go zero e h = none_first b e (Writes.hold i j o w)
      go (suc a) e h =
          let s = h a b (omega arith) in
          record { end = s.end; front = named 58 x s.front; back = s.back; here = Writes.hold i j o s.here; rest = s.rest; whole = ap (named 58 x) s.whole }
  split (Writes.gate {p} {k} {r} {q} {x} {os} {a = m} {l = l} i j f d v w) a b e = go a e (λ a b e. split w a b e)
    where
      go : (a : ℕ) → suc k ≡ a + b → ((a b : ℕ) → k ≡ a + b → Split r a b q l) → Split p a b q (gate_codes W.condact (length os + 2) x (code_at gs vs p ∷ (m ++ (default_codes W os ++ l))))
      go zero e h = none_first b e (Writes.gate i j f d v w)
      go (suc a) e h =
          let s = h a b (omega arith) in
          record { end = s.end; front = gate_codes W.condact (length os + 2) x (code_at gs vs p ∷ (m ++ (default_codes W os ++ s.front))); back = s.back; here = Writes.gate i j f d v s.here; rest = s.rest; whole = ap (λ (z : List TagValue). gate_codes W.condact (length os + 2) x (code_at gs vs p ∷ z)) (behind m (default_codes W os) s.front s.back l s.whole) }

  -- no part
  pub writes-none : {p n q : ℕ} {l : List TagValue} → Writes gs vs W plan p n q l → n ≡ 0 → (p ≡ q) × (l ≡ [])
  writes-none Writes.done e = (refl, refl)
  writes-none (Writes.stay i j w) e = absurd (omega arith)
  writes-none (Writes.drop i j w) e = absurd (omega arith)
  writes-none (Writes.choice i j w) e = absurd (omega arith)
  writes-none (Writes.hold i j o w) e = absurd (omega arith)
  writes-none (Writes.gate i j f d v w) e = absurd (omega arith)

  -- each part has a token
  pub writes-on : {p n q : ℕ} {l : List TagValue} → Writes gs vs W plan p n q l → p + n ≤ q
  writes-on Writes.done = omega arith
  writes-on (Writes.stay i j w) = let h = writes-on w in omega arith
  writes-on (Writes.drop i j w) = let h = writes-on w in omega arith
  writes-on (Writes.choice i j w) = let h = writes-on w in omega arith
  writes-on (Writes.hold i j o w) = let h = writes-on w in let f = owed-on o in omega arith
  writes-on (Writes.gate i j f d v w) = let h = writes-on v in let g = writes-on w in omega arith

  -- one part, by what becomes of its token
  pub stay-in : {p n q : ℕ} {l : List TagValue} → Writes gs vs W plan p n q l → n ≡ 1 → plan_at gs vs W plan p ≡ Plan.Stay →
      (r : List TagValue) × Writes gs vs W plan (p + 1) (parts_at gs vs p) q r × (l ≡ code_at gs vs p ∷ r)
  stay-in Writes.done e t = absurd (omega arith)
  stay-in (Writes.stay {l = l} i j w) e t = (l, change (omega arith) w, refl)
  stay-in (Writes.drop i j w) e t = absurd cc
  stay-in (Writes.choice i j w) e t = absurd cc
  stay-in (Writes.hold i j o w) e t = absurd cc
  stay-in (Writes.gate i j f d v w) e t = absurd cc

  pub drop-in : {p n q : ℕ} {l : List TagValue} → Writes gs vs W plan p n q l → n ≡ 1 → plan_at gs vs W plan p ≡ Plan.Drop → Writes gs vs W plan (p + 1) 1 q l
  drop-in Writes.done e t = absurd (omega arith)
  drop-in (Writes.stay i j w) e t = absurd cc
  drop-in (Writes.drop i j w) e t = change (omega arith) w
  drop-in (Writes.choice i j w) e t = absurd cc
  drop-in (Writes.hold i j o w) e t = absurd cc
  drop-in (Writes.gate i j f d v w) e t = absurd cc

  pub choice-in : {p n q : ℕ} {l : List TagValue} → Writes gs vs W plan p n q l → n ≡ 1 → (x : ℕ) → plan_at gs vs W plan p ≡ Plan.Choose x →
      (r : List TagValue) × Writes gs vs W plan (p + 1) 2 q r × (l ≡ named 57 x r)
  choice-in Writes.done e x t = absurd (omega arith)
  choice-in (Writes.stay i j w) e x t = absurd cc
  choice-in (Writes.drop i j w) e x t = absurd cc
  choice-in (Writes.choice {x = y} {l = l} i j w) e x t = let z : y ≡ x = cc in (l, change (omega arith) w, ap (λ (u : ℕ). named 57 u l) z)
  choice-in (Writes.hold i j o w) e x t = absurd cc
  choice-in (Writes.gate i j f d v w) e x t = absurd cc

  pub hold-in : {p n q : ℕ} {l : List TagValue} → Writes gs vs W plan p n q l → n ≡ 1 → (x : ℕ) → plan_at gs vs W plan p ≡ Plan.Hold x → Owed gs vs (p + 1) 1 q × (l ≡ named 58 x [])
  hold-in Writes.done e x t = absurd (omega arith)
  hold-in (Writes.stay i j w) e x t = absurd cc
  hold-in (Writes.drop i j w) e x t = absurd cc
  hold-in (Writes.choice i j w) e x t = absurd cc
  hold-in {p} (Writes.hold {x = y} i j o w) e x t =
      let z : y ≡ x = cc in
      let m = writes-none w (omega arith) in
      (subst (λ (u : ℕ). Owed gs vs (p + 1) 1 u) m.0 o, rw (z, m.1))
  hold-in (Writes.gate i j f d v w) e x t = absurd cc

  -- a gated call: its operands are written, its outputs have defaults
  pub record GateIn (p q x : ℕ) (l : List TagValue) : Type 0 where
    pub outputs : List Declared
    pub found : operator_outputs W.nodes (get_or vs p 0) ≡ some outputs
    pub faultless : outputs_fault W.types W.nodes W.node (get_or vs p 0) outputs ≡ none
    pub inner : List TagValue
    pub written : Writes gs vs W plan (p + 1) 1 q inner
    pub whole : l ≡ gate_codes W.condact (length outputs + 2) x (code_at gs vs p ∷ (inner ++ default_codes W outputs))

  pub gate-in : {p n q : ℕ} {l : List TagValue} → Writes gs vs W plan p n q l → n ≡ 1 → (x : ℕ) → plan_at gs vs W plan p ≡ Plan.Gate x → GateIn p q x l
  gate-in Writes.done e x t = absurd (omega arith)
  gate-in (Writes.stay i j w) e x t = absurd cc
  gate-in (Writes.drop i j w) e x t = absurd cc
  gate-in (Writes.choice i j w) e x t = absurd cc
  gate-in (Writes.hold i j o w) e x t = absurd cc
  gate-in {p} (Writes.gate {x = y} {os = os} {a = a} {l = l} i j f d v w) e x t =
      let z : y ≡ x = cc in
      let m = writes-none w (omega arith) in
      record {
        outputs = os;
        found = f;
        faultless = d;
        inner = a;
        written = subst (λ (u : ℕ). Writes gs vs W plan (p + 1) 1 u a) m.0 v;
        whole = rw (z, m.1, append-nil (default_codes W os));
      }
