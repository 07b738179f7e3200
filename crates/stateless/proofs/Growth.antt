-- What is needed only grows: a clock with a flag keeps its place, and the clocks with flags stay closed under parents.
use Prim.Native.Nat.{ℕ, ◌+◌, ◌≤◌}
use mathlib.Core.Path.{◌≡◌, refl, sym, ap, ◌∙◌}
use mathlib.Core.Bool.{Bool, true, false, false≢true}
use mathlib.Core.List.{List}
use mathlib.Core.Logic.{◌⊎◌, inl, inr}
use native.Mathlib.Omega.{arith}
use lib.ListN.{length, length-append}
use Rattle.definitions.specs.declared.Condition.{Condition}
use Rattle.definitions.specs.Tree.{TypeDef, Expr, Exprs, Node}
use Rattle.definitions.specs.Clock.{Clock, base, ◌↓◌, parent, is_base}
use Rattle.definitions.specs.InferClocks.{Clocked}
use Rattle.definitions.specs.Declock.{add, add_with_parents}
use Rattle.shapes.proofs.Facts.{Goes}
use Rattle.shapes.proofs.Added.{has, has-parents, add-cases, has-goes, place-goes, goes_add, goes-parents}
use Rattle.stateless.specs.Need.{Turn, Needs, with_flag, with_first, settled, needed, needed_all}
use Rattle.stateless.specs.Leads.{Keeps, Leads}
use Rattle.stateless.specs.Whole.{no_needs, right_needs, old_needs}
use Rattle.stateless.proofs.Kept.{KeptSettled, needed-kept, all-kept, right-kept, old-kept}

keeps_self : (l : List Clock) → Keeps l l
keeps_self l = record { there = λ c h. h; place = λ c h. refl; many = omega arith }

keeps-trans : (l m n : List Clock) → Keeps l m → Keeps m n → Keeps l n
keeps-trans l m n p q = record { there = λ c h. q.there c (p.there c h); place = λ c h. p.place c h ∙ q.place c (p.there c h); many = omega (arith, p.many, q.many) }

-- a list that goes on keeps what is there
keeps-goes : (l m : List Clock) → Goes l m → Keeps l m
keeps-goes l m g = record { there = λ c. has-goes c l m g; place = λ c h. place-goes c l m h g; many = omega (arith, ap length g.1, length-append l g.0) }

-- clocks that are added keep what is there
keeps-add : (c : Clock) (cs : List Clock) → Keeps cs (add c cs)
keeps-add c cs = keeps-goes cs (add c cs) (goes_add c cs)

keeps-parents : (c : Clock) (cs : List Clock) → Keeps cs (add_with_parents c cs)
keeps-parents c cs = keeps-goes cs (add_with_parents c cs) (goes-parents c cs)

-- the parents of clocks are there too
abbrev pub Closed : List Clock → Type 0
Closed cs = (c : Clock) (k : Condition) → has (c ↓ k) cs ≡ true → is_base c ≡ false → has c cs ≡ true

closed-add : (c : Clock) (k : Condition) (cs : List Clock) → Closed cs → (is_base c ≡ false → has c cs ≡ true) → Closed (add (c ↓ k) cs)
closed-add c k cs s h d l i e = (keeps-add (c ↓ k) cs).there d (go (add-cases (c ↓ k) (d ↓ l) cs i))
  where
    go : (has (d ↓ l) cs ≡ true) ⊎ (d ↓ l ≡ c ↓ k) → has d cs ≡ true
    go (inl j) = s d l j e
    go (inr q) = let p : d ≡ c = ap parent q in rw p (h (ap is_base (sym p) ∙ e))

closed-parents : (c : Clock) (cs : List Clock) → Closed cs → Closed (add_with_parents c cs)
unfolding add_with_parents
closed-parents base cs s = s
closed-parents (c ↓ k) cs s = closed-add c k (add_with_parents c cs) (closed-parents c cs s) (has-parents c cs)

-- the flags' parents have flags, and so has each clock with a first-tick flag
pub record Sound (v : Needs) : Type 0 where
  pub closed : Closed v.flags
  pub within : (c : Clock) → has c v.firsts ≡ true → has c v.flags ≡ true

-- where nothing is needed, nothing is unsound
pub nothing-sound : Sound no_needs
nothing-sound = record { closed = λ c k h b. absurd (false≢true h); within = λ c h. absurd (false≢true h) }

pub leads-self : (v : Needs) → Leads v v
leads-self v = record { flags = keeps_self v.flags; firsts = keeps_self v.firsts; holds = omega arith }

pub leads-trans : (u v w : Needs) → Leads u v → Leads v w → Leads u w
leads-trans u v w p q =
    record {
      flags = keeps-trans u.flags v.flags w.flags p.flags q.flags;
      firsts = keeps-trans u.firsts v.firsts w.firsts p.firsts q.firsts;
      holds = omega (arith, p.holds, q.holds);
    }

-- a flag with its parents', perhaps a hold, perhaps `condact`
leads-flag : (c : Clock) (v : Needs) (n : ℕ) (b : Bool) → v.holds ≤ n → Leads v (record { flags = add_with_parents c v.flags; firsts = v.firsts; holds = n; condact = b })
leads-flag c v n b h = record { flags = keeps-parents c v.flags; firsts = keeps_self v.firsts; holds = h }

-- what an expression needs for itself
pub leads-settled : (t : Turn) (c : Clock) (v : Needs) → Leads v (settled t c v)
leads-settled Turn.Keep c v = leads-self v
leads-settled Turn.Hold c v = leads-flag c v (v.holds + 1) v.condact (omega arith)
leads-settled Turn.First c v = record { flags = keeps-parents c v.flags; firsts = keeps-add c v.firsts; holds = omega arith }
leads-settled Turn.Gate c v = leads-flag c v v.holds true (omega arith)

settles : (v : Needs) → KeptSettled (Leads v)
settles v t c w h = leads-trans v w (settled t c w) h (leads-settled t c w)

flags-lead : (u v : Needs) (c : Clock) → Leads u v → Leads u (with_flag c v)
flags-lead u v c h = leads-trans u v (with_flag c v) h (leads-flag c v v.holds v.condact (omega arith))

-- an expression, and operands
module _ (nodes : List Node) where
  pub leads-needed : (e : Expr) (c : Clock) (v : Needs) → Leads v (needed nodes c e v)
  leads-needed e c v = needed-kept (Leads v) (settles v) nodes e c v (leads-self v)

  pub leads-all : (es : Exprs) (c d : Clock) (v : Needs) → Leads v (needed_all nodes c d es v)
  leads-all es c d v = all-kept (Leads v) (settles v) nodes es c d v (leads-self v)

module _ (types : List TypeDef) (nodes : List Node) (node : Node) (condact : ℕ) where
  -- an equation leads on from its right side
  pub leads-right : (c : Clock) (xs : List ℕ) (e : Expr) (v : Needs) → Leads (needed nodes c e v) (right_needs types nodes node condact c xs e v)
  leads-right c xs e v =
      let u = needed nodes c e v in
      right-kept (Leads u) condact c (record { flag = λ w. flags-lead u w c; gate = settles u Turn.Gate c }) types nodes node xs e v (leads-self u)

  pub leads-equation : (c : Clock) (xs : List ℕ) (e : Expr) (v : Needs) → Leads v (right_needs types nodes node condact c xs e v)
  leads-equation c xs e v = leads-trans v (needed nodes c e v) (right_needs types nodes node condact c xs e v) (leads-needed nodes e c v) (leads-right c xs e v)

  pub leads-old : (es : List Clocked) (v : Needs) → Leads v (old_needs types nodes node condact es v)
  leads-old es v = old-kept (Leads v) (settles v) (λ c w. flags-lead v w c) types nodes node condact es v (leads-self v)

-- a step of rewriting: it leads on, and what is sound stays so
pub record Step (v w : Needs) : Type 0 where
  pub leads : Leads v w
  pub sound : Sound v → Sound w

pub step-self : (v : Needs) → Step v v
step-self v = record { leads = leads-self v; sound = λ o. o }

pub step-trans : (u v w : Needs) → Step u v → Step v w → Step u w
step-trans u v w p q = record { leads = leads-trans u v w p.leads q.leads; sound = λ o. q.sound (p.sound o) }

-- a flag with its parents', perhaps a hold, perhaps `condact`
pub step-flag : (c : Clock) (v : Needs) (n : ℕ) (b : Bool) → v.holds ≤ n → Step v (record { flags = add_with_parents c v.flags; firsts = v.firsts; holds = n; condact = b })
step-flag c v n b h =
    record {
      leads = leads-flag c v n b h;
      sound = λ o. record { closed = closed-parents c v.flags o.closed; within = λ d i. (keeps-parents c v.flags).there d (o.within d i) };
    }

-- a first-tick flag
pub step-first : (c : Clock) (v : Needs) → is_base c ≡ false → Step v (with_first c v)
step-first c v b =
    record {
      leads = leads-settled Turn.First c v;
      sound = λ o. record { closed = closed-parents c v.flags o.closed; within = λ d i. go o d (add-cases c d v.firsts i) };
    }
  where
    go : Sound v → (d : Clock) → (has d v.firsts ≡ true) ⊎ (d ≡ c) → has d (add_with_parents c v.flags) ≡ true
    go o d (inl i) = (keeps-parents c v.flags).there d (o.within d i)
    go o d (inr q) = rw q (has-parents c v.flags b)
