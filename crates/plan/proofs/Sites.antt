-- A row on base, an operand with a type, and the outputs of a gated call.
-- Assumes nothing.
use mathlib.Core.Path.{◌≡◌, refl, sym, ◌∙◌, ap}
use mathlib.Core.Bool.{Bool, true, false, true≢false}
use mathlib.Core.List.{List, [], ◌∷◌}
use mathlib.Core.Option.{Option, none, some}
use Prim.Native.Nat.{ℕ, zero, suc, ◌+◌}
use lib.Dec.{eqb}
use native.Mathlib.Omega.{arith}
use borrow.Author.Tests.{ne_eqb}
use Rattle.std.specs.Prelude as rust
use Rattle.std.specs.declared.option.Option as code
use Rattle.std.specs.declared.option.Option.TheVariants.{None, Some}
use Rattle.definitions.specs.Lists.{or_else}
use Rattle.definitions.specs.Reading.{got}
use Rattle.definitions.specs.Grammar.{ty}
use Rattle.definitions.specs.Tokens.{TagValue}
use Rattle.definitions.specs.Tree.{Ty, Declared, TypeDef, Node}
use Rattle.definitions.specs.Clock.{is_base}
use Rattle.definitions.specs.Types.{default}
use Rattle.definitions.specs.InferClocks.{Fault, no_output_default}
use Rattle.clock_tables.specs.Value.{clock_at}
use Rattle.clock_tables.specs.Flat.{conditions_from, depth_in, clock_in}
use Rattle.typing.specs.declared.TypeFound.{TypeFound}
use Rattle.typing.specs.Found.{IsFound}
use Rattle.stateless.specs.Faults.{unless, outputs_fault}
use Rattle.layout.specs.declared.DeclarationLayout.{DeclarationLayout}
use Rattle.layout.specs.Walk.{LaidAll}
use Rattle.layout.proofs.Walks.{first-laid, none-laid}
use Rattle.defaults.specs.Has.{is_some}
use Rattle.plan.specs.Closed.{lack_fault}

-- the clock of a row is base where it has no conditions
pub base-depth : (t : List ℕ) (b d : ℕ) → d ≡ depth_in t b → eqb d 0 ≡ is_base (clock_in t b)
unfolding clock_at
base-depth t b d i = ap (λ (n : ℕ). eqb n 0) i ∙ go (depth_in t b)
  where
    go : (n : ℕ) → eqb n 0 ≡ is_base (clock_at (conditions_from t (b + 1) 8) n)
    go zero = refl
    go (suc n) = ne_eqb (suc n) 0 (λ z. omega arith)

-- a type is found where there is one
pub typed-there : (M : ℕ) (ts : List TagValue) (o : Option Ty) (f : code.Option TypeFound) → IsFound M ts o f → rust.is_some f ≡ is_some o
unfolding IsFound
typed-there M ts none None h = refl
typed-there M ts none (Some (TypeFound.At p)) h = absurd h
typed-there M ts none (Some (TypeFound.Basic k)) h = absurd h
typed-there M ts (some t) None h = absurd h
typed-there M ts (some t) (Some (TypeFound.At p)) h = refl
typed-there M ts (some t) (Some (TypeFound.Basic k)) h = refl

-- ---- outputs without a default
pub unless-none : {A : Type 0} (o : Option A) (f : Fault) (b : Bool) → b ≡ is_some o → b ≡ false → some f ≡ unless o f
unless-none none f b i j = refl
unless-none (some a) f b i j = let z : ◌≡◌ {A = Bool} true false = sym i ∙ j in absurd (true≢false z)

pub unless-there : {A : Type 0} (o : Option A) (f : Fault) (b : Bool) → b ≡ is_some o → b ≡ true → none ≡ unless o f
unless-there none f b i j = let z : ◌≡◌ {A = Bool} true false = sym j ∙ i in absurd (true≢false z)
unless-there (some a) f b i j = refl

module _ (types : List TypeDef) (l : List Node) (node : Node) (f : ℕ) (ds : List Declared) where
  outputs-none : ds ≡ [] → none ≡ outputs_fault types l node f ds
  unfolding outputs_fault
  outputs-none i = rw i

  module _ (d : Declared) (rest : List Declared) (w : ds ≡ d ∷ rest) (b : Bool) (i : b ≡ is_some (default types d.type)) where
    outputs-lack : b ≡ false → (y : ℕ) → y ≡ d.name → some (no_output_default y f) ≡ outputs_fault types l node f ds
    unfolding outputs_fault
    outputs-lack j y k = rw (w, k) (ap (λ (o : Option Fault). or_else o (outputs_fault types l node f rest)) (unless-none (default types d.type) (no_output_default d.name f) b i j))

    outputs-more : b ≡ true → outputs_fault types l node f ds ≡ outputs_fault types l node f rest
    unfolding outputs_fault
    outputs-more j = rw w (ap (λ (m : Option Fault). or_else m (outputs_fault types l node f rest)) (sym (unless-there (default types d.type) (no_output_default d.name f) b i j)))

-- the outputs that a walk has still to give: what they lack is what all lack
module _ (types : List TypeDef) (l : List Node) (node : Node) (f M : ℕ) (ts : List TagValue) where
  pub record LackLeft (ls : List DeclarationLayout) (all : Option Fault) : Type 0 where
    pub rest : List Declared
    pub laid : LaidAll M ts rest ls
    pub same : all ≡ outputs_fault types l node f rest

  -- h is whether the first has a default
  module _ (a : DeclarationLayout) (ls : List DeclarationLayout) (all : Option Fault) (h : Bool) (has : (t : Ty) (q : ℕ) → ty M 8 ts a.type_at ≡ got t q → h ≡ is_some (default types t)) (k : LackLeft (a ∷ ls) all) where
    pub lack-first : h ≡ false → lack_fault f (Some a.name) ≡ all
    lack-first b = let u = first-laid k.laid in outputs-lack types l node f k.rest u.first u.rest u.whole h (has u.first.type u.to u.laid.typed) b a.name u.laid.named ∙ sym k.same

    pub lack-next : h ≡ true → LackLeft ls all
    lack-next b = let u = first-laid k.laid in record { rest = u.rest; laid = u.others; same = k.same ∙ outputs-more types l node f k.rest u.first u.rest u.whole h (has u.first.type u.to u.laid.typed) b }

  pub lack-none : (ls : List DeclarationLayout) (all : Option Fault) → ls ≡ [] → LackLeft ls all → lack_fault f None ≡ all
  lack-none ls all e k = outputs-none types l node f k.rest (none-laid (rw e at k.laid)) ∙ sym k.same
