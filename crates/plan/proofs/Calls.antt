-- The four ends of a call, in the code's terms.
-- Assumes nothing.
use mathlib.Core.Path.{◌≡◌, refl, sym, ◌∙◌, ap, subst}
use mathlib.Core.Bool.{true, false}
use mathlib.Core.List.{List}
use mathlib.Core.Option.{Option, none, some}
use Prim.Native.Nat.{ℕ}
use lib.ListN.{set}
use Rattle.definitions.specs.Tokens.{TagValue}
use Rattle.definitions.specs.Tree.{Declared, TypeDef, Node}
use Rattle.layout.specs.declared.Span.{Span}
use Rattle.layout.specs.Spans.{Spans}
use Rattle.definitions.specs.Grammar.{declaration}
use Rattle.definitions.specs.Clock.{Clock, is_base}
use Rattle.definitions.specs.Declock.{operator_outputs}
use Rattle.std.specs.declared.option.Option as code
use Rattle.std.specs.declared.option.Option.TheVariants.{None, Some}
use Rattle.index.specs.Callees.{OutputsStand}
use Rattle.defaults.specs.Has.{is_some}
use Rattle.stateless.specs.Need.{Needs}
use Rattle.stateless.specs.Yield.{gate_of}
use Rattle.stateless.specs.Faults.{outputs_fault, gate_fault}
use Rattle.findings.specs.declared.Fault as value
use Rattle.std.specs.Prelude.{Ok, Err}
use Rattle.plan.specs.Tables.{Tables, Begun}
use Rattle.plan.specs.Planned.{Ended}
use Rattle.plan.specs.Closed.{lack_fault, Gated}
use Rattle.plan.proofs.Closing.{call-plain, call-function, call-gated, call-lacks}

-- an operator's outputs, or none
none_from : (M : ℕ) (ts : List TagValue) (o : Option (List Declared)) (u : code.Option Span) → OutputsStand M ts o u → u ≡ None → o ≡ none
unfolding OutputsStand
none_from M ts none u h i = refl
none_from M ts (some ds) u h i = let z : ⊥ = rw i at h in absurd z

some-from : (M : ℕ) (ts : List TagValue) (o : Option (List Declared)) (u : code.Option Span) → OutputsStand M ts o u → (a : Span) → u ≡ Some a → (ds : List Declared) × (o ≡ some ds) × Spans (declaration M) ts ds a
unfolding OutputsStand
some-from M ts none u h a i = let z : ⊥ = rw i at h in absurd z
some-from M ts (some ds) u h a i = (ds, refl, rw i at h)

module _ (types : List TypeDef) (l : List Node) (node : Node) (s : Tables) (p : ℕ) (c : Clock) (end f : ℕ) where
  pub close-plain : (plan' : List ℕ) → plan' ≡ set s.plan p 0 → is_base c ≡ true → (y : Needs) → Begun s y → Ended end (Ok end) (Gated s (record s { plan = plan' }) c (is_some (operator_outputs l f)) y p) (gate_fault types l node f (gate_of types l node c f))
  close-plain plan' e k y B = call-plain types l node s p f c end plan' e k (is_some (operator_outputs l f)) y B

  -- g is the value that the code reads
  module _ (g : ℕ) (v : g ≡ f) where
    pub close-function : (plan' : List ℕ) → plan' ≡ set s.plan p 0 → is_base c ≡ false → (M : ℕ) (ts : List TagValue) (u : code.Option Span) → OutputsStand M ts (operator_outputs l g) u → u ≡ None → (y : Needs) → Begun s y →
        Ended end (Ok end) (Gated s (record s { plan = plan' }) c (is_some (operator_outputs l f)) y p) (gate_fault types l node f (gate_of types l node c f))
    close-function plan' e k M ts u h i y B =
        subst (λ (z : ℕ). Ended end (Ok end) (Gated s (record s { plan = plan' }) c (is_some (operator_outputs l z)) y p) (gate_fault types l node z (gate_of types l node c z))) v (call-function types l node s p g c end plan' e k (none_from M ts (operator_outputs l g) u h i) y B)

    module _ (b : is_base c ≡ false) (M : ℕ) (ts : List TagValue) (u : code.Option Span) (h : OutputsStand M ts (operator_outputs l g) u) (a : Span) (i : u ≡ Some a) (m : code.Option ℕ)
        (o : (ds : List Declared) → Spans (declaration M) ts ds a → lack_fault g m ≡ outputs_fault types l node g ds) where
      pub close-gated : (s' : Tables) → m ≡ None → (y : Needs) → Gated s s' c true y p → Ended end (Ok end) (Gated s s' c (is_some (operator_outputs l f)) y p) (gate_fault types l node f (gate_of types l node c f))
      close-gated s' j y D =
          let r = some-from M ts (operator_outputs l g) u h a i in
          subst (λ (z : ℕ). Ended end (Ok end) (Gated s s' c (is_some (operator_outputs l z)) y p) (gate_fault types l node z (gate_of types l node c z))) v
          (call-gated types l node s p g c end s' b r.0 r.1 (sym (o r.0 r.2) ∙ ap (lack_fault g) j) y D)

-- an output lacks a default
pub close-lacks : (types : List TypeDef) (l : List Node) (node : Node) (c : Clock) (end f g : ℕ) → g ≡ f → is_base c ≡ false → (M : ℕ) (ts : List TagValue) (u : code.Option Span) → OutputsStand M ts (operator_outputs l g) u → (a : Span) → u ≡ Some a → (m : code.Option ℕ) →
    ((ds : List Declared) → Spans (declaration M) ts ds a → lack_fault g m ≡ outputs_fault types l node g ds) → (x : ℕ) → m ≡ Some x → (P : Type 0) → Ended end (Err (value.Fault.NoOutputDefault x g)) P (gate_fault types l node f (gate_of types l node c f))
close-lacks types l node c end f g v b M ts u h a i m o x j P =
    let r = some-from M ts (operator_outputs l g) u h a i in
    subst (λ (z : ℕ). Ended end (Err (value.Fault.NoOutputDefault x g)) P (gate_fault types l node z (gate_of types l node c z))) v
    (call-lacks types l node g c end x b r.0 r.1 (sym (o r.0 r.2) ∙ ap (lack_fault g) j) P)
