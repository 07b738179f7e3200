-- A type's definition in short, by the parts that the code finds.
-- Assumes nothing.
use mathlib.Core.Path.{◌≡◌, sym, ◌∙◌, ap, subst}
use mathlib.Core.List.{List}
use Prim.Native.Nat.{ℕ}
use Rattle.definitions.specs.Tokens.{TagValue}
use Rattle.definitions.specs.Tree.{TypeDef}
use Rattle.layout.specs.declared.Defined.{Defined}
use Rattle.layout.specs.declared.Span.{Span}
use Rattle.layout.specs.Table.{Described}
use Rattle.inspect.specs.declared.TypeKind.{TypeKind}
use Rattle.inspect.specs.Summary.{type_summary}

module _ (M : ℕ) (ts : List TagValue) (d : TypeDef) (q : ℕ) (r : Defined) (h : Described M ts d q r) where
  known : (s : Defined) → r ≡ s → Described M ts d q s
  known s e = subst (Described M ts d q) e h

  pub summary-enum : (x : ℕ) (s : Span) → r ≡ Defined.Enum x s → record { name = x; kind = TypeKind.Enum; count = s.count } ≡ type_summary d
  unfolding Described
  summary-enum x s e =
      let g = known (Defined.Enum x s) e in
      ap (λ (k : ℕ). record { name = x; kind = TypeKind.Enum; count = k }) g.1.many ∙ sym (ap type_summary g.3)

  pub summary-record : (x : ℕ) (s : Span) → r ≡ Defined.Record x s → record { name = x; kind = TypeKind.Record; count = s.count } ≡ type_summary d
  unfolding Described
  summary-record x s e =
      let g = known (Defined.Record x s) e in
      ap (λ (k : ℕ). record { name = x; kind = TypeKind.Record; count = k }) g.1.many ∙ sym (ap type_summary g.3)

  pub summary-alias : (x p : ℕ) → r ≡ Defined.Alias x p → record { name = x; kind = TypeKind.Alias; count = 1 } ≡ type_summary d
  unfolding Described
  summary-alias x p e = let g = known (Defined.Alias x p) e in sym (ap type_summary g.2)
