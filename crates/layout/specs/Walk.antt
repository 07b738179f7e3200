-- Names with their types and nodes, one after another, as a walk over them gives where each stands.
use Rattle.std.specs.Prelude.{ℕ, zero, suc, ◌≡◌, List, [], ◌∷◌, Option, Some, None}
use Rattle.definitions.specs.Tokens.{TagValue}
use Rattle.definitions.specs.Tree.{Declared, Node}
use Rattle.definitions.specs.Reading.{Got, got, rejected, times}
use Rattle.definitions.specs.Grammar.{name, ty, node}
use Rattle.grammar.specs.declared.source.Source.{Source}
use Rattle.grammar.specs.Read.{tokens_of}
use Rattle.layout.specs.declared.DeclarationLayout.{DeclarationLayout}
use Rattle.layout.specs.declared.walk.Declarations.{Declarations}
use Rattle.layout.specs.declared.NodeLayout.{NodeLayout}
use Rattle.layout.specs.declared.walk.Nodes.{Nodes}
use Rattle.layout.specs.Laid.{LaidDeclaration, LaidNode}

-- what follows where nothing was refused; else none
abbrev pub none_else : {A B : Type 0} → Got A → (A → ℕ → List B) → List B
none_else (got a p) f = f a p
none_else (rejected r) f = []

-- where n names with their types stand from p on, up to the first that is refused
unfoldable pub layouts_in : ℕ → List TagValue → ℕ → ℕ → List DeclarationLayout
layouts_in M ts zero p = []
layouts_in M ts (suc n) p = none_else (name M ts p) (λ x t. none_else (ty M 8 ts t) (λ a q. record { name = x; type_at = t; end = q } ∷ layouts_in M ts n q))

-- those that a walk has still to give
unfoldable pub declared_left : Declarations → List DeclarationLayout
declared_left w = layouts_in w.source.names (tokens_of w.source) w.left w.at

-- each name with its type stands where its layout says
pub data LaidAll (M : ℕ) (ts : List TagValue) : List Declared → List DeclarationLayout → Type 0 where
  all-laid : LaidAll M ts [] []
  laid-before : {p q : ℕ} {d : Declared} {l : DeclarationLayout} {ds : List Declared} {ls : List DeclarationLayout} →
      LaidDeclaration M ts p d q l → LaidAll M ts ds ls → LaidAll M ts (d ∷ ds) (l ∷ ls)

-- a walk over nodes gives the one that stands where the last ended, until as many are given as were left
unfoldable pub GivesNode : Nodes → Option NodeLayout → Nodes → Type 0
GivesNode s None t = (s.left ≡ 0) × (t ≡ s)
GivesNode s (Some l) t =
    (s.left ≡ suc t.left) × (t.source ≡ s.source) × (t.at ≡ l.end) × ((n : Node) (q : ℕ) → node s.source.names (tokens_of s.source) s.at ≡ got n q → LaidNode s.source.names (tokens_of s.source) n q l)

-- so many nodes are left, these, up to q
pub record NodesLeft (source : Source) (ns : List Node) (q : ℕ) (s : Nodes) : Type 0 where
  pub same : s.source ≡ source
  pub reads : times s.left (node source.names) (tokens_of source) s.at ≡ got ns q
