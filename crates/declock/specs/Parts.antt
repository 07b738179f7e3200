-- The tokens of a node with new locals, part by part as they are written.
use Rattle.std.specs.Prelude.{ℕ, List, [], ◌∷◌, ◌++◌, map}
use Rattle.definitions.specs.declared.Primitive.{Primitive}
use Rattle.definitions.specs.declared.Token.{Token}
use Rattle.definitions.specs.declared.TypeToken.{TypeToken}
use Rattle.definitions.specs.Lists.{join}
use Rattle.definitions.specs.Clock.{Clock}
use Rattle.definitions.specs.Tree.{Equation, Node}
use Rattle.definitions.specs.Output.{declared_tokens, counted_tokens, equation_tokens}
use Rattle.stateless.specs.Locals.{Local, local_declared, local_equation}

-- the declarations of the flags of clocks, by their ids: each is a Bool
abbrev pub declaration_tokens : (Clock → ℕ) → Clock → List Token
declaration_tokens id c = Token.Name (id c) ∷ Token.Type (TypeToken.Basic Primitive.Bool) ∷ []

abbrev pub declarations : (Clock → ℕ) → List Clock → List Token
declarations id cs = join (map (declaration_tokens id) cs)

-- its name, kind, inputs and outputs, and its locals with the new ones behind them
unfoldable pub front_tokens : Node → List Local → List Token
unfolding declared_tokens
front_tokens n new =
    Token.Node n.name ∷ Token.Kind n.kind
    ∷ (counted_tokens declared_tokens n.inputs ++ (counted_tokens declared_tokens n.outputs ++ counted_tokens declared_tokens (n.locals ++ map local_declared new)))

-- the equations of the new locals, and the old equations behind them
unfoldable pub body_tokens : List Local → List Equation → List Token
unfolding equation_tokens
body_tokens new old = counted_tokens equation_tokens (map local_equation new ++ old)
