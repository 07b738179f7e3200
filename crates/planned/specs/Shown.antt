-- The tokens of holds.
use Rattle.std.specs.Prelude.{ℕ, List, [], ◌∷◌, map}
use Rattle.definitions.specs.declared.ExprToken.{ExprToken}
use Rattle.definitions.specs.declared.Token.{Token}
use Rattle.definitions.specs.Lists.{join}
use Rattle.definitions.specs.Output.{e, declared_tokens, equation_tokens}
use Rattle.definitions.specs.Declock.{Hold}
use Rattle.stateless.specs.Yield.{Ids}
use Rattle.stateless.specs.Locals.{hold_locals, local_declared, local_equation}

-- the equations of holds, numbered from n, and their declarations
abbrev pub hold_equations : Ids → ℕ → List Hold → List Token
hold_equations ids n hs = join (map equation_tokens (map local_equation (hold_locals ids n hs)))

abbrev pub hold_declarations : Ids → ℕ → List Hold → List Token
hold_declarations ids n hs = join (map declared_tokens (map local_declared (hold_locals ids n hs)))

-- the first tokens of a hold's equation: one left name, and a choice by a flag
abbrev pub hold_tokens : ℕ → ℕ → List Token
hold_tokens x flag = Token.Count 1 ∷ Token.Name x ∷ e ExprToken.If ∷ e (ExprToken.Var flag) ∷ []
