-- K4 and K11 are accepted and not plain: K4's counter has no clock and is not settled, K11's several left names have no call itself.
use mathlib.Core.Path.{◌≡◌, refl}
use mathlib.Core.Bool.{false}
use mathlib.Core.List.{List, [], ◌∷◌}
use Rattle.definitions.specs.declared.Literal.{Literal}
use Rattle.definitions.specs.Lists.{Letters}
use Rattle.definitions.specs.Tree.{Expr, Exprs, Node}
use Rattle.definitions.specs.Clock.{base, is_on, is_not}
use Rattle.definitions.specs.InferClocks.{formed, site, clocking}
use Rattle.definitions.specs.Output.{ClockedNode, node_faults}
use Rattle.runs.specs.Plain.{locals_settled, several_call}
use Rattle.runs.proofs.Small.{v, int0, ◌plus◌, ◌≔◌, int, boolean, operator, sheet_of, on_c, lettered}
use Rattle.runs.proofs.K1.{when_c}

unfoldable pub names : List Letters
unfolding lettered
names = lettered ("f" ∷ "x" ∷ "c" ∷ "y" ∷ "k" ∷ [])

-- k = 0 -> pre k + 1
abbrev counter : Expr
counter = Expr.arrow int0 (Expr.pre (v 4) plus Expr.const (Literal.Int 1) 0)

-- y = merge(c; (x when c) + k, x when not c)
abbrev merged : Expr
merged = Expr.merge 2 (when_c plus v 4) (Expr.when (is_not 2) (v 1))

-- x 1, c 2; y 3; k 4
abbrev pub k4 : Node
k4 = operator (int 1 ∷ boolean 2 ∷ []) (int 3 ∷ []) (int 4 ∷ []) (4 ≔ counter ∷ 3 ≔ merged ∷ [])

abbrev pub k4_source : ClockedNode
k4_source = record {
  node = k4;
  clocking = record {
    passes = 1;
    names = record { name = 1; clock = base } ∷ record { name = 2; clock = base } ∷ record { name = 3; clock = base } ∷ [];
    equations = record { clock = base; equation = 4 ≔ counter } ∷ record { clock = base; equation = 3 ≔ merged } ∷ [];
    findings = site base ∷ site base ∷ [];
  };
}

pub k4-clocks : clocking k4 ≡ formed k4_source.clocking
unfolding clocking
k4-clocks = refl

pub k4-accepted : node_faults names (sheet_of (k4 ∷ [])) k4_source ≡ []
unfolding node_faults names
k4-accepted = refl

pub k4-not-plain : locals_settled names (sheet_of (k4 ∷ [])) k4_source ≡ false
unfolding locals_settled names
k4-not-plain = refl

-- (y, k) = f(x) when c, y and k being locals
abbrev called : Expr
called = Expr.when (is_on 2) (Expr.call 0 (Exprs.and (v 1) Exprs.end))

abbrev pub k11 : Node
k11 = operator (int 1 ∷ boolean 2 ∷ []) [] (int 3 ∷ int 4 ∷ []) (record { left = 3 ∷ 4 ∷ []; right = called } ∷ [])

abbrev pub k11_source : ClockedNode
k11_source = record {
  node = k11;
  clocking = record {
    passes = 2;
    names = record { name = 4; clock = on_c } ∷ record { name = 3; clock = on_c } ∷ record { name = 1; clock = base } ∷ record { name = 2; clock = base } ∷ [];
    equations = record { clock = on_c; equation = record { left = 3 ∷ 4 ∷ []; right = called } } ∷ [];
    findings = [];
  };
}

pub k11-clocks : clocking k11 ≡ formed k11_source.clocking
unfolding clocking
k11-clocks = refl

pub k11-accepted : node_faults names (sheet_of (k11 ∷ [])) k11_source ≡ []
unfolding node_faults names
k11-accepted = refl

pub k11-not-plain : several_call names (sheet_of (k11 ∷ [])) k11_source ≡ false
unfolding several_call
k11-not-plain = refl
