-- What forming gives is one thing, deep or formed; and what a node's clocking says when it is formed.
use mathlib.Core.Path.{◌≡◌, refl, sym, ap, ◌∙◌, subst}
use mathlib.Core.Bool.{Bool, true, false}
use mathlib.Core.List.{List}
use Rattle.definitions.specs.Lists.{choose, any, join, numbered}
use Rattle.definitions.specs.Tree.{Node}
use Rattle.definitions.specs.InferClocks.{Formed, deep, formed, ◌>>=◌, Inferred, inferred, Finding, Clocked, Clocking, clocked_by, check_equation, is_too_deep, clocking}

-- two different results of forming
pub not-deep : {A : Type 0} {B : Type 0} (a : A) → deep ≡ formed a → B
not-deep {A} {B} a e = absurd (subst IsDeep e tt)
  where
    IsDeep : Formed A → Type 0
    IsDeep deep = Unit {0}
    IsDeep (formed b) = ⊥

pub formed-eq : {A : Type 0} (a b : A) → formed a ≡ formed b → a ≡ b
formed-eq {A} a b e = ap un e
  where
    un : Formed A → A
    un deep = a
    un (formed c) = c

-- what stands before the end of a forming that was done
pub formed-after : {A B : Type 0} (a : Formed A) (f : A → Formed B) (b : B) → a >>= f ≡ formed b → (x : A) × (a ≡ formed x) × (f x ≡ formed b)
formed-after deep f b e = not-deep b e
formed-after (formed x) f b e = (x, refl, e)

-- a node's clocks are formed once, and then none is too deep
pub same-clocking : (n : Node) (k l : Clocking) → clocking n ≡ formed k → clocking n ≡ formed l → k ≡ l
same-clocking n k l e f = formed-eq k l (sym e ∙ f)

-- what `clocking` says when it forms
pub record Checks (n : Node) (k : Clocking) : Type 0 where
  pub inference : inferred n ≡ formed (record { passes = k.passes; clocks = k.names })
  pub equations : clocked_by k.names n.equations ≡ formed k.equations
  pub findings : k.findings ≡ join (numbered (check_equation n k.names) 0 k.equations)
  pub shallow : any is_too_deep k.findings ≡ false

pub node-checks : (n : Node) (k : Clocking) → clocking n ≡ formed k → Checks n k
unfolding clocking
node-checks n k q =
    let a = formed-after (inferred n) _ k q in
    let b = formed-after (clocked_by a.0.clocks n.equations) _ k a.2 in
    end a.0 a.1 b.0 b.1 (any is_too_deep (found_in a.0 b.0)) refl b.2
  where
    found_in : Inferred → List Clocked → List Finding
    found_in r es = join (numbered (check_equation n r.clocks) 0 es)

    whole : Inferred → List Clocked → Clocking
    whole r es = record { passes = r.passes; names = r.clocks; equations = es; findings = found_in r es }

    end : (r : Inferred) → inferred n ≡ formed r → (es : List Clocked) → clocked_by r.clocks n.equations ≡ formed es
        → (u : Bool) → any is_too_deep (found_in r es) ≡ u → choose u deep (formed (whole r es)) ≡ formed k → Checks n k
    end r i es f true d e = not-deep k e
    end r i es f false d e = subst (Checks n) (formed-eq (whole r es) k e) (record { inference = i; equations = f; findings = refl; shallow = d })

-- the equations with their clocks
pub clocked : (n : Node) (k : Clocking) → clocking n ≡ formed k → clocked_by k.names n.equations ≡ formed k.equations
clocked n k e = (node-checks n k e).equations
