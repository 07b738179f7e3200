-- Findings that are sites alone.
-- Assumes nothing.
use mathlib.Core.Path.{◌≡◌, refl, ap₂}
use mathlib.Core.Bool.{true, false, true≢false, ◌&&◌}
use mathlib.Core.List.{List, [], ◌∷◌, ◌++◌}
use Prim.Native.Nat.{ℕ}
use Rattle.std.proofs.lemmas.Bool.{and_parts}
use Rattle.definitions.specs.Lists.{any}
use Rattle.definitions.specs.Tree.{Equation, Node}
use Rattle.definitions.specs.Clock.{Clock}
use Rattle.definitions.specs.InferClocks.{Clocks, Finding, found, site, too_deep, is_too_deep, clock_faults, check, check_left, check_equation}
use Rattle.checking.specs.Walk.{is_site_found, only_sites}

-- of two lists, both
pub only-both : (a b : List Finding) → only_sites (a ++ b) ≡ true → (only_sites a ≡ true) × (only_sites b ≡ true)
only-both [] b h = (refl, h)
only-both (x ∷ a) b h =
    let u = and_parts (is_site_found x) (only_sites (a ++ b)) h in
    let v = only-both a b u.1 in
    (ap₂ ◌&&◌ u.0 v.0, v.1)

-- where there is no fault, and nothing too deep
pub sites-alone : (fs : List Finding) → clock_faults fs ≡ [] → any is_too_deep fs ≡ false → only_sites fs ≡ true
unfolding clock_faults
sites-alone [] h d = refl
sites-alone (found f ∷ fs) h d = absurd (cc h)
sites-alone (site c ∷ fs) h d = sites-alone fs h d
sites-alone (too_deep ∷ fs) h d = absurd (true≢false d)

-- an equation's right side
pub only-right : (node : Node) (clocks : Clocks) (i : ℕ) (c : Clock) (e : Equation) → only_sites (check_equation node clocks i (record { clock = c; equation = e })) ≡ true → only_sites (check clocks i c e.right) ≡ true
unfolding check_equation
only-right node clocks i c e h = (only-both (check_left clocks i node c e.left) (check clocks i c e.right) h).1
