-- `sheet::read_sheet` meets its contract. Assumes nothing.
use mathlib.Core.Path.{refl}
use native.Mathlib.Omega.{arith}
use Rattle.sheet.proofs.Consequences.{accepted-only, accepted-sized, few-parts, bytes_below, tokens-read}
use Rattle.sheet.proofs.read_sheet.Goals as goal

pub source_of-source-requires : goal.source_of-source-requires
source_of-source-requires c = few-parts (accepted-sized c.in_ok-sizes.ensures _ refl)

pub invariant_of-parts : goal.invariant_of-parts
invariant_of-parts c = let a = accepted-sized c.in_ok-sizes.ensures _ refl in record { sized = rw a.1 a.0.sized }

pub invariant_of-sheet : goal.invariant_of-sheet
invariant_of-sheet c = record { accepted = (accepted-sized c.in_ok-sizes.ensures _ refl).0 }

pub returns-clause-read : goal.returns-clause-read
returns-clause-read c =
    let z = accepted-only c.in_ok-sizes.ensures _ refl in
    let s = c.source_of-source.ensures in
    (refl, z.0, tokens-read (accepted-sized c.in_ok-sizes.ensures _ refl) _ _ _ s.tags s.values s.names (bytes_below _ (λ k. omega (arith, c.type_inv.bytes k))) z.0 z.1 z.3)
