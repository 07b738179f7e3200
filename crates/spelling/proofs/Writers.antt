-- Laws on what a writer puts.
use mathlib.Core.Path.{◌≡◌, refl, sym, ap, ◌∙◌}
use mathlib.Core.List.{[], ◌++◌}
use native.Mathlib.Omega.{arith}
use Prim.Native.Nat.{◌+◌}
use lib.ListN.{length, length-append}
use Rattle.definitions.specs.Lists.{Letters}
use Rattle.spelling.specs.Writing.{over_at}
use Rattle.spelling.proofs.Writing.{over_nothing, over-then, length_over, past}
use Rattle.spelling.specs.Written.{Wrote}
use Rattle.spelling.specs.declared.text_writer.TextWriter.{TextWriter}

-- one text, then another
pub wrote_then : {a b : Letters} {w w₁ w₂ : TextWriter} → Wrote a w w₁ → Wrote b w₁ w₂ → Wrote (a ++ b) w w₂
wrote_then {a} {b} {w} {w₁} u v =
    let s = w.out.now in
    record {
      same = v.same ∙ u.same;
      next = simp length-append (omega (arith, u.next, v.next));
      put =
          record {
            place = simp length-append (omega (arith, u.next, v.next));
            bytes = v.put.bytes ∙ ap (λ l. over_at w₁.at b l) u.put.bytes ∙ past w₁.at (w.at + length a) b (over_at w.at a s) (rw (length_over w.at a s) w.reach) u.next ∙ over-then w.at a b s;
          };
    }

-- a text by another's name
pub wrote_as : {a b : Letters} {w w₁ : TextWriter} → a ≡ b → Wrote a w w₁ → Wrote b w w₁
wrote_as e u = rw e at u

-- nothing was put
pub wrote_none : (w : TextWriter) → Wrote [] w w
wrote_none w = record { same = refl; next = omega (arith, w.counted); put = record { place = omega arith; bytes = sym (over_nothing w.at w.out.now) } }
