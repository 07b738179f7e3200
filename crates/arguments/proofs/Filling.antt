-- Laws on bytes that are filled from a reader.
-- Assumes nothing.
use Rattle.std.proofs.Common.{◌≡◌, ℕ, ◌+◌, ◌≤◌, ◌<◌, List, ◌++◌, Option, Result, length, take, drop, subst, sym, ap, ◌∙◌, length-take-le}
use native.Mathlib.Omega.{arith}
use Rattle.std.proofs.Math.Seq.{take-append-add, take-append-le, take-append_seam, drop-append_seam}
use Rattle.std.proofs.lemmas.List.{length-append, take_all, take-append-drop}
use Rattle.std.proofs.lemmas.Slice.{take-put_mid_below}
use Rattle.std.specs.Io.KnownBytes.{Consumes}
use Rattle.std.specs.Result.{OnOk}
use Rattle.std.proofs.lemmas.Result.{on_ok_weaker}
use Rattle.std.proofs.KnownBytes.{Consumes-trans}
use borrow.Rule.Slice.PartMut.{put_mid, post_of}

module _ (a k n : ℕ) (xs ys : List ℕ) where
  -- the first a bytes, and n bytes of what was put behind them
  pub take-put_mid-more : a ≤ length xs → n ≤ length ys → take (a + n) (put_mid a k xs ys) ≡ take a xs ++ take n ys
  take-put_mid-more h f =
      let front : length (take a xs) ≡ a = length-take-le a xs h in
      ap (λ (m : ℕ). take (m + n) (put_mid a k xs ys)) (sym front) ∙ take-append-add (take a xs) (ys ++ post_of a k xs) n ∙ ap (λ (l : List ℕ). take a xs ++ l) (take-append-le n ys (post_of a k xs) f)

  -- what is read into the bytes behind the first a, is all that is read
  pub read_more : (old mid new : Option (List ℕ)) → a ≤ length xs → n ≤ length ys → Consumes old mid (take a xs) → Consumes mid new (take n ys) → Consumes old new (take (a + n) (put_mid a k xs ys))
  read_more old mid new h f p q = subst (Consumes old new) (sym (take-put_mid-more h f)) (Consumes-trans old mid new (take a xs) (take n ys) p q)

  -- behind the first a bytes stands what was read
  pub read_behind : (old new : Option (List ℕ)) → a ≤ length xs → n ≤ length ys → Consumes old new (take n ys) → Consumes old new (drop a (take (a + n) (put_mid a k xs ys)))
  read_behind old new h f p =
      let front : length (take a xs) ≡ a = length-take-le a xs h in
      let behind : drop a (take (a + n) (put_mid a k xs ys)) ≡ take n ys = ap (drop a) (take-put_mid-more h f) ∙ ap (λ (m : ℕ). drop m (take a xs ++ take n ys)) (sym front) ∙ drop-append_seam (take a xs) (take n ys) in
      subst (Consumes old new) (sym behind) p

-- what was put at the front stands there, whatever is put behind it
pub start_stands : (k : ℕ) (start front rest ys : List ℕ) → front ≡ start → take (length start) (put_mid (length start) k (front ++ rest) ys) ≡ start
start_stands k start front rest ys e =
    take-put_mid_below (length start) k (front ++ rest) ys (length start) (omega arith) (omega (arith, length-append front rest, ap length e))
    ∙ (ap (λ (l : List ℕ). take (length start) (l ++ rest)) e ∙ take-append_seam start rest)

-- what is read on behind bytes that were read first makes with them all that is read
pub read_whole : (n : ℕ) (start sheet : List ℕ) (old mid new : Option (List ℕ)) → length start ≤ n → Consumes old mid (take n start) → take (length start) sheet ≡ start → Consumes mid new (drop (length start) sheet) → Consumes old new sheet
read_whole n start sheet old mid new h p e q =
    let whole : start ++ drop (length start) sheet ≡ sheet = ap (λ (l : List ℕ). l ++ drop (length start) sheet) (sym e) ∙ take-append-drop (length start) sheet in
    subst (Consumes old new) whole (Consumes-trans old mid new start (drop (length start) sheet) (subst (Consumes old mid) (take_all n start h) p) q)

pub on_ok_whole : {E B : Type 0} (now : B → List ℕ) (End : Type 0) (Post : B → Type 0) (n : ℕ) (start : List ℕ) (old mid new : Option (List ℕ)) (r : Result (Unit {0}) E) → length start ≤ n → Consumes old mid (take n start)
    → OnOk r ((s : B) × (take (length start) (now s) ≡ start) × Consumes mid new (drop (length start) (now s)) × (length (now s) < 65536 → End) × Post s)
    → OnOk r ((s : B) × Consumes old new (now s) × (length (now s) < 65536 → End) × Post s)
on_ok_whole {B = B} now End Post n start old mid new r h p o = on_ok_weaker {Q = (s : B) × Consumes old new (now s) × (length (now s) < 65536 → End) × Post s} r (λ z. (z.0, read_whole n start (now z.0) old mid new h p z.1 z.2, z.3, z.4)) o
