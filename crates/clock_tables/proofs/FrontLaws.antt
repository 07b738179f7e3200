-- Laws of a list whose first items are one item.
-- Assumes nothing.
use mathlib.Core.Path.{◌≡◌, ◌∙◌, sym, ap}
use mathlib.Core.List.{List, [], ◌∷◌, ◌++◌}
use Prim.Native.Nat.{ℕ, ◌+◌, ◌<◌, ◌≤◌}
use native.Mathlib.Omega.{arith}
use native.Mathlib.Numerals.{add-one}
use lib.ListN.{length, get_or, set, drop, replicate, get_or-append}
use lib.Seq.{drop-cons, set-append_seam}
use Rattle.std.proofs.Common.{append_assoc}
use Rattle.std.proofs.lemmas.List.{length-replicate, get_or-replicate, replicate-append-replicate, set-append_left}

-- one item more
pub front-more : {A : Type 0} (d xs : List A) (n : ℕ) (a : A) → n < length d → xs ≡ replicate n a ++ drop n d → set xs n a ≡ replicate (n + 1) a ++ drop (n + 1) d
front-more d xs n a h e =
    let t = drop (n + 1) d in
    let cut : drop n d ≡ get_or d n a ∷ t = drop-cons d n a h ∙ ap (λ k. get_or d n a ∷ drop k d) (sym (add-one n)) in
    let whole : xs ≡ replicate n a ++ (get_or d n a ∷ t) = e ∙ ap (λ u. replicate n a ++ u) cut in
    let seam : set (replicate n a ++ (get_or d n a ∷ t)) n a ≡ replicate n a ++ (a ∷ t) =
    ap (λ k. set (replicate n a ++ (get_or d n a ∷ t)) k a) (sym (length-replicate n a)) ∙ set-append_seam (replicate n a) (get_or d n a) t a in
    ap (λ u. set u n a) whole ∙ (seam ∙ (sym (append_assoc (replicate n a) (a ∷ []) t) ∙ ap (λ u. u ++ t) (replicate-append-replicate n 1 a)))

-- one item more put into the front, with the rest behind it
pub front-put : {A : Type 0} (d xs : List A) (n i : ℕ) (a : A) → n ≤ length d → length xs ≡ n → i < n → xs ++ drop n d ≡ replicate i a ++ drop i d → set xs i a ++ drop n d ≡ replicate (i + 1) a ++ drop (i + 1) d
front-put d xs n i a h e k q = sym (set-append_left xs (drop n d) i a (omega (arith, e, k))) ∙ front-more d (xs ++ drop n d) i a (omega (arith, h, k)) q

-- each of the first
pub front-filled : {A : Type 0} (d xs : List A) (n i : ℕ) (a e : A) → xs ≡ replicate n a ++ drop n d → i < n → get_or xs i e ≡ a
front-filled d xs n i a e q h =
    let few : i < length (replicate n a) = omega (arith, h, length-replicate n a) in
    ap (λ u. get_or u i e) q ∙ (get_or-append (replicate n a) (drop n d) e i few ∙ get_or-replicate n i a e h)
