-- Names: tests letter by letter, and where the names stand among the letters.
use Prim.Native.Nat.{ℕ, zero, suc, ◌+◌, ◌-◌, ◌≤◌, ◌<◌}
use mathlib.Core.Path.{◌≡◌, refl, sym, ap, ◌∙◌}
use mathlib.Core.Bool.{Bool, true, false, ◌&&◌, ◌||◌}
use mathlib.Core.List.{List, [], ◌∷◌}
use native.Mathlib.Nat.{zero-add}
use native.Mathlib.Numerals.{add-one}
use native.Mathlib.Omega.{arith}
use lib.ListN.{length, get_or, take, drop}
use lib.Seq.{drop-drop}
use lib.Dec.{eqb}
use borrow.Author.Tests.{le-ltb, lt-ltb}
use Rattle.std.proofs.Math.Bool.{and-false, and-true}
use Rattle.std.specs.List.{list_all, list_any}
use Rattle.std.specs.Str.{bytes_eq}
use Rattle.definitions.specs.Lists.{all, any, sum, same_letters}
use Rattle.definitions.specs.Bytes.{is_letter, is_digit, well_formed, cut}
use Rattle.parts.specs.Places.{start, name_at, before}
use Rattle.parts.proofs.Cuts.{cut-count}

-- ---- well formed
-- a letter, underscore or digit
abbrev pub is_part : ℕ → Bool
is_part d = is_letter d || is_digit d

pub all-listed : (p : ℕ → Bool) (l : List ℕ) → list_all p l ≡ all p l
all-listed p [] = refl
all-listed p (x ∷ l) = ap (λ r. p x && r) (all-listed p l)

module _ (l : List ℕ) (b : ℕ) (bs : List ℕ) (s : l ≡ b ∷ bs) where
  pub wf-first : is_letter b ≡ false → false ≡ well_formed l
  unfolding well_formed
  wf-first e = rw (s, e)

  pub wf-long : 32 ≤ length bs → false ≡ well_formed l
  unfolding well_formed
  wf-long h = rw (s, le-ltb (length bs) 32 h) (sym (and-false (is_letter b && all is_part bs)))

  pub wf-rest : is_letter b ≡ true → length bs < 32 → (r : Bool) → r ≡ list_all is_part bs → r ≡ well_formed l
  unfolding well_formed
  wf-rest e h r f = rw (s, e, lt-ltb (length bs) 32 h) (f ∙ (all-listed is_part bs ∙ sym (and-true (all is_part bs))))

pub wf-none : (l : List ℕ) → length l ≡ 0 → false ≡ well_formed l
unfolding well_formed
wf-none [] e = refl
wf-none (b ∷ bs) e = absurd (omega arith)

-- ---- the same letters
-- `==` of two slices
pub same_bytes : (x y : List ℕ) → bytes_eq x y ≡ same_letters x y
same_bytes [] [] = refl
same_bytes [] (b ∷ l) = refl
same_bytes (a ∷ k) [] = refl
same_bytes (a ∷ k) (b ∷ l) = go (eqb a b) (same_bytes k l)
  where
    go : (t : Bool) → bytes_eq k l ≡ same_letters k l → (t && bytes_eq k l) ≡ elim t [ true ↦ same_letters k l | false ↦ false ]
    go true e = e
    go false e = refl

-- ---- places
sum_drop : (l : List ℕ) (i : ℕ) → sum (drop i l) ≡ get_or l i 0 + sum (drop (suc i) l)
sum_drop [] zero = refl
sum_drop [] (suc i) = refl
sum_drop (n ∷ l) zero = refl
sum_drop (n ∷ l) (suc i) = sum_drop l i

pub start-sum : (lens : List ℕ) (i : ℕ) → start lens i + sum (drop i lens) ≡ sum lens
unfolding start
start-sum lens zero = zero-add (sum lens)
start-sum lens (suc i) = omega (arith, start-sum lens i, sum_drop lens i)

-- ---- one of the first
or-swap : (a b c : Bool) → (a || (b || c)) ≡ (b || (a || c))
or-swap true true c = refl
or-swap true false c = refl
or-swap false b c = refl

module _ (p : List ℕ → Bool) where
  any-take : (k : ℕ) (l : List (List ℕ)) → k < length l → any p (take (suc k) l) ≡ (p (get_or l k []) || any p (take k l))
  any-take k [] h = absurd (omega arith)
  any-take zero (x ∷ l) h = refl
  any-take (suc k) (x ∷ l) h = ap (λ r. p x || r) (any-take k l (omega arith)) ∙ or-swap (p x) (p (get_or l k [])) (any p (take k l))

-- as `any` of the code tests
pub any-listed : (x : List ℕ) (l : List (List ℕ)) → list_any (bytes_eq x) l ≡ any (same_letters x) l
any-listed x [] = refl
any-listed x (y ∷ l) = rw (same_bytes x y, any-listed x l) refl

pub start-cons : (n : ℕ) (ns : List ℕ) (i : ℕ) → start (n ∷ ns) (suc i) ≡ n + start ns i
unfolding start
start-cons n ns zero = omega arith
start-cons n ns (suc i) = omega (arith, start-cons n ns i)

pub name-tail : (n : ℕ) (ns letters : List ℕ) (i : ℕ) → name_at ns (drop n letters) i ≡ name_at (n ∷ ns) letters (suc i)
unfolding name_at
name-tail n ns letters i = ap (λ l. take (get_or ns i 0) l) (drop-drop (start ns i) n letters ∙ ap (λ k. drop k letters) (sym (start-cons n ns i)))

pub cut-name : (lens letters : List ℕ) (i : ℕ) → i < length lens → get_or (cut lens letters) i [] ≡ name_at lens letters i
unfolding cut name_at start
cut-name [] letters i h = absurd (omega arith)
cut-name (n ∷ lens) letters zero h = refl
cut-name (n ∷ lens) letters (suc i) h = cut-name lens (drop n letters) i (omega arith) ∙ name-tail n lens letters i

pub start-next : (lens : List ℕ) (i : ℕ) → start lens (i + 1) ≡ start lens i + get_or lens i 0
unfolding start
start-next lens i = rw (add-one i)

module _ (lens letters : List ℕ) where
  pub end-within : (i : ℕ) → sum lens ≤ length letters → start lens i + get_or lens i 0 ≤ length letters
  end-within i h = omega (arith, start-sum lens (i + 1), start-next lens i)

  pub part-name : (i at end : ℕ) → at ≡ start lens i → end ≡ at + get_or lens i 0 → take (end - at) (drop at letters) ≡ name_at lens letters i
  unfolding name_at
  part-name i at end p q =
      let e : end - at ≡ get_or lens i 0 = omega arith in
      rw (e, p)

  pub any-before : (p : List ℕ → Bool) (k : ℕ) → k ≤ length lens → any p (before lens letters k) ≡ any p (take k (cut lens letters))
  unfolding before
  any-before p zero h = refl
  any-before p (suc k) h =
      rw (any-take p k (cut lens letters) (omega (arith, cut-count lens letters)), cut-name lens letters k (omega arith), any-before p k (omega arith)) refl
