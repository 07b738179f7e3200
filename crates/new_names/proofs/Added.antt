-- New names added one after another, and their numbers and ids in tables.
use Prim.Native.Nat.{ℕ, zero, suc, ◌+◌, ◌-◌, ◌*◌, ◌≤◌, ◌<◌, min}
use lib.Dec.{leb}
use mathlib.Core.Path.{◌≡◌, refl, sym, ap, ◌∙◌, subst, subst⁻¹}
use mathlib.Core.Bool.{Bool, true, false, ◌||◌}
use mathlib.Core.List.{List, [], ◌∷◌, ◌++◌, map, map-append, map-map}
use native.Mathlib.Numerals.{add-one}
use native.Mathlib.Omega.{arith}
use lib.ListN.{length, get_or, take, set, length-map, get_or-append}
use lib.Seq.{get_or-take, length-take-le, take_all}
use borrow.Author.Tests.{leb-true, leb-false}
use Rattle.definitions.specs.Lists.{choose, any, place_by, up_from, Letters, decimal, bytes}
use Rattle.definitions.specs.Tree.{Declared, Node}
use Rattle.definitions.specs.Clock.{Clock, same_clock, in_chain_order}
use Rattle.definitions.specs.Declock.{Stem, ck, first, hold, clock_place, declared}
use Rattle.definitions.specs.Output.{stem_letters, id_of, add_name, add_names, letters_of, new_letters, new_id}
use Rattle.shapes.proofs.Names.{id_below}
use Rattle.spelling.specs.Writing.{over_at}
use Rattle.spelling.proofs.Writing.{over_nothing, over-past, over-set, over-then, over-take, length_over}
use Rattle.spelling.specs.declared.name_table.NameTable.{NameTable}
use Rattle.spelling.specs.Table.{names_of, NamesHeld}
use Rattle.spelling.specs.Free.{new_number, new_numbers, taken_of}
use Rattle.spelling.proofs.Free.{new-letters, up-add, up-length}
use Rattle.spelling.proofs.Table.{names-count, add-last-name}
use Rattle.clock_tables.specs.Rows.{clocks_in, RowsHold}
use Rattle.clock_tables.proofs.RowsLaws.{has_all, has-count}
use Rattle.clock_tables.proofs.Distinct.{Distinct, row-place}
use Rattle.chain_order.specs.Order.{row_of, picked, FirstBelow}
use Rattle.stateless.specs.Need.{Needs}
use Rattle.stateless.specs.Locals.{ids_in, Agree}
use Rattle.stateless.specs.Rewritten.{new_names, names_by}
use Rattle.new_names.specs.declared.NodeNeeds.{NodeNeeds}
use Rattle.new_names.specs.declared.node_names.NodeNames.{NodeNames}
use Rattle.new_names.specs.Filled.{Filled}
use Rattle.new_names.specs.Names.{name_of, numbered_name, ordered_names, counted_names, ids_of, Numbered, ChainOrdered}

-- ---- numbers in order
module _ {A : Type 0} (f : ℕ → A) where
  up-last : (i : ℕ) → map f (up_from 0 (i + 1)) ≡ map f (up_from 0 i) ++ (f i ∷ [])
  up-last i =
      let z : 0 + i ≡ i = omega arith in
      ap (map f) (up-add 0 i 1) ∙ (map-append f (up_from 0 i) (up_from (0 + i) 1) ∙ ap (λ (j : ℕ). map f (up_from 0 i) ++ (f j ∷ [])) z)

  pub up_at : (d : A) (k n j : ℕ) → j < n → get_or (map f (up_from k n)) j d ≡ f (k + j)
  up_at d k zero j h = absurd (omega arith)
  up_at d k (suc n) zero h = let e : k + 0 ≡ k = omega arith in rw e
  up_at d k (suc n) (suc j) h = let e : k + suc j ≡ suc k + j = omega arith in rw e (up_at d (suc k) n j (omega arith))

up_same : {A : Type 0} (f g : ℕ → A) (k n : ℕ) → ((i : ℕ) → k ≤ i → i < k + n → f i ≡ g i) → map f (up_from k n) ≡ map g (up_from k n)
up_same f g k zero h = refl
up_same f g k (suc n) h = rw (h k (omega arith) (omega arith)) (ap (λ (l : List _). g k ∷ l) (up_same f g (suc k) n (λ i u v. h i (omega arith) (omega arith))))

-- ---- words of a table, one by one
module _ (f : ℕ → ℕ) (out₀ : List ℕ) where
  filled-length : (j : ℕ) → 0 + length (map f (up_from 0 j)) ≡ j
  filled-length j = omega (arith, length-map (up_from 0 j) f, up-length 0 j)

  pub filled_none : out₀ ≡ over_at 0 (map f (up_from 0 0)) out₀
  filled_none = sym (over_nothing 0 out₀)

  pub filled_more : (j x : ℕ) (out : List ℕ) → x ≡ f j → out ≡ over_at 0 (map f (up_from 0 j)) out₀ → set out j x ≡ over_at 0 (map f (up_from 0 (j + 1))) out₀
  filled_more j x out e h =
      sym (over-set j x out) ∙ (ap (λ (l : List ℕ). over_at j (x ∷ []) l) h
      ∙ (ap (λ (i : ℕ). over_at i (x ∷ []) (over_at 0 (map f (up_from 0 j)) out₀)) (sym (filled-length j))
      ∙ (over-then 0 (map f (up_from 0 j)) (x ∷ []) out₀
      ∙ ap (λ (l : List ℕ). over_at 0 l out₀) (ap (λ (y : ℕ). map f (up_from 0 j) ++ (y ∷ [])) e ∙ sym (up-last f j)))))

  pub filled-same : (j : ℕ) {out : List ℕ} → out ≡ over_at 0 (map f (up_from 0 j)) out₀ → length out ≡ length out₀
  filled-same j h = ap length h ∙ length_over 0 (map f (up_from 0 j)) out₀

  -- a table that is too short has no more words
  filled-short : (j n : ℕ) (out : List ℕ) → j ≤ n → length out ≤ j → out ≡ over_at 0 (map f (up_from 0 j)) out₀ → out ≡ over_at 0 (map f (up_from 0 n)) out₀
  filled-short j n out a b h =
      let e : j + (n - j) ≡ n = omega arith in
      let z : 0 + j ≡ j = omega arith in
      let g : map f (up_from 0 n) ≡ map f (up_from 0 j) ++ map f (up_from j (n - j)) =
      ap (λ (i : ℕ). map f (up_from 0 i)) (sym e) ∙ (ap (map f) (up-add 0 j (n - j)) ∙ (map-append f (up_from 0 j) (up_from (0 + j) (n - j)) ∙ ap (λ (i : ℕ). map f (up_from 0 j) ++ map f (up_from i (n - j))) z)) in
      sym (over-past j (map f (up_from j (n - j))) out b) ∙ (ap (λ (l : List ℕ). over_at j (map f (up_from j (n - j))) l) h
      ∙ (ap (λ (i : ℕ). over_at i (map f (up_from j (n - j))) (over_at 0 (map f (up_from 0 j)) out₀)) (sym (filled-length j))
      ∙ (over-then 0 (map f (up_from 0 j)) (map f (up_from j (n - j))) out₀ ∙ ap (λ (l : List ℕ). over_at 0 l out₀) (sym g))))

  -- so many words as there is room for
  pub filled-min : (j n : ℕ) (out : List ℕ) → j ≡ min n (length out₀) → out ≡ over_at 0 (map f (up_from 0 j)) out₀ → out ≡ over_at 0 (map f (up_from 0 n)) out₀
  filled-min j n out e h = go (leb n (length out₀)) refl
    where
      go : (t : Bool) → leb n (length out₀) ≡ t → out ≡ over_at 0 (map f (up_from 0 n)) out₀
      go true t = let m : j ≡ n = omega (arith, e, leb-true n (length out₀) t) in rw m at h
      go false t = filled-short j n out (omega (arith, e)) (omega (arith, e, filled-same j h, leb-false n (length out₀) t)) h

  -- a word of a table that is long enough
  pub filled_at : (n : ℕ) (out : List ℕ) → n ≤ length out₀ → out ≡ over_at 0 (map f (up_from 0 n)) out₀ → (j : ℕ) → j < n → get_or out j 0 ≡ f j
  filled_at n out room h j u =
      let z : 0 + j ≡ j = omega arith in
      let t : take n out ≡ map f (up_from 0 n) =
      ap (λ (l : List ℕ). take n l) h ∙ (ap (λ (i : ℕ). take i (over_at 0 (map f (up_from 0 n)) out₀)) (sym (filled-length n)) ∙ over-take 0 (map f (up_from 0 n)) out₀ (omega (arith, filled-length n))) in
      sym (get_or-take n out j 0 u) ∙ (ap (λ (l : List ℕ). get_or l j 0) t ∙ (up_at f 0 0 n j u ∙ ap f z))

-- the front of a table, as far as the table reaches
module _ (l : List ℕ) (n m : ℕ) (long : length l ≡ 1024) (least : m ≡ min n 1024) where
  pub take-least : take m l ≡ take n l
  take-least = go (leb n 1024) refl
    where
      go : (t : Bool) → leb n 1024 ≡ t → take m l ≡ take n l
      go true t = ap (λ (k : ℕ). take k l) (omega (arith, least, leb-true n 1024 t))
      go false t = take_all m l (omega (arith, long, least, leb-false n 1024 t)) ∙ sym (take_all n l (omega (arith, long, leb-false n 1024 t)))

  pub least-length : length (take m l) ≡ min n 1024
  least-length = length-take-le m l (omega (arith, long, least)) ∙ least

-- the ids of so many names of a stem, by the numbers that a table has for them
pub ids-cut : (all : List Letters) (stem : Stem) (numbers cut out₀ : List ℕ) (n : ℕ) → length out₀ ≡ 1024 → cut ≡ take n numbers → length cut ≡ min n 1024
    → over_at 0 (ids_of all stem cut (length cut)) out₀ ≡ over_at 0 (ids_of all stem numbers n) out₀
ids-cut all stem numbers cut out₀ n room e k =
    let f : (i : ℕ) → 0 ≤ i → i < 0 + length cut → id_of all (numbered_name stem cut i) ≡ id_of all (numbered_name stem numbers i) =
    λ i u v. ap (λ (j : ℕ). id_of all (stem_letters stem ++ decimal j)) (ap (λ (l : List ℕ). get_or l i 0) e ∙ get_or-take n numbers i 0 (omega (arith, v, k))) in
    filled-min (λ i. id_of all (numbered_name stem numbers i)) out₀ (length cut) n _ (k ∙ ap (min n) (sym room))
    (ap (λ (l : List ℕ). over_at 0 l out₀) (up_same (λ i. id_of all (numbered_name stem cut i)) (λ i. id_of all (numbered_name stem numbers i)) 0 (length cut) f))

-- the names of so many numbers
names-cut : (stem : Stem) (numbers cut : List ℕ) (n : ℕ) → cut ≡ take n numbers → length cut ≡ min n 1024 → n ≤ 1024 → counted_names stem cut (length cut) ≡ counted_names stem numbers n
names-cut stem numbers cut n e k few =
    up_same (numbered_name stem cut) (numbered_name stem numbers) 0 (length cut) (λ i u v. ap (λ (j : ℕ). stem_letters stem ++ decimal j) (ap (λ (l : List ℕ). get_or l i 0) e ∙ get_or-take n numbers i 0 (omega (arith, v, k))))
    ∙ ap (counted_names stem numbers) (omega (arith, k, few))

-- ---- the numbers of a node's new names
module _ (names : List Letters) (node : Node) (stem : Stem) where
  -- the numbers that are free among the names of these ids
  pub numbers-free : (letters : ℕ → Letters) (ids : List ℕ) (n : ℕ) (part : List ℕ) → letters ≡ letters_of names → ids ≡ map name_of (declared node)
      → part ≡ new_numbers (map letters ids) stem n → part ≡ new_numbers (taken_of names node) stem n
  numbers-free letters ids n part e f g =
      let a : map letters ids ≡ taken_of names node = ap (map letters) f ∙ (map-map letters name_of (declared node) ∙ ap (λ (l : ℕ → Letters). map (λ (d : Declared). l d.name) (declared node)) e) in
      g ∙ ap (λ (l : List Letters). new_numbers l stem n) a

  -- a table that has them in front has them
  pub numbers-front : (part rest out : List ℕ) (n m : ℕ) → m ≡ n → n ≤ length out → part ≡ new_numbers (taken_of names node) stem (length (take m out)) → Numbered names node stem (part ++ rest) n
  numbers-front part rest out n m same room e =
      let f : ℕ → ℕ = new_number (taken_of names node) stem in
      let g : part ≡ map f (up_from 0 n) = e ∙ ap (new_numbers (taken_of names node) stem) (ap (λ (k : ℕ). length (take k out)) same ∙ length-take-le n out room) in
      let many : length part ≡ n = ap length g ∙ (length-map (up_from 0 n) f ∙ up-length 0 n) in
      record { same = λ j u. let z : 0 + j ≡ j = omega arith in get_or-append part rest 0 j (omega arith) ∙ (ap (λ (l : List ℕ). get_or l j 0) g ∙ (up_at f 0 0 n j u ∙ ap f z)) }

  -- a new name is its stem with its number
  pub numbers-letters : {numbers : List ℕ} {n : ℕ} → Numbered names node stem numbers n → (j : ℕ) → j < n → new_letters names node stem j ≡ stem_letters stem ++ decimal (get_or numbers j 0)
  numbers-letters h j u = new-letters names node stem j ∙ ap (λ (k : ℕ). stem_letters stem ++ decimal k) (sym (h.same j u))

-- ---- names added one by one
pub add-append : (all a b : List Letters) → add_names all (a ++ b) ≡ add_names (add_names all a) b
add-append all [] b = refl
add-append all (n ∷ a) b = add-append (add_name all n) a b

module _ (f : ℕ → Letters) {t : NameTable 1024 16384} (all : List Letters) where
  pub adding-more : (i : ℕ) (x : Letters) → x ≡ f i → NamesHeld t (add_name (add_names all (map f (up_from 0 i))) x) → NamesHeld t (add_names all (map f (up_from 0 (i + 1))))
  adding-more i x e h =
      let g : add_names all (map f (up_from 0 (i + 1))) ≡ add_name (add_names all (map f (up_from 0 i))) x =
      ap (add_names all) (up-last f i) ∙ (add-last-name all (map f (up_from 0 i)) (f i) ∙ ap (add_name (add_names all (map f (up_from 0 i)))) (sym e)) in
      rw g h

-- ---- the names of new locals
picked-map : {A : Type 0} (g : Clock → A) (f : ℕ → Clock) (o : List ℕ) (i n : ℕ) → map g (picked f o i n) ≡ map (λ (j : ℕ). g (f (get_or o j 0))) (up_from i n)
unfolding picked
picked-map g f o i zero = refl
picked-map g f o i (suc n) = rw (add-one i) (ap (λ (l : List _). g (f (get_or o i 0)) ∷ l) (picked-map g f o (suc i) n))

-- the name of row i of an order
pub ordered-name : (stem : Stem) (numbers order : List ℕ) (i : ℕ) {x y z : ℕ} → x ≡ get_or order i 0 → y ≡ x → z ≡ get_or numbers y 0 → stem_letters stem ++ decimal z ≡ numbered_name stem numbers (get_or order i 0)
ordered-name stem numbers order i a b e = ap (λ (k : ℕ). stem_letters stem ++ decimal k) (e ∙ ap (λ (r : ℕ). get_or numbers r 0) (b ∙ a))

module _ (names : List Letters) (node : Node) (stem : Stem) where
  pub ordered-names : {letters : ℕ → Letters} {rows order numbers : List ℕ} {k : ℕ} {clocks : List Clock} → ChainOrdered letters rows order k clocks → Numbered names node stem numbers (length clocks)
      → ordered_names stem numbers order k ≡ map (λ (c : Clock). new_letters names node stem (clock_place c clocks)) (in_chain_order letters clocks)
  ordered-names {letters} {rows} {order} {numbers} {k} {clocks} h n =
      let g : Clock → Letters = λ c. new_letters names node stem (clock_place c clocks) in
      up_same (λ i. numbered_name stem numbers (get_or order i 0)) (λ i. g (row_of rows (get_or order i 0))) 0 k
      (λ i u v.
      let w : i < k = omega arith in
      sym (ap (new_letters names node stem) (h.own i w) ∙ numbers-letters names node stem n (get_or order i 0) (h.below i w)))
      ∙ (sym (picked-map g (row_of rows) order 0 k) ∙ ap (map g) h.sorted)

  pub counted-names : {numbers : List ℕ} {n : ℕ} → Numbered names node stem numbers n → counted_names stem numbers n ≡ map (new_letters names node stem) (up_from 0 n)
  counted-names {numbers} {n} h = up_same (numbered_name stem numbers) (new_letters names node stem) 0 n (λ i u v. sym (numbers-letters names node stem h i (omega arith)))

-- the lists one after another
module _ (names : List Letters) (node : Node) (w : Needs) {needs : NodeNeeds} {t : NodeNames} (f : Filled names node w needs t) where
  -- those of flags, of first-tick flags and of holds
  abbrev pub with_flags : List Letters → List Letters
  with_flags all = add_names all (ordered_names ck t.flags.numbers t.flags.order t.flags.ordered)

  abbrev pub with_firsts : List Letters → List Letters
  with_firsts all = add_names (with_flags all) (ordered_names first t.firsts.numbers t.firsts.order t.firsts.ordered)

  abbrev pub with_all : List Letters → List Letters
  with_all all = add_names (with_firsts all) (counted_names hold t.hold_numbers t.holds)

  -- its holds are added by their numbers
  pub holds-added : {o : NameTable 1024 16384} (all : List Letters) (cut : List ℕ) → cut ≡ take t.holds t.hold_numbers → length cut ≡ min t.holds 1024 → NamesHeld o (add_names (with_firsts all) (counted_names hold cut (length cut))) → NamesHeld o (with_all all)
  holds-added {o} all cut e k h = subst (λ (l : List Letters). NamesHeld o (add_names (with_firsts all) l)) (names-cut hold t.hold_numbers cut t.holds e k (omega (arith, f.held, f.counted.held, f.few.holds))) h

  all-names : (all : List Letters) → with_all all ≡ add_names all (new_names names node w)
  unfolding new_names
  all-names all =
      let A = ordered_names ck t.flags.numbers t.flags.order t.flags.ordered in
      let B = ordered_names first t.firsts.numbers t.firsts.order t.firsts.ordered in
      let C = counted_names hold t.hold_numbers t.holds in
      sym (add-append (add_names all A) B C) ∙ (sym (add-append all A (B ++ C)) ∙ rw (ordered-names names node ck f.flags.order f.flags.numbers, ordered-names names node first f.firsts.order f.firsts.numbers, f.held, counted-names names node hold f.hold-numbers))

  -- the table of the output's names, `condact` being needed, or not
  module _ {o : NameTable 1024 16384} (all : List Letters) where
    pub names-added : (b : Bool) → t.condact ≡ b → NamesHeld o (choose b (add_name (with_all all) (bytes "condact")) (with_all all)) → NamesHeld o (names_by names all node w)
    names-added b e h =
        let more = add_names all (new_names names node w) in
        subst⁻¹ (λ (t : Bool). NamesHeld o (choose t (add_name more (bytes "condact")) more)) (sym f.gated ∙ e) (rw (all-names all) at h)

-- ---- rows in chain order
-- rows that `sort_rows` put in order, of a table that holds all clocks, each once
pub rows-ordered : (letters : ℕ → Letters) (rows order : List ℕ) (n k : ℕ) (clocks : List Clock) → 17 * n ≤ length rows → RowsHold rows n clocks → Distinct clocks → k ≤ n
    → picked (row_of rows) order 0 k ≡ in_chain_order letters (clocks_in rows n) → FirstBelow order k n → ChainOrdered letters rows order k clocks
rows-ordered letters rows order n k clocks room h d l s b =
    record {
      sorted = s ∙ ap (in_chain_order letters) (has_all rows n clocks room h);
      own = λ i u. row-place rows n clocks room h d (get_or order i 0) (b i u);
      below = λ i u. omega (arith, b i u, has-count rows n clocks room h);
    }

-- ---- ids
-- the ids of a node's new names in a table that is filled from one that holds the names
module _ (names all : List Letters) (node : Node) {t : NameTable 1024 16384} (h : NamesHeld t all) (e : t.full ≡ false) where
  pub ids-filled : (stem : Stem) (numbers : List ℕ) (n : ℕ) (out ids : List ℕ) → Numbered names node stem numbers n → n ≤ length out → ids ≡ over_at 0 (ids_of (names_of t) stem numbers n) out
      → (j : ℕ) → j < n → get_or ids j 0 ≡ new_id names all node stem j
  ids-filled stem numbers n out ids k room f j u =
      filled_at (λ i. id_of (names_of t) (numbered_name stem numbers i)) out n ids room f j u
      ∙ (ap (λ (l : List Letters). id_of l (numbered_name stem numbers j)) (sym (h.kept e)) ∙ ap (id_of all) (sym (numbers-letters names node stem k j u)))

-- an id fits a word where there are few names
pub id-fits : {many long : ℕ} (t : NameTable many long) → many < 4294967296 → (name : Letters) {r : ℕ} → r ≡ id_of (names_of t) name → r < 4294967296
id-fits t few name e = omega (arith, id_below (names_of t) name, names-count t, t.few, few, e)

-- a clock among others has a place there
pub place-there : (c : Clock) (cs : List Clock) → any (same_clock c) cs ≡ true → clock_place c cs < length cs
place-there c [] h = absurd cc
place-there c (d ∷ cs) h = go (same_clock c d) h (place-there c cs)
  where
    go : (t : Bool) → (t || any (same_clock c) cs) ≡ true → (any (same_clock c) cs ≡ true → clock_place c cs < length cs) → choose t 0 (suc (place_by (same_clock c) cs)) < suc (length cs)
    go true q f = omega arith
    go false q f = omega (arith, f q)

-- tables so filled say what rewriting asks of them
pub ids-agree : (new : Stem → ℕ → ℕ) (flags firsts : List Clock) (holds : ℕ) (flag_ids first_ids hold_ids : List ℕ) (condact id : ℕ)
    → ((j : ℕ) → j < length flags → get_or flag_ids j 0 ≡ new ck j) → ((j : ℕ) → j < length firsts → get_or first_ids j 0 ≡ new first j) → ((j : ℕ) → j < holds → get_or hold_ids j 0 ≡ new hold j) → id ≡ condact
    → Agree flags firsts holds new condact (ids_in flags firsts flag_ids first_ids hold_ids id)
ids-agree new flags firsts holds flag_ids first_ids hold_ids condact id f g h e =
    record {
      flags-agree = λ c q. f (clock_place c flags) (place-there c flags q);
      firsts-agree = λ c q. g (clock_place c firsts) (place-there c firsts q);
      holds_agree = h;
      condact-agrees = e;
    }
