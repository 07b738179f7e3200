-- The ids that a node declares, put one by one.
use Prim.Native.Nat.{ℕ, ◌+◌, ◌-◌, ◌≤◌, ◌<◌}
use mathlib.Core.Path.{◌≡◌, refl, sym, ap, ◌∙◌}
use mathlib.Core.List.{List, [], ◌∷◌, ◌++◌, map, map-append, append_assoc}
use native.Mathlib.Omega.{arith}
use lib.ListN.{length, take, set, length-append, length-map}
use Rattle.definitions.specs.Tokens.{TagValue}
use Rattle.definitions.specs.Tree.{Declared, Node}
use Rattle.definitions.specs.Reading.{got}
use Rattle.definitions.specs.Grammar.{count, declaration, declarations, node}
use Rattle.definitions.specs.Declock.{declared}
use Rattle.grammar.proofs.Laws.{times-length}
use Rattle.grammar.proofs.Parts.{counted-within}
use Rattle.grammar.proofs.Got.{declarations-got, node-got}
use Rattle.layout.specs.declared.DeclarationLayout.{DeclarationLayout}
use Rattle.layout.specs.Walk.{LaidAll}
use Rattle.layout.proofs.Walks.{first-laid}
use Rattle.spelling.specs.Writing.{over_at}
use Rattle.spelling.proofs.Writing.{over_nothing, over-set, over-then, over-take}
use Rattle.new_names.specs.Names.{name_of}

-- these declarations are left, which stand there; the names of those before stand from place k on
pub record Putting (M : ℕ) (ts : List TagValue) (out₀ out : List ℕ) (k i : ℕ) (l : List Declared) (ls : List DeclarationLayout) : Type 0 where
  pub so_far : List Declared
  pub rest : List Declared
  pub laid : LaidAll M ts rest ls
  pub whole : so_far ++ rest ≡ l
  pub reached : i ≡ k + length so_far
  pub put : out ≡ over_at k (map name_of so_far) out₀

module _ (M : ℕ) (ts : List TagValue) where
  pub putting-start : (out : List ℕ) (k : ℕ) (l : List Declared) (ls : List DeclarationLayout) → LaidAll M ts l ls → Putting M ts out out k k l ls
  putting-start out k l ls h = record { so_far = []; rest = l; laid = h; whole = refl; reached = omega arith; put = sym (over_nothing k out) }

  module _ (out₀ out : List ℕ) (k i : ℕ) (l : List Declared) where
    -- there is a place for the next
    pub putting-room : (x : DeclarationLayout) (ls : List DeclarationLayout) → Putting M ts out₀ out k i l (x ∷ ls) → k + length l ≤ 128 → i < 128
    putting-room x ls h u =
        let f = first-laid h.laid in
        omega (arith, h.reached, length-append h.so_far h.rest, ap length h.whole, ap length f.whole)

    -- the next is put
    pub putting-next : (x : DeclarationLayout) (ls : List DeclarationLayout) → Putting M ts out₀ out k i l (x ∷ ls) → Putting M ts out₀ (set out i x.name) k (i + 1) l ls
    putting-next x ls h =
        let f = first-laid h.laid in
        let w : k + length (map name_of h.so_far) ≡ i = ap (λ (y : ℕ). k + y) (length-map h.so_far name_of) ∙ sym h.reached in
        record {
          so_far = h.so_far ++ (f.first ∷ []);
          rest = f.rest;
          laid = f.others;
          whole = append_assoc h.so_far (f.first ∷ []) f.rest ∙ (ap (λ (y : List Declared). h.so_far ++ y) (sym f.whole) ∙ h.whole);
          reached = omega (arith, h.reached, length-append h.so_far (f.first ∷ []));
          put =
              sym (over-set i x.name out) ∙ (ap (λ (y : List ℕ). over_at i (x.name ∷ []) y) h.put
              ∙ (ap (λ (y : ℕ). over_at y (x.name ∷ []) (over_at k (map name_of h.so_far) out₀)) (sym w)
              ∙ (over-then k (map name_of h.so_far) (x.name ∷ []) out₀
              ∙ ap (λ (y : List ℕ). over_at k y out₀) (ap (λ (y : ℕ). map name_of h.so_far ++ (y ∷ [])) f.laid.named ∙ sym (map-append name_of h.so_far (f.first ∷ []))))));
        }

-- the front of the table has the ids
pub ids-front : (ids out : List ℕ) (n : ℕ) {after : List ℕ} → n ≡ length ids → n ≤ length out → after ≡ over_at 0 ids out → take n after ≡ ids
ids-front ids out n e h f =
    let z : 0 + length ids ≡ n = omega arith in
    ap (λ (l : List ℕ). take n l) f ∙ (ap (λ (m : ℕ). take m (over_at 0 ids out)) (sym z) ∙ over-take 0 ids out (omega arith))

-- three lists, one behind another
pub three-put : (ins outs locals : List Declared) (o o₁ o₂ o₃ : List ℕ) (a b r : ℕ) → length (ins ++ (outs ++ locals)) ≤ 128
    → (0 + length ins ≤ 128 → (a ≡ 0 + length ins) × (o₁ ≡ over_at 0 (map name_of ins) o))
    → (a + length outs ≤ 128 → (b ≡ a + length outs) × (o₂ ≡ over_at a (map name_of outs) o₁))
    → (b + length locals ≤ 128 → (r ≡ b + length locals) × (o₃ ≡ over_at b (map name_of locals) o₂))
    → length o ≡ 128 → take r o₃ ≡ map name_of (ins ++ (outs ++ locals))
three-put ins outs locals o o₁ o₂ o₃ a b r few f g h size =
    let m : length (ins ++ (outs ++ locals)) ≡ length ins + (length outs + length locals) = length-append ins (outs ++ locals) ∙ ap (λ (y : ℕ). length ins + y) (length-append outs locals) in
    let x = f (omega arith) in
    let y = g (omega (arith, x.0)) in
    let z = h (omega (arith, x.0, y.0)) in
    let u : a ≡ 0 + length (map name_of ins) = x.0 ∙ ap (λ (n : ℕ). 0 + n) (sym (length-map ins name_of)) in
    let v : b ≡ a + length (map name_of outs) = y.0 ∙ ap (λ (n : ℕ). a + n) (sym (length-map outs name_of)) in
    let s : o₃ ≡ over_at a (map name_of outs ++ map name_of locals) o₁ =
    z.1 ∙ (ap (λ (l : List ℕ). over_at b (map name_of locals) l) y.1 ∙ (ap (λ (n : ℕ). over_at n (map name_of locals) (over_at a (map name_of outs) o₁)) v ∙ over-then a (map name_of outs) (map name_of locals) o₁)) in
    let t : o₃ ≡ over_at 0 (map name_of ins ++ (map name_of outs ++ map name_of locals)) o =
    s ∙ (ap (λ (l : List ℕ). over_at a (map name_of outs ++ map name_of locals) l) x.1 ∙ (ap (λ (n : ℕ). over_at n (map name_of outs ++ map name_of locals) (over_at 0 (map name_of ins) o)) u ∙ over-then 0 (map name_of ins) (map name_of outs ++ map name_of locals) o)) in
    let n : r ≡ length (map name_of (ins ++ (outs ++ locals))) = omega (arith, x.0, y.0, z.0, length-map (ins ++ (outs ++ locals)) name_of) in
    ids-front (map name_of (ins ++ (outs ++ locals))) o r n (omega (arith, x.0, y.0, z.0))
    (t ∙ ap (λ (l : List ℕ). over_at 0 l o) (ap (λ (l : List ℕ). map name_of ins ++ l) (sym (map-append name_of outs locals)) ∙ sym (map-append name_of ins (outs ++ locals))))

-- a node of an accepted sheet declares at most 128 names
pub declared-few : (M : ℕ) (ts : List TagValue) (p : ℕ) (n : Node) (q : ℕ) → node M ts p ≡ got n q → length (declared n) ≤ 128
unfolding count
declared-few M ts p n q g =
    let x = node-got M ts p n q g in
    omega (
      arith,
      few 128 x.inputs_at n.inputs x.outputs_at x.inputs,
      few (128 - length n.inputs) x.outputs_at n.outputs x.locals_at x.outputs,
      few (128 - length n.inputs - length n.outputs) x.locals_at n.locals x.count_at x.locals,
      length-append n.inputs (n.outputs ++ n.locals),
      length-append n.outputs n.locals,
    )
  where
    few : (most s : ℕ) (l : List Declared) (e : ℕ) → declarations M most ts s ≡ got l e → length l ≤ most
    few most s l e h =
        let d = declarations-got M ts s most l e h in
        omega (arith, times-length (declaration M) ts d.0 d.1 l e d.3, (counted-within 3 0 most ts s d.0 d.1 d.2).1)
