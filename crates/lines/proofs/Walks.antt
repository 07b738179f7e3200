-- What a walk over the clocks of equations gives. Assumes nothing.
use Prim.Native.Nat.{ℕ, ◌+◌}
use mathlib.Core.Path.{◌≡◌, refl, sym, subst, ◌∙◌, ap}
use mathlib.Core.List.{List, [], ◌∷◌, ◌++◌, map, append_assoc, append-nil}
use native.Mathlib.Omega.{arith}
use lib.ListN.{length, length-append}
use Rattle.std.specs.Prelude.{Some, None}
use Rattle.definitions.specs.Clock as clocks
use Rattle.definitions.specs.InferClocks.{Clocked}
use Rattle.clock_tables.specs.declared.clock.Clock.{Clock}
use Rattle.clock_tables.specs.Value.{value_of}
use Rattle.skeleton.specs.Sites.{EquationsOn}
use Rattle.lines.specs.declared.equation_clocks.EquationClocks.{EquationClocks}
use Rattle.lines.specs.Walk.{GivesClock, ClocksLeft}

-- the clocks of equations
abbrev pub clocks_of : List Clocked → List clocks.Clock
clocks_of cs = map (λ (c : Clocked). c.clock) cs

pub clocks-begin : (M : ℕ) (cs : List Clocked) (q : ℕ) (s : EquationClocks) → EquationsOn M s.source.tags.now s.source.values.now s.sites.now cs s.at q → length cs ≡ s.left → ClocksLeft (clocks_of cs) s
clocks-begin M cs q s g h = record { names = M; equations = cs; end = q; on = g; many = h; same = refl }

module _ {cs : List clocks.Clock} {s : EquationClocks} (h : ClocksLeft cs s) (t : EquationClocks) where
  -- one more
  pub clocks-next : (c : Clock) → GivesClock s (Some c) t → (rest : List clocks.Clock) × (cs ≡ value_of c ∷ rest) × ClocksLeft rest t
  unfolding GivesClock EquationsOn
  clocks-next c g = go h.equations h.on h.many h.same
    where
      go : (l : List Clocked) → EquationsOn h.names s.source.tags.now s.source.values.now s.sites.now l s.at h.end → length l ≡ s.left → clocks_of l ≡ cs → (rest : List clocks.Clock) × (cs ≡ value_of c ∷ rest) × ClocksLeft rest t
      go [] o m e = absurd (omega (arith, m, g.0))
      go (x ∷ l) o m e =
          let on : EquationsOn h.names t.source.tags.now t.source.values.now t.sites.now l t.at h.end = rw (g.1, g.2, g.4 h.names x.equation o.0 o.1) o.3 in
          let first : x.clock ≡ value_of c = sym (g.3 ∙ o.2) in
          (clocks_of l, sym e ∙ ap (λ k. k ∷ clocks_of l) first, record { names = h.names; equations = l; end = h.end; on = on; many = omega (arith, m, g.0); same = refl })

  -- none more
  pub clocks-end : GivesClock s None t → cs ≡ []
  unfolding GivesClock
  clocks-end g = go h.equations h.many h.same
    where
      go : (l : List Clocked) → length l ≡ s.left → clocks_of l ≡ cs → cs ≡ []
      go [] m e = sym e
      go (x ∷ l) m e = absurd (omega (arith, m, g.0))

-- a walk so far: the clocks that it gave, of which this holds, and those left; with these they are all
pub record Walked (all : List clocks.Clock) (P : List clocks.Clock → Type 0) (i : ℕ) (s : EquationClocks) : Type 0 where
  pub rest : List clocks.Clock
  pub so_far : List clocks.Clock
  pub left : ClocksLeft rest s
  pub many : i ≡ length so_far
  pub whole : so_far ++ rest ≡ all
  pub holds : P so_far

module _ {all : List clocks.Clock} {P : List clocks.Clock → Type 0} {i : ℕ} {s : EquationClocks} where
  pub walked-none : i ≡ 0 → ClocksLeft all s → P [] → Walked all P i s
  walked-none z h p = record { rest = all; so_far = []; left = h; many = z; whole = refl; holds = p }

  module _ (h : Walked all P i s) (t : EquationClocks) where
    pub walked-more : {Q : List clocks.Clock → Type 0} (n : ℕ) (c : Clock) → GivesClock s (Some c) t → n ≡ i + 1 → Q (h.so_far ++ (value_of c ∷ [])) → Walked all Q n t
    walked-more n c g k q =
        let v = value_of c in
        let r = clocks-next h.left t c g in
        record {
          rest = r.0;
          so_far = h.so_far ++ (v ∷ []);
          left = r.2;
          many = simp length-append (omega (arith, h.many, k));
          whole = append_assoc h.so_far (v ∷ []) r.0 ∙ (ap (λ x. h.so_far ++ x) (sym r.1) ∙ h.whole);
          holds = q;
        }

    pub walked-all : GivesClock s None t → P all
    walked-all g = subst P (sym (append-nil h.so_far) ∙ (ap (λ x. h.so_far ++ x) (sym (clocks-end h.left t g)) ∙ h.whole)) h.holds
