-- Laws of reading a node, a definition and a sheet by their parts, in the code's terms.
-- Assumes nothing.
use Rattle.std.specs.Prelude.{Result, Ok, Err}
use mathlib.Core.Path.{◌≡◌, refl, sym, ◌∙◌, ap}
use mathlib.Core.List.{List}
use mathlib.Core.Bool.{Bool, true, false, ◌&&◌}
use Prim.Native.Nat.{ℕ, ◌-◌, ◌≤◌}
use native.Mathlib.Omega.{arith}
use lib.ListN.{length}
use lib.Dec.{leb, eqb}
use borrow.Author.Tests.{leb-true, eq-eqb, ne_eqb}
use Rattle.definitions.specs.declared.Refusal.{Refusal}
use Rattle.definitions.specs.declared.DefinitionToken.{DefinitionToken}
use Rattle.definitions.specs.Lists.{choose}
use Rattle.definitions.specs.Tokens.{TagValue, words, definition_token_of}
use Rattle.definitions.specs.Reading.{Got, got, rejected, Reader, after, token, limited, times}
use Rattle.definitions.specs.Grammar.{tagged, counted, count, name, ty, kind_at, declaration, declarations, definition, type_def, expr, equation, probe, node, sheet}
use Rattle.grammar.specs.Outcome.{outcome, told, listed}
use Rattle.grammar.specs.Repeated.{repeated}
use Rattle.grammar.specs.Parts.{names, ports, equations, body, sheet_types, sheet_nodes}
use Rattle.grammar.proofs.Laws.{wrap, counting, going, stopped, next-got, refused, told-got, list-got, after-got, times-length, times-repeated}
use Rattle.grammar.proofs.Shapes.{alike}

-- a count that was read is within its bounds
pub counted-within : (tag low most : ℕ) (ts : List TagValue) (p n q : ℕ) → counted tag low most ts p ≡ got n q → (low ≤ n) × (n ≤ most)
unfolding counted limited
counted-within tag low most ts p n q g =
    let m = after-got (tagged tag words ts p) _ n q g in
    go m.0 m.1 (leb low m.0) (leb m.0 most) refl refl m.3
  where
    go : (k s : ℕ) (a b : Bool) → leb low k ≡ a → leb k most ≡ b → choose (a && b) (got k s) (rejected (Refusal.Limit p)) ≡ got n q → (low ≤ n) × (n ≤ most)
    go k s false b x y e = absurd cc
    go k s true false x y e = absurd cc
    go k s true true x y e = let i : k ≡ n = cc in (omega (arith, leb-true low k x), omega (arith, leb-true k most y))

-- a definition by its first token
module _ (M : ℕ) (ts : List TagValue) (p : ℕ) (r : Result (DefinitionToken × ℕ) Refusal) (i : r ≡ told (token (definition_token_of M) ts p)) where
  module _ (h : DefinitionToken) (q : ℕ) (e : r ≡ Ok (h, q)) where
    is : (k : DefinitionToken) → h ≡ k → token (definition_token_of M) ts p ≡ got k q
    is k j = told-got (token (definition_token_of M) ts p) r k q i (e ∙ ap (λ (y : DefinitionToken). Ok (y, q)) j)

    pub definition-alias : (x : ℕ) (s : Result ℕ Refusal) → h ≡ DefinitionToken.Alias x → s ≡ outcome (ty M 8 ts q) → s ≡ outcome (type_def M ts p)
    unfolding type_def definition
    definition-alias x s j f = rw (is (DefinitionToken.Alias x) j) (f ∙ wrap (ty M 8 ts q) _)

-- readings in a row, bracketed otherwise
again : {A B C : Type 0} (x : Got A) (f : A → ℕ → Got B) (g : B → ℕ → Got C) → after (after x f) g ≡ after x (λ a q. after (f a q) g)
again (got a q) f g = refl
again (rejected t) f g = refl

-- the same outcome, where the first part of one is bracketed
rows : {A B C D : Type 0} (x : Got A) (f : A → ℕ → Got B) (g : B → ℕ → Got C) (h : A → ℕ → Got D) →
    ((a : A) (q : ℕ) → outcome (after (f a q) g) ≡ outcome (h a q)) → outcome (after (after x f) g) ≡ outcome (after x h)
rows x f g h e = ap outcome (again x f g) ∙ alike x _ _ e

module _ (M : ℕ) (ts : List TagValue) (p : ℕ) where
  -- a node by its parts
  pub node-parts : outcome (after (tagged 40 M ts p) (λ n q. after (token kind_at ts q) (λ k s. after (ports M ts s) (λ ls u. body M ts u)))) ≡ outcome (node M ts p)
  unfolding node ports body equations declarations count
  node-parts =
      alike (tagged 40 M ts p) _ _ (λ n q. alike (token kind_at ts q) _ _ (λ k s.
      rows (declarations M 128 ts s) _ _ _ (λ ins a. rows (declarations M (128 - length ins) ts a) _ _ _ (λ outs b.
      alike (declarations M (128 - length ins - length outs) ts b) _ _ (λ ls c.
      rows (counted 3 0 64 ts c) _ _ _ (λ e d. alike (times e (equation M) ts d) _ _ (λ es f.
      alike (counted 3 0 64 ts f) _ _ (λ m g. wrap (times m (probe M) ts g) _))))))))

-- what a sheet says at its end, where nothing may follow
abbrev pub whole : {A : Type 0} → List TagValue → A → ℕ → Got A
whole ts a q = choose (eqb q (length ts)) (got a q) (rejected (Refusal.Token q))

closed : {A B : Type 0} (t : Bool) (a : A) (b : B) (q : ℕ) → outcome (choose t (got a q) (rejected (Refusal.Token q))) ≡ outcome (choose t (got b q) (rejected (Refusal.Token q)))
closed true a b q = refl
closed false a b q = refl

-- a sheet by its parts
pub sheet-parts : (M : ℕ) (ts : List TagValue) (p : ℕ) → outcome (after (sheet_types M ts p) (λ tys q. after (sheet_nodes M ts q) (λ ns s. whole ts ns s))) ≡ outcome (sheet M ts p)
unfolding sheet sheet_types sheet_nodes
sheet-parts M ts p =
    rows (counted 1 0 32 ts p) _ _ _ (λ n q. alike (times n (type_def M) ts q) _ _ (λ tys s.
    rows (counted 2 0 16 ts s) _ _ _ (λ m u. alike (times m (node M) ts u) _ _ (λ ns v. closed (eqb v (length ts)) _ _ v))))

-- a count, then a list
module _ {A : Type 0} (R : Reader A) (tag low most : ℕ) (ts : List TagValue) (p : ℕ) (r : Result (ℕ × ℕ) Refusal) (e : r ≡ told (counted tag low most ts p)) where
  pub listed-all : (n q : ℕ) (s : Result ℕ Refusal) → r ≡ Ok (n, q) → s ≡ repeated n (λ u. outcome (R ts u)) q → s ≡ outcome (after (counted tag low most ts p) (λ n q. times n R ts q))
  listed-all n q s g h = counting (counted tag low most ts p) _ r s n q e g (h ∙ sym (times-repeated R ts n q))

-- declarations behind their count, which is told too
module _ (M most : ℕ) (ts : List TagValue) (p : ℕ) where
  -- there are no more than allowed
  pub declarations-most : (o : Result (ℕ × ℕ) Refusal) (n q : ℕ) → o ≡ listed (declarations M most ts p) → o ≡ Ok (n, q) → n ≤ most
  unfolding declarations count
  declarations-most o n q e g =
      let l = list-got (declarations M most ts p) o n q e g in
      let m = after-got (counted 3 0 most ts p) _ l.0 q l.1 in
      let k = times-length (declaration M) ts m.0 m.1 l.0 q m.3 in
      let b = counted-within 3 0 most ts p m.0 m.1 m.2 in
      let h = l.2 in
      omega arith

  module _ (r : Result (ℕ × ℕ) Refusal) (e : r ≡ told (counted 3 0 most ts p)) where
    module _ (n q : ℕ) (g : r ≡ Ok (n, q)) (s : Result ℕ Refusal) (f : s ≡ repeated n (λ u. outcome (declaration M ts u)) q) where
      -- what the list itself was
      read : s ≡ outcome (times n (declaration M) ts q)
      read = f ∙ sym (times-repeated (declaration M) ts n q)

      pub declarations_refused : (t : Refusal) → s ≡ Err t → Err t ≡ listed (declarations M most ts p)
      unfolding declarations count
      declarations_refused t h = rw (told-got (counted 3 0 most ts p) r n q e g, refused (times n (declaration M) ts q) s t read h)

      pub declarations-all : (u : ℕ) → s ≡ Ok u → Ok (n, u) ≡ listed (declarations M most ts p)
      unfolding declarations count
      declarations-all u h =
          let l = next-got (times n (declaration M) ts q) s u read h in
          rw (told-got (counted 3 0 most ts p) r n q e g, l.1) (ap (λ (k : ℕ). Ok (k, u)) (sym (times-length (declaration M) ts n q l.0 u l.1)))

module _ (M : ℕ) (ts : List TagValue) (p : ℕ) where
  -- a name, and what stands with it
  module _ (r : Result ℕ Refusal) (e : r ≡ outcome (name M ts p)) where
    pub declaration-more : (q : ℕ) (s : Result ℕ Refusal) → r ≡ Ok q → s ≡ outcome (ty M 8 ts q) → s ≡ outcome (declaration M ts p)
    unfolding declaration
    declaration-more q s g h = going (name M ts p) _ r s q e g (λ n. h ∙ wrap (ty M 8 ts q) _)

  -- an equation by its left names
  equation-parts : outcome (after (names M 1 8 ts p) (λ ls q. expr M 32 ts q)) ≡ outcome (equation M ts p)
  unfolding equation names
  equation-parts = rows (counted 3 1 8 ts p) _ _ _ (λ n q. alike (times n (name M) ts q) _ _ (λ ls s. wrap (expr M 32 ts s) _))

  module _ (r : Result ℕ Refusal) (e : r ≡ outcome (names M 1 8 ts p)) where
    pub equation-on : (q : ℕ) (s : Result ℕ Refusal) → r ≡ Ok q → s ≡ outcome (expr M 32 ts q) → s ≡ outcome (equation M ts p)
    equation-on q s g h = going (names M 1 8 ts p) _ r s q e g (λ l. h) ∙ equation-parts

  -- a node's equations and probes
  module _ (r : Result ℕ Refusal) (e : r ≡ outcome (equations M ts p)) where
    pub body_more : (q : ℕ) (s : Result ℕ Refusal) → r ≡ Ok q → s ≡ outcome (after (counted 3 0 64 ts q) (λ n u. times n (probe M) ts u)) → s ≡ outcome (body M ts p)
    unfolding body
    body_more q s g h = going (equations M ts p) _ r s q e g (λ l. h)

  -- a node
  module _ (r : Result ℕ Refusal) (e : r ≡ outcome (tagged 40 M ts p)) where
    module _ (q : ℕ) (g : r ≡ Ok q) (f : Result ℕ Refusal) (h : f ≡ outcome (token kind_at ts q)) where
      module _ (u : ℕ) (k : f ≡ Ok u) (i : Result ℕ Refusal) (l : i ≡ outcome (ports M ts u)) where
        pub node-ports : (t : Refusal) → i ≡ Err t → Err t ≡ outcome (node M ts p)
        node-ports t m = going (tagged 40 M ts p) _ r _ q e g (λ n. going (token kind_at ts q) _ f _ u h k (λ d. stopped (ports M ts u) _ i t l m)) ∙ node-parts M ts p

        pub node-more : (v : ℕ) (s : Result ℕ Refusal) → i ≡ Ok v → s ≡ outcome (body M ts v) → s ≡ outcome (node M ts p)
        node-more v s m b = going (tagged 40 M ts p) _ r s q e g (λ n. going (token kind_at ts q) _ f s u h k (λ d. going (ports M ts u) _ i s v l m (λ x. b))) ∙ node-parts M ts p

  -- a sheet
  module _ (r : Result ℕ Refusal) (e : r ≡ outcome (sheet_types M ts p)) where
    module _ (q : ℕ) (g : r ≡ Ok q) (f : Result ℕ Refusal) (h : f ≡ outcome (sheet_nodes M ts q)) where
      pub sheet-ends : (u : ℕ) → f ≡ Ok u → u ≡ length ts → Ok u ≡ outcome (sheet M ts p)
      sheet-ends u k l =
          going (sheet_types M ts p) _ r _ q e g (λ n. going (sheet_nodes M ts q) _ f _ u h k (λ x. rw (eq-eqb u (length ts) l))) ∙ sheet-parts M ts p

      pub sheet-goes-on : (u : ℕ) → f ≡ Ok u → (u ≡ length ts → ⊥) → Err (Refusal.Token u) ≡ outcome (sheet M ts p)
      sheet-goes-on u k l =
          going (sheet_types M ts p) _ r _ q e g (λ n. going (sheet_nodes M ts q) _ f _ u h k (λ x. rw (ne_eqb u (length ts) l))) ∙ sheet-parts M ts p
