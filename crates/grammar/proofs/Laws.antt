-- Laws of reading, in the code's terms: what each answer of a part makes the whole's answer.
-- Assumes nothing.
use Rattle.std.specs.Prelude.{Result, Ok, Err}
use Rattle.std.specs.Result.{IsErr, IsErrAnd}
use Rattle.std.specs.Option.{ok_or}
use Rattle.std.proofs.lemmas.Result.{err_from_is_err_and}
use mathlib.Core.Path.{◌≡◌, refl, sym, ◌∙◌, ap}
use mathlib.Core.List.{List, [], ◌∷◌}
use mathlib.Core.Option.{Option, none, some}
use Prim.Native.Nat.{ℕ, zero, suc, ◌+◌, ◌-◌, ◌≤◌, ◌<◌}
use native.Mathlib.Omega.{arith}
use native.Mathlib.Numerals.{sub-one}
use lib.ListN.{length, get_or, get_elem?}
use borrow.Author.Tests.{le-leb, lt-leb}
use Rattle.definitions.specs.declared.Refusal.{Refusal}
use Rattle.definitions.specs.declared.Primitive.{Primitive}
use Rattle.definitions.specs.declared.ExprToken.{ExprToken}
use Rattle.definitions.specs.declared.TypeToken.{TypeToken}
use Rattle.definitions.specs.Tokens.{TagValue, type_token_of, expr_token_of}
use Rattle.definitions.specs.Tree.{Expr}
use Rattle.definitions.specs.Reading.{Got, got, rejected, Reader, after, allowed, at_token, token, limited, times}
use Rattle.definitions.specs.Grammar.{name, ty, exprs, fields, form, expr}
use Rattle.definitions.specs.Bytes.{tokens}
use Rattle.std.specs.declared.option.Option as code
use Rattle.std.specs.declared.option.Option.TheVariants.{None, Some}
use Rattle.grammar.specs.Step.{step_of, step_at}
use Rattle.grammar.proofs.ReaderLaws.{tokens-at}
use Rattle.grammar.specs.Outcome.{outcome, told, listed}
use Rattle.grammar.specs.Repeated.{onward, repeated}

pub tokens-length : (ts vs : List ℕ) → length vs ≡ length ts → length (tokens ts vs) ≡ length ts
unfolding tokens
tokens-length [] vs e = refl
tokens-length (t ∷ ts) [] e = absurd (omega arith)
tokens-length (t ∷ ts) (v ∷ vs) e = ap suc (tokens-length ts vs (omega arith))

-- what is read at a place that has a token
pub there : {A : Type 0} (f : ℕ → ℕ → Option A) (ts vs : List ℕ) (p : ℕ) → length vs ≡ length ts → p < length ts → token f (tokens ts vs) p ≡ allowed (f (get_or ts p 0) (get_or vs p 0)) p
unfolding token
there f ts vs p e h = rw (tokens-at ts vs p e h)

-- what is read at a place, by what the reader says of it
module _ {A : Type 0} (f : ℕ → ℕ → Option A) (ts : List TagValue) (p : ℕ) (r : code.Option (ℕ × ℕ × ℕ)) (e : r ≡ step_at ts p) where
  module _ (tag v q : ℕ) (g : r ≡ Some (tag, v, q)) where
    pub step-got : (a : A) → f tag v ≡ some a → token f ts p ≡ got a q
    unfolding token
    step-got a h = go (get_elem? ts p) (sym e ∙ g)
      where
        go : (x : Option TagValue) → step_of x p ≡ Some (tag, v, q) → at_token f x p ≡ got a q
        go none i = absurd cc
        go (some t) i =
            let m : ◌≡◌ {A = ℕ × ℕ × ℕ} (t.tag, t.value, p + 1) (tag, v, q) = cc in
            let j : t.tag ≡ tag = ap (λ (y : ℕ × ℕ × ℕ). y.0) m in
            let k : t.value ≡ v = ap (λ (y : ℕ × ℕ × ℕ). y.1) m in
            let l : p + 1 ≡ q = ap (λ (y : ℕ × ℕ × ℕ). y.2) m in
            rw (j, k, h, l)

    pub step-refused : f tag v ≡ none → token f ts p ≡ rejected (Refusal.Token p)
    unfolding token
    step-refused h = go (get_elem? ts p) (sym e ∙ g)
      where
        go : (x : Option TagValue) → step_of x p ≡ Some (tag, v, q) → at_token f x p ≡ rejected (Refusal.Token p)
        go none i = refl
        go (some t) i =
            let m : ◌≡◌ {A = ℕ × ℕ × ℕ} (t.tag, t.value, p + 1) (tag, v, q) = cc in
            let j : t.tag ≡ tag = ap (λ (y : ℕ × ℕ × ℕ). y.0) m in
            let k : t.value ≡ v = ap (λ (y : ℕ × ℕ × ℕ). y.1) m in
            rw (j, k, h)

  pub step_end : r ≡ None → token f ts p ≡ rejected (Refusal.Token p)
  unfolding token
  step_end g = go (get_elem? ts p) (sym e ∙ g)
    where
      go : (x : Option TagValue) → step_of x p ≡ None → at_token f x p ≡ rejected (Refusal.Token p)
      go none i = refl
      go (some t) i = absurd cc

-- what a reading was, by the code's answer
pub next-got : {A : Type 0} (x : Got A) (r : Result ℕ Refusal) (q : ℕ) → r ≡ outcome x → r ≡ Ok q → (a : A) × (x ≡ got a q)
next-got (got a s) r q e g = (a, cc)
next-got (rejected t) r q e g = absurd cc

pub refused : {A : Type 0} (x : Got A) (r : Result ℕ Refusal) (t : Refusal) → r ≡ outcome x → r ≡ Err t → x ≡ rejected t
refused (got a s) r t e g = absurd cc
refused (rejected u) r t e g = cc

pub told-got : {A : Type 0} (x : Got A) (r : Result (A × ℕ) Refusal) (a : A) (q : ℕ) → r ≡ told x → r ≡ Ok (a, q) → x ≡ got a q
told-got {A} (got b s) r a q e g =
    let h : ◌≡◌ {A = A × ℕ} (b, s) (a, q) = cc in
    let i : b ≡ a = ap (λ (y : A × ℕ). y.0) h in
    let j : s ≡ q = ap (λ (y : A × ℕ). y.1) h in
    cc
told-got (rejected t) r a q e g = absurd cc

pub told-refused : {A : Type 0} (x : Got A) (r : Result (A × ℕ) Refusal) (t : Refusal) → r ≡ told x → r ≡ Err t → x ≡ rejected t
told-refused (got a s) r t e g = absurd cc
told-refused (rejected u) r t e g = cc

pub list-got : {A : Type 0} (x : Got (List A)) (r : Result (ℕ × ℕ) Refusal) (n q : ℕ) → r ≡ listed x → r ≡ Ok (n, q) → (l : List A) × (x ≡ got l q) × (length l ≡ n)
list-got (got l s) r n q e g =
    let h : ◌≡◌ {A = ℕ × ℕ} (length l, s) (n, q) = cc in
    let i : s ≡ q = ap (λ (y : ℕ × ℕ). y.1) h in
    (l, cc, ap (λ (y : ℕ × ℕ). y.0) h)
list-got (rejected t) r n q e g = absurd cc

-- what a `?` passes on
pub passes : {A : Type 0} (r w : Result A Refusal) (t : Refusal) → IsErr r × IsErrAnd r (λ y. y ≡ t) → Err t ≡ w → r ≡ w
passes r w t e h = let p = err_from_is_err_and r e.1 in rw (p.1, p.2) h

-- the same, where an option gave nothing
pub none-passes : {A B : Type 0} (o : code.Option A) (u : Refusal) (r w : Result B Refusal) (t : Refusal) → Err t ≡ ok_or o u → o ≡ None → IsErr r × IsErrAnd r (λ y. y ≡ t) → Err u ≡ w → r ≡ w
none-passes {A} o u r w t e n i h =
    let f : ◌≡◌ {A = Result A Refusal} (Err t) (Err u) = rw n at e in
    let g : t ≡ u = cc in
    passes r w t i (ap Err g ∙ h)

-- a first reading that gave something, and the rest; one that was refused; a rest that only wraps what was read
pub then : {A B : Type 0} (x : Got A) (f : A → ℕ → Got B) (a : A) (q : ℕ) (s : Result ℕ Refusal) → x ≡ got a q → s ≡ outcome (f a q) → s ≡ outcome (after x f)
then x f a q s e h = rw e h

pub stop : {A B : Type 0} (x : Got A) (f : A → ℕ → Got B) (t : Refusal) → x ≡ rejected t → Err t ≡ outcome (after x f)
stop x f t e = rw e

pub wrap : {A B : Type 0} (x : Got A) (f : A → B) → outcome x ≡ outcome (after x (λ a q. got (f a) q))
wrap (got a q) f = refl
wrap (rejected t) f = refl

-- the same, by the code's answers
pub going : {A B : Type 0} (x : Got A) (f : A → ℕ → Got B) (r s : Result ℕ Refusal) (q : ℕ) → r ≡ outcome x → r ≡ Ok q → ((a : A) → s ≡ outcome (f a q)) → s ≡ outcome (after x f)
going x f r s q e g h = let n = next-got x r q e g in then x f n.0 q s n.1 (h n.0)

pub stopped : {A B : Type 0} (x : Got A) (f : A → ℕ → Got B) (r : Result ℕ Refusal) (t : Refusal) → r ≡ outcome x → r ≡ Err t → Err t ≡ outcome (after x f)
stopped x f r t e g = stop x f t (refused x r t e g)

pub counting : {B : Type 0} (x : Got ℕ) (f : ℕ → ℕ → Got B) (r : Result (ℕ × ℕ) Refusal) (s : Result ℕ Refusal) (n q : ℕ) → r ≡ told x → r ≡ Ok (n, q) → s ≡ outcome (f n q) → s ≡ outcome (after x f)
counting x f r s n q e g h = then x f n q s (told-got x r n q e g) h

-- a reading in two parts, by the outcomes of both
pub onward-after : {A B : Type 0} (x : Got A) (f : A → ℕ → Got B) (s : ℕ → Result ℕ Refusal) → ((a : A) (q : ℕ) → outcome (f a q) ≡ s q) → outcome (after x f) ≡ onward (outcome x) s
onward-after (got a q) f s h = h a q
onward-after (rejected t) f s h = refl

onward-again : (x : Result ℕ Refusal) (f g : ℕ → Result ℕ Refusal) → onward x (λ q. onward (f q) g) ≡ onward (onward x f) g
onward-again (Ok q) f g = refl
onward-again (Err t) f g = refl

-- so many readings in a row, whose whole outcome is w: none is left; one more; one that is refused
module _ (r : ℕ → Result ℕ Refusal) where
  pub repeated-ends : (k p : ℕ) → k ≤ 0 → repeated k r p ≡ Ok p
  unfolding repeated
  repeated-ends zero p e = refl
  repeated-ends (suc k) p e = absurd (omega arith)

  pub repeated-stops : (k p : ℕ) (t : Refusal) → 0 < k → r p ≡ Err t → repeated k r p ≡ Err t
  unfolding repeated
  repeated-stops zero p t h e = absurd (omega arith)
  repeated-stops (suc k) p t h e = rw e

  repeated_goes : (k p q : ℕ) → 0 < k → r p ≡ Ok q → repeated k r p ≡ repeated (k - 1) r q
  unfolding repeated
  repeated_goes zero p q h e = absurd (omega arith)
  repeated_goes (suc k) p q h e = rw (e, sub-one (suc k))

  pub repeated_on : (n k p q : ℕ) → k < n → r p ≡ Ok q → repeated (n - k) r p ≡ repeated (n - (k + 1)) r q
  repeated_on n k p q h e = let j : n - k - 1 ≡ n - (k + 1) = omega arith in repeated_goes (n - k) p q (omega arith) e ∙ ap (λ (m : ℕ). repeated m r q) j

-- the same of a list's parts, of operands, and of fields
module _ {A : Type 0} (R : Reader A) (ts : List TagValue) where
  pub times-repeated : (k p : ℕ) → outcome (times k R ts p) ≡ repeated k (λ q. outcome (R ts q)) p
  unfolding times repeated
  times-repeated zero p = refl
  times-repeated (suc k) p = onward-after (R ts p) _ _ (λ a q. sym (wrap (times k R ts q) _) ∙ times-repeated k q)

module _ (R : Reader Expr) (ts : List TagValue) where
  pub exprs-repeated : (k p : ℕ) → outcome (exprs k R ts p) ≡ repeated k (λ q. outcome (R ts q)) p
  unfolding exprs repeated
  exprs-repeated zero p = refl
  exprs-repeated (suc k) p = onward-after (R ts p) _ _ (λ a q. sym (wrap (exprs k R ts q) _) ∙ exprs-repeated k q)

  pub fields-repeated : (M k p : ℕ) → outcome (fields M k R ts p) ≡ repeated k (λ q. onward (outcome (name M ts q)) (λ s. outcome (R ts s))) p
  unfolding fields repeated
  fields-repeated M zero p = refl
  fields-repeated M (suc k) p =
      onward-after (name M ts p) _ _ (λ f s. onward-after (R ts s) _ _ (λ a q. sym (wrap (fields M k R ts q) _) ∙ fields-repeated M k q)) ∙ onward-again (outcome (name M ts p)) _ _

-- a reading that gave something: its parts gave something too
pub after-got : {A B : Type 0} (x : Got A) (f : A → ℕ → Got B) (b : B) (q : ℕ) → after x f ≡ got b q → (a : A) × (s : ℕ) × (x ≡ got a s) × (f a s ≡ got b q)
after-got (got a s) f b q e = (a, s, refl, e)
after-got (rejected t) f b q e = absurd cc

pub wrap-got : {A B : Type 0} (x : Got A) (f : A → B) (b : B) (q : ℕ) → after x (λ a s. got (f a) s) ≡ got b q → (a : A) × (x ≡ got a q) × (b ≡ f a)
wrap-got (got a s) f b q e = let i : s ≡ q = cc in let j : b ≡ f a = cc in (a, ap (got a) i, j)
wrap-got (rejected t) f b q e = absurd cc

-- a list has as many items as were asked for
pub times-length : {A : Type 0} (R : Reader A) (ts : List TagValue) (k p : ℕ) (l : List A) (q : ℕ) → times k R ts p ≡ got l q → length l ≡ k
unfolding times
times-length R ts zero p l q g = let e : l ≡ [] = cc in rw e
times-length R ts (suc k) p l q g =
    let m = after-got (R ts p) _ l q g in
    let n = wrap-got (times k R ts m.1) _ l q m.3 in
    rw n.2 (ap suc (times-length R ts k m.1 n.0 q n.1))

-- a type by its first token
module _ (M : ℕ) (ts : List TagValue) (p : ℕ) (r : Result (TypeToken × ℕ) Refusal) (i : r ≡ told (token (type_token_of M) ts p)) where
  pub type-stop : (d : ℕ) (t : Refusal) → r ≡ Err t → Err t ≡ outcome (ty M d ts p)
  unfolding ty limited
  type-stop d t e = go d (told-refused (token (type_token_of M) ts p) r t i e)
    where
      go : (d : ℕ) → token (type_token_of M) ts p ≡ rejected t → Err t ≡ outcome (ty M d ts p)
      go zero e = rw e
      go (suc d) e = rw e

  module _ (d q : ℕ) (h : TypeToken) (e : r ≡ Ok (h, q)) where
    is : (k : TypeToken) → h ≡ k → token (type_token_of M) ts p ≡ got k q
    is k j = told-got (token (type_token_of M) ts p) r k q i (e ∙ ap (λ (y : TypeToken). Ok (y, q)) j)

    pub type-basic : (b : Primitive) → h ≡ TypeToken.Basic b → Ok q ≡ outcome (ty M d ts p)
    unfolding ty limited
    type-basic b j = go d (is (TypeToken.Basic b) j)
      where
        go : (d : ℕ) → token (type_token_of M) ts p ≡ got (TypeToken.Basic b) q → Ok q ≡ outcome (ty M d ts p)
        go zero e = rw e
        go (suc d) e = rw e

    pub type-named : (x : ℕ) → h ≡ TypeToken.Named x → Ok q ≡ outcome (ty M d ts p)
    unfolding ty limited
    type-named x j = go d (is (TypeToken.Named x) j)
      where
        go : (d : ℕ) → token (type_token_of M) ts p ≡ got (TypeToken.Named x) q → Ok q ≡ outcome (ty M d ts p)
        go zero e = rw e
        go (suc d) e = rw e

    module _ (n : ℕ) (j : h ≡ TypeToken.Array n) where
      pub type-deep : d ≡ 0 → Err (Refusal.Limit p) ≡ outcome (ty M d ts p)
      unfolding ty limited
      type-deep z = rw (z, is (TypeToken.Array n) j)

      pub type-long : (d ≡ 0 → ⊥) → 256 < n → Err (Refusal.Limit p) ≡ outcome (ty M d ts p)
      unfolding ty limited
      type-long z l = go d z (is (TypeToken.Array n) j)
        where
          go : (d : ℕ) → (d ≡ 0 → ⊥) → token (type_token_of M) ts p ≡ got (TypeToken.Array n) q → Err (Refusal.Limit p) ≡ outcome (ty M d ts p)
          go zero z e = absurd (z refl)
          go (suc d) z e = rw e (simp (lt-leb n 256 l))

      pub type-array : (s : Result ℕ Refusal) → (d ≡ 0 → ⊥) → n ≤ 256 → s ≡ outcome (ty M (d - 1) ts q) → s ≡ outcome (ty M d ts p)
      unfolding ty limited
      type-array s z l f = go d z (is (TypeToken.Array n) j) f
        where
          go : (d : ℕ) → (d ≡ 0 → ⊥) → token (type_token_of M) ts p ≡ got (TypeToken.Array n) q → s ≡ outcome (ty M (d - 1) ts q) → s ≡ outcome (ty M d ts p)
          go zero z e f = absurd (z refl)
          go (suc d) z e f = rw e (simp (le-leb n 256 l) ((rw (sub-one (suc d)) at f) ∙ wrap (ty M d ts q) _))

-- an expression by its first token
module _ (M : ℕ) (ts : List TagValue) (p : ℕ) where
  pub expr-step : (d q : ℕ) (h : ExprToken) → (d ≡ 0 → ⊥) → token (expr_token_of M) ts p ≡ got h q → expr M d ts p ≡ form M h (expr M (d - 1)) ts q
  unfolding expr
  expr-step zero q h z e = absurd (z refl)
  expr-step (suc d) q h z e = rw (sub-one (suc d), e)

  module _ (r : Result (ExprToken × ℕ) Refusal) (i : r ≡ told (token (expr_token_of M) ts p)) where
    pub expr-stop : (d : ℕ) (t : Refusal) → r ≡ Err t → Err t ≡ outcome (expr M d ts p)
    unfolding expr limited
    expr-stop d t e = go d (told-refused (token (expr_token_of M) ts p) r t i e)
      where
        go : (d : ℕ) → token (expr_token_of M) ts p ≡ rejected t → Err t ≡ outcome (expr M d ts p)
        go zero e = rw e
        go (suc d) e = rw e

    pub expr-deep : (d q : ℕ) (h : ExprToken) → r ≡ Ok (h, q) → d ≡ 0 → Err (Refusal.Limit p) ≡ outcome (expr M d ts p)
    unfolding expr limited
    expr-deep d q h e z = rw (z, told-got (token (expr_token_of M) ts p) r h q i e)
