-- Laws of types and holds.
-- Assumes nothing.
use Rattle.definitions.specs.declared.Refusal.{Refusal}
use Rattle.std.specs.Prelude.{Result, Ok}
use mathlib.Core.Path.{◌≡◌, refl, sym, ◌∙◌, ap, subst}
use mathlib.Core.List.{List, [], ◌∷◌, ◌++◌, map}
use mathlib.Core.Option.{Option, some}
use Prim.Native.Nat.{ℕ, suc, ◌+◌, ◌≤◌, ◌<◌}
use native.Mathlib.Omega.{arith}
use native.Mathlib.Numerals.{add-one}
use lib.ListN.{length, take, get_or}
use lib.Seq.{get_or-take}
use Rattle.definitions.specs.declared.Primitive.{Primitive}
use Rattle.definitions.specs.declared.TypeToken.{TypeToken}
use Rattle.definitions.specs.declared.ExprToken.{ExprToken}
use Rattle.definitions.specs.declared.Token.{Token}
use Rattle.definitions.specs.Tokens.{TagValue, code_of, type_token_of}
use Rattle.definitions.specs.Bytes.{tokens}
use Rattle.definitions.specs.Tree.{Ty, Declared, Expr}
use Rattle.definitions.specs.Reading.{got, token}
use Rattle.definitions.specs.Grammar.{ty}
use Rattle.definitions.specs.Declock.{Hold, declared, operand_type, if_of}
use Rattle.definitions.specs.Output.{t, ty_tokens, declared_tokens, form_tokens, expr_tokens, equation_tokens}
use Rattle.grammar.specs.Outcome.{told}
use Rattle.grammar.proofs.Laws.{tokens-length, told-got}
use Rattle.grammar.proofs.Longer.{token-got}
use Rattle.grammar.proofs.Got.{type-got}
use Rattle.operands.specs.Spread.{tree}
use Rattle.typing.specs.declared.TypeFound.{TypeFound}
use Rattle.std.specs.declared.option.Option as code
use Rattle.std.specs.declared.option.Option.TheVariants.{None, Some}
use Rattle.typing.specs.Found.{IsFound, Declares}
use Rattle.emit.specs.declared.output.Output.{Output}
use Rattle.emit.specs.Out.{emits}
use Rattle.emit.proofs.Laws.{emits-append, emits_none, emits-codes}
use Rattle.emit.proofs.NodePartsLaws.{after}
use Rattle.planned.specs.declared.HeldOperand.{HeldOperand}
use Rattle.planned.specs.declared.WriteInput.{WriteInput}
use Rattle.planned.specs.Writes.{Writer, Writes}
use Rattle.planned.specs.Opening.{WritesIn, WriterStands, WrittenAs}
use Rattle.planned.specs.Held.{hold_at, HeldAt, HeldFrom}
use Rattle.stateless.specs.Yield.{Ids}
use Rattle.planned.specs.Shown.{hold_tokens, hold_declarations, hold_equations}

-- types
module _ (o o₁ : Output) (h : TypeToken) (e : o₁ ≡ emits o (t h ∷ [])) (a : Ty) where
  pub wrote-basic : (b : Primitive) → h ≡ TypeToken.Basic b → a ≡ Ty.primitive b → o₁ ≡ emits o (ty_tokens a)
  unfolding ty_tokens
  wrote-basic b i j = e ∙ rw (i, j)

  pub wrote-named : (x : ℕ) → h ≡ TypeToken.Named x → a ≡ Ty.named x → o₁ ≡ emits o (ty_tokens a)
  unfolding ty_tokens
  wrote-named x i j = e ∙ rw (i, j)

  pub wrote-array : (n : ℕ) (b : Ty) (o₂ : Output) → h ≡ TypeToken.Array n → a ≡ Ty.array n b → o₂ ≡ emits o₁ (ty_tokens b) → o₂ ≡ emits o (ty_tokens a)
  unfolding ty_tokens
  wrote-array n b o₂ i j f = after o o₁ o₂ (t h ∷ []) (ty_tokens b) e f ∙ rw (i, j)

-- a type that was found
module _ (M : ℕ) (ts : List TagValue) (a : Ty) (f : code.Option TypeFound) (g : IsFound M ts (some a) f) where
  pub found_at : (p : ℕ) → f ≡ Some (TypeFound.At p) → (d : ℕ) × (q : ℕ) × (ty M d ts p ≡ got a q)
  unfolding IsFound
  found_at p i = rw i at g

  pub found-basic : (b : Primitive) → f ≡ Some (TypeFound.Basic b) → a ≡ Ty.primitive b
  unfolding IsFound
  found-basic b i = rw i at g

  pub found_none : f ≡ None → ⊥
  unfolding IsFound
  found_none i = rw i at g

-- an element stands behind its array's token
pub array-past : (M : ℕ) (ts : List TagValue) (p : ℕ) (r : Result (TypeToken × ℕ) Refusal) → r ≡ told (token (type_token_of M) ts p) → (d : ℕ) (a : Ty) (q : ℕ) → ty M d ts p ≡ got a q → (h : TypeToken) (s : ℕ) → r ≡ Ok (h, s) → s ≤ p → ⊥
array-past M ts p r i d a q g h s e l =
    let k = type-got M ts p d a q g in
    let f = told-got (token (type_token_of M) ts p) r h s i e in
    let v : p + 1 ≡ s = cc in
    omega arith

-- where a type's token stands, there are tokens left
pub type-there : (M : ℕ) (gs vs : List ℕ) → length vs ≡ length gs → (p : ℕ) (r : Result (TypeToken × ℕ) Refusal) → r ≡ told (token (type_token_of M) (tokens gs vs) p) → (h : TypeToken) (s : ℕ) → r ≡ Ok (h, s) → p < length gs
type-there M gs vs same p r i h s e = omega (arith, (token-got (type_token_of M) (tokens gs vs) p h s (told-got (token (type_token_of M) (tokens gs vs) p) r h s i e)).1, tokens-length gs vs same)

pub declaration-written : (x : ℕ) (a : Ty) (o o₁ o₂ : Output) → o₁ ≡ emits o (Token.Name x ∷ []) → o₂ ≡ emits o₁ (ty_tokens a) → o₂ ≡ emits o (declared_tokens (record { name = x; type = a }))
unfolding declared_tokens
declaration-written x a o o₁ o₂ e f = after o o₁ o₂ (Token.Name x ∷ []) (ty_tokens a) e f

pub found_as : (M : ℕ) (ts : List TagValue) (o : Option Ty) (a : Ty) (f : code.Option TypeFound) → o ≡ some a → IsFound M ts o f → IsFound M ts (some a) f
found_as M ts o a f h g = rw h at g

same_word : (a b : List ℕ) (i j : ℕ) → a ≡ b → i ≡ j → get_or b i 0 ≡ get_or a j 0
same_word a b i j e f = rw (e, f)

-- the tokens of a hold's equation
equation-is : (x flag : ℕ) (r : Expr) → (hold_tokens x flag ++ expr_tokens r) ++ (Token.Expression ExprToken.Pre ∷ Token.Expression (ExprToken.Var x) ∷ []) ≡ equation_tokens (record { left = x ∷ []; right = if_of (Expr.var flag) r (Expr.pre (Expr.var x)) })
unfolding equation_tokens expr_tokens form_tokens
equation-is x flag r = refl

same-equation : (x y z flag f : ℕ) (r right : Expr) → x ≡ y → x ≡ z → flag ≡ f → right ≡ if_of (Expr.var f) r (Expr.pre (Expr.var z)) →
    equation_tokens (record { left = x ∷ []; right = if_of (Expr.var flag) r (Expr.pre (Expr.var x)) }) ≡ equation_tokens (record { left = y ∷ []; right = right })
same-equation x y z flag f r right i j k e = rw (e, sym i, sym j, sym k)

-- ---- one hold
module _ (M : ℕ) (gs vs : List ℕ) (W : Writer) (plan : List ℕ) (holds : List HeldOperand) where
  -- its declaration, by the type of its operand
  pub declared-hold : (types : List ℕ) (j x at : ℕ) (h : Hold) (o o₁ : Output) → HeldAt M gs vs W plan holds j h → Declares M (tokens gs vs) types (declared W.node) → at ≡ (hold_at holds j).at →
      ((e : Expr) (q : ℕ) (ds : List Declared) (a : Ty) → tree M (tokens gs vs) at ≡ got e q → Declares M (tokens gs vs) types ds → operand_type ds e ≡ some a → o₁ ≡ emits o (declared_tokens (record { name = x; type = a }))) →
      (id : ℕ) → id ≡ x → o₁ ≡ emits o (declared_tokens (record { name = id; type = h.type }))
  declared-hold types j x at h o o₁ s d i f id e =
      f s.operand s.end (declared W.node) h.type (ap (λ (p : ℕ). tree M (tokens gs vs) p) i ∙ s.stands) d s.typed ∙ rw e

-- its equation, by its operand and its flag
module _ (w : WriteInput) (W : Writer) where
  abbrev holds : List HeldOperand
  holds = w.holds.now

  pub equated-hold : (j x row flag at : ℕ) (h : Hold) (o o₁ o₂ o₃ : Output) (end : ℕ) → WriterStands w W → HeldAt w.index.now.source.names w.index.now.source.tags.now w.index.now.source.values.now W w.plan.now holds j h →
      x ≡ get_or w.ids.holds.now j 0 → row ≡ (hold_at holds j).row → flag ≡ get_or w.ids.flags.now row 0 → at ≡ (hold_at holds j).at →
      o₁ ≡ emits o (hold_tokens x flag) → WrittenAs w W at 1 o₁ o₂ end → o₃ ≡ emits o₂ (Token.Expression ExprToken.Pre ∷ Token.Expression (ExprToken.Var x) ∷ []) →
      o₃ ≡ emits o (equation_tokens (record { left = get_or w.ids.holds.now j 0 ∷ []; right = h.right }))
  equated-hold j x row flag at h o o₁ o₂ o₃ end g s i l m n a b c =
      let v = subst (λ (p : ℕ). WritesIn w W p 1 s.end (map code_of (expr_tokens s.rewritten))) (sym n) s.written in
      let d = (b.same s.end (map code_of (expr_tokens s.rewritten)) v).0 ∙ emits-codes o₁ (map code_of (expr_tokens s.rewritten)) (expr_tokens s.rewritten) refl in
      after o o₂ o₃ (hold_tokens x flag ++ expr_tokens s.rewritten) (Token.Expression ExprToken.Pre ∷ Token.Expression (ExprToken.Var x) ∷ []) (after o o₁ o₂ (hold_tokens x flag) (expr_tokens s.rewritten) a d) c
      ∙ ap (emits o) (equation-is x flag s.rewritten
      ∙ same-equation x (get_or w.ids.holds.now j 0) (get_or W.hold_ids j 0) flag (get_or W.flag_ids (hold_at holds j).row 0) s.rewritten h.right i (i ∙ same_word W.hold_ids w.ids.holds.now j j g.holds refl) (m ∙ same_word W.flag_ids w.ids.flags.now row (hold_at holds j).row g.flags l) s.right)

-- ---- holds one after another
module _ (M : ℕ) (gs vs : List ℕ) (W : Writer) (plan : List ℕ) (holds : List HeldOperand) (told : ℕ → List Hold → List Token) where
  -- the holds from number j on are left
  pub record Left (whole o : Output) (count j : ℕ) : Type 0 where
    pub rest : List Hold
    pub held : HeldFrom M gs vs W plan holds j rest
    pub many : j + length rest ≡ count
    pub same : whole ≡ emits o (told j rest)

  pub left-all : (hs : List Hold) (o : Output) (count : ℕ) → length hs ≡ count → HeldFrom M gs vs W plan holds 0 hs → Left (emits o (told 0 hs)) o count 0
  left-all hs o count e h = record { rest = hs; held = h; many = omega arith; same = refl }

  pub left-none : ((j : ℕ) → told j [] ≡ []) → (whole o : Output) (count j : ℕ) → count ≤ j → Left whole o count j → o ≡ whole
  left-none nil whole o count j l d = go d.rest d.many d.same
    where
      go : (hs : List Hold) → j + length hs ≡ count → whole ≡ emits o (told j hs) → o ≡ whole
      go [] m s = sym (s ∙ (ap (emits o) (nil j) ∙ emits_none o))
      go (h ∷ hs) m s = absurd (omega arith)

  pub left-more : (item : ℕ → Hold → List Token) → ((j : ℕ) (h : Hold) (hs : List Hold) → told j (h ∷ hs) ≡ item j h ++ told (suc j) hs) → (whole o o₁ : Output) (count j : ℕ) → j < count → Left whole o count j →
      ((h : Hold) → HeldAt M gs vs W plan holds j h → o₁ ≡ emits o (item j h)) → Left whole o₁ count (j + 1)
  unfolding HeldFrom
  left-more item cons whole o o₁ count j l d f = go d.rest d.held d.many d.same
    where
      go : (hs : List Hold) → HeldFrom M gs vs W plan holds j hs → j + length hs ≡ count → whole ≡ emits o (told j hs) → Left whole o₁ count (j + 1)
      go [] s m e = absurd (omega arith)
      go (h ∷ hs) s m e =
          let n : Left whole o₁ count (suc j) =
          record {
            rest = hs;
            held = s.1;
            many = omega arith;
            same = e ∙ (ap (emits o) (cons j h hs) ∙ (sym (emits-append o (item j h) (told (suc j) hs)) ∙ ap (λ (z : Output). emits z (told (suc j) hs)) (sym (f h s.0))));
          } in
          subst (λ (i : ℕ). Left whole o₁ count i) (sym (add-one j)) n

-- one more declaration, one more equation
module _ (M : ℕ) (gs vs : List ℕ) (W : Writer) (plan : List ℕ) (holds : List HeldOperand) (ids : Ids) where
  pub declarations-none : (whole o : Output) (count j : ℕ) → count ≤ j → Left M gs vs W plan holds (hold_declarations ids) whole o count j → o ≡ whole
  declarations-none = left-none M gs vs W plan holds (hold_declarations ids) (λ j. refl)

  pub declarations-more : (whole o o₁ : Output) (count j : ℕ) → j < count → Left M gs vs W plan holds (hold_declarations ids) whole o count j →
      ((h : Hold) → HeldAt M gs vs W plan holds j h → o₁ ≡ emits o (declared_tokens (record { name = ids.hold j; type = h.type }))) → Left M gs vs W plan holds (hold_declarations ids) whole o₁ count (j + 1)
  declarations-more = left-more M gs vs W plan holds (hold_declarations ids) (λ j h. declared_tokens (record { name = ids.hold j; type = h.type })) (λ j h hs. refl)

  pub equations-none : (whole o : Output) (count j : ℕ) → count ≤ j → Left M gs vs W plan holds (hold_equations ids) whole o count j → o ≡ whole
  equations-none = left-none M gs vs W plan holds (hold_equations ids) (λ j. refl)

  pub equations-more : (hold_ids : List ℕ) → ((j : ℕ) → ids.hold j ≡ get_or hold_ids j 0) → (whole o o₁ : Output) (count j : ℕ) → j < count → Left M gs vs W plan holds (hold_equations ids) whole o count j →
      ((h : Hold) → HeldAt M gs vs W plan holds j h → o₁ ≡ emits o (equation_tokens (record { left = get_or hold_ids j 0 ∷ []; right = h.right }))) → Left M gs vs W plan holds (hold_equations ids) whole o₁ count (j + 1)
  equations-more hold_ids i whole o o₁ count j l d f =
      left-more M gs vs W plan holds (hold_equations ids) (λ j h. equation_tokens (record { left = ids.hold j ∷ []; right = h.right })) (λ j h hs. refl) whole o o₁ count j l d
      (λ h s. f h s ∙ ap (λ (x : ℕ). emits o (equation_tokens (record { left = x ∷ []; right = h.right }))) (sym (i j)))

-- ---- a table that is cut behind the holds of a plan has them
module _ (M : ℕ) (gs vs : List ℕ) (W : Writer) (plan : List ℕ) (holds : List HeldOperand) (n : ℕ) where
  hold-cut : (j : ℕ) (h : Hold) → j < n → HeldAt M gs vs W plan holds j h → HeldAt M gs vs W plan (take n holds) j h
  hold-cut j h f s =
      let e : hold_at (take n holds) j ≡ hold_at holds j = get_or-take n holds j _ f in
      record {
        operand = s.operand;
        rewritten = s.rewritten;
        end = s.end;
        stands = ap (λ (x : HeldOperand). tree M (tokens gs vs) x.at) e ∙ s.stands;
        typed = s.typed;
        right = s.right ∙ ap (λ (x : HeldOperand). if_of (Expr.var (get_or W.flag_ids x.row 0)) s.rewritten (Expr.pre (Expr.var (get_or W.hold_ids j 0)))) (sym e);
        written = subst (λ (x : HeldOperand). Writes gs vs W plan x.at 1 s.end (map code_of (expr_tokens s.rewritten))) (sym e) s.written;
      }

  pub holds-cut : (j : ℕ) (hs : List Hold) → j + length hs ≤ n → HeldFrom M gs vs W plan holds j hs → HeldFrom M gs vs W plan (take n holds) j hs
  unfolding HeldFrom
  holds-cut j [] f s = tt
  holds-cut j (h ∷ hs) f s = (hold-cut j h (omega arith) s.0, holds-cut (suc j) hs (omega arith) s.1)
