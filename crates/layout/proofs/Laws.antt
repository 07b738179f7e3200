-- Where the parts of what was read stand, by the code's places and counts.
-- Assumes nothing.
use Rattle.std.specs.Prelude.{Result, Ok, Err}
use Rattle.std.specs.Result.{result_unwrap_or}
use mathlib.Core.Path.{◌≡◌, refl, sym, ◌∙◌, ap, ap₂, subst}
use mathlib.Core.List.{List, [], ◌∷◌}
use mathlib.Core.Bool.{Bool, true, false}
use mathlib.Core.Option.{Option, none, some}
use Prim.Native.Nat.{ℕ, zero, suc, ◌+◌, ◌<◌, ◌≤◌, min}
use native.Mathlib.Omega.{arith}
use lib.Dec.{eqb}
use native.Mathlib.Numerals.{add-one, sub-one}
use lib.ListN.{length, get_or, take, drop, get_elem?}
use lib.Seq.{drop-cons}
use borrow.Author.Tests.{lt-ltb}
use Rattle.definitions.specs.declared.Refusal.{Refusal}
use Rattle.definitions.specs.declared.DefinitionToken.{DefinitionToken}
use Rattle.definitions.specs.declared.NodeKind.{NodeKind}
use Rattle.definitions.specs.Lists.{choose}
use Rattle.definitions.specs.declared.values.UnknownValue.{UnknownValue}
use Rattle.definitions.specs.Tokens.{TagValue, converted, kind_of}
use Rattle.definitions.specs.Tree.{TypeDef, Declared, Expr, Equation, Node, Sheet}
use Rattle.definitions.specs.Bytes.{tokens}
use Rattle.definitions.specs.Reading.{Got, got, Reader, token, times}
use Rattle.definitions.specs.Grammar.{tagged, counted, count, name, kind_at, declaration, declarations, definition, type_def, expr, equation, probe, node, sheet}
use Rattle.grammar.specs.Outcome.{outcome}
use Rattle.grammar.proofs.Laws.{tokens-length, times-length}
use Rattle.grammar.proofs.Parts.{counted-within}
use Rattle.grammar.proofs.Longer.{token-got, counted-grows, tagged-grows, name-grows}
use Rattle.grammar.proofs.Got.{times-nil, times-cons, token-value, tagged-value, counted-value, declaration-got, declarations-got, enum-got, record-got, same, equation-got, node-got, sheet-got}
use Rattle.layout.proofs.TypedefsLaws.{place_at, item}
use Rattle.layout.specs.declared.Span.{Span}
use Rattle.layout.specs.declared.Defined.{Defined}
use Rattle.layout.specs.declared.SheetLayout.{SheetLayout}
use Rattle.layout.specs.Spans.{past_in, kind_or, kind_in, end_of, Spanned, Spans}
use Rattle.layout.specs.Table.{Table, Described}
use Rattle.layout.specs.Laid.{LaidDeclaration, LaidNode, LaidEquation, LaidSheet, Places}

past_is : (n p : ℕ) → p < n → past_in n p ≡ p + 1
past_is n p h = rw (lt-ltb p n h)

-- the kind that a token says
kind-is : (t v : ℕ) (k : NodeKind) → kind_at t v ≡ some k → kind_in v ≡ k
kind-is t v k g = go (eqb t 41) (kind_of v) g
  where
    go : (b : Bool) (o : Option NodeKind) → choose b o none ≡ some k → kind_or o ≡ k
    go false o e = absurd cc
    go true o e = rw e

-- the kind that a value says, as it is found
pub kind-by : (v : ℕ) (r : Result NodeKind UnknownValue) (k : NodeKind) → converted r ≡ kind_of v → k ≡ result_unwrap_or r NodeKind.Function → k ≡ kind_in v
kind-by v (Ok x) k e u = u ∙ ap kind_or e
kind-by v (Err x) k e u = u ∙ ap kind_or e

-- over the two arrays
module _ (ts vs : List ℕ) (same_length : length vs ≡ length ts) where
  -- a list behind its count, as reading it says where it ends
  abbrev pub span_by : {A : Type 0} → Reader A → ℕ → Span
  span_by R p = record { at = past_in (length ts) p; count = get_or vs p 0; end = end_of (outcome (times (get_or vs p 0) R (tokens ts vs) (past_in (length ts) p))) p }

  pub spanned-by : {A : Type 0} (R : Reader A) (p : ℕ) → Spanned R ts vs p (span_by R p)
  spanned-by R p = record { first = refl; counted = refl; ended = λ l q g. ap (λ (x : Got (List _)). end_of (outcome x) p) g }

  -- the same items, by equal told and places
  moved : {A : Type 0} (R : Reader A) (n m p r : ℕ) (l : List A) (q : ℕ) → n ≡ m → p ≡ r → times n R (tokens ts vs) p ≡ got l q → times m R (tokens ts vs) r ≡ got l q
  moved R n m p r l q e f h = rw (← e, ← f) h

  -- a list behind its count
  module _ {A : Type 0} (R : Reader A) (p tag low most n u : ℕ) (l : List A) (q : ℕ) (g : counted tag low most (tokens ts vs) p ≡ got n u) (h : times n R (tokens ts vs) u ≡ got l q) where
    pub span-at : (s : Span) (p' : ℕ) → Spanned R ts vs p' s → p' ≡ p → Spans R (tokens ts vs) l s × (s.end ≡ q)
    span-at s p' e f =
        let w = counted-grows tag low most (tokens ts vs) p n u g in
        let b : p < length ts = omega (arith, w.0, w.1, tokens-length ts vs same_length) in
        let v = counted-value ts vs same_length p tag low most n u b g in
        let c : n ≡ s.count = v.0 ∙ ap (λ (z : ℕ). get_or vs z 0) (sym f) ∙ sym e.counted in
        let k : u ≡ s.at = v.2 ∙ sym (past_is (length ts) p b) ∙ ap (past_in (length ts)) (sym f) ∙ sym e.first in
        let i : times s.count R (tokens ts vs) s.at ≡ got l q = moved R n s.count u s.at l q c k h in
        let z = e.ended l q i in
        (record { items = i ∙ ap (got l) (sym z); many = sym c ∙ sym (times-length R (tokens ts vs) n u l q h) }, z)

  -- a definition's variants or fields
  module _ (M x s : ℕ) (d : TypeDef) (q : ℕ) (v : Span) where
    pub described-enum : definition M (DefinitionToken.Enum x) (tokens ts vs) s ≡ got d q → Spanned (name M) ts vs s v → Described M (tokens ts vs) d q (Defined.Enum x v)
    unfolding Described count
    described-enum g e =
        let a = enum-got M (tokens ts vs) s x d q g in
        let t = span-at (name M) s 3 0 64 a.0 a.1 a.2 q a.3 a.4 v s e refl in
        (a.2, t.0, t.1, a.5)

    pub described-record : definition M (DefinitionToken.Record x) (tokens ts vs) s ≡ got d q → Spanned (declaration M) ts vs s v → Described M (tokens ts vs) d q (Defined.Record x v)
    unfolding Described count
    described-record g e =
        let a = record-got M (tokens ts vs) s x d q g in
        let t = span-at (declaration M) s 3 0 64 a.0 a.1 a.2 q a.3 a.4 v s e refl in
        (a.2, t.0, t.1, a.5)

  at_name : (M p x q : ℕ) → p < length ts → name M (tokens ts vs) p ≡ got x q → (x ≡ get_or vs p 0) × (q ≡ p + 1)
  unfolding name
  at_name M p x q h g = let y = tagged-value ts vs same_length p 4 M x q h g in (y.0, y.3)

  -- names stand in the values as they are
  pub names_stand : (M k p : ℕ) (l : List ℕ) (q : ℕ) → times k (name M) (tokens ts vs) p ≡ got l q → (l ≡ take k (drop p vs)) × (q ≡ p + k)
  names_stand M zero p l q g = let e = times-nil (name M) (tokens ts vs) 0 p l q refl g in (e.0, omega (arith, e.1))
  names_stand M (suc k) p l q g =
      let t = times-cons (name M) (tokens ts vs) (suc k) p l q (λ z. omega arith) g in
      let w = name-grows M (tokens ts vs) p t.0 t.1 t.3 in
      let b : p < length ts = omega (arith, w.0, w.1, tokens-length ts vs same_length) in
      let v = at_name M p t.0 t.1 b t.3 in
      let r = names_stand M k t.1 t.2 q (rw (sub-one (suc k)) at t.4) in
      let f : take k (drop t.1 vs) ≡ take k (drop (suc p) vs) = ap (λ (s : ℕ). take k (drop s vs)) (v.1 ∙ add-one p) in
      let c : p < length vs = omega arith in
      (t.5 ∙ ap (λ (x : ℕ). x ∷ t.2) v.0 ∙ ap (λ (y : List ℕ). get_or vs p 0 ∷ y) (r.0 ∙ f) ∙ ap (take (suc k)) (sym (drop-cons vs p 0 c)), omega (arith, r.1, v.1))

  -- the part of the values that holds them
  pub names-lent : (M k p : ℕ) (l : List ℕ) (q : ℕ) → times k (name M) (tokens ts vs) p ≡ got l q → (from many : ℕ) → many ≡ k → (1 ≤ k → from ≡ p) → take many (drop from vs) ≡ l
  names-lent M zero p l q g from many e f = rw e (sym (names_stand M 0 p l q g).0)
  names-lent M (suc k) p l q g from many e f = rw (e, f (omega arith)) (sym (names_stand M (suc k) p l q g).0)

  -- a name with its type: its type stands behind it
  pub laid-declaration : (M p : ℕ) (d : Declared) (q : ℕ) → declaration M (tokens ts vs) p ≡ got d q → (r : Result ℕ Refusal) → r ≡ outcome (declaration M (tokens ts vs) p) → (end : ℕ) → r ≡ Ok end →
      (x t : ℕ) → x ≡ get_or vs p 0 → t ≡ past_in (length ts) p → LaidDeclaration M (tokens ts vs) p d q (record { name = x; type_at = t; end = end })
  laid-declaration M p d q g r i end e x t j k =
      let b = declaration-got M (tokens ts vs) p d q g in
      let w = name-grows M (tokens ts vs) p b.0 b.1 b.3 in
      let h : p < length ts = omega (arith, w.0, w.1, tokens-length ts vs same_length) in
      let n = at_name M p b.0 b.1 h b.3 in
      let f : b.1 ≡ t = n.1 ∙ sym (past_is (length ts) p h) ∙ sym k in
      record {
        named = j ∙ sym n.0 ∙ sym (ap (λ (y : Declared). y.name) b.5);
        label = b.3 ∙ ap₂ got (sym (ap (λ (y : Declared). y.name) b.5)) f;
        typed = rw (sym f) (b.4 ∙ ap (λ (y : Declared). got y.type q) (sym b.5));
        ends = sym (same (declaration M (tokens ts vs) p) d q r end g i e);
      }

  -- a node's name and kind
  module _ (M : ℕ) (n : Node) (p k q : ℕ) where
    named : tagged 40 M (tokens ts vs) p ≡ got n.name k → (n.name ≡ get_or vs p 0) × (k ≡ past_in (length ts) p)
    named g =
        let w = tagged-grows 40 M (tokens ts vs) p n.name k g in
        let b : p < length ts = omega (arith, w.0, w.1, tokens-length ts vs same_length) in
        let v = tagged-value ts vs same_length p 40 M n.name k b g in
        (v.0, v.3 ∙ sym (past_is (length ts) p b))

    kinded : token kind_at (tokens ts vs) k ≡ got n.kind q → (kind_in (get_or vs k 0) ≡ n.kind) × (q ≡ past_in (length ts) k)
    kinded g =
        let w = token-got kind_at (tokens ts vs) k n.kind q g in
        let b : k < length ts = omega (arith, w.1, tokens-length ts vs same_length) in
        let v = token-value ts vs same_length k kind_at n.kind q b g in
        (kind-is (get_or ts k 0) (get_or vs k 0) n.kind v.0, v.1 ∙ sym (past_is (length ts) k b))

  module _ (M : ℕ) where
    declared-at : (most p : ℕ) (l : List Declared) (q : ℕ) → declarations M most (tokens ts vs) p ≡ got l q → (s : Span) (p' : ℕ) → Spanned (declaration M) ts vs p' s → p' ≡ p → Spans (declaration M) (tokens ts vs) l s × (s.end ≡ q)
    unfolding count
    declared-at most p l q g s p' e f =
        let d = declarations-got M (tokens ts vs) p most l q g in
        span-at (declaration M) p 3 0 most d.0 d.1 l q d.2 d.3 s p' e f

    -- the places and told that the code finds are those of the node that was read
    pub laid : (p a b : ℕ) → a ≡ past_in (length ts) p → b ≡ past_in (length ts) a →
        (i o l k r : Span) → Spanned (declaration M) ts vs b i → Spanned (declaration M) ts vs i.end o → Spanned (declaration M) ts vs o.end l →
        Spanned (equation M) ts vs l.end k → Spanned (probe M) ts vs k.end r →
        (x y : ℕ) (d : NodeKind) → x ≡ get_or vs p 0 → y ≡ get_or vs a 0 → d ≡ kind_in y →
        (n : Node) (q : ℕ) → node M (tokens ts vs) p ≡ got n q →
        LaidNode M (tokens ts vs) n q (record { name = x; kind = d; inputs = i; outputs = o; locals = l; equations = k; probes = r; end = r.end })
    unfolding count
    laid p a b ea eb i o l k r ei eo el ek er x y d ex ey ed n q g =
        let t = node-got M (tokens ts vs) p n q g in
        let na = named M n p t.kind_at' t.inputs_at t.named in
        let fa : t.kind_at' ≡ a = na.1 ∙ sym ea in
        let ki = kinded M n p t.kind_at' t.inputs_at t.kinded in
        let fb : b ≡ t.inputs_at = eb ∙ ap (past_in (length ts)) (sym fa) ∙ sym ki.1 in
        let si = declared-at 128 t.inputs_at n.inputs t.outputs_at t.inputs i b ei fb in
        let so = declared-at _ t.outputs_at n.outputs t.locals_at t.outputs o i.end eo si.1 in
        let sl = declared-at _ t.locals_at n.locals t.count_at t.locals l o.end el so.1 in
        let sk = span-at (equation M) t.count_at 3 0 64 t.equation_count t.equations_at n.equations t.probe_count_at t.counted-equations t.equations k l.end ek sl.1 in
        let sr = span-at (probe M) t.probe_count_at 3 0 64 t.probe_count t.probes_at n.probes q t.counted-probes t.probes r k.end er sk.1 in
        record {
          named = ex ∙ sym na.0;
          kinded = ed ∙ ap kind_in (ey ∙ ap (λ (z : ℕ). get_or vs z 0) (sym fa)) ∙ ki.0;
          inputs = si.0;
          outputs = so.0;
          locals = sl.0;
          equations = sk.0;
          probes = sr.0;
          ends = sr.1;
        }

    pub laid-equation : (p : ℕ) (l : Span) → Spanned (name M) ts vs p l → (z : ℕ) → ((e : Expr) (q : ℕ) → expr M 32 (tokens ts vs) l.end ≡ got e q → z ≡ q) →
        (e : Equation) (q : ℕ) → equation M (tokens ts vs) p ≡ got e q → LaidEquation M (tokens ts vs) e q l z
    laid-equation p l el z ez e q g =
        let t = equation-got M (tokens ts vs) p e q g in
        let s = span-at (name M) p 3 1 8 t.0 t.1 t.2 t.3 t.5 t.6 l p el refl in
        let fl : t.2 ≡ e.left = sym (ap (λ (y : Equation). y.left) t.8) in
        let fr : t.4 ≡ e.right = sym (ap (λ (y : Equation). y.right) t.8) in
        let x : expr M 32 (tokens ts vs) l.end ≡ got e.right q = ap (expr M 32 (tokens ts vs)) s.1 ∙ t.7 ∙ ap (λ (y : Expr). got y q) fr in
        record { left = subst (λ (y : List ℕ). Spans (name M) (tokens ts vs) y l) fl s.0; right = x; ends = ez e.right q x }

    pub laid-sheet : (t : Span) → Spanned (type_def M) ts vs 0 t → (a c : ℕ) → a ≡ past_in (length ts) t.end → c ≡ get_or vs t.end 0 →
        (s : Sheet) (q : ℕ) → sheet M (tokens ts vs) 0 ≡ got s q → LaidSheet M (tokens ts vs) s (record { types = t; nodes = record { at = a; count = c; end = length ts } })
    laid-sheet t et a c ea ec s q g =
        let x = sheet-got M (tokens ts vs) 0 s q g in
        let st = span-at (type_def M) 0 1 0 32 x.0 x.1 s.types x.2 x.5 x.6 t 0 et refl in
        let w = counted-grows 2 0 16 (tokens ts vs) x.2 x.3 x.4 x.7 in
        let b : x.2 < length ts = omega (arith, w.0, w.1, tokens-length ts vs same_length) in
        let v = counted-value ts vs same_length x.2 2 0 16 x.3 x.4 b x.7 in
        let fc : x.3 ≡ c = v.0 ∙ ap (λ (z : ℕ). get_or vs z 0) (sym st.1) ∙ sym ec in
        let fa : x.4 ≡ a = v.2 ∙ sym (past_is (length ts) x.2 b) ∙ ap (past_in (length ts)) (sym st.1) ∙ sym ea in
        let i = moved (node M) x.3 c x.4 a s.nodes q fc fa x.8 in
        let h = times-length (type_def M) (tokens ts vs) x.0 x.1 s.types x.2 x.6 in
        let j = times-length (node M) (tokens ts vs) x.3 x.4 s.nodes q x.8 in
        let k = counted-within 1 0 32 (tokens ts vs) 0 x.0 x.1 x.5 in
        let d = counted-within 2 0 16 (tokens ts vs) x.2 x.3 x.4 x.7 in
        record {
          types = st.0;
          nodes = record { items = i ∙ ap (got s.nodes) (x.9 ∙ tokens-length ts vs same_length); many = sym fc ∙ sym j };
          few-types = omega (arith, h, k.1, st.0.many);
          few-nodes = omega (arith, d.1, fc);
          whole = sym (tokens-length ts vs same_length);
        }

-- what stands past the last node
abbrev pub nowhere : Node
nowhere = record { name = 0; kind = NodeKind.Function; inputs = []; outputs = []; locals = []; equations = []; probes = [] }

-- an item of a list, and that it is one
pub item-at : {A : Type 0} (l : List A) (i : ℕ) (a : A) → get_elem? l i ≡ some a → (get_or l i a ≡ a) × (i < length l)
item-at [] i a e = absurd cc
item-at (b ∷ l) zero a e = (cc, omega arith)
item-at (b ∷ l) (suc i) a e = let r = item-at l i a e in (r.0, omega (arith, r.1))

-- a table that is filled
pub places : {A : Type 0} (R : Reader A) (ts : List TagValue) (ps : List ℕ) (n p : ℕ) (l : List A) (q : ℕ) → ((k : ℕ) → k < n → get_or ps k 0 ≡ place_at R ts p k) → times n R ts p ≡ got l q → Places R ts ps l
places R ts ps n p l q filled g = record {
  stands = λ i a e.
      let x = item-at l i a e in
      let h : i < n = omega (arith, x.1, times-length R ts n p l q g) in
      let y = item R ts n i p l q a g h in
      (y.0, ap (R ts) (filled i h) ∙ y.1 ∙ ap (λ (b : _). got b y.0) x.0);
}

-- the parts of a sheet, as many as its layout says within their limit, stand where their places say
as-many : {A : Type 0} (R : Reader A) (ts : List TagValue) (n count at q : ℕ) (l : List A) → n ≡ count → times count R ts at ≡ got l q → times n R ts at ≡ got l q
as-many R ts n count at q l e g = rw e g

module _ (M : ℕ) (ts : List TagValue) (s : Sheet) (l : SheetLayout) (h : LaidSheet M ts s l) (n k : ℕ) (ps : List ℕ) where
  pub types-placed : n ≡ min 32 l.types.count → k ≡ n → ((types : List TypeDef) (q : ℕ) → times n (type_def M) ts l.types.at ≡ got types q → Table M ts ps n types) → Table M ts ps k s.types
  types-placed a b f =
      let few = h.few-types in
      subst (λ (m : ℕ). Table M ts ps m s.types) (sym b) (f s.types l.types.end (as-many (type_def M) ts n l.types.count l.types.at l.types.end s.types (omega arith) h.types.items))

  pub nodes-placed : n ≡ min 16 l.nodes.count → k ≡ n → ((nodes : List Node) (q : ℕ) → times n (node M) ts l.nodes.at ≡ got nodes q → Places (node M) ts ps nodes) → (length s.nodes ≡ k) × Places (node M) ts ps s.nodes
  nodes-placed a b f =
      let few = h.few-nodes in
      (omega (arith, a, b, h.nodes.many, few), f s.nodes l.nodes.end (as-many (node M) ts n l.nodes.count l.nodes.at l.nodes.end s.nodes (omega arith) h.nodes.items))
