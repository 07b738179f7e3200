-- Laws of plans: parts one after another, and a token before its parts.
-- Assumes nothing.
use mathlib.Core.Path.{◌≡◌, refl, sym, ◌∙◌, ap, subst}
use mathlib.Core.Bool.{Bool, true, false, false≢true}
use mathlib.Core.List.{List, [], ◌∷◌, ◌++◌, map, append_assoc, append-nil}
use mathlib.Core.Logic.{inl}
use mathlib.Core.Option.{Option, none, some}
use Prim.Native.Nat.{ℕ, zero, suc, ◌+◌, ◌-◌, ◌*◌, ◌≤◌, ◌<◌}
use native.Mathlib.Omega.{arith}
use lib.ListN.{length, get_or}
use Rattle.definitions.specs.Bytes.{tokens}
use Rattle.definitions.specs.Lists.{choose, join}
use Rattle.definitions.specs.Tokens.{TagValue, tag_value, code_of}
use Rattle.definitions.specs.Tree.{Ty, Declared, Expr}
use Rattle.definitions.specs.Reading.{got}
use Rattle.definitions.specs.Clock.{Clock, is_base}
use Rattle.definitions.specs.Declock.{Hold, clock_place, add_with_parents, operator_outputs, declared, operand_type, if_of}
use Rattle.definitions.specs.Output.{expr_tokens, operand_tokens}
use Rattle.shapes.proofs.Added.{has-add, has-parents}
use Rattle.layout.specs.Owed.{follows, Owed}
use Rattle.operands.specs.Spread.{tree}
use Rattle.defaults.specs.Has.{is_some}
use Rattle.stateless.specs.Need.{Turn, Needs, pre_turn, arrow_turn, call_turn, settled}
use Rattle.stateless.specs.Leads.{Leads}
use Rattle.stateless.specs.Yield.{Ids, output_trees, gate_of}
use Rattle.stateless.specs.Faults.{outputs_fault, gate_fault}
use Rattle.stateless.specs.Locals.{ids_in}
use Rattle.skeleton.specs.Lies.{code_at, parts_at}
use Rattle.planned.specs.declared.Plan.{Plan}
use Rattle.planned.proofs.Arms.{arm-hold, arm-first, arm-gate, arm-when, arm-when-not, arm-merge, arm-other}
use Rattle.planned.proofs.Laws.{change}
use Rattle.planned.specs.Writes.{Writer, plan_of, named, gate_codes, default_codes, Writes}
use Rattle.planned.specs.declared.HeldOperand.{HeldOperand}
use Rattle.planned.specs.Held.{hold_at, HeldAt, HeldFrom}
use Rattle.plan.specs.Planned.{Whole, Agrees, Kept, Ground, writer, Says, no_hold}
use Rattle.plan.specs.Closed.{arrow_word, pre_word, call_word, Beside}
use Rattle.stateless.proofs.Growth.{leads-trans, leads-settled}
use Rattle.plan.proofs.Growth.{arrow-holds, call-holds}

-- ---- tags whose tokens stay whatever their word
pub Stays : ℕ → Type 0
Stays t = (flags firsts holds : List ℕ) (v w : ℕ) → plan_of flags firsts holds t v w ≡ Plan.Stay

pub stays-but : (t : ℕ) → (t ≡ 58 → ⊥) → (t ≡ 59 → ⊥) → (t ≡ 60 → ⊥) → (t ≡ 67 → ⊥) → (t ≡ 68 → ⊥) → (t ≡ 69 → ⊥) → Stays t
unfolding Stays
stays-but t a b g c d e flags firsts holds v w = sym (arm-other flags firsts holds t v w c d e a b g)

-- what a `->` on this clock is written as, before what its operands are; ids say the first-tick flag
abbrev pub arrow_codes : Clock → Ids → List TagValue → List TagValue
arrow_codes c ids l = choose (is_base c) (tag_value 59 0 ∷ l) (named 57 (ids.first c) l)

-- a `pre`, n holds being there before
abbrev pub pre_codes : Clock → Bool → ℕ → Ids → List TagValue → List TagValue
pre_codes c bare n ids l = choose (is_base c) (tag_value 58 0 ∷ l) (choose bare (tag_value 58 0 ∷ l) (named 58 (ids.hold n) []))

-- a call, gated if it is of an operator with these outputs
abbrev pub call_codes : (List Declared → List TagValue) → Option (List Declared) → Clock → ℕ → Ids → List TagValue → List TagValue
call_codes d none c f ids l = tag_value 60 f ∷ l
call_codes d (some os) c f ids l = gate_codes ids.condact (length os + 2) (ids.flag c) (tag_value 60 f ∷ (l ++ d os))

-- the defaults of outputs
abbrev pub defaults_in : Ground → List Declared → List TagValue
defaults_in G os = map code_of (join (operand_tokens (output_trees G.types G.nodes G.node os)))

-- the holds of a `pre`
abbrev pub pre_holds : Clock → Bool → Hold → List Hold → List Hold
pre_holds c bare h hs = choose (is_base c) hs (choose bare hs (hs ++ (h ∷ [])))

-- ---- holds one after another
module _ (M : ℕ) (gs vs : List ℕ) (W : Writer) (plan : List ℕ) (holds : List HeldOperand) where
  pub held-append : (hs ks : List Hold) (j m : ℕ) → j + length hs ≡ m → HeldFrom M gs vs W plan holds j hs → HeldFrom M gs vs W plan holds m ks → HeldFrom M gs vs W plan holds j (hs ++ ks)
  unfolding HeldFrom
  held-append [] ks j m i a b = subst (λ (n : ℕ). HeldFrom M gs vs W plan holds n ks) (omega arith) b
  held-append (h ∷ hs) ks j m i a b = (a.0, held-append hs ks (suc j) m (omega arith) a.1 b)

  held_one : (j : ℕ) (h : Hold) → HeldAt M gs vs W plan holds j h → HeldFrom M gs vs W plan holds j (h ∷ [])
  unfolding HeldFrom
  held_one j h a = (a, tt)

module _ (G : Ground) where
  retold : {W : Writer} {plan : List ℕ} {p k q : ℕ} {l m : List TagValue} → l ≡ m → Writes G.tags G.values W plan p k q l → Writes G.tags G.values W plan p k q m
  retold {W} {plan} {p} {k} {q} {l} {m} e h = subst (λ (n : List TagValue). Writes G.tags G.values W plan p k q n) e h

  -- nothing
  pub says_none : (plan : List ℕ) (holds : List HeldOperand) (y : Needs) (p j : ℕ) → Says G plan holds y p 0 p (λ ids. []) j (λ ids. [])
  unfolding HeldFrom
  says_none plan holds y p j = record { say = λ w x F f H W A plan' agree k s m h. change (omega arith) h; hold = λ w x F f H W A plan' holds' agree kept. tt }

  -- the same tokens and holds
  pub says-as : (plan : List ℕ) (holds : List HeldOperand) (y : Needs) (p n q : ℕ) (t u : Ids → List TagValue) (j : ℕ) (hs ks : Ids → List Hold) → ((ids : Ids) → t ids ≡ u ids) → ((ids : Ids) → hs ids ≡ ks ids) → Says G plan holds y p n q t j hs → Says G plan holds y p n q u j ks
  says-as plan holds y p n q t u j hs ks e i S =
      record {
        say = λ w x F f H W A plan' agree k s m h. retold (ap (λ (l : List TagValue). l ++ m) (e (ids_in w.flags w.firsts F f H x))) (S.say w x F f H W A plan' agree k s m h);
        hold = λ w x F f H W A plan' holds' agree kept. subst (λ (l : List Hold). HeldFrom G.names G.tags G.values (writer G x F f H) plan' holds' j l) (i (ids_in w.flags w.firsts F f H x)) (S.hold w x F f H W A plan' holds' agree kept);
      }

  -- some parts, then others
  pub says_then : (plan plan' : List ℕ) (holds holds' : List HeldOperand) (y z : Needs) (p a r b q : ℕ) (t u : Ids → List TagValue) (j : ℕ) (hs ks : Ids → List Hold) → ((ids : Ids) → j + length (hs ids) ≡ y.holds) → Says G plan holds y p a r t j hs → Says G plan' holds' z r b q u y.holds ks →
      Kept 0 plan plan' r q → Kept no_hold holds holds' y.holds z.holds → Leads y z → p ≤ r → r ≤ q → Says G plan' holds' z p (a + b) q (λ ids. t ids ++ u ids) j (λ ids. hs ids ++ ks ids)
  says_then plan plan' holds holds' y z p a r b q t u j hs ks count S T kept kept_h A i o = record {
    say = λ w x F f H W B plan'' agree k s m h.
        let ids = ids_in w.flags w.firsts F f H x in
        let back = T.say w x F f H W B plan'' (λ n f g. agree n (omega arith) g) k s m h in
        let front = S.say w x F f H W (leads-trans y z w A B) plan'' (λ n f g. agree n f (omega arith) ∙ kept n (inl g)) (b + k) s (u ids ++ m) back in
        retold (sym (append_assoc (t ids) (u ids) m)) (change (omega arith) front);
    hold = λ w x F f H W B plan'' holds'' agree same.
        let ids = ids_in w.flags w.firsts F f H x in
        let c = count ids in
        let n = A.holds in
        let back = T.hold w x F f H W B plan'' holds'' (λ n f g. agree n (omega arith) g) (λ n f g. same n (omega arith) g) in
        let front = S.hold w x F f H W (leads-trans y z w A B) plan'' holds'' (λ n f g. agree n f (omega arith) ∙ kept n (inl g)) (λ n f g. same n f (omega arith) ∙ kept_h n (inl g)) in
        held-append G.names G.tags G.values (writer G x F f H) plan'' holds'' (hs ids) (ks ids) j y.holds c front back;
  }

  -- a token that stays before its parts and others
  pub says-stay : (plan : List ℕ) (holds : List HeldOperand) (y : Needs) (p n q : ℕ) (t : Ids → List TagValue) (j : ℕ) (hs : Ids → List Hold) → p < length G.tags → Stays (get_or G.tags p 0) → Says G plan holds y (p + 1) (n + parts_at G.tags G.values p) q t j hs → Says G plan holds y p (suc n) q (λ ids. code_at G.tags G.values p ∷ t ids) j hs
  unfolding Stays
  says-stay plan holds y p n q t j hs b stays S = record {
    say = λ w x F f H W A plan' agree k s m h. change (omega arith) (Writes.stay {k = n + k} b (stays F f H _ _) (change (omega arith) (S.say w x F f H W A plan' (λ i u v. agree i (omega arith) v) k s m h)));
    hold = λ w x F f H W A plan' holds' agree same. S.hold w x F f H W A plan' holds' (λ i u v. agree i (omega arith) v) same;
  }

  -- a when, and a merge
  pub says-drop : (plan : List ℕ) (holds : List HeldOperand) (y : Needs) (p q : ℕ) (t : Ids → List TagValue) (j : ℕ) (hs : Ids → List Hold) → p < length G.tags → 67 ≤ get_or G.tags p 0 → get_or G.tags p 0 < 69 → Says G plan holds y (p + 1) 1 q t j hs → Says G plan holds y p 1 q t j hs
  unfolding plan_of
  says-drop plan holds y p q t j hs b lo hi S = record {
    say = λ w x F f H W A plan' agree k s m h. change (omega arith) (Writes.drop {k = k} b (drops F f H (get_or G.tags p 0) (get_or G.values p 0) (get_or plan' p 0) lo hi) (change (omega arith) (S.say w x F f H W A plan' (λ i u v. agree i (omega arith) v) k s m h)));
    hold = λ w x F f H W A plan' holds' agree same. S.hold w x F f H W A plan' holds' (λ i u v. agree i (omega arith) v) same;
  }
    where
      drops : (flags firsts holds : List ℕ) (t v w : ℕ) → 67 ≤ t → t < 69 → plan_of flags firsts holds t v w ≡ Plan.Drop
      drops flags firsts holds t v w a b = go (t - 67) refl
        where
          go : (d : ℕ) → t - 67 ≡ d → plan_of flags firsts holds t v w ≡ Plan.Drop
          go zero e = sym (arm-when flags firsts holds t v w (omega arith))
          go (suc zero) e = sym (arm-when-not flags firsts holds t v w (omega arith))
          go (suc (suc d)) e = absurd (omega arith)

  pub says-join : (plan : List ℕ) (holds : List HeldOperand) (y : Needs) (p q x : ℕ) (t : Ids → List TagValue) (j : ℕ) (hs : Ids → List Hold) → p < length G.tags → get_or G.tags p 0 ≡ 69 → get_or G.values p 0 ≡ x → Says G plan holds y (p + 1) 2 q t j hs → Says G plan holds y p 1 q (λ ids. named 57 x (t ids)) j hs
  unfolding plan_of
  says-join plan holds y p q x t j hs b i o S = record {
    say = λ w z F f H W A plan' agree k s m h. change (omega arith) (Writes.choice {k = k} b (sym (arm-merge F f H (get_or G.tags p 0) (get_or G.values p 0) (get_or plan' p 0) i) ∙ ap Plan.Choose o) (change (omega arith) (S.say w z F f H W A plan' (λ i u v. agree i (omega arith) v) k s m h)));
    hold = λ w z F f H W A plan' holds' agree same. S.hold w z F f H W A plan' holds' (λ i u v. agree i (omega arith) v) same;
  }

  -- ---- a `->`, a `pre` and a call by their words
  module _ (W : Writer) (plan : List ℕ) (p k s : ℕ) (b : p < length G.tags) (l : List TagValue) where
    stay-with : (tag v : ℕ) → code_at G.tags G.values p ≡ tag_value tag v → (n : ℕ) → follows tag v ≡ n → plan_of W.flag_ids W.first_ids W.hold_ids tag v 0 ≡ Plan.Stay → get_or plan p 0 ≡ 0 → Writes G.tags G.values W plan (p + 1) (n + k) s l → Writes G.tags G.values W plan p (suc k) s (tag_value tag v ∷ l)
    stay-with tag v i n j stay z h =
        let g : get_or G.tags p 0 ≡ tag = ap (λ (x : TagValue). x.tag) i in
        let u : get_or G.values p 0 ≡ v = ap (λ (x : TagValue). x.value) i in
        let f : parts_at G.tags G.values p ≡ n = ap (λ (x : TagValue). follows x.tag x.value) i ∙ j in
        retold (ap (λ (x : TagValue). x ∷ l) i) (Writes.stay b (rw (g, u, z) stay) (change (ap (λ (x : ℕ). x + k) (sym f)) h))

  follow-writes : (W : Writer) (plan : List ℕ) (c : Clock) (cs ds : List Clock) (ids : Ids) → ids.first c ≡ get_or W.first_ids (clock_place c ds) 0 → (p k s : ℕ) → p < length G.tags → code_at G.tags G.values p ≡ tag_value 59 0 → get_or plan p 0 ≡ arrow_word c cs → (is_base c ≡ false → clock_place c cs ≡ clock_place c ds) →
      (l m : List TagValue) → Writes G.tags G.values W plan (p + 1) (suc (suc k)) s (l ++ m) → Writes G.tags G.values W plan p (suc k) s (arrow_codes c ids l ++ m)
  unfolding plan_of follows
  follow-writes W plan c cs ds ids f p k s b i word place l m h = go (is_base c) word place
    where
      go : (u : Bool) → get_or plan p 0 ≡ choose u 0 (suc (clock_place c cs)) → (u ≡ false → clock_place c cs ≡ clock_place c ds) → Writes G.tags G.values W plan p (suc k) s (choose u (tag_value 59 0 ∷ l) (named 57 (ids.first c) l) ++ m)
      go true z place = stay-with W plan p k s b (l ++ m) 59 0 i 2 refl refl z (change (omega arith) h)
      go false z place =
          let g : get_or G.tags p 0 ≡ 59 = ap (λ (x : TagValue). x.tag) i in
          let n : get_or plan p 0 ≡ suc (clock_place c cs) = z in
          let e : clock_place c ds ≡ get_or plan p 0 - 1 = omega (arith, place refl) in
          Writes.choice {x = ids.first c} b (sym (arm-first W.flag_ids W.first_ids W.hold_ids (get_or G.tags p 0) (get_or G.values p 0) (get_or plan p 0) g (λ o. omega arith) (ids.first c) (f ∙ ap (λ (a : ℕ). get_or W.first_ids a 0) e))) h

  hold-writes : (W : Writer) (plan : List ℕ) (c : Clock) (bare : Bool) (n : ℕ) (ids : Ids) → ids.hold n ≡ get_or W.hold_ids n 0 → (p k r s : ℕ) → p < length G.tags → code_at G.tags G.values p ≡ tag_value 58 0 → get_or plan p 0 ≡ pre_word c bare n → Owed G.tags G.values (p + 1) 1 r →
      (l m : List TagValue) → Writes G.tags G.values W plan r k s m → Writes G.tags G.values W plan (p + 1) (suc k) s (l ++ m) → Writes G.tags G.values W plan p (suc k) s (pre_codes c bare n ids l ++ m)
  unfolding plan_of follows
  hold-writes W plan c bare n ids f p k r s b i word o l m h j = go (is_base c) bare word
    where
      go : (u v : Bool) → get_or plan p 0 ≡ choose u 0 (choose v 0 (suc n)) → Writes G.tags G.values W plan p (suc k) s (choose u (tag_value 58 0 ∷ l) (choose v (tag_value 58 0 ∷ l) (named 58 (ids.hold n) [])) ++ m)
      go true v z = stay-with W plan p k s b (l ++ m) 58 0 i 1 refl refl z (change (omega arith) j)
      go false true z = stay-with W plan p k s b (l ++ m) 58 0 i 1 refl refl z (change (omega arith) j)
      go false false z =
          let g : get_or G.tags p 0 ≡ 58 = ap (λ (x : TagValue). x.tag) i in
          let a : get_or plan p 0 ≡ suc n = z in
          let e : n ≡ get_or plan p 0 - 1 = omega arith in
          Writes.hold {x = ids.hold n} b (sym (arm-hold W.flag_ids W.first_ids W.hold_ids (get_or G.tags p 0) (get_or G.values p 0) (get_or plan p 0) g (λ o. omega arith) (ids.hold n) (f ∙ ap (λ (a : ℕ). get_or W.hold_ids a 0) e))) o h

  -- the outputs of a gated call have their defaults
  Outputs : Writer → ℕ → List Declared → Type 0
  Outputs W f os = (operator_outputs W.nodes f ≡ some os) × (outputs_fault W.types W.nodes W.node f os ≡ none)

  call-writes : (W : Writer) (plan : List ℕ) (c : Clock) (u : Option (List Declared)) (cs ds : List Clock) (f : ℕ) (ids : Ids) → ids.flag c ≡ get_or W.flag_ids (clock_place c ds) 0 → ids.condact ≡ W.condact → ((os : List Declared) → u ≡ some os → Outputs W f os) →
      (p k r s : ℕ) → p < length G.tags → code_at G.tags G.values p ≡ tag_value 60 f → get_or plan p 0 ≡ choose (is_some u) (suc (clock_place c cs)) 0 → (is_some u ≡ true → clock_place c cs ≡ clock_place c ds) →
      (l m : List TagValue) → Writes G.tags G.values W plan r k s m → Writes G.tags G.values W plan (p + 1) 1 r l → Writes G.tags G.values W plan (p + 1) (suc k) s (l ++ m) → Writes G.tags G.values W plan p (suc k) s (call_codes (λ os. default_codes W os) u c f ids l ++ m)
  unfolding plan_of follows Outputs
  call-writes W plan c none cs ds f ids n x outs p k r s b i word place l m h j t = stay-with W plan p k s b (l ++ m) 60 f i 1 refl refl word (change (omega arith) t)
  call-writes W plan c (some os) cs ds f ids n x outs p k r s b i word place l m h j t =
      let g : get_or G.tags p 0 ≡ 60 = ap (λ (x : TagValue). x.tag) i in
      let v : get_or G.values p 0 ≡ f = ap (λ (x : TagValue). x.value) i in
      let a : get_or plan p 0 ≡ suc (clock_place c cs) = word in
      let e : clock_place c ds ≡ get_or plan p 0 - 1 = omega (arith, place refl) in
      let o = outs os refl in
      let codes : gate_codes W.condact (length os + 2) (ids.flag c) (code_at G.tags G.values p ∷ (l ++ (default_codes W os ++ m))) ≡ gate_codes ids.condact (length os + 2) (ids.flag c) (tag_value 60 f ∷ (l ++ default_codes W os)) ++ m =
      ap (λ (z : TagValue). gate_codes W.condact (length os + 2) (ids.flag c) (z ∷ (l ++ (default_codes W os ++ m)))) i ∙ (ap (λ (z : List TagValue). gate_codes W.condact (length os + 2) (ids.flag c) (tag_value 60 f ∷ z)) (sym (append_assoc l (default_codes W os) m)) ∙
      ap (λ (z : ℕ). gate_codes z (length os + 2) (ids.flag c) (tag_value 60 f ∷ ((l ++ default_codes W os) ++ m))) (sym x)) in
      retold codes (Writes.gate {x = ids.flag c} {os = os} {a = l} b (sym (arm-gate W.flag_ids W.first_ids W.hold_ids (get_or G.tags p 0) (get_or G.values p 0) (get_or plan p 0) g (λ o. omega arith) (ids.flag c) (n ∙ ap (λ (a : ℕ). get_or W.flag_ids a 0) e))) (ap (operator_outputs W.nodes) v ∙ o.0)
      (ap (λ (z : ℕ). outputs_fault W.types W.nodes W.node z os) v ∙ o.1) j h)

  -- a clock that a flag was added for is there
  first-there : (c : Clock) (y w : Needs) → Leads (settled (arrow_turn c) c y) w → is_base c ≡ false → clock_place c (settled (arrow_turn c) c y).firsts ≡ clock_place c w.firsts
  first-there c y w A e = let B : Leads (settled Turn.First c y) w = rw e at A in rw e (B.firsts.place c (has-add c y.firsts))

  held-there : (c : Clock) (y w : Needs) → Leads (settled Turn.Hold c y) w → is_base c ≡ false → clock_place c (add_with_parents c y.flags) ≡ clock_place c w.flags
  held-there c y w A e = A.flags.place c (has-parents c y.flags e)

  gate-there : (c : Clock) (y w : Needs) → Leads (settled Turn.Gate c y) w → is_base c ≡ false → clock_place c (add_with_parents c y.flags) ≡ clock_place c w.flags
  gate-there c y w A e = A.flags.place c (has-parents c y.flags e)

  module _ (plan plan' : List ℕ) (y : Needs) (c : Clock) (p q : ℕ) (t : Ids → List TagValue) (j : ℕ) (hs : Ids → List Hold) (b : p < length G.tags) (o : p < q) (beside : Beside plan plan' p) where
    inside : (plan'' : List ℕ) → Agrees 0 plan' plan'' p q → Agrees 0 plan plan'' (p + 1) q
    inside plan'' agree i f g = agree i (omega arith) g ∙ beside i (λ z. omega arith)

    pub says-follow : (holds : List HeldOperand) → code_at G.tags G.values p ≡ tag_value 59 0 → (17 * length (settled (arrow_turn c) c y).firsts ≤ G.first_room → length (settled (arrow_turn c) c y).firsts < 4294967295 → get_or plan' p 0 ≡ arrow_word c (settled (arrow_turn c) c y).firsts) →
        Says G plan holds y (p + 1) 2 q t j hs → Says G plan' holds (settled (arrow_turn c) c y) p 1 q (λ ids. arrow_codes c ids (t ids)) j hs
    says-follow holds i word S = record {
      say = λ w x F f H W A plan'' agree k s m h.
          let ids = ids_in w.flags w.firsts F f H x in
          let n = A.firsts.many in
          let u = W.firsts-fit in
          let g = W.few-firsts in
          let v = agree p (omega arith) o ∙ word (omega arith) (omega arith) in
          let inner = S.say w x F f H W (leads-trans y (settled (arrow_turn c) c y) w (leads-settled (arrow_turn c) c y) A) plan'' (inside plan'' agree) k s m h in
          change (omega arith) (follow-writes (writer G x F f H) plan'' c (settled (arrow_turn c) c y).firsts w.firsts ids refl p k s b i v (first-there c y w A) (t ids) m (change (omega arith) inner));
      hold = λ w x F f H W A plan'' holds'' agree same.
          let n = arrow-holds c y in
          S.hold w x F f H W (leads-trans y (settled (arrow_turn c) c y) w (leads-settled (arrow_turn c) c y) A) plan'' holds'' (inside plan'' agree) (λ i u v. same i u (omega arith));
    }

    -- the call's flag keeps its row
    gate-place : (o : Option (List Declared)) (w : Needs) → Leads (settled (call_turn c (is_some o)) c y) w → is_some (choose (is_base c) none o) ≡ true → clock_place c (settled (call_turn c (is_some o)) c y).flags ≡ clock_place c w.flags
    gate-place o w A h = go (is_base c) refl o A h
      where
        go : (u : Bool) → is_base c ≡ u → (o : Option (List Declared)) → Leads (settled (choose u Turn.Keep (choose (is_some o) Turn.Gate Turn.Keep)) c y) w → is_some (choose u none o) ≡ true → clock_place c (settled (choose u Turn.Keep (choose (is_some o) Turn.Gate Turn.Keep)) c y).flags ≡ clock_place c w.flags
        go true e o A h = absurd (false≢true h)
        go false e none A h = absurd (false≢true h)
        go false e (some os) A h = gate-there c y w A e

    gate-word : (n : ℕ) (u : Bool) (o : Option (List Declared)) → choose u 0 (choose (is_some o) n 0) ≡ choose (is_some (choose u none o)) n 0
    gate-word n true o = refl
    gate-word n false o = refl

    gate-outputs : (W : Writer) (f : ℕ) (u : Bool) (o : Option (List Declared)) → operator_outputs W.nodes f ≡ o → gate_fault W.types W.nodes W.node f (choose u none o) ≡ none → (os : List Declared) → choose u none o ≡ some os → Outputs W f os
    unfolding Outputs
    gate-outputs W f true o i z os e = let n : ◌≡◌ {A = Bool} false true = ap is_some e in absurd (false≢true n)
    gate-outputs W f false o i z os e = (i ∙ e, sym (ap (gate_fault W.types W.nodes W.node f) e) ∙ z)

    pub says-call : (holds : List HeldOperand) (f : ℕ) → code_at G.tags G.values p ≡ tag_value 60 f → gate_fault G.types G.nodes G.node f (gate_of G.types G.nodes G.node c f) ≡ none →
        (17 * length (settled (call_turn c (is_some (operator_outputs G.nodes f))) c y).flags ≤ G.flag_room → length (settled (call_turn c (is_some (operator_outputs G.nodes f))) c y).flags < 4294967295 → get_or plan' p 0 ≡ call_word c (is_some (operator_outputs G.nodes f)) (settled (call_turn c (is_some (operator_outputs G.nodes f))) c y).flags) →
        Says G plan holds y (p + 1) 1 q t j hs → Says G plan' holds (settled (call_turn c (is_some (operator_outputs G.nodes f))) c y) p 1 q (λ ids. call_codes (defaults_in G) (gate_of G.types G.nodes G.node c f) c f ids (t ids)) j hs
    says-call holds f i z word S =
        let o' : p < q = o in
        let o = operator_outputs G.nodes f in
        let v = settled (call_turn c (is_some o)) c y in
        record {
          say = λ w x F u H W A plan'' agree k s m h.
              let ids = ids_in w.flags w.firsts F u H x in
              let n = A.flags.many in
              let a = W.flags-fit in
              let g = W.few-flags in
              let back = leads-trans y v w (leads-settled (call_turn c (is_some o)) c y) A in
              let r = agree p (omega arith) o' ∙ (word (omega arith) (omega arith) ∙ gate-word (suc (clock_place c v.flags)) (is_base c) o) in
              let inner = S.say w x F u H W back plan'' (inside plan'' agree) k s m h in
              let alone = S.say w x F u H W back plan'' (inside plan'' agree) 0 q [] Writes.done in
              change (omega arith) (call-writes (writer G x F u H) plan'' c (gate_of G.types G.nodes G.node c f) v.flags w.flags f ids refl refl (gate-outputs (writer G x F u H) f (is_base c) o refl z)
              p k q s b i r (gate-place o w A) (t ids) m h (retold (append-nil (t ids)) (change (omega arith) alone)) (change (omega arith) inner));
          hold = λ w x F u H W A plan'' holds'' agree same.
              let n = call-holds c (is_some o) y in
              S.hold w x F u H W (leads-trans y v w (leads-settled (call_turn c (is_some o)) c y) A) plan'' holds'' (inside plan'' agree) (λ i u v. same i u (omega arith));
        }

  -- a `pre`, whose hold is the last
  module _ (plan plan' : List ℕ) (holds holds' : List HeldOperand) (y : Needs) (c : Clock) (bare : Bool) (p q : ℕ) (a : Expr) (type : Ty) (value : Ids → Expr) (j : ℕ) (hs : Ids → List Hold) (b : p < length G.tags) (o : p < q) (beside : Beside plan plan' p) where
    -- the hold that it makes
    abbrev pub hold_of : Ids → Hold
    hold_of ids = record { type = type; right = if_of (Expr.var (ids.flag c)) (value ids) (Expr.pre (Expr.var (ids.hold y.holds))) }

    within-pre : (plan'' : List ℕ) → Agrees 0 plan' plan'' p q → Agrees 0 plan plan'' (p + 1) q
    within-pre plan'' agree i f g = agree i (omega arith) g ∙ beside i (λ z. omega arith)

    module _ (count : (ids : Ids) → j + length (hs ids) ≡ y.holds) (S : Says G plan holds y (p + 1) 1 q (λ ids. map code_of (expr_tokens (value ids))) j hs) (stands : tree G.names (tokens G.tags G.values) (p + 1) ≡ got a q)
        (typed : is_base c ≡ false → bare ≡ false → operand_type (declared G.node) a ≡ some type) (kept : Kept no_hold holds holds' y.holds (settled (pre_turn c bare) c y).holds)
        (few : length G.tags < 4294967296) (row : is_base c ≡ false → bare ≡ false → p + 1 < 4294967296 → y.holds < 4294967295 → y.holds < G.hold_room → 17 * length (add_with_parents c y.flags) ≤ G.flag_room → length (add_with_parents c y.flags) < 4294967296 → hold_at holds' y.holds ≡ record { at = p + 1; row = clock_place c (add_with_parents c y.flags) }) where
      held-last : is_base c ≡ false → bare ≡ false → (w : Needs) (x : ℕ) (F f H : List ℕ) → Whole G.flag_room G.first_room G.hold_room w → Leads (settled Turn.Hold c y) w → (plan'' : List ℕ) (holds'' : List HeldOperand) → Agrees 0 plan plan'' (p + 1) q → Agrees no_hold holds' holds'' j (settled Turn.Hold c y).holds →
          HeldAt G.names G.tags G.values (writer G x F f H) plan'' holds'' y.holds (hold_of (ids_in w.flags w.firsts F f H x))
      held-last e v w x F f H W A plan'' holds'' agree same =
          let ids = ids_in w.flags w.firsts F f H x in
          let k = count ids in
          let n = A.holds in
          let m = A.flags.many in
          let g = W.few-holds in
          let u = W.holds-fit in
          let z = W.flags-fit in
          let d = W.few-flags in
          let r = same y.holds (omega arith) (omega arith) ∙ row e v (omega arith) (omega arith) (omega arith) (omega arith) (omega arith) in
          let place : (hold_at holds'' y.holds).at ≡ p + 1 = ap (λ (h : HeldOperand). h.at) r in
          let flag : (hold_at holds'' y.holds).row ≡ clock_place c w.flags = ap (λ (h : HeldOperand). h.row) r ∙ held-there c y w A e in
          let alone = S.say w x F f H W (leads-trans y (settled Turn.Hold c y) w (leads-settled Turn.Hold c y) A) plan'' agree 0 q [] Writes.done in
          let written : Writes G.tags G.values (writer G x F f H) plan'' (p + 1) 1 q (map code_of (expr_tokens (value ids))) = retold (append-nil (map code_of (expr_tokens (value ids)))) (change (omega arith) alone) in
          record {
            operand = a;
            rewritten = value ids;
            end = q;
            stands = ap (tree G.names (tokens G.tags G.values)) place ∙ stands;
            typed = typed e v;
            right = ap (λ (i : ℕ). if_of (Expr.var (get_or F i 0)) (value ids) (Expr.pre (Expr.var (get_or H y.holds 0)))) (sym flag);
            written = subst (λ (i : ℕ). Writes G.tags G.values (writer G x F f H) plan'' i 1 q (map code_of (expr_tokens (value ids)))) (sym place) written;
          }

      pub says-previous : code_at G.tags G.values p ≡ tag_value 58 0 → Owed G.tags G.values (p + 1) 1 q → (y.holds < 4294967295 → get_or plan' p 0 ≡ pre_word c bare y.holds) →
          Says G plan' holds' (settled (pre_turn c bare) c y) p 1 q (λ ids. pre_codes c bare y.holds ids (map code_of (expr_tokens (value ids)))) j (λ ids. pre_holds c bare (hold_of ids) (hs ids))
      says-previous i owed word = record {
        say = λ w x F f H W A plan'' agree k s m h.
            let ids = ids_in w.flags w.firsts F f H x in
            let n = A.holds in
            let e = (leads-settled (pre_turn c bare) c y).holds in
            let g = W.few-holds in
            let v = agree p (omega arith) o ∙ word (omega arith) in
            let inner = S.say w x F f H W (leads-trans y (settled (pre_turn c bare) c y) w (leads-settled (pre_turn c bare) c y) A) plan'' (within-pre plan'' agree) k s m h in
            change (omega arith) (hold-writes (writer G x F f H) plan'' c bare y.holds ids refl p k q s b i v owed (map code_of (expr_tokens (value ids))) m h (change (omega arith) inner));
        hold = λ w x F f H W A plan'' holds'' agree same.
            let e = (leads-settled (pre_turn c bare) c y).holds in
            let front = S.hold w x F f H W (leads-trans y (settled (pre_turn c bare) c y) w (leads-settled (pre_turn c bare) c y) A) plan'' holds'' (within-pre plan'' agree) (λ i u v. same i u (omega arith) ∙ kept i (inl v)) in
            all_held w x F f H W plan'' holds'' (within-pre plan'' agree) front (is_base c) bare refl refl A same;
      }
        where
          all_held : (w : Needs) (x : ℕ) (F f H : List ℕ) → Whole G.flag_room G.first_room G.hold_room w → (plan'' : List ℕ) (holds'' : List HeldOperand) → Agrees 0 plan plan'' (p + 1) q → HeldFrom G.names G.tags G.values (writer G x F f H) plan'' holds'' j (hs (ids_in w.flags w.firsts F f H x)) →
              (u v : Bool) → is_base c ≡ u → bare ≡ v → Leads (settled (choose u Turn.Keep (choose v Turn.Keep Turn.Hold)) c y) w → Agrees no_hold holds' holds'' j (settled (choose u Turn.Keep (choose v Turn.Keep Turn.Hold)) c y).holds →
              HeldFrom G.names G.tags G.values (writer G x F f H) plan'' holds'' j (choose u (hs (ids_in w.flags w.firsts F f H x)) (choose v (hs (ids_in w.flags w.firsts F f H x)) (hs (ids_in w.flags w.firsts F f H x) ++ (hold_of (ids_in w.flags w.firsts F f H x) ∷ []))))
          all_held w x F f H W plan'' holds'' agree front true v e g A same = front
          all_held w x F f H W plan'' holds'' agree front false true e g A same = front
          all_held w x F f H W plan'' holds'' agree front false false e g A same =
              let ids = ids_in w.flags w.firsts F f H x in
              held-append G.names G.tags G.values (writer G x F f H) plan'' holds'' (hs ids) (hold_of ids ∷ []) j y.holds (count ids) front (held_one G.names G.tags G.values (writer G x F f H) plan'' holds'' y.holds (hold_of ids) (held-last e g w x F f H W A plan'' holds'' agree same))
