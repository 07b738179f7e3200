-- What rewriting a sheet and the text of a fault answer, by what is known of the sheet's nodes: one law for each outcome.
use Prim.Native.Nat.{ℕ, ◌+◌, ◌*◌, ◌≤◌, ◌<◌}
use mathlib.Core.Path.{◌≡◌, refl, ap, ◌∙◌}
use mathlib.Core.List.{List, [], ◌∷◌}
use mathlib.Core.Bool.{Bool, true, false, ◌&&◌}
use native.Mathlib.Omega.{arith}
use lib.Dec.{eqb, leb}
use lib.ListN.{length}
use borrow.Author.Tests.{le-leb, lt-leb}
use Rattle.definitions.specs.declared.Refusal.{Refusal}
use Rattle.definitions.specs.declared.FaultRecord.{FaultRecord}
use Rattle.definitions.specs.Lists.{sum, Letters}
use Rattle.definitions.specs.Tree.{Sheet}
use Rattle.definitions.specs.Refusals.{Answer, accepted, refused, faulty, must, lending, ◌>>=◌, down, told}
use Rattle.definitions.specs.Reading.{Got, got, rejected}
use Rattle.definitions.specs.Bytes.{most_names, most_letters, fewest_tokens, most_tokens, M, L, T, lengths, letters, cut, bad_name, parts}
use Rattle.definitions.specs.Grammar.{sheet}
use Rattle.definitions.specs.Types.{first_cycle}
use Rattle.definitions.specs.Output.{ClockedNode, names_out, sheet_out, within_limits, written}
use Rattle.definitions.specs.Answer.{Input, input, answered, clockings, unless_faulty, rewrite_answer}
use Rattle.stateless.specs.Sheets.{first_faults_from}
use Rattle.stateless.proofs.Nodes.{first-faults}

-- ---- reading a sheet meets no fault: it accepts or refuses
data Plain {A : Type 0} : Answer A → Type 0 where
  accepts : {a : A} → Plain (accepted a)
  refuses : {r : Refusal} → Plain (refused r)

plain-after : {A B : Type 0} {a : Answer A} (f : A → Answer B) → Plain a → ((x : A) → Plain (f x)) → Plain (a >>= f)
plain-after f (accepts {a}) h = h a
plain-after f refuses h = refuses

plain-got : {A : Type 0} (g : Got A) → Plain (answered g)
plain-got (got a p) = accepts
plain-got (rejected r) = refuses

-- a test, then the rest
tested : {A : Type 0} (b : Bool) (r : Refusal) {a : Answer A} → Plain a → Plain (must b r >>= λ _. a)
tested true r h = h
tested false r h = refuses

plain-parts : (bytes : List ℕ) → Plain (parts bytes)
unfolding parts
plain-parts bytes =
    let bad = bad_name [] (cut (lengths bytes) (letters bytes)) in
    tested (leb 12 (length bytes)) Refusal.Short
    (tested (leb (M bytes) most_names) (Refusal.Size 0)
    (tested (leb (L bytes) most_letters) (Refusal.Size 1)
    (tested (leb fewest_tokens (T bytes) && leb (T bytes) most_tokens) (Refusal.Size 2)
    (tested (eqb (length bytes) (12 + M bytes + L bytes + 5 * T bytes)) Refusal.Length
    (tested (eqb (sum (lengths bytes)) (L bytes)) (Refusal.Name (M bytes))
    (tested (eqb bad (M bytes)) (Refusal.Name bad) accepts))))))

plain-input : (bytes : List ℕ) → Plain (input bytes)
unfolding input
plain-input bytes =
    plain-after _ (plain-parts bytes) (λ p.
    plain-after _ (plain-got (sheet (length p.names) p.tokens 0)) (λ s.
    tested (eqb (first_cycle s.types [] s.types) (length s.types)) (Refusal.Cycle (first_cycle s.types [] s.types)) accepts))

down-eq : (r x : Refusal) → down r ≡ down x → r ≡ x
down-eq r x e = cc

-- THE LAW: what is told of reading is what it refuses
pub input-refused : (bytes : List ℕ) (x : Refusal) → told (input bytes) ≡ down x → input bytes ≡ refused x
input-refused bytes x e = go (plain-input bytes) e
  where
    go : {a : Answer Input} → Plain a → told a ≡ down x → a ≡ refused x
    go accepts h = absurd cc
    go (refuses {r}) h = ap refused (down-eq r x h)

-- ---- what is lent
lent-enough : {A : Type 0} (needed lent : ℕ) (a : A) → needed ≤ lent → lending needed lent >>= (λ _. accepted a) ≡ accepted a
lent-enough needed lent a h = rw (le-leb needed lent h)

lent-less : {A : Type 0} (needed lent : ℕ) (a : A) → lent < needed → lending needed lent >>= (λ _. accepted a) ≡ refused (Refusal.Lent needed)
lent-less needed lent a h = rw (lt-leb needed lent h)

-- ---- rewriting a sheet
-- the output's names, and its sheet
abbrev pub all_names : Input → List ClockedNode → List Letters
all_names r ns = names_out r.names r.sheet ns

abbrev pub out_sheet : Input → List ClockedNode → Sheet
out_sheet r ns = sheet_out r.names r.sheet ns

module _ (bytes : List ℕ) (lent : ℕ) where
  -- refusals 1 to 7
  pub rewrite-refused : (x : Refusal) → told (input bytes) ≡ down x → rewrite_answer bytes lent ≡ refused x
  unfolding rewrite_answer
  rewrite-refused x e = rw (input-refused bytes x e)

  module _ (r : Input) (reading : input bytes ≡ accepted r) where
    -- 9
    pub rewrite-deep : (x : Refusal) → clockings 0 r.sheet.nodes ≡ refused x → rewrite_answer bytes lent ≡ refused x
    unfolding rewrite_answer
    rewrite-deep x e = rw (reading, e)

    module _ (ns : List ClockedNode) (clocks : clockings 0 r.sheet.nodes ≡ accepted ns) where
      -- what follows where every node has its clocks
      after-faults : Answer (List ℕ)
      after-faults = must (within_limits (all_names r ns) (out_sheet r ns)) Refusal.Large >>= λ _. lending (length (written (all_names r ns) (out_sheet r ns))) lent >>= λ _. accepted (written (all_names r ns) (out_sheet r ns))

      clocked-answer : rewrite_answer bytes lent ≡ (unless_faulty (first_faults_from r 0 ns) >>= λ _. after-faults)
      unfolding rewrite_answer after-faults
      clocked-answer = rw (reading, clocks, first-faults r ns)

      -- 10, by the number of faulty nodes, and by their faults
      pub rewrite-faulty : 0 < length (first_faults_from r 0 ns) → rewrite_answer bytes lent ≡ faulty (first_faults_from r 0 ns)
      rewrite-faulty h = clocked-answer ∙ go (first_faults_from r 0 ns) h
        where
          go : (l : List FaultRecord) → 0 < length l → (unless_faulty l >>= λ _. after-faults) ≡ faulty l
          go [] h = absurd (omega arith)
          go (f ∷ l) h = refl

      module _ (none-faulty : first_faults_from r 0 ns ≡ []) where
        faultless-answer : rewrite_answer bytes lent ≡ after-faults
        faultless-answer = clocked-answer ∙ ap (λ (l : List FaultRecord). unless_faulty l >>= λ _. after-faults) none-faulty

        -- 11
        pub rewrite-large : within_limits (all_names r ns) (out_sheet r ns) ≡ false → rewrite_answer bytes lent ≡ refused Refusal.Large
        unfolding after-faults
        rewrite-large w = faultless-answer ∙ ap (λ (b : Bool). must b Refusal.Large >>= λ _. lending (length (written (all_names r ns) (out_sheet r ns))) lent >>= λ _. accepted (written (all_names r ns) (out_sheet r ns))) w

        module _ (within : within_limits (all_names r ns) (out_sheet r ns) ≡ true) where
          limited-answer : rewrite_answer bytes lent ≡ (lending (length (written (all_names r ns) (out_sheet r ns))) lent >>= λ _. accepted (written (all_names r ns) (out_sheet r ns)))
          unfolding after-faults
          limited-answer = faultless-answer ∙ ap (λ (b : Bool). must b Refusal.Large >>= λ _. lending (length (written (all_names r ns) (out_sheet r ns))) lent >>= λ _. accepted (written (all_names r ns) (out_sheet r ns))) within

          -- 12
          pub rewrite-lent : lent < length (written (all_names r ns) (out_sheet r ns)) → rewrite_answer bytes lent ≡ refused (Refusal.Lent (length (written (all_names r ns) (out_sheet r ns))))
          rewrite-lent h = limited-answer ∙ lent-less (length (written (all_names r ns) (out_sheet r ns))) lent (written (all_names r ns) (out_sheet r ns)) h

          -- none
          pub rewrite-accepted : length (written (all_names r ns) (out_sheet r ns)) ≤ lent → rewrite_answer bytes lent ≡ accepted (written (all_names r ns) (out_sheet r ns))
          rewrite-accepted h = limited-answer ∙ lent-enough (length (written (all_names r ns) (out_sheet r ns))) lent (written (all_names r ns) (out_sheet r ns)) h
