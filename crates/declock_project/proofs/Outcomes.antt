-- What rewriting a sheet answers, by what the working tables say: one law for each outcome, in checking order.
use Prim.Native.Nat.{ℕ, min, ◌≤◌, ◌<◌}
use mathlib.Core.Path.{◌≡◌, refl, sym, ap, ap₂, ◌∙◌, subst}
use mathlib.Core.List.{List, [], ◌∷◌, map}
use mathlib.Core.Bool.{Bool, true, false, ◌&&◌, not}
use native.Mathlib.Omega.{arith}
use lib.Dec.{leb}
use lib.ListN.{length, take}
use borrow.Author.Tests.{le-leb, leb-true, leb-false}
use Rattle.std.proofs.Common.{Result, Ok, Err}
use Rattle.definitions.specs.declared.Refusal.{Refusal}
use Rattle.definitions.specs.declared.FaultRecord.{FaultRecord}
use Rattle.definitions.specs.Lists.{choose, over, Letters}
use Rattle.definitions.specs.Tokens.{code_of}
use Rattle.definitions.specs.Bytes.{tokens}
use Rattle.definitions.specs.Refusals.{Answer, accepted, refused, faulty}
use Rattle.definitions.specs.Output.{ClockedNode, sheet_tokens, sheet_bytes, within_limits, written}
use Rattle.definitions.specs.Answer.{Input, input, clockings, rewrite_answer}
use Rattle.shapes.proofs.Facts.{over-long}
use Rattle.spelling.specs.declared.names.Spelling.{Spelling}
use Rattle.spelling.specs.declared.name_table.NameTable.{NameTable}
use Rattle.grammar.specs.declared.source.Source.{Source}
use Rattle.spelling.specs.Table.{names_of, NamesHeld}
use Rattle.spelling.proofs.Table.{holds-limits}
use Rattle.emit.specs.declared.output.Output.{Output}
use Rattle.emit.specs.Out.{emits}
use Rattle.emit.proofs.Laws.{emits-long, emits-few, emits-whole}
use Rattle.stateless.specs.Sheets.{first_faults_from}
use Rattle.stateless.proofs.Nodes.{many-tokens}
use Rattle.stateless.proofs.Answers.{all_names, out_sheet, rewrite-deep, rewrite-faulty, rewrite-large, rewrite-lent, rewrite-accepted}
use Rattle.query.specs.declared.fault_list.FaultList.{FaultList}
use Rattle.first_faults.specs.Faults.{Recorded}
use Rattle.parts.specs.Bytes.{written_answer, written_bytes}
use Rattle.declock_project.specs.Walk.{Faultless, Walks}
use Rattle.declock_project.specs.Given.{RewriteGiven, Read}

-- the output's bytes
abbrev out_bytes : Input → List ClockedNode → List ℕ
out_bytes r ns = written (all_names r ns) (out_sheet r ns)

-- ---- what is given, by the definition's answer
module _ (v : Answer (List ℕ)) (lent : List ℕ) (list : List FaultRecord) where
  pub given-refused : (x : Refusal) → v ≡ refused x → RewriteGiven v lent list lent list (Err x)
  given-refused x e = rw e (record { answer = refl; bytes = refl; faults = refl })

  given-faulty : (l : List FaultRecord) (m : ℕ) (list' : List FaultRecord) → v ≡ faulty l → m ≡ length l → list' ≡ over l list
      → RewriteGiven v lent list lent list' (Err (Refusal.Faulty m))
  given-faulty l m list' e f g = rw e (record { answer = ap (λ (k : ℕ). Err (Refusal.Faulty k)) f; bytes = refl; faults = g })

  -- bytes that are the answer where they are not too many, else 12, by what putting them answered and left
  pub put-given : (b : List ℕ) → (length b ≤ length lent → v ≡ accepted b) → (length lent < length b → v ≡ refused (Refusal.Lent (length b)))
      → (lent' : List ℕ) (w : Result ℕ Refusal) → w ≡ written_answer b lent → lent' ≡ written_bytes b lent → RewriteGiven v lent list lent' list w
  unfolding written_answer written_bytes
  put-given b enough too_few lent' w answer filled = go (leb (length b) (length lent)) refl answer filled
    where
      go : (t : Bool) → leb (length b) (length lent) ≡ t → w ≡ choose t (Ok (length b)) (Err (Refusal.Lent (length b))) → lent' ≡ choose t (over b lent) lent → RewriteGiven v lent list lent' list w
      go true t f g = rw (enough (leb-true (length b) (length lent) t)) (record { answer = f; bytes = g; faults = refl })
      go false t f g = rw (too_few (leb-false (length b) (length lent) t)) (record { answer = f; bytes = g; faults = refl })

-- where none is counted there is none
no_items : (fs : List FaultRecord) (m : ℕ) → m ≡ length fs → m ≤ 0 → fs ≡ []
no_items [] m e h = refl
no_items (f ∷ fs) m e h = absurd (omega arith)

-- no clock is too deep: each node has its clocks, and each faulty one's first fault is recorded
pub none_deep : (r : Input) (lent : List FaultRecord) (l : FaultList) (u : Unit) → Walks r lent l (Ok u) → (ns : List ClockedNode) × (clockings 0 r.sheet.nodes ≡ accepted ns) × Recorded lent (first_faults_from r 0 ns) l.count l.records.now
unfolding Walks
none_deep r lent l u h = h

-- the list is as long as it was
pub recorded-long : {lent fs now : List FaultRecord} {m : ℕ} → Recorded lent fs m now → length now ≡ length lent
recorded-long {lent} {fs} h = ap length h.written ∙ over-long fs lent

-- of a walk that counted none, no node has a fault
pub none-recorded : (r : Input) (lent : List FaultRecord) (l : FaultList) (u : Unit) → Walks r lent l (Ok u) → l.count ≤ 0 → (ns : List ClockedNode) × (clockings 0 r.sheet.nodes ≡ accepted ns) × (first_faults_from r 0 ns ≡ [])
none-recorded r lent l u h z =
    let n = none_deep r lent l u h in
    (n.0, n.1, no_items (first_faults_from r 0 n.0) l.count n.2.counted z)

-- the input's names, copied
pub names-copied : {t : NameTable 1024 16384} {names all : List Letters} → names ≡ all → NamesHeld t all → NamesHeld t names
names-copied {t} e h = subst (λ (l : List Letters). NamesHeld t l) (sym e) h

-- a sheet without faults
pub faultless-read : {given bytes : List ℕ} {spelling : Spelling} {source : Source} {r : Input} → Read given spelling source bytes r → (ns : List ClockedNode)
    → clockings 0 r.sheet.nodes ≡ accepted ns → first_faults_from r 0 ns ≡ [] → Faultless spelling bytes r ns
faultless-read h ns clocks none = record { are-bytes = h.are-bytes; read = h.reading; named = h.standing.named; clocked = clocks; faultless = none }

module _ (bytes : List ℕ) (r : Input) (reading : input bytes ≡ accepted r) (lent : List ℕ) (list : List FaultRecord) where
  -- 9
  pub deep-given : (x : Refusal) (first : List FaultRecord) (kept : FaultList) → Walks r first kept (Err x) → RewriteGiven (rewrite_answer bytes (length lent)) lent list lent list (Err x)
  unfolding Walks
  deep-given x first kept h = given-refused (rewrite_answer bytes (length lent)) lent list x (rewrite-deep bytes (length lent) r reading x h)

  module _ (ns : List ClockedNode) (clocks : clockings 0 r.sheet.nodes ≡ accepted ns) where
    -- 10
    pub faulty-given : (m : ℕ) (list' : List FaultRecord) → m ≡ length (first_faults_from r 0 ns) → list' ≡ over (first_faults_from r 0 ns) list → 0 < m
        → RewriteGiven (rewrite_answer bytes (length lent)) lent list lent list' (Err (Refusal.Faulty m))
    faulty-given m list' e f h = given-faulty (rewrite_answer bytes (length lent)) lent list (first_faults_from r 0 ns) m list' (rewrite-faulty bytes (length lent) r reading ns clocks (omega arith)) e f

    module _ (none-faulty : first_faults_from r 0 ns ≡ []) (t : NameTable 1024 16384) (holds : NamesHeld t (all_names r ns)) where
      -- 11, for the names
      pub full-given : t.full ≡ true → RewriteGiven (rewrite_answer bytes (length lent)) lent list lent list (Err Refusal.Large)
      full-given h =
          let w : within_limits (all_names r ns) (out_sheet r ns) ≡ false = holds-limits (out_sheet r ns) holds ∙ ap (λ (b : Bool). not b && leb (length (sheet_tokens (out_sheet r ns))) 8192) h in
          given-refused (rewrite_answer bytes (length lent)) lent list Refusal.Large (rewrite-large bytes (length lent) r reading ns clocks none-faulty w)

      module _ (free : t.full ≡ false) (none made : Output) (empty : none.count ≡ 0) (vacant : none.full ≡ false) (emitted : made ≡ emits none (sheet_tokens (out_sheet r ns))) where
        -- 11, for the tokens
        pub long-given : made.full ≡ true → RewriteGiven (rewrite_answer bytes (length lent)) lent list lent list (Err Refusal.Large)
        long-given h =
            let m = emits-long none made (sheet_tokens (out_sheet r ns)) empty vacant emitted h in
            given-refused (rewrite_answer bytes (length lent)) lent list Refusal.Large (rewrite-large bytes (length lent) r reading ns clocks none-faulty (many-tokens (all_names r ns) (out_sheet r ns) m))

        module _ (tags : 8192 ≤ length none.tags) (values : 8192 ≤ length none.values) (fits : made.full ≡ false) where
          whole : (made.count ≡ length (sheet_tokens (out_sheet r ns))) × (tokens (take made.count made.tags) (take made.count made.values) ≡ map code_of (sheet_tokens (out_sheet r ns)))
          whole = emits-whole none made (sheet_tokens (out_sheet r ns)) empty vacant emitted tags values fits

          few : length (sheet_tokens (out_sheet r ns)) ≤ 8192
          few = emits-few none made (sheet_tokens (out_sheet r ns)) empty vacant emitted fits

          within : within_limits (all_names r ns) (out_sheet r ns) ≡ true
          within =
              holds-limits (out_sheet r ns) holds
              ∙ ap₂ (λ (b t : Bool). not b && t) free (le-leb (length (sheet_tokens (out_sheet r ns))) 8192 few)

          -- the bytes that the tables say are the output's
          said : (n : ℕ) → n ≡ min made.count 8192 → sheet_bytes (names_of t) (tokens (take n made.tags) (take n made.values)) ≡ out_bytes r ns
          unfolding written
          said n h = let m : n ≡ made.count = omega (arith, h, whole.0, few) in rw m (ap₂ sheet_bytes (sym (holds.kept free)) whole.1)

          module _ (n : ℕ) (front : n ≡ min made.count 8192) (lent' : List ℕ) (w : Result ℕ Refusal) (answer : w ≡ written_answer (sheet_bytes (names_of t) (tokens (take n made.tags) (take n made.values))) lent)
              (filled : lent' ≡ written_bytes (sheet_bytes (names_of t) (tokens (take n made.tags) (take n made.values))) lent) where
            answer-is : w ≡ written_answer (out_bytes r ns) lent
            answer-is = answer ∙ ap (λ (b : List ℕ). written_answer b lent) (said n front)

            filled_is : lent' ≡ written_bytes (out_bytes r ns) lent
            filled_is = filled ∙ ap (λ (b : List ℕ). written_bytes b lent) (said n front)

            enough : length (out_bytes r ns) ≤ length lent → rewrite_answer bytes (length lent) ≡ accepted (out_bytes r ns)
            enough h = rewrite-accepted bytes (length lent) r reading ns clocks none-faulty within h

            too_few : length lent < length (out_bytes r ns) → rewrite_answer bytes (length lent) ≡ refused (Refusal.Lent (length (out_bytes r ns)))
            too_few h = rewrite-lent bytes (length lent) r reading ns clocks none-faulty within h

            pub output-given : RewriteGiven (rewrite_answer bytes (length lent)) lent list lent' list w
            output-given = put-given (rewrite_answer bytes (length lent)) lent list (out_bytes r ns) enough too_few lent' w answer-is filled_is
