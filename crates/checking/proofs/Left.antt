-- Left names among the tokens, and an equation's findings.
use mathlib.Core.Path.{◌≡◌, sym, ◌∙◌, ap}
use mathlib.Core.List.{List, [], ◌∷◌, ◌++◌, append_assoc, append-nil}
use mathlib.Core.Bool.{Bool, false}
use Prim.Native.Nat.{ℕ, ◌+◌, ◌≤◌, ◌<◌}
use native.Mathlib.Omega.{arith}
use native.Mathlib.Numerals.{add-one}
use lib.ListN.{length, get_or, drop, drop_of_length-le}
use lib.Seq.{drop-cons}
use borrow.Author.Tests.{lt-ltb}
use Rattle.definitions.specs.Lists.{choose}
use Rattle.definitions.specs.Tokens.{TagValue}
use Rattle.definitions.specs.Tree.{Equation, Node}
use Rattle.definitions.specs.Reading.{got, times}
use Rattle.definitions.specs.Grammar.{counted, name, equation, most_left}
use Rattle.definitions.specs.Clock.{Clock}
use Rattle.definitions.specs.InferClocks.{Clocks, clock_of, is_port, left_elsewhere, Finding, must_be_on, check, check_left, check_equation}
use Rattle.findings.specs.Met.{Met}
use Rattle.findings.specs.declared.Findings as table
use Rattle.grammar.specs.Read.{tokens_of}
use Rattle.grammar.specs.declared.source.Source.{Source}
use Rattle.grammar.proofs.Laws.{tokens-length}
use Rattle.grammar.proofs.Longer.{counted-grows}
use Rattle.grammar.proofs.Got.{equation-got}
use Rattle.operands.specs.Spread.{tree}
use Rattle.clock_tables.specs.Environment.{env_at}
use Rattle.layout.specs.Spans.{Spanned}
use Rattle.layout.specs.declared.Span.{Span}
use Rattle.layout.proofs.Laws.{names_stand}
use Rattle.inference.proofs.PassesLaws.{lies}
use Rattle.checking.specs.Walk.{ReadsNode}
use Rattle.checking.specs.declared.CheckInput.{CheckInput}
use Rattle.checking.proofs.Laws.{met-as, met-then}

-- a left name, then those behind it
left-more : (ports : List Bool) (i : ℕ) (c : Clock) (clocks : Clocks) (node : Node) (so_far met : List Finding) (x : ℕ) (rest all : List ℕ) → all ≡ x ∷ rest → get_or ports x false ≡ is_port node x → so_far ++ check_left clocks i node c all ≡ met →
    (so_far ++ must_be_on clocks i c x (λ d. left_elsewhere x d c (get_or ports x false))) ++ check_left clocks i node c rest ≡ met
unfolding check_left
left-more ports i c clocks node so_far met x rest all e b h =
    ap (λ (u : Bool). (so_far ++ must_be_on clocks i c x (λ d. left_elsewhere x d c u)) ++ check_left clocks i node c rest) b
    ∙ (append_assoc so_far (must_be_on clocks i c x (λ d. left_elsewhere x d c (is_port node x))) (check_left clocks i node c rest) ∙ (rw e at h))

-- what is met where some left names were gone over: behind it comes what is met of the names left
pub record LeftGoing (input : CheckInput) (c : Clock) (t u : table.Findings) (names rest : List ℕ) : Type 0 where
  pub held : (node : Node) (clocks : Clocks) → ReadsNode input node clocks → ((k : ℕ) → k < length names → get_or names k 0 < input.source.names) →
      (so_far : List Finding) × Met so_far t u × (so_far ++ check_left clocks input.equation node c rest ≡ check_left clocks input.equation node c names)

module _ (input : CheckInput) (c : Clock) (t : table.Findings) (names : List ℕ) (u : table.Findings) (k : ℕ) (w : LeftGoing input c t u names (drop k names)) where
  -- one more
  pub left_step : (v : table.Findings) (x : ℕ) → k < length names → x ≡ get_or names k 0 →
      ((clocks : Clocks) → env_at input.env.now x ≡ clock_of clocks x → Met (must_be_on clocks input.equation c x (λ d. left_elsewhere x d c (get_or input.ports.now x false))) u v) →
      LeftGoing input c t v names (drop (k + 1) names)
  left_step v x l e f =
      let a : drop k names ≡ x ∷ drop (k + 1) names = rw (add-one k, e) (drop-cons names k 0 l) in
      record {
        held = λ node clocks r d.
            let z = w.held node clocks r d in
            let b : x < input.source.names = rw e (d k l) in
            (_, met-then t u v _ _ z.1 (f clocks (r.agrees.same x b)), left-more input.ports.now input.equation c clocks node z.0 _ x (drop (k + 1) names) (drop k names) a (r.ports.same x b) z.2);
      }

  pub left-end : length names ≤ k → (node : Node) (clocks : Clocks) → ReadsNode input node clocks → ((j : ℕ) → j < length names → get_or names j 0 < input.source.names) → Met (check_left clocks input.equation node c names) t u
  unfolding check_left
  left-end l node clocks r d =
      let y = w.held node clocks r d in
      let a : drop k names ≡ [] = drop_of_length-le names l in
      let b : y.0 ≡ check_left clocks input.equation node c names = sym (append-nil y.0) ∙ (ap (λ (r : List ℕ). y.0 ++ check_left clocks input.equation node c r) (sym a) ∙ y.2) in
      rw b at y.1

-- an equation's parts, one behind the other
pub equation-parts : (M : ℕ) (ts : List TagValue) (p : ℕ) (e : Equation) (q : ℕ) → equation M ts p ≡ got e q →
    (n s u : ℕ) × (counted 3 1 most_left ts p ≡ got n s) × (times n (name M) ts s ≡ got e.left u) × (tree M ts u ≡ got e.right q)
equation-parts M ts p e q g = let x = equation-got M ts p e q g in rw x.8 (x.0, x.1, x.3, x.5, x.6, x.7)

-- its left names stand behind their count, and its right side behind them
pub left-laid : (s : Source) (p : ℕ) (l : Span) → Spanned (name s.names) s.tags.now s.values.now p l → (e : Equation) (q : ℕ) → equation s.names (tokens_of s) p ≡ got e q →
    (times l.count (name s.names) (tokens_of s) l.at ≡ got e.left l.end) × (tree s.names (tokens_of s) l.end ≡ got e.right q) × (l.end ≡ p + 1 + length e.left) × (p < length s.tags.now)
left-laid s p l laid e q g =
    let x = lies s p l laid e q g in
    let n = equation-parts s.names (tokens_of s) p e q g in
    let b = counted-grows 3 1 most_left (tokens_of s) p n.0 n.1 n.3 in
    let k = tokens-length s.tags.now s.values.now s.same_length in
    let there : p < length s.tags.now = omega arith in
    let f : l.at ≡ p + 1 = laid.first ∙ ap (λ (b : Bool). choose b (p + 1) p) (lt-ltb p (length s.tags.now) there) in
    let w = (names_stand s.tags.now s.values.now s.same_length s.names l.count l.at e.left l.end x.left.items).1 in
    (x.left.items, x.right, omega (arith, x.left.many), there)

-- what is met of its left names, then of its right side
pub equation-whole : (node : Node) (clocks : Clocks) (i : ℕ) (c : Clock) (e : Equation) (names : List ℕ) (t t' u v : table.Findings) → names ≡ e.left → t' ≡ t → Met (check_left clocks i node c names) t' u → Met (check clocks i c e.right) u v
    → Met (check_equation node clocks i (record { clock = c; equation = e })) t v
unfolding check_equation
equation-whole node clocks i c e names t t' u v same stays l r = met-then t u v _ _ (met-as t t' u _ _ (ap (λ (z : List ℕ). check_left clocks i node c z) same) stays l) r
