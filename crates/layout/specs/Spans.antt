-- Where a list behind its count stands, in the code's terms.
use Rattle.definitions.specs.declared.Refusal.{Refusal}
use Rattle.std.specs.Prelude.{Result, Ok, Err}
use Rattle.std.specs.Prelude.{ℕ, suc, ◌+◌, ◌≡◌, List, ltb, length, get_or}
use Rattle.std.proofs.Math.Option.{Option, none, some}
use Rattle.definitions.specs.declared.NodeKind.{NodeKind}
use Rattle.definitions.specs.Lists.{choose}
use Rattle.definitions.specs.Tokens.{TagValue, kind_of}
use Rattle.definitions.specs.Bytes.{tokens}
use Rattle.definitions.specs.Reading.{Reader, got, times}
use Rattle.layout.specs.declared.Span.{Span}

-- the place after this one, of so many
abbrev pub past_in : ℕ → ℕ → ℕ
past_in n p = choose (ltb p n) (p + 1) p

-- a node's kind, `Function` where there is none
abbrev pub kind_or : Option NodeKind → NodeKind
kind_or none = NodeKind.Function
kind_or (some k) = k

abbrev pub kind_in : ℕ → NodeKind
kind_in v = kind_or (kind_of v)

-- the place after what was read; p, where it was refused
abbrev pub end_of : Result ℕ Refusal → ℕ → ℕ
end_of (Ok q) p = q
end_of (Err t) p = p

-- a list behind its count: as many items as the value at p says, from the next place on
pub record Spanned {A : Type 0} (R : Reader A) (gs vs : List ℕ) (p : ℕ) (s : Span) : Type 0 where
  pub first : s.at ≡ past_in (length gs) p
  pub counted : s.count ≡ get_or vs p 0
  pub ended : (l : List A) (q : ℕ) → times s.count R (tokens gs vs) s.at ≡ got l q → s.end ≡ q

-- the list l stands there
pub record Spans {A : Type 0} (R : Reader A) (ts : List TagValue) (l : List A) (s : Span) : Type 0 where
  pub items : times s.count R ts s.at ≡ got l s.end
  pub many : s.count ≡ length l

-- so many items from p on, one after another, by where each ends
pub data Ended (E : ℕ → ℕ → Type 0) (p : ℕ) : ℕ → ℕ → Type 0 where
  here : Ended E p 0 p
  later : {n q r : ℕ} → Ended E p n q → E q r → Ended E p (suc n) r
