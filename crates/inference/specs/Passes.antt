-- What inference keeps in its tables, and what it answers.
use Rattle.std.specs.Prelude.{ℕ, ◌*◌, ◌≤◌, ◌<◌, ◌≡◌, List, ◌∷◌, Bool, true, false, ◌||◌, length, get_or, Result, Ok, Err}
use Rattle.std.proofs.Math.Option.{Option, none, some}
use Rattle.definitions.specs.Lists.{choose, among}
use Rattle.definitions.specs.Tree.{Equation, Node}
use Rattle.definitions.specs.Clock.{Clock, base, same_clock}
use Rattle.definitions.specs.InferClocks.{Formed, deep, formed, ◌>>=◌, Pass, Inferred, natural, is_port, has_clock, give_natural}
use Rattle.clock_tables.specs.Environment.{env_at, Agrees}
use Rattle.clock_tables.specs.declared.TooDeep.{TooDeep}
use Rattle.inference.specs.declared.PassTables.{PassTables}

-- the tables of names' clocks and of marks have room for so many names
pub record RoomForNames (m : ℕ) (env : List ℕ) (marks : List Bool) : Type 0 where
  pub clocked : 17 * m ≤ length env
  pub marked : m ≤ length marks

-- of the names below m, those of l are marked
pub record Marked (t : List Bool) (m : ℕ) (l : List ℕ) : Type 0 where
  pub same : (x : ℕ) → x < m → get_or t x false ≡ among x l

-- once those of r are put on base and marked too, the tables are what t₀ and p₀ are with those of l on base and marked
pub record PortsPlaced (m : ℕ) (t : List ℕ) (p : List Bool) (r t₀ : List ℕ) (p₀ : List Bool) (l : List ℕ) : Type 0 where
  pub clocks : (x : ℕ) → x < m → choose (among x r) (some base) (env_at t x) ≡ choose (among x l) (some base) (env_at t₀ x)
  pub marks : (x : ℕ) → x < m → choose (among x r) true (get_or p x false) ≡ choose (among x l) true (get_or p₀ x false)

-- a pass so far
pub record PassSoFar (t : List ℕ) (m : ℕ) (changed : Bool) (p : Pass) : Type 0 where
  pub agrees : Agrees t m p.clocks
  pub changes : changed ≡ p.changed

-- the tables of a pass are the same two, as long as before
pub record Kept (t t' : PassTables) : Type 0 where
  pub same_env : t'.env.ghost_name ≡ t.env.ghost_name
  pub same_since : t'.since.ghost_name ≡ t.since.ghost_name
  pub env_length : length t'.env.now ≡ length t.env.now
  pub since_length : length t'.since.now ≡ length t.since.now

-- is there a clock, and is it this one?
abbrev pub on_clock : Option Clock → Clock → Bool
on_clock none c = false
on_clock (some d) c = same_clock c d

-- a clock given to one name
abbrev pub given : Node → Clock → ℕ → Pass → Pass
given n c x p = choose (is_port n x || has_clock p.clocks x c) p (record { changed = true; clocks = record { name = x; clock = c } ∷ p.clocks })

-- one equation in a pass
abbrev pub stepped : Node → Equation → Pass → Formed Pass
stepped n e p = natural p.clocks e.right >>= λ o. formed (give_natural n o e.left p)

-- the code's answer for a node: the number of passes, and the clocks in the table
unfoldable pub Infers : List ℕ → ℕ → Result ℕ TooDeep → Formed Inferred → Type 0
Infers t m (Err d) v = v ≡ deep
Infers t m (Ok k) v = (i : Inferred) × (v ≡ formed i) × (i.passes ≡ k) × Agrees t m i.clocks
