-- What a walk reads and writes.
use Rattle.std.specs.Prelude.{ℕ, ◌≡◌, List, Bool, length}
use Rattle.stateless.specs.declared.Counts.{Counts}
use Rattle.stateless.specs.Need.{Needs, Counted}
use Rattle.planned.specs.declared.HeldOperand.{HeldOperand}
use Rattle.plan.specs.declared.Planning.{Planning}
use Rattle.plan.specs.declared.Notes.{Notes}

-- what it reads: how many names, nodes and types' definitions there are; the tokens; the clocks of sites; the places of nodes and of
-- definitions, which of these have a default; the names' types
-- Stays (no plainer): beside `Planning`, of which every law would say `index.now.source.tags.now` for `tags`.
pub record Arrays : Type 0 where
  pub names : ℕ
  pub nodes : ℕ
  pub types : ℕ
  pub tags : List ℕ
  pub values : List ℕ
  pub sites : List ℕ
  pub places : List ℕ
  pub defs : List ℕ
  pub has : List Bool
  pub typed : List ℕ

-- what it writes, and what is counted
-- Stays (no plainer): laws make later states (`record s { plan = .. }`), of which a `Notes` would have to name its references too.
pub record Tables : Type 0 where
  pub plan : List ℕ
  pub flags : List ℕ
  pub firsts : List ℕ
  pub holds : List HeldOperand
  pub counts : Counts

-- in the code
abbrev pub arrays_of : Planning → Arrays
arrays_of P =
    record {
      names = P.index.now.source.names;
      nodes = P.index.now.nodes.count;
      types = P.index.now.types.count;
      tags = P.index.now.source.tags.now;
      values = P.index.now.source.values.now;
      sites = P.sites.now;
      places = P.index.now.nodes.at;
      defs = P.index.now.types.at;
      has = P.index.now.has;
      typed = P.types.now;
    }

abbrev pub tables_of : Notes → Tables
tables_of n =
    record {
      plan = n.plan.now;
      flags = n.flags.now.words.now;
      firsts = n.firsts.now.words.now;
      holds = n.holds.now.holds.now;
      counts = record { flags = n.flags.now.count; firsts = n.firsts.now.count; holds = n.holds.now.count; condact = n.condact };
    }

-- the notes are made in the same words, as many as before
pub record StillLent (n n' : Notes) : Type 0 where
  pub plan : n'.plan.ghost_name ≡ n.plan.ghost_name
  pub same_flags : n'.flags.ghost_name ≡ n.flags.ghost_name
  pub same_firsts : n'.firsts.ghost_name ≡ n.firsts.ghost_name
  pub same_holds : n'.holds.ghost_name ≡ n.holds.ghost_name
  pub flags : n'.flags.now.words.ghost_name ≡ n.flags.now.words.ghost_name
  pub firsts : n'.firsts.now.words.ghost_name ≡ n.firsts.now.words.ghost_name
  pub holds : n'.holds.now.holds.ghost_name ≡ n.holds.now.holds.ghost_name
  pub plan-long : length n'.plan.now ≡ length n.plan.now
  pub flags-long : length n'.flags.now.words.now ≡ length n.flags.now.words.now
  pub firsts-long : length n'.firsts.now.words.now ≡ length n.firsts.now.words.now
  pub holds-long : length n'.holds.now.holds.now ≡ length n.holds.now.holds.now

-- y is needed so far
abbrev pub Begun : Tables → Needs → Type 0
Begun s y = Counted s.flags s.firsts s.counts y
