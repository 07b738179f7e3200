-- Working tables that are enough have room. Assumes nothing.
use Prim.Native.Nat.{ℕ, ◌*◌, ◌≤◌}
use mathlib.Core.Path.{◌≡◌}
use native.Mathlib.Omega.{arith}
use lib.ListN.{length}
use Rattle.grammar.specs.declared.source.Source.{Source}
use Rattle.workspace.specs.declared.Working.{Working}
use Rattle.workspace.specs.Room.{Rooms}
use Rattle.questions.specs.Asked.{Enough}

-- tables for so many names and tokens
pub enough : (K N : ℕ) {s : Source} → K ≤ 1024 → N ≤ 4096 → K ≤ 17 * N → s.names ≤ K → length s.tags.now ≤ N → Enough s (17 * K) (38 * N) (17 * N) N
enough K N a b c m n =
    record {
      few = omega (arith, a, m);
      named = omega (arith, m);
      found = omega (arith, n);
      sited = omega (arith, n);
      few-found = omega (arith, b);
      chained = omega arith;
      ordered = omega arith;
      typed = omega (arith, c, m);
      planned = n;
    }

pub rooms-of : {s : Source} {clocks findings chains tokens : ℕ} (w : Working) → length w.env.now ≡ clocks → length w.table.now ≡ findings → length w.rows.now ≡ chains → length w.chain.now ≡ tokens → length w.sites.now ≡ chains
    → Enough s clocks findings chains tokens → Rooms s w
rooms-of w a b c d e r =
    record {
      listed = record {
        clocks = record { few = r.few; clocks = omega (arith, r.named, a); found = omega (arith, r.found, b); sited = omega (arith, r.sited, e) };
        chains = record { few = omega (arith, r.few-found, b); chained = omega (arith, r.chained, b, c); ordered = omega (arith, r.ordered, b, d) };
      };
      typed = omega (arith, r.typed, c);
      planned = omega (arith, r.planned, d);
    }
