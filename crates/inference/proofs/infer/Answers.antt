-- `inference::infer` meets its contract: its parts, one after another.
-- Assumes nothing.
use Prim.Native.Nat.{ℕ, ◌<◌}
use mathlib.Core.Bool.{false}
use native.Mathlib.Omega.{arith}
use Rattle.clock_tables.proofs.FrontLaws.{front-filled}
use Rattle.inference.proofs.PassesLaws.{names-room-kept, ports-marked, ports-on-base, infers-node}
use Rattle.inference.proofs.infer.Goals as goal

pub returns : goal.returns
returns c = λ n q l u.
    let z = λ (x : ℕ) (h : x < c.args.source.now.names). front-filled c.args.marks.now _ c.args.source.now.names x false false (c.fill_front.ensures.filled u.marked) h in
    let r = names-room-kept c.clear.auto.table c.fill_front.ensures.list_len_unchanged u in
    let a = c.set_ports.ensures n.inputs l.inputs r in
    let b = c.set_ports-2.ensures n.outputs l.outputs (names-room-kept c.set_ports.auto.env c.set_ports.auto.marks r) in
    let k = ports-marked c.args.source.now.names n c.args.env.now c.clear.new.table c.fill_front.new.list c.set_ports.new.env c.set_ports.new.marks c.set_ports-2.new.env c.set_ports-2.new.marks u.clocked c.clear.ensures z a b in
    let g = ports-on-base c.args.source.now.names n c.args.env.now c.clear.new.table c.fill_front.new.list c.set_ports.new.env c.set_ports.new.marks c.set_ports-2.new.env c.set_ports-2.new.marks u.clocked c.clear.ensures z a b (omega (arith, c.clear.auto.table, c.set_ports.auto.env, u.clocked, c.set_ports-2.auto.env)) in
    (k, infers-node _ n _ _ _ l.equations.many (c.repeat_passes.ensures n _ _ k l.equations.items g))
