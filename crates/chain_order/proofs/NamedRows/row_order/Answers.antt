-- `chain_order::NamedRows::row_order` meets its contract. The conditions before i are alike. Assumes nothing.
use Prim.Native.Nat.{◌+◌, ◌*◌, min}
use mathlib.Core.Path.{◌≡◌, refl, ◌∙◌}
use native.Mathlib.Omega.{arith}
use Rattle.clock_tables.specs.Flat.{depth_in, conditions_from}
use Rattle.clock_tables.specs.Value.{at}
use Rattle.definitions.specs.Clock.{condition_order}
use Rattle.spelling.specs.Places.{letters_in}
use Rattle.chain_order.specs.Order.{answer_of}
use Rattle.chain_order.proofs.Laws.{decides-all, chain-depths, chain_same, chain-other, row-condition, conditions-both}
use Rattle.chain_order.proofs.NamedRows.row_order.Goals as goal
use Rattle.chain_order.proofs.NamedRows.row_order.Goals.{After-is_ne}

pub loop-i-init : goal.loop-i-init
loop-i-init c = (c.depth_at-d.ensures, c.depth_at-e.ensures, decides-all (letters_in c.args.self.spelling) (conditions_from c.args.self.rows.now ((17 * c.args.x) + 1) 8) (conditions_from c.args.self.rows.now ((17 * c.args.y) + 1) 8) (depth_in c.args.self.rows.now (17 * c.args.x)) (depth_in c.args.self.rows.now (17 * c.args.y)))

-- the answer is that of the rows' i-th conditions
compared : (c : goal.After-is_ne) → c.condition_order-o.result ≡ answer_of (condition_order (letters_in c.args.self.spelling) (at (conditions_from c.args.self.rows.now (17 * c.args.x + 1) 8) c.loop-i.i) (at (conditions_from c.args.self.rows.now (17 * c.args.y + 1) 8) c.loop-i.i))
compared c =
    conditions-both (letters_in c.args.self.spelling) _ _ _ _ c.condition_order-o.ensures
    (row-condition c.args.self.rows.now _ c.args.x c.loop-i.i _ refl (omega (arith, c.loop-i.invariant.0, c.loop-i-test.true, c.min-i-end.ensures)) c.condition_at-k.ensures)
    (row-condition c.args.self.rows.now _ c.args.y c.loop-i.i _ refl (omega (arith, c.loop-i.invariant.0, c.loop-i-test.true, c.min-i-end.ensures)) c.condition_at-l.ensures)

pub returns-then-is_ne : goal.returns-then-is_ne
returns-then-is_ne c =
    chain-other (letters_in c.args.self.spelling) (conditions_from c.args.self.rows.now ((17 * c.args.x) + 1) 8) (conditions_from c.args.self.rows.now ((17 * c.args.y) + 1) 8) (depth_in c.args.self.rows.now (17 * c.args.x)) (depth_in c.args.self.rows.now (17 * c.args.y)) c.loop-i.i c.loop-i.invariant.2
    (omega (arith, c.loop-i.invariant.0, c.loop-i-test.true, c.min-i-end.ensures)) (omega (arith, c.loop-i.invariant.1, c.loop-i-test.true, c.min-i-end.ensures))
    (compared (goal.at.returns-then-is_ne c).After-is_ne) c.is_ne.ensures c.if-is_ne.true

pub loop-i-preserved : goal.loop-i-preserved
loop-i-preserved c = (
  c.loop-i.invariant.0,
  c.loop-i.invariant.1,
  chain_same (letters_in c.args.self.spelling) (conditions_from c.args.self.rows.now ((17 * c.args.x) + 1) 8) (conditions_from c.args.self.rows.now ((17 * c.args.y) + 1) 8) (depth_in c.args.self.rows.now (17 * c.args.x)) (depth_in c.args.self.rows.now (17 * c.args.y)) c.loop-i.i c.loop-i.invariant.2
      (omega (arith, c.loop-i.invariant.0, c.loop-i-test.true, c.min-i-end.ensures)) (omega (arith, c.loop-i.invariant.1, c.loop-i-test.true, c.min-i-end.ensures))
      (compared (goal.at.loop-i-preserved c).After-is_ne) c.is_ne.ensures c.if-is_ne.false,
)

pub returns : goal.returns
returns c =
    let i : c.loop-i.i ≡ min (depth_in c.args.self.rows.now (17 * c.args.x)) (depth_in c.args.self.rows.now (17 * c.args.y)) = omega (arith, c.loop-i.invariant.0, c.loop-i.invariant.1, c.loop-i-test.false, c.loop-i.auto.i-end, c.min-i-end.ensures) in
    c.cmp.ensures ∙ rw (c.loop-i.invariant.0, c.loop-i.invariant.1)
    (chain-depths (letters_in c.args.self.spelling) (conditions_from c.args.self.rows.now ((17 * c.args.x) + 1) 8) (conditions_from c.args.self.rows.now ((17 * c.args.y) + 1) 8) (depth_in c.args.self.rows.now (17 * c.args.x)) (depth_in c.args.self.rows.now (17 * c.args.y)) c.loop-i.i c.loop-i.invariant.2 i)
