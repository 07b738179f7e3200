use native.Mathlib.Omega.{arith}
use Rattle.grammar.proofs.Parts.{declarations-most}
use Rattle.grammar.proofs.read_interface.Goals as goal

pub overflow_sub-a : goal.overflow_sub-a
overflow_sub-a c = let k = declarations-most _ _ _ _ _ _ _ c.read_declarations.ensures c.in_ok-a.was in omega arith

pub overflow_sub-a-2 : goal.overflow_sub-a-2
overflow_sub-a-2 c = let k = declarations-most _ _ _ _ _ _ _ c.read_declarations.ensures c.in_ok-a.was in omega arith

pub overflow_sub-a-3 : goal.overflow_sub-a-3
overflow_sub-a-3 c = let k = declarations-most _ _ _ _ _ _ _ c.read_declarations.ensures c.in_ok-a.was in let l = declarations-most _ _ _ _ _ _ _ c.read_declarations-2.ensures c.in_ok-b.was in omega arith
