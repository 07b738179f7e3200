-- `inference::touched` meets its contract: no token of the stretch is one of a name whose clock changed late. Assumes nothing.
use native.Mathlib.Omega.{arith}
use borrow.Author.Tests.{tests}
use Rattle.std.proofs.Common.{rules}
use Rattle.std.specs.Bool.{⊤}
use Rattle.std.proofs.lemmas.Iterator.{YieldsList-from_slice, YieldsList-from_zip, cases_from_any}
use Rattle.inference.proofs.Looks.{Early, cut, quiet-of}
use Rattle.inference.proofs.touched.Goals as goal

pub returns : goal.returns
returns c = λ z.
    let s = c.args.source.now in
    let ks = cut s.tags.now c.min-start.result c.min-end.result in
    let ws = cut s.values.now c.min-start.result c.min-end.result in
    quiet-of s.tags.now s.values.now c.args.since.now c.args.made c.args.from c.args.to _ _ s.same_length (omega (arith, c.if-made-eq0.false)) c.min-end.ensures c.min-start.ensures c.any.result _ (cases_from_any c.any.new.self _ c.any.result (λ p. ⊤) (Early c.args.since.now c.args.made) c.any.ensures.ran (YieldsList-from_zip (YieldsList-from_slice ks cc) (YieldsList-from_slice ws cc)) (λ x q k. tt) (λ x q k. search (rules, tests))) z
