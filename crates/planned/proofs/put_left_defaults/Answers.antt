-- `planned::put_left_defaults` meets its contract: one after another.
-- Assumes nothing.
use mathlib.Core.Path.{sym, ◌∙◌, ap, subst}
use mathlib.Core.List.{List}
use Prim.Native.Nat.{ℕ, ◌<◌}
use lib.ListN.{length, get_or}
use Rattle.definitions.specs.Lists.{join}
use Rattle.definitions.specs.Output.{expr_tokens, operand_tokens}
use Rattle.emit.specs.Out.{emits}
use Rattle.stateless.specs.Yield.{left_tree, left_trees}
use Rattle.stateless.specs.Faults.{lefts_fault}
use Rattle.planned.proofs.LeftDefaultsLaws.{names-below, names-left-none, names-left-rest, first-free, cut-left, no-left-tokens}
use Rattle.planned.proofs.put_left_defaults.Goals as goal

pub loop-x-preserved : goal.loop-x-preserved
loop-x-preserved c = λ ts l n k b free. names-left-rest _ _ _ _ _ _ (c.loop-x.invariant ts l n k b free) c.loop-x-test.true (λ x. expr_tokens (left_tree ts l n x)) (cut-left ts l n) _ (λ h. let a = first-free ts l n _ _ h in (c.put_left_default.ensures ts l n k (b _ c.loop-x-test.true) a.0, a.1))

pub returns : goal.returns
returns c = λ ts l n xs k s free.
    let e = c.names_in-names.ensures.spanned xs s in
    let b = names-below _ _ _ c.args.written.now.index.now.source.same_length _ _ xs _ s.items in
    let f = ap (lefts_fault ts l n) e ∙ free in
    names-left-none _ _ _ _ _ _ (c.loop-x.invariant ts l n k (subst (λ (ys : List ℕ). (i : ℕ) → i < length ys → get_or ys i 0 < c.args.written.now.index.now.source.names) (sym e) b) f) c.loop-x-test.false (no-left-tokens ts l n) ∙ ap (λ (ys : List ℕ). emits c.args.output.now (join (operand_tokens (left_trees ts l n ys)))) e
