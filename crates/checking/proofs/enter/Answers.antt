-- By the tag.
use mathlib.Core.Path.{refl}
use native.Mathlib.Omega.{arith}
use Rattle.std.proofs.Common.{rules}
use Rattle.definitions.specs.InferClocks.{used_elsewhere}
use Rattle.clock_tables.specs.Value.{value_of}
use Rattle.checking.proofs.Laws.{nothing-met, met-as, meets-name, meets-site, meets-none}
use Rattle.checking.proofs.enter.Goals as goal

pub returns-in-54-clause-held : goal.returns-in-54-clause-held
returns-in-54-clause-held c = λ clocks k. met-as _ _ _ _ _ (meets-name clocks c.args.input.now.equation (value_of c.args.on) c.args.tag c.args.value c.in-54.is) refl (c.must_be_on.ensures.held (λ d. used_elsewhere c.args.value d (value_of c.args.on)) clocks (λ d f p. search rules) (k c.in-54.is))

pub returns-in-58-clause-held : goal.returns-in-58-clause-held
returns-in-58-clause-held c = λ clocks k. met-as _ _ _ _ _ (meets-site clocks c.args.input.now.equation (value_of c.args.on) c.args.tag c.args.value (omega arith) (omega arith)) c.put_site-in-58.ensures.same_findings c.push.ensures

pub returns-in-60-clause-held : goal.returns-in-60-clause-held
returns-in-60-clause-held c = λ clocks k. nothing-met _ _ _ (meets-none clocks c.args.input.now.equation (value_of c.args.on) c.args.tag c.args.value (λ e. omega (arith, e, c.in-60.is)) (λ e. omega (arith, e, c.in-60.is)) (λ e. omega (arith, e, c.in-60.is))) c.put_site.ensures.same_findings

pub returns-then-tag-lt58-clause-held : goal.returns-then-tag-lt58-clause-held
returns-then-tag-lt58-clause-held c = λ clocks k. nothing-met _ _ _ (meets-none clocks c.args.input.now.equation (value_of c.args.on) c.args.tag c.args.value (λ e. omega (arith, e)) (λ e. omega (arith, e)) (λ e. omega (arith, e))) refl

pub returns-else-tag-lt60-clause-held : goal.returns-else-tag-lt60-clause-held
returns-else-tag-lt60-clause-held c = λ clocks k. nothing-met _ _ _ (meets-none clocks c.args.input.now.equation (value_of c.args.on) c.args.tag c.args.value (λ e. omega (arith, e)) (λ e. omega (arith, e)) (λ e. omega (arith, e))) refl
