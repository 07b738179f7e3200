-- `new_names::node_names::NodeNames::fill` meets its contract: a few names are put in order and numbered. Assumes nothing.
use mathlib.Core.Path.{refl, ◌∙◌}
use Rattle.spelling.specs.Places.{letters_in}
use Rattle.stateless.specs.Whole.{no_needs, old_needs}
use Rattle.new_names.proofs.Apart.{apart_none, apart-old}
use Rattle.new_names.proofs.NodeTablesLaws.{many-needed, told-filled}
use native.Mathlib.Omega.{arith}
use Rattle.definitions.specs.Declock.{hold}
use Rattle.new_names.proofs.Added.{numbers-free, numbers-front}
use Rattle.new_names.proofs.node_names.NodeNames.fill.Goals as goal

pub returns-then-is_crowded : goal.returns-then-is_crowded
returns-then-is_crowded c = λ all node q condact cs types ns e laid few a b h. many-needed (old_needs types ns node condact cs no_needs) c.args.needs.now a b h (c.is_crowded.ensures.0 c.if-is_crowded.true)

pub returns : goal.returns
returns c = λ all node q condact cs types ns e laid few a b h.
    let own = c.ids.ensures.value ∙ c.of-own.ensures node q laid few in
    told-filled (old_needs types ns node condact cs no_needs) c.args.needs.now a b h all node _ (apart-old types ns node condact cs no_needs apart_none) (c.is_crowded.ensures.1 c.if-is_crowded.false)
    (letters_in c.args.named.spelling) e c.fill.ensures.sorted (c.fill.ensures.numbered all node e own) c.fill-2.ensures.sorted (c.fill-2.ensures.numbered all node e own) (numbers-front all node hold _ _ c.args.self.now.hold_numbers c.args.needs.now.holds _ (omega arith) (omega (arith, (c.is_crowded.ensures.1 c.if-is_crowded.false).holds)) (numbers-free all node hold _ _ _ _ e own c.fill_numbers.ensures)) refl refl
