-- The clock in the count's row, the left names, then the right side.
use Rattle.clock_tables.specs.Value.{value_of}
use Rattle.inference.proofs.PassesLaws.{name-below}
use Rattle.checking.proofs.Left.{left-laid, equation-whole}
use Rattle.checking.proofs.Walk.{equation-stored}
use Rattle.checking.proofs.check_equation.Goals as goal

pub returns-clause-ends : goal.returns-clause-ends
returns-clause-ends c = λ e q g.
    let p = left-laid c.args.input.now.source c.args.at _ c.names_at-left.ensures e q g in
    (c.check_expr.ensures.traversed e.right q p.1).end

pub returns-clause-held : goal.returns-clause-held
returns-clause-held c = λ node clocks e q r g.
    let s = c.args.input.now.source in
    let p = left-laid s c.args.at _ c.names_at-left.ensures e q g in
    let same = c.names_in-names.ensures.read e.left _ p.0 in
    let below = name-below s _ _ _ e.left _ same p.0 in
    let l = c.check_left.ensures.held node clocks r below in
    equation-whole node clocks c.args.input.now.equation (value_of c.args.on) e _ _ _ _ _ same c.put_site.ensures.same_findings l ((c.check_expr.ensures.traversed e.right q p.1).holds clocks r.agrees)

pub returns-clause-stored : goal.returns-clause-stored
returns-clause-stored c = λ e q g.
    let p = left-laid c.args.input.now.source c.args.at _ c.names_at-left.ensures e q g in
    equation-stored c.args.input.now _ _ _ (value_of c.args.on) c.args.at _ _ c.check_expr.ensures.traversed c.put_site.ensures.stored c.check_expr.ensures.stays.sites_length e q g p.1 p.2 p.3
