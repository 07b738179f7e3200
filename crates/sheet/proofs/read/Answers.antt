use mathlib.Core.Path.{refl, sym, ◌∙◌}
use Rattle.std.proofs.lemmas.Result.{err_from_is_err_and}
use Rattle.sheet.proofs.Laws.{PartsStand, few, parts-refused, sheet-accepted, sheet-refused}
use Rattle.sheet.proofs.read.Goals as goal
use Rattle.sheet.proofs.read.Goals.{In_ok-sizes}

-- the parts of the sheet are read
stand : (c : goal.In_ok-sizes) → PartsStand c.args.sheet.now c.in_ok-sizes.sizes c.args.into.now c.read_parts.new.into
stand c =
    let e = c.read_parts.ensures in
    record { answer = sym c.in_ok-sizes.was ∙ e.answer; tags = e.tags; values = e.values; long = e.sized }

pub source_of-requires : goal.source_of-requires
source_of-requires c = let f = few (stand (goal.at.source_of-requires c).In_ok-sizes) in (f.1, f.0)

pub returns-in_err-sizes : goal.returns-in_err-sizes
returns-in_err-sizes c =
    let p = err_from_is_err_and c.from_residual.result c.from_residual.ensures.1 in
    rw (p.1, p.2) (parts-refused _ _ _ _ _ _ (sym c.in_err-sizes.was ∙ c.read_parts.ensures.answer) c.read_parts.ensures.tags c.read_parts.ensures.values)

pub returns : goal.returns
returns c =
    sheet-accepted (stand (goal.at.returns c).In_ok-sizes) refl c.check_tokens.result (rw (c.source_of.ensures.names, c.source_of.ensures.tags, c.source_of.ensures.values) at c.check_tokens.ensures) c.in_ok-check_tokens.was

pub returns-in_err-check_tokens : goal.returns-in_err-check_tokens
returns-in_err-check_tokens c =
    let p = err_from_is_err_and c.from_residual-in_err-check_tokens.result c.from_residual-in_err-check_tokens.ensures.1 in
    rw (p.1, p.2) (sheet-refused (stand (goal.at.returns-in_err-check_tokens c).In_ok-sizes) refl c.check_tokens.result (rw (c.source_of.ensures.names, c.source_of.ensures.tags, c.source_of.ensures.values) at c.check_tokens.ensures) c.in_err-check_tokens.was)
