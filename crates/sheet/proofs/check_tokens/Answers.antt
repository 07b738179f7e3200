use Rattle.std.proofs.lemmas.Result.{err_from_is_err_and}
use Rattle.sheet.proofs.Laws.{tokens-read, tokens-refused}
use Rattle.sheet.proofs.check_tokens.Goals as goal

pub returns-in_err-read_sheet : goal.returns-in_err-read_sheet
returns-in_err-read_sheet c =
    let p = err_from_is_err_and c.from_residual.result c.from_residual.ensures.1 in
    rw (p.1, p.2) (tokens-refused _ _ _ _ c.read_sheet.ensures c.in_err-read_sheet.was)

pub returns : goal.returns
returns c = tokens-read _ _ _ _ c.check_types.result c.read_sheet.ensures c.in_ok-read_sheet.was c.check_types.ensures
