-- `query::search_behind` meets its contract. Assumes nothing.
use Rattle.query.proofs.search_behind.Goals as goal

pub returns-clause-behind : goal.returns-clause-behind
returns-clause-behind c = λ i k f r. rw f.next at (c.deep_among.ensures.deeply f.rest f.last f.behind r)
