-- `parts::read_sizes` meets its contract. Assumes nothing.
use Rattle.parts.specs.Answers.{SizesTold}
use Rattle.parts.proofs.Laws.{SizesRead, short, sizes-read, many-names, many-letters, few-tokens, many-tokens, other_length, sized}
use Rattle.parts.proofs.read_sizes.Goals as goal
use Rattle.parts.proofs.read_sizes.Goals.{After-read_word-tokens, then-tokens-lt2-via-then-tokens-lt2, then-tokens-lt2-via-else-tokens-lt2+then-tokens-gt-MOST_TOKENS}

-- where the three sizes are read
sizes : (c : goal.After-read_word-tokens) → SizesRead c.args.sheet.now c.read_word-names.result c.read_word-letters.result c.read_word-tokens.result
sizes c = sizes-read c.args.sheet.now c.if-sheet-lt12.false _ _ _ c.read_word-names.ensures c.read_word-letters.ensures c.read_word-tokens.ensures

pub returns-then-sheet-lt12 : goal.returns-then-sheet-lt12
unfolding SizesTold
returns-then-sheet-lt12 c = short c.args.sheet.now c.if-sheet-lt12.true

pub returns-then-names-gt-MOST_NAMES : goal.returns-then-names-gt-MOST_NAMES
unfolding SizesTold
returns-then-names-gt-MOST_NAMES c = many-names (sizes (goal.at.returns-then-names-gt-MOST_NAMES c).After-read_word-tokens) c.if-sheet-lt12.false c.if-names-gt-MOST_NAMES.true

pub returns-then-letters-gt-MOST_LETTERS : goal.returns-then-letters-gt-MOST_LETTERS
unfolding SizesTold
returns-then-letters-gt-MOST_LETTERS c =
    many-letters (sizes (goal.at.returns-then-letters-gt-MOST_LETTERS c).After-read_word-tokens) c.if-sheet-lt12.false c.if-names-gt-MOST_NAMES.false c.if-letters-gt-MOST_LETTERS.true

pub returns-then-tokens-lt2 : goal.returns-then-tokens-lt2
unfolding SizesTold
returns-then-tokens-lt2 c = let r = sizes (goal.at.returns-then-tokens-lt2 c).After-read_word-tokens in elim c.then-tokens-lt2.branch [
  | then-tokens-lt2-via-then-tokens-lt2 w ↦ few-tokens r c.if-sheet-lt12.false c.if-names-gt-MOST_NAMES.false c.if-letters-gt-MOST_LETTERS.false w.if-tokens-lt2.true
  | then-tokens-lt2-via-else-tokens-lt2+then-tokens-gt-MOST_TOKENS w ↦ many-tokens r c.if-sheet-lt12.false c.if-names-gt-MOST_NAMES.false c.if-letters-gt-MOST_LETTERS.false w.if-tokens-lt2.false w.if-tokens-gt-MOST_TOKENS.true
]

pub returns-then-sheet-names : goal.returns-then-sheet-names
unfolding SizesTold
returns-then-sheet-names c =
    other_length (sizes (goal.at.returns-then-sheet-names c).After-read_word-tokens) c.if-sheet-lt12.false c.if-names-gt-MOST_NAMES.false c.if-letters-gt-MOST_LETTERS.false c.if-tokens-lt2.false c.if-tokens-gt-MOST_TOKENS.false c.if-sheet-names.true

pub returns : goal.returns
unfolding SizesTold
returns c =
    sized (sizes (goal.at.returns c).After-read_word-tokens) c.if-sheet-lt12.false c.if-names-gt-MOST_NAMES.false c.if-letters-gt-MOST_LETTERS.false c.if-tokens-lt2.false c.if-tokens-gt-MOST_TOKENS.false c.if-sheet-names.false
