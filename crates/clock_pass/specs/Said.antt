-- Fault records in words, three words a record, as they lie in memory for callers in C. No fault has the number 0, which ends the records;
-- there are at most 4,096.
use Rattle.std.specs.Prelude.{ℕ, zero, suc, ◌+◌, ◌*◌, ◌/◌, List, [], ◌∷◌, eqb, get_or, length, take, drop}
use Rattle.definitions.specs.declared.FaultRecord.{FaultRecord}
use Rattle.definitions.specs.Lists.{choose, join, over}

-- record i of some words: "A fault record holds node, fault and equation."
abbrev pub record_at : List ℕ → ℕ → FaultRecord
record_at words i = record { node = get_or words (3 * i) 0; fault = get_or words (3 * i + 1) 0; equation = get_or words (3 * i + 2) 0 }

-- the first n records of some words
abbrev pub records : List ℕ → ℕ → List FaultRecord
records words zero = []
records words (suc n) = record_at words 0 ∷ records (drop 3 words) n

-- how many of at most n records some words say
unfoldable pub count_of : ℕ → List ℕ → ℕ
count_of zero words = 0
count_of (suc n) words = choose (eqb (get_or words 1 0) 0) 0 (suc (count_of n (drop 3 words)))

-- how many records some words say
unfoldable pub count : List ℕ → ℕ
unfolding count_of
count words = count_of 4096 words

-- the records that some words say
unfoldable pub said : List ℕ → List FaultRecord
unfolding count
said words = records words (count words)

-- a fault in three words: "A fault record holds node, fault and equation."
abbrev pub record_words : FaultRecord → List ℕ
record_words r = r.node ∷ r.fault ∷ r.equation ∷ []

-- entries of so many words each over the front of a list, as many as it has whole places for; later words keep their values
unfoldable pub entries_over : ℕ → List (List ℕ) → List ℕ → List ℕ
entries_over size entries lent = over (join (take (length lent / size) entries)) lent
