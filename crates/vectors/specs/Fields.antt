-- The fields of a listed line, and bytes in hex.
use Rattle.std.specs.Prelude.{ℕ, suc, ◌+◌, ◌*◌, ◌-◌, ◌/◌, ◌%◌, [], ◌∷◌, eqb, ltb, take, drop}
use Rattle.definitions.specs.Lists.{choose, place_by, Letters}

-- the place of the first such byte; the length, where there is none
abbrev pub place_of : ℕ → Letters → ℕ
place_of x l = place_by (λ b. eqb b x) l

-- what stands before the first such byte
abbrev pub before : ℕ → Letters → Letters
before x l = take (place_of x l) l

-- what stands behind it
abbrev pub behind : ℕ → Letters → Letters
behind x l = drop (suc (place_of x l)) l

-- what a digit of hex stands for; 0 for any other byte
abbrev pub digit_of : ℕ → ℕ
digit_of b = choose (ltb b 48) 0 (choose (ltb b 58) (b - 48) (choose (ltb b 97) 0 (choose (ltb b 103) (b - 87) 0)))

-- the bytes that hex says
unfoldable pub decoded : Letters → Letters
decoded [] = []
decoded (a ∷ []) = []
decoded (a ∷ b ∷ l) = (16 * digit_of a + digit_of b) ∷ decoded l

-- the low four bits as a digit of hex
abbrev pub hex_digit : ℕ → ℕ
hex_digit b = choose (ltb (b % 16) 10) (48 + (b % 16)) (87 + (b % 16))

-- bytes in hex
unfoldable pub hex : Letters → Letters
hex [] = []
hex (b ∷ l) = hex_digit (b / 16) ∷ hex_digit b ∷ hex l
