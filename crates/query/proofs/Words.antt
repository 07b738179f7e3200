-- Entries joined. Assumes nothing.
use mathlib.Core.Path.{◌≡◌, sym, ◌∙◌, ap}
use mathlib.Core.List.{List, [], ◌∷◌, ◌++◌, map, append_assoc, append-nil}
use Rattle.definitions.specs.Lists.{join}

-- one item more
pub join_last : {A B : Type 0} (f : A → List B) (l : List A) (a : A) → join (map f (l ++ (a ∷ []))) ≡ join (map f l) ++ f a
join_last f [] a = append-nil (f a)
join_last f (b ∷ l) a = ap (λ r. f b ++ r) (join_last f l a) ∙ sym (append_assoc (f b) (join (map f l)) (f a))
