-- What a line of actors has in front of its files.
use Rattle.std.specs.Prelude.{ℕ, List, [], ◌∷◌, IsSome}
use Rattle.ns_run_words.specs.Letter.{letter_in}

-- The names begin with a letter.
abbrev pub HasLetter : List (List ℕ) → Type 0
HasLetter [] = ⊥
HasLetter (count ∷ []) = ⊥
HasLetter (count ∷ sel ∷ []) = ⊥
HasLetter (count ∷ sel ∷ argument ∷ files) = IsSome (letter_in count sel argument)
