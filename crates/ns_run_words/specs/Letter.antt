-- The letter of a line of actors, which stands in front of the files.
use Rattle.std.specs.Prelude.{◌≡◌, ◌≤◌, ℕ, ℤ, List, Option, Some, None, true, if◌then◌else◌}
use Rattle.ns_run_words.specs.Words.{integer_of, number_of, takes_one}
use Rattle.ns_run_words.specs.declared.letter.Letter as letters

-- How many actors there are, and the selector and the argument of the letter to the first of them.
pub record PostedLetter : Type 0 where
  pub count : ℕ
  pub sel : List ℕ
  pub number : ℤ

-- So many actors can be there, and that can be the selector of a letter.
pub record MayAct (count : ℕ) (sel : List ℕ) : Type 0 where
  pub some : 1 ≤ count
  pub few : count ≤ 16
  pub selector : takes_one sel ≡ true

-- the letter that the code's stands for
abbrev pub letter_seen : letters.Letter → PostedLetter
letter_seen letter = record { count = letter.count; sel = letter.sel.now; number = letter.number }

-- the letter of that selector and that argument to the first of so many actors
abbrev pub letter_of : ℕ → List ℕ → Option ℤ → Option PostedLetter
letter_of count sel None = None
letter_of count sel (Some number) = if takes_one sel then Some (record { count = count; sel = sel; number = number }) else None

abbrev pub letter_to : Option ℕ → List ℕ → Option ℤ → Option PostedLetter
letter_to None sel argument = None
letter_to (Some count) sel argument = letter_of count sel argument

-- the letter that three words are: there are 1 to 16 actors, and the selector takes one argument
abbrev pub letter_in : (count sel argument : List ℕ) → Option PostedLetter
letter_in count sel argument = letter_to (number_of 16 count) sel (integer_of argument)
