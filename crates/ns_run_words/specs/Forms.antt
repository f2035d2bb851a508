-- The forms of a command line as relations, apart from how words are read.
use Rattle.std.specs.Prelude.{◌≡◌, ◌⊎◌, ℕ, ◌+◌, ◌<◌, ◌≤◌, List, [], ◌∷◌, ◌++◌, Option, Some, None, true, option_and_then, codes, take, length}
use Rattle.ns_run_words.specs.Options.{arguments_of}
use Rattle.ns_run_words.specs.Own.{least_of, most_of}
use Rattle.ns_run_words.specs.Table.{form_of, item_at, words_of}
use Rattle.ns_run_words.specs.Words.{CommandLine, LineReading, says, bad, has_needed, is_item, nothing_given, with_option}
use Rattle.ns_run_words.specs.declared.form.Form.{Form}
use Rattle.ns_run_words.specs.declared.form.Item.{Item}
use Rattle.ns_run_words.specs.declared.form.Item.TheVariants.{File}
use Rattle.ns_run_words.specs.declared.words.Given.{Given}

-- Each of these words can be a name of that kind.
abbrev pub AreItems : Item → List (List ℕ) → Type 0
AreItems item [] = Unit {0}
AreItems item (word ∷ words) = (is_item item word ≡ true) × AreItems item words

-- Each of these words can be a name of a form, behind so many others.
abbrev pub AreNames : Form → ℕ → List (List ℕ) → Type 0
AreNames form count [] = Unit {0}
AreNames form count (word ∷ words) = (is_item (item_at form count) word ≡ true) × AreNames form (count + 1) words

-- 1 to 16 names of files
abbrev pub AreFiles : List (List ℕ) → Type 0
AreFiles words = (1 ≤ length words) × (length words ≤ 16) × AreItems File words

-- what these words give beside what was given, each of them an option that the form takes behind those before it
abbrev pub all_given : Form → Given → List (List ℕ) → Option Given
all_given form given [] = Some given
all_given form given (word ∷ words) = option_and_then (λ more. all_given form more words) (with_option form given word)

-- The words are nothing; or, where a form takes so many arguments, `--` and at most so many.
abbrev pub AreArguments : Option ℕ → List (List ℕ) → List (List ℕ) → Type 0
AreArguments None words arguments = (words ≡ []) × (arguments ≡ [])
AreArguments (Some most) words arguments =
    ((words ≡ []) × (arguments ≡ [])) ⊎ ((words ≡ codes "--" ∷ arguments) × (length arguments ≤ most))

-- The word is one of these.
abbrev pub IsOneOf : List ℕ → List (List ℕ) → Type 0
IsOneOf word [] = ⊥
IsOneOf word (each ∷ others) = (word ≡ each) ⊎ IsOneOf word others

-- The words are a first word of a command, options in any order, names, and arguments, as its form takes them.
pub record IsForm (words : List (List ℕ)) (line : CommandLine) : Type 0 where
  pub first : List ℕ
  pub last : List (List ℕ)
  pub named_by : IsOneOf first (words_of line.verb)
  pub spelled : words ≡ first ∷ line.options ++ line.names ++ last
  pub given : all_given (form_of line.verb) nothing_given line.options ≡ Some line.given
  pub needed : has_needed (form_of line.verb) line.given ≡ true
  pub enough : least_of (form_of line.verb) line.given ≤ length line.names
  pub few : length line.names ≤ most_of (form_of line.verb) line.given
  pub named : AreNames (form_of line.verb) 0 line.names
  pub ends : AreArguments (arguments_of (form_of line.verb) line.given) last line.arguments

-- The line is what some words spell.
abbrev pub IsSpelledLine : CommandLine → Type 0
IsSpelledLine line = (words : List (List ℕ)) × IsForm words line

-- Some form begins with these words.
abbrev pub Begins : List (List ℕ) → Type 0
Begins words = (more : List (List ℕ)) × (line : CommandLine) × IsForm (words ++ more) line

-- What is read is what the words spell; or its bad word is the first, counted from 0, such that no form begins with
-- the words up to it, and the number of words where some form begins with them all.
abbrev pub IsReadingOf : List (List ℕ) → LineReading → Type 0
IsReadingOf words (says line) = IsForm words line
IsReadingOf words (bad word) =
    (word ≤ length words) × Begins (take word words) × (word < length words → Begins (take (word + 1) words) → ⊥)
