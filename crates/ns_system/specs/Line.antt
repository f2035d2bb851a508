-- The words of a command line.
use Rattle.std.specs.Prelude.{◌≡◌, ℕ, zero, suc, ◌<◌, Bool, true, false, List, [], ◌∷◌, length, take, Option, Some, None, Result, Ok, Err, string_bytes}
use Rattle.std.specs.Prelude.{IsUtf8}
use Rattle.std.specs.declared.env.FillError.{FillError}
use Rattle.std.specs.declared.env.FillError.TheVariants.{NotPresent, TooLong}
use Rattle.ns_system.specs.declared.arguments.Found as words
use Rattle.ns_system.specs.declared.arguments.Found.TheVariants.{Text, Other, End}

-- the word of that number, if there is one
abbrev pub word_at : List (List ℕ) → ℕ → Option (List ℕ)
word_at [] i = None
word_at (word ∷ words) zero = Some word
word_at (word ∷ words) (suc i) = word_at words i

-- what is answered to one who asks for that word with that buffer
abbrev pub AnswersWord : Option (List ℕ) → List ℕ → Result ℕ FillError → Type 0
AnswersWord (Some word) buffer (Ok n) = take n buffer ≡ word
AnswersWord (Some word) buffer (Err NotPresent) = ⊥
AnswersWord (Some word) buffer (Err TooLong) = length buffer < length word
AnswersWord None buffer (Ok n) = ⊥
AnswersWord None buffer (Err NotPresent) = Unit {0}
AnswersWord None buffer (Err TooLong) = ⊥

-- what was found where that word is asked for: its text, that it is no text, or that there is none
abbrev pub IsFound : Option (List ℕ) → words.Found → Type 0
IsFound (Some word) (Text text) = IsUtf8 word × (string_bytes text ≡ word)
IsFound (Some word) Other = IsUtf8 word → ⊥
IsFound (Some word) End = ⊥
IsFound None (Text text) = ⊥
IsFound None Other = ⊥
IsFound None End = Unit {0}

-- These are the words up to the first that is no text, and the line is cut exactly where there is one.
abbrev pub AreWords : List (List ℕ) → (texts : List (List ℕ)) → (cut : Bool) → Type 0
AreWords [] [] cut = cut ≡ false
AreWords [] (text ∷ texts) cut = ⊥
AreWords (word ∷ words) [] cut = (IsUtf8 word → ⊥) × (cut ≡ true)
AreWords (word ∷ words) (text ∷ texts) cut = IsUtf8 word × (text ≡ word) × AreWords words texts cut
