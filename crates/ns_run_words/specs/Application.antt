-- Applications of a session as words: letters of what is granted, `=`, and the names of files (this profile).
use Rattle.std.specs.Prelude.{◌≡◌, ℕ, ◌&&◌, nat_eq, nat_le, List, [], ◌∷◌, Bool, true, false, length, if◌then◌else◌}
use Rattle.ns_run_words.specs.FileName.{is_file_name}

-- ---- letters

-- Whether a text begins with that byte.
abbrev pub begins : ℕ → List ℕ → Bool
begins b [] = false
begins b (x ∷ xs) = nat_eq x b

-- the text without that byte, where it begins with it
abbrev pub without : ℕ → List ℕ → List ℕ
without b [] = []
without b (x ∷ xs) = if nat_eq x b then xs else x ∷ xs

-- what is left of a word behind `c`, where that is there, then `k`, then `m`, then `b`
abbrev pub behind_console : List ℕ → List ℕ
behind_console word = without 99 word

abbrev pub behind_kernel : List ℕ → List ℕ
behind_kernel word = without 107 (behind_console word)

abbrev pub behind_mirrors : List ℕ → List ℕ
behind_mirrors word = without 109 (behind_kernel word)

abbrev pub behind_board : List ℕ → List ℕ
behind_board word = without 98 (behind_mirrors word)

-- ---- names

abbrev pub onto_first : ℕ → List (List ℕ) → List (List ℕ)
onto_first b [] = (b ∷ []) ∷ []
onto_first b (text ∷ texts) = (b ∷ text) ∷ texts

-- the names that `+` joins
abbrev pub names_in : List ℕ → List (List ℕ)
names_in [] = [] ∷ []
names_in (b ∷ bs) = if nat_eq b 43 then [] ∷ names_in bs else onto_first b (names_in bs)

abbrev pub all_name_files : List (List ℕ) → Bool
all_name_files [] = true
all_name_files (name ∷ names) = is_file_name name && all_name_files names

-- at most so many, each the name of a file
abbrev pub are_few : ℕ → List (List ℕ) → Bool
are_few most names = nat_le (length names) most && all_name_files names

-- ---- words

-- What a word asks for: what the application is granted, and the names of its files.
pub record Asked : Type 0 where
  pub console : Bool
  pub kernel : Bool
  pub mirrors : Bool
  pub board : Bool
  pub names : List (List ℕ)

abbrev pub asked_of : List ℕ → Asked
asked_of word =
    record {
      console = begins 99 word;
      kernel = begins 107 (behind_console word);
      mirrors = begins 109 (behind_kernel word);
      board = begins 98 (behind_mirrors word);
      names = names_in (without 61 (behind_board word));
    }

-- a word that asks for an application: its letters stand in front of `=`, and 1 to 16 names behind it
abbrev pub is_application : List ℕ → Bool
is_application word = begins 61 (behind_board word) && are_few 16 (asked_of word).names

-- Each of these words asks for an application.
abbrev pub AreApplications : List (List ℕ) → Type 0
AreApplications [] = Unit {0}
AreApplications (word ∷ words) = (is_application word ≡ true) × AreApplications words
