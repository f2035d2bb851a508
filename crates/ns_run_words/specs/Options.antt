-- The options of tests, of audits and of runs (this profile).
use Rattle.std.specs.Prelude.{ℕ, ◌+◌, ◌-◌, nat_lt, List, [], ◌∷◌, Bool, true, Option, Some, None, option_map, take, drop, length, codes, if◌then◌else◌}
use Rattle.std.specs.Option.{option_or}
use Rattle.std.specs.Str.{bytes_eq}
use Rattle.ns_base.specs.Spelling.{is_identifier, is_selector}
use Rattle.ns_run_words.specs.FileName.{is_file_name}
use Rattle.ns_run_words.specs.declared.form.Form.{Form}
use Rattle.ns_run_words.specs.declared.words.Given.{Given}

-- what stands behind the name of an option, in a word that begins with it
abbrev pub value_behind : List ℕ → List ℕ → Option (List ℕ)
value_behind name word = if bytes_eq (take (length name) word) name then Some (drop (length name) word) else None

-- ---- tests

-- what is given with a word more that asks for the reverse order
abbrev pub with_reverse : Given → Option Given
with_reverse given = if given.reverse then None else Some (record given { reverse = true })

-- what is given with a word more that names the one test
abbrev pub with_only : Given → Option (List ℕ) → Option Given
with_only given None = None
with_only given (Some name) = if given.only then None else (if is_identifier name then Some (record given { only = true }) else None)

-- what is given with a word more that is an option of tests
abbrev pub tests_where : Bool → Given → List ℕ → Option Given
tests_where takes given word =
    if takes
    then (if bytes_eq word (codes "--reverse") then with_reverse given else with_only given (value_behind (codes "--only=") word))
    else None

-- the one test that options name, if they name one
abbrev pub only_among : List (List ℕ) → Option (List ℕ)
only_among [] = None
only_among (option ∷ options) = option_or (value_behind (codes "--only=") option) (only_among options)

-- ---- audits

-- what is given with a word more that denies a selector, as at most 16 do
abbrev pub with_denied : Given → Option (List ℕ) → Option Given
with_denied given None = None
with_denied given (Some text) =
    if is_selector text then (if nat_lt given.denied 16 then Some (record given { denied = given.denied + 1 }) else None) else None

-- what is given with a word more that is a denial
abbrev pub denial_where : Bool → Given → List ℕ → Option Given
denial_where takes given word = if takes then with_denied given (value_behind (codes "--deny=") word) else None

-- some denied selectors, and one before them, where there is one
abbrev pub with_denial : Option (List ℕ) → List (List ℕ) → List (List ℕ)
with_denial None denied = denied
with_denial (Some text) denied = text ∷ denied

-- the selectors that options deny
abbrev pub denied_by : List (List ℕ) → List (List ℕ)
denied_by [] = []
denied_by (option ∷ options) = with_denial (value_behind (codes "--deny=") option) (denied_by options)

-- ---- runs

-- what is given with a word more that asks for what was used
abbrev pub with_stats : Given → Option Given
with_stats given = if given.stats then None else Some (record given { stats = true })

-- what is given with a word more that asks for the sends that were open
abbrev pub with_trace : Given → Option Given
with_trace given = if given.trace then None else Some (record given { trace = true })

-- what is given with a word more that asks for the truth
abbrev pub with_truth : Given → Option Given
with_truth given = if given.truth then None else Some (record given { truth = true })

-- what is given with a word more that names the file of a text, as at most 255 do
abbrev pub with_text : Given → Option (List ℕ) → Option Given
with_text given None = None
with_text given (Some name) =
    if is_file_name name then (if nat_lt given.texts 255 then Some (record given { texts = given.texts + 1 }) else None) else None

-- what is given with a word more that is an option of runs
abbrev pub run_where : Bool → Given → List ℕ → Option Given
run_where takes given word =
    if takes
    then (if bytes_eq word (codes "--stats") then with_stats given
    else (if bytes_eq word (codes "--trace") then with_trace given
    else (if bytes_eq word (codes "--true") then with_truth given
    else with_text given (value_behind (codes "--text=") word))))
    else None

-- the most arguments behind what is given, where the form takes any: each text is one of them
abbrev pub arguments_of : Form → Given → Option ℕ
arguments_of form given = option_map (λ most. most - given.texts) form.arguments

-- what an option names, if anything, in front of other names
abbrev pub onto_names : Option (List ℕ) → List (List ℕ) → List (List ℕ)
onto_names None names = names
onto_names (Some name) names = name ∷ names

-- the files of the texts that options name, in their order
abbrev pub texts_among : List (List ℕ) → List (List ℕ)
texts_among [] = []
texts_among (option ∷ options) = onto_names (value_behind (codes "--text=") option) (texts_among options)
