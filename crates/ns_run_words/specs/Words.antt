-- How the words of a command line are read, one after the other, over the form of its command (this profile).
use Rattle.std.specs.Prelude.{ℕ, ℤ, pos, neg_ℤ, ◌+◌, ◌-◌, ◌*◌, ◌&&◌, ◌||◌, ◌==◌, nat_le, nat_lt, List, [], ◌∷◌, ◌++◌, Bool, true, false, Option, Some, None, option_map, option_and_then, take, drop, length, codes, nat_eq, if◌then◌else◌}
use Rattle.std.specs.Option.{is_some, unwrap_or}
use Rattle.std.specs.Str.{bytes_eq}
use Rattle.ns_base.specs.Spelling.{is_digit, is_selector}
use Rattle.ns_base.specs.declared.limits.Limits.{Limits}
use Rattle.ns_code.specs.Selector.{text_arity}
use Rattle.ns_help.specs.Topics.{text_of}
use Rattle.ns_run_words.specs.Application.{is_application}
use Rattle.ns_run_words.specs.FileName.{is_file_name, is_text}
use Rattle.ns_run_words.specs.Options.{arguments_of, denial_where, run_where, tests_where, value_behind}
use Rattle.ns_run_words.specs.Own.{least_of, most_of, own_option}
use Rattle.ns_run_words.specs.Table.{form_of, item_at, verb_of}
use Rattle.ns_run_words.specs.declared.form.Form.{Form}
use Rattle.ns_run_words.specs.declared.form.Item.{Item}
use Rattle.ns_run_words.specs.declared.form.Item.TheVariants.{File, Number, Application, Text, Topic, Selector, Integer, Move}
use Rattle.ns_run_words.specs.declared.form.Verb.{Verb}
use Rattle.ns_run_words.specs.declared.moves.Move as moves
use Rattle.ns_run_words.specs.declared.moves.Move.TheVariants.{Forward, Back, To}
use Rattle.ns_run_words.specs.declared.words.Given.{Given}

-- What a command line says: its command, what its options give, these options, the names and the arguments.
pub record CommandLine : Type 0 where
  pub verb : Verb
  pub given : Given
  pub options : List (List ℕ)
  pub names : List (List ℕ)
  pub arguments : List (List ℕ)

-- What the words of a command line are read as: what they say, or the first bad word.
pub data LineReading : Type 0 where
  says : (line : CommandLine) → LineReading
  bad : (word : ℕ) → LineReading

-- What was read so far behind the first word: options; or also names; or also `--` and arguments.
pub data ReadSoFar : Type 0 where
  Options : (given : Given) (options : List (List ℕ)) → ReadSoFar
  Names : (given : Given) (options names : List (List ℕ)) → ReadSoFar
  Arguments : (given : Given) (options names arguments : List (List ℕ)) → ReadSoFar

-- ---- numbers

-- the number whose first digits are n, and whose others follow
abbrev pub value_from : ℕ → List ℕ → Option ℕ
value_from n [] = Some n
value_from n (d ∷ ds) = if is_digit d then value_from (n * 10 + (d - 48)) ds else None

-- the number, where it is from 1 to the greatest
abbrev pub in_range : ℕ → ℕ → Option ℕ
in_range greatest n = if nat_le 1 n && nat_le n greatest then Some n else None

-- Nothing, or a leading zero: no number begins so.
abbrev pub begins_bad : List ℕ → Bool
begins_bad [] = true
begins_bad (d ∷ ds) = nat_eq d 48

-- a decimal number without a leading zero, from 1 to the greatest
abbrev pub number_of : ℕ → List ℕ → Option ℕ
number_of greatest text = if begins_bad text then None else option_and_then (in_range greatest) (value_from 0 text)

-- a number of steps: 0, or one from 1 on
abbrev pub steps_of : List ℕ → Option ℕ
steps_of text = if bytes_eq text (codes "0") then Some 0 else number_of 1000000000000 text

-- an integer of 64 bits: 0, or a decimal number without a leading zero; a dash stands in front of a negative one
abbrev pub natural_of : List ℕ → Option ℤ
natural_of text = if bytes_eq text (codes "0") then Some (pos 0) else option_map pos (number_of 9223372036854775807 text)

abbrev pub integer_of : List ℕ → Option ℤ
integer_of [] = None
integer_of (d ∷ ds) =
    if nat_eq d 45 then option_map (λ (n : ℕ). neg_ℤ (pos n)) (number_of 9223372036854775808 ds) else natural_of (d ∷ ds)

-- a selector of one argument
abbrev pub takes_one : List ℕ → Bool
takes_one text = is_selector text && text_arity text == 1

-- ---- moves of a replay

-- whether a byte is the sign of a move: `+`, `-` or `=`
abbrev pub is_sign : ℕ → Bool
is_sign b = nat_eq b 43 || nat_eq b 45 || nat_eq b 61

-- whether a word is a move: a sign, and a number of steps
abbrev pub is_move : List ℕ → Bool
is_move [] = false
is_move (b ∷ bs) = is_sign b && is_some (steps_of bs)

-- the move of that sign and so many steps
abbrev pub signed : ℕ → ℕ → moves.Move
signed b steps = if nat_eq b 43 then Forward steps else (if nat_eq b 45 then Back steps else To steps)

-- how many steps a move names
abbrev pub steps_in : moves.Move → ℕ
steps_in (Forward steps) = steps
steps_in (Back steps) = steps
steps_in (To step) = step

-- the move that a word is
abbrev pub move_of : List ℕ → moves.Move
move_of [] = To 0
move_of (b ∷ bs) = signed b (unwrap_or (steps_of bs) 0)

-- ---- options

-- no option
abbrev pub nothing_given : Given
nothing_given =
    record {
      steps = None;
      cells = None;
      depth = None;
      out = None;
      quantum = None;
      lib = false;
      reverse = false;
      only = false;
      denied = 0;
      stats = false;
      trace = false;
      truth = false;
      json = false;
      all = false;
      sends = false;
      members = false;
      to = false;
      at = None;
      texts = 0;
    }

-- the number that a word gives which begins with an option's name, where that option wasn't given before
abbrev pub number_given : List ℕ → ℕ → Option ℕ → List ℕ → Option ℕ
number_given name greatest (Some n) word = None
number_given name greatest None word =
    if bytes_eq (take (length name) word) name then number_of greatest (drop (length name) word) else None

abbrev pub with_lib : Given → Option Given
with_lib given = if given.lib then None else Some (record given { lib = true })

abbrev pub with_out : Given → Option ℕ → Option Given
with_out given None = None
with_out given (Some n) = Some (record given { out = Some n })

abbrev pub with_depth : Given → Option ℕ → Option Given → Option Given
with_depth given None other = other
with_depth given (Some n) other = Some (record given { depth = Some n })

abbrev pub with_cells : Given → Option ℕ → Option Given → Option Given
with_cells given None other = other
with_cells given (Some n) other = Some (record given { cells = Some n })

abbrev pub with_steps : Given → Option ℕ → Option Given → Option Given
with_steps given None other = other
with_steps given (Some n) other = Some (record given { steps = Some n })

-- what is given with a word more that is the option of a limit, where these are the greatest
abbrev pub with_limit : Limits → Given → List ℕ → Option Given
with_limit greatest given word =
    with_steps given (number_given (codes "--steps=") greatest.steps given.steps word)
    (with_cells given (number_given (codes "--cells=") greatest.cells given.cells word)
    (with_depth given (number_given (codes "--depth=") greatest.depth given.depth word)
    (with_out given (number_given (codes "--out=") greatest.out given.out word))))

abbrev pub limit_where : Option Limits → Given → List ℕ → Option Given
limit_where None given word = None
limit_where (Some greatest) given word = with_limit greatest given word

abbrev pub with_quantum : Given → Option ℕ → Option Given
with_quantum given None = None
with_quantum given (Some n) = Some (record given { quantum = Some n })

-- what is given with a word more that is the option of the quantum
abbrev pub quantum_where : Bool → Given → List ℕ → Option Given
quantum_where takes given word =
    if takes then with_quantum given (number_given (codes "--quantum=") 1000000 given.quantum word) else None

-- the steps behind which a run is paused, as a word gives them that is this option, where they weren't given before
abbrev pub at_given : Option ℕ → List ℕ → Option ℕ
at_given (Some n) word = None
at_given None word = option_and_then steps_of (value_behind (codes "--at=") word)

abbrev pub with_at : Given → Option ℕ → Option Given
with_at given None = None
with_at given (Some n) = Some (record given { at = Some n })

-- what is given with a word more that is the option of a pause
abbrev pub at_where : Bool → Given → List ℕ → Option Given
at_where takes given word = if takes then with_at given (at_given given.at word) else None

-- the first that is there
abbrev pub given_or : Option Given → Option Given → Option Given
given_or (Some given) other = Some given
given_or None other = other

-- what is given with one word more: an option that the form takes, and that wasn't given before, or one more denial or text
abbrev pub with_option : Form → Given → List ℕ → Option Given
with_option form given word =
    if bytes_eq word (codes "--lib") then (if form.lib then with_lib given else None)
    else given_or (quantum_where form.quantum given word)
    (given_or (tests_where form.tests given word)
    (given_or (denial_where form.denies given word)
    (given_or (run_where form.runs given word)
    (given_or (own_option form given word)
    (given_or (at_where form.at given word) (limit_where form.greatest given word))))))

-- whether the options are there without which the form takes no name
abbrev pub has_needed : Form → Given → Bool
has_needed form given = if form.denies then nat_lt 0 given.denied else (if form.at then is_some given.at else true)

-- the limits that are given, and the defaults of the others
abbrev pub limits_of : Given → Limits
limits_of given =
    record {
      steps = unwrap_or given.steps 10000000;
      cells = unwrap_or given.cells 4000000;
      depth = unwrap_or given.depth 10000;
      out = unwrap_or given.out 1048576;
    }

-- the steps of a turn that are given, or the default
abbrev pub quantum_of : Given → ℕ
quantum_of given = unwrap_or given.quantum 1000

-- the steps behind which a run is paused
abbrev pub at_of : Given → ℕ
at_of given = unwrap_or given.at 0

-- ---- one word

-- a word that can be a name of a command: the name of a file, a number from 1 to the greatest, an application, any text without a
-- dash in front, what there is a text on, a selector of one argument, an integer, or a move
abbrev pub is_item : Item → List ℕ → Bool
is_item File word = is_file_name word
is_item (Number greatest) word = is_some (number_of greatest word)
is_item Application word = is_application word
is_item Text word = is_text word
is_item Topic word = is_some (text_of word)
is_item Selector word = takes_one word
is_item Integer word = is_some (integer_of word)
is_item Move word = is_move word

-- Behind so many arguments another one may stand.
abbrev pub has_room : Option ℕ → ℕ → Bool
has_room None count = false
has_room (Some most) count = nat_lt count most

-- what is read with an argument more
abbrev pub with_argument : Form → Given → List (List ℕ) → List (List ℕ) → List (List ℕ) → List ℕ → Option ReadSoFar
with_argument form given options names arguments word =
    if has_room (arguments_of form given) (length arguments) then Some (Arguments given options names (arguments ++ word ∷ [])) else None

-- how many arguments may stand behind the word, where it is `--` and the form takes it behind so many names
abbrev pub arguments_behind : Form → Given → ℕ → List ℕ → Option ℕ
arguments_behind form given count word =
    if bytes_eq word (codes "--") && nat_le (least_of form given) count then arguments_of form given else None

-- what is read with `--` behind the names, where so many arguments may stand behind it
abbrev pub with_dashes : Given → List (List ℕ) → List (List ℕ) → Option ℕ → Option ReadSoFar
with_dashes given options names None = None
with_dashes given options names (Some most) = Some (Arguments given options names [])

-- what is read with a word more behind names: another name, or `--`
abbrev pub with_name : Form → Given → List (List ℕ) → List (List ℕ) → List ℕ → Option ReadSoFar
with_name form given options names word =
    if is_item (item_at form (length names)) word && nat_lt (length names) (most_of form given) && has_needed form given
    then Some (Names given options (names ++ word ∷ []))
    else with_dashes given options names (arguments_behind form given (length names) word)

-- an option more, or else the other
abbrev pub option_or : Option ReadSoFar → List (List ℕ) → Option Given → Option ReadSoFar
option_or other options None = other
option_or other options (Some given) = Some (Options given options)

-- what is read with a word more, where a form can go on so
abbrev pub with_word : Form → ReadSoFar → List ℕ → Option ReadSoFar
with_word form (Options given options) word =
    option_or (with_name form given options [] word) (options ++ word ∷ []) (with_option form given word)
with_word form (Names given options names) word = with_name form given options names word
with_word form (Arguments given options names arguments) word = with_argument form given options names arguments word

-- ---- all words

abbrev pub given_of : ReadSoFar → Given
given_of (Options given options) = given
given_of (Names given options names) = given
given_of (Arguments given options names arguments) = given

abbrev pub options_read : ReadSoFar → List (List ℕ)
options_read (Options given options) = options
options_read (Names given options names) = options
options_read (Arguments given options names arguments) = options

abbrev pub names_read : ReadSoFar → List (List ℕ)
names_read (Options given options) = []
names_read (Names given options names) = names
names_read (Arguments given options names arguments) = names

abbrev pub arguments_read : ReadSoFar → List (List ℕ)
arguments_read (Options given options) = []
arguments_read (Names given options names) = []
arguments_read (Arguments given options names arguments) = arguments

-- what all words say, of which this was read
abbrev pub line_of : Verb → ReadSoFar → CommandLine
line_of verb part =
    record { verb = verb; given = given_of part; options = options_read part; names = names_read part; arguments = arguments_read part }

-- what the words are read as that end here, where the next would be number k
abbrev pub ended : Verb → ℕ → ReadSoFar → LineReading
ended verb k part =
    if nat_le (least_of (form_of verb) (given_of part)) (length (names_read part)) then says (line_of verb part) else bad k

abbrev pub part_or : LineReading → (ReadSoFar → LineReading) → Option ReadSoFar → LineReading
part_or other next None = other
part_or other next (Some part) = next part

-- what the words are read as that stand behind those that were read, of which the first is number k
abbrev pub read_from : Verb → ReadSoFar → ℕ → List (List ℕ) → LineReading
read_from verb part k [] = ended verb k part
read_from verb part k (word ∷ words) =
    part_or (bad k) (λ more. read_from verb more (k + 1) words) (with_word (form_of verb) part word)

abbrev pub after_verb : List (List ℕ) → Option Verb → LineReading
after_verb words None = bad 0
after_verb words (Some verb) = read_from verb (Options nothing_given []) 1 words

-- what the words say, or the first bad word
abbrev pub reading_of : List (List ℕ) → LineReading
reading_of [] = bad 0
reading_of (word ∷ words) = after_verb words (verb_of word)

-- the number of the sample that a line asks for, which is its one name
abbrev pub sample_number : List (List ℕ) → Option ℕ
sample_number [] = None
sample_number (name ∷ []) = number_of 1000 name
sample_number (name ∷ next ∷ more) = None

-- the names of a line
abbrev pub names_of : LineReading → List (List ℕ)
names_of (says line) = line.names
names_of (bad word) = []

-- the first bad word where that of this number is none of any form
abbrev pub bad_of : ℕ → LineReading → ℕ
bad_of k (says line) = k
bad_of k (bad word) = word

-- the first bad word of a line on which a word that is no text stands behind these
abbrev pub first_bad : List (List ℕ) → ℕ
first_bad words = bad_of (length words) (reading_of words)
