-- The forms of a command line as data (this profile).
use Rattle.std.specs.Prelude.{ℕ, ◌==◌, List, [], ◌∷◌, true, false, Option, Some, None, codes, if◌then◌else◌}
use Rattle.std.specs.Str.{bytes_eq}
use Rattle.ns_base.specs.declared.limits.Limits.{Limits}
use Rattle.ns_run_words.specs.declared.form.Form.{Form}
use Rattle.ns_run_words.specs.declared.form.Item.{Item}
use Rattle.ns_run_words.specs.declared.form.Item.TheVariants.{File, Number, Application, Text, Topic, Selector, Integer, Move}
use Rattle.ns_run_words.specs.declared.form.Lead.{Lead}
use Rattle.ns_run_words.specs.declared.form.Lead.TheVariants.{Nothing, Letter, Source}
use Rattle.ns_run_words.specs.declared.form.Verb.{Verb}
use Rattle.ns_run_words.specs.declared.form.Verb.TheVariants.{Check, Show, Format, Run, Eval, Build, Exec, Listing, Session, Sample, Actors, Audit, Test, Snap, Resume, Replay, Library, Help, Explain, Version}

-- the greatest limits of a run
abbrev pub greatest : Limits
greatest = record { steps = 1000000000000; cells = 64000000; depth = 100000; out = 16777216 }

-- the greatest limits of each of several runs side by side
abbrev pub greatest_of_many : Limits
greatest_of_many = record { steps = 1000000000000; cells = 4000000; depth = 10000; out = 16777216 }

-- the form of so many names of files, with no option
abbrev pub names_alone : ℕ → ℕ → Form
names_alone least most =
    record {
      greatest = None;
      quantum = false;
      lib = false;
      tests = false;
      denies = false;
      runs = false;
      json = false;
      checks = false;
      members = false;
      to = false;
      at = false;
      lead = Nothing;
      item = File;
      least = least;
      most = most;
      arguments = None;
    }

-- the form of the files of a program
abbrev pub of_program : Form
of_program = record (names_alone 1 16) { lib = true }

-- a form with the options of a run and with arguments
abbrev pub run_of : Form → Form
run_of form = record form { greatest = Some greatest; runs = true; json = true; arguments = Some 255 }

-- the form of each command: the greatest limits that its options can give, where it takes these; whether it takes
-- `--quantum=N`, `--lib`, the options of tests, denials, the options of runs and of checks, `--json`, `--members`, and `--to=IMAGE`, which
-- takes the place of the first name; whether `--at=N` must be there; what the first names are, and each other; the fewest names and the most;
-- how many arguments, with texts among them
abbrev pub form_of : Verb → Form
form_of Check = record of_program { checks = true; json = true }
form_of Show = names_alone 1 1
form_of Format = names_alone 1 1
form_of Run = run_of of_program
form_of Eval = run_of (record (names_alone 1 1) { lib = true; item = Text })
form_of Build = record (names_alone 2 17) { lib = true; to = true; json = true }
form_of Exec = run_of (names_alone 1 1)
form_of Listing = record (names_alone 1 1) { members = true }
form_of Session =
    record (names_alone 1 16) { greatest = Some greatest_of_many; quantum = true; lib = true; json = true; item = Application }
form_of Sample = record (names_alone 1 1) { item = Number 1000 }
form_of Actors = record (names_alone 4 19) { greatest = Some greatest_of_many; lib = true; json = true; lead = Letter }
form_of Audit = record (names_alone 2 2) { denies = true; json = true }
form_of Test = record of_program { greatest = Some greatest; tests = true; json = true }
form_of Snap = record (names_alone 2 17) { greatest = Some greatest; lib = true; at = true }
form_of Resume = names_alone 1 1
form_of Replay = record (names_alone 2 17) { greatest = Some greatest_of_many; lib = true; lead = Source; item = Move }
form_of Library = names_alone 0 0
form_of Help = names_alone 0 0
form_of Explain = record (names_alone 0 1) { item = Topic }
form_of Version = names_alone 0 0

-- what the name behind so many others is, where a letter stands in front of names of that kind
abbrev pub in_letter : Item → ℕ → Item
in_letter item count = if count == 0 then Number 16 else (if count == 1 then Selector else (if count == 2 then Integer else item))

-- what it is, where the file of a program stands in front of them
abbrev pub behind_source : Item → ℕ → Item
behind_source item count = if count == 0 then File else item

abbrev pub item_behind : Lead → Item → ℕ → Item
item_behind Nothing item count = item
item_behind Letter item count = in_letter item count
item_behind Source item count = behind_source item count

-- what the name behind so many others is
abbrev pub item_at : Form → ℕ → Item
item_at form count = item_behind form.lead form.item count

-- the first words of a command's form, each of which names it
abbrev pub words_of : Verb → List (List ℕ)
words_of Check = codes "check" ∷ []
words_of Show = codes "show" ∷ []
words_of Format = codes "format" ∷ []
words_of Run = codes "run" ∷ []
words_of Eval = codes "eval" ∷ []
words_of Build = codes "build" ∷ []
words_of Exec = codes "exec" ∷ []
words_of Listing = codes "list" ∷ []
words_of Session = codes "session" ∷ []
words_of Sample = codes "sample" ∷ []
words_of Actors = codes "actors" ∷ []
words_of Audit = codes "audit" ∷ []
words_of Test = codes "test" ∷ []
words_of Snap = codes "snap" ∷ []
words_of Resume = codes "resume" ∷ []
words_of Replay = codes "replay" ∷ []
words_of Library = codes "library" ∷ []
words_of Help = codes "--help" ∷ codes "-h" ∷ []
words_of Explain = codes "help" ∷ []
words_of Version = codes "--version" ∷ codes "-V" ∷ []

-- the command that a first word names, of those that tell of the program itself
abbrev pub telling_verb_of : List ℕ → Option Verb
telling_verb_of word =
    if bytes_eq word (codes "--help") then Some Help
    else (if bytes_eq word (codes "-h") then Some Help
    else (if bytes_eq word (codes "help") then Some Explain
    else (if bytes_eq word (codes "--version") then Some Version
    else (if bytes_eq word (codes "-V") then Some Version
    else None))))

-- the command that a first word names
abbrev pub verb_of : List ℕ → Option Verb
verb_of word =
    if bytes_eq word (codes "check") then Some Check
    else (if bytes_eq word (codes "show") then Some Show
    else (if bytes_eq word (codes "format") then Some Format
    else (if bytes_eq word (codes "run") then Some Run
    else (if bytes_eq word (codes "eval") then Some Eval
    else (if bytes_eq word (codes "build") then Some Build
    else (if bytes_eq word (codes "exec") then Some Exec
    else (if bytes_eq word (codes "list") then Some Listing
    else (if bytes_eq word (codes "session") then Some Session
    else (if bytes_eq word (codes "sample") then Some Sample
    else (if bytes_eq word (codes "actors") then Some Actors
    else (if bytes_eq word (codes "audit") then Some Audit
    else (if bytes_eq word (codes "test") then Some Test
    else (if bytes_eq word (codes "snap") then Some Snap
    else (if bytes_eq word (codes "resume") then Some Resume
    else (if bytes_eq word (codes "replay") then Some Replay
    else (if bytes_eq word (codes "library") then Some Library
    else telling_verb_of word))))))))))))))))
