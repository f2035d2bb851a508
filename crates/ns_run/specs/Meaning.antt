-- What a command means: what it stores, the bytes that it writes and its status, over the texts of its files.
use Rattle.std.specs.Prelude.{ℕ, Bool, List, Option, Some, None, length, option_map, map, ◌∷◌, ◌++◌, []}
use Rattle.ns_base.specs.Files.{Files}
use Rattle.ns_base.specs.declared.limits.Limits.{Limits}
use Rattle.ns_help.specs.Topics.{text_of}
use Rattle.ns_help.specs.declared.usage.TheConstants.{HELP, VERSION}
use Rattle.ns_json.specs.declared.saying.Saying.TheVariants as said
use Rattle.ns_lib.specs.Collections.{collections}
use Rattle.ns_run_files.specs.Guard.{of_built_to}
use Rattle.ns_run_files.specs.Programs.{of_check, of_eval, of_fault, of_format, of_sample, of_texts, run_of_texts}
use Rattle.ns_run_files.specs.Task.{Task, Checks, Shows, Builds, Acts, Tests, Snaps, Replays}
use Rattle.ns_run_image.specs.Image.{Lists, Audits, Resumes, of_exec, of_image}
use Rattle.ns_run_input.specs.Input.{RunWork, in_parts}
use Rattle.ns_run_outcome.specs.Report.{bad_word, told, too_large}
use Rattle.ns_run_outcome.specs.Styled.{styled}
use Rattle.ns_run_outcome.specs.declared.report.Report.{Report}
use Rattle.ns_run_outcome.specs.declared.run.Telling.{Telling}
use Rattle.ns_run_words.specs.Letter.{PostedLetter, letter_in}
use Rattle.ns_run_words.specs.Options.{denied_by, only_among, texts_among}
use Rattle.ns_run_words.specs.Own.{image_among}
use Rattle.ns_run_words.specs.Words.{CommandLine, LineReading, says, bad, at_of, limits_of, move_of, quantum_of, reading_of, sample_number}
use Rattle.ns_run_words.specs.declared.form.Verb.{Verb}
use Rattle.ns_run_words.specs.declared.form.Verb.TheVariants.{Check, Show, Format, Run, Eval, Build, Exec, Listing, Session, Sample, Actors, Audit, Test, Snap, Resume, Replay, Library, Help, Explain, Version}
use Rattle.ns_run_words.specs.declared.words.Given.{Given}
use Rattle.ns_session_files.specs.Joint.{Joint, joint_of, has_run, stopped_for}
use Rattle.ns_session_files.specs.Making.{Refusal, files_named, unchecked, unloaded}
use Rattle.ns_session_files.specs.Making as making
use Rattle.ns_session_files.specs.declared.joint.ToldSession.{ToldSession}

-- what is done with the program of all files but the first, of which the name says where something is stored; without a name
-- there is none
abbrev pub of_behind_first : (List ℕ → Task) → Bool → (names : List (List ℕ)) → List (Option (List ℕ)) → Report
of_behind_first task lib [] texts = bad_word 1
of_behind_first task lib (name ∷ names) texts = of_texts (task name) names lib texts

-- the image of the program of all files but the first is stored under the name of that
abbrev pub of_building : Bool → List (List ℕ) → List (Option (List ℕ)) → Report
of_building lib names = of_behind_first Builds lib names

-- the image of a program is stored under the name that an option gives, where no other file stands; or under the first name
abbrev pub of_build_line : Bool → Option (List ℕ) → List (List ℕ) → List (Option (List ℕ)) → Report
of_build_line lib None names texts = of_building lib names texts
of_build_line lib (Some image) names texts = of_built_to lib image names texts

-- the refusal of an application of a session
abbrev pub of_refusal : Refusal → Report
of_refusal (unloaded names fault) = of_fault names fault
of_refusal (unchecked names fault) = of_check names (Some fault)
of_refusal (making.too_large kind) = too_large kind

-- A session tells of all its applications in its output, in parts too where that is asked for, and ends with their status.
abbrev pub told_jointly : ToldSession → Report
told_jointly session =
    record { out = session.told.out; err = []; status = session.told.status; stored = None; said = option_map said.Session session.parts }

abbrev pub of_joint : Joint → Report
of_joint (stopped_for why) = of_refusal why
of_joint (has_run told) = told_jointly told

-- the session of the applications that these words ask for, in parts too or not, over these texts of their files
abbrev pub of_session : Bool → Bool → Limits → ℕ → List (List ℕ) → List (Option (List ℕ)) → Report
of_session in_parts lib limits quantum words texts = of_joint (joint_of in_parts lib limits quantum words texts)

abbrev pub session_over : Files → Bool → Bool → Limits → ℕ → List (List ℕ) → Report
session_over files in_parts lib limits quantum words =
    of_session in_parts lib limits quantum words (map files (files_named words))

-- the files of a program of actors, behind their letter
abbrev pub behind_letter : List (List ℕ) → List (List ℕ)
behind_letter [] = []
behind_letter (count ∷ []) = []
behind_letter (count ∷ sel ∷ []) = []
behind_letter (count ∷ sel ∷ argument ∷ files) = files

-- so many actors of the program of these files, of which the first gets this letter (there is always one)
abbrev pub of_letter : Given → Option PostedLetter → (files : List (List ℕ)) → List (Option (List ℕ)) → Report
of_letter given None files texts = bad_word 1
of_letter given (Some letter) files texts =
    of_texts (Acts (limits_of given) letter.count letter.sel letter.number) files given.lib texts

-- the actors that a line asks for, whose letter stands in front of the files
abbrev pub of_acting : Given → (names : List (List ℕ)) → List (Option (List ℕ)) → Report
of_acting given [] texts = bad_word 1
of_acting given (count ∷ []) texts = bad_word 1
of_acting given (count ∷ sel ∷ []) texts = bad_word 1
of_acting given (count ∷ sel ∷ argument ∷ files) texts = of_letter given (letter_in count sel argument) files texts

-- the audit of an image, behind whose name that of a class stands in a line
abbrev pub of_audit : List (List ℕ) → List (List ℕ) → List (Option (List ℕ)) → Report
of_audit denied [] texts = bad_word 1
of_audit denied (name ∷ []) texts = bad_word 1
of_audit denied (name ∷ class ∷ names) texts = of_image (Audits denied class) (name ∷ []) texts

-- what a line asks to be told of its run
abbrev pub telling_of : Given → Telling
telling_of given = record { classes = None; stats = given.stats; trace = given.trace; truth = given.truth; json = given.json }

-- a run as options ask for it, with these arguments
abbrev pub run_asked : Given → (options arguments : List (List ℕ)) → RunWork
run_asked given options arguments =
    record { telling = telling_of given; limits = limits_of given; arguments = arguments; inputs = texts_among options }

-- the run of the program of files of these names, over their texts and, behind them, those of its inputs
abbrev pub of_running : RunWork → Bool → List (List ℕ) → List (Option (List ℕ)) → Report
of_running run lib names texts = in_parts (length names) (run_of_texts run names lib) texts

-- the run of the first of these images, over its text and, behind it, those of its inputs
abbrev pub of_executing : RunWork → List (List ℕ) → List (Option (List ℕ)) → Report
of_executing run names texts = in_parts (length names) (of_exec run names) texts

-- the tests of the program of these files, as these options ask for them
abbrev pub of_testing : Given → (options names : List (List ℕ)) → List (Option (List ℕ)) → Report
of_testing given options names texts = of_texts (Tests (limits_of given) given.reverse (only_among options)) names given.lib texts

-- the run of the program of all files but the first is paused, and its snapshot stored under the name of that
abbrev pub of_snapping : Given → (names : List (List ℕ)) → List (Option (List ℕ)) → Report
of_snapping given names = of_behind_first (λ name. Snaps name (limits_of given) (at_of given)) given.lib names

-- the run of the program of the first of these files is gone through by the moves behind its name (there is always one)
abbrev pub of_replaying : Given → (names : List (List ℕ)) → List (Option (List ℕ)) → Report
of_replaying given [] texts = bad_word 1
of_replaying given (name ∷ moves) texts = of_texts (Replays (limits_of given) (map move_of moves)) (name ∷ []) given.lib texts

-- the run of the statements that are the first of these words (there is always one), over the texts of its inputs
abbrev pub of_statements : RunWork → Bool → List (List ℕ) → List (Option (List ℕ)) → Report
of_statements run lib [] texts = bad_word 1
of_statements run lib (text ∷ more) texts = of_eval run lib text texts

-- the run that a line asks for
abbrev pub run_of_line : CommandLine → RunWork
run_of_line line = run_asked line.given line.options line.arguments

-- the text that is told (there is always one)
abbrev pub text_told : Option (List ℕ) → Report
text_told None = bad_word 1
text_told (Some text) = told text

-- what the program tells of itself: how it is used, or the text on the one name of a line
abbrev pub of_topic : List (List ℕ) → Report
of_topic [] = told HELP.now
of_topic (topic ∷ more) = text_told (text_of topic)

-- what the command of a line writes over these texts of its files, and its status
abbrev pub of_line : Verb → CommandLine → List (Option (List ℕ)) → Report
of_line Check line texts = of_texts (Checks line.given.all line.given.sends) line.names line.given.lib texts
of_line Show line texts = of_texts Shows line.names line.given.lib texts
of_line Format line texts = of_format line.names texts
of_line Run line texts = of_running (run_of_line line) line.given.lib line.names texts
of_line Eval line texts = of_statements (run_of_line line) line.given.lib line.names texts
of_line Build line texts = of_build_line line.given.lib (image_among line.options) line.names texts
of_line Exec line texts = of_executing (run_of_line line) line.names texts
of_line Listing line texts = of_image (Lists line.given.members) line.names texts
of_line Session line texts =
    of_session line.given.json line.given.lib (limits_of line.given) (quantum_of line.given) line.names texts
of_line Sample line texts = of_sample (sample_number line.names) texts
of_line Actors line texts = of_acting line.given line.names texts
of_line Audit line texts = of_audit (denied_by line.options) line.names texts
of_line Test line texts = of_testing line.given line.options line.names texts
of_line Snap line texts = of_snapping line.given line.names texts
of_line Resume line texts = of_image Resumes line.names texts
of_line Replay line texts = of_replaying line.given line.names texts
of_line Library line texts = told collections
of_line Help line texts = told HELP.now
of_line Explain line texts = of_topic line.names
of_line Version line texts = told VERSION.now

-- what a command that was read so writes over these texts of its files, and its status
abbrev pub of_reading : LineReading → List (Option (List ℕ)) → Report
of_reading (says line) texts = styled line.given.json (of_line line.verb line texts)
of_reading (bad word) texts = bad_word word

-- all names but the first
abbrev pub behind_first : List (List ℕ) → List (List ℕ)
behind_first [] = []
behind_first (name ∷ names) = names

-- the first name
abbrev pub first_of : List (List ℕ) → List (List ℕ)
first_of [] = []
first_of (name ∷ names) = name ∷ []

-- the files of the program that `build` takes: all names where an option names the image, and all but the first where none does
abbrev pub sources_of : Option (List ℕ) → List (List ℕ) → List (List ℕ)
sources_of None names = behind_first names
sources_of (Some image) names = names

-- the files that `build` reads: with an option that names the image, this too, as the first
abbrev pub files_built : Option (List ℕ) → List (List ℕ) → List (List ℕ)
files_built None names = behind_first names
files_built (Some image) names = image ∷ names

-- the files that a command reads: those that it names, or that its applications name, but for the one that `build` stores
-- where the first name names it, or `snap` stores, the class that `audit` names, and moves; behind those of a run, the texts that its options name
abbrev pub files_of : Verb → (options names : List (List ℕ)) → List (List ℕ)
files_of Check options names = names
files_of Show options names = names
files_of Format options names = names
files_of Run options names = names ++ texts_among options
files_of Eval options names = texts_among options
files_of Build options names = files_built (image_among options) names
files_of Exec options names = names ++ texts_among options
files_of Listing options names = names
files_of Session options names = files_named names
files_of Sample options names = []
files_of Actors options names = behind_letter names
files_of Audit options names = first_of names
files_of Test options names = names
files_of Snap options names = behind_first names
files_of Resume options names = names
files_of Replay options names = first_of names
files_of Library options names = []
files_of Help options names = []
files_of Explain options names = []
files_of Version options names = []

-- the files that a command reads that was read so
abbrev pub files_read : LineReading → List (List ℕ)
files_read (says line) = files_of line.verb line.options line.names
files_read (bad word) = []

-- what the command of these words writes over these texts of its files, and its status
abbrev pub meaning_of_texts : List (List ℕ) → List (Option (List ℕ)) → Report
meaning_of_texts words texts = of_reading (reading_of words) texts

-- what the command of these words writes over these files, and its status
abbrev pub meaning : List (List ℕ) → Files → Report
meaning words files = meaning_of_texts words (map files (files_read (reading_of words)))
