-- No command but two stores a file.
use Rattle.std.proofs.Common.{◌≡◌, ℕ, List, [], ◌∷◌, ◌++◌, drop, length, map, nat_lt, cond, take, Bool, true, false, Option, Some, None, codes, refl, ap, ◌∙◌}
use Rattle.ns_base.specs.declared.limits.Limits.{Limits}
use Rattle.ns_base.specs.declared.place.Place.{Place}
use Rattle.ns_code.specs.declared.program.CodeProgram.{CodeProgram}
use Rattle.ns_audit.specs.Image.{AuditedImage, audited_image, answers, no_class, unadmitted, unread}
use Rattle.ns_run_code.specs.Exec.{ImageCode, admitted, image_code, refused_code, refused_image}
use Rattle.ns_run_code.specs.Listing.{ListedCode, lines, unlisted}
use Rattle.ns_gen_code.specs.Code.{code_of}
use Rattle.ns_image.specs.declared.fault.ImageFault.{ImageFault}
use Rattle.ns_image.specs.declared.fault.ImageFault.TheVariants as images
use Rattle.ns_gen_code.specs.Sizes.{size_fault}
use Rattle.ns_gen_code.specs.declared.size.SizeKind.{SizeKind}
use Rattle.ns_session_files.specs.Joint.{Joint, joint, stopped_for}
use Rattle.ns_session_files.specs.Joint as joints
use Rattle.ns_session_files.specs.Making.{Refusal, unchecked, unloaded}
use Rattle.ns_session_files.specs.Making as making
use Rattle.ns_lib.specs.Sample.{sample}
use Rattle.ns_load.specs.Loaded.{Loading, file_names, loaded_texts, stopped, units}
use Rattle.ns_load.specs.Source.{FileReading, spells, refused, read}
use Rattle.ns_load.specs.declared.fault.LoadCause.{LoadCause}
use Rattle.ns_load.specs.declared.fault.LoadCause.TheVariants as cause
use Rattle.ns_load.specs.declared.fault.LoadFault.{LoadFault}
use Rattle.ns_load.specs.declared.fault.LoadFault.TheVariants as fault
use Rattle.ns_resolved.specs.Classes.{meant_of}
use Rattle.ns_resolved.specs.Program.{Meant}
use Rattle.ns_help.specs.Topics.{text_of}
use Rattle.ns_json.specs.declared.saying.Saying.{Saying}
use Rattle.ns_run_outcome.specs.Report.{refused_file, unsound}
use Rattle.ns_run_outcome.specs.Styled.{in_json, styled}
use Rattle.ns_run_outcome.specs.declared.report.Report.{Report}
use Rattle.ns_static_rules.specs.Least.{faults, least}
use Rattle.ns_static_rules.specs.declared.fault.Placed.{Placed}
use Rattle.ns_run_image.specs.Image.{ImageWork, Lists, Audits, Resumes, listing_asked, of_audited, of_code, of_exec, of_image, of_image_bytes, of_image_fault, of_listed, of_resumed, of_short, of_snap_fault}
use Rattle.ns_run_input.specs.Input.{RunWork, code_report, input_of, read_then, reads, refuses, with_inputs}
use Rattle.ns_run_snap.specs.Resumed.{Resumed, resumed}
use Rattle.ns_run_snap.specs.Resumed as resumes
use Rattle.ns_snapshot.specs.declared.fault.SnapFault.{SnapFault}
use Rattle.ns_snapshot.specs.declared.fault.SnapFault.TheVariants as snap
use Rattle.ns_run.specs.Meaning.{of_acting, of_joint, of_audit, of_letter, of_line, of_reading, of_refusal, of_replaying, of_statements, of_topic, run_of_line, text_told}
use Rattle.ns_run_files.specs.Programs.{eval_source, name_of, of_cause, of_checks, of_fault, of_faultless, of_faults, of_format, of_layout, of_least, of_loading, of_sends, of_own_fault, of_run, of_sample, of_show, of_sized, of_source, of_tests, of_texts, of_units, meant_report, run_of_loading, run_of_texts, sample_run}
use Rattle.ns_run.specs.Outcome.{OverTexts, StoresNoFile, StoresNothing}
use Rattle.ns_run_files.specs.laws.Programs.{acts_store_none, replay_stores_none}
use Rattle.ns_run_files.specs.Tests.{tests_report}
use Rattle.ns_run_files.specs.Task.{Task, Checks, Shows, Builds, Acts, Tests, Snaps, Replays}
use Rattle.ns_test.specs.Source.{source_tested}
use Rattle.ns_test.specs.Tests.{Tested, has_no_code, has_not_opened, has_tested, no_test, not_tests}
use Rattle.ns_tree.specs.Plain as p
use Rattle.ns_verify.specs.declared.fault.VerifyCause.{VerifyCause}
use Rattle.ns_verify.specs.declared.fault.Where.{Where}
use Rattle.ns_verify.specs.declared.fault.Where.TheVariants as where_at
use Rattle.ns_run_words.specs.Application.{asked_of}
use Rattle.ns_run_words.specs.Letter.{PostedLetter, letter_in}
use Rattle.ns_run_words.specs.Options.{denied_by, only_among}
use Rattle.ns_run_words.specs.Words.{CommandLine, LineReading, says, bad, limits_of, move_of, quantum_of, reading_of, sample_number}
use Rattle.ns_run_words.specs.declared.form.Verb.{Verb}
use Rattle.ns_run_words.specs.declared.form.Verb.TheVariants as verb
use Rattle.ns_run_words.specs.declared.words.Given.{Given}

-- The report stores nothing.
abbrev pub KeepsNone : Report → Type 0
KeepsNone report = report.stored ≡ None

-- ---- programs

faults_keep : (names : List (List ℕ)) (each : List Placed) (other : Report) → KeepsNone other → KeepsNone (of_faults names each other)
faults_keep names [] other k = k
faults_keep names (fault ∷ faults) other k = refl

sends_keep : (names : List (List ℕ)) (code : CodeProgram) (kind : Option SizeKind) → KeepsNone (of_sends names code kind)
sends_keep names code None = refl
sends_keep names code (Some kind) = refl

faultless_keeps : (sends : Bool) (names : List (List ℕ)) (meant : Meant) → KeepsNone (of_faultless sends names meant)
faultless_keeps false names meant = refl
faultless_keeps true names meant = sends_keep names (code_of meant) (size_fault (code_of meant))

least_keeps : (sends : Bool) (names files : List (List ℕ)) (trees : List p.SourceUnit) (places : List (List Place)) (why : Option Placed) →
    KeepsNone (of_least sends names files trees places why)
least_keeps sends names files trees places None = faultless_keeps sends names (meant_of files trees places)
least_keeps sends names files trees places (Some why) = refl

checks_keep : (all sends : Bool) (names files : List (List ℕ)) (trees : List p.SourceUnit) (places : List (List Place)) (each : List Placed) (why : Option Placed)
    → KeepsNone (of_checks all sends names files trees places each why)
checks_keep false sends names files trees places each why = least_keeps sends names files trees places why
checks_keep true sends names files trees places each why =
    faults_keep names each (of_least sends names files trees places why) (least_keeps sends names files trees places why)

show_keeps : (trees : List p.SourceUnit) → KeepsNone (of_show trees)
show_keeps [] = refl
show_keeps (unit ∷ more) = refl

-- What is read of an input is no report that stores.
input_keeps : (name : List ℕ) (text : Option (List ℕ)) (next : List ℕ → Report) → ((read : List ℕ) → KeepsNone (next read)) →
    KeepsNone (read_then next (input_of name text))
input_keeps name None next keeps = refl
input_keeps name (Some text) next keeps =
    elim (nat_lt 1048576 (length text)) as (λ q. KeepsNone (read_then next (cond q (refuses (refused_file name (codes "TooLong"))) (reads text)))) [
      | true ↦ refl
      | false ↦ keeps text
    ]

inputs_keep : (run : List (List ℕ) → Report) (arguments names : List (List ℕ)) (texts : List (Option (List ℕ))) → ((each : List (List ℕ)) → KeepsNone (run each))
    → KeepsNone (with_inputs run arguments names texts)
inputs_keep run arguments [] texts keeps = keeps arguments
inputs_keep run arguments (name ∷ names) [] keeps = refl
inputs_keep run arguments (name ∷ names) (text ∷ texts) keeps =
    input_keeps name text (λ read. with_inputs run (arguments ++ read ∷ []) names texts) (λ read. inputs_keep run (arguments ++ read ∷ []) names texts keeps)

sized_keeps : (run : RunWork) (meant : Meant) (kind : Option SizeKind) (texts : List (Option (List ℕ))) → KeepsNone (of_sized run meant kind texts)
sized_keeps run meant None texts = inputs_keep (meant_report run.telling run.limits meant) run.arguments run.inputs texts (λ each. refl)
sized_keeps run meant (Some kind) texts = refl

run_keeps : (names : List (List ℕ)) (run : RunWork) (files : List (List ℕ)) (trees : List p.SourceUnit) (places : List (List Place)) (why : Option Placed) (texts : List (Option (List ℕ)))
    → KeepsNone (of_run names run files trees places why texts)
run_keeps names run files trees places None texts =
    sized_keeps run (meant_of files trees places) (size_fault (code_of (meant_of files trees places))) texts
run_keeps names run files trees places (Some why) texts = refl

tested_keeps : (file : List ℕ) (tests : Tested) → KeepsNone (tests_report file tests)
tested_keeps file (has_no_code kind) = refl
tested_keeps file (has_not_opened line status part) = refl
tested_keeps file not_tests = refl
tested_keeps file no_test = refl
tested_keeps file (has_tested tests) = refl

tests_keep : (names : List (List ℕ)) (limits : Limits) (reversed : Bool) (only : Option (List ℕ)) (files : List (List ℕ)) (trees : List p.SourceUnit) (places : List (List Place)) (why : Option Placed)
    → KeepsNone (of_tests names limits reversed only files trees places why)
tests_keep names limits reversed only files trees places None =
    tested_keeps (name_of names 0) (source_tested (meant_of files trees places) limits reversed only)
tests_keep names limits reversed only files trees places (Some why) = refl

-- The task isn't one of those that store an image or a snapshot.
abbrev pub IsNoStoring : Task → Type 0
IsNoStoring (Checks all sends) = Unit {0}
IsNoStoring Shows = Unit {0}
IsNoStoring (Builds name) = ⊥
IsNoStoring (Acts limits count sel number) = Unit {0}
IsNoStoring (Tests limits reversed only) = Unit {0}
IsNoStoring (Snaps name limits at) = ⊥
IsNoStoring (Replays limits moves) = Unit {0}

units_keep : (t : Task) (names files : List (List ℕ)) (trees : List p.SourceUnit) (places : List (List Place)) → IsNoStoring t →
    KeepsNone (of_units t names files trees places)
units_keep (Checks all sends) names files trees places i =
    checks_keep all sends names files trees places _ (least (faults trees places))
units_keep Shows names files trees places i = show_keeps trees
units_keep (Builds name) names files trees places i = absurd i
units_keep (Acts limits count sel number) names files trees places i =
    acts_store_none names limits count sel number files trees places (least (faults trees places))
units_keep (Tests limits reversed only) names files trees places i =
    tests_keep names limits reversed only files trees places (least (faults trees places))
units_keep (Snaps name limits at) names files trees places i = absurd i
units_keep (Replays limits moves) names files trees places i =
    replay_stores_none names limits moves files trees places (least (faults trees places))

cause_keeps : (file : List ℕ) (why : LoadCause) → KeepsNone (of_cause file why)
cause_keeps file cause.Missing = refl
cause_keeps file cause.TooLong = refl
cause_keeps file cause.ReadFault = refl
cause_keeps file (cause.Spelling wrong place) = refl

fault_keeps : (names : List (List ℕ)) (why : LoadFault) → KeepsNone (of_fault names why)
fault_keeps names (fault.At why file) = cause_keeps (name_of names file) why
fault_keeps names fault.Memory = refl

loading_keeps : (t : Task) (names : List (List ℕ)) (lib : Bool) (loading : Loading) → IsNoStoring t →
    KeepsNone (of_loading t names lib loading)
loading_keeps t names lib (units trees places) i = units_keep t names _ trees places i
loading_keeps t names lib (stopped why) i = fault_keeps names why

texts_keep : (t : Task) (names : List (List ℕ)) (lib : Bool) (texts : List (Option (List ℕ))) → IsNoStoring t →
    KeepsNone (of_texts t names lib texts)
texts_keep t names lib texts i = loading_keeps t names lib (loaded_texts texts lib) i

own_keeps : (name : List ℕ) (why : LoadFault) → KeepsNone (of_own_fault name why)
own_keeps name (fault.At why file) = cause_keeps name why
own_keeps name fault.Memory = refl

layout_keeps : (name source : List ℕ) (reading : FileReading) → KeepsNone (of_layout name source reading)
layout_keeps name source (spells unit places) = refl
layout_keeps name source (refused why) = own_keeps name why

source_keeps : (name source : List ℕ) → KeepsNone (of_source name source)
source_keeps name source =
    elim (nat_lt 1048576 (length source)) as (λ q. KeepsNone (cond q (refused_file name (codes "TooLong")) (of_layout name source (read 0 source)))) [
      | true ↦ refl
      | false ↦ layout_keeps name source (read 0 source)
    ]

format_keeps : (names : List (List ℕ)) (texts : List (Option (List ℕ))) → KeepsNone (of_format names texts)
format_keeps [] texts = refl
format_keeps (name ∷ names) [] = refl
format_keeps (name ∷ names) (None ∷ texts) = refl
format_keeps (name ∷ names) (Some source ∷ texts) = source_keeps name source

loaded_keeps : (run : RunWork) (names : List (List ℕ)) (lib : Bool) (loading : Loading) (inputs : List (Option (List ℕ))) →
    KeepsNone (run_of_loading run names lib loading inputs)
loaded_keeps run names lib (units trees places) inputs = run_keeps names run (file_names names lib) trees places (least (faults trees places)) inputs
loaded_keeps run names lib (stopped why) inputs = fault_keeps names why

runs_keep : (run : RunWork) (names : List (List ℕ)) (lib : Bool) (texts inputs : List (Option (List ℕ))) → KeepsNone (run_of_texts run names lib texts inputs)
runs_keep run names lib texts inputs = loaded_keeps run names lib (loaded_texts texts lib) inputs

sample_keeps : (number : Option ℕ) (texts : List (Option (List ℕ))) → KeepsNone (of_sample number texts)
sample_keeps None texts = refl
sample_keeps (Some n) texts = runs_keep (sample_run n) (codes "sample" ∷ []) false (Some (sample n) ∷ []) texts

statements_keep : (run : RunWork) (lib : Bool) (words : List (List ℕ)) (texts : List (Option (List ℕ))) → KeepsNone (of_statements run lib words texts)
statements_keep run lib [] texts = refl
statements_keep run lib (text ∷ more) texts = runs_keep run (codes "eval" ∷ []) lib (Some (eval_source text) ∷ []) texts

-- ---- images

unsound_keeps : (file : List ℕ) (why : VerifyCause) (at : Where) → KeepsNone (unsound file why at)
unsound_keeps file why (where_at.Class k) = refl
unsound_keeps file why (where_at.Body k i) = refl

image_keeps_none : (file : List ℕ) (why : ImageFault) → KeepsNone (of_image_fault file why)
image_keeps_none file images.NotAnImage = refl
image_keeps_none file images.BadVersion = refl
image_keeps_none file images.Truncated = refl
image_keeps_none file (images.BadField at) = refl
image_keeps_none file images.Trailing = refl
image_keeps_none file images.Memory = refl

code_keeps : (run : RunWork) (file : List ℕ) (code : ImageCode) (inputs : List (Option (List ℕ))) → KeepsNone (of_code run file code inputs)
code_keeps run file (refused_image why) inputs = image_keeps_none file why
code_keeps run file (refused_code why at) inputs = unsound_keeps file why at
code_keeps run file (admitted code) inputs = inputs_keep (code_report run.telling run.limits code) run.arguments run.inputs inputs (λ each. refl)

exec_keeps : (run : RunWork) (names : List (List ℕ)) (texts inputs : List (Option (List ℕ))) → KeepsNone (of_exec run names texts inputs)
exec_keeps run [] texts inputs = refl
exec_keeps run (name ∷ names) [] inputs = refl
exec_keeps run (name ∷ names) (None ∷ texts) inputs = refl
exec_keeps run (name ∷ names) (Some bytes ∷ texts) inputs =
    elim (nat_lt 134217728 (length bytes)) as (λ q. KeepsNone (cond q (refused_file name (codes "TooLong")) (of_code run name (image_code bytes) inputs))) [
      | true ↦ refl
      | false ↦ code_keeps run name (image_code bytes) inputs
    ]

listed_keeps : (file : List ℕ) (done : ListedCode) → KeepsNone (of_listed file done)
listed_keeps file (unlisted why) = image_keeps_none file why
listed_keeps file (lines text) = refl

audited_keeps : (file : List ℕ) (done : AuditedImage) → KeepsNone (of_audited file done)
audited_keeps file (unread why) = image_keeps_none file why
audited_keeps file (unadmitted why at) = unsound_keeps file why at
audited_keeps file no_class = refl
audited_keeps file (answers line status part) = refl

snap_keeps_none : (file : List ℕ) (why : SnapFault) → KeepsNone (of_snap_fault file why)
snap_keeps_none file snap.NotASnapshot = refl
snap_keeps_none file snap.BadVersion = refl
snap_keeps_none file snap.Truncated = refl
snap_keeps_none file (snap.BadField at) = refl
snap_keeps_none file snap.Trailing = refl
snap_keeps_none file snap.BadImage = refl
snap_keeps_none file (snap.BadCell k) = refl
snap_keeps_none file (snap.BadFrame k) = refl
snap_keeps_none file snap.BadRest = refl
snap_keeps_none file snap.Memory = refl

resumed_keeps : (file : List ℕ) (done : Resumed) → KeepsNone (of_resumed file done)
resumed_keeps file (resumes.refused why) = snap_keeps_none file why
resumed_keeps file (resumes.has_run ran) = refl

bytes_keep : (work : ImageWork) (file bytes : List ℕ) → KeepsNone (of_image_bytes work file bytes)
bytes_keep (Lists members) file bytes = listed_keeps file (listing_asked members bytes)
bytes_keep (Audits denied class) file bytes = audited_keeps file (audited_image bytes denied class)
bytes_keep Resumes file bytes = resumed_keeps file (resumed bytes)

short_keeps : (work : ImageWork) (file bytes : List ℕ) → KeepsNone (of_short work file bytes)
short_keeps work file bytes =
    elim (nat_lt 134217728 (length bytes)) as (λ q. KeepsNone (cond q (refused_file file (codes "TooLong")) (of_image_bytes work file bytes))) [
      | true ↦ refl
      | false ↦ bytes_keep work file bytes
    ]

image_keeps : (work : ImageWork) (names : List (List ℕ)) (texts : List (Option (List ℕ))) → KeepsNone (of_image work names texts)
image_keeps work [] texts = refl
image_keeps work (name ∷ names) [] = refl
image_keeps work (name ∷ names) (None ∷ texts) = refl
image_keeps work (name ∷ names) (Some bytes ∷ texts) = short_keeps work name bytes

audit_keeps : (denied names : List (List ℕ)) (texts : List (Option (List ℕ))) → KeepsNone (of_audit denied names texts)
audit_keeps denied [] texts = refl
audit_keeps denied (name ∷ []) texts = refl
audit_keeps denied (name ∷ class ∷ names) texts = image_keeps (Audits denied class) (name ∷ []) texts

replaying_keeps : (given : Given) (names : List (List ℕ)) (texts : List (Option (List ℕ))) → KeepsNone (of_replaying given names texts)
replaying_keeps given [] texts = refl
replaying_keeps given (name ∷ moves) texts =
    texts_keep (Replays (limits_of given) (map move_of moves)) (name ∷ []) given.lib texts tt

-- ---- sessions

refusal_keeps : (why : Refusal) → KeepsNone (of_refusal why)
refusal_keeps (unloaded names why) = fault_keeps names why
refusal_keeps (unchecked names why) = refl
refusal_keeps (making.too_large kind) = refl

session_keeps : (each : Joint) → KeepsNone (of_joint each)
session_keeps (stopped_for why) = refusal_keeps why
session_keeps (joints.has_run told) = refl

-- ---- what the program tells of itself

text_keeps : (text : Option (List ℕ)) → KeepsNone (text_told text)
text_keeps None = refl
text_keeps (Some text) = refl

topic_keeps : (names : List (List ℕ)) → KeepsNone (of_topic names)
topic_keeps [] = refl
topic_keeps (topic ∷ more) = text_keeps (text_of topic)

letter_keeps : (given : Given) (letter : Option PostedLetter) (files : List (List ℕ)) (texts : List (Option (List ℕ))) → KeepsNone (of_letter given letter files texts)
letter_keeps given None files texts = refl
letter_keeps given (Some letter) files texts =
    texts_keep (Acts (limits_of given) letter.count letter.sel letter.number) files given.lib texts tt

acting_keeps : (given : Given) (names : List (List ℕ)) (texts : List (Option (List ℕ))) → KeepsNone (of_acting given names texts)
acting_keeps given [] texts = refl
acting_keeps given (count ∷ []) texts = refl
acting_keeps given (count ∷ sel ∷ []) texts = refl
acting_keeps given (count ∷ sel ∷ argument ∷ files) texts = letter_keeps given (letter_in count sel argument) files texts

-- ---- commands

line_keeps : (each : Verb) (line : CommandLine) (texts : List (Option (List ℕ))) → StoresNoFile each → KeepsNone (of_line each line texts)
line_keeps verb.Check line texts i = texts_keep (Checks line.given.all line.given.sends) line.names line.given.lib texts tt
line_keeps verb.Show line texts i = texts_keep Shows line.names line.given.lib texts tt
line_keeps verb.Format line texts i = format_keeps line.names texts
line_keeps verb.Run line texts i =
    runs_keep (run_of_line line) line.names line.given.lib (take (length line.names) texts) (drop (length line.names) texts)
line_keeps verb.Eval line texts i = statements_keep (run_of_line line) line.given.lib line.names texts
line_keeps verb.Build line texts i = absurd i
line_keeps verb.Exec line texts i =
    exec_keeps (run_of_line line) line.names (take (length line.names) texts) (drop (length line.names) texts)
line_keeps verb.Listing line texts i = image_keeps (Lists line.given.members) line.names texts
line_keeps verb.Session line texts i =
    session_keeps (joint line.given.json line.given.lib (limits_of line.given) (quantum_of line.given) (map asked_of line.names) texts)
line_keeps verb.Sample line texts i = sample_keeps (sample_number line.names) texts
line_keeps verb.Actors line texts i = acting_keeps line.given line.names texts
line_keeps verb.Audit line texts i = audit_keeps (denied_by line.options) line.names texts
line_keeps verb.Test line texts i =
    texts_keep (Tests (limits_of line.given) line.given.reverse (only_among line.options)) line.names line.given.lib texts tt
line_keeps verb.Snap line texts i = absurd i
line_keeps verb.Resume line texts i = image_keeps Resumes line.names texts
line_keeps verb.Replay line texts i = replaying_keeps line.given line.names texts
line_keeps verb.Library line texts i = refl
line_keeps verb.Help line texts i = refl
line_keeps verb.Explain line texts i = topic_keeps line.names
line_keeps verb.Version line texts i = refl

json_keeps : (report : Report) (parts : Option Saying) → KeepsNone report → KeepsNone (in_json report parts)
json_keeps report None keeps = keeps
json_keeps report (Some saying) keeps = keeps

styled_keeps : (json : Bool) (report : Report) → KeepsNone report → KeepsNone (styled json report)
styled_keeps false report keeps = keeps
styled_keeps true report keeps = json_keeps report report.said keeps

reading_keeps : (reading : LineReading) (texts : List (Option (List ℕ))) → StoresNothing reading → KeepsNone (of_reading reading texts)
reading_keeps (says line) texts i = styled_keeps line.given.json (of_line line.verb line texts) (line_keeps line.verb line texts i)
reading_keeps (bad word) texts i = refl

-- A report that some texts mean stores nothing, where its command doesn't.
pub stores_nothing : (words : List (List ℕ)) (report : Report) → OverTexts words (λ each. report ≡ each) →
    StoresNothing (reading_of words) → report.stored ≡ None
stores_nothing words report (texts, count, is) i = ap (λ (r : Report). r.stored) is ∙ reading_keeps (reading_of words) texts i
