-- Reports of programs end as one may, and don't say that a file isn't there.
use Rattle.std.proofs.Common.{◌≡◌, ℕ, ℤ, nat_eq, cond, List, [], ◌∷◌, ◌++◌, Bool, true, false, Option, Some, None, refl, sym, ap, ◌∙◌, arith, append_assoc, codes}
use Rattle.std.proofs.lemmas.Grind.{common_steps}
use Rattle.std.proofs.lemmas.List.{append-nil}
use Rattle.std.specs.Fmt.{decimal}
use Rattle.std.specs.Prelude.{◌&&◌, flat_map}
use Rattle.ns_actors.specs.Actor.{ActorView, Stage, Opening, Between, Sending, Holding, Stopped}
use Rattle.ns_actors.specs.Rounds.{played, status_at, status_of}
use Rattle.ns_actors_rounds.specs.Source.{actors_told, sized_acted}
use Rattle.ns_base.specs.declared.limits.Limits.{Limits}
use Rattle.ns_base.specs.declared.place.Place.{Place}
use Rattle.ns_base.specs.declared.selector.Sel.{Sel}
use Rattle.ns_base.specs.declared.status.Status.TheVariants.{Done, ProgramError}
use Rattle.ns_code.specs.declared.class.ClassCode.{ClassCode}
use Rattle.ns_code.specs.declared.program.CodeProgram.{CodeProgram}
use Rattle.ns_gen_code.specs.Code.{code_of}
use Rattle.ns_gen_code.specs.Sizes.{size_fault}
use Rattle.ns_gen_code.specs.declared.size.SizeKind.{SizeKind}
use Rattle.ns_moves.specs.State.{State, ending_of}
use Rattle.ns_moves.specs.State as states
use Rattle.ns_json.specs.declared.saying.Saying.{Saying}
use Rattle.ns_json.specs.declared.saying.Saying.TheVariants as said
use Rattle.ns_resolved.specs.Classes.{meant_of}
use Rattle.ns_resolved.specs.Program.{Meant}
use Rattle.ns_run_code.specs.Build.{Built, built_of, image, image_too_large, too_large}
use Rattle.ns_run_code.specs.Machine.{end_of, told_at}
use Rattle.ns_run_files.specs.Programs.{fault_line, name_of, of_acts, of_build, of_built, of_check, of_checks, of_faultless, of_faults, of_least, of_replay, of_replayed, of_sends, of_show, of_snap, of_snapped, of_tests, of_units, sends_report}
use Rattle.ns_run_files.specs.Acts.{acts_report}
use Rattle.ns_run_files.specs.Task.{Task, Checks, Shows, Builds, Acts, Tests, Snaps, Replays}
use Rattle.ns_run_files.specs.Tests.{tests_report, tests_told}
use Rattle.ns_run_snap.specs.Snapped.{Snapped, snapped_of, snapshot, snapshot_too_large}
use Rattle.ns_run_snap.specs.Snapped as snapped
use Rattle.ns_run_replay.specs.Replayed.{Replayed, lines, replayed_of}
use Rattle.ns_run_replay.specs.Replayed as replayed
use Rattle.ns_run_words.specs.declared.moves.Move.{Move}
use Rattle.ns_run_outcome.specs.Outcome.{missing_line}
use Rattle.ns_run_outcome.specs.Report.{size_name, static_name}
use Rattle.ns_run_outcome.specs.declared.report.Report.{Report}
use Rattle.ns_run_outcome.specs.laws.Plain.{IsPlain, checked_plain, ending_plain, file_plain, not_this, size_ends, size_plain, static_ends, text_plain, told_plain}
use Rattle.ns_sends.specs.Unanswered.{unanswered}
use Rattle.ns_sends.specs.declared.sent.SentAt.{SentAt}
use Rattle.ns_static_rules.specs.declared.fault.Placed.{Placed}
use Rattle.ns_test.specs.Opening.{opened, tests_class, tests_of}
use Rattle.ns_test.specs.Source.{sized_tested}
use Rattle.ns_test.specs.Tests.{asked_for, has_tested, of_asked, of_class, of_ending, reported, stopped_at}
use Rattle.ns_test.specs.Written.{written}
use Rattle.ns_test.specs.declared.report.TestReport.{TestReport}
use Rattle.ns_tree.specs.Plain as p
use Rattle.ns_world.specs.declared.ending.Ending.{Ending}
use Rattle.ns_world.specs.declared.ending.Ending.TheVariants as ending

pub show_plain : (units : List p.SourceUnit) → IsPlain (of_show units)
show_plain [] = told_plain []
show_plain (unit ∷ more) = told_plain _

pub check_plain : (names : List (List ℕ)) (least : Option Placed) → IsPlain (of_check names least)
check_plain names None = checked_plain
check_plain names (Some fault) = text_plain (name_of names fault.place.file) fault.place (static_name fault.cause) (static_ends fault.cause)

-- ---- checks

-- The lines of faults end with that of the last one, whatever stands before them.
lines_end : (names : List (List ℕ)) (front : List ℕ) (fault : Placed) (faults : List Placed) (name : List ℕ) →
    front ++ flat_map (fault_line names) (fault ∷ faults) ≡ missing_line name → ⊥
lines_end names front fault [] name h =
    let own = front ++ name_of names fault.place.file ++ codes ":" ++ decimal fault.place.line ++ codes ":" ++ decimal fault.place.col ++ codes ": " in
    not_this name own (static_name fault.cause) (static_ends fault.cause own) (line_at fault ∙ ap (λ x. front ++ x) (sym (append-nil (fault_line names fault))) ∙ h)
  where
    line_at : (fault : Placed) → ((front ++ name_of names fault.place.file ++ codes ":" ++ decimal fault.place.line ++ codes ":" ++ decimal fault.place.col ++ codes ": ") ++ static_name fault.cause) ++ 10 ∷ [] ≡ front ++ fault_line names fault
    line_at fault = grind (arith, common_steps)
lines_end names front fault (next ∷ faults) name h =
    lines_end names (front ++ fault_line names fault) next faults name (append_assoc front (fault_line names fault) (flat_map (fault_line names) (next ∷ faults)) ∙ h)

faults_plain : (names : List (List ℕ)) (each : List Placed) (other : Report) → IsPlain other → IsPlain (of_faults names each other)
faults_plain names [] other plain = plain
faults_plain names (fault ∷ faults) other plain = record { ends = tt; says = λ name m. lines_end names [] fault faults name m.1 }

-- What is told with such a status is no refusal.
sends_plain : (names : List (List ℕ)) (code : CodeProgram) (kind : Option SizeKind) → IsPlain (of_sends names code kind)
sends_plain names code (Some kind) = size_plain (size_name kind) (size_ends kind)
sends_plain names code None = told (unanswered code)
  where
    told : (sends : List SentAt) → IsPlain (sends_report names code sends)
    told [] = record { ends = tt; says = λ name m. cc (m.0) }
    told (sent ∷ sends) = record { ends = tt; says = λ name m. cc (m.0) }

faultless_plain : (sends : Bool) (names : List (List ℕ)) (meant : Meant) → IsPlain (of_faultless sends names meant)
faultless_plain false names meant = check_plain names None
faultless_plain true names meant = sends_plain names (code_of meant) (size_fault (code_of meant))

least_plain : (sends : Bool) (names files : List (List ℕ)) (trees : List p.SourceUnit) (places : List (List Place)) (least : Option Placed) →
    IsPlain (of_least sends names files trees places least)
least_plain sends names files trees places None = faultless_plain sends names (meant_of files trees places)
least_plain sends names files trees places (Some fault) = check_plain names (Some fault)

pub checks_plain :
    (all sends : Bool) (names files : List (List ℕ)) (trees : List p.SourceUnit) (places : List (List Place)) (each : List Placed) (least : Option Placed) →
    IsPlain (of_checks all sends names files trees places each least)
checks_plain false sends names files trees places each least = least_plain sends names files trees places least
checks_plain true sends names files trees places each least =
    faults_plain names each (of_least sends names files trees places least) (least_plain sends names files trees places least)

-- ---- actors

-- Actors end as a command may, whatever they tell.
acting_plain : (out : List ℕ) (said : Option Saying) (actors : List ActorView) →
    IsPlain (record { out = out; err = []; status = status_of actors; stored = None; said = said })
acting_plain out said [] = record { ends = tt; says = λ name m. cc (m.0) }
acting_plain out said (actor ∷ actors) = by actor.stage (acting_plain out said actors)
  where
    by : (stage : Stage) → IsPlain (record { out = out; err = []; status = status_of actors; stored = None; said = said })
        → IsPlain (record { out = out; err = []; status = status_at stage (status_of actors); stored = None; said = said })
    by Opening others = others
    by (Between behaviour) others = others
    by (Sending behaviour) others = others
    by (Holding behaviour letters) others = others
    by (Stopped why) others = record { ends = tt; says = λ name m. cc (m.0) }

sized_acts_plain : (limits : Limits) (count : ℕ) (sel : List ℕ) (number : ℤ) (code : CodeProgram) (kind : Option SizeKind) →
    IsPlain (acts_report (sized_acted code limits count sel number kind))
sized_acts_plain limits count sel number code None =
    acting_plain (actors_told code limits count sel number).told.out (Some (said.Acted (actors_told code limits count sel number).parts))
    (played code limits count sel number).actors
sized_acts_plain limits count sel number code (Some kind) = size_plain (size_name kind) (size_ends kind)

pub acts_plain :
    (names : List (List ℕ)) (limits : Limits) (count : ℕ) (sel : List ℕ) (number : ℤ) (files : List (List ℕ)) (trees : List p.SourceUnit) (places : List (List Place)) (least : Option Placed) →
    IsPlain (of_acts names limits count sel number files trees places least)
acts_plain names limits count sel number files trees places None =
    let code = code_of (meant_of files trees places) in sized_acts_plain limits count sel number code (size_fault code)
acts_plain names limits count sel number files trees places (Some fault) = check_plain names (Some fault)

-- They store nothing.
sized_acts_store : (limits : Limits) (count : ℕ) (sel : List ℕ) (number : ℤ) (code : CodeProgram) (kind : Option SizeKind) →
    (acts_report (sized_acted code limits count sel number kind)).stored ≡ None
sized_acts_store limits count sel number code None = refl
sized_acts_store limits count sel number code (Some kind) = refl

pub acts_store_none :
    (names : List (List ℕ)) (limits : Limits) (count : ℕ) (sel : List ℕ) (number : ℤ) (files : List (List ℕ)) (trees : List p.SourceUnit) (places : List (List Place)) (least : Option Placed) →
    (of_acts names limits count sel number files trees places least).stored ≡ None
acts_store_none names limits count sel number files trees places None =
    let code = code_of (meant_of files trees places) in sized_acts_store limits count sel number code (size_fault code)
acts_store_none names limits count sel number files trees places (Some fault) = refl

-- ---- tests

-- The report of tests with these counts.
tested_plain : (file : List ℕ) (tests : TestReport) → IsPlain (tests_report file (has_tested tests))
tested_plain file tests =
    let told : Option Saying = Some (said.Tested (tests_told tests)) in
    elim (nat_eq tests.failed 0 && nat_eq tests.errors 0) as (λ b. IsPlain (record { out = written tests; err = []; status = cond b Done ProgramError; stored = None; said = told })) [
      | true ↦ record { ends = tt; says = λ name m. cc (m.0) }
      | false ↦ record { ends = tt; says = λ name m. cc (m.0) }
    ]

asked_plain : (file : List ℕ) (code : CodeProgram) (limits : Limits) (tests : Option (List Sel)) →
    IsPlain (tests_report file (of_asked code limits tests))
asked_plain file code limits None = file_plain file (codes "NoTest") (λ front. refl)
asked_plain file code limits (Some tests) = tested_plain file (reported code limits tests)

class_plain :
    (file : List ℕ) (code : CodeProgram) (limits : Limits) (reversed : Bool) (only : Option (List ℕ)) (class : Option ClassCode) →
    IsPlain (tests_report file (of_class code limits reversed only class))
class_plain file code limits reversed only None = file_plain file (codes "NotTests") (λ front. refl)
class_plain file code limits reversed only (Some class) = asked_plain file code limits (asked_for code reversed only (tests_of code class))

stopped_plain : (file : List ℕ) (code : CodeProgram) (state : State) → IsPlain (tests_report file (stopped_at code state))
stopped_plain file code state = ending_plain (tests_report file (stopped_at code state)) (end_of (ending_of state)) refl

opened_plain :
    (file : List ℕ) (code : CodeProgram) (limits : Limits) (reversed : Bool) (only : Option (List ℕ)) (state : State) (e : Ending) →
    IsPlain (tests_report file (of_ending code limits reversed only state e))
opened_plain file code limits reversed only state (ending.Done value) =
    class_plain file code limits reversed only (tests_class code (states.world_of state).cells value)
opened_plain file code limits reversed only state (ending.Error error) = stopped_plain file code state
opened_plain file code limits reversed only state (ending.Limit limit) = stopped_plain file code state

sized_tests_plain : (file : List ℕ) (limits : Limits) (reversed : Bool) (only : Option (List ℕ)) (code : CodeProgram) (kind : Option SizeKind) →
    IsPlain (tests_report file (sized_tested code limits reversed only kind))
sized_tests_plain file limits reversed only code None =
    opened_plain file code limits reversed only (opened code limits) (end_of (ending_of (opened code limits)))
sized_tests_plain file limits reversed only code (Some kind) = size_plain (size_name kind) (size_ends kind)

pub tests_plain :
    (names : List (List ℕ)) (limits : Limits) (reversed : Bool) (only : Option (List ℕ)) (files : List (List ℕ)) (trees : List p.SourceUnit) (places : List (List Place)) (least : Option Placed) →
    IsPlain (of_tests names limits reversed only files trees places least)
tests_plain names limits reversed only files trees places None =
    let code = code_of (meant_of files trees places) in
    sized_tests_plain (name_of names 0) limits reversed only code (size_fault code)
tests_plain names limits reversed only files trees places (Some fault) = check_plain names (Some fault)

pub built_plain : (name : List ℕ) (made : Built) → IsPlain (of_built name made)
built_plain name (image bytes) = record { ends = tt; says = λ file m. cc (m.0) }
built_plain name (too_large kind) = size_plain (size_name kind) (size_ends kind)
built_plain name image_too_large = size_plain (codes "TooLarge(Image)") (λ front. refl)

pub build_plain :
    (names : List (List ℕ)) (name : List ℕ) (files : List (List ℕ)) (trees : List p.SourceUnit) (places : List (List Place)) (least : Option Placed) →
    IsPlain (of_build names name files trees places least)
build_plain names name files trees places None = built_plain name (built_of (meant_of files trees places))
build_plain names name files trees places (Some fault) = check_plain names (Some fault)

pub snapped_plain : (name : List ℕ) (made : Snapped) → IsPlain (of_snapped name made)
snapped_plain name (snapshot bytes) = record { ends = tt; says = λ file m. cc (m.0) }
snapped_plain name (snapped.too_large kind) = size_plain (size_name kind) (size_ends kind)
snapped_plain name snapshot_too_large = size_plain (codes "TooLarge(Snapshot)") (λ front. refl)

pub snap_plain :
    (names : List (List ℕ)) (name : List ℕ) (limits : Limits) (at : ℕ) (files : List (List ℕ)) (trees : List p.SourceUnit) (places : List (List Place)) (least : Option Placed) →
    IsPlain (of_snap names name limits at files trees places least)
snap_plain names name limits at files trees places None = snapped_plain name (snapped_of (meant_of files trees places) limits at)
snap_plain names name limits at files trees places (Some fault) = check_plain names (Some fault)

pub replayed_plain : (made : Replayed) → IsPlain (of_replayed made)
replayed_plain (lines bytes) = told_plain bytes
replayed_plain (replayed.too_large kind) = size_plain (size_name kind) (size_ends kind)

pub replay_plain :
    (names : List (List ℕ)) (limits : Limits) (moves : List Move) (files : List (List ℕ)) (trees : List p.SourceUnit) (places : List (List Place)) (least : Option Placed) →
    IsPlain (of_replay names limits moves files trees places least)
replay_plain names limits moves files trees places None = replayed_plain (replayed_of (meant_of files trees places) limits moves)
replay_plain names limits moves files trees places (Some fault) = check_plain names (Some fault)

-- It stores nothing.
pub replay_stores_none :
    (names : List (List ℕ)) (limits : Limits) (moves : List Move) (files : List (List ℕ)) (trees : List p.SourceUnit) (places : List (List Place)) (least : Option Placed) →
    (of_replay names limits moves files trees places least).stored ≡ None
replay_stores_none names limits moves files trees places None = none_stored (replayed_of (meant_of files trees places) limits moves)
  where
    none_stored : (made : Replayed) → (of_replayed made).stored ≡ None
    none_stored (lines bytes) = refl
    none_stored (replayed.too_large kind) = refl
replay_stores_none names limits moves files trees places (Some fault) = refl

-- The report of units is plain.
pub units_plain : (t : Task) (names files : List (List ℕ)) (trees : List p.SourceUnit) (places : List (List Place)) →
    IsPlain (of_units t names files trees places)
units_plain (Checks all sends) names files trees places = checks_plain all sends names files trees places _ _
units_plain Shows names files trees places = show_plain trees
units_plain (Builds name) names files trees places = build_plain names name files trees places _
units_plain (Acts limits count sel number) names files trees places = acts_plain names limits count sel number files trees places _
units_plain (Tests limits reversed only) names files trees places = tests_plain names limits reversed only files trees places _
units_plain (Snaps name limits at) names files trees places = snap_plain names name limits at files trees places _
units_plain (Replays limits moves) names files trees places = replay_plain names limits moves files trees places _
