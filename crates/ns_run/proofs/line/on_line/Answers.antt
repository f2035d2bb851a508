use Rattle.std.proofs.Common.{◌++◌}
use Rattle.ns_help.specs.declared.usage.TheConstants.{HELP, VERSION}
use Rattle.ns_lib.specs.Collections.{collections}
use Rattle.ns_run.proofs.LineLaws.{are_applications, are_behind, are_behind_letter, are_files, are_sources, has_letter, is_replayed}
use Rattle.ns_run.proofs.PartLaws.{topic_ends, verb_reports}
use Rattle.ns_run.proofs.line.on_line.Goals as goal
use Rattle.ns_run.specs.Meaning.{of_executing, of_running, of_statements, of_topic, run_of_line}
use Rattle.ns_run_input.specs.Input.{RunWork}
use Rattle.ns_run_outcome.specs.Report.{told}
use Rattle.ns_run_outcome.specs.laws.Parts.{made_reports, same_reports}
use Rattle.ns_run_words.specs.Line.{line_seen}
use Rattle.ns_run_words.specs.declared.form.Verb.TheVariants as verb

pub returns-in-Check : goal.returns-in-Check
returns-in-Check g c = verb_reports _ _ _ _ _ _ (line_seen c.args.line) verb.Check _ c.in-Check.is c.on_check.ensures

pub returns-in-Show : goal.returns-in-Show
returns-in-Show g c = verb_reports _ _ _ _ _ _ (line_seen c.args.line) verb.Show _ c.in-Show.is c.on_files.ensures

pub returns-in-Format : goal.returns-in-Format
returns-in-Format g c = verb_reports _ _ _ _ _ _ (line_seen c.args.line) verb.Format _ c.in-Format.is c.on_layout.ensures

pub returns-in-Run : goal.returns-in-Run
returns-in-Run g c =
    let line = line_seen c.args.line in
    verb_reports _ _ _ _ _ _ line verb.Run _ c.in-Run.is
    (same_reports _ _ _ _ _ _ (λ (run : RunWork). line.names ++ run.inputs) (λ run. of_running run line.given.lib line.names) _ (run_of_line line) c.on_run.result c.run_task-task.ensures.is c.on_run.ensures)

pub returns-in-Eval : goal.returns-in-Eval
returns-in-Eval g c =
    let line = line_seen c.args.line in
    verb_reports _ _ _ _ _ _ line verb.Eval _ c.in-Eval.is
    (same_reports _ _ _ _ _ _ (λ (run : RunWork). run.inputs) (λ run. of_statements run line.given.lib line.names) _ (run_of_line line) c.on_statements.result c.run_task-task-in-Eval.ensures.is
    c.on_statements.ensures)

pub returns-in-Build : goal.returns-in-Build
returns-in-Build g c = verb_reports _ _ _ _ _ _ (line_seen c.args.line) verb.Build _ c.in-Build.is c.on_build_line.ensures

pub returns-in-Exec : goal.returns-in-Exec
returns-in-Exec g c =
    let line = line_seen c.args.line in
    verb_reports _ _ _ _ _ _ line verb.Exec _ c.in-Exec.is
    (same_reports _ _ _ _ _ _ (λ (run : RunWork). line.names ++ run.inputs) (λ run. of_executing run line.names) _ (run_of_line line) c.on_image_run.result c.run_task-task-in-Exec.ensures.is c.on_image_run.ensures)

pub returns-in-Listing : goal.returns-in-Listing
returns-in-Listing g c = verb_reports _ _ _ _ _ _ (line_seen c.args.line) verb.Listing _ c.in-Listing.is c.on_listing.ensures

pub returns-in-Session : goal.returns-in-Session
returns-in-Session g c = verb_reports _ _ _ _ _ _ (line_seen c.args.line) verb.Session _ c.in-Session.is c.on_applications.ensures

pub returns-in-Sample : goal.returns-in-Sample
returns-in-Sample g c = verb_reports _ _ _ _ _ _ (line_seen c.args.line) verb.Sample _ c.in-Sample.is c.on_number.ensures

pub returns-in-Actors : goal.returns-in-Actors
returns-in-Actors g c = verb_reports _ _ _ _ _ _ (line_seen c.args.line) verb.Actors _ c.in-Actors.is c.on_actors.ensures

pub returns-in-Audit : goal.returns-in-Audit
returns-in-Audit g c = verb_reports _ _ _ _ _ _ (line_seen c.args.line) verb.Audit _ c.in-Audit.is c.on_audit.ensures

pub returns-in-Test : goal.returns-in-Test
returns-in-Test g c = verb_reports _ _ _ _ _ _ (line_seen c.args.line) verb.Test _ c.in-Test.is c.on_tests.ensures

pub returns-in-Snap : goal.returns-in-Snap
returns-in-Snap g c = verb_reports _ _ _ _ _ _ (line_seen c.args.line) verb.Snap _ c.in-Snap.is c.on_snapping.ensures

pub returns-in-Resume : goal.returns-in-Resume
returns-in-Resume g c = verb_reports _ _ _ _ _ _ (line_seen c.args.line) verb.Resume _ c.in-Resume.is c.on_first.ensures

pub returns-in-Replay : goal.returns-in-Replay
returns-in-Replay g c = verb_reports _ _ _ _ _ _ (line_seen c.args.line) verb.Replay _ c.in-Replay.is c.on_replaying.ensures

pub returns-in-Library : goal.returns-in-Library
returns-in-Library g c =
    verb_reports _ _ _ _ _ _ (line_seen c.args.line) verb.Library _ c.in-Library.is
    (made_reports _ _ _ _ c.args.shelf.now (told collections) c.library.result c.or_stop.result c.or_stop.ensures c.library.ensures tt)

pub returns-in-Help : goal.returns-in-Help
returns-in-Help g c =
    verb_reports _ _ _ _ _ _ (line_seen c.args.line) verb.Help _ c.in-Help.is
    (made_reports _ _ _ _ c.args.shelf.now (told HELP.now) c.told_text.result c.or_stop-in-Help.result c.or_stop-in-Help.ensures c.told_text.ensures tt)

pub returns-in-Explain : goal.returns-in-Explain
returns-in-Explain g c =
    let line = line_seen c.args.line in
    verb_reports _ _ _ _ _ _ line verb.Explain _ c.in-Explain.is
    (made_reports _ _ _ _ c.args.shelf.now (of_topic line.names) c.on_topic.result c.or_stop-in-Explain.result c.or_stop-in-Explain.ensures c.on_topic.ensures
    (topic_ends line.names))

pub returns-in-Version : goal.returns-in-Version
returns-in-Version g c =
    verb_reports _ _ _ _ _ _ (line_seen c.args.line) verb.Version _ c.in-Version.is
    (made_reports _ _ _ _ c.args.shelf.now (told VERSION.now) c.told_text-in-Version.result c.or_stop-in-Version.result c.or_stop-in-Version.ensures c.told_text-in-Version.ensures tt)

pub on_check-requires : goal.on_check-requires
on_check-requires g c = are_files verb.Check (line_seen c.args.line) c.in-Check.is tt c.requires.form

pub on_files-requires-clause-files : goal.on_files-requires-clause-files
on_files-requires-clause-files g c = are_files verb.Show (line_seen c.args.line) c.in-Show.is tt c.requires.form

pub on_run-requires-clause-files : goal.on_run-requires-clause-files
on_run-requires-clause-files g c = are_files verb.Run (line_seen c.args.line) c.in-Run.is tt c.requires.form

pub on_tests-requires-clause-files : goal.on_tests-requires-clause-files
on_tests-requires-clause-files g c = are_files verb.Test (line_seen c.args.line) c.in-Test.is tt c.requires.form

pub on_applications-requires-clause-asked : goal.on_applications-requires-clause-asked
on_applications-requires-clause-asked g c = are_applications (line_seen c.args.line) c.in-Session.is c.requires.form

pub on_actors-requires-clause-letter : goal.on_actors-requires-clause-letter
on_actors-requires-clause-letter g c = has_letter (line_seen c.args.line) c.in-Actors.is c.requires.form

pub on_actors-requires-clause-files : goal.on_actors-requires-clause-files
on_actors-requires-clause-files g c = are_behind_letter (line_seen c.args.line) c.in-Actors.is c.requires.form

pub on_snapping-requires-clause-behind : goal.on_snapping-requires-clause-behind
on_snapping-requires-clause-behind g c = are_behind (line_seen c.args.line) c.in-Snap.is c.requires.form

pub on_replaying-requires-clause-file : goal.on_replaying-requires-clause-file
on_replaying-requires-clause-file g c = is_replayed (line_seen c.args.line) c.in-Replay.is c.requires.form

pub on_build_line-requires : goal.on_build_line-requires
on_build_line-requires g c = are_sources (line_seen c.args.line) c.in-Build.is c.requires.form
