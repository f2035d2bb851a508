use Rattle.std.proofs.Common.{map, string_bytes}
use Rattle.ns_run.proofs.line.on_applications.Goals as goal
use Rattle.ns_run.specs.Meaning.{of_session}
use Rattle.ns_run_outcome.specs.laws.Parts.{same_reports}
use Rattle.ns_run_words.specs.Words.{limits_of, quantum_of}
use Rattle.ns_session_files.specs.Making.{files_named}

pub returns : goal.returns
returns g c =
    let names = map string_bytes c.args.names.now in
    let given = c.args.given in
    same_reports _ _ _ _ _ _ (λ quantum. files_named names) (λ quantum. of_session given.json given.lib (limits_of given) quantum names) c.quantum-quantum.result (quantum_of given) c.on_session.result c.quantum-quantum.ensures
    (same_reports _ _ _ _ _ _ (λ limits. files_named names) (λ limits. of_session given.json given.lib limits c.quantum-quantum.result names) c.limits-limits.result (limits_of given) c.on_session.result c.limits-limits.ensures
    c.on_session.ensures)
