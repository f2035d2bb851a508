use Rattle.std.proofs.Common.{List, codes, refl, ℕ}
use Rattle.ns_load.specs.Source.{read}
use Rattle.ns_run_files.proofs.LayoutLaws.{fault_plain, fault_read, fault_told, plain_ends, plain_says, short_told}
use Rattle.ns_run_files.proofs.layout.on_source.Goals as goal
use Rattle.ns_run_files.specs.Programs.{of_own_fault}
use Rattle.ns_run_outcome.specs.Outcome.{IsMissing}
use Rattle.ns_run_outcome.specs.Report.{refused_file}
use Rattle.ns_run_outcome.specs.laws.Plain.{file_plain, made_so}

pub returns-in-Err-clause-told : goal.returns-in-Err-clause-told
returns-in-Err-clause-told c =
    let name = c.args.name.now in
    let source = c.args.source.now in
    short_told name source c.on_own_fault.result c.if-source-gt-SOURCE_BYTES.false
    (fault_told name source (read 0 source) c.in-Err.fault c.on_own_fault.result c.in-Err.ensures.exact c.on_own_fault.ensures.found c.on_own_fault.ensures.told)

pub returns-in-Err-clause-ending : goal.returns-in-Err-clause-ending
returns-in-Err-clause-ending c =
    plain_ends c.on_own_fault.result (of_own_fault c.args.name.now c.in-Err.fault) c.on_own_fault.ensures.told (fault_plain c.args.name.now c.in-Err.fault c.in-Err.ensures.spelling)

pub returns-in-Err-clause-there : goal.returns-in-Err-clause-there
returns-in-Err-clause-there c =
    plain_says c.on_own_fault.result (of_own_fault c.args.name.now c.in-Err.fault) c.on_own_fault.ensures.told (fault_plain c.args.name.now c.in-Err.fault c.in-Err.ensures.spelling)

pub returns-in-Err-clause-no_read_fault : goal.returns-in-Err-clause-no_read_fault
returns-in-Err-clause-no_read_fault c = λ e. fault_read c.in-Err.fault c.in-Err.ensures.spelling (c.on_own_fault.ensures.read_fault e)

pub returns-then-source-gt-SOURCE_BYTES-clause-there : goal.returns-then-source-gt-SOURCE_BYTES-clause-there
returns-then-source-gt-SOURCE_BYTES-clause-there c =
    let name = c.args.name.now in
    made_so c.refused_file.result c.or_stop.result (λ r. (file : List ℕ) → IsMissing file r → ⊥) (refused_file name (codes "TooLong")) c.or_stop.ensures c.refused_file.ensures
    (file_plain name (codes "TooLong") (λ front. refl)).says
