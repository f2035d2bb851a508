use Rattle.std.proofs.Common.{Err, None, Some, ap, codes, refl, sym}
use Rattle.ns_run_input.proofs.InputLaws.{input_cut, input_reads, may_be_long, never_unread, no_memory_input, refused_so, unread_input}
use Rattle.ns_run_input.proofs.run.input.Goals as goal
use Rattle.ns_run_input.specs.Input.{input_of, measured, refuses}
use Rattle.ns_run_outcome.specs.Report.{refused_file}
use Rattle.ns_run_outcome.specs.laws.Parts.{load_fails, load_misses, of_answer, one_name}

pub returns-in-Ok : goal.returns-in-Ok
returns-in-Ok g c =
    let name = c.args.name.now in
    let bytes = c.in-Ok.bytes.items in
    input_reads _ _ _ _ c.args.shelf.now c.load.new.self name (Some bytes) (measured name bytes) c.measured.result
    (c.load.ensures.holds, c.load.ensures.store_faults, c.load.ensures.misses, c.load.ensures.faults)
    c.measured.ensures.no_read_fault c.measured.ensures.input (may_be_long _ name bytes)
    (λ files e. input_cut name (files name) bytes (of_answer _ files _ e c.in-Ok.ensures.told))
    refl

pub returns-in-Err-Missing : goal.returns-in-Err-Missing
returns-in-Err-Missing g c =
    let name = c.args.name.now in
    input_reads _ _ _ _ c.args.shelf.now c.load.new.self name None (refuses (refused_file name (codes "Missing"))) c.refused.result
    (c.load.ensures.holds, c.load.ensures.store_faults, c.load.ensures.misses, c.load.ensures.faults)
    (never_unread c.refused_file.result c.refused.result c.refused.ensures)
    (refused_so c.refused_file.result c.refused.result (refused_file name (codes "Missing")) c.refused.ensures c.refused_file.ensures)
    (tt, λ file m. c.in-Err-Missing.ensures.missing (ap Err c.in-Err-Missing.field-0-is))
    (λ files e. ap (input_of name) (sym (load_misses files name 1048577 c.in-Err-Missing.field-0 c.in-Err-Missing.field-0-is (of_answer _ files _ e c.in-Err-Missing.ensures.told))))
    refl

pub returns-in-Err-Failed : goal.returns-in-Err-Failed
returns-in-Err-Failed g c =
    unread_input _ _ _ _ c.args.shelf.now c.load.new.self c.args.name.now (c.load.ensures.holds, c.load.ensures.store_faults, c.load.ensures.misses, c.load.ensures.faults)
    (c.in-Err-Failed.ensures.failed (ap Err c.in-Err-Failed.field-0-is))
    (λ files e. one_name c.args.name.now _ (load_fails files c.args.name.now 1048577 c.in-Err-Failed.field-0 c.in-Err-Failed.field-0-is (of_answer _ files _ e c.in-Err-Failed.ensures.told)) (λ there. there))

pub returns-in-Err-Memory : goal.returns-in-Err-Memory
returns-in-Err-Memory g c =
    no_memory_input _ _ _ _ c.args.shelf.now c.load.new.self c.args.name.now (c.load.ensures.holds, c.load.ensures.store_faults, c.load.ensures.misses, c.load.ensures.faults)
