use Rattle.std.proofs.Common.{◌≡◌, Err, IfOk, ap, subst}
use Rattle.std.proofs.lemmas.List.{take_all}
use Rattle.ns_run_files.proofs.GuardLaws.{front_guards, missing_guards, no_memory_guards, unread_guards}
use Rattle.ns_run_files.proofs.guard.over_file.Goals as goal
use Rattle.ns_run_files.specs.Guard.{of_front}
use Rattle.ns_run_outcome.specs.laws.Parts.{load_fails, load_misses, of_answer, one_name}

pub returns-in-Ok : goal.returns-in-Ok
returns-in-Ok g c =
    front_guards _ _ _ _ c.args.shelf.now c.load.new.self c.args.name.now c.in-Ok.front.items c.args.report c.over_front.result c.or_stop.result
    (c.load.ensures.holds, c.load.ensures.store_faults, c.load.ensures.misses, c.load.ensures.faults) c.requires c.or_stop.ensures
    (subst (λ front. IfOk c.over_front.result (λ r. r ≡ of_front c.args.name.now front c.args.report)) c.as_slice.ensures.value c.over_front.ensures)
    (take_all 4 c.in-Ok.front.items c.in-Ok.ensures.at_most)
    (λ files e. of_answer _ files _ e c.in-Ok.ensures.told)

pub returns-in-Err-Missing : goal.returns-in-Err-Missing
returns-in-Err-Missing g c =
    missing_guards _ _ _ _ c.args.shelf.now c.load.new.self c.args.name.now c.args.report
    (c.load.ensures.holds, c.load.ensures.store_faults, c.load.ensures.misses, c.load.ensures.faults) c.requires
    (λ files e. load_misses files c.args.name.now 4 c.in-Err-Missing.field-0 c.in-Err-Missing.field-0-is (of_answer _ files _ e c.in-Err-Missing.ensures.told))

pub returns-in-Err-Failed : goal.returns-in-Err-Failed
returns-in-Err-Failed g c =
    unread_guards _ _ _ _ c.args.shelf.now c.load.new.self c.args.name.now c.args.report
    (c.load.ensures.holds, c.load.ensures.store_faults, c.load.ensures.misses, c.load.ensures.faults) (c.in-Err-Failed.ensures.failed (ap Err c.in-Err-Failed.field-0-is))
    (λ files e. one_name c.args.name.now _ (load_fails files c.args.name.now 4 c.in-Err-Failed.field-0 c.in-Err-Failed.field-0-is (of_answer _ files _ e c.in-Err-Failed.ensures.told)) (λ there. there))

pub returns-in-Err-Memory : goal.returns-in-Err-Memory
returns-in-Err-Memory g c =
    no_memory_guards _ _ _ _ c.args.shelf.now c.load.new.self c.args.name.now c.args.report
    (c.load.ensures.holds, c.load.ensures.store_faults, c.load.ensures.misses, c.load.ensures.faults)
