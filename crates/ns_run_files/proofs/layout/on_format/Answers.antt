use Rattle.std.proofs.Common.{◌≡◌, ◌∙◌, ◌∷◌, [], Some, Err, IfOk, ap, refl, subst}
use Rattle.std.proofs.lemmas.List.{take_all}
use Rattle.std.proofs.lemmas.Result.{IfOk-weaker}
use Rattle.ns_run_files.proofs.LayoutLaws.{source_cut}
use Rattle.ns_run_files.proofs.layout.on_format.Goals as goal
use Rattle.ns_run_files.specs.Programs.{of_format, of_source}
use Rattle.ns_run_outcome.specs.Outcome.{IsMissing}
use Rattle.ns_run_outcome.specs.laws.Parts.{load_fails, load_misses, missing_reports, no_memory_reports, of_answer, one_name, unread_reports}

pub returns-in-Ok : goal.returns-in-Ok
returns-in-Ok g c =
    let name = c.args.name.now in
    let bytes = c.in-Ok.source.items in
    let made = subst (λ b. IfOk c.on_source.result (λ r. r ≡ of_source name b)) c.as_slice.ensures.value c.on_source.ensures.told in
    record {
      told = λ files e. IfOk-weaker c.on_source.result _ _ (λ r h. h ∙ source_cut name (files name) bytes (of_answer _ files _ e c.in-Ok.ensures.told)) made;
      texts = (
        Some bytes ∷ [],
        refl,
        IfOk-weaker c.on_source.result _ _ (λ r h. h ∙ source_cut name (Some bytes) bytes (ap Some (take_all 1048577 bytes c.in-Ok.ensures.at_most))) made,
      );
      ending = c.on_source.ensures.ending;
      only_read = (c.load.ensures.holds, c.load.ensures.store_faults, c.load.ensures.misses, c.load.ensures.faults);
      read_fault = λ e. absurd (c.on_source.ensures.no_read_fault e);
      read_fault_there = λ files e f. absurd (c.on_source.ensures.no_read_fault f);
      missing = IfOk-weaker c.on_source.result _ _ (λ r none some. one_name name (λ file. IsMissing file r) some (λ m. absurd (none name m))) c.on_source.ensures.there;
    }

pub returns-in-Err-Missing : goal.returns-in-Err-Missing
returns-in-Err-Missing g c =
    missing_reports _ _ _ _ c.args.shelf.now c.load.new.self c.args.name.now (of_format (c.args.name.now ∷ [])) c.refused_file.result c.or_stop.result
    (c.load.ensures.holds, c.load.ensures.store_faults, c.load.ensures.misses, c.load.ensures.faults) c.or_stop.ensures c.refused_file.ensures tt
    (λ files e. load_misses files c.args.name.now 1048577 c.in-Err-Missing.field-0 c.in-Err-Missing.field-0-is (of_answer _ files _ e c.in-Err-Missing.ensures.told))
    (c.in-Err-Missing.ensures.missing (ap Err c.in-Err-Missing.field-0-is))

pub returns-in-Err-Failed : goal.returns-in-Err-Failed
returns-in-Err-Failed g c =
    unread_reports _ _ _ _ c.args.shelf.now c.load.new.self (c.args.name.now ∷ []) (of_format (c.args.name.now ∷ []))
    (c.load.ensures.holds, c.load.ensures.store_faults, c.load.ensures.misses, c.load.ensures.faults) (c.in-Err-Failed.ensures.failed (ap Err c.in-Err-Failed.field-0-is))
    (λ files e. load_fails files c.args.name.now 1048577 c.in-Err-Failed.field-0 c.in-Err-Failed.field-0-is (of_answer _ files _ e c.in-Err-Failed.ensures.told))

pub returns-in-Err-Memory : goal.returns-in-Err-Memory
returns-in-Err-Memory g c =
    no_memory_reports _ _ _ _ c.args.shelf.now c.load.new.self (c.args.name.now ∷ []) (of_format (c.args.name.now ∷ []))
    (c.load.ensures.holds, c.load.ensures.store_faults, c.load.ensures.misses, c.load.ensures.faults)
