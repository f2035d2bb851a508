use Rattle.std.proofs.Common.{◌≡◌, ◌∙◌, ◌∷◌, [], Some, Err, ap, refl}
use Rattle.ns_base.specs.Count.{Rose}
use Rattle.ns_run_image.proofs.ImageLaws.{image_cut, short_plain, whole_image}
use Rattle.ns_run_image.proofs.image.on_image.Goals as goal
use Rattle.ns_run_image.specs.Image.{of_image, of_short, work_of}
use Rattle.ns_run_outcome.specs.Outcome.{IsEnding, IsMissing}
use Rattle.ns_run_outcome.specs.laws.Parts.{load_fails, load_misses, missing_reports, never_unread, no_memory_reports, of_answer, one_name, unread_reports}
use Rattle.ns_run_outcome.specs.laws.Plain.{made_so}
use Rattle.ns_run_words.specs.Named.{OfSomeName}

pub returns-in-Ok : goal.returns-in-Ok
returns-in-Ok g c =
    let work = work_of c.args.task in
    let name = c.args.name.now in
    let bytes = c.in-Ok.bytes.items in
    let short = of_short work name c.as_slice.result.now in
    let plain = short_plain work name c.as_slice.result.now in
    record {
      told = λ files e.
          made_so c.on_bytes.result c.or_stop-in-Ok.result (λ r. r ≡ of_image work (name ∷ []) (files name ∷ [])) short c.or_stop-in-Ok.ensures c.on_bytes.ensures
          (ap (of_short work name) c.as_slice.ensures.value ∙ image_cut work name (files name) bytes (of_answer _ files _ e c.in-Ok.ensures.told));
      texts = (
        Some bytes ∷ [],
        refl,
        made_so c.on_bytes.result c.or_stop-in-Ok.result (λ r. r ≡ of_image work (name ∷ []) (Some bytes ∷ [])) short c.or_stop-in-Ok.ensures c.on_bytes.ensures
            (ap (of_short work name) c.as_slice.ensures.value ∙ image_cut work name (Some bytes) bytes (whole_image bytes c.in-Ok.ensures.at_most)),
      );
      ending = made_so c.on_bytes.result c.or_stop-in-Ok.result (λ r. IsEnding r.status) short c.or_stop-in-Ok.ensures c.on_bytes.ensures plain.ends;
      only_read = (c.load.ensures.holds, c.load.ensures.store_faults, c.load.ensures.misses, c.load.ensures.faults);
      read_fault = λ e. absurd (never_unread c.on_bytes.result c.or_stop-in-Ok.result c.or_stop-in-Ok.ensures e);
      read_fault_there = λ files e f. absurd (never_unread c.on_bytes.result c.or_stop-in-Ok.result c.or_stop-in-Ok.ensures f);
      missing = made_so c.on_bytes.result c.or_stop-in-Ok.result (λ r. OfSomeName (name ∷ []) (λ file. IsMissing file r) → Rose (g.S.Shelf.misses c.args.shelf.now) (g.S.Shelf.misses c.load.new.self))
          short c.or_stop-in-Ok.ensures c.on_bytes.ensures
          (λ some. one_name name (λ file. IsMissing file short) some (λ m. absurd (plain.says m)));
    }

pub returns-in-Err-Missing : goal.returns-in-Err-Missing
returns-in-Err-Missing g c =
    missing_reports _ _ _ _ c.args.shelf.now c.load.new.self c.args.name.now (of_image (work_of c.args.task) (c.args.name.now ∷ [])) c.refused_file.result c.or_stop.result
    (c.load.ensures.holds, c.load.ensures.store_faults, c.load.ensures.misses, c.load.ensures.faults) c.or_stop.ensures c.refused_file.ensures tt
    (λ files e. load_misses files c.args.name.now 134217729 c.in-Err-Missing.field-0 c.in-Err-Missing.field-0-is (of_answer _ files _ e c.in-Err-Missing.ensures.told))
    (c.in-Err-Missing.ensures.missing (ap Err c.in-Err-Missing.field-0-is))

pub returns-in-Err-Failed : goal.returns-in-Err-Failed
returns-in-Err-Failed g c =
    unread_reports _ _ _ _ c.args.shelf.now c.load.new.self (c.args.name.now ∷ []) (of_image (work_of c.args.task) (c.args.name.now ∷ []))
    (c.load.ensures.holds, c.load.ensures.store_faults, c.load.ensures.misses, c.load.ensures.faults) (c.in-Err-Failed.ensures.failed (ap Err c.in-Err-Failed.field-0-is))
    (λ files e. load_fails files c.args.name.now 134217729 c.in-Err-Failed.field-0 c.in-Err-Failed.field-0-is (of_answer _ files _ e c.in-Err-Failed.ensures.told))

pub returns-in-Err-Memory : goal.returns-in-Err-Memory
returns-in-Err-Memory g c =
    no_memory_reports _ _ _ _ c.args.shelf.now c.load.new.self (c.args.name.now ∷ []) (of_image (work_of c.args.task) (c.args.name.now ∷ []))
    (c.load.ensures.holds, c.load.ensures.store_faults, c.load.ensures.misses, c.load.ensures.faults)
