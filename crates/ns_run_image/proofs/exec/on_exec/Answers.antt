use Rattle.std.proofs.Common.{◌≡◌, ◌∙◌, ◌∷◌, [], List, Option, Some, None, Err, ap, codes, refl, sym, ℕ}
use Rattle.ns_base.specs.Count.{Rose}
use Rattle.ns_run_image.proofs.ExecLaws.{exec_cut}
use Rattle.ns_run_image.proofs.exec.on_exec.Goals as goal
use Rattle.ns_run_image.specs.Image.{of_exec, of_exec_bytes}
use Rattle.ns_run_input.specs.Input.{run_of}
use Rattle.ns_run_input.specs.laws.Behind.{behind_reports, front_reports}
use Rattle.ns_run_outcome.specs.Outcome.{IsEnding, IsMissing}
use Rattle.ns_run_outcome.specs.Report.{refused_file}
use Rattle.ns_run_outcome.specs.laws.Parts.{load_fails, load_misses, never_unread, of_answer}
use Rattle.ns_run_outcome.specs.laws.Plain.{made_so}

pub returns-in-Ok : goal.returns-in-Ok
returns-in-Ok g c =
    let run = run_of c.args.task in
    let name = c.args.name.now in
    let bytes = c.in-Ok.bytes.items in
    behind_reports _ _ _ _ c.args.shelf.now c.load.new.self c.on_bytes.new.shelf (name ∷ []) run.inputs (of_exec run (name ∷ [])) (of_exec_bytes run name c.as_slice.result.now) c.on_bytes.result
    (c.load.ensures.holds, c.load.ensures.store_faults, c.load.ensures.misses, c.load.ensures.faults)
    (λ files e more. ap (λ each. of_exec_bytes run name each more) c.as_slice.ensures.value ∙ exec_cut run name (files name) bytes more (of_answer _ files _ e c.in-Ok.ensures.told))
    (Some bytes ∷ [], refl, λ more. ap (λ each. of_exec_bytes run name each more) c.as_slice.ensures.value)
    c.on_bytes.ensures.reports c.on_bytes.ensures.missing

pub returns-in-Err-Missing : goal.returns-in-Err-Missing
returns-in-Err-Missing g c =
    let run = run_of c.args.task in
    let name = c.args.name.now in
    let told = refused_file name (codes "Missing") in
    front_reports _ _ _ _ c.args.shelf.now c.load.new.self (name ∷ []) run.inputs (of_exec run (name ∷ [])) c.or_stop.result
    (c.load.ensures.holds, c.load.ensures.store_faults, c.load.ensures.misses, c.load.ensures.faults)
    (λ files e.
    let none : files name ≡ None = load_misses files name 134217729 c.in-Err-Missing.field-0 c.in-Err-Missing.field-0-is (of_answer _ files _ e c.in-Err-Missing.ensures.told) in
    made_so c.refused_file.result c.or_stop.result (λ r. (more : List (Option (List ℕ))) → r ≡ of_exec run (name ∷ []) (files name ∷ []) more) told c.or_stop.ensures c.refused_file.ensures
    (λ more. ap (λ text. of_exec run (name ∷ []) (text ∷ []) more) (sym none)))
    (None ∷ [], refl, made_so c.refused_file.result c.or_stop.result (λ r. (more : List (Option (List ℕ))) → r ≡ told) told c.or_stop.ensures c.refused_file.ensures (λ more. refl))
    (made_so c.refused_file.result c.or_stop.result (λ r. IsEnding r.status) told c.or_stop.ensures c.refused_file.ensures tt)
    (λ e. absurd (never_unread c.refused_file.result c.or_stop.result c.or_stop.ensures e))
    (λ files e f. absurd (never_unread c.refused_file.result c.or_stop.result c.or_stop.ensures f))
    (made_so c.refused_file.result c.or_stop.result (λ r. (file : List ℕ) → IsMissing file r → Rose (g.S.Shelf.misses c.args.shelf.now) (g.S.Shelf.misses c.load.new.self)) told c.or_stop.ensures c.refused_file.ensures
    (λ file m. c.in-Err-Missing.ensures.missing (ap Err c.in-Err-Missing.field-0-is)))

pub returns-in-Err-Failed : goal.returns-in-Err-Failed
returns-in-Err-Failed g c =
    let run = run_of c.args.task in
    let name = c.args.name.now in
    front_reports _ _ _ _ c.args.shelf.now c.load.new.self (name ∷ []) run.inputs (of_exec run (name ∷ [])) _
    (c.load.ensures.holds, c.load.ensures.store_faults, c.load.ensures.misses, c.load.ensures.faults)
    (λ files e. tt)
    (None ∷ [], refl, tt)
    tt
    (λ e. c.in-Err-Failed.ensures.failed (ap Err c.in-Err-Failed.field-0-is))
    (λ files e f. load_fails files name 134217729 c.in-Err-Failed.field-0 c.in-Err-Failed.field-0-is (of_answer _ files _ e c.in-Err-Failed.ensures.told))
    tt

pub returns-in-Err-Memory : goal.returns-in-Err-Memory
returns-in-Err-Memory g c =
    let run = run_of c.args.task in
    let name = c.args.name.now in
    front_reports _ _ _ _ c.args.shelf.now c.load.new.self (name ∷ []) run.inputs (of_exec run (name ∷ [])) _
    (c.load.ensures.holds, c.load.ensures.store_faults, c.load.ensures.misses, c.load.ensures.faults)
    (λ files e. tt)
    (None ∷ [], refl, tt)
    tt
    (λ e. absurd (cc (e)))
    (λ files e f. absurd (cc (f)))
    tt
