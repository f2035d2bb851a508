use Rattle.std.proofs.Common.{ℤ, List, map, rules, string_bytes, subst, to_z-of_z, w64, ℕ}
use mir.Val.{SFits}
use Rattle.ns_base.specs.declared.limits.Limits.{Limits}
use Rattle.ns_run.proofs.line.on_letter.Goals as goal
use Rattle.ns_run_files.specs.Programs.{of_texts}
use Rattle.ns_run_files.specs.Task.{Acts}
use Rattle.ns_run_outcome.specs.Stated.{Reports}
use Rattle.ns_run_outcome.specs.laws.Parts.{same_reports}
use Rattle.ns_run_words.specs.Words.{limits_of}

pub returns : goal.returns
returns g c =
    let files : List (List ℕ) = map string_bytes c.args.files.now in
    let given = c.args.given in
    let letter = c.args.letter in
    let fits : SFits w64 letter.number = search rules in
    same_reports _ _ _ _ _ _ (λ (limits : Limits). files) (λ limits. of_texts (Acts limits letter.count letter.sel.now letter.number) files given.lib) c.limits-limits.result (limits_of given)
    c.on_files.result c.limits-limits.ensures
    (subst (λ (number : ℤ). Reports g.S.Shelf.holds g.S.Shelf.misses g.S.Shelf.faults g.S.Shelf.store_faults c.args.shelf.now c.on_files.new.shelf files
    (of_texts (Acts c.limits-limits.result letter.count letter.sel.now number) files given.lib) c.on_files.result) (to_z-of_z fits) c.on_files.ensures)
