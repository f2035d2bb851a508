use Rattle.std.proofs.Common.{List, arith, length, map, refl, string_bytes, subst, sym, ◌++◌, ◌∙◌, ℕ}
use Rattle.std.specs.Prelude.{All}
use Rattle.ns_run_files.proofs.TextLaws.{names_are_files}
use Rattle.ns_run_files.proofs.run.on_run_files.Goals as goal
use Rattle.ns_run_files.specs.Programs.{run_of_texts}
use Rattle.ns_run_input.specs.Input.{in_parts, run_of}
use Rattle.ns_run_outcome.specs.laws.Parts.{no_memory_reports, same_reports}
use Rattle.ns_run_words.specs.Forms.{AreItems}
use Rattle.ns_run_words.specs.declared.form.Item.TheVariants.{File}
use Rattle.ns_scope.specs.Whole.{NamesFile}

pub on_texts-requires-clause-named : goal.on_texts-requires-clause-named
on_texts-requires-clause-named g c =
    subst (All NamesFile) (sym c.as_slice.ensures.value)
    (names_are_files c.in-Ok.texts.items c.in-Ok.ensures.text (subst (AreItems File) (sym c.in-Ok.ensures.names) c.requires.files.2))

pub returns-in-Ok : goal.returns-in-Ok
returns-in-Ok g c =
    let run = run_of c.args.task in
    same_reports _ _ _ _ _ _ (λ (names : List (List ℕ)). names ++ run.inputs) (λ names. in_parts (length names) (run_of_texts run names c.args.lib)) c.as_slice.result.now (map string_bytes c.args.names.now)
    c.on_texts.result (c.as_slice.ensures.value ∙ c.in-Ok.ensures.names) c.on_texts.ensures

pub returns-in-Err : goal.returns-in-Err
returns-in-Err g c = no_memory_reports _ _ _ _ _ _ _ _ (refl, refl, omega arith, omega arith)
