use Rattle.std.proofs.Common.{arith, map, refl, string_bytes, subst, sym, ◌∙◌}
use Rattle.std.specs.Prelude.{All}
use Rattle.ns_run_files.proofs.TextLaws.{names_are_files}
use Rattle.ns_run_files.proofs.files.on_named.Goals as goal
use Rattle.ns_run_files.specs.Programs.{of_texts}
use Rattle.ns_run_files.specs.Task.{task_of}
use Rattle.ns_run_outcome.specs.laws.Parts.{no_memory_reports, same_reports}
use Rattle.ns_run_words.specs.Forms.{AreItems}
use Rattle.ns_run_words.specs.declared.form.Item.TheVariants.{File}
use Rattle.ns_scope.specs.Whole.{NamesFile}

pub on_texts-requires-clause-named : goal.on_texts-requires-clause-named
on_texts-requires-clause-named g c =
    subst (All NamesFile) (sym c.as_slice.ensures.value)
    (names_are_files c.in-Ok.texts.items c.in-Ok.ensures.text (subst (AreItems File) (sym c.in-Ok.ensures.names) c.requires.files.2))

pub returns-in-Ok-clause-reports : goal.returns-in-Ok-clause-reports
returns-in-Ok-clause-reports g c =
    same_reports _ _ _ _ _ _ (λ names. names) (λ names. of_texts (task_of c.args.task) names c.args.lib) c.as_slice.result.now (map string_bytes c.args.names.now) c.on_texts.result
    (c.as_slice.ensures.value ∙ c.in-Ok.ensures.names) c.on_texts.ensures.reports

pub returns-in-Err-clause-reports : goal.returns-in-Err-clause-reports
returns-in-Err-clause-reports g c = no_memory_reports _ _ _ _ _ _ _ _ (refl, refl, omega arith, omega arith)
