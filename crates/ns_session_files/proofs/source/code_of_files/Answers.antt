use Rattle.std.proofs.Common.{◌≡◌, ◌∙◌, ap, map, string_bytes, subst, sym, IsUtf8}
use Rattle.std.specs.Prelude.{All}
use Rattle.ns_load.specs.Loaded.{loaded_texts}
use Rattle.ns_run_words.specs.Application.{all_name_files, names_in}
use Rattle.ns_run_words.specs.Named.{OfSomeTexts}
use Rattle.ns_session_files.specs.Answer.{IsMadeAs}
use Rattle.ns_session_files.specs.Making.{of_loading}
use Rattle.ns_session_files.proofs.MakingLaws.{all_named, few_named, memory_texts}
use Rattle.ns_session_files.proofs.source.code_of_files.Goals as goal

pub returns-in_err-names-clause-texts : goal.returns-in_err-names-clause-texts
returns-in_err-names-clause-texts g c = λ grants.
    memory_texts grants (names_in c.args.names.now) (λ texts. of_loading (names_in c.args.names.now) grants c.args.lib (loaded_texts texts c.args.lib))
    c.from_residual.result c.from_residual.ensures.1

pub returns-in_err-texts-clause-texts : goal.returns-in_err-texts-clause-texts
returns-in_err-texts-clause-texts g c = λ grants.
    memory_texts grants (names_in c.args.names.now) (λ texts. of_loading (names_in c.args.names.now) grants c.args.lib (loaded_texts texts c.args.lib))
    c.from_residual-in_err-texts.result c.from_residual-in_err-texts.ensures.1

pub of_files-requires-clause-named : goal.of_files-requires-clause-named
of_files-requires-clause-named g c =
    let same : c.as_slice-2.result.now ≡ names_in c.args.names.now =
    c.as_slice-2.ensures.value ∙ c.in_ok-texts.ensures.names ∙ ap (map string_bytes) c.as_slice.ensures.value ∙ c.in_ok-names.ensures.names
    in
    all_named c.as_slice-2.result.now (ap all_name_files same ∙ few_named 16 (names_in c.args.names.now) c.requires.few) (subst (All IsUtf8) (sym c.as_slice-2.ensures.value) c.in_ok-texts.ensures.text)

pub returns-clause-told : goal.returns-clause-told
returns-clause-told g c = λ grants files e.
    let same : c.as_slice-2.result.now ≡ names_in c.args.names.now =
    c.as_slice-2.ensures.value ∙ c.in_ok-texts.ensures.names ∙ ap (map string_bytes) c.as_slice.ensures.value ∙ c.in_ok-names.ensures.names
    in
    subst (λ names. IsMadeAs grants (of_loading names grants c.args.lib (loaded_texts (map files names) c.args.lib)) c.of_files.result) same (c.of_files.ensures.told grants files e)

pub returns-clause-texts : goal.returns-clause-texts
returns-clause-texts g c = λ grants.
    let same : c.as_slice-2.result.now ≡ names_in c.args.names.now =
    c.as_slice-2.ensures.value ∙ c.in_ok-texts.ensures.names ∙ ap (map string_bytes) c.as_slice.ensures.value ∙ c.in_ok-names.ensures.names
    in
    subst (λ names. OfSomeTexts names (λ texts. IsMadeAs grants (of_loading names grants c.args.lib (loaded_texts texts c.args.lib)) c.of_files.result)) same (c.of_files.ensures.texts grants)
