use Rattle.std.proofs.Common.{map, string_bytes}
use Rattle.ns_load.specs.Loaded.{loaded, loaded_texts}
use Rattle.ns_session_files.proofs.MakingLaws.{loading_made}
use Rattle.ns_session_files.proofs.source.of_files.Goals as goal

pub returns-in-Ok-clause-told : goal.returns-in-Ok-clause-told
returns-in-Ok-clause-told g c = λ grants files e.
    loading_made (map string_bytes c.args.names.items) c.args.texts.now grants c.args.lib (loaded c.args.texts.now c.args.lib files) c.in-Ok.program c.of_program.result c.requires.same c.in-Ok.ensures.files (c.in-Ok.ensures.told files e)
    (c.of_program.ensures.made grants)

pub returns-in-Ok-clause-texts : goal.returns-in-Ok-clause-texts
returns-in-Ok-clause-texts g c = λ grants. (
  c.in-Ok.ensures.texts.0,
  c.in-Ok.ensures.texts.1,
  loading_made (map string_bytes c.args.names.items) c.args.texts.now grants c.args.lib (loaded_texts c.in-Ok.ensures.texts.0 c.args.lib) c.in-Ok.program c.of_program.result c.requires.same c.in-Ok.ensures.files c.in-Ok.ensures.texts.2
      (c.of_program.ensures.made grants),
)
