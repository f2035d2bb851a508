use Rattle.std.proofs.Common.{◌∙◌, ap, length, sym}
use Rattle.ns_load.proofs.Loads.{library_tells}
use Rattle.std.proofs.lemmas.List.{length-map}
use Rattle.ns_load.proofs.Told.{library_texts, result_whole}
use Rattle.ns_tree.specs.PlainOf.{unit_of}
use Rattle.ns_load.proofs.load.load.Goals as goal

pub returns-in-Ok-clause-told : goal.returns-in-Ok-clause-told
returns-in-Ok-clause-told g c = λ files e.
    library_tells files c.args.names.now c.args.lib _ _ _ c.with_library.result (c.in-Ok.ensures.told files e) c.in-Ok.ensures.count c.with_library.ensures.loaded c.with_library.ensures.spelling

pub returns-in-Err-clause-told : goal.returns-in-Err-clause-told
returns-in-Err-clause-told g c = λ files e. c.in-Err.ensures.told files e c.args.lib

pub returns-in-Ok-clause-texts : goal.returns-in-Ok-clause-texts
returns-in-Ok-clause-texts g c =
    library_texts c.args.names.now c.args.lib _ _ _ c.with_library.result c.in-Ok.ensures.read c.in-Ok.ensures.count
    (length-map c.load_files.new.parts.units.items unit_of) c.with_library.ensures.loaded c.with_library.ensures.spelling

pub returns-in-Ok-clause-whole : goal.returns-in-Ok-clause-whole
returns-in-Ok-clause-whole g c =
    result_whole c.what_is_loaded_is_whole.ensures c.args.names.now c.args.lib _ c.with_library.result c.requires.some c.requires.few c.requires.named c.in-Ok.ensures.files
    c.with_library.ensures.files (c.with_library.ensures.count (c.in-Ok.ensures.count ∙ ap length (sym c.in-Ok.ensures.files))) (c.with_library.ensures.read c.in-Ok.ensures.read)

pub returns-in-Err-clause-texts : goal.returns-in-Err-clause-texts
returns-in-Err-clause-texts g c = (c.in-Err.ensures.texts.0, c.in-Err.ensures.texts.1, c.in-Err.ensures.texts.2 c.args.lib)
