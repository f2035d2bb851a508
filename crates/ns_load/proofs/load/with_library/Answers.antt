use Rattle.std.proofs.Common.{◌≡◌, Bool, IfOk, subst, sym}
use Rattle.ns_load.specs.Loaded as spec
use Rattle.ns_load.proofs.load.with_library.Goals as goal

pub returns-then-lib-clause-files : goal.returns-then-lib-clause-files
returns-then-lib-clause-files c =
    subst (λ (lib : Bool). IfOk c.with_source.result (λ program. program.files ≡ spec.file_names c.args.parts.files.items lib)) (sym c.if-lib.true) c.with_source.ensures.files
