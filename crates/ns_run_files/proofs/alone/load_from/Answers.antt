use Rattle.std.proofs.Common.{[], arith, ap, length, refl, subst, sym}
use Rattle.std.proofs.lemmas.List.Elements.{All-cons, All-nil}
use Rattle.std.specs.Prelude.{All}
use Rattle.ns_base.specs.Stored.{file_at}
use Rattle.ns_run_files.proofs.AloneLaws.{text_answered}
use Rattle.ns_run_files.proofs.alone.load_from.Goals as goal
use Rattle.ns_scope.specs.Whole.{NamesFile}

pub load-requires-clause-some : goal.load-requires-clause-some
load-requires-clause-some c = omega (arith, ap length c.requires.named)

pub load-requires-clause-few : goal.load-requires-clause-few
load-requires-clause-few c = omega (arith, ap length c.requires.named)

pub load-requires-clause-named : goal.load-requires-clause-named
load-requires-clause-named c = subst (All NamesFile) (sym c.requires.named) (All-cons NamesFile c.args.name.now [] c.requires.file (All-nil NamesFile))

pub returns-clause-told : goal.returns-clause-told
returns-clause-told c = λ source kept.
    text_answered c.args.name.now source c.args.texts.now c.args.lib (file_at c.args.shelf.files.items) c.load.result c.requires.named kept (c.load.ensures.told (file_at c.args.shelf.files.items) refl)

pub returns-clause-no_read_fault : goal.returns-clause-no_read_fault
returns-clause-no_read_fault c = λ k e. omega (arith, c.load.ensures.read_fault k e)
