use Rattle.std.proofs.Common.{ap, sym, ◌∙◌}
use Rattle.ns_find.specs.declared.found.Sending.TheVariants.{Inner}
use Rattle.ns_find.specs.Find.{found_from, super_start}
use Rattle.ns_moves.specs.Running.{code_of}
use Rattle.ns_moves.proofs.targets.found_above.Goals as goal

pub super_start-start-requires : goal.super_start-start-requires
super_start-start-requires c = c.enclosing_objects_are_there.ensures.holder c.args.world.now.world c.args.code.now (code_of c.args.running) c.requires.lawful c.requires.running

pub returns-clause-found : goal.returns-clause-found
returns-clause-found c =
    let heap = c.args.world.now.world.cells in
    c.find_kept.ensures.found
    ∙ (ap (λ s. found_from heap c.args.code.now s c.args.sel.0 Inner) c.super_start-start.ensures.above
    ∙ ap (λ s. found_from heap c.args.code.now (super_start heap c.args.running.holder s) c.args.sel.0 Inner) (sym c.is_on_class_side.ensures))
