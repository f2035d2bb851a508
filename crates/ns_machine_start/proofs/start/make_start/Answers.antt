use Rattle.std.proofs.Common.{◌∙◌, ap, sym}
use Rattle.ns_world.specs.declared.value.Value.TheVariants.{Nil}
use Rattle.ns_world.specs.World.{World}
use Rattle.ns_moves.specs.Control.{in_world}
use Rattle.ns_moves.specs.Start.{all_made, start_cells, nothing_done}
use Rattle.ns_machine_start.proofs.start.make_start.Goals as goal

pub returns-clause-made : goal.returns-clause-made
returns-clause-made c =
    let nothing = nothing_done c.args.world.now.world.limits in
    sym (c.make_all.ensures.made nothing)
    ∙ ap (λ (w : World). all_made (start_cells c.args.code.now c.args.grants c.args.arguments.now) Nil (in_world nothing w)) c.requires.empty
