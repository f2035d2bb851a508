use Rattle.std.proofs.Common.{refl, ◌∙◌}
use Rattle.ns_moves.specs.Control.{in_world}
use Rattle.ns_moves.specs.Running.{activation_at}
use Rattle.ns_moves.proofs.Applying.{default_part}
use Rattle.ns_moves.proofs.classes.part_of.Goals as goal

pub returns-in_default : goal.returns-in_default
returns-in_default c = record {
  reached = λ site rest.
      c.object_part.ensures site c.args.arguments.now c.args.running (in_world rest c.args.world.now.world)
      ∙ default_part c.args.code.now (activation_at site c.args.running) c.args.over c.args.sel c.args.arguments.now (in_world rest c.args.world.now.world) c.in_default.not-Ref;
  rest = record { limits = refl; room = (refl, refl) };
}
