use Rattle.std.proofs.Common.{◌∙◌, length, refl}
use Rattle.ns_moves.specs.Control.{in_world}
use Rattle.ns_machine_sends.specs.laws.Opened.{block_opens, room_later}
use Rattle.ns_machine_sends.proofs.opening.open_block.Goals as goal

pub open_body-env-requires-clause-room : goal.open_body-env-requires-clause-room
open_body-env-requires-clause-room c =
    room_later c.args.world.now.world c.step.new.self.world c.args.shape (length c.args.arguments.now) c.in-Ok.ensures.charges.0 c.requires.room

pub returns-in-Ok : goal.returns-in-Ok
returns-in-Ok c =
    let rest = c.open_body-env.ensures.rest in
    record {
      reached = λ site rest. block_opens c.args.code.now c.args.running c.args.arguments.now c.args.shape site (in_world rest c.args.world.now.world) c.step.new.self.world
          c.open_body-env.result c.open_body-env.new.world.world c.requires.shape c.requires.many c.in-Ok.ensures.charges.0 c.open_body-env.ensures.opens;
      body = refl;
      given = refl;
      rest = record {
        limits = rest.limits ∙ c.in-Ok.ensures.limits;
        room = (rest.room.0 ∙ c.in-Ok.ensures.charges.1.0, rest.room.1 ∙ c.in-Ok.ensures.charges.1.1);
      };
    }
