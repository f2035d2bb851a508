use Rattle.std.proofs.Common.{◌≡◌, ◌+◌}
use Rattle.ns_moves.specs.Control.{Progress, in_world}
use Rattle.ns_moves.specs.Room.{SameRest}
use Rattle.ns_machine_frames.specs.Stated.{parts_ended}
use Rattle.ns_machine_returns.proofs.homes.give_back.Given as goal

abbrev pub invariant-frames : goal.invariant-frames
invariant-frames l =
    ((rest : Progress) → in_world rest l.world.world ≡ parts_ended l.counter (in_world rest l.initial.world.world))
    × SameRest l.initial.world l.world × (l.world.world.depth + l.counter ≡ l.initial.world.world.depth)
