use Rattle.std.proofs.Common.{◌≡◌, ◌+◌, ◌∙◌, ap, sym, subst, arith}
use Rattle.ns_world.specs.World.{WorldView}
use Rattle.ns_moves.specs.Control.{in_world}
use Rattle.ns_machine_returns.proofs.GivenBack.{one_more_ended, less_depth}
use Rattle.ns_machine_returns.proofs.homes.give_back.Goals as goal

pub frames-preserved : goal.frames-preserved
frames-preserved c =
    let so_far = c.frames.invariant in
    let left = c.leave.ensures in
    let below = c.frames-test.true in
    let all = c.requires in
    let depth = so_far.2 in (
      λ p. ap (λ (v : WorldView). in_world p v.world) left ∙ one_more_ended c.frames.counter _ _ (so_far.0 p),
      record {
        limits = ap (λ (v : WorldView). v.world.limits) left ∙ so_far.1.limits;
        room = (ap (λ (v : WorldView). v.cell_room) left ∙ so_far.1.room.0, ap (λ (v : WorldView). v.out_room) left ∙ so_far.1.room.1);
      },
      subst (λ (v : WorldView). v.world.depth + (c.frames.counter + 1) ≡ c.args.world.now.world.depth) (sym left)
          (less_depth c.frames.world.world c.frames.counter c.args.world.now.world.depth depth (omega (arith, below, all, depth))),
    )
