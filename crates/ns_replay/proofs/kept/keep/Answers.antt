use Rattle.std.proofs.Common.{sym}
use Rattle.ns_frozen.specs.Thawing.{thawed}
use Rattle.ns_replay.proofs.Keeping.{inserted_kept}
use Rattle.ns_replay.proofs.PutBack.{kept_here}
use Rattle.ns_replay.proofs.kept.keep.Goals as goal
use Rattle.ns_replay.specs.declared.kept.Kept.{Kept}

pub returns-in-Ok : goal.returns-in-Ok
returns-in-Ok c =
    let machine = c.args.machine.now in
    let one : Kept = record { step = c.args.step; frozen = c.in-Ok.frozen } in
    inserted_kept machine.code machine.grants (thawed machine.code c.args.start.now) c.args.kept.now c.make_room.new.kept c.insert-key.new.self one c.insert-key.result
    c.requires.kept c.make_room.ensures
    (kept_here machine c.args.start.now c.in-Ok.frozen c.args.kept.now c.args.step (c.states_thaw_back.ensures machine.code) c.idle-idle.ensures.valid
    (sym c.in-None.ensures.ending) c.requires c.in-Ok.ensures)
    c.insert-key.ensures.updates c.insert-key.ensures.err
