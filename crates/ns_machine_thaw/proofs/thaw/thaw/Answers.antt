use Rattle.std.proofs.Common.{◌≤◌, subst, arith}
use Rattle.ns_base.specs.declared.limits.Limits.{Limits}
use Rattle.ns_frozen.specs.Frames.{above_all}
use Rattle.ns_frozen.specs.Thawing.{heap_thawed}
use Rattle.ns_machine_thaw.proofs.Sure.{parts_of, frames_fit}
use Rattle.ns_machine_thaw.proofs.Whole.{lawful, frames_few, depth_room}
use Rattle.ns_machine_thaw.proofs.thaw.thaw.Goals as goal

pub put_run-requires-clause-lawful : goal.put_run-requires-clause-lawful
put_run-requires-clause-lawful c =
    lawful c.args.code.now c.args.frozen.now (c.valid_states_thaw.ensures c.args.code.now c.args.frozen.now c.requires.stand c.requires.valid)

pub put_standing-requires-clause-fit : goal.put_standing-requires-clause-fit
put_standing-requires-clause-fit c =
    let code = c.args.code.now in
    let frozen = c.args.frozen.now in
    frames_fit code (record { heights = c.heights_agree.ensures.heights; agree = c.heights_agree.ensures.agree code }) c.requires.stand.sound c.requires.stand.fits
    (heap_thawed code frozen.cells) frozen.homes 0 0 (above_all frozen.pending) frozen.frames (parts_of code frozen c.requires.valid).frames

pub put_standing-requires-clause-room : goal.put_standing-requires-clause-room
put_standing-requires-clause-room c =
    let code = c.args.code.now in
    let frozen = c.args.frozen.now in
    let world = lawful code frozen (c.valid_states_thaw.ensures code frozen c.requires.stand c.requires.valid) in
    let same = frames_few code frozen (parts_of code frozen c.requires.valid).rest c.in-None.is in
    let depth = subst (λ (l : Limits). frozen.used.depth ≤ l.depth) c.requires.limits world.within.depth in
    depth_room code frozen c.args.core.now.stack c.args.core.now.run.world.world.limits.depth (omega (arith, same, depth)) c.requires.rooms.frames c.requires.rooms.values

pub put_standing-requires-clause-places : goal.put_standing-requires-clause-places
put_standing-requires-clause-places c =
    let code = c.args.code.now in
    let frozen = c.args.frozen.now in
    let world = lawful code frozen (c.valid_states_thaw.ensures code frozen c.requires.stand c.requires.valid) in
    let same = frames_few code frozen (parts_of code frozen c.requires.valid).rest c.in-None.is in
    let depth = subst (λ (l : Limits). frozen.used.depth ≤ l.depth) c.requires.limits world.within.depth in
    let places = c.requires.places in
    omega (arith, same, depth, places)
