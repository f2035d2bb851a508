use Rattle.std.proofs.Common.{◌∙◌, ◌++◌, List, ap, subst}
use Rattle.ns_world.specs.declared.value.Value.{Value}
use Rattle.ns_machine_sends.specs.Going.{ArePlaced}
use Rattle.ns_machine_sends.proofs.Placed.{values_placed, keeps_room}
use Rattle.ns_machine_sends.proofs.placing.place_kept.Goals as goal

pub returns : goal.returns
returns c =
    subst
    (λ (values : List Value). ArePlaced c.args.code.now c.args.core.now c.args.at c.args.sent.floor values (record c.args.core.now { stack = c.push_all.new.self }) c.push_all.result)
    c.as_slice.ensures
    (values_placed c.args.code.now c.args.core.now c.args.at c.push_all.result c.args.sent c.push_all.new.self c.as_slice.result.now c.requires.left
    (c.push_all.ensures.used ∙ ap (λ (values : List Value). values ++ c.as_slice.result.now) c.make_room.ensures.used)
    c.push_all.ensures.laid (c.push_all.ensures.frames ∙ c.make_room.ensures.frames)
    (keeps_room c.args.core.now.stack c.make_room.new.self c.push_all.new.self c.make_room.ensures.room c.push_all.ensures.room) c.push_all.ensures.at)
