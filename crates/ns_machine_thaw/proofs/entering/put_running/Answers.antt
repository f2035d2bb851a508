use Rattle.std.proofs.Common.{◌+◌, List, length, ap, ◌∙◌, subst}
use Rattle.ns_world.specs.declared.value.Value.{Value}
use Rattle.ns_moves.specs.Bodies.{height_in, greatest_of}
use Rattle.ns_machine_frames.specs.declared.calls.BodyShape.{BodyShape}
use Rattle.ns_machine_frames.specs.declared.registers.Registers.{Registers}
use Rattle.ns_machine_frames.specs.Standing.{pushed_all}
use Rattle.ns_machine_frames.specs.Stack.{stood, with_top, IsEntered}
use Rattle.ns_machine_thaw.specs.Frames.{at_start}
use Rattle.ns_machine_thaw.proofs.Entered.{body_put}
use Rattle.ns_machine_thaw.proofs.entering.put_running.Goals as goal

pub returns : goal.returns
returns c =
    let code = c.args.code.now in
    let entered = c.enter_on-entered in
    let height = c.shape_of-height.result.height in
    let goes_on : Registers = record entered.result { next = c.args.kept.next } in
    body_put code (c.frames_have_room.ensures.entering (height_in code) (greatest_of code.bodies)) c.args.stack.now entered.new.stack c.push_values.new.stack c.args.at
    entered.result c.push_values.result c.args.frame.now c.args.kept height c.requires.keeps c.requires.stand
    (ap (λ (s : BodyShape). s.height) c.shape_of-height.ensures)
    (subst (λ (values : List Value). IsEntered c.args.stack.now c.args.at entered.new.stack entered.result (at_start c.args.kept) values height) c.as_slice.ensures entered.ensures)
    (c.push_values.ensures.stood ∙ ap (λ (values : List Value). pushed_all values (stood entered.new.stack goes_on)) c.as_slice-2.ensures)
    c.push_values.ensures.laid c.push_values.ensures.frames c.push_values.ensures.room
    (c.push_values.ensures.at ∙ ap (λ (values : List Value). with_top (entered.result.top + length values) goes_on) c.as_slice-2.ensures)
