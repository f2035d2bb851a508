use Rattle.std.proofs.Common.{◌∙◌, ◌+◌, ◌≤◌, ◌++◌, List, length, take, ap, sym, subst, arith, rules, w64, SFits, to_z-of_z}
use Rattle.ns_world.specs.declared.value.Value.{Value}
use Rattle.ns_moves.specs.Blocks.{listed}
use Rattle.ns_moves.specs.declared.methods.Waited.TheVariants.{Evaluates}
use Rattle.ns_machine_frames.specs.declared.frame.Frame.{Frame}
use Rattle.ns_machine_frames.specs.Row.{ValueRow, FrameRow}
use Rattle.ns_machine_returns.specs.Acting.{IsTopmost}
use Rattle.ns_machine_returns.proofs.Acted.{asked_fits, asked_top, asked_waits, count_is, prepared, topmost_still}
use Rattle.ns_machine_returns.proofs.acting.prepare.Goals as goal

pub make_room-requires-clause-room : goal.make_room-requires-clause-room
make_room-requires-clause-room c =
    subst (λ (row : ValueRow). c.args.looping.floor + 1 ≤ row.room) (sym c.set_count.ensures.values)
    (asked_fits c.args.code.now c.requires.0 c.args.at c.args.looping c.frames_have_room.ensures.depth c.args.core.now
    (Evaluates c.args.block c.args.argument c.args.state) c.requires.1)

pub returns-clause-moves : goal.returns-clause-moves
returns-clause-moves c = λ first asked.
    let set = c.set_count.ensures in
    let fits : SFits w64 c.args.state.count = search rules in
    let made = c.make_room.ensures in
    let pushed = c.push_argument.ensures in
    let same = ap (λ (row : ValueRow). length row.items) set.values in
    let more = made.room.filled in
    let most = pushed.room.filled in
    prepared c.args.code.now first c.args.at c.args.looping c.args.core.now c.push_argument.result c.args.block c.args.argument c.args.state c.push_argument.new.stack
    asked
    (record {
      used = pushed.used ∙ ap (λ (values : List Value). values ++ listed c.args.argument) (made.used ∙ ap (λ (row : ValueRow). take c.args.looping.floor row.items) set.values);
      laid = pushed.laid;
      frames = pushed.frames ∙ (made.frames ∙ ((rw (to_z-of_z fits) at (set.frames)) ∙ ap (λ (items : List Frame). record c.args.core.now.stack.frames { items = items })
          (count_is c.args.looping c.args.state c.args.core.now.stack.frames.items
          (asked_top c.args.code.now first c.args.at c.args.looping c.args.core.now (Evaluates c.args.block c.args.argument c.args.state) asked)
          (asked_waits c.args.code.now first c.args.at c.args.looping c.args.core.now c.args.block c.args.argument c.args.state asked))));
      room = record {
        values = pushed.room.values ∙ (made.room.values ∙ ap (λ (row : ValueRow). row.room) set.values);
        frames = pushed.room.frames ∙ (made.room.frames ∙ ap (λ (row : FrameRow). row.room) set.frames);
        filled = omega (arith, same, more, most);
      };
      top = pushed.top;
    })

pub returns-clause-top : goal.returns-clause-top
returns-clause-top c =
    let fits : SFits w64 c.args.state.count = search rules in
    let top = asked_top c.args.code.now c.requires.0 c.args.at c.args.looping c.args.core.now (Evaluates c.args.block c.args.argument c.args.state) c.requires.1 in
    subst (IsTopmost c.args.looping)
    (sym (ap (λ (row : FrameRow). row.items) (c.push_argument.ensures.frames ∙ (c.make_room.ensures.frames ∙ (rw (to_z-of_z fits) at (c.set_count.ensures.frames))))
    ∙ count_is c.args.looping c.args.state c.args.core.now.stack.frames.items top
    (asked_waits c.args.code.now c.requires.0 c.args.at c.args.looping c.args.core.now c.args.block c.args.argument c.args.state c.requires.1)))
    (topmost_still c.args.looping c.args.state c.args.core.now.stack.frames.items top)
