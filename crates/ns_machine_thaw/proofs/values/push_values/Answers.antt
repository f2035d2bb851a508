use Rattle.std.proofs.Common.{◌≡◌, ◌+◌, ◌∷◌, ◌++◌, [], List, length, take, ap, ◌∙◌, sym, subst, arith, length-take-le}
use Rattle.std.proofs.lemmas.List.{take_more, take_all}
use Rattle.ns_world.specs.declared.value.Value.{Value}
use Rattle.ns_machine_thaw.proofs.Pushed.{Pushed, pushing_starts, room_for_next, pushing_goes_on, pushing_keeps}
use Rattle.ns_machine_thaw.proofs.values.push_values.Goals as goal

pub values-init : goal.values-init
values-init c = pushing_starts c.args.stack.now c.args.at c.requires.laid

pub push-above-requires-clause-laid : goal.push-above-requires-clause-laid
push-above-requires-clause-laid c = c.values.invariant.laid

pub push-above-requires-clause-room : goal.push-above-requires-clause-room
push-above-requires-clause-room c =
    let values = c.args.values.now in
    let more = c.values-test.true in
    let size = length-take-le c.values.value-index values (omega (arith, more)) in
    room_for_next (take c.values.value-index values) c.args.stack.now c.values.stack c.args.at c.values.above (length values) (omega (arith, more, size)) c.requires.room
    c.values.invariant

pub values-preserved : goal.values-preserved
values-preserved c =
    let values = c.args.values.now in
    let front = take c.values.value-index values in
    let next : take (c.values.value-index + 1) values ≡ front ++ c.value.result ∷ [] =
    take_more values c.values.value-index c.value-item.result c.values-test.true
    ∙ ap (λ (value : Value). front ++ value ∷ []) (sym c.value-item.is ∙ sym c.value.ensures) in
    subst (λ (done : List Value). Pushed done c.args.stack.now c.args.at c.push-above.new.self c.push-above.result) (sym next)
    (pushing_goes_on front c.value.result c.args.stack.now c.values.stack c.push-above.new.self c.args.at c.values.above c.push-above.result c.values.invariant
    c.push-above.ensures.stood c.push-above.ensures.used c.push-above.ensures.laid c.push-above.ensures.write c.push-above.ensures.at)

-- at the end all have been put
whole : (c : goal.After-values) → Pushed c.args.values.now c.args.stack.now c.args.at c.values.stack c.values.above
whole c =
    subst (λ (done : List Value). Pushed done c.args.stack.now c.args.at c.values.stack c.values.above)
    (take_all c.values.value-index c.args.values.now c.values-test.false) c.values.invariant

pub returns-clause-stood : goal.returns-clause-stood
returns-clause-stood c = (whole c).stood

pub returns-clause-used : goal.returns-clause-used
returns-clause-used c = (whole c).used

pub returns-clause-laid : goal.returns-clause-laid
returns-clause-laid c = c.values.invariant.laid

pub returns-clause-frames : goal.returns-clause-frames
returns-clause-frames c = c.values.invariant.frames

pub returns-clause-room : goal.returns-clause-room
returns-clause-room c =
    pushing_keeps (take c.values.value-index c.args.values.now) c.args.stack.now c.values.stack c.args.at c.values.above c.values.invariant

pub returns-clause-at : goal.returns-clause-at
returns-clause-at c = (whole c).registers
