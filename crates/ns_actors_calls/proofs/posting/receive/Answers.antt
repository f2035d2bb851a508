use Rattle.std.proofs.Common.{◌≡◌, ◌<◌, arith, get_or, length}
use Rattle.std.proofs.lemmas.Option.{slice_get-get_or}
use Rattle.ns_actors_calls.proofs.Ready.{all_received, none_received, receives_one}
use Rattle.ns_actors_calls.proofs.posting.receive.Goals as goal

pub boxes-init : goal.boxes-init
boxes-init c letters ready = none_received letters c.args.actors.now ready

pub boxes-preserved : goal.boxes-preserved
boxes-preserved c letters ready =
    let now = c.boxes.actors in
    let number = c.boxes.number in
    let read = c.index-actors-number.result in
    let within : number < length now = omega (arith, c.boxes-test.true, c.boxes.auto.actors) in
    receives_one letters c.args.actors.now now number (get_or now number read) c.receive.new.self (slice_get-get_or now number read within) within
    c.receive.ensures (c.boxes.invariant letters ready)

pub returns : goal.returns
returns c letters ready =
    let end : c.boxes.number ≡ length c.boxes.actors = omega (arith, c.boxes-test.false, c.boxes.auto.actors, c.boxes.auto.number-end) in
    all_received letters c.args.actors.now c.boxes.actors c.boxes.number end (c.boxes.invariant letters ready)
