use Rattle.std.proofs.lemmas.Result.{err_from_is_err_and}
use Rattle.ns_image.specs.Read.{chained}
use Rattle.ns_image.specs.Reading.{place, behind_place}
use Rattle.ns_image.specs.laws.Loop.{goes_on, ends, is_done}
use Rattle.ns_image.proofs.read.place.places_of.Goals as goal

pub returns-in_err-item : goal.returns-in_err-item
returns-in_err-item c =
    let p = err_from_is_err_and c.from_residual.result c.from_residual.ensures.1 in
    let item = place c.args.files c.args.instrs.now in
    rw (p.1, p.2)
    (ends item behind_place c.in_err-item.field-0.0 c.places.places.items c.args.count c.places.counter c.places.least c.places.input.rest.now (chained item behind_place c.args.count 0 c.args.input.now.rest.now) c.places-test.true
    c.in_err-item.ensures c.places.invariant)

pub places-preserved : goal.places-preserved
places-preserved c =
    let item = place c.args.files c.args.instrs.now in
    rw c.from-least.ensures
    (goes_on item behind_place c.places.places.items c.push.new.self.items c.args.count c.places.counter c.places.least c.places.input.rest.now c.in_ok-item.item c.place.new.input.rest.now
    (chained item behind_place c.args.count 0 c.args.input.now.rest.now) c.places-test.true c.in_ok-item.ensures c.in_ok-push.ensures.items c.places.invariant)

pub returns : goal.returns
returns c =
    let item = place c.args.files c.args.instrs.now in
    rw c.from_vec.ensures
    (is_done item behind_place c.places.places.items c.args.count c.places.counter c.places.least c.places.input.rest.now (chained item behind_place c.args.count 0 c.args.input.now.rest.now) c.places-test.false c.places.invariant)
