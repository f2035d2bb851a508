use Rattle.std.proofs.lemmas.Result.{err_from_is_err_and}
use Rattle.ns_image.specs.Read.{times}
use Rattle.ns_image.specs.laws.Loop.{goes_on, ends, is_done}
use Rattle.ns_image.proofs.read.format.times.Goals as goal

pub returns-in_err-item : goal.returns-in_err-item
returns-in_err-item g c =
    let p = err_from_is_err_and c.from_residual.result c.from_residual.ensures.1 in
    let item = g.F.Format.reader c.args.format.now in
    rw (p.1, p.2)
    (ends (λ _. item) (λ (s : Unit {0}) _. s) c.in_err-item.field-0.0 c.items.items.items c.args.count c.items.counter tt c.items.input.rest.now (times c.args.count item c.args.input.now.rest.now) c.items-test.true c.in_err-item.ensures
    c.items.invariant)

pub items-preserved : goal.items-preserved
items-preserved g c =
    let item = g.F.Format.reader c.args.format.now in
    goes_on (λ _. item) (λ (s : Unit {0}) _. s) c.items.items.items c.push.new.self.items c.args.count c.items.counter tt c.items.input.rest.now c.in_ok-item.item c.read.new.input.rest.now
    (times c.args.count item c.args.input.now.rest.now) c.items-test.true c.in_ok-item.ensures c.in_ok-push.ensures.items c.items.invariant

pub returns : goal.returns
returns g c =
    let item = g.F.Format.reader c.args.format.now in
    rw c.from_vec.ensures
    (is_done (λ _. item) (λ (s : Unit {0}) _. s) c.items.items.items c.args.count c.items.counter tt c.items.input.rest.now (times c.args.count item c.args.input.now.rest.now) c.items-test.false c.items.invariant)
