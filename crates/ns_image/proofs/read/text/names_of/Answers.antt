use Rattle.std.proofs.lemmas.Result.{err_from_is_err_and}
use Rattle.ns_image.specs.Read.{chained}
use Rattle.ns_image.specs.Reading.{name_after, with_name}
use Rattle.ns_image.specs.laws.Loop.{goes_on, ends, is_done}
use Rattle.ns_image.proofs.read.text.names_of.Goals as goal

pub returns-in_err-text : goal.returns-in_err-text
returns-in_err-text c =
    let p = err_from_is_err_and c.from_residual.result c.from_residual.ensures.1 in
    rw (p.1, p.2)
    (ends name_after with_name c.in_err-text.field-0.0 c.names.names.items c.args.count c.names.counter c.names.earlier c.names.input.rest.now (chained name_after with_name c.args.count c.args.earlier.now c.args.input.now.rest.now) c.names-test.true
    c.in_err-text.ensures.reads c.names.invariant)

pub names-preserved : goal.names-preserved
names-preserved c =
    rw c.in_ok-text.ensures.earlier
    (goes_on name_after with_name c.names.names.items c.push.new.self.items c.args.count c.names.counter c.names.earlier c.names.input.rest.now c.in_ok-text.text.now c.name.new.input.rest.now
    (chained name_after with_name c.args.count c.args.earlier.now c.args.input.now.rest.now) c.names-test.true c.in_ok-text.ensures.reads (cc (c.in_ok-push.ensures.items, c.in_ok-text-2.ensures)) c.names.invariant)

pub returns : goal.returns
returns c =
    rw c.from_vec.ensures
    (is_done name_after with_name c.names.names.items c.args.count c.names.counter c.names.earlier c.names.input.rest.now (chained name_after with_name c.args.count c.args.earlier.now c.args.input.now.rest.now) c.names-test.false c.names.invariant)
