use Rattle.std.proofs.Common.{arith}
use Rattle.ns_mirror.proofs.Public.{public_few, put_step, put_count, put_size}
use Rattle.ns_mirror.proofs.selectors.put_selectors.Goals as goal

pub put_selector-at-requires-clause-few : goal.put_selector-at-requires-clause-few
put_selector-at-requires-clause-few c = omega (arith, c.methods.invariant.count, public_few c.args.methods.now, c.requires.few)

pub methods-preserved : goal.methods-preserved
methods-preserved c =
    let l = c.methods in
    let wrote = c.put_selector-at.ensures.world in
    let place = c.put_selector-at.ensures.place in
    record {
      rest = put_step c.args.world.now l.world c.put_selector-at.new.world c.args.to l.at c.put_selector-at.result l.method-index c.args.methods.now _ c.methods-test.true l.invariant.rest wrote place;
      count = put_count l.at c.put_selector-at.result l.method-index _ c.args.methods.now _ c.methods-test.true l.invariant.count place;
      size = put_size l.world c.put_selector-at.new.world c.args.to l.at l.method-index _ c.args.methods.now _ wrote l.invariant.size;
    }
