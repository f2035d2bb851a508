use Rattle.std.proofs.Common.{arith}
use Rattle.ns_mirror.specs.Selectors.{public_selectors}
use Rattle.ns_mirror.proofs.Listed.{new_array_is, array_finished}
use Rattle.ns_mirror.proofs.selectors.list_selectors.Goals as goal

pub put_selectors-requires-clause-inside : goal.put_selectors-requires-clause-inside
put_selectors-requires-clause-inside c =
    let new = new_array_is c.args.world.now c.new_array.new.world _ c.in_ok-to.to c.in_ok-to.ensures in
    omega (arith, new.size, c.public_count.ensures)

pub returns : goal.returns
returns c =
    array_finished c.args.world.now c.new_array.new.world c.put_selectors.new.world (public_selectors c.args.methods.now) _ c.in_ok-to.to c.public_count.ensures c.put_selectors.ensures c.in_ok-to.ensures
