use Rattle.std.proofs.Common.{◌≡◌, arith}
use Rattle.std.proofs.lemmas.Grind.{common_steps}
use Rattle.ns_tree.specs.Flat.{flat}
use Rattle.ns_tree.specs.PlainOf.{unit_of}
use Rattle.ns_print.specs.Printed.{lines}
use Rattle.ns_print.proofs.Ends.{finished}
use Rattle.ns_print.proofs.print.print.Goals as goal

pub returns : goal.returns
returns c =
    let text : c.put_unit.new.out.items ≡ lines (flat (unit_of c.args.unit.now)) = grind (arith, common_steps) in
    let end = finished (unit_of c.args.unit.now) c.put_unit.new.out.items text in
    grind (arith, common_steps, end)
