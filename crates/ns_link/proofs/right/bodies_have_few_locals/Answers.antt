use Rattle.std.specs.Prelude.{map}
use Rattle.ns_tree.specs.PlainOf.{unit_of}
use Rattle.ns_link.proofs.FewInAll.{bodies_have_few_locals}
use Rattle.ns_link.proofs.right.bodies_have_few_locals.Goals as goal

pub returns : goal.returns
returns c program whole = bodies_have_few_locals program.files (map unit_of program.units) program.marks whole.units
