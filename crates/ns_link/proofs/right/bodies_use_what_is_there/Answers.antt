use Rattle.std.specs.Prelude.{map}
use Rattle.ns_tree.specs.PlainOf.{unit_of}
use Rattle.ns_link.proofs.ProgramUse.{bodies_use_what_is_there}
use Rattle.ns_link.proofs.right.bodies_use_what_is_there.Goals as goal

pub returns : goal.returns
returns c program whole = bodies_use_what_is_there program.files (map unit_of program.units) program.marks whole.units
