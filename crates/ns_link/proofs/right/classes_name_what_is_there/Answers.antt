use Rattle.std.proofs.Common.{arith}
use Rattle.std.specs.Prelude.{map}
use Rattle.std.proofs.lemmas.List.{length-map}
use Rattle.ns_tree.specs.PlainOf.{unit_of}
use Rattle.ns_link.proofs.Named.{classes_name_what_is_there}
use Rattle.ns_link.proofs.Classes.{some_class}
use Rattle.ns_link.proofs.right.classes_name_what_is_there.Goals as goal

pub returns-clause-named : goal.returns-clause-named
returns-clause-named c program whole = classes_name_what_is_there program.files (map unit_of program.units) program.marks whole.units

pub returns-clause-some : goal.returns-clause-some
returns-clause-some c program whole =
    some_class program.files (map unit_of program.units) program.marks whole.units (omega (whole.some, length-map program.units unit_of, arith))
