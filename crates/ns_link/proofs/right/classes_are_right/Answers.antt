use Rattle.std.specs.Prelude.{map}
use Rattle.ns_tree.specs.PlainOf.{unit_of}
use Rattle.ns_link.proofs.Classes.{classes_are_right}
use Rattle.ns_link.proofs.right.classes_are_right.Goals as goal

pub returns : goal.returns
returns c program whole e number class here =
    let units = map unit_of program.units in
    classes_are_right program.files units program.marks whole.units e number class
    (c.classes_are_nested.ensures program.files units program.marks number class here) here
