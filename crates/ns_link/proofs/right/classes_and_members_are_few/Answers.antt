use Rattle.std.specs.Prelude.{map}
use Rattle.ns_tree.specs.PlainOf.{unit_of}
use Rattle.ns_link.proofs.Declared.{members_of_classes_differ}
use Rattle.ns_link.proofs.FewClasses.{few_classes}
use Rattle.ns_link.proofs.right.classes_and_members_are_few.Goals as goal

pub returns-clause-classes : goal.returns-clause-classes
returns-clause-classes c program whole = few_classes program.files (map unit_of program.units) program.marks whole.units

pub returns-clause-members : goal.returns-clause-members
returns-clause-members c program whole e number class here =
    (members_of_classes_differ program.files (map unit_of program.units) program.marks whole.units e number class here).few
