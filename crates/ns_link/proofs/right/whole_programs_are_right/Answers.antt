use Rattle.std.specs.Prelude.{map}
use Rattle.ns_tree.specs.PlainOf.{unit_of}
use Rattle.ns_resolved.specs.Classes.{meant}
use Rattle.ns_link.proofs.Classes.{as_many_marks}
use Rattle.ns_link.proofs.RightWhole.{uses_there}
use Rattle.ns_link.proofs.right.whole_programs_are_right.Goals as goal

pub returns : goal.returns
returns c program whole e =
    let used = c.bodies_use_what_is_there.ensures program whole e in
    let units = map unit_of program.units in
    record {
      some_class = c.classes_name_what_is_there.ensures.some program whole;
      classes = c.classes_are_right.ensures program whole e;
      bodies = λ number body here. record {
        placed = c.bodies_are_placed.ensures program.files units program.marks (as_many_marks 0 units program.marks whole.units) number body here;
        few_locals = c.bodies_have_few_locals.ensures program whole e number body here;
        uses = uses_there (meant program) number body body.does (used number body here)
            (c.bodies_are_placed.ensures program.files units program.marks (as_many_marks 0 units program.marks whole.units) number body here).blocks;
      };
    }
