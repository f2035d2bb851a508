-- The classes of a whole program without faults are right.
use Rattle.std.proofs.Common.{◌≡◌, ◌≤◌, ℕ, suc, ◌+◌, List, [], ◌∷◌, length, refl, ap, arith}
use Rattle.std.specs.Prelude.{Some, None, slice_get}
use Rattle.ns_base.specs.declared.place.Place.{Place}
use Rattle.ns_tree.specs.Plain as p
use Rattle.ns_scope.specs.Whole.{AreWholeUnits}
use Rattle.ns_static_rules.specs.Least.{least, faults}
use Rattle.ns_resolved.specs.Program as m
use Rattle.ns_resolved.specs.Classes.{meant_of}
use Rattle.ns_resolved.specs.Right.{IsNested, IsRightClass}
use Rattle.ns_resolved.specs.laws.Counting.{units_listed}
use Rattle.ns_link.proofs.Named.{classes_name_what_is_there}
use Rattle.ns_link.proofs.Declared.{members_of_classes_differ}

pub as_many_marks : (number : ℕ) (units : List p.SourceUnit) (marks : List (List Place)) → AreWholeUnits number units marks →
    length units ≡ length marks
as_many_marks number [] [] whole = refl
as_many_marks number [] (places ∷ marks) whole = absurd whole
as_many_marks number (unit ∷ units) [] whole = absurd whole
as_many_marks number (unit ∷ units) (places ∷ marks) whole = ap suc (as_many_marks (number + 1) units marks whole.1)

pub some_class : (files : List (List ℕ)) (units : List p.SourceUnit) (marks : List (List Place)) → AreWholeUnits 0 units marks →
    1 ≤ length units →
    1 ≤ length (meant_of files units marks).classes
some_class files [] marks whole some = absurd (omega (some, arith))
some_class files (p.unit_with marker category (p.class_with name factory clause bars body members others) ∷ units) marks whole some =
    let unit = p.unit_with marker category (p.class_with name factory clause bars body members others) in
    let counted = units_listed (unit ∷ units) marks 0 0 (as_many_marks 0 (unit ∷ units) marks whole) in
    omega (counted, arith)

pub classes_are_right : (files : List (List ℕ)) (units : List p.SourceUnit) (marks : List (List Place)) → AreWholeUnits 0 units marks →
    least (faults units marks) ≡ None → (number : ℕ) (class : m.Declaration) → IsNested (meant_of files units marks) number class →
    slice_get (meant_of files units marks).classes number ≡ Some class → IsRightClass (meant_of files units marks) number class
classes_are_right files units marks whole e number class nesting here =
    let named = classes_name_what_is_there files units marks whole number class here in
    let differ = members_of_classes_differ files units marks whole e number class here in
    record {
      nesting = nesting;
      name = named.name;
      few_params = differ.few_params;
      factory = named.factory;
      initialiser = named.initialiser;
      clause = named.clause;
      slots = named.slots;
      methods = named.methods;
      side_methods = named.side_methods;
      members_differ = differ.members_differ;
      side_members_differ = differ.side_members_differ;
    }
