-- The first class of a program that was loaded whole has an initialiser, whose number is that of the first body.
use Rattle.std.proofs.Common.{ℕ, ◌≤◌, List, [], ◌∷◌, length, refl, arith}
use Rattle.std.specs.Prelude.{map, Option, Some, None}
use Rattle.std.proofs.lemmas.List.{length-map}
use Rattle.ns_base.specs.declared.place.Place.{Place}
use Rattle.ns_tree.specs.Plain as p
use Rattle.ns_tree.specs.PlainOf.{unit_of}
use Rattle.ns_scope.specs.declared.program.Program.{Program}
use Rattle.ns_scope.specs.Whole.{AreWholeUnits}
use Rattle.ns_scope.specs.Scopes.{initialiser_scope}
use Rattle.ns_resolved.specs.Expressions.{Standing}
use Rattle.ns_resolved.specs.Classes.{in_file, within, standing, declaration_of, initialiser_of, meant_of}
use Rattle.ns_link.specs.Stated.{HasFirst, WholeHasFirst}

-- where the expressions of the first initialiser stand
abbrev in_first : List Place → Option p.Pattern → p.Class → Standing
in_first places factory class =
    let inside = within (in_file places) 0 class in
    standing inside (initialiser_scope inside.classes factory) 0 0

-- a class at the top has no clause's body before its initialiser, as no declaration is around it
first_of : (files : List (List ℕ)) (unit : p.SourceUnit) (units : List p.SourceUnit) (places : List Place) (marks : List (List Place))
    → HasFirst (meant_of files (unit ∷ units) (places ∷ marks))
first_of files (p.unit_with marker category (p.class_with name factory None bars body members others)) units places marks =
    let class = p.class_with name factory None bars body members others in
    record {
      class = declaration_of (in_file places) 0 0 class;
      init = initialiser_of (in_first places factory class) name None bars body;
      is = refl;
      does = refl;
    }
first_of files (p.unit_with marker category (p.class_with name factory (Some clause) bars body members others)) units places marks =
    let class = p.class_with name factory (Some clause) bars body members others in
    record {
      class = declaration_of (in_file places) 0 0 class;
      init = initialiser_of (in_first places factory class) name (Some clause) bars body;
      is = refl;
      does = refl;
    }

from_units : (files : List (List ℕ)) (units : List p.SourceUnit) (marks : List (List Place)) (number : ℕ) → 1 ≤ length units
    → AreWholeUnits number units marks → HasFirst (meant_of files units marks)
from_units files [] marks number some whole = absurd (omega (arith, some))
from_units files (unit ∷ units) [] number some whole = absurd whole
from_units files (unit ∷ units) (places ∷ marks) number some whole = first_of files unit units places marks

pub whole_has_first : (program : Program) → WholeHasFirst program
whole_has_first program whole =
    from_units program.files (map unit_of program.units) program.marks 0 (omega (arith, whole.some, length-map program.units unit_of)) whole.units
