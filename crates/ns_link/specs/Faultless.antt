-- Which programs have no static faults, class by class.
use Rattle.std.specs.Prelude.{◌≡◌, List, []}
use Rattle.ns_tree.specs.Plain as p
use Rattle.ns_scope.specs.declared.scope.ClassScope.{ClassScope}
use Rattle.ns_static_rules.specs.Faults.{class_faults}

-- There is no fault in a class that stands in these declarations.
abbrev pub Faultless : List ClassScope → p.Class → Type 0
Faultless outer class = class_faults outer class ≡ []
