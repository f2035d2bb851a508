-- Where code stands: what is seen from the bodies of a program.
use Rattle.std.specs.Prelude.{Bool, true, false, List, [], ◌∷◌, Option, Some, None}
use Rattle.ns_tree.specs.declared.tree.Named.{Named}
use Rattle.ns_tree.specs.Plain as p
use Rattle.ns_scope.specs.declared.scope.ClassScope.{ClassScope}
use Rattle.ns_scope.specs.declared.scope.Scope.{Scope}
use Rattle.ns_scope.specs.declared.scope.CodeSide.{CodeSide}
use Rattle.ns_scope.specs.declared.scope.CodeSide.TheVariants as side
use Rattle.ns_scope.specs.Names.{table_of, locals_of, instance_members, class_members}

abbrev pub class_scope : p.Class → ClassScope
class_scope (p.class_with name factory clause bars body members others) =
    record { name = name.text; instance = table_of (instance_members bars members); class_side = table_of (class_members others) }

-- whether there is no declaration around
abbrev pub is_outside : List ClassScope → Bool
is_outside [] = true
is_outside (class ∷ outer) = false

-- A clause's head stands in the declarations around the class, and declares nothing.
abbrev pub clause_scope : List ClassScope → Scope
clause_scope classes = record { bodies = [] ∷ []; side = side.Instance; in_method = false; classes = classes }

abbrev pub factory_params : Option p.Pattern → List Named
factory_params None = []
factory_params (Some (p.pattern_with parts params)) = params

-- An initialiser declares the factory's parameters.
abbrev pub initialiser_scope : List ClassScope → Option p.Pattern → Scope
initialiser_scope classes factory =
    record { bodies = table_of (locals_of (factory_params factory) p.no_bars) ∷ []; side = side.Instance; in_method = false; classes = classes }

abbrev pub method_scope : List ClassScope → CodeSide → List Named → p.Bars → Scope
method_scope classes side params bars = record { bodies = table_of (locals_of params bars) ∷ []; side = side; in_method = true; classes = classes }

-- A block stands in another body.
abbrev pub block_scope : Scope → List Named → p.Bars → Scope
block_scope scope params bars =
    record { bodies = table_of (locals_of params bars) ∷ scope.bodies; side = scope.side; in_method = scope.in_method; classes = scope.classes }
