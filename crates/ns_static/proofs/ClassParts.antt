-- What is found in a class, by its parts.
use Rattle.std.proofs.Common.{◌≡◌, refl, List, ◌∷◌, ◌++◌, option_map}
use Rattle.ns_tree.specs.declared.tree.What.TheViews as w
use Rattle.ns_tree.specs.declared.tree.Class.{Class}
use Rattle.ns_tree.specs.PlainOf.{class_of, clause_of, pattern_of, bars_of, statements_of, side_of, class_side_of}
use Rattle.ns_tree.specs.laws.Nodes.{class_out}
use Rattle.ns_scope.specs.declared.scope.ClassScope.{ClassScope}
use Rattle.ns_scope.specs.declared.scope.CodeSide.TheVariants as side
use Rattle.ns_scope.specs.Scopes.{class_scope}
use Rattle.ns_static_rules.specs.Faults.{class_found, class_members_found, head_faults, class_faults, class_inside_faults, initialiser_faults, side_faults, class_side_faults}

pub class_found_out : (outer : List ClassScope) (e : Class) → class_found outer (class_of e) ≡ class_members_found (class_of e) ++ head_faults outer (option_map clause_of (w.out-Class e).clause)
class_found_out outer e = rw (class_out e) refl

pub class_and_inside : (outer : List ClassScope) (e : Class) → class_faults outer (class_of e) ≡ class_found outer (class_of e) ++ class_inside_faults (class_scope (class_of e) ∷ outer) (class_of e)
class_and_inside outer e = rw (class_out e) refl

pub class_inside_out : (classes : List ClassScope) (e : Class) →
    class_inside_faults classes (class_of e) ≡ initialiser_faults classes (option_map pattern_of (w.out-Class e).factory) (option_map clause_of (w.out-Class e).clause) (bars_of (w.out-Class e).slots) (statements_of (w.out-Class e).body)
    ++ (side_faults classes side.Instance (side_of (w.out-Class e).side) ++ class_side_faults classes (class_side_of (w.out-Class e).class_side))
class_inside_out classes e = rw (class_out e) refl
