-- The tokens of a class with a class side.
use Rattle.std.proofs.Common.{◌≡◌, refl, Some, ◌∷◌, ◌++◌}
use Rattle.ns_tree.specs.declared.token.Kind.TheVariants as k
use Rattle.ns_tree.specs.declared.tree.Class.{Class, out-Class}
use Rattle.ns_tree.specs.declared.tree.Side.{Side}
use Rattle.ns_tree.specs.Flat.{head, flat_class, flat_side}
use Rattle.ns_tree.specs.PlainOf.{class_of, side_of}
use Rattle.ns_tree.specs.laws.Nodes.{class_some}

pub class_flat_some : (e : Class) (side : Side) → (out-Class e).class_side ≡ Some side → flat_class (class_of e) ≡ head (class_of e) ++ (flat_side (side_of (out-Class e).side) ++ k.Colon ∷ flat_side (side_of side))
class_flat_some e side h = rw (class_some e side h) refl
