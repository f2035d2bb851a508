-- The cells of the start by what they are.
use Rattle.ns_world.specs.declared.value.Value.TheVariants.{Nil, Kernel}
use Rattle.ns_world.specs.declared.value.KClass.TheVariants.{Object}
use Rattle.ns_world.specs.Cell.{Cell, FacetCell, ClassCell}
use Rattle.ns_frozen_valid.specs.declared.first.First.{First}
use Rattle.ns_frozen_valid.specs.declared.first.First.TheVariants.{Facet, Top}

-- the cell that one stands for
abbrev pub first_shown : First → Cell
first_shown (Facet kind) = FacetCell kind
first_shown (Top decl) = ClassCell decl 0 Nil Nil (Kernel Object)
