-- The first cells of the world in which the rows of the kernel are tried.
use Rattle.std.specs.Prelude.{ℕ, pos, ◌∷◌, [], replicate}
use Rattle.ns_base.specs.declared.limits.Limits.{Limits}
use Rattle.ns_world.specs.declared.value.Value.{Value}
use Rattle.ns_world.specs.declared.value.Value.TheVariants.{Nil, Int, Kernel, Ref}
use Rattle.ns_world.specs.declared.value.KClass.TheVariants.{Object}
use Rattle.ns_world.specs.declared.cell.FacetKind.TheVariants as facet
use Rattle.ns_world.specs.Cell.{Cell, ObjectCell, ClassCell, BlockCell, ArrayCell, FacetCell, MessageCell}
use Rattle.ns_world.specs.Heap.{Heap, no_class}
use Rattle.ns_world.specs.World.{World}
use Rattle.ns_code.specs.Sample.{sel}

abbrev pub tried_limits : Limits
tried_limits = record { steps = 10; cells = 200; depth = 10; out = 12 }

-- the manifest at 0, the platform at 1, the console at 2, the mirrors at 3, the kernel at 4, the board at 5
abbrev pub facet_cells : Heap
facet_cells =
    FacetCell facet.Board ∷ FacetCell facet.Kernel ∷ FacetCell facet.Mirrors ∷ FacetCell facet.Console
    ∷ FacetCell facet.Platform ∷ FacetCell facet.Manifest ∷ []

abbrev pub top_class : ℕ → ℕ → Value → Cell
top_class decl base over = ClassCell decl base Nil Nil over

-- Base at 6, Sub over it at 10, the second Base at 14
abbrev pub class_cells : Heap
class_cells = top_class 3 0 (Kernel Object) ∷ top_class 2 3 (Ref 6) ∷ top_class 0 0 (Kernel Object) ∷ facet_cells

-- an object of Base at 18 and one of Sub at 22, each slot of which is nil
abbrev pub empty_objects : Heap
empty_objects = ObjectCell 10 (replicate 5 Nil) ∷ ObjectCell 6 (replicate 3 Nil) ∷ class_cells

-- the object of Sub has 1 and 2 in the slots `x` and `y` of Base, 3 and 4 in its own `x` and `z`
abbrev pub filled_objects : Heap
filled_objects =
    ObjectCell 10 (Int (pos 1) ∷ Int (pos 2) ∷ Nil ∷ Int (pos 3) ∷ Int (pos 4) ∷ []) ∷ ObjectCell 6 (replicate 3 Nil) ∷ class_cells

-- Part of the object of Base at 28, an object of it at 32, and an object of the kernel's Object at 33
abbrev pub part_cells : Heap
part_cells = ObjectCell no_class [] ∷ ObjectCell 28 [] ∷ ClassCell 1 0 (Ref 18) (Ref 6) (Kernel Object) ∷ filled_objects

-- an array of two nils at 34, a message `at:put:` with it at 37, and a block at 40
abbrev pub tried_cells : Heap
tried_cells = BlockCell 11 Nil 0 (Ref 18) 6 ∷ MessageCell (sel 14) (Ref 34) ∷ ArrayCell (replicate 2 Nil) ∷ part_cells

-- a world of these limits in which nothing was charged but cells
abbrev pub tried_with : Heap → World
tried_with cells = record { cells = cells; limits = tried_limits; steps = 0; depth = 0; output = [] }
