-- The elements of an array are its words.
use Rattle.std.proofs.Common.{◌≡◌, ℕ, ◌<◌, [], length, refl, Option, Some, None, arith}
use Rattle.std.specs.Option.{option_map_or}
use Rattle.ns_world.specs.declared.value.Value.TheVariants.{Ref}
use Rattle.ns_world.specs.Cell.{Cell, cell_words, open_words, ObjectCell, ClassCell, BlockCell, EnvironmentCell, ArrayCell, TextCell, FacetCell, MirrorCell, MessageCell}
use Rattle.ns_world.specs.Heap.{Heap, find_cell, words_at, open_words_at}
use Rattle.ns_kdata.specs.Arguments.{array_items, items_of}

items_of_cell : (o : Option Cell) (place : ℕ) → place < length (array_items o) →
    (option_map_or cell_words o [] ≡ array_items o) × (option_map_or open_words o [] ≡ array_items o)
items_of_cell None place h = absurd (omega arith)
items_of_cell (Some (ObjectCell class entries)) place h = absurd (omega arith)
items_of_cell (Some (ClassCell decl base encl holder over)) place h = absurd (omega arith)
items_of_cell (Some (BlockCell body env home receiver holder)) place h = absurd (omega arith)
items_of_cell (Some (EnvironmentCell parent locals)) place h = absurd (omega arith)
items_of_cell (Some (ArrayCell items)) place h = (refl, refl)
items_of_cell (Some (TextCell bytes)) place h = absurd (omega arith)
items_of_cell (Some (FacetCell kind)) place h = absurd (omega arith)
items_of_cell (Some (MirrorCell mirrored)) place h = absurd (omega arith)
items_of_cell (Some (MessageCell sel args)) place h = absurd (omega arith)

-- the elements of an array that has some are its words, and may be written
pub items_are_words : (heap : Heap) (at place : ℕ) → place < length (items_of heap (Ref at)) →
    (words_at heap at ≡ items_of heap (Ref at)) × (open_words_at heap at ≡ items_of heap (Ref at))
items_are_words heap at place h = items_of_cell (find_cell heap at) place h
