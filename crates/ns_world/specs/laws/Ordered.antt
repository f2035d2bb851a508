-- A heap stays ordered.
use Rattle.std.proofs.Common.{◌≡◌, ◌∷◌, ap, ◌∙◌, ◌&&◌, true}
use Rattle.ns_world.specs.Cell.{Cell}
use Rattle.ns_world.specs.Heap.{Heap, has_superclass, is_ordered}

-- A heap stays ordered with one more cell that has its superclass.
pub ordered_more : (heap : Heap) (cell : Cell) → has_superclass heap cell ≡ true → is_ordered heap ≡ true → is_ordered (cell ∷ heap) ≡ true
ordered_more heap cell s o = ap (λ b. b && is_ordered heap) s ∙ o
