-- A local that stands in an environment.
use Rattle.std.proofs.Common.{◌≡◌, ℕ, refl, Option, Some, None, true}
use Rattle.ns_world.specs.Cell.{Cell, ObjectCell, ClassCell, BlockCell, EnvironmentCell, ArrayCell, TextCell, FacetCell, MirrorCell, MessageCell}
use Rattle.ns_world.specs.Heap.{Heap, find_cell, words_at, open_words_at}
use Rattle.ns_world.specs.Lawful.{is_environment}

-- an environment's words may all be written
pub locals_open : (heap : Heap) (at : ℕ) → is_environment (find_cell heap at) ≡ true → open_words_at heap at ≡ words_at heap at
locals_open heap at is = told (find_cell heap at) refl is
  where
    told : (o : Option Cell) → find_cell heap at ≡ o → is_environment o ≡ true → open_words_at heap at ≡ words_at heap at
    told (Some (EnvironmentCell parent locals)) e t = rw e refl
    told None e t = absurd (cc)
    told (Some (ObjectCell class entries)) e t = absurd (cc)
    told (Some (ClassCell decl base encl holder over)) e t = absurd (cc)
    told (Some (BlockCell body env home receiver holder)) e t = absurd (cc)
    told (Some (ArrayCell items)) e t = absurd (cc)
    told (Some (TextCell bytes)) e t = absurd (cc)
    told (Some (FacetCell kind)) e t = absurd (cc)
    told (Some (MirrorCell shown)) e t = absurd (cc)
    told (Some (MessageCell sel args)) e t = absurd (cc)
