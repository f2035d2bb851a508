-- The memory of a new machine.
use Rattle.std.proofs.Common.{List, sym, subst, Option, All}
use Rattle.std.proofs.lemmas.List.Elements.{All-weaker}
use Rattle.ns_code.specs.declared.program.CodeProgram.{CodeProgram}
use Rattle.ns_world.specs.Heap.{Heap}
use Rattle.ns_find.specs.declared.memo.Kept.{Kept}
use Rattle.ns_find.specs.Memo.{IsEmpty, PlaceIsRight}

-- nothing that is kept is right
pub none_right : (heap : Heap) (code : CodeProgram) (places : List (Option Kept)) → All IsEmpty places → All (PlaceIsRight heap code) places
none_right heap code places none =
    All-weaker IsEmpty (PlaceIsRight heap code) (λ place is. subst (PlaceIsRight heap code) (sym is) tt) places none
