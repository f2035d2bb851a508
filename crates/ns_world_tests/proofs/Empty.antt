-- Memos that keep nothing.
use Rattle.std.proofs.Common.{List, sym, subst, Option, All}
use Rattle.ns_code.specs.declared.program.CodeProgram.{CodeProgram}
use Rattle.ns_world.specs.Heap.{Heap}
use Rattle.ns_find.specs.Memo.{IsEmpty, PlaceIsRight}
use Rattle.ns_find.specs.declared.memo.Kept.{Kept}

-- a memo that keeps nothing is right
pub empty_is_right : (heap : Heap) (code : CodeProgram) (places : List (Option Kept)) → All IsEmpty places →
    All (PlaceIsRight heap code) places
empty_is_right heap code places all = λ k d lt. subst (PlaceIsRight heap code) (sym (all k d lt)) tt
