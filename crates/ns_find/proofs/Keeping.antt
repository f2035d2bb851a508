-- A kept lookup leaves the others as they are.
use Rattle.std.proofs.Common.{◌≡◌, ℕ, List, Option, Some, All, set, sym, subst}
use Rattle.std.proofs.lemmas.List.Elements.{All-set}
use Rattle.ns_code.specs.declared.program.CodeProgram.{CodeProgram}
use Rattle.ns_world.specs.Heap.{Heap}
use Rattle.ns_find.specs.declared.memo.Kept.{Kept}
use Rattle.ns_find.specs.Memo.{PlaceIsRight}

pub all_right : (heap : Heap) (code : CodeProgram) (old new : List (Option Kept)) (place : ℕ) (kept : Kept) →
    new ≡ set old place (Some kept) → PlaceIsRight heap code (Some kept) → All (PlaceIsRight heap code) old →
    All (PlaceIsRight heap code) new
all_right heap code old new place kept e right all =
    let P : List (Option Kept) → Type 0 = λ places. All (PlaceIsRight heap code) places in
    subst P (sym e) (All-set (PlaceIsRight heap code) old place (Some kept) right all)
