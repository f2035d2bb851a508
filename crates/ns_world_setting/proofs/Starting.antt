-- Where lookups start in a ready world, and a declaration that may be made into a class there.
use Rattle.std.proofs.Common.{◌≡◌, List, refl, ap, sym, subst, Option, Some, None, All, true}
use Rattle.std.specs.Option.{option_map_or}
use Rattle.ns_code.specs.declared.program.CodeProgram.{CodeProgram}
use Rattle.ns_world.specs.declared.value.Value.{Value}
use Rattle.ns_world.specs.declared.value.Value.TheVariants.{Nil, True, False, Int, Sym, Kernel, Ref}
use Rattle.ns_world.specs.declared.cell.NewCell.TheVariants.{Mirror}
use Rattle.ns_world.specs.Cell.{Cell, shape_of, ObjectCell, ClassCell, BlockCell, EnvironmentCell, ArrayCell, TextCell, FacetCell, MirrorCell, MessageCell}
use Rattle.ns_world.specs.Heap.{Heap, find_cell, is_class}
use Rattle.ns_world.specs.World.{WorldView}
use Rattle.ns_world.specs.Starts.{start_of, start_of_cell, is_receiver, is_receiver_cell}
use Rattle.ns_world.specs.Keeping.{IsEnclosed}
use Rattle.ns_find.specs.Find.{is_start}
use Rattle.ns_find.specs.Memo.{IsEmpty, PlaceIsRight}
use Rattle.ns_find.specs.declared.memo.Kept.{Kept}
use Rattle.ns_world_setting.specs.Program.{program_code, class_base}
use Rattle.ns_world_setting.specs.Ready.{WorldIsReady}
use Rattle.ns_world_setting.proofs.Stages.{at_top}

-- the lookup of a send to a receiver can start
pub starts_there : (view : WorldView) (value : Value) → WorldIsReady view → is_receiver view.world.cells value ≡ true →
    is_start view.world.cells (start_of view.world.cells value) ≡ true
starts_there view Nil ready r = refl
starts_there view True ready r = refl
starts_there view False ready r = refl
starts_there view (Int number) ready r = refl
starts_there view (Sym sel) ready r = refl
starts_there view (Kernel class) ready r = refl
starts_there view (Ref at) ready r = told (find_cell view.world.cells at) refl r
  where
    told : (o : Option Cell) → find_cell view.world.cells at ≡ o → is_receiver_cell o ≡ true → is_start view.world.cells (start_of_cell (option_map_or shape_of o (Mirror Nil)) at) ≡ true
    told None e r = absurd (cc)
    told (Some (ObjectCell class entries)) e r = (ready.lawful.cells at (ObjectCell class entries) e).0.class_is
    told (Some (ClassCell decl base encl holder over)) e r = ap is_class e
    told (Some (BlockCell body env home receiver holder)) e r = refl
    told (Some (EnvironmentCell parent locals)) e r = absurd (cc)
    told (Some (ArrayCell items)) e r = refl
    told (Some (TextCell bytes)) e r = refl
    told (Some (FacetCell kind)) e r = refl
    told (Some (MirrorCell mirrored)) e r = refl
    told (Some (MessageCell sel args)) e r = refl

-- a memo that keeps nothing is right
pub empty_is_right : (heap : Heap) (code : CodeProgram) (places : List (Option Kept)) → All IsEmpty places →
    All (PlaceIsRight heap code) places
empty_is_right heap code places all = λ k d lt. subst (PlaceIsRight heap code) (sym (all k d lt)) tt

-- Base is a top-level declaration
pub base_at_top : (heap : Heap) (code : CodeProgram) → code ≡ program_code → IsEnclosed heap code 0 Nil Nil
base_at_top heap code is = subst (λ (k : CodeProgram). IsEnclosed heap k 0 Nil Nil) (sym is) (at_top heap 0 class_base refl refl)
