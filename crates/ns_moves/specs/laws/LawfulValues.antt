-- New cells, slots and locals in a lawful run.
use Rattle.std.proofs.Common.{◌≡◌, ℕ, List, [], ◌∷◌, slice_get, refl, arith, Option, Some, None, All, Bool, true, false, cond}
use Rattle.std.specs.Prelude.{IsSome}
use Rattle.ns_code.specs.declared.program.CodeProgram.{CodeProgram}
use Rattle.ns_code.specs.declared.class.ClassCode.{ClassCode}
use Rattle.ns_world.specs.declared.value.Value.{Value}
use Rattle.ns_world.specs.declared.value.Value.TheVariants.{Nil, True, False, Int, Sym, Kernel, Ref}
use Rattle.ns_world.specs.declared.ending.LimitKind.TheVariants.{Cells}
use Rattle.ns_world.specs.Cell.{Cell, ObjectCell, ClassCell, BlockCell, EnvironmentCell, ArrayCell, TextCell, FacetCell, MirrorCell, MessageCell, shape_of}
use Rattle.ns_world.specs.Heap.{heap_size, find_cell, has_superclass}
use Rattle.ns_world.specs.World.{made, written, stored}
use Rattle.ns_world.specs.Starts.{is_receiver_cell}
use Rattle.ns_world.specs.Layout.{declaration_of, entry_word}
use Rattle.ns_world.specs.Lawful.{IsLawful, IsLiveValue, HasHolder, BlockIsLawful, is_environment, class_of_object}
use Rattle.ns_world.specs.Keeping.{MayBeMade}
use Rattle.ns_world.specs.laws.Writing.{writing_keeps}
use Rattle.ns_classes.specs.laws.Lawfully as classes
use Rattle.ns_kdata.specs.Lawful.{MayHold}
use Rattle.ns_kdata.specs.laws.Filled.{filled_keeps}
use Rattle.ns_moves.specs.Control.{Progress, in_world, Activation, Gives, Halts}
use Rattle.ns_moves.specs.Bodies.{is_beside, environment_at, local_stored}
use Rattle.ns_moves.specs.Blocks.{new_cell, new_block, new_text, new_array}
use Rattle.ns_moves.specs.Classes.{slot_filled}
use Rattle.ns_moves.specs.Lawful.{LawfulRun, LawfulAfter, FitsSlot, FitsLocal}
use Rattle.ns_moves.specs.laws.Growing.{moving_not, writing_moves}
use Rattle.ns_moves.specs.laws.Onward.{Going, charged_all, onward_in}
use Rattle.ns_moves.specs.lemmas.LawfulBodies.{new_live}

-- a new cell that is no environment is a live value
new_lawful : (code : CodeProgram) (cell : Cell) (progress : Progress) → LawfulRun code progress →
    has_superclass progress.world.cells cell ≡ true → MayBeMade progress.world.cells code (shape_of cell)
    → MayHold progress.world.cells code cell → is_receiver_cell (Some cell) ≡ true → LawfulAfter code (new_cell cell progress)
new_lawful code cell progress lawful over may hold receives =
    charged_all (LawfulAfter code) Halts Cells (made progress.world cell) progress (Gives (Ref (heap_size progress.world.cells))) lawful
    (λ world e. (filled_keeps progress.world world code cell lawful over may hold e, new_live code progress.world world cell receives e))

-- A new text leaves a lawful world.
pub text_lawful : (code : CodeProgram) (bytes : List ℕ) (progress : Progress) → LawfulRun code progress →
    LawfulAfter code (new_text bytes progress)
text_lawful code bytes progress lawful = new_lawful code (TextCell bytes) progress lawful refl tt tt refl

-- A new array of live elements leaves a lawful world.
pub array_lawful : (code : CodeProgram) (items : List Value) (progress : Progress) → LawfulRun code progress →
    All (IsLiveValue progress.world.cells code) items → LawfulAfter code (new_array items progress)
array_lawful code items progress lawful live = new_lawful code (ArrayCell items) progress lawful refl tt live refl

-- A new block whose body fits where it is made leaves a lawful world.
pub block_lawful : (code : CodeProgram) (activation : Activation) (body : ℕ) (progress : Progress) → LawfulRun code progress →
    BlockIsLawful progress.world.cells code body activation.env activation.self activation.holder
    → LawfulAfter code (new_block activation body progress)
block_lawful code activation body progress lawful fits =
    new_lawful code (BlockCell body activation.env activation.home activation.self activation.holder) progress lawful refl fits tt refl

-- a slot is filled with a live value
pub slot_lawful : (code : CodeProgram) (activation : Activation) (slot : ℕ) (value : Value) (progress : Progress) →
    LawfulRun code progress → FitsSlot progress.world.cells code activation slot
    → IsLiveValue progress.world.cells code value → LawfulRun code (slot_filled code activation slot value progress)
slot_lawful code activation slot value progress lawful fits live = told activation.self fits.holder
  where
    in_object : (object : ℕ) → HasHolder progress.world.cells (Ref object) activation.holder → (o : Option ClassCode) → slice_get code.classes (declaration_of progress.world.cells activation.holder) ≡ o
        → IsSome o → IsLawful (written progress.world object (entry_word progress.world.cells code activation.holder slot) value) code
    in_object object has (Some class) e there = classes.slot_filled progress.world code object activation.holder slot class value lawful has e (fits.within class e) live
    in_object object has None e there = absurd (cc)

    told : (self : Value) → HasHolder progress.world.cells self activation.holder → IsLawful (stored progress.world self (entry_word progress.world.cells code activation.holder slot) value) code
    told (Ref object) has = in_object object has (slice_get code.classes (declaration_of progress.world.cells activation.holder)) refl fits.declared
    told Nil has = absurd has
    told True has = absurd has
    told False has = absurd has
    told (Int number) has = absurd has
    told (Sym sel) has = absurd has
    told (Kernel class) has = absurd has

-- an environment is no object
no_object : (o : Option Cell) → is_environment o ≡ true → class_of_object o ≡ None
no_object None e = refl
no_object (Some (ObjectCell class entries)) e = absurd (cc)
no_object (Some (ClassCell decl base encl holder over)) e = refl
no_object (Some (BlockCell body env home receiver holder)) e = refl
no_object (Some (EnvironmentCell parent locals)) e = refl
no_object (Some (ArrayCell items)) e = refl
no_object (Some (TextCell bytes)) e = refl
no_object (Some (FacetCell kind)) e = refl
no_object (Some (MirrorCell mirrored)) e = refl
no_object (Some (MessageCell sel args)) e = refl

-- a live value is stored in a local
pub local_lawful : (code : CodeProgram) (activation : Activation) (hops place : ℕ) (value : Value) (progress : Progress) →
    LawfulRun code progress → FitsLocal progress.world.cells code activation hops
    → IsLiveValue progress.world.cells code value → LawfulRun code (local_stored code activation hops place value progress)
local_lawful code activation hops place value progress lawful fits live = tested (is_beside code activation hops) refl
  where
    at : ℕ
    at = environment_at progress.world.cells code activation hops

    tested : (b : Bool) → is_beside code activation hops ≡ b → IsLawful (cond b progress.world (written progress.world at place value)) code
    tested true t = lawful
    tested false t =
        let none : class_of_object (find_cell progress.world.cells at) ≡ None = no_object (find_cell progress.world.cells at) (fits t) in
        writing_keeps progress.world code at place value lawful (live, λ class e. absurd (cc))

-- and changes no cell but the environment
pub local_onward : (code : CodeProgram) (activation : Activation) (hops place : ℕ) (value : Value) (progress : Progress)
    → Going (Ref (environment_at progress.world.cells code activation hops) ∷ []) progress (local_stored code activation hops place value progress)
local_onward code activation hops place value progress = tested (is_beside code activation hops)
  where
    at : ℕ
    at = environment_at progress.world.cells code activation hops

    tested : (b : Bool) → Going (Ref at ∷ []) progress (in_world progress (cond b progress.world (written progress.world at place value)))
    tested true = onward_in (Ref at ∷ []) progress progress.world (moving_not (Ref at ∷ []) progress.world)
    tested false = onward_in (Ref at ∷ []) progress (written progress.world at place value) (writing_moves (Ref at ∷ []) progress.world at place value (0, omega arith, refl))
