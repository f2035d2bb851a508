-- Outcomes that make a cell or change nothing leave a lawful world.
use Rattle.std.proofs.Common.{◌≡◌, ℕ, List, [], replicate, refl, ap, sym, arith, Option, Some, None, All, Bool, true, false, cond, ◌||◌, pos, int_lt, unsigned_abs}
use Rattle.std.specs.Prelude.{Result, Ok, Err}
use Rattle.std.proofs.lemmas.List.Elements.{All-nil, All-replicate}
use Rattle.ns_code.specs.declared.program.CodeProgram.{CodeProgram}
use Rattle.ns_world.specs.declared.value.Value.{Value}
use Rattle.ns_world.specs.declared.value.Value.TheVariants.{Nil, True, False, Int, Sym, Kernel, Ref}
use Rattle.ns_world.specs.declared.ending.Fault.{Fault}
use Rattle.ns_world.specs.Cell.{Cell, ObjectCell, ArrayCell, TextCell, shape_of}
use Rattle.ns_world.specs.Heap.{heap_size, has_superclass, no_class}
use Rattle.ns_world.specs.World.{World, made}
use Rattle.ns_world.specs.Layout.{entries_along, layout_of}
use Rattle.ns_world.specs.Lawful.{IsLiveValue, IsLawful}
use Rattle.ns_world.specs.Keeping.{MayBeMade}
use Rattle.ns_world.specs.laws.Above.{chain_past}
use Rattle.ns_world.specs.laws.Classes.{lawful_small}
use Rattle.ns_world.specs.laws.Starts.{none_starts}
use Rattle.ns_kdata.specs.declared.arguments.Part.{Part}
use Rattle.ns_kdata.specs.Outcome.{Fails, making, made_as, unchanged, wrong_kind, out_of_range}
use Rattle.ns_kdata.specs.Texts.{copied, bytes_in}
use Rattle.ns_kdata.specs.Rows.{new_array}
use Rattle.ns_kdata.specs.Lawful.{MayHold, LeavesLawful}
use Rattle.ns_kdata.specs.laws.Filled.{filled_keeps}

-- A row that changes nothing leaves a lawful world.
pub unchanged_lawful : (world : World) (code : CodeProgram) (r : Result Value Fault) → IsLawful world code →
    LeavesLawful code (unchanged world r)
unchanged_lawful world code (Ok value) lawful = lawful
unchanged_lawful world code (Err fault) lawful = tt

made_lawful : (code : CodeProgram) (number : ℕ) (o : Option World) → ((after : World) → o ≡ Some after → IsLawful after code) →
    LeavesLawful code (made_as number o)
made_lawful code number (Some after) h = h after refl
made_lawful code number None h = tt

-- a cell that may be made, and may hold what it holds
pub making_lawful : (world : World) (code : CodeProgram) (cell : Cell) → IsLawful world code → has_superclass world.cells cell ≡ true →
    MayBeMade world.cells code (shape_of cell) → MayHold world.cells code cell → LeavesLawful code (making world cell)
making_lawful world code cell lawful s m h =
    made_lawful code (heap_size world.cells) (made world cell) (λ after e. filled_keeps world after code cell lawful s m h e)

-- any text, and an array of live values
pub text_lawful : (world : World) (code : CodeProgram) (bytes : List ℕ) → IsLawful world code →
    LeavesLawful code (making world (TextCell bytes))
text_lawful world code bytes lawful = making_lawful world code (TextCell bytes) lawful refl tt tt

-- An array of live elements that is made leaves a lawful world.
pub items_lawful : (world : World) (code : CodeProgram) (items : List Value) → IsLawful world code →
    All (IsLiveValue world.cells code) items → LeavesLawful code (making world (ArrayCell items))
items_lawful world code items lawful live = making_lawful world code (ArrayCell items) lawful refl tt live

no_entries : (world : World) (code : CodeProgram) → IsLawful world code → layout_of world.cells code no_class ≡ 0
no_entries world code lawful =
    ap (entries_along world.cells code) (chain_past world.cells no_class (omega (arith, lawful_small world code lawful)))

pub object_lawful : (world : World) (code : CodeProgram) → IsLawful world code → LeavesLawful code (making world (ObjectCell no_class []))
object_lawful world code lawful =
    making_lawful world code (ObjectCell no_class []) lawful refl (none_starts world.cells, sym (no_entries world code lawful)) (All-nil (λ (value : Value). value ≡ Nil))

-- a part of a text, and two texts joined
pub copied_lawful : (world : World) (code : CodeProgram) (bytes : List ℕ) (part : Result Part Fault) → IsLawful world code →
    LeavesLawful code (copied world bytes part)
copied_lawful world code bytes (Ok part) lawful = text_lawful world code (bytes_in bytes part) lawful
copied_lawful world code bytes (Err fault) lawful = tt

pub joined_lawful : (world : World) (code : CodeProgram) (bytes : List ℕ) (b : Bool) → IsLawful world code →
    LeavesLawful code (cond b (making world (TextCell bytes)) (Fails wrong_kind))
joined_lawful world code bytes true lawful = text_lawful world code bytes lawful
joined_lawful world code bytes false lawful = tt

-- an array of nils
sized_lawful : (world : World) (code : CodeProgram) (size : ℕ) (b : Bool) → IsLawful world code →
    LeavesLawful code (cond b (Fails out_of_range) (making world (ArrayCell (replicate size Nil))))
sized_lawful world code size true lawful = tt
sized_lawful world code size false lawful =
    items_lawful world code (replicate size Nil) lawful (All-replicate (IsLiveValue world.cells code) size Nil (tt, refl))

pub array_lawful : (world : World) (code : CodeProgram) (size : Value) → IsLawful world code → LeavesLawful code (new_array world size)
array_lawful world code (Int number) lawful =
    sized_lawful world code (unsigned_abs number) (int_lt number (pos 0) || int_lt (pos 64000000) number) lawful
array_lawful world code Nil lawful = tt
array_lawful world code True lawful = tt
array_lawful world code False lawful = tt
array_lawful world code (Sym sel) lawful = tt
array_lawful world code (Kernel class) lawful = tt
array_lawful world code (Ref at) lawful = tt
