-- An array in which an element is stored leaves a lawful world.
use Rattle.std.proofs.Common.{◌≡◌, ℕ, ◌-◌, ◌<◌, length, refl, arith, Option, Some, None, Bool, true, false, cond, ◌||◌, ℤ, pos, negsuc, int_lt, unsigned_abs}
use Rattle.std.specs.Prelude.{Result, Ok, Err}
use Rattle.std.proofs.lemmas.Bool.{ltb-false}
use Rattle.ns_code.specs.declared.program.CodeProgram.{CodeProgram}
use Rattle.ns_world.specs.declared.value.Value.{Value}
use Rattle.ns_world.specs.declared.value.Value.TheVariants.{Nil, True, False, Int, Sym, Kernel, Ref}
use Rattle.ns_world.specs.declared.ending.Fault.{Fault}
use Rattle.ns_world.specs.Cell.{Cell, ObjectCell, ClassCell, BlockCell, EnvironmentCell, ArrayCell, TextCell, FacetCell, MirrorCell, MessageCell}
use Rattle.ns_world.specs.Heap.{find_cell}
use Rattle.ns_world.specs.World.{World, stored}
use Rattle.ns_world.specs.Lawful.{IsLiveValue, IsLawful, class_of_object}
use Rattle.ns_world.specs.laws.Writing.{writing_keeps}
use Rattle.ns_kdata.specs.Outcome.{out_of_range}
use Rattle.ns_kdata.specs.Arguments.{items_of, array_items, place_of_number, place_in}
use Rattle.ns_kdata.specs.Rows.{put_at_place, array_put}
use Rattle.ns_kdata.specs.Lawful.{LeavesLawful}

-- a number that is neither below 1 nor past a size, less 1, is below it
within_size : (number : ℤ) (size : ℕ) → int_lt number (pos 1) ≡ false → int_lt (pos size) number ≡ false → unsigned_abs number - 1 < size
within_size (pos n) size one past = omega (arith, ltb-false n 1 one, ltb-false size n past)
within_size (negsuc n) size one past = absurd (cc)

number_below : (number : ℤ) (size place : ℕ) → place_of_number number size ≡ Ok place → place < size
number_below number size place e = tested (int_lt number (pos 1)) refl (int_lt (pos size) number) refl e
  where
    tested : (a : Bool) → int_lt number (pos 1) ≡ a → (b : Bool) → int_lt (pos size) number ≡ b → cond (a || b) (Err out_of_range) (Ok (unsigned_abs number - 1)) ≡ Ok place → place < size
    tested true one b past e = absurd (cc)
    tested false one true past e = absurd (cc)
    tested false one false past e = let is : unsigned_abs number - 1 ≡ place = cc in omega (arith, within_size number size one past, is)

-- a place of so many is below their count
place_below : (value : Value) (size place : ℕ) → place_in value size ≡ Ok place → place < size
place_below (Int number) size place e = number_below number size place e
place_below Nil size place e = absurd (cc)
place_below True size place e = absurd (cc)
place_below False size place e = absurd (cc)
place_below (Sym sel) size place e = absurd (cc)
place_below (Kernel class) size place e = absurd (cc)
place_below (Ref at) size place e = absurd (cc)

-- a cell with elements is no object
items_of_none : (o : Option Cell) (place class : ℕ) → place < length (array_items o) → class_of_object o ≡ Some class → ⊥
items_of_none (Some (ObjectCell class' entries)) place class h e = omega (arith, h)
items_of_none None place class h e = cc
items_of_none (Some (ClassCell decl base encl holder over)) place class h e = cc
items_of_none (Some (BlockCell body env home receiver holder)) place class h e = cc
items_of_none (Some (EnvironmentCell parent locals)) place class h e = cc
items_of_none (Some (ArrayCell items)) place class h e = cc
items_of_none (Some (TextCell bytes)) place class h e = cc
items_of_none (Some (FacetCell kind)) place class h e = cc
items_of_none (Some (MirrorCell mirrored)) place class h e = cc
items_of_none (Some (MessageCell sel args)) place class h e = cc

-- so an element that is stored is no entry of an object
stored_lawful : (world : World) (code : CodeProgram) (array : Value) (place : ℕ) (value : Value) → IsLawful world code →
    IsLiveValue world.cells code value → place < length (items_of world.cells array) → IsLawful (stored world array place value) code
stored_lawful world code (Ref at) place value lawful live h =
    writing_keeps world code at place value lawful (live, λ class e. absurd (items_of_none (find_cell world.cells at) place class h e))
stored_lawful world code Nil place value lawful live h = lawful
stored_lawful world code True place value lawful live h = lawful
stored_lawful world code False place value lawful live h = lawful
stored_lawful world code (Int number) place value lawful live h = lawful
stored_lawful world code (Sym sel) place value lawful live h = lawful
stored_lawful world code (Kernel class) place value lawful live h = lawful

pub put_lawful : (world : World) (code : CodeProgram) (array place value : Value) → IsLawful world code →
    IsLiveValue world.cells code value → LeavesLawful code (array_put world array place value)
put_lawful world code array place value lawful live =
    placed (place_in place (length (items_of world.cells array))) (λ p e. place_below place (length (items_of world.cells array)) p e)
  where
    placed : (r : Result ℕ Fault) → ((p : ℕ) → r ≡ Ok p → p < length (items_of world.cells array)) → LeavesLawful code (put_at_place world array r value)
    placed (Ok p) below = stored_lawful world code array p value lawful live (below p refl)
    placed (Err fault) below = tt
