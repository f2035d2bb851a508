-- Elements of arrays are live, also where one is written.
use Rattle.std.proofs.Common.{◌≡◌, ◌≢◌, ℕ, zero, suc, ◌∷◌, List, [], get_or, refl, ap, sym, ◌∙◌, arith, All, Option, Some, None, Bool, true, false, eqb}
use Rattle.std.specs.Prelude.{Result, Ok, Err, IfOk}
use Rattle.std.specs.Option.{option_map_or}
use Rattle.std.proofs.lemmas.Bool.{eqb-true, eq-eqb}
use Rattle.ns_code.specs.declared.program.CodeProgram.{CodeProgram}
use Rattle.ns_world.specs.declared.value.Value.{Value}
use Rattle.ns_world.specs.declared.value.Value.TheVariants.{Nil, True, False, Int, Sym, Kernel, Ref}
use Rattle.ns_world.specs.declared.ending.Fault.{Fault}
use Rattle.ns_world.specs.Cell.{Cell, with_word, ObjectCell, ClassCell, BlockCell, EnvironmentCell, ArrayCell, TextCell, FacetCell, MirrorCell, MessageCell}
use Rattle.ns_world.specs.Heap.{Heap, find_cell, set_cell, write_word}
use Rattle.ns_world.specs.World.{World, stored}
use Rattle.ns_world.specs.Starts.{is_receiver_cell}
use Rattle.ns_world.specs.Lawful.{IsLawful, IsLiveValue}
use Rattle.ns_world.specs.laws.Changing.{writing_leaves, word_plainly}
use Rattle.ns_kdata.specs.Arguments.{items_of, array_items}
use Rattle.ns_kdata.specs.Rows.{item_at_place, put_at_place}
use Rattle.ns_kdata.specs.Living.{AnswersLive}
use Rattle.ns_world.specs.laws.Changing.{set_here}

-- What holds of each element and of nil holds at each place.
pub get_live : (P : Value → Type 0) (items : List Value) (place : ℕ) → All P items → P Nil → P (get_or items place Nil)
get_live P [] place all nil = nil
get_live P (item ∷ items) zero all nil = all 0 item (omega arith)
get_live P (item ∷ items) (suc place) all nil = get_live P items place (λ k d h. all (suc k) d (omega (arith, h))) nil

-- In a lawful world the elements of a cell are live.
pub cell_items_live : (world : World) (code : CodeProgram) (at : ℕ) → IsLawful world code → (o : Option Cell) →
    find_cell world.cells at ≡ o → All (IsLiveValue world.cells code) (array_items o)
cell_items_live world code at lawful None e = λ k d h. absurd (omega (arith, h))
cell_items_live world code at lawful (Some (ObjectCell class entries)) e = λ k d h. absurd (omega (arith, h))
cell_items_live world code at lawful (Some (ClassCell decl base encl holder over)) e = λ k d h. absurd (omega (arith, h))
cell_items_live world code at lawful (Some (BlockCell body env home receiver holder)) e = λ k d h. absurd (omega (arith, h))
cell_items_live world code at lawful (Some (EnvironmentCell parent locals)) e = λ k d h. absurd (omega (arith, h))
cell_items_live world code at lawful (Some (ArrayCell items)) e = lawful.cells at (ArrayCell items) e
cell_items_live world code at lawful (Some (TextCell bytes)) e = λ k d h. absurd (omega (arith, h))
cell_items_live world code at lawful (Some (FacetCell kind)) e = λ k d h. absurd (omega (arith, h))
cell_items_live world code at lawful (Some (MirrorCell mirrored)) e = λ k d h. absurd (omega (arith, h))
cell_items_live world code at lawful (Some (MessageCell sel args)) e = λ k d h. absurd (omega (arith, h))

-- In a lawful world the elements of an array are live.
pub items_live : (world : World) (code : CodeProgram) (array : Value) → IsLawful world code →
    All (IsLiveValue world.cells code) (items_of world.cells array)
items_live world code Nil lawful = λ k d h. absurd (omega (arith, h))
items_live world code True lawful = λ k d h. absurd (omega (arith, h))
items_live world code False lawful = λ k d h. absurd (omega (arith, h))
items_live world code (Int number) lawful = λ k d h. absurd (omega (arith, h))
items_live world code (Sym sel) lawful = λ k d h. absurd (omega (arith, h))
items_live world code (Kernel class) lawful = λ k d h. absurd (omega (arith, h))
items_live world code (Ref at) lawful = cell_items_live world code at lawful (find_cell world.cells at) refl

pub item_live : (world : World) (code : CodeProgram) (items : List Value) (place : Result ℕ Fault) →
    All (IsLiveValue world.cells code) items → IfOk (item_at_place items place) (λ v. IsLiveValue world.cells code v)
item_live world code items (Ok place) all = get_live (IsLiveValue world.cells code) items place all (tt, refl)
item_live world code items (Err fault) all = tt

same_receiver : (cell : Cell) (place : ℕ) (value : Value) →
    is_receiver_cell (Some (with_word cell place value)) ≡ is_receiver_cell (Some cell)
same_receiver (ObjectCell class entries) place value = refl
same_receiver (ClassCell decl base encl holder over) place value = refl
same_receiver (BlockCell body env home receiver holder) place value = refl
same_receiver (EnvironmentCell parent locals) place value = refl
same_receiver (ArrayCell items) place value = refl
same_receiver (TextCell bytes) place value = refl
same_receiver (FacetCell kind) place value = refl
same_receiver (MirrorCell mirrored) place value = refl
same_receiver (MessageCell sel args) place value = refl

written_cell : (heap : Heap) (code : CodeProgram) (at place number : ℕ) (value : Value) → IsLiveValue heap code (Ref number) →
    IsLiveValue (write_word heap at place value) code (Ref number)
written_cell heap code at place number value live = tested (eqb number at) refl
  where
    other : number ≢ at → IsLiveValue (write_word heap at place value) code (Ref number)
    other h = let e = (writing_leaves heap at place value).others number h in (rw e (live.0), rw e (live.1))

    found : number ≡ at → (o : Option Cell) → find_cell heap at ≡ o → IsLiveValue (option_map_or (λ cell. set_cell heap at (with_word cell place value)) o heap) code (Ref number)
    found is None e = live
    found is (Some cell) e =
        let here : find_cell (set_cell heap at (with_word cell place value)) number ≡ Some (with_word cell place value) =
        ap (find_cell (set_cell heap at (with_word cell place value))) is ∙ set_here heap at cell (with_word cell place value) e ((word_plainly place value).size cell) in
        let there : is_receiver_cell (Some cell) ≡ true = ap is_receiver_cell (sym (ap (find_cell heap) is ∙ e)) ∙ live.1 in
        (rw here refl, rw here (same_receiver cell place value ∙ there))

    tested : (b : Bool) → eqb number at ≡ b → IsLiveValue (write_word heap at place value) code (Ref number)
    tested true e = found (eqb-true number at e) (find_cell heap at) refl
    tested false e = other (λ q. let t : true ≡ false = sym (eq-eqb number at q) ∙ e in absurd (cc))

-- a live value is live where a word was written
pub written_live : (heap : Heap) (code : CodeProgram) (at place : ℕ) (new value : Value) → IsLiveValue heap code value →
    IsLiveValue (write_word heap at place new) code value
written_live heap code at place new Nil live = (tt, refl)
written_live heap code at place new True live = (tt, refl)
written_live heap code at place new False live = (tt, refl)
written_live heap code at place new (Int number) live = (tt, refl)
written_live heap code at place new (Sym sel) live = live
written_live heap code at place new (Kernel class) live = (tt, refl)
written_live heap code at place new (Ref number) live = written_cell heap code at place number new live

-- A live value stays live when an element is stored.
pub stored_live : (world : World) (code : CodeProgram) (array : Value) (place : ℕ) (value : Value) → IsLiveValue world.cells code value →
    IsLiveValue (stored world array place value).cells code value
stored_live world code Nil place value live = live
stored_live world code True place value live = live
stored_live world code False place value live = live
stored_live world code (Int number) place value live = live
stored_live world code (Sym sel) place value live = live
stored_live world code (Kernel class) place value live = live
stored_live world code (Ref at) place value live = written_live world.cells code at place value value live

pub put_live : (world : World) (code : CodeProgram) (array : Value) (place : Result ℕ Fault) (value : Value) →
    IsLiveValue world.cells code value → AnswersLive code (put_at_place world array place value)
put_live world code array (Ok place) value live = stored_live world code array place value live
put_live world code array (Err fault) value live = tt
