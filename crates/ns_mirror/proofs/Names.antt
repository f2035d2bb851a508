-- The names of the slots along a chain.
use Rattle.std.proofs.Common.{◌≡◌, ◌≢◌, ℕ, ◌+◌, ◌<◌, ◌≤◌, List, [], ◌∷◌, ◌++◌, length, drop, get_or, slice_get, refl, ap, sym, ◌∙◌, arith, Option, Some, None, Bool, true, false, eqb, ◌||◌, length-append}
use Rattle.std.specs.Option.{option_map_or}
use Rattle.std.proofs.lemmas.List.{drop_more}
use Rattle.ns_code.specs.declared.program.CodeProgram.{CodeProgram}
use Rattle.ns_code.specs.declared.class.ClassCode.{ClassCode}
use Rattle.ns_code.specs.declared.class.SlotCode.{SlotCode}
use Rattle.ns_world.specs.declared.value.Value.{Value}
use Rattle.ns_world.specs.declared.value.Value.TheVariants.{Nil, Sym}
use Rattle.ns_world.specs.declared.cell.NewCell.TheVariants.{Mirror}
use Rattle.ns_world.specs.Cell.{Cell, shape_of}
use Rattle.ns_world.specs.Heap.{Heap, heap_size, chain_of, superclass_of, is_class, is_chain_start, no_class, open_words_at}
use Rattle.ns_world.specs.World.{World, WorldView, written}
use Rattle.ns_world.specs.Layout.{declaration_of, entries_of, entries_along}
use Rattle.ns_world.specs.Starts.{declaration_in}
use Rattle.ns_world.specs.Lawful.{IsLawful}
use Rattle.std.proofs.lemmas.Bool.{eqb-true, true≢false}
use Rattle.ns_world.specs.laws.Chains.{class_below}
use Rattle.ns_world.specs.laws.Above.{class_of_start}
use Rattle.ns_world.specs.laws.Changing.{found_old, chain_old}
use Rattle.ns_classes.specs.laws.Bounds.{layout_few}
use Rattle.ns_classes.specs.laws.Entries.{started}
use Rattle.ns_mirror.specs.Arrays.{listed}
use Rattle.ns_mirror.specs.Slots.{declared_slots, slot_symbols, slot_names_along}
use Rattle.ns_mirror.proofs.Listing.{sizes_stay}

pub symbols_size : (slots : List SlotCode) → length (slot_symbols slots) ≡ length slots
symbols_size [] = refl
symbols_size (slot ∷ slots) = omega (arith, symbols_size slots)

-- one slot of what is left
pub symbols_step : (slots : List SlotCode) (i : ℕ) (d : SlotCode) → i < length slots →
    slot_symbols (drop i slots) ≡ Sym ((get_or slots i d).name) ∷ slot_symbols (drop (i + 1) slots)
symbols_step slots i d h = ap slot_symbols (drop_more slots i d h)

slots_few : (code : CodeProgram) (decl : ℕ) → length (declared_slots code decl) ≤ entries_of code decl
slots_few code decl = found (slice_get code.classes decl)
  where
    found : (o : Option ClassCode) → length (option_map_or (λ (class : ClassCode). class.slots) o []) ≤ option_map_or (λ (class : ClassCode). length class.slots + length class.nested) o 0
    found None = omega arith
    found (Some class) = omega arith

-- the names of a class and those above it
pub names_step : (heap : Heap) (code : CodeProgram) (class next : ℕ) → chain_of heap class ≡ class ∷ chain_of heap next →
    slot_names_along heap code (chain_of heap class) ≡ slot_names_along heap code (chain_of heap next) ++ slot_symbols (declared_slots code (declaration_of heap class))
names_step heap code class next e = ap (slot_names_along heap code) e

pub names_step_size : (heap : Heap) (code : CodeProgram) (class next : ℕ) → chain_of heap class ≡ class ∷ chain_of heap next →
    length (slot_names_along heap code (chain_of heap class)) ≡ length (slot_names_along heap code (chain_of heap next)) + length (declared_slots code (declaration_of heap class))
names_step_size heap code class next e =
    ap length (names_step heap code class next e)
    ∙ omega (arith, length-append (slot_names_along heap code (chain_of heap next)) (slot_symbols (declared_slots code (declaration_of heap class))), symbols_size (declared_slots code (declaration_of heap class)))

pub names_end : (heap : Heap) (code : CodeProgram) (class : ℕ) → chain_of heap class ≡ [] →
    slot_names_along heap code (chain_of heap class) ≡ []
names_end heap code class e = ap (slot_names_along heap code) e

names_along_few : (heap : Heap) (code : CodeProgram) (chain : List ℕ) →
    length (slot_names_along heap code chain) ≤ entries_along heap code chain
names_along_few heap code [] = omega arith
names_along_few heap code (class ∷ chain) =
    omega (arith, length-append (slot_names_along heap code chain) (slot_symbols (declared_slots code (declaration_of heap class))), symbols_size (declared_slots code (declaration_of heap class)), slots_few code (declaration_of heap class), names_along_few heap code chain)

-- there are few names
pub names_few : (world : World) (code : CodeProgram) (class : ℕ) → IsLawful world code → is_chain_start world.cells class ≡ true →
    length (slot_names_along world.cells code (chain_of world.cells class)) ≤ 33553920
names_few world code class lawful s =
    omega (arith, names_along_few world.cells code (chain_of world.cells class), layout_few world code class lawful s)

-- one slot more is written
pub slot_step : (initial view new : WorldView) (to at place i : ℕ) (slots : List SlotCode) (d : SlotCode) → i < length slots →
    listed view to place (slot_symbols (drop i slots)) ≡ listed initial to at (slot_symbols slots) →
    new ≡ record view { world = written view.world to place (Sym ((get_or slots i d).name)) } →
    listed new to (place + 1) (slot_symbols (drop (i + 1) slots)) ≡ listed initial to at (slot_symbols slots)
slot_step initial view new to at place i slots d h e wrote =
    ap (λ v. listed v to (place + 1) (slot_symbols (drop (i + 1) slots))) wrote
    ∙ (ap (listed view to place) (sym (symbols_step slots i d h)) ∙ e)

pub slot_size : (view new : WorldView) (to place : ℕ) (value : Value) (size : ℕ) →
    new ≡ record view { world = written view.world to place value } → length (open_words_at view.world.cells to) ≡ size →
    length (open_words_at new.world.cells to) ≡ size
slot_size view new to place value size wrote e =
    ap (λ (v : WorldView). length (open_words_at v.world.cells to)) wrote ∙ (sizes_stay view.world.cells to place to value ∙ e)

-- where the class of a chain isn't the cell that is made
below_next : (world : World) (code : CodeProgram) (class : ℕ) → IsLawful world code → is_chain_start world.cells class ≡ true →
    class ≢ heap_size world.cells
below_next world code class lawful s = tested (eqb class no_class) refl
  where
    tested : (b : Bool) → eqb class no_class ≡ b → class ≢ heap_size world.cells
    tested true e = λ q. let is : class ≡ no_class = eqb-true class no_class e in omega (arith, q, is, lawful.within.cells, lawful.within.limits.1.1)
    tested false e = λ q. let c = class_below world.cells class (class_of_start world.cells class s (λ t. let f : true ≡ false = sym t ∙ e in true≢false f)) in omega (arith, c, q)

declaration_kept : (heap : Heap) (cell : Cell) (class : ℕ) → class ≢ heap_size heap →
    declaration_of (cell ∷ heap) class ≡ declaration_of heap class
declaration_kept heap cell class h = ap (λ o. declaration_in (option_map_or shape_of o (Mirror Nil))) (found_old heap cell class h)

along_kept : (world : World) (code : CodeProgram) (cell : Cell) (chain : List ℕ) (class : ℕ) → IsLawful world code →
    is_chain_start world.cells class ≡ true → chain_of world.cells class ≡ chain →
    slot_names_along (cell ∷ world.cells) code chain ≡ slot_names_along world.cells code chain
along_kept world code cell [] class lawful s e = refl
along_kept world code cell (holder ∷ holders) class lawful s e =
    let g = started world code class 0 lawful s (omega (arith, ap length e)) in
    let both : class ∷ chain_of world.cells (superclass_of world.cells class) ≡ holder ∷ holders = sym g.chain ∙ e in
    let is : class ≡ holder = cc in
    let above : chain_of world.cells (superclass_of world.cells class) ≡ holders = cc in
    let kept : declaration_of (cell ∷ world.cells) holder ≡ declaration_of world.cells holder =
    ap (declaration_of (cell ∷ world.cells)) (sym is) ∙ (declaration_kept world.cells cell class (below_next world code class lawful s) ∙ ap (declaration_of world.cells) is) in
    ap (λ names. names ++ slot_symbols (declared_slots code (declaration_of (cell ∷ world.cells) holder))) (along_kept world code cell holders (superclass_of world.cells class) lawful g.start above)
    ∙ ap (λ decl. slot_names_along world.cells code holders ++ slot_symbols (declared_slots code decl)) kept

-- where a cell is made, the names along a chain stay, and it can still start there
pub names_kept : (world : World) (code : CodeProgram) (cell : Cell) (class : ℕ) → IsLawful world code →
    is_chain_start world.cells class ≡ true →
    slot_names_along (cell ∷ world.cells) code (chain_of (cell ∷ world.cells) class) ≡ slot_names_along world.cells code (chain_of world.cells class)
names_kept world code cell class lawful s =
    ap (slot_names_along (cell ∷ world.cells) code) (chain_old world.cells cell class (below_next world code class lawful s))
    ∙ along_kept world code cell (chain_of world.cells class) class lawful s refl

pub start_kept : (world : World) (code : CodeProgram) (cell : Cell) (class : ℕ) → IsLawful world code →
    is_chain_start world.cells class ≡ true → is_chain_start (cell ∷ world.cells) class ≡ true
start_kept world code cell class lawful s =
    ap (λ o. is_class o || eqb class no_class) (found_old world.cells cell class (below_next world code class lawful s)) ∙ s
