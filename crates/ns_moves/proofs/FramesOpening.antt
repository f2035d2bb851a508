-- What comes after the last frame is valid: the second opening send, whose arguments are there.
use Rattle.std.proofs.Common.{◌≡◌, ℕ, ◌+◌, ◌<◌, ◌≤◌, List, [], ◌∷◌, ◌++◌, length, drop, reverse, refl, ap, sym, ◌∙◌, arith, All, Option, Some, None, Bool, true, false, cond, slice_get}
use Rattle.std.specs.Prelude.{◌==◌}
use Rattle.std.specs.Option.{option_map_or, ForSome}
use Rattle.std.proofs.Common.{append_assoc}
use Rattle.std.proofs.lemmas.List.{reverse-append, reverse-reverse, take-append-drop}
use Rattle.std.proofs.lemmas.Bool.{eqb-true}
use Rattle.ns_base.specs.declared.place.Place.{Place as SourcePlace}
use Rattle.ns_code.specs.declared.program.CodeProgram.{CodeProgram}
use Rattle.ns_code.specs.declared.body.BodyCode.{BodyCode}
use Rattle.ns_code.specs.declared.instruction.Instr.{Instr}
use Rattle.ns_code.specs.declared.instruction.Instr.TheVariants as i
use Rattle.ns_code.specs.declared.own.Own.TheVariants.{MainArgs}
use Rattle.ns_code.specs.Fits.{Fits, PlaceFits}
use Rattle.ns_world.specs.declared.value.Value.{Value}
use Rattle.ns_world.specs.declared.value.Value.TheVariants.{Ref}
use Rattle.ns_world.specs.declared.cell.FacetKind.TheVariants as facet
use Rattle.ns_world.specs.Cell.{Cell, ObjectCell, ClassCell, BlockCell, EnvironmentCell, ArrayCell, TextCell, FacetCell, MirrorCell, MessageCell, cell_size}
use Rattle.ns_world.specs.Heap.{Heap, heap_size, find_cell}
use Rattle.ns_world.specs.Lawful.{IsLiveValue}
use Rattle.ns_facets.specs.declared.row.Grants.{Grants}
use Rattle.ns_moves.specs.Control.{Progress}
use Rattle.ns_moves.specs.Bodies.{initialiser_of}
use Rattle.ns_moves.specs.Start.{standing_cells, size_of_cells, platform}
use Rattle.ns_moves.specs.State.{Frame, Phase, Start, First, Second, Hosted}
use Rattle.ns_moves.specs.Steps.{placed, place_in, super_place_or, super_place, opening_place}
use Rattle.ns_moves.specs.Sends.{own_sel}
use Rattle.ns_moves.specs.Valid.{BeginsWith, array_behind, HasArgumentCells, GoesOn}
use Rattle.ns_moves.proofs.FramesKnown.{Known}
use Rattle.ns_moves.proofs.FramesLast.{value_lasts}
use Rattle.ns_moves.proofs.FramesReturn.{EndsWell, all_more}
use Rattle.ns_moves.proofs.InstrFacts.{body_fits, place_there}
use Rattle.ns_moves.proofs.InstrStacks.{none_at_all}

-- ---- the place of the opening sends

abbrev InFile : CodeProgram → Option SourcePlace → Type 0
InFile code o = ForSome o (λ (place : SourcePlace). place.file < length code.files)

or_fits : (code : CodeProgram) (instr : Instr) (place later : Option SourcePlace) → InFile code place → InFile code later →
    InFile code (super_place_or instr place later)
or_fits code i.PushNil place later one two = two
or_fits code i.PushTrue place later one two = two
or_fits code i.PushFalse place later one two = two
or_fits code (i.PushInt number) place later one two = two
or_fits code (i.PushSym sel) place later one two = two
or_fits code (i.PushText text) place later one two = two
or_fits code i.PushSelf place later one two = two
or_fits code (i.PushOuter level) place later one two = two
or_fits code (i.PushLocal hops index) place later one two = two
or_fits code (i.StoreLocal hops index) place later one two = two
or_fits code (i.PushBlock body) place later one two = two
or_fits code (i.MakeArray count) place later one two = two
or_fits code i.Pop place later one two = two
or_fits code (i.Pick number) place later one two = two
or_fits code (i.Send sel argc) place later one two = two
or_fits code (i.SendInner sel argc) place later one two = two
or_fits code (i.SendPrivate level sel argc) place later one two = two
or_fits code (i.SendSuper sel argc) place later one two = two
or_fits code (i.InitSuper argc) place later one two = one
or_fits code (i.StoreSlot slot) place later one two = two
or_fits code i.Return place later one two = two
or_fits code i.ReturnSelf place later one two = two
or_fits code i.ReturnHome place later one two = two
or_fits code (i.Jump target) place later one two = two
or_fits code (i.JumpFalse target) place later one two = two
or_fits code (i.JumpTrue target) place later one two = two

placed_fits : (code : CodeProgram) (body : BodyCode) (places : List (ℕ × SourcePlace)) (number : ℕ) (instrs : List Instr) →
    All (PlaceFits code body) places
    → InFile code (super_place (placed places number instrs))
placed_fits code body places number [] all = λ place e. absurd (cc)
placed_fits code body places number (instr ∷ instrs) all =
    or_fits code instr (place_in places number) (super_place (placed places (number + 1) instrs)) (place_there code body places number all)
    (placed_fits code body places (number + 1) instrs all)

opening_fits : (code : CodeProgram) → Fits code → InFile code (opening_place code)
opening_fits code fits = there (slice_get code.bodies (initialiser_of code 0)) refl
  where
    there : (o : Option BodyCode) → slice_get code.bodies (initialiser_of code 0) ≡ o
        → InFile code (super_place (option_map_or (λ (b : BodyCode). placed b.places 0 b.instrs) o ((i.ReturnSelf, None) ∷ [])))
    there (Some b) e = placed_fits code b b.places 0 b.instrs (body_fits code (initialiser_of code 0) b fits e).places
    there None e = λ place e. absurd (cc)

-- ---- cells by their order

some_size : (cell : Cell) → 1 ≤ cell_size cell
some_size (ObjectCell class entries) = omega arith
some_size (ClassCell decl base encl holder over) = omega arith
some_size (BlockCell body env home receiver holder) = omega arith
some_size (EnvironmentCell parent locals) = omega arith
some_size (ArrayCell items) = omega arith
some_size (TextCell bytes) = omega arith
some_size (FacetCell kind) = omega arith
some_size (MirrorCell mirrored) = omega arith
some_size (MessageCell sel args) = omega arith

size_append : (newer older : Heap) → heap_size (newer ++ older) ≡ heap_size newer + heap_size older
size_append [] older = omega arith
size_append (cell ∷ newer) older = let ih = size_append newer older in omega (arith, ih)

same_number : (n : ℕ) → (n == n) ≡ true
same_number n = grind (arith)

-- the cell behind others that are newer
find_at : (newer : List Cell) (cell : Cell) (older : Heap) → find_cell (newer ++ cell ∷ older) (heap_size older) ≡ Some cell
find_at [] cell older = ap (λ b. cond b (Some cell) (find_cell older (heap_size older))) (same_number (heap_size older))
find_at (first ∷ newer) cell older = tested (heap_size older == heap_size (newer ++ cell ∷ older)) refl (find_at newer cell older)
  where
    tested : (b : Bool) → (heap_size older == heap_size (newer ++ cell ∷ older)) ≡ b → find_cell (newer ++ cell ∷ older) (heap_size older) ≡ Some cell
        → cond b (Some first) (find_cell (newer ++ cell ∷ older) (heap_size older)) ≡ Some cell
    tested false e further = further
    tested true e further =
        let same = eqb-true (heap_size older) (heap_size (newer ++ cell ∷ older)) e in
        let sum = size_append newer (cell ∷ older) in
        let one = some_size cell in
        absurd (omega (arith, same, sum, one))

size_reversed : (cells : List Cell) → heap_size (reverse cells) ≡ size_of_cells cells
size_reversed [] = refl
size_reversed (cell ∷ cells) =
    let split = ap heap_size (reverse-append (cell ∷ []) cells) ∙ size_append (reverse cells) (cell ∷ []) in
    let ih = size_reversed cells in
    omega (arith, split, ih)

-- the cell behind so many that are older
found_behind : (heap : Heap) (before after : List Cell) (cell : Cell) → reverse heap ≡ before ++ cell ∷ after →
    find_cell heap (size_of_cells before) ≡ Some cell
found_behind heap before after cell e =
    let turned : heap ≡ (reverse after ++ cell ∷ []) ++ reverse before =
    sym (reverse-reverse heap) ∙ (ap reverse e ∙ (reverse-append before (cell ∷ after) ∙ ap (λ l. l ++ reverse before) (reverse-append (cell ∷ []) after))) in
    let laid : heap ≡ reverse after ++ cell ∷ reverse before = turned ∙ append_assoc (reverse after) (cell ∷ []) (reverse before) in
    ap (λ n. find_cell heap n) (sym (size_reversed before)) ∙ (ap (λ h. find_cell h (heap_size (reverse before))) laid ∙ find_at (reverse after) cell (reverse before))

-- The array behind texts.
record IsBehind (number at : ℕ) (cells : List Cell) : Type 0 where
  texts : List Cell
  items : List Value
  more : List Cell
  cells_are : cells ≡ texts ++ ArrayCell items ∷ more
  at_is : at ≡ number + size_of_cells texts

array_there : (number : ℕ) (cells : List Cell) (at : ℕ) → array_behind number cells ≡ Some at → IsBehind number at cells
array_there number [] at e = absurd (cc)
array_there number (TextCell bytes ∷ cells) at e =
    let b = array_there (number + cell_size (TextCell bytes)) cells at e in
    let is = b.at_is in
    record { texts = TextCell bytes ∷ b.texts; items = b.items; more = b.more; cells_are = ap (λ l. TextCell bytes ∷ l) b.cells_are; at_is = omega (arith, is) }
array_there number (ArrayCell items ∷ cells) at e =
    let same : number ≡ at = cc in
    record { texts = []; items = items; more = cells; cells_are = refl; at_is = omega (arith, same) }
array_there number (ObjectCell class entries ∷ cells) at e = absurd (cc)
array_there number (ClassCell decl base encl holder over ∷ cells) at e = absurd (cc)
array_there number (BlockCell body env home receiver holder ∷ cells) at e = absurd (cc)
array_there number (EnvironmentCell parent locals ∷ cells) at e = absurd (cc)
array_there number (FacetCell kind ∷ cells) at e = absurd (cc)
array_there number (MirrorCell mirrored ∷ cells) at e = absurd (cc)
array_there number (MessageCell sel args ∷ cells) at e = absurd (cc)

size_joined : (first second : List Cell) → size_of_cells (first ++ second) ≡ size_of_cells first + size_of_cells second
size_joined [] second = omega arith
size_joined (cell ∷ first) second = let ih = size_joined first second in omega (arith, ih)

-- the array of the arguments is live
arguments_live : (code : CodeProgram) (grants : Grants) (heap : Heap) (arguments : ℕ) → BeginsWith (standing_cells code grants) heap
    → HasArgumentCells code grants arguments heap → IsLiveValue heap code (Ref arguments)
arguments_live code grants heap arguments begins has =
    let first = standing_cells code grants in
    let cells = reverse heap in
    let b = array_there (size_of_cells first) (drop (length first) cells) arguments has in
    let joined : cells ≡ first ++ (b.texts ++ ArrayCell b.items ∷ b.more) =
    sym (take-append-drop (length first) cells) ∙ (ap (λ l. l ++ drop (length first) cells) begins.start ∙ ap (λ l. first ++ l) b.cells_are) in
    let split : cells ≡ (first ++ b.texts) ++ ArrayCell b.items ∷ b.more = joined ∙ sym (append_assoc first b.texts (ArrayCell b.items ∷ b.more)) in
    let sum : arguments ≡ size_of_cells (first ++ b.texts) = let j = size_joined first b.texts in let is = b.at_is in omega (arith, j, is) in
    let there : find_cell heap arguments ≡ Some (ArrayCell b.items) = ap (find_cell heap) sum ∙ found_behind heap (first ++ b.texts) b.more (ArrayCell b.items) split in
    (rw there refl, rw there refl)

-- so is the Platform
platform_live : (code : CodeProgram) (grants : Grants) (heap : Heap) → BeginsWith (standing_cells code grants) heap →
    IsLiveValue heap code platform
platform_live code grants heap begins =
    let first = standing_cells code grants in
    let cells = reverse heap in
    let joined : cells ≡ first ++ drop (length first) cells =
    sym (take-append-drop (length first) cells) ∙ ap (λ l. l ++ drop (length first) cells) begins.start in
    let there : find_cell heap 1 ≡ Some (FacetCell facet.Platform) = found_behind heap (FacetCell facet.Manifest ∷ []) _ (FacetCell facet.Platform) joined in
    (rw there refl, rw there refl)

-- ---- after the last frame

pub ends_well : (known : Known) (code : CodeProgram) (grants : Grants) (phase : Phase) (frames : List Frame) (p : Progress) →
    GoesOn code grants phase frames p
    → EndsWell code phase p
ends_well known code grants Start frames p on = λ q v onto live. tt
ends_well known code grants Second frames p on = λ q v onto live. tt
ends_well known code grants Hosted frames p on = λ q v onto live. tt
ends_well known code grants (First arguments) frames p on = λ q v onto live.
    let heap = p.world.cells in
    let one = value_lasts known code p q onto platform (platform_live code grants heap on.world.begins) in
    let two = value_lasts known code p q onto (Ref arguments) (arguments_live code grants heap arguments on.world.begins on.arguments) in
    let Live : Value → Type 0 = IsLiveValue q.world.cells code in
    let both = all_more Live platform (Ref arguments ∷ []) one (all_more Live (Ref arguments) [] two (none_at_all Live)) in
    let is = known.own.selectors code MainArgs in
    let sites = known.sends.sites code v (own_sel code MainArgs) (opening_place code) q onto.run.after is (opening_fits code onto.run.after.fits) in (
      (
        refl,
        record { live = live; few = omega arith },
        record { selector = is; arity = sym (known.own.arities code MainArgs); live = both },
        sites,
      ),
      tt,
    )
