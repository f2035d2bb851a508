-- A start as a whole: its standing cells, the texts, and their array.
use Rattle.std.proofs.Common.{◌≡◌, ℕ, ◌+◌, List, [], ◌∷◌, ◌++◌, map, ap, sym, ◌∙◌, arith, Result, Ok, Err, Option}
use Rattle.ns_code.specs.declared.program.CodeProgram.{CodeProgram}
use Rattle.ns_facets.specs.declared.row.Grants.{Grants}
use Rattle.ns_world.specs.declared.value.Value.{Value}
use Rattle.ns_world.specs.declared.value.Value.TheVariants.{Nil, Ref}
use Rattle.ns_world.specs.declared.cell.CellLimit.{CellLimit}
use Rattle.ns_world.specs.declared.ending.LimitKind.TheVariants.{Cells}
use Rattle.ns_world.specs.declared.ending.Ending.TheVariants.{Limit}
use Rattle.ns_world.specs.Cell.{Cell, ArrayCell, TextCell}
use Rattle.ns_world.specs.Heap.{heap_size}
use Rattle.ns_world.specs.World.{World, WorldView, MakesCell}
use Rattle.ns_moves.specs.Control.{Progress, in_world, Gives, Halts, charged}
use Rattle.ns_moves.specs.Start.{all_made, size_of_cells, numbers_from, standing_cells, start_cells}
use Rattle.ns_machine_start.specs.Making.{going_on, start_shown, CellsAreMade, referring}

-- what follows some cells that were made
through : (cells texts : List Cell) (last : Cell) (old new : WorldView) (result : Result (Unit {0}) CellLimit) →
    CellsAreMade cells old result new → (progress : Progress)
    → all_made (cells ++ (texts ++ last ∷ [])) Nil (in_world progress old.world) ≡ going_on result (texts ++ last ∷ []) (in_world progress new.world)
through cells [] last old new result makes progress = makes.goes_on Nil last [] progress
through cells (text ∷ texts) last old new result makes progress = makes.goes_on Nil text (texts ++ last ∷ []) progress

-- the last cell
last_made : (cell : Cell) (old new : WorldView) (result : Result ℕ CellLimit) → MakesCell old cell result new → (progress : Progress)
    → all_made (cell ∷ []) Nil (in_world progress old.world) ≡ start_shown result (in_world progress new.world)
last_made cell old new (Ok number) makes progress =
    ap (λ (w : Option World). charged Halts Cells w (in_world progress old.world) (all_made [] (Ref (heap_size old.world.cells)))) makes.0
    ∙ ap (λ n. Gives (Ref n) (in_world progress new.world)) (sym makes.1)
last_made cell old new (Err limit) makes progress =
    ap (λ (w : Option World). charged Halts Cells w (in_world progress old.world) (all_made [] (Ref (heap_size old.world.cells)))) makes.0
    ∙ ap (λ (w : WorldView). Halts (Limit Cells) (in_world progress w.world)) (sym makes.1)

-- the start ends where a standing cell doesn't fit
pub standing_stopped : (code : CodeProgram) (grants : Grants) (arguments : List (List ℕ)) (old new : WorldView) (limit other : CellLimit)
    → CellsAreMade (standing_cells code grants) old (Err limit) new → (progress : Progress)
    → all_made (start_cells code grants arguments) Nil (in_world progress old.world) ≡ start_shown (Err other) (in_world progress new.world)
standing_stopped code grants arguments old new limit other makes progress =
    let standing = standing_cells code grants in
    let texts = map TextCell arguments in
    through standing texts (ArrayCell (map Ref (numbers_from (size_of_cells standing) texts))) old new (Err limit) makes progress

-- or where a text doesn't
pub texts_stopped : (code : CodeProgram) (grants : Grants) (arguments : List (List ℕ)) (old middle new : WorldView) (limit other : CellLimit)
    → CellsAreMade (standing_cells code grants) old (Ok tt) middle → CellsAreMade (map TextCell arguments) middle (Err limit) new → (progress : Progress)
    → all_made (start_cells code grants arguments) Nil (in_world progress old.world) ≡ start_shown (Err other) (in_world progress new.world)
texts_stopped code grants arguments old middle new limit other before makes progress =
    let standing = standing_cells code grants in
    let texts = map TextCell arguments in
    let array = ArrayCell (map Ref (numbers_from (size_of_cells standing) texts)) in
    through standing texts array old middle (Ok tt) before progress ∙ makes.goes_on Nil array [] progress

-- else it ends with their array
pub array_last : (code : CodeProgram) (grants : Grants) (arguments : List (List ℕ)) (items : List Value) (old first second new : WorldView) (result : Result ℕ CellLimit)
    → old.world.cells ≡ [] → CellsAreMade (standing_cells code grants) old (Ok tt) first → CellsAreMade (map TextCell arguments) first (Ok tt) second
    → items ≡ referring (heap_size first.world.cells) arguments → MakesCell second (ArrayCell items) result new → (progress : Progress)
    → all_made (start_cells code grants arguments) Nil (in_world progress old.world) ≡ start_shown result (in_world progress new.world)
array_last code grants arguments items old first second new result empty before makes refers last progress =
    let standing = standing_cells code grants in
    let texts = map TextCell arguments in
    let array = ArrayCell (map Ref (numbers_from (size_of_cells standing) texts)) in
    let none : heap_size old.world.cells ≡ 0 = ap heap_size empty in
    let size : heap_size first.world.cells ≡ heap_size old.world.cells + size_of_cells standing = before.size in
    let number : heap_size first.world.cells ≡ size_of_cells standing = omega (arith, none, size) in
    through standing texts array old first (Ok tt) before progress
    ∙ (makes.goes_on Nil array [] progress
    ∙ (ap (λ items. all_made (ArrayCell items ∷ []) Nil (in_world progress second.world)) (sym (refers ∙ ap (λ n. referring n arguments) number))
    ∙ last_made (ArrayCell items) second new result last progress))
