-- Cells that are made in order, one part after another.
use Rattle.std.proofs.Common.{◌≡◌, ℕ, ◌+◌, List, [], ◌∷◌, ◌++◌, refl, ap, sym, ◌∙◌, arith, append_assoc, Result, Ok, Err, Option, Some, None, OnOk, Bool, true, false, nat_le, if◌then◌else◌}
use Rattle.std.proofs.lemmas.Option.{same_Some}
use Rattle.ns_world.specs.declared.value.Value.{Value}
use Rattle.ns_world.specs.declared.value.Value.TheVariants.{Nil, Ref}
use Rattle.ns_world.specs.declared.cell.CellLimit.{CellLimit}
use Rattle.ns_world.specs.declared.ending.LimitKind.TheVariants.{Cells}
use Rattle.ns_world.specs.Cell.{Cell, cell_size}
use Rattle.ns_world.specs.Heap.{heap_size}
use Rattle.ns_world.specs.World.{World, WorldView, MakesCell, made}
use Rattle.ns_moves.specs.Control.{Progress, in_world, Halts, charged}
use Rattle.ns_moves.specs.Start.{all_made, size_of_cells}
use Rattle.ns_moves.specs.Room.{SameRest}
use Rattle.ns_machine_start.specs.Making.{going_on, CellsAreMade, unnumbered}

-- ---- sizes

pub size_of_both : (first second : List Cell) → size_of_cells (first ++ second) ≡ size_of_cells first + size_of_cells second
size_of_both [] second = omega arith
size_of_both (cell ∷ first) second = let rest = size_of_both first second in omega (arith, rest)

-- ---- parts

-- what stays the same stays so
pub same_rest : {old new : WorldView} → old ≡ new → SameRest old new
same_rest is = record {
  limits = ap (λ (w : WorldView). w.world.limits) (sym is);
  room = (ap (λ (w : WorldView). w.cell_room) (sym is), ap (λ (w : WorldView). w.out_room) (sym is));
}

pub rest_on : {first second third : WorldView} → SameRest first second → SameRest second third → SameRest first third
rest_on here there = record {
  limits = there.limits ∙ here.limits;
  room = (there.room.0 ∙ here.room.0, there.room.1 ∙ here.room.1);
}

-- no cell was made
pub none_made : (world : WorldView) → CellsAreMade [] world (Ok tt) world
none_made world = record { goes_on = λ last next more progress. refl; size = omega arith; rest = same_rest refl }

-- a world in which a cell was made has it
size_made : (old new : World) (cell : Cell) → made old cell ≡ Some new → heap_size new.cells ≡ heap_size old.cells + (cell_size cell + 0)
size_made old new cell is = by_test (nat_le (heap_size old.cells + cell_size cell) old.limits.cells) is
  where
    by_test : (fits : Bool) → (if fits then Some (record old { cells = cell ∷ old.cells }) else None) ≡ Some new
        → heap_size new.cells ≡ heap_size old.cells + (cell_size cell + 0)
    by_test true e = let same = ap (λ (w : World). heap_size w.cells) (same_Some _ _ e) in omega (arith, same)
    by_test false e = absurd (cc)

-- a cell that was made
pub one_made : (cell : Cell) (old new : WorldView) (result : Result ℕ CellLimit) → MakesCell old cell result new →
    new.world.limits ≡ old.world.limits
    → CellsAreMade (cell ∷ []) old (unnumbered result) new
one_made cell old new (Ok number) makes limits = record {
  goes_on = λ last next more progress.
      ap (λ (w : Option World). charged Halts Cells w (in_world progress old.world) (all_made (next ∷ more) (Ref (heap_size old.world.cells)))) makes.0;
  size = size_made old.world new.world cell makes.0;
  rest = record { limits = limits; room = makes.2 };
}
one_made cell old new (Err limit) makes limits = record {
  goes_on = λ last next more progress.
      ap (λ (w : Option World). charged Halts Cells w (in_world progress old.world) (all_made (next ∷ more) (Ref (heap_size old.world.cells)))) makes.0
      ∙ ap (λ (w : WorldView). going_on (Err limit) (next ∷ more) (in_world progress w.world)) (sym makes.1);
  size = tt;
  rest = same_rest (sym makes.1);
}

-- one part and then another
pub both_made : (first second : List Cell) (old middle new : WorldView) (result : Result (Unit {0}) CellLimit) →
    CellsAreMade first old (Ok tt) middle
    → CellsAreMade second middle result new → CellsAreMade (first ++ second) old result new
both_made first second old middle new result here there = record {
  goes_on = λ last next more progress. on second last next more progress there;
  size = size result there.size;
  rest = rest_on here.rest there.rest;
}
  where
    on : (second : List Cell) (last : Value) (next : Cell) (more : List Cell) (progress : Progress) → CellsAreMade second middle result new
        → all_made ((first ++ second) ++ next ∷ more) last (in_world progress old.world) ≡ going_on result (next ∷ more) (in_world progress new.world)
    on [] last next more progress there =
        ap (λ cells. all_made cells last (in_world progress old.world)) (append_assoc first [] (next ∷ more))
        ∙ (here.goes_on last next more progress ∙ there.goes_on Nil next more progress)
    on (cell ∷ second) last next more progress there =
        ap (λ cells. all_made cells last (in_world progress old.world)) (append_assoc first (cell ∷ second) (next ∷ more))
        ∙ (here.goes_on last cell (second ++ next ∷ more) progress ∙ there.goes_on Nil next more progress)

    size : (result : Result (Unit {0}) CellLimit) → OnOk result (heap_size new.world.cells ≡ heap_size middle.world.cells + size_of_cells second)
        → OnOk result (heap_size new.world.cells ≡ heap_size old.world.cells + size_of_cells (first ++ second))
    size (Ok done) is = let parts = size_of_both first second in let before = here.size in omega (arith, parts, before, is)
    size (Err limit) is = tt

-- where a part of it doesn't fit, the whole doesn't
pub both_stopped : (first second : List Cell) (old new : WorldView) (limit other : CellLimit) → CellsAreMade first old (Err limit) new →
    CellsAreMade (first ++ second) old (Err other) new
both_stopped first second old new limit other here = record {
  goes_on = λ last next more progress. on second last next more progress;
  size = tt;
  rest = here.rest;
}
  where
    on : (second : List Cell) (last : Value) (next : Cell) (more : List Cell) (progress : Progress)
        → all_made ((first ++ second) ++ next ∷ more) last (in_world progress old.world) ≡ going_on (Err limit) (next ∷ more) (in_world progress new.world)
    on [] last next more progress =
        ap (λ cells. all_made cells last (in_world progress old.world)) (append_assoc first [] (next ∷ more)) ∙ here.goes_on last next more progress
    on (cell ∷ second) last next more progress =
        ap (λ cells. all_made cells last (in_world progress old.world)) (append_assoc first (cell ∷ second) (next ∷ more))
        ∙ here.goes_on last cell (second ++ next ∷ more) progress
