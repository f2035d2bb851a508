-- What holds of a lawful world of a run holds of each later one.
use Rattle.std.proofs.Common.{◌≡◌, ℕ, ◌<◌, refl, ap, sym, ◌∙◌, arith, Option, Some, None, IsSome, Bool, true, false, eqb, ◌||◌}
use Rattle.std.specs.Option.{option_map_or}
use Rattle.ns_code.specs.declared.program.CodeProgram.{CodeProgram}
use Rattle.ns_world.specs.declared.value.Value.TheVariants.{Nil}
use Rattle.ns_world.specs.declared.cell.NewCell.{NewCell}
use Rattle.ns_world.specs.declared.cell.NewCell.TheVariants.{Mirror}
use Rattle.ns_world.specs.Cell.{Cell, shape_of}
use Rattle.ns_world.specs.Heap.{Heap, heap_size, find_cell, is_class, chain_of, shape_at, no_class}
use Rattle.ns_world.specs.Layout.{declaration_of, entry_word}
use Rattle.ns_world.specs.World.{World}
use Rattle.ns_world.specs.Later.{AreLater, RunsOn}
use Rattle.ns_world.specs.laws.Above.{chain_none}
use Rattle.ns_world.specs.laws.Classes.{IsInOrder, SameClasses, lawful_order, lawful_small, declaration_stays, word_stays}
use Rattle.ns_world.specs.laws.Firsts.{found_past}
use Rattle.ns_world.specs.laws.Twins.{KeepsCells, twins_of_shape}
use Rattle.ns_world.specs.laws.Leading.{class_same}

-- two heaps that are small enough for chains to end
same_classes : (old new : Heap) → AreLater old new → IsInOrder old → heap_size new < no_class → SameClasses old new
same_classes old new later order small = record {
  classes = λ class is. class_same old new class later is;
  chains = λ class s. chains class (is_class (find_cell old class)) refl s;
  none = found_past new no_class (omega (arith, small)) ∙ sym (found_past old no_class (omega (arith, order.small)));
}
  where
    chains : (class : ℕ) (b : Bool) → is_class (find_cell old class) ≡ b → (b || eqb class no_class) ≡ true → chain_of new class ≡ chain_of old class
    chains class true e s = later.chains class e
    chains class false e s = chain_none new class (omega (arith, small)) s ∙ sym (chain_none old class (omega (arith, order.small)) s)

-- A run that goes on keeps the cells that are there.
pub keeps_of : (code : CodeProgram) (old new : World) → RunsOn code old new → KeepsCells old.cells new.cells
keeps_of code old new run = record {
  order = lawful_order old code run.before;
  same = same_classes old.cells new.cells run.later.cells (lawful_order old code run.before) (lawful_small new code run.after);
  cells = λ number cell e.
      let s = run.later.cells.cells number cell e in
      record { twin = s.now; is = s.there; twins = twins_of_shape cell s.now s.shape };
}

-- A cell keeps its shape while the run goes on.
pub shape_lasts : (number : ℕ) (code : CodeProgram) (old new : World) → RunsOn code old new → IsSome (find_cell old.cells number) →
    shape_at new.cells number ≡ shape_at old.cells number
shape_lasts number code old new run h = found (find_cell old.cells number) refl h
  where
    found : (o : Option Cell) → find_cell old.cells number ≡ o → IsSome o → shape_at new.cells number ≡ shape_at old.cells number
    found None e h = absurd (cc)
    found (Some cell) e h =
        let s = run.later.cells.cells number cell e in
        let told : Option Cell → NewCell = λ o. option_map_or shape_of o (Mirror Nil) in
        ap told s.there ∙ (s.shape ∙ ap told (sym e))

pub class_lasts : (class : ℕ) (code : CodeProgram) (old new : World) → RunsOn code old new → is_class (find_cell old.cells class) ≡ true →
    find_cell new.cells class ≡ find_cell old.cells class
class_lasts class code old new run is = class_same old.cells new.cells class run.later.cells is

-- A class keeps its declaration while the run goes on.
pub declaration_lasts : (class : ℕ) (code : CodeProgram) (old new : World) → RunsOn code old new →
    is_class (find_cell old.cells class) ≡ true → declaration_of new.cells class ≡ declaration_of old.cells class
declaration_lasts class code old new run is = declaration_stays old.cells new.cells class (class_lasts class code old new run is)

-- An entry of a holder keeps its word while the run goes on.
pub word_lasts : (holder entry : ℕ) (code : CodeProgram) (old new : World) → RunsOn code old new →
    is_class (find_cell old.cells holder) ≡ true → entry_word new.cells code holder entry ≡ entry_word old.cells code holder entry
word_lasts holder entry code old new run is = let k = keeps_of code old new run in word_stays old.cells new.cells code holder entry k.order k.same is
