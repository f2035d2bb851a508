-- A world stays ready where a cell is made, where a byte or an element is written, and where something is printed.
use Rattle.std.proofs.Common.{◌≡◌, ℕ, ◌≤◌, List, [], ap, sym, ◌∙◌, subst, arith, Some, None, true}
use Rattle.std.specs.Prelude.{Result, Ok, Err}
use Rattle.ns_base.specs.declared.limits.Limits.{Limits}
use Rattle.ns_code.specs.declared.program.CodeProgram.{CodeProgram}
use Rattle.ns_world.specs.declared.value.Value.{Value}
use Rattle.ns_world.specs.declared.value.Value.TheVariants.{Ref}
use Rattle.ns_world.specs.declared.cell.NewCell.{NewCell}
use Rattle.ns_world.specs.declared.cell.CellLimit.{CellLimit}
use Rattle.ns_world.specs.declared.ending.LimitKind.{LimitKind}
use Rattle.ns_world.specs.declared.ending.LimitKind.TheVariants.{Out}
use Rattle.ns_world.specs.Cell.{fresh}
use Rattle.ns_world.specs.Heap.{Heap, find_cell, has_superclass}
use Rattle.ns_world.specs.World.{World, WorldView, MakesCell, Charges, SameRoom, printed, written, byte_written}
use Rattle.ns_world.specs.Lawful.{IsLawful, IsLiveValue, class_of_object}
use Rattle.ns_world.specs.Keeping.{MayBeMade, MayBeWritten}
use Rattle.ns_world.specs.laws.Making.{making_keeps}
use Rattle.ns_world.specs.laws.Writing.{writing_keeps, byte_keeps}
use Rattle.ns_world.specs.laws.Charging.{print_keeps}
use Rattle.ns_kdata.specs.Arguments.{is_array}
use Rattle.ns_world_setting.specs.Program.{program_code}
use Rattle.ns_world_setting.specs.Cells.{tried_with, tried_cells}
use Rattle.ns_world_setting.specs.Ready.{WorldIsReady}
use Rattle.ns_world_setting.proofs.Stages.{lawful_empty, lawful_tried}
use Rattle.ns_world_setting.proofs.Telling.{array_is_no_object}

-- the same limits and the same room
still : (old new : WorldView) → WorldIsReady old → IsLawful new.world program_code → new.world.limits ≡ old.world.limits →
    SameRoom old new → WorldIsReady new
still old new ready lawful limits room = record {
  lawful = lawful;
  cells = omega (arith, ready.cells, ap (λ (l : Limits). l.cells) limits, room.0);
  out = omega (arith, ready.out, ap (λ (l : Limits). l.out) limits, room.1);
}

pub made_ready : (old new : WorldView) (cell : NewCell) (result : Result ℕ CellLimit) → WorldIsReady old →
    has_superclass old.world.cells (fresh cell) ≡ true → MayBeMade old.world.cells program_code cell →
    MakesCell old (fresh cell) result new → new.world.limits ≡ old.world.limits → WorldIsReady new
made_ready old new cell (Ok number) ready s m g limits =
    still old new ready (making_keeps old.world new.world program_code cell ready.lawful s m g.0) limits g.2
made_ready old new cell (Err limit) ready s m g limits = subst WorldIsReady (sym g.1) ready

pub byte_ready : (old new : WorldView) (at place byte : ℕ) → WorldIsReady old →
    new ≡ record old { world = byte_written old.world at place byte } → WorldIsReady new
byte_ready old new at place byte ready is =
    subst WorldIsReady (sym is) (record { lawful = byte_keeps old.world program_code at place byte ready.lawful; cells = ready.cells; out = ready.out })

pub item_ready : (old new : WorldView) (at place : ℕ) (value : Value) → WorldIsReady old → is_array old.world.cells (Ref at) ≡ true →
    IsLiveValue old.world.cells program_code value → new ≡ record old { world = written old.world at place value } → WorldIsReady new
item_ready old new at place value ready array live is =
    let none : class_of_object (find_cell old.world.cells at) ≡ None = array_is_no_object old.world.cells at array in
    let may : MayBeWritten old.world.cells program_code at place value = (live, λ class e. let f : Some class ≡ None = sym e ∙ none in absurd (cc)) in
    subst WorldIsReady (sym is) (record { lawful = writing_keeps old.world program_code at place value ready.lawful may; cells = ready.cells; out = ready.out })

pub printed_ready : (old new : WorldView) (bytes : List ℕ) (result : Result (Unit {0}) LimitKind) → WorldIsReady old →
    Charges (printed old.world bytes) Out old result new → new.world.limits ≡ old.world.limits → WorldIsReady new
printed_ready old new bytes (Ok done) ready g limits =
    still old new ready (print_keeps old.world new.world program_code bytes ready.lawful g.0) limits g.1
printed_ready old new bytes (Err limit) ready g limits = subst WorldIsReady (sym g.2) ready

-- a world of lawful cells with room for all is ready
with_cells : (cells : Heap) (view : WorldView) → IsLawful (tried_with cells) program_code → view.world ≡ tried_with cells →
    view.world.limits.cells ≤ view.cell_room → view.world.limits.out ≤ view.out_room → WorldIsReady view
with_cells cells view lawful w room out =
    record { lawful = subst (λ (v : World). IsLawful v program_code) (sym w) lawful; cells = room; out = out }

pub tried_ready : (view : WorldView) → view.world ≡ tried_with tried_cells → view.world.limits.cells ≤ view.cell_room →
    view.world.limits.out ≤ view.out_room → WorldIsReady view
tried_ready view w cells out = with_cells tried_cells view lawful_tried w cells out

pub empty_ready : (view : WorldView) → view.world ≡ tried_with [] → view.world.limits.cells ≤ view.cell_room →
    view.world.limits.out ≤ view.out_room → WorldIsReady view
empty_ready view w cells out = with_cells [] view lawful_empty w cells out

-- a ready world is lawful for the program
pub lawful_for : (view : WorldView) (code : CodeProgram) → WorldIsReady view → code ≡ program_code → IsLawful view.world code
lawful_for view code ready is = subst (λ (k : CodeProgram). IsLawful view.world k) (sym is) ready.lawful
