-- Sends to Arrays.
use Rattle.std.proofs.Common.{◌≡◌, ap, sym, ◌∙◌, refl, true, Ok, Result}
use Rattle.ns_code.specs.declared.program.CodeProgram.{CodeProgram}
use Rattle.ns_world.specs.declared.kernel_class.KernelRow.TheVariants as class
use Rattle.ns_world.specs.declared.kernel_parts.DataRow.{DataRow}
use Rattle.ns_world.specs.declared.kernel_parts.DataRow.TheVariants.{ArraySize, ArrayAt}
use Rattle.ns_world.specs.declared.kernel_row.Row.TheVariants.{Data}
use Rattle.ns_world.specs.declared.cell.NewCell.{NewCell}
use Rattle.ns_world.specs.declared.cell.NewCell.TheVariants as new
use Rattle.ns_world.specs.declared.ending.Fault.{Fault}
use Rattle.ns_world.specs.declared.kernel.ClassName.TheVariants as name
use Rattle.ns_world.specs.declared.kernel.Start.TheVariants as start
use Rattle.ns_world.specs.declared.value.Value.{Value}
use Rattle.ns_world.specs.declared.value.Value.TheVariants as value
use Rattle.ns_world.specs.Heap.{Heap, shape_at}
use Rattle.ns_world.specs.Starts.{start_of, start_of_cell, class_name_of, class_name_at}
use Rattle.ns_world.specs.World.{World}
use Rattle.ns_find.specs.declared.found.Sending.{Sending}
use Rattle.ns_kdata.specs.Arguments.{is_array, is_array_shape}
use Rattle.ns_kdata.specs.Outcome.{RowOutcome, Answers, unchanged}
use Rattle.ns_kdata.specs.Rows.{array_size, array_at}
use Rattle.ns_machine_plan.specs.Arrays.{FindsArray}
use Rattle.ns_machine_core.specs.declared.state.Core.{Core}
use Rattle.ns_machine_sends.specs.declared.sent.Sent.{Sent}
use Rattle.ns_machine_quick.specs.Rows.{FindsRow, RowGives}
use Rattle.ns_machine_quick.proofs.IntegerSends.{class_finds}
use Rattle.ns_machine_quick.proofs.Valued.{data_gives}

-- ---- what is found

-- the lookup of an Array starts at the rows of Array
array_starts : (heap : Heap) (receiver : Value) → is_array heap receiver ≡ true → start_of heap receiver ≡ start.Kernel class.Array
array_starts heap (value.Ref at) is = by_shape (shape_at heap at) is
  where
    by_shape : (cell : NewCell) → is_array_shape cell ≡ true → start_of_cell cell at ≡ start.Kernel class.Array
    by_shape (new.Array size) is = refl
    by_shape (new.Object class words) is = absurd (cc)
    by_shape (new.Class decl base encl holder over) is = absurd (cc)
    by_shape (new.Block body env home receiver holder) is = absurd (cc)
    by_shape (new.Environment parent locals) is = absurd (cc)
    by_shape (new.Text bytes) is = absurd (cc)
    by_shape (new.Facet kind) is = absurd (cc)
    by_shape (new.Mirror mirrored) is = absurd (cc)
    by_shape (new.Message sel args) is = absurd (cc)
array_starts heap value.Nil is = absurd (cc)
array_starts heap value.True is = absurd (cc)
array_starts heap value.False is = absurd (cc)
array_starts heap (value.Int number) is = absurd (cc)
array_starts heap (value.Sym sel) is = absurd (cc)
array_starts heap (value.Kernel kernel) is = absurd (cc)

-- and that is its class
pub array_named : (heap : Heap) (receiver : Value) → is_array heap receiver ≡ true → name.Kernel class.Array ≡ class_name_of heap receiver
array_named heap receiver is = ap (class_name_at heap) (sym (array_starts heap receiver is))

-- so it finds the row that its selector spells
pub array_finds : (code : CodeProgram) (core : Core) (sent : Sent) (receiver : Value) (kind : Sending) (row : DataRow) →
    is_array core.run.world.world.cells receiver ≡ true
    → FindsArray core.run.world.world.cells code sent.site.sel kind row → FindsRow code core sent receiver kind (Data row)
array_finds code core sent receiver kind row is finds =
    class_finds code core sent receiver kind class.Array (Data row) (array_starts core.run.world.world.cells receiver is) finds

-- ---- what it gives

pub size_given : (code : CodeProgram) (heap : Heap) (receiver first one : Value) → one ≡ array_size heap receiver →
    RowGives code heap (Data ArraySize) receiver first one
size_given code heap receiver first one is =
    data_gives code heap ArraySize receiver first one
    (λ (world : World) (second : Value) same. ap (λ (cells : Heap). Answers (array_size cells receiver) world) same ∙ ap (λ (v : Value). Answers v world) (sym is))

pub element_given : (code : CodeProgram) (heap : Heap) (receiver first one : Value) → array_at heap receiver first ≡ Ok one →
    RowGives code heap (Data ArrayAt) receiver first one
element_given code heap receiver first one is =
    data_gives code heap ArrayAt receiver first one
    (λ (world : World) (second : Value) same. ap (λ (cells : Heap). unchanged world (array_at cells receiver first)) same
    ∙ ap (λ (r : Result Value Fault). unchanged world r) is)
