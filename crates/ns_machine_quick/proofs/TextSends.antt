-- Sends to Strings.
use Rattle.std.proofs.Common.{◌≡◌, ap, sym, ◌∙◌, refl, true, Ok, Result}
use Rattle.ns_code.specs.declared.program.CodeProgram.{CodeProgram}
use Rattle.ns_world.specs.declared.kernel_class.KernelRow.TheVariants as class
use Rattle.ns_world.specs.declared.kernel_parts.DataRow.TheVariants.{TextSize, TextAt}
use Rattle.ns_world.specs.declared.kernel_row.Row.{Row}
use Rattle.ns_world.specs.declared.kernel_row.Row.TheVariants.{Data}
use Rattle.ns_world.specs.declared.cell.NewCell.{NewCell}
use Rattle.ns_world.specs.declared.cell.NewCell.TheVariants as new
use Rattle.ns_world.specs.declared.ending.Fault.{Fault}
use Rattle.ns_world.specs.declared.kernel.ClassName.TheVariants as name
use Rattle.ns_world.specs.declared.kernel.Start.TheVariants as start
use Rattle.ns_world.specs.declared.value.Value.{Value}
use Rattle.ns_world.specs.declared.value.Value.TheVariants as value
use Rattle.ns_world.specs.Heap.{Heap, shape_at}
use Rattle.ns_world.specs.Starts.{start_of, start_of_cell, class_name_of, class_name_at}
use Rattle.ns_world.specs.World.{World}
use Rattle.ns_find.specs.declared.found.Sending.{Sending}
use Rattle.ns_kdata.specs.Arguments.{is_text, is_text_shape}
use Rattle.ns_kdata.specs.Outcome.{Answers, unchanged}
use Rattle.ns_kdata.specs.Texts.{text_size, text_at}
use Rattle.ns_machine_plan.specs.Integers.{FindsThatRow}
use Rattle.ns_machine_core.specs.declared.state.Core.{Core}
use Rattle.ns_machine_sends.specs.declared.sent.Sent.{Sent}
use Rattle.ns_machine_quick.specs.Rows.{FindsRow, RowGives}
use Rattle.ns_machine_quick.proofs.IntegerSends.{class_finds}
use Rattle.ns_machine_quick.proofs.Valued.{data_gives}

-- ---- what is found

-- the lookup of a String starts at the rows of String
text_starts : (heap : Heap) (receiver : Value) → is_text heap receiver ≡ true → start_of heap receiver ≡ start.Kernel class.String
text_starts heap (value.Ref at) is = by_shape (shape_at heap at) is
  where
    by_shape : (cell : NewCell) → is_text_shape cell ≡ true → start_of_cell cell at ≡ start.Kernel class.String
    by_shape (new.Text bytes) is = refl
    by_shape (new.Array size) is = absurd (cc)
    by_shape (new.Object class words) is = absurd (cc)
    by_shape (new.Class decl base encl holder over) is = absurd (cc)
    by_shape (new.Block body env home receiver holder) is = absurd (cc)
    by_shape (new.Environment parent locals) is = absurd (cc)
    by_shape (new.Facet kind) is = absurd (cc)
    by_shape (new.Mirror mirrored) is = absurd (cc)
    by_shape (new.Message sel args) is = absurd (cc)
text_starts heap value.Nil is = absurd (cc)
text_starts heap value.True is = absurd (cc)
text_starts heap value.False is = absurd (cc)
text_starts heap (value.Int number) is = absurd (cc)
text_starts heap (value.Sym sel) is = absurd (cc)
text_starts heap (value.Kernel kernel) is = absurd (cc)

-- and that is its class
pub text_named : (heap : Heap) (receiver : Value) → is_text heap receiver ≡ true → name.Kernel class.String ≡ class_name_of heap receiver
text_named heap receiver is = ap (class_name_at heap) (sym (text_starts heap receiver is))

-- so it finds the row of String that its selector spells
pub text_finds : (code : CodeProgram) (core : Core) (sent : Sent) (receiver : Value) (kind : Sending) (row : Row) →
    is_text core.run.world.world.cells receiver ≡ true
    → FindsThatRow core.run.world.world.cells code class.String sent.site.sel kind row → FindsRow code core sent receiver kind row
text_finds code core sent receiver kind row is finds =
    class_finds code core sent receiver kind class.String row (text_starts core.run.world.world.cells receiver is) finds

-- ---- what it gives

pub size_given : (code : CodeProgram) (heap : Heap) (receiver first one : Value) → one ≡ text_size heap receiver →
    RowGives code heap (Data TextSize) receiver first one
size_given code heap receiver first one is =
    data_gives code heap TextSize receiver first one
    (λ (world : World) (second : Value) same. ap (λ (cells : Heap). Answers (text_size cells receiver) world) same ∙ ap (λ (v : Value). Answers v world) (sym is))

pub byte_given : (code : CodeProgram) (heap : Heap) (receiver first one : Value) → text_at heap receiver first ≡ Ok one →
    RowGives code heap (Data TextAt) receiver first one
byte_given code heap receiver first one is =
    data_gives code heap TextAt receiver first one
    (λ (world : World) (second : Value) same. ap (λ (cells : Heap). unchanged world (text_at cells receiver first)) same
    ∙ ap (λ (r : Result Value Fault). unchanged world r) is)
