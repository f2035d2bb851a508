-- Sends to Integers.
use Rattle.std.proofs.Common.{◌≡◌, ap, sym, ◌∙◌, refl, true}
use Rattle.ns_code.specs.declared.program.CodeProgram.{CodeProgram}
use Rattle.ns_world.specs.declared.kernel.ClassName.TheVariants as name
use Rattle.ns_world.specs.declared.kernel_class.KernelRow.{KernelRow}
use Rattle.ns_world.specs.declared.kernel_class.KernelRow.TheVariants as class
use Rattle.ns_world.specs.declared.kernel.Start.{Start}
use Rattle.ns_world.specs.declared.kernel.Start.TheVariants as start
use Rattle.ns_world.specs.declared.value.Value.{Value}
use Rattle.ns_world.specs.declared.value.Value.TheVariants as value
use Rattle.ns_world.specs.Heap.{Heap}
use Rattle.ns_world.specs.Starts.{start_of, class_name_of, class_name_at}
use Rattle.ns_find.specs.declared.found.Sending.{Sending}
use Rattle.ns_find.specs.Find.{found_from}
use Rattle.ns_world.specs.declared.kernel_parts.IntRow.{IntRow}
use Rattle.ns_machine_plan.specs.Integers.{FindsThatRow, FindsInteger}
use Rattle.ns_world.specs.declared.kernel_row.Row.{Row}
use Rattle.ns_world.specs.declared.kernel_row.Row.TheVariants.{Integer}
use Rattle.ns_moves.specs.Blocks.{is_integer}
use Rattle.ns_machine_core.specs.declared.state.Core.{Core}
use Rattle.ns_machine_sends.specs.declared.sent.Sent.{Sent}
use Rattle.ns_machine_quick.specs.Rows.{FindsRow}

-- the lookup of an Integer starts at the rows of Integer
integer_starts : (heap : Heap) (receiver : Value) → is_integer receiver ≡ true → start_of heap receiver ≡ start.Kernel class.Integer
integer_starts heap (value.Int number) is = refl
integer_starts heap value.Nil is = absurd (cc)
integer_starts heap value.True is = absurd (cc)
integer_starts heap value.False is = absurd (cc)
integer_starts heap (value.Sym sel) is = absurd (cc)
integer_starts heap (value.Kernel kernel) is = absurd (cc)
integer_starts heap (value.Ref at) is = absurd (cc)

-- and that is its class
pub integer_named : (heap : Heap) (receiver : Value) → is_integer receiver ≡ true → name.Kernel class.Integer ≡ class_name_of heap receiver
integer_named heap receiver is = ap (class_name_at heap) (sym (integer_starts heap receiver is))

-- so it finds the row that its selector spells
pub class_finds : (code : CodeProgram) (core : Core) (sent : Sent) (receiver : Value) (kind : Sending) (rows : KernelRow) (row : Row)
    → start_of core.run.world.world.cells receiver ≡ start.Kernel rows → FindsThatRow core.run.world.world.cells code rows sent.site.sel kind row
    → FindsRow code core sent receiver kind row
class_finds code core sent receiver kind rows row starts finds = record {
  number = finds.number;
  found = ap (λ (s : Start). found_from core.run.world.world.cells code s sent.site.sel.0 kind) starts ∙ finds.found;
  row_is = finds.row_is;
}

pub integer_finds : (code : CodeProgram) (core : Core) (sent : Sent) (receiver : Value) (kind : Sending) (row : IntRow) →
    is_integer receiver ≡ true
    → FindsInteger core.run.world.world.cells code sent.site.sel kind row → FindsRow code core sent receiver kind (Integer row)
integer_finds code core sent receiver kind row is finds =
    class_finds code core sent receiver kind class.Integer (Integer row) (integer_starts core.run.world.world.cells receiver is) finds
