use Rattle.std.proofs.Common.{◌≡◌, ◌+◌, ◌≤◌, drop, length, map}
use Rattle.ns_world.specs.KernelTable.{numbered, first_called, row_called}
use Rattle.ns_world.specs.KernelShown.{shown}
use Rattle.ns_world.proofs.kernel_table.row_called.Given as goal

abbrev pub invariant-lines : goal.invariant-lines
invariant-lines l =
    (l.number + length l.line-items ≤ 81 + l.line-index)
    × (first_called l.text (numbered l.number (map shown (drop l.line-index l.line-items))) ≡ row_called l.fn.class l.text)
