use Rattle.std.proofs.Common.{◌≡◌, ◌+◌, ◌≤◌, drop, length, map}
use Rattle.ns_world.specs.KernelShown.{shown, listed}
use Rattle.ns_world.specs.KernelTable.{numbered}
use Rattle.ns_find.specs.Members.{search}
use Rattle.ns_find.specs.Rows.{rows_members}
use Rattle.ns_find.proofs.kernel.found_among.Given as goal

abbrev pub invariant-lines : goal.invariant-lines
invariant-lines l =
    (l.number + length l.line-items ≤ 81 + l.line-index)
    × (search l.code l.sel.0 l.kind (rows_members l.world.world.cells l.code (numbered l.number (map shown (drop l.line-index l.line-items))))
    ≡ search l.code l.sel.0 l.kind (rows_members l.world.world.cells l.code (listed l.fn.rows)))
