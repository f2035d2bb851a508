use Rattle.std.proofs.Common.{◌≡◌, drop}
use Rattle.ns_find.specs.Members.{search}
use Rattle.ns_find.specs.Rows.{top_rows}
use Rattle.ns_find.proofs.kernel.top_named.Given as goal

abbrev pub invariant-classes : goal.invariant-classes
invariant-classes l =
    (l.number ≡ l.class-index)
    × (search l.code l.sel.0 l.fn.kind (top_rows l.world.world.cells l.manifest l.number (drop l.class-index l.class-items))
    ≡ search l.code l.sel.0 l.fn.kind (top_rows l.world.world.cells l.manifest 0 l.class-items))
