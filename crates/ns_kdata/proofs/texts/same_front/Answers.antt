use Rattle.std.proofs.Common.{sym, ◌∙◌}
use Rattle.ns_kdata.specs.Arguments.{bytes_of}
use Rattle.ns_kdata.proofs.Comparing.{same_rows, front_on}
use Rattle.ns_kdata.proofs.texts.same_front.Goals as goal

pub rows-preserved : goal.rows-preserved
rows-preserved c =
    front_on (bytes_of c.args.world.now.world.cells c.args.text) (bytes_of c.args.world.now.world.cells c.args.other) c.rows.row c.rows.invariant
    (sym c.text_row.ensures ∙ (same_rows c.text_row.result c.text_row-in-rows.result (sym c.if-ne.ensures) ∙ c.text_row-in-rows.ensures))
