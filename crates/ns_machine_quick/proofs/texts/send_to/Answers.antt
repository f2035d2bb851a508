use Rattle.std.proofs.Common.{◌≡◌, Some, subst}
use Rattle.ns_world.specs.declared.kernel_parts.DataRow.{DataRow}
use Rattle.ns_world.specs.declared.kernel_parts.DataRow.TheVariants.{TextSize, TextAt}
use Rattle.ns_world.specs.declared.kernel_row.Row.TheVariants.{Data}
use Rattle.ns_machine_plan.specs.Arrays.{row_of_send}
use Rattle.ns_machine_quick.proofs.Spelled.{size_finds, at_finds}
use Rattle.ns_machine_quick.proofs.TextSends.{text_finds}
use Rattle.ns_machine_quick.proofs.texts.send_to.Goals as goal

pub send_read-requires-clause-finds : goal.send_read-requires-clause-finds
send_read-requires-clause-finds c =
    text_finds c.args.code.now c.args.core.now c.args.sent c.args.receiver c.args.kind (Data TextSize) c.requires.text
    (size_finds c.args.core.now.run.world.world.cells c.args.code.now c.args.sent.site.sel c.args.kind
    (subst (λ (row : DataRow). row_of_send c.args.code.now c.args.sent.site.sel ≡ Some row) c.in-ArraySize.is c.requires.row))

pub send_read-requires-in-ArrayAt-clause-finds : goal.send_read-requires-in-ArrayAt-clause-finds
send_read-requires-in-ArrayAt-clause-finds c =
    text_finds c.args.code.now c.args.core.now c.args.sent c.args.receiver c.args.kind (Data TextAt) c.requires.text
    (at_finds c.args.core.now.run.world.world.cells c.args.code.now c.args.sent.site.sel c.args.kind
    (subst (λ (row : DataRow). row_of_send c.args.code.now c.args.sent.site.sel ≡ Some row) c.in-ArrayAt.is c.requires.row))
