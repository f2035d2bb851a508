use Rattle.std.proofs.Common.{sym}
use Rattle.ns_machine_core.specs.declared.state.Next.TheVariants as next
use Rattle.ns_machine_returns.proofs.HomeReturned.{can_unwind, home_returned}
use Rattle.ns_machine_returns.proofs.unwinding.return_home.Goals as goal

pub unwind-requires : goal.unwind-requires
unwind-requires c =
    can_unwind c.args.code.now c.args.core.now c.args.at c.pop-value.result.1 c.running-home.result.activation.home c.in-Some.count c.pop-value.result.0 c.requires
    c.pop-value.ensures.stood c.pop-value.ensures.laid (sym c.in-Some.ensures)

pub returns-in-Some-unwind : goal.returns-in-Some-unwind
returns-in-Some-unwind c place =
    home_returned c.returns_unwind.ensures.finds c.args.code.now c.args.core.now c.unwind.new.core c.args.at c.pop-value.result.1 c.running-home.result c.in-Some.count
    c.pop-value.result.0 place (next.On c.in-Some-unwind.to) c.requires c.running-home.ensures c.pop-value.ensures.stood (sym c.in-Some.ensures) c.in-Some-unwind.ensures
