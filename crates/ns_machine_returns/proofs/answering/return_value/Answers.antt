use Rattle.ns_machine_core.specs.declared.state.Next.TheVariants as next
use Rattle.ns_machine_returns.proofs.Returned.{value_ends, value_returned, value_returned_twice}
use Rattle.ns_machine_returns.proofs.answering.return_value.Goals as goal

pub end_body-requires : goal.end_body-requires
end_body-requires c =
    value_ends c.args.code.now c.args.core.now c.args.at c.pop-value.result.1 c.running-frame.result c.pop-value.result.0 c.requires c.running-frame.ensures
    c.pop-value.ensures.stood c.pop-value.ensures.laid

pub returns-in-On : goal.returns-in-On
returns-in-On c place =
    value_returned c.args.code.now c.args.core.now c.end_body.new.core c.args.at c.pop-value.result.1 c.running-frame.result c.pop-value.result.0 place (next.On c.in-On.to)
    c.requires c.running-frame.ensures c.pop-value.ensures.stood c.in-On.ensures

pub returns-in-Answered : goal.returns-in-Answered
returns-in-Answered c place =
    value_returned_twice c.args.code.now c.args.core.now c.end_body.new.core c.args.at c.pop-value.result.1 c.running-frame.result c.pop-value.result.0 place
    (next.On c.in-Answered.to) c.requires c.running-frame.ensures c.pop-value.ensures.stood c.in-Answered.ensures
