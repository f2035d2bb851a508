use Rattle.ns_machine_core.specs.declared.state.Next.TheVariants as next
use Rattle.ns_machine_returns.proofs.Returned.{self_ends, self_returned, self_returned_twice}
use Rattle.ns_machine_returns.proofs.answering.return_self.Goals as goal

pub end_body-requires : goal.end_body-requires
end_body-requires c = self_ends c.args.code.now c.args.core.now c.args.at c.running-frame.result c.requires c.running-frame.ensures

pub returns-in-On : goal.returns-in-On
returns-in-On c place =
    self_returned c.args.code.now c.args.core.now c.end_body.new.core c.args.at c.running-frame.result place (next.On c.in-On.to) c.requires c.running-frame.ensures
    c.in-On.ensures

pub returns-in-Answered : goal.returns-in-Answered
returns-in-Answered c place =
    self_returned_twice c.args.code.now c.args.core.now c.end_body.new.core c.args.at c.running-frame.result place (next.On c.in-Answered.to) c.requires
    c.running-frame.ensures c.in-Answered.ensures
