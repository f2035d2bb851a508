use Rattle.ns_machine_returns.proofs.Returned.{self_ends, self_returned}
use Rattle.ns_machine_returns.proofs.ending.return_self.Goals as goal

pub end_body-requires-clause-can : goal.end_body-requires-clause-can
end_body-requires-clause-can c = self_ends c.args.code.now c.args.core.now c.args.at c.running-frame.result c.requires.can c.running-frame.ensures

pub returns : goal.returns
returns c place =
    self_returned c.args.code.now c.args.core.now c.end_body.new.core c.args.at c.running-frame.result place c.end_body.result c.requires.can c.running-frame.ensures
    c.end_body.ensures
