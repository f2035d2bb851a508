use Rattle.ns_machine_returns.proofs.Returned.{value_ends, value_returned}
use Rattle.ns_machine_returns.proofs.ending.return_value.Goals as goal

pub end_body-requires-clause-can : goal.end_body-requires-clause-can
end_body-requires-clause-can c =
    value_ends c.args.code.now c.args.core.now c.args.at c.pop-value.result.1 c.running-frame.result c.pop-value.result.0 c.requires.can c.running-frame.ensures
    c.pop-value.ensures.stood c.pop-value.ensures.laid

pub returns : goal.returns
returns c place =
    value_returned c.args.code.now c.args.core.now c.end_body.new.core c.args.at c.pop-value.result.1 c.running-frame.result c.pop-value.result.0 place c.end_body.result
    c.requires.can c.running-frame.ensures c.pop-value.ensures.stood c.end_body.ensures
