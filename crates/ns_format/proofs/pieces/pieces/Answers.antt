use Rattle.ns_format.proofs.Steps.{part_loop, token_loop, fault_loop, end_loop}
use Rattle.ns_format.proofs.pieces.pieces.Goals as goal

pub pieces-preserved-in-Gap : goal.pieces-preserved-in-Gap
pieces-preserved-in-Gap c =
    let p = part_loop c.args.source.now c.rest_of-rest.result.now c.pieces.at c.in-Gap.n c.pieces.before c.in_ok-before-in-Gap.before c.in_ok-n.field-0 c.pieces.pieces.items c.put_part.new.pieces.items _
    c.pieces-test.true c.rest_of-rest.ensures c.in_ok-n.ensures.value c.in-Gap.is c.in_ok-n.ensures.within c.in_ok-before-in-Gap.ensures.behind c.in_ok-before-in-Gap.ensures.pieces c.pieces.invariant.cut in
    record { cut = p.0; within = p.1 }

pub pieces-preserved : goal.pieces-preserved
pieces-preserved c =
    let p = token_loop c.args.source.now c.rest_of-rest.result.now c.pieces.at c.in-Token.n c.in-Token.kind c.pieces.before c.in_ok-n.field-0 c.pieces.pieces.items c.put.new.pieces.items _
    c.pieces-test.true c.rest_of-rest.ensures c.in_ok-n.ensures.value c.in-Token.is c.in_ok-n.ensures.within c.in_ok-put-in-Token.ensures c.pieces.invariant.cut in
    record { cut = p.0; within = p.1 }

pub returns-in-Fault : goal.returns-in-Fault
returns-in-Fault c =
    fault_loop c.args.source.now c.rest_of-rest.result.now c.pieces.at c.in-Fault.field-1 c.in-Fault.field-0 c.pieces.before c.in_ok-n.field-0 c.pieces.pieces.items _
    c.pieces-test.true c.rest_of-rest.ensures c.in_ok-n.ensures.value c.in-Fault.is c.pieces.invariant.cut

pub returns : goal.returns
returns c = end_loop c.args.source.now c.pieces.at c.pieces.before c.pieces.pieces.items _ c.pieces-test.false c.pieces.invariant.cut
