use Rattle.ns_lex.specs.laws.Cutting.{scan_lexes, scan_stops}
use Rattle.ns_lex.specs.laws.Steps.{gap_loop, token_loop, fault_loop, end_loop, later, one_more, token_grows}
use Rattle.std.proofs.Common.{ap, sym, subst, ◌+◌, ◌∙◌, Err, arith}
use Rattle.ns_lex.specs.Scan.{InOrder}
use Rattle.ns_lex.proofs.scan.lex.Goals as goal

pub pieces-preserved-in-Gap : goal.pieces-preserved-in-Gap
pieces-preserved-in-Gap c =
    let p = gap_loop c.args.source.now c.rest_of.result.now c.pieces.at c.in-Gap.n c.in_ok-n.field-0 c.pieces.tokens.items _ c.pieces-test.true c.rest_of.ensures c.in_ok-n.ensures.value c.in-Gap.is c.in_ok-n.ensures.within c.pieces.invariant.scanned c.pieces.invariant.count in
    record { scanned = p.0; within = p.1; in_order = later 0 c.pieces.at (c.pieces.at + c.in-Gap.n) c.pieces.tokens.items (omega arith) c.pieces.invariant.in_order; count = p.2 }

pub pieces-preserved : goal.pieces-preserved
pieces-preserved c =
    let p = token_loop c.args.source.now c.rest_of.result.now c.pieces.at c.in-Token.n c.in-Token.kind c.in_ok-n.field-0 c.pieces.tokens.items c.push.new.self.items _ c.pieces-test.true c.rest_of.ensures c.in_ok-n.ensures.value c.in-Token.is c.in_ok-n.ensures.within c.in_ok-push-in-Token.ensures.items c.pieces.invariant.scanned c.pieces.invariant.count in
    record { scanned = p.0; within = p.1; in_order = subst (InOrder 0 (c.pieces.at + c.in-Token.n)) (sym c.in_ok-push-in-Token.ensures.items) (one_more 0 c.pieces.at (c.pieces.at + c.in-Token.n) c.pieces.tokens.items (record { kind = c.in-Token.kind; start = c.pieces.at; «end» = c.pieces.at + c.in-Token.n }) c.pieces.invariant.in_order (omega arith) (token_grows _ c.pieces.at c.in_ok-n.field-0 c.in-Token.kind c.in-Token.n c.in-Token.is c.in_ok-n.ensures.within) (omega arith)); count = p.2 }

pub returns-in-Fault-clause-exact : goal.returns-in-Fault-clause-exact
returns-in-Fault-clause-exact c = λ _. fault_loop c.args.source.now c.rest_of.result.now c.pieces.at c.in-Fault.n c.in-Fault.cause c.in_ok-n.field-0 c.pieces.tokens.items _ c.pieces-test.true c.rest_of.ensures c.in_ok-n.ensures.value c.in-Fault.is c.pieces.invariant.scanned ∙ ap Err (sym c.fault_at.ensures)

pub returns-clause-exact : goal.returns-clause-exact
returns-clause-exact c = end_loop c.args.source.now c.pieces.at c.pieces.tokens.items _ c.pieces-test.false c.pieces.invariant.scanned

pub returns-clause-cuts : goal.returns-clause-cuts
returns-clause-cuts c = scan_lexes c.args.source.now c.pieces.tokens.items (end_loop c.args.source.now c.pieces.at c.pieces.tokens.items _ c.pieces-test.false c.pieces.invariant.scanned)

pub returns-in-Fault-clause-cuts : goal.returns-in-Fault-clause-cuts
returns-in-Fault-clause-cuts c =
    scan_stops c.args.source.now c.fault_at.result (fault_loop c.args.source.now c.rest_of.result.now c.pieces.at c.in-Fault.n c.in-Fault.cause c.in_ok-n.field-0 c.pieces.tokens.items _ c.pieces-test.true c.rest_of.ensures c.in_ok-n.ensures.value c.in-Fault.is c.pieces.invariant.scanned ∙ ap Err (sym c.fault_at.ensures))
