use Rattle.ns_verify.specs.Verify as verifier
use Rattle.ns_snapshot_read.proofs.read.verified.Goals as goal

pub returns-in-Err : goal.returns-in-Err
returns-in-Err c = c.code_fault.ensures c.args.state c.args.code (verifier.fault_of c.args.code) c.in-Err.ensures.exact
