use Rattle.std.proofs.Common.{refl}
use Rattle.ns_test.proofs.tests.run_tests.Goals as goal

pub returns-in-Err : goal.returns-in-Err
returns-in-Err c = c.in-Err.ensures.fault c.in-Err.fault refl c.args.reversed _
