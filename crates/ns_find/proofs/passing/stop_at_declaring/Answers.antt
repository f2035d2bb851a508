use Rattle.ns_find.proofs.Declaring.{passed_on_side}
use Rattle.ns_find.proofs.passing.stop_at_declaring.Goals as goal

pub returns-in-Class-clause-passed : goal.returns-in-Class-clause-passed
returns-in-Class-clause-passed c heap kind =
    rw c.in-Class.is
    (passed_on_side heap c.args.code.now c.args.sel.0 kind c.args.passed.now c.stop_at.new.passed c.with_side_method.result.now
    c.with_side_method.ensures c.stop_at.ensures.flags)

pub returns-in-Instance-clause-passed : goal.returns-in-Instance-clause-passed
returns-in-Instance-clause-passed c heap kind = rw c.in-Instance.is (c.stop_on_instances.ensures.passed heap kind)
