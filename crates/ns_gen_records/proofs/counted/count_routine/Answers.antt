use Rattle.ns_tree.specs.PlainOf.{bars_of, statements_of}
use Rattle.ns_gen_records.proofs.BlocksOf.{routine_counted}
use Rattle.ns_gen_records.proofs.counted.count_routine.Goals as goal

pub returns : goal.returns
returns c = λ scope.
    routine_counted scope (bars_of c.args.slots.now) (statements_of c.args.body.now) c.args.count.now c.count_bars.new.count c.count_statements.new.count
    (c.in_ok-count_bars.ensures scope) c.in_ok-count_statements.ensures
