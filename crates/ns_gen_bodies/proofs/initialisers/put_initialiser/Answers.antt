use Rattle.std.specs.Prelude.{option_map}
use Rattle.ns_tree.specs.PlainOf.{clause_of, bars_of, statements_of}
use Rattle.ns_gen_draft.specs.Standing.{standing}
use Rattle.ns_gen_bodies.proofs.Starting.{start_done}
use Rattle.ns_gen_bodies.proofs.initialisers.put_initialiser.Goals as goal

pub returns-clause-put : goal.returns-clause-put
returns-clause-put c =
    start_done (standing c.args.here.now) c.args.next.now c.put_start.new.next c.put_bars.new.next c.args.name.now (option_map clause_of c.args.clause.now)
    (bars_of c.args.slots.now) (statements_of c.args.body.now) c.args.writer.now c.put_start.new.writer c.put_bars.new.writer
    c.put_expressions.new.writer c.in_ok-put_start.ensures.put c.in_ok-put_start.ensures.next c.in_ok-put_bars.ensures.put
    c.in_ok-put_bars.ensures.next c.in_ok-put_expressions.ensures.put
