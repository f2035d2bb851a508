use Rattle.ns_resolved.specs.Classes as m
use Rattle.ns_gen_draft.specs.Standing.{around_of}
use Rattle.ns_gen.proofs.Declarations.{start_put, start_number}
use Rattle.ns_gen.proofs.bodies.put_initialiser.Goals as goal

pub returns-clause-put : goal.returns-clause-put
returns-clause-put c =
    start_put (around_of c.args.around.now) c.args.number c.args.next.now c.advance.new.number c.args.class.now c.in_ok-scope.scope
    c.args.output.now c.initialiser-2.new.self c.put_start_inside.new.output c.in_ok-scope.ensures c.in_ok-initialiser.ensures c.in_ok-advance.ensures
    c.in_ok-put_start_inside.ensures.put

pub returns-clause-next : goal.returns-clause-next
returns-clause-next c =
    start_number c.args.around.now.classes.now (m.standing (around_of c.args.around.now) c.in_ok-scope.scope c.args.number c.args.next.now)
    c.args.next.now c.advance.new.number c.put_start_inside.new.next c.args.class.now
    c.in_ok-scope.ensures c.in_ok-advance.ensures c.in_ok-put_start_inside.ensures.next
