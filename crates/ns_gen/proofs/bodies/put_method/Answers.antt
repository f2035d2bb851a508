use Rattle.ns_gen_draft.specs.Standing.{around_of}
use Rattle.ns_gen.proofs.Declarations.{method_put, method_number}
use Rattle.ns_gen.proofs.bodies.put_method.Goals as goal

pub returns-clause-put : goal.returns-clause-put
returns-clause-put c =
    method_put (around_of c.args.around.now) c.args.side c.args.number c.args.next.now c.advance.new.number c.args.method.now c.in_ok-scope.scope
    c.args.output.now c.method-2.new.self c.put_routine_inside.new.output (rw c.as_slice-params.ensures.value at c.in_ok-scope.ensures) c.in_ok-method.ensures
    c.in_ok-advance.ensures c.in_ok-put_routine_inside.ensures.put

pub returns-clause-next : goal.returns-clause-next
returns-clause-next c =
    method_number c.args.around.now.classes.now c.args.side c.args.next.now c.advance.new.number c.put_routine_inside.new.next c.args.method.now
    c.in_ok-scope.scope (rw c.as_slice-params.ensures.value at c.in_ok-scope.ensures) c.in_ok-advance.ensures c.in_ok-put_routine_inside.ensures.next
