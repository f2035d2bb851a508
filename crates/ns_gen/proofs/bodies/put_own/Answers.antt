use Rattle.ns_gen_draft.specs.Standing.{around_of}
use Rattle.ns_gen_records.specs.laws.Bodies.{own_number}
use Rattle.ns_gen.proofs.Declarations.{own_put}
use Rattle.ns_gen.proofs.bodies.put_own.Goals as goal

pub returns-clause-put : goal.returns-clause-put
returns-clause-put c =
    own_put (around_of c.args.around.now) c.args.number c.args.next.now c.put_initialiser.new.next c.put_side.new.next c.args.class.now
    c.args.output.now c.put_initialiser.new.output c.put_side.new.output c.put_class_side.new.output
    c.in_ok-put_initialiser.ensures.put c.in_ok-put_initialiser.ensures.next c.in_ok-put_side.ensures.put c.in_ok-put_side.ensures.next
    c.in_ok-put_class_side.ensures.put

pub returns-clause-next : goal.returns-clause-next
returns-clause-next c =
    own_number c.args.around.now.classes.now c.args.next.now c.put_initialiser.new.next c.put_side.new.next c.put_class_side.new.next c.args.class.now
    c.in_ok-put_initialiser.ensures.next c.in_ok-put_side.ensures.next c.in_ok-put_class_side.ensures.next
