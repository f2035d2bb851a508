use Rattle.std.proofs.Common.{arith}
use Rattle.ns_tree.specs.PlainOf.{clause_of}
use Rattle.ns_gen_draft.specs.Standing.{around_of}
use Rattle.ns_gen_records.specs.laws.Bodies.{one_inside}
use Rattle.ns_gen.proofs.Declarations.{head_put}
use Rattle.ns_gen.proofs.bodies.put_head_in.Goals as goal

pub returns-clause-put : goal.returns-clause-put
returns-clause-put c =
    head_put (around_of c.args.around.now) c.args.outer c.args.next.now (clause_of c.args.clause.now) c.in_ok-scope.scope c.args.output.now c.clause-2.new.self
    c.requires.outer c.in_ok-scope.ensures c.in_ok-clause.ensures

pub returns-clause-next : goal.returns-clause-next
returns-clause-next c =
    omega (one_inside c.args.around.now.classes.now (clause_of c.args.clause.now) c.requires.inside, c.in_ok-advance.ensures, arith)
