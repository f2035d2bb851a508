use Rattle.std.proofs.Common.{◌∙◌, ap, arith}
use Rattle.std.specs.Prelude.{is_none}
use Rattle.ns_tree.specs.PlainOf.{clause_of}
use Rattle.ns_gen_draft.specs.Standing.{around_of}
use Rattle.ns_gen_records.specs.laws.Bodies.{none_outside}
use Rattle.ns_gen.proofs.Declarations.{no_head_put}
use Rattle.ns_gen.proofs.bodies.put_head.Goals as goal

pub returns-in-None-clause-put : goal.returns-in-None-clause-put
returns-in-None-clause-put c =
    no_head_put (around_of c.args.around.now) c.args.next.now (clause_of c.args.clause.now) c.args.output.now c.in-None.is

pub returns-in-None-clause-next : goal.returns-in-None-clause-next
returns-in-None-clause-next c =
    omega (none_outside c.args.around.now.classes.now (clause_of c.args.clause.now) (c.requires ∙ ap is_none c.in-None.is), arith)
