use Rattle.std.proofs.Common.{refl}
use Rattle.ns_tree.specs.PlainOf.{clause_of}
use Rattle.ns_resolved.specs.Program as m
use Rattle.ns_resolved.specs.Classes.{head_node}
use Rattle.ns_gen_draft.specs.Standing.{standing}
use Rattle.ns_gen_bodies.proofs.Routines.{clause_put}
use Rattle.ns_gen_bodies.proofs.output.Output.clause.Goals as goal

pub returns : goal.returns
returns c =
    clause_put (standing c.args.here.now) (clause_of c.args.clause.now) (m.as_clause (head_node (standing c.args.here.now) c.args.clause.now.head c.args.clause.now.over))
    c.in_ok-head.head c.clear.new.self c.put_clause.new.writer _ c.args.self.now _ refl refl c.in_ok-head.ensures c.clear.ensures c.in_ok-put_clause.ensures
    c.in_ok-put_code.ensures c.self.view_is
