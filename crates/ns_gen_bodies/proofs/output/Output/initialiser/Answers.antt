use Rattle.ns_gen_draft.specs.Standing.{standing}
use Rattle.ns_gen_bodies.proofs.Routines.{start_put}
use Rattle.ns_gen_bodies.proofs.output.Output.initialiser.Goals as goal

pub returns : goal.returns
returns c =
    start_put (standing c.args.here.now) c.args.class.now c.factory_params-params.result.now c.in_ok-first.first c.put_initialiser.new.next c.in_ok-head.head
    c.clear.new.self c.put_initialiser.new.writer _ c.args.self.now _ c.factory_params-params.ensures c.in_ok-first.ensures
    c.in_ok-put_initialiser.ensures.next c.in_ok-head.ensures c.clear.ensures c.in_ok-put_initialiser.ensures.put
    c.in_ok-put_code.ensures c.self.view_is
