use Rattle.std.proofs.Common.{refl}
use Rattle.std.specs.Prelude.{None}
use Rattle.ns_tree.specs.PlainOf.{bars_of, statements_of}
use Rattle.ns_resolved.specs.Program as m
use Rattle.ns_gen_draft.specs.Standing.{standing}
use Rattle.ns_gen_bodies.proofs.Routines.{routine_put}
use Rattle.ns_gen_bodies.proofs.output.Output.method.Goals as goal

pub returns : goal.returns
returns c =
    routine_put (λ values steps. m.as_method values steps) 0 (standing c.args.here.now) None c.as_slice-params.result.now c.args.method.now.pattern.params.items
    (bars_of c.args.method.now.slots) (statements_of c.args.method.now.body) c.in_ok-first.first c.in_ok-parameters.parameters c.put_method_body.new.next c.in_ok-head.head
    c.clear.new.self c.put_method_body.new.writer _ c.args.self.now _ (λ values steps. refl) c.as_slice-params.ensures.value c.in_ok-first.ensures
    c.in_ok-parameters.ensures c.in_ok-put_method_body.ensures.next c.in_ok-head.ensures c.clear.ensures c.in_ok-put_method_body.ensures.put
    c.in_ok-put_code.ensures c.self.view_is
