use Rattle.std.proofs.Common.{refl}
use Rattle.std.specs.Prelude.{Some}
use Rattle.ns_tree.specs.PlainOf.{bars_of, statements_of}
use Rattle.ns_resolved.specs.Program as m
use Rattle.ns_gen_draft.specs.Standing.{standing}
use Rattle.ns_gen_bodies.proofs.Routines.{routine_put}
use Rattle.ns_gen_bodies.proofs.output.Output.block.Goals as goal

pub returns : goal.returns
returns c =
    routine_put (λ values steps. m.as_block values steps) 1 (standing c.args.here.now) (Some c.args.parent) c.args.params.now c.args.params.now
    (bars_of c.args.slots.now) (statements_of c.args.body.now) c.in_ok-first.first c.in_ok-parameters.parameters c.put_block_body.new.next c.in_ok-head.head
    c.clear.new.self c.put_block_body.new.writer _ c.args.self.now _ (λ values steps. refl) refl c.in_ok-first.ensures
    c.in_ok-parameters.ensures c.in_ok-put_block_body.ensures.next c.in_ok-head.ensures c.clear.ensures c.in_ok-put_block_body.ensures.put
    c.in_ok-put_code.ensures c.self.view_is
