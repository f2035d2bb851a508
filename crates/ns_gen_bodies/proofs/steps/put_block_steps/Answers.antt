use Rattle.std.proofs.Common.{◌∙◌, arith}
use Rattle.ns_gen_draft.specs.Standing.{standing}
use Rattle.ns_gen_bodies.proofs.Stepping.{some_steps}
use Rattle.ns_gen_bodies.proofs.steps.put_block_steps.Goals as goal

pub returns-in_ok-put_steps-in-len1-up-clause-put : goal.returns-in_ok-put_steps-in-len1-up-clause-put
returns-in_ok-put_steps-in-len1-up-clause-put c =
    c.in_ok-put_steps-in-len1-up.ensures.put ∙ some_steps (standing c.args.here.now) c.args.next.now c.args.list.now c.args.writer.now (omega arith)
