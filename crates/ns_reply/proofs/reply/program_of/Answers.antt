use Rattle.ns_reply.proofs.Sizes.{too_large, written}
use Rattle.ns_reply.proofs.reply.program_of.Goals as goal

pub returns-in-Ok-clause-bytes : goal.returns-in-Ok-clause-bytes
returns-in-Ok-clause-bytes c =
    written c.write_snapshot.result c.code.result.now c.in-Ok.frozen c.args.machine.now c.code.ensures.code c.in-Ok.ensures
    c.write_snapshot.ensures.bytes c.write_snapshot.ensures.within

pub returns-in-Ok-clause-large : goal.returns-in-Ok-clause-large
returns-in-Ok-clause-large c = λ is_large.
    too_large c.code.result.now c.in-Ok.frozen c.args.machine.now c.code.ensures.code c.in-Ok.ensures (c.write_snapshot.ensures.large is_large)
