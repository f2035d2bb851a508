use Rattle.ns_machine_core.specs.declared.state.Next.TheVariants.{On}
use Rattle.ns_machine_quick.proofs.BooleanSends.{answers_so}
use Rattle.ns_machine_quick.proofs.booleans.answer.Goals as goal

pub returns : goal.returns
returns c activation =
    answers_so c.args.code.now c.args.core.now c.args.at c.args.sent c.args.receiver c.args.method c.args.kind c.args.value c.give.new.core (On c.give.result)
    activation c.requires.can c.requires.finds c.requires.loops c.requires.answers (c.give.ensures c.args.sent.site)
