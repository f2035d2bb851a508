use Rattle.ns_machine_core.specs.declared.state.Next.TheVariants.{On}
use Rattle.ns_machine_quick.proofs.Keeping.{class_sends}
use Rattle.ns_machine_quick.proofs.nested.give_class.Goals as goal

pub returns : goal.returns
returns c =
    class_sends c.args.code.now c.args.core.now c.give.new.core c.args.at c.args.sent c.args.receiver c.args.class (On c.give.result)
    c.requires.can (c.give.ensures c.args.sent.site)
