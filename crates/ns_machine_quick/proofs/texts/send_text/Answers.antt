use Rattle.ns_machine_core.specs.declared.state.Next.TheVariants as next
use Rattle.ns_machine_sends.specs.laws.Received.{kind_does}
use Rattle.ns_machine_quick.proofs.texts.send_text.Goals as goal

pub returns-in-Some : goal.returns-in-Some
returns-in-Some c = record {
  does = kind_does c.operands_are_taken.ensures.taken c.args.code.now c.args.core.now c.send_operands.new.core c.args.at c.args.sel c.args.argc c.args.place
      c.args.kind (next.On c.in-Some.to) c.requires.can c.in-Some.ensures.0;
  stays = c.in-Some.ensures.1;
}
