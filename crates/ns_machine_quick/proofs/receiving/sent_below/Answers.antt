use Rattle.std.proofs.Common.{◌∙◌, ap, sym, subst}
use Rattle.ns_world.specs.declared.kernel.ClassName.{ClassName}
use Rattle.ns_world.specs.declared.value.Value.{Value}
use Rattle.ns_world.specs.Lawful.{IsLiveValue}
use Rattle.ns_world.specs.Starts.{class_name_of}
use Rattle.ns_machine_quick.specs.Below.{sent_by}
use Rattle.ns_machine_quick.proofs.receiving.sent_below.Goals as goal

pub class_of-class-requires-clause-live : goal.class_of-class-requires-clause-live
class_of-class-requires-clause-live c =
    subst (λ (v : Value). IsLiveValue c.args.core.now.run.world.world.cells c.args.code.now v) (sym c.receiver_below-receiver.ensures) c.requires.can.live

pub returns : goal.returns
returns c =
    c.sent_by.ensures
    ∙ ap (λ (class : ClassName). sent_by c.args.at c.args.send.now class)
    (c.class_of-class.ensures ∙ ap (λ (v : Value). class_name_of c.args.core.now.run.world.world.cells v) c.receiver_below-receiver.ensures)
