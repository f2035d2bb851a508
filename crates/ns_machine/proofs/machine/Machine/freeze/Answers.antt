use Rattle.std.proofs.Common.{◌≡◌, subst, IfOk}
use Rattle.ns_frozen.specs.Freezing.{frozen_of}
use Rattle.ns_machine.specs.Machine.{MachineView}
use Rattle.ns_machine.proofs.Freezes.{unbegun_freezes}
use Rattle.ns_machine.proofs.machine.Machine.freeze.Goals as goal

pub returns-in-Unbegun : goal.returns-in-Unbegun
returns-in-Unbegun c =
    let m = c.self.inside in
    subst (λ (shown : MachineView). IfOk c.freeze_unbegun.result (λ frozen. frozen ≡ frozen_of shown.code shown.grants shown.state)) c.self.view_is
    (unbegun_freezes c.freeze_unbegun.result m.code m.grants m.core m.stage c.in-Unbegun.arguments c.in-Unbegun.is c.freeze_unbegun.ensures)
