use Rattle.std.proofs.Common.{ap}
use Rattle.ns_moves.specs.Bodies.{Place}
use Rattle.ns_machine_quick.proofs.Privately.{around_on, around_charges}
use Rattle.ns_machine_quick.proofs.private.send_around.Goals as goal

pub found_around-requires-clause-holder : goal.found_around-requires-clause-holder
found_around-requires-clause-holder c = ap (λ (p : Place). p.holder) c.requires.around

pub enter_around-requires-clause-receiver : goal.enter_around-requires-clause-receiver
enter_around-requires-clause-receiver c = ap (λ (p : Place). p.object) c.requires.around

pub get_around-requires-clause-receiver : goal.get_around-requires-clause-receiver
get_around-requires-clause-receiver c = ap (λ (p : Place). p.object) c.requires.around

pub set_around-requires-clause-receiver : goal.set_around-requires-clause-receiver
set_around-requires-clause-receiver c = ap (λ (p : Place). p.object) c.requires.around

pub returns-in-Method : goal.returns-in-Method
returns-in-Method c =
    rw c.led_on.ensures
    (around_on c.args.code.now c.args.core.now c.enter_around.new.core c.args.at c.args.sent c.args.running c.args.level c.enter_around.result c.enter_around.ensures)

pub returns-in-Getter : goal.returns-in-Getter
returns-in-Getter c =
    rw c.led_charged.ensures
    (around_charges c.args.code.now c.args.core.now c.get_around.new.core c.args.at c.args.sent c.args.running c.args.level c.get_around.result c.get_around.ensures)

pub returns-in-Setter : goal.returns-in-Setter
returns-in-Setter c =
    rw c.led_charged-in-Setter.ensures
    (around_charges c.args.code.now c.args.core.now c.set_around.new.core c.args.at c.args.sent c.args.running c.args.level c.set_around.result c.set_around.ensures)
