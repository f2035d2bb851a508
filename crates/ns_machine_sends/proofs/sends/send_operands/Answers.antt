use Rattle.std.proofs.Common.{◌+◌, ◌-◌, ℕ, ap, sym, subst, arith}
use Rattle.ns_moves.specs.Sends.{To}
use Rattle.ns_machine_frames.specs.declared.registers.Registers.{Registers}
use Rattle.ns_machine_frames.specs.Stack.{stood}
use Rattle.ns_machine_sends.specs.Sending.{CanSend, sent_at, Sends}
use Rattle.ns_machine_sends.specs.Operands.{SendsOperands, SendsToTop}
use Rattle.ns_machine_sends.specs.laws.Received.{receiver_live, can_send, sends_to_top}
use Rattle.ns_machine_sends.proofs.sends.send_operands.Goals as goal

pub class_of-class-requires-clause-live : goal.class_of-class-requires-clause-live
class_of-class-requires-clause-live c =
    receiver_live c.args.code.now c.args.core.now c.args.at c.args.sel c.from.result
    (subst (λ (n : ℕ). SendsOperands c.args.code.now c.args.core.now c.args.at c.args.sel n (n + 1)) (sym c.from.ensures) c.requires.is)
    c.pop-receiver.result.0 (stood c.args.core.now.stack c.pop-receiver.result.1) c.pop-receiver.ensures.stood

pub send_to-requires-clause-can : goal.send_to-requires-clause-can
send_to-requires-clause-can c =
    let few = c.ranges.argc.fits in
    let same = c.from.ensures in
    subst (λ (floor : ℕ). CanSend c.args.code.now c.args.core.now c.args.at
    (record { site = record { place = c.args.place; class = c.class_of-class.result; sel = c.args.sel }; floor = floor; first = c.args.at.top - c.from.result })
    c.pop-receiver.result.0)
    (sym (ap (λ (r : Registers). r.top) c.pop-receiver.ensures.at))
    (can_send c.args.code.now c.args.core.now c.args.at c.args.sel c.from.result
    (subst (λ (n : ℕ). SendsOperands c.args.code.now c.args.core.now c.args.at c.args.sel n (n + 1)) (sym c.from.ensures) c.requires.is)
    c.pop-receiver.result.0 (stood c.args.core.now.stack c.pop-receiver.result.1) c.pop-receiver.ensures.stood (omega (arith, few, same)) c.args.place
    c.class_of-class.result c.class_of-class.ensures)

pub returns : goal.returns
returns c =
    subst (λ (n : ℕ). SendsToTop c.args.code.now c.args.core.now c.args.at c.args.sel n c.args.place c.args.kind c.send_to.new.core c.send_to.result) c.from.ensures
    (sends_to_top c.args.code.now c.args.core.now c.args.at c.args.sel c.from.result
    (subst (λ (n : ℕ). SendsOperands c.args.code.now c.args.core.now c.args.at c.args.sel n (n + 1)) (sym c.from.ensures) c.requires.is)
    c.pop-receiver.result.0 (stood c.args.core.now.stack c.pop-receiver.result.1) c.pop-receiver.ensures.stood c.args.place c.class_of-class.result c.args.kind
    c.send_to.new.core c.send_to.result (ap (λ (r : Registers). stood c.args.core.now.stack r) c.pop-receiver.ensures.at)
    (λ activation.
    subst (λ (floor : ℕ). Sends c.args.code.now c.args.core.now c.args.at floor
    (sent_at c.args.code.now c.args.core.now c.args.at
    (record { site = record { place = c.args.place; class = c.class_of-class.result; sel = c.args.sel }; floor = floor; first = c.args.at.top - c.from.result })
    activation (To c.pop-receiver.result.0 c.args.kind)) c.send_to.new.core c.send_to.result)
    (ap (λ (r : Registers). r.top) c.pop-receiver.ensures.at) (c.send_to.ensures activation)))
