use Rattle.std.proofs.Common.{◌≡◌, ◌+◌, ◌-◌, ℕ, ap, sym, subst, arith, true}
use Rattle.ns_world.specs.declared.kernel.ClassName.{ClassName}
use Rattle.ns_world.specs.declared.kernel.ClassName.TheVariants as name
use Rattle.ns_world.specs.declared.kernel_class.KernelRow.TheVariants as class
use Rattle.ns_world.specs.Booleans.{is_boolean}
use Rattle.ns_moves.specs.Sends.{To}
use Rattle.ns_machine_frames.specs.declared.registers.Registers.{Registers}
use Rattle.ns_machine_frames.specs.Stack.{stood}
use Rattle.ns_machine_core.specs.declared.state.Next.TheVariants as next
use Rattle.ns_machine_sends.specs.Operands.{SendsOperands, SendsToTop}
use Rattle.ns_machine_sends.specs.Sending.{CanSend, sent_at, Sends}
use Rattle.ns_machine_sends.specs.laws.Received.{can_send, sends_to_top}
use Rattle.ns_machine_quick.specs.Booleans.{AnswersAt, AnswersToTop}
use Rattle.ns_machine_quick.proofs.BooleanSends.{boolean_named}
use Rattle.ns_machine_quick.proofs.Received.{answers_to_top}
use Rattle.ns_machine_quick.proofs.booleans.send_operands.Goals as goal

abbrev booleans : ClassName
booleans = name.Kernel class.Boolean

pub send_to-requires-clause-can : goal.send_to-requires-clause-can
send_to-requires-clause-can c =
    let few = c.ranges.argc.fits in
    let same = c.from.ensures in
    let is : is_boolean c.pop-receiver.result.0 ≡ true = cc (c.is_boolean.ensures, c.if-not-is_boolean.false) in
    subst (λ (floor : ℕ). CanSend c.args.code.now c.args.core.now c.args.at
    (record { site = record { place = c.args.place; class = booleans; sel = c.args.sel }; floor = floor; first = c.args.at.top - c.from.result })
    c.pop-receiver.result.0)
    (sym (ap (λ (r : Registers). r.top) c.pop-receiver.ensures.at))
    (can_send c.args.code.now c.args.core.now c.args.at c.args.sel c.from.result
    (subst (λ (n : ℕ). SendsOperands c.args.code.now c.args.core.now c.args.at c.args.sel n (n + 1)) (sym c.from.ensures) c.requires.operands)
    c.pop-receiver.result.0 (stood c.args.core.now.stack c.pop-receiver.result.1) c.pop-receiver.ensures.stood (omega (arith, few, same)) c.args.place
    booleans (boolean_named c.args.core.now.run.world.world.cells c.pop-receiver.result.0 is))

pub returns-in-On : goal.returns-in-On
returns-in-On c =
    subst (λ (n : ℕ). SendsToTop c.args.code.now c.args.core.now c.args.at c.args.sel n c.args.place c.args.kind c.send_to.new.core (next.On c.in-On.to)) c.from.ensures
    (sends_to_top c.args.code.now c.args.core.now c.args.at c.args.sel c.from.result
    (subst (λ (n : ℕ). SendsOperands c.args.code.now c.args.core.now c.args.at c.args.sel n (n + 1)) (sym c.from.ensures) c.requires.operands)
    c.pop-receiver.result.0 (stood c.args.core.now.stack c.pop-receiver.result.1) c.pop-receiver.ensures.stood c.args.place booleans c.args.kind
    c.send_to.new.core (next.On c.in-On.to) (ap (λ (r : Registers). stood c.args.core.now.stack r) c.pop-receiver.ensures.at)
    (λ activation.
    subst (λ (floor : ℕ). Sends c.args.code.now c.args.core.now c.args.at floor
    (sent_at c.args.code.now c.args.core.now c.args.at
    (record { site = record { place = c.args.place; class = booleans; sel = c.args.sel }; floor = floor; first = c.args.at.top - c.from.result })
    activation (To c.pop-receiver.result.0 c.args.kind)) c.send_to.new.core (next.On c.in-On.to))
    (ap (λ (r : Registers). r.top) c.pop-receiver.ensures.at) (c.in-On.ensures activation)))

pub returns-in-Answered : goal.returns-in-Answered
returns-in-Answered c =
    subst (λ (n : ℕ). AnswersToTop c.args.code.now c.args.core.now c.args.at c.args.sel n c.args.place c.args.kind c.send_to.new.core (next.On c.in-Answered.to))
    c.from.ensures
    (answers_to_top c.args.code.now c.args.core.now c.args.at c.args.sel c.from.result
    (subst (λ (n : ℕ). SendsOperands c.args.code.now c.args.core.now c.args.at c.args.sel n (n + 1)) (sym c.from.ensures) c.requires.operands)
    c.pop-receiver.result.0 (stood c.args.core.now.stack c.pop-receiver.result.1) c.pop-receiver.ensures.stood c.args.place booleans c.args.kind
    c.send_to.new.core (next.On c.in-Answered.to) (ap (λ (r : Registers). stood c.args.core.now.stack r) c.pop-receiver.ensures.at)
    (λ activation.
    subst (λ (floor : ℕ). AnswersAt c.args.code.now c.args.core.now c.args.at floor
    (sent_at c.args.code.now c.args.core.now c.args.at
    (record { site = record { place = c.args.place; class = booleans; sel = c.args.sel }; floor = floor; first = c.args.at.top - c.from.result })
    activation (To c.pop-receiver.result.0 c.args.kind)) c.send_to.new.core (next.On c.in-Answered.to))
    (ap (λ (r : Registers). r.top) c.pop-receiver.ensures.at) (c.in-Answered.ensures activation)))
