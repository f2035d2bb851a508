use Rattle.std.proofs.Common.{◌≡◌, ◌+◌, ◌-◌, ℕ, ap, sym, subst, arith, true}
use Rattle.ns_world.specs.declared.kernel.ClassName.{ClassName}
use Rattle.ns_world.specs.declared.kernel.ClassName.TheVariants as name
use Rattle.ns_world.specs.declared.kernel_class.KernelRow.TheVariants as class
use Rattle.ns_moves.specs.Sends.{To}
use Rattle.ns_kdata.specs.Arguments.{is_text}
use Rattle.ns_machine_frames.specs.declared.registers.Registers.{Registers}
use Rattle.ns_machine_frames.specs.Stack.{stood}
use Rattle.ns_machine_core.specs.declared.state.Next.TheVariants as next
use Rattle.ns_machine_sends.specs.Operands.{SendsOperands, SendsToTop}
use Rattle.ns_machine_sends.specs.Sending.{CanSend, sent_at, Sends}
use Rattle.ns_machine_sends.specs.laws.Received.{receiver_live, can_send, sends_to_top}
use Rattle.ns_machine_quick.proofs.TextSends.{text_named}
use Rattle.ns_machine_quick.proofs.Valued.{live_there}
use Rattle.ns_machine_quick.proofs.texts.send_operands.Goals as goal

abbrev strings : ClassName
strings = name.Kernel class.String

pub is_text-requires : goal.is_text-requires
is_text-requires c =
    live_there c.args.core.now.run.world.world.cells c.args.code.now c.pop-receiver.result.0
    (receiver_live c.args.code.now c.args.core.now c.args.at c.args.sel c.from.result
    (subst (λ (n : ℕ). SendsOperands c.args.code.now c.args.core.now c.args.at c.args.sel n (n + 1)) (sym c.from.ensures) c.requires.operands)
    c.pop-receiver.result.0 (stood c.args.core.now.stack c.pop-receiver.result.1) c.pop-receiver.ensures.stood).0

pub send_to-requires-clause-can : goal.send_to-requires-clause-can
send_to-requires-clause-can c =
    let few = c.ranges.argc.fits in
    let same = c.from.ensures in
    let is : is_text c.args.core.now.run.world.world.cells c.pop-receiver.result.0 ≡ true = cc (c.is_text.ensures, c.if-not-is_text.false) in
    subst (λ (floor : ℕ). CanSend c.args.code.now c.args.core.now c.args.at
    (record { site = record { place = c.args.place; class = strings; sel = c.args.sel }; floor = floor; first = c.args.at.top - c.from.result })
    c.pop-receiver.result.0)
    (sym (ap (λ (r : Registers). r.top) c.pop-receiver.ensures.at))
    (can_send c.args.code.now c.args.core.now c.args.at c.args.sel c.from.result
    (subst (λ (n : ℕ). SendsOperands c.args.code.now c.args.core.now c.args.at c.args.sel n (n + 1)) (sym c.from.ensures) c.requires.operands)
    c.pop-receiver.result.0 (stood c.args.core.now.stack c.pop-receiver.result.1) c.pop-receiver.ensures.stood (omega (arith, few, same)) c.args.place
    strings (text_named c.args.core.now.run.world.world.cells c.pop-receiver.result.0 is))

pub returns-in-Some : goal.returns-in-Some
returns-in-Some c = (
  subst (λ (n : ℕ). SendsToTop c.args.code.now c.args.core.now c.args.at c.args.sel n c.args.place c.args.kind c.send_to.new.core (next.On c.in-Some.to)) c.from.ensures
      (sends_to_top c.args.code.now c.args.core.now c.args.at c.args.sel c.from.result
      (subst (λ (n : ℕ). SendsOperands c.args.code.now c.args.core.now c.args.at c.args.sel n (n + 1)) (sym c.from.ensures) c.requires.operands)
      c.pop-receiver.result.0 (stood c.args.core.now.stack c.pop-receiver.result.1) c.pop-receiver.ensures.stood c.args.place strings c.args.kind
      c.send_to.new.core (next.On c.in-Some.to) (ap (λ (r : Registers). stood c.args.core.now.stack r) c.pop-receiver.ensures.at)
      (λ activation.
      subst (λ (floor : ℕ). Sends c.args.code.now c.args.core.now c.args.at floor
      (sent_at c.args.code.now c.args.core.now c.args.at
      (record { site = record { place = c.args.place; class = strings; sel = c.args.sel }; floor = floor; first = c.args.at.top - c.from.result })
      activation (To c.pop-receiver.result.0 c.args.kind)) c.send_to.new.core (next.On c.in-Some.to))
      (ap (λ (r : Registers). r.top) c.pop-receiver.ensures.at) (c.in-Some.ensures.0 activation))),
  c.in-Some.ensures.1,
)
