use Rattle.std.proofs.Common.{◌-◌, ◌≡◌, ◌∙◌, ℕ, Fits, ap, arith, rules, subst, w8}
use Rattle.ns_machine_frames.specs.declared.registers.Registers.{Registers}
use Rattle.ns_machine_frames.specs.Standing.{pushed}
use Rattle.ns_machine_frames.specs.Stack.{stood, with_top}
use Rattle.ns_machine_quick.proofs.Below.{can_send_below}
use Rattle.ns_machine_quick.proofs.Evaluating.{below_goes}
use Rattle.ns_machine_quick.proofs.values.send_operands.Goals as goal

pub send_below-requires : goal.send_below-requires
send_below-requires c =
    let few : Fits w8 c.args.send.now.argc = search rules in
    can_send_below c.args.code.now c.args.core.now c.args.at c.args.send.now c.requires c.pop-receiver.result.0 (stood c.args.core.now.stack c.pop-receiver.result.1)
    (subst (λ (n : ℕ). stood c.args.core.now.stack (with_top (c.args.at.top - n) c.args.at)
    ≡ pushed c.pop-receiver.result.0 (stood c.args.core.now.stack c.pop-receiver.result.1)) c.from.ensures c.pop-receiver.ensures.stood)
    (omega (arith, few))

pub returns : goal.returns
returns c =
    below_goes c.args.code.now c.args.core.now c.args.at c.args.send.now c.requires c.pop-receiver.result.0 (stood c.args.core.now.stack c.pop-receiver.result.1)
    (subst (λ (n : ℕ). stood c.args.core.now.stack (with_top (c.args.at.top - n) c.args.at)
    ≡ pushed c.pop-receiver.result.0 (stood c.args.core.now.stack c.pop-receiver.result.1)) c.from.ensures c.pop-receiver.ensures.stood)
    c.send_below.new.core c.send_below.result
    (ap (λ (r : Registers). stood c.args.core.now.stack r) c.pop-receiver.ensures.at
    ∙ ap (λ (n : ℕ). stood c.args.core.now.stack (with_top (c.args.at.top - n - 1) c.args.at)) c.from.ensures)
    c.send_below.ensures
