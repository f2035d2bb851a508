use Rattle.std.proofs.Common.{ℕ, ◌-◌, ◌≤◌, length, ap, ◌∙◌, sym, subst, slice_index_or}
use Rattle.ns_world.specs.declared.value.Value.TheVariants.{Nil}
use Rattle.ns_machine_frames.specs.Standing.{operands_in}
use Rattle.ns_machine_frames.specs.Stack.{stood, with_top, IsLaid}
use Rattle.ns_machine_quick.proofs.receiving.receiver_below.Goals as goal

pub operand-requires-clause-laid : goal.operand-requires-clause-laid
operand-requires-clause-laid c =
    subst (λ (n : ℕ). IsLaid c.args.stack.now (with_top (c.args.at.top - n) c.args.at)) (sym c.from.ensures) c.requires.laid

pub operand-requires-clause-some : goal.operand-requires-clause-some
operand-requires-clause-some c =
    subst (λ (n : ℕ). 1 ≤ length (operands_in (stood c.args.stack.now (with_top (c.args.at.top - n) c.args.at)))) (sym c.from.ensures) c.requires.some

pub returns : goal.returns
returns c =
    c.operand.ensures
    ∙ ap (λ (n : ℕ). slice_index_or (operands_in (stood c.args.stack.now (with_top (c.args.at.top - n) c.args.at))) 0 Nil) c.from.ensures
