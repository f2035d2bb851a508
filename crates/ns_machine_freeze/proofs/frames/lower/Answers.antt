use Rattle.std.proofs.Common.{ℕ, ◌+◌, ◌-◌, ap, sym, ◌∙◌, subst, length, take, drop, true}
use Rattle.ns_machine_frames.specs.View.{frame_shown}
use Rattle.ns_frozen.specs.Freezing.{frame_frozen}
use Rattle.ns_machine_freeze.specs.Down.{stood_one, IsLaidTo}
use Rattle.ns_machine_freeze.proofs.Below.{lower_laid, lower_down}
use Rattle.ns_machine_freeze.proofs.frames.lower.Goals as goal

pub frame_of-requires : goal.frame_of-requires
frame_of-requires c =
    subst (λ (end : ℕ). IsLaidTo c.frame-2.result.now end (length c.args.core.now.stack.values.items)) (sym c.floor_of-end.ensures)
    (lower_laid c.args.code.now c.args.core.now c.args.at true c.requires.laid c.args.number c.frame-2.result.now c.frame.result.now
    (drop (c.args.number + 1) c.args.core.now.stack.frames.items) (drop (c.args.number - 1 + 1) c.args.core.now.stack.frames.items)
    c.requires.some c.frame-2.ensures c.frame.ensures)

pub returns : goal.returns
returns c = λ waits.
    lower_down c.args.code.now c.args.core.now c.args.at waits c.requires.laid c.args.number c.frame-2.result.now c.frame.result.now
    (drop (c.args.number + 1) c.args.core.now.stack.frames.items) (drop (c.args.number - 1 + 1) c.args.core.now.stack.frames.items)
    c.in_ok-frozen.frozen c.requires.some c.frame-2.ensures c.frame.ensures
    (c.in_ok-frozen.ensures
    ∙ ap (λ (end : ℕ). frame_frozen c.args.code.now true (frame_shown c.args.code.now c.args.core.now.places
    (stood_one c.frame-2.result.now (take end c.args.core.now.stack.values.items)))) c.floor_of-end.ensures)
