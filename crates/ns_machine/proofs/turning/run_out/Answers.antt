use Rattle.ns_machine.proofs.Running.{must_end, goes_on, has_ran}
use Rattle.ns_machine_core.specs.Shown.{shown}
use Rattle.std.proofs.Common.{◌∙◌, ap, min, ◌+◌}
use Rattle.ns_base.specs.declared.limits.Limits.{Limits}
use Rattle.ns_machine.proofs.turning.run_out.Goals as goal

pub unreachable-requires : goal.unreachable-requires
unreachable-requires c =
    let can = c.requires.can in
    must_end c.args.code.now can.grants (c.moves_go_onward.ensures c.args.code.now) (c.ended_runs_stay.ensures c.args.code.now) c.args.core.now c.turn.new.core
    c.args.next c.turn.result c.saturating_add-steps.result can.ready (c.turn.ensures.ready can.grants can.ready) c.turn.ensures.stays
    (c.saturating_add-steps.ensures ∙ ap (λ (l : Limits). min (l.steps + 1) 18446744073709551615) c.limits.ensures)
    c.turn.ensures.turns (goes_on c.args.code.now c.turn.new.core c.turn.result c.in-On.is)

pub returns : goal.returns
returns c = record {
  ran = has_ran c.args.code.now c.saturating_add-steps.result (shown c.args.code.now c.args.core.now c.args.next) c.turn.new.core c.in-Ended.ensures.turns;
  ready = c.in-Ended.ensures.ready;
  stays = c.in-Ended.ensures.stays;
}
