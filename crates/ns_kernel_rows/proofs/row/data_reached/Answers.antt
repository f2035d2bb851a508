use Rattle.std.proofs.Common.{sym, ap, ◌∙◌}
use Rattle.ns_kdata.specs.Arguments.{argument}
use Rattle.ns_moves.specs.Shown.{reached_shown}
use Rattle.ns_kernel_rows.specs.Reaching.{progress_of}
use Rattle.ns_kernel_rows.proofs.Outcomes.{outcome_given, room_kept, limits_kept, data_other}
use Rattle.ns_kernel_rows.proofs.row.data_reached.Goals as goal

pub returns-in_default-clause-reached : goal.returns-in_default-clause-reached
returns-in_default-clause-reached c = λ board site begun.
    let code = c.args.code.now in
    let args = c.args.args.now in
    let old = c.args.world.now in
    ap (λ r. reached_shown code site args r (progress_of c.datum.new.world board begun)) c.answered.ensures.reached
    ∙ (outcome_given code args _ c.datum.result old c.datum.new.world board site begun c.datum.ensures
    ∙ sym (data_other code c.args.row c.args.receiver args site (progress_of old board begun) c.in_default.not-DoesNotUnderstand))

pub returns-in_default-clause-room : goal.returns-in_default-clause-room
returns-in_default-clause-room c = room_kept _ _ _ _ c.datum.ensures

pub returns-in_default-clause-limits : goal.returns-in_default-clause-limits
returns-in_default-clause-limits c =
    limits_kept _ _ _ _ c.datum.ensures (c.rows_lead_on.ensures c.args.world.now.world c.args.code.now c.args.row c.args.receiver (argument c.args.args.now 0) (argument c.args.args.now 1))
