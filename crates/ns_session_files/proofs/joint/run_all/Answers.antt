use Rattle.std.proofs.Common.{◌∙◌, ◌++◌, ap, map, subst}
use Rattle.ns_session.specs.Rounds.{RoundRobin}
use Rattle.ns_session_files.specs.Joint.{status_of_all, status_then, text_from}
use Rattle.ns_session_files.specs.Making.{application_of}
use Rattle.ns_session_files.specs.Stood.{runs_at}
use Rattle.ns_session_files.proofs.PartLaws.{session_tells}
use Rattle.ns_session_files.proofs.TellingLaws.{all_may_start, told_of_all}
use Rattle.ns_session_files.proofs.joint.run_all.Goals as goal

pub returns-in-Ok-clause-told : goal.returns-in-Ok-clause-told
returns-in-Ok-clause-told c = λ limits sources range is admitted.
    let new = c.run_round_robin.new.session in
    let runs = c.sessions_run_as_a_function.ensures c.args.quantum (map (application_of limits) sources) new c.requires (all_may_start limits range sources admitted)
    (subst (λ s. RoundRobin c.args.quantum s new) is c.run_round_robin.ensures) in
    let told = told_of_all limits c.args.quantum sources new c.in-Ok.told (c.sessions_keep_their_applications.ensures c.args.quantum) (c.applications_run_as_their_sources_mean.ensures limits) admitted
    runs c.run_round_robin.ensures.ended c.in-Ok.ensures.alone (c.in-Ok.ensures.out ∙ ap (λ o. o ++ text_from 0 (runs_at new.members)) c.nothing.ensures.out)
    (c.in-Ok.ensures.status ∙ ap (λ s. status_then s (status_of_all (runs_at new.members))) c.nothing.ensures.status) in
    session_tells c.args.in_parts limits c.args.quantum sources new c.in-Ok.told c.with_parts.result told runs c.with_parts.ensures.told
