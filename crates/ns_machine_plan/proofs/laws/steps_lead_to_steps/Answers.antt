use Rattle.ns_machine_plan.proofs.Following.{bodies_begin, steps_go_on, jumps_land}
use Rattle.ns_machine_plan.proofs.laws.steps_lead_to_steps.Goals as goal

pub returns-clause-first : goal.returns-clause-first
returns-clause-first c = bodies_begin c.sound_code_has_no_cause.ensures.there

pub returns-clause-next : goal.returns-clause-next
returns-clause-next c = steps_go_on c.heights_agree.ensures.agree

pub returns-clause-target : goal.returns-clause-target
returns-clause-target c = jumps_land c.heights_agree.ensures.agree
