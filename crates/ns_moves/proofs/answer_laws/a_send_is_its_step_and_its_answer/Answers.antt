use Rattle.ns_moves.proofs.Stepping.{send_steps, plain_steps}
use Rattle.ns_moves.proofs.answer_laws.a_send_is_its_step_and_its_answer.Goals as goal

pub returns-clause-running : goal.returns-clause-running
returns-clause-running c = send_steps

pub returns-clause-plain : goal.returns-clause-plain
returns-clause-plain c = plain_steps
