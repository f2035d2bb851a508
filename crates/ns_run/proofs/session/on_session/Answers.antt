use Rattle.std.proofs.Common.{rules}
use Rattle.ns_run.proofs.SessionLaws.{refusals_say}
use Rattle.ns_run.proofs.session.on_session.Goals as goal

pub returns-in-Ok : goal.returns-in-Ok
returns-in-Ok g c = record {
  told = search rules;
  texts = search rules;
  ending = search rules;
  only_read = search rules;
  read_fault = search rules;
  read_fault_there = search rules;
  missing = search rules;
}

pub returns-in-Err : goal.returns-in-Err
returns-in-Err g c = record {
  told = search rules;
  texts = search rules;
  ending = search rules;
  only_read = search rules;
  read_fault = search rules;
  read_fault_there = search rules;
  missing = refusals_say c.in-Err.why c.on_refusal.result _ c.on_refusal.ensures.told c.in-Err.ensures.missing;
}
