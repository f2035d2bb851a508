use Rattle.ns_verify.proofs.Places.{no_cause, without_cause}
use Rattle.ns_verify.proofs.laws.sound_code_has_no_cause.Goals as goal

pub returns-clause-there : goal.returns-clause-there
returns-clause-there c = no_cause

pub returns-clause-back : goal.returns-clause-back
returns-clause-back c = without_cause
