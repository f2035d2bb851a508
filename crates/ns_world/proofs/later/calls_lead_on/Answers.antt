use Rattle.ns_world.specs.laws.Leading.{later_made, later_written, later_stepped, later_entered, later_left, later_printed, later_counted, later_byte_written}
use Rattle.ns_world.proofs.later.calls_lead_on.Goals as goal

pub returns-clause-made : goal.returns-clause-made
returns-clause-made c = later_made

pub returns-clause-written : goal.returns-clause-written
returns-clause-written c = later_written

pub returns-clause-steps : goal.returns-clause-steps
returns-clause-steps c = later_stepped

pub returns-clause-frames : goal.returns-clause-frames
returns-clause-frames c = later_entered

pub returns-clause-left : goal.returns-clause-left
returns-clause-left c = later_left

pub returns-clause-output : goal.returns-clause-output
returns-clause-output c = later_printed

pub returns-clause-counted : goal.returns-clause-counted
returns-clause-counted c = later_counted

pub returns-clause-bytes : goal.returns-clause-bytes
returns-clause-bytes c = later_byte_written
