-- The exit statuses (this profile).
use Rattle.std.specs.Prelude.{ℕ}
use Rattle.ns_base.specs.declared.status.Status.{Status}
use Rattle.ns_base.specs.declared.status.Status.TheVariants.{Done, ProgramError, Refused, Limit, ReadFault, WriteFault, Memory}

-- the number with which the process ends
abbrev pub exit_code : Status → ℕ
exit_code Done = 0
exit_code ProgramError = 1
exit_code Refused = 2
exit_code Limit = 3
exit_code ReadFault = 4
exit_code WriteFault = 5
exit_code Memory = 6
