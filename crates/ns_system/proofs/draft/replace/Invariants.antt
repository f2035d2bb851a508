use Rattle.std.proofs.Common.{◌≡◌}
use Rattle.ns_system.proofs.draft.replace.Given as goal

-- A draft that couldn't be begun changed nothing.
abbrev pub invariant-names : goal.invariant-names
invariant-names g l = g.D.Drive.kept l.drive ≡ g.D.Drive.kept l.initial.drive
