use Rattle.std.proofs.Common.{◌-◌, length}
use Rattle.ns_session_files.proofs.telling.+tell.Given as goal

-- Those that aren't told yet become fewer.
abbrev pub decreases-tell : goal.decreases-tell
decreases-tell l = length l.session.now.members - l.number
