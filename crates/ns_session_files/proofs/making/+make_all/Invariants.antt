use Rattle.std.proofs.Common.{length}
use Rattle.ns_session_files.proofs.making.+make_all.Given as goal

-- Those that aren't made yet become fewer.
abbrev pub decreases-make_all : goal.decreases-make_all
decreases-make_all g l = length l.words.now
