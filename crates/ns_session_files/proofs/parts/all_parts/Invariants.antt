use Rattle.std.proofs.Common.{◌≡◌, ◌++◌, drop, length, map}
use Rattle.ns_session_files.specs.Joint.{part_of}
use Rattle.ns_session_files.proofs.parts.all_parts.Given as goal

-- the parts so far and those of the applications that are left are all
abbrev pub invariant-members : goal.invariant-members
invariant-members l = record {
  all : l.number-end ≡ length l.session.members;
  parts : l.parts.items ++ map part_of (drop l.number l.session.members) ≡ map part_of l.session.members;
}
