use Rattle.std.proofs.Common.{◌≡◌, ◌++◌, drop}
use Rattle.ns_kdata.specs.Arguments.{bytes_of}
use Rattle.ns_reply.proofs.reply.bytes_copied.Given as goal

-- The bytes so far and those that are left are all.
abbrev pub invariant-bytes : goal.invariant-bytes
invariant-bytes l = l.bytes.items ++ drop l.place (bytes_of l.world.world.cells l.text) ≡ bytes_of l.world.world.cells l.text
