use Rattle.std.proofs.Common.{◌≡◌, ◌+◌, length}
use Rattle.std.specs.Io.KnownBytes.{Consumes}
use Rattle.ns_system.proofs.files.read_first.Given as goal

-- What was read so far is what the reader lost, and what may still be read is what is left.
abbrev pub invariant-pieces : goal.invariant-pieces
invariant-pieces g l = (length l.bytes.items + l.left ≡ l.most) × Consumes (g.R.Read.remaining l.initial.from) (g.R.Read.remaining l.from) l.bytes.items
