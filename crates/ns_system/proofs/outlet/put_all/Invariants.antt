use Rattle.std.proofs.Common.{◌≡◌, ◌≤◌, length, take}
use Rattle.ns_base.specs.Sink.{with_bytes}
use Rattle.ns_system.proofs.outlet.put_all.Given as goal

-- What was done was passed on.
abbrev pub invariant-pieces : goal.invariant-pieces
invariant-pieces g l = (l.done ≤ length l.bytes) × (g.W.Outlet.written l.to ≡ with_bytes (take l.done l.bytes) (g.W.Outlet.written l.initial.to))
