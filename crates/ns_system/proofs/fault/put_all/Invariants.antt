use Rattle.std.proofs.Common.{◌≡◌, ◌≤◌, ◌-◌, length, take}
use Rattle.ns_base.specs.Sink.{with_bytes}
use Rattle.ns_system.proofs.fault.put_all.Given as goal

-- The sink took the bytes so far.
abbrev pub invariant-loop-done : goal.invariant-loop-done
invariant-loop-done g l = record {
  place : l.done ≤ length l.bytes;
  told : g.E.Sink.written l.err ≡ with_bytes (take l.done l.bytes) (g.E.Sink.written l.fn.err);
  faults : g.E.Sink.faults l.fn.err ≤ g.E.Sink.faults l.err;
}

abbrev pub decreases-loop-done : goal.decreases-loop-done
decreases-loop-done g l = length l.bytes - l.done
