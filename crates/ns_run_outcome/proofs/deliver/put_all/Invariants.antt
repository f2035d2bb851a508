use Rattle.std.proofs.Common.{◌≡◌, ◌≤◌, ◌-◌, length, take}
use Rattle.ns_base.specs.Sink.{with_bytes}
use Rattle.ns_run_outcome.proofs.deliver.put_all.Given as goal

-- The sink took the bytes so far.
abbrev pub invariant-loop-done : goal.invariant-loop-done
invariant-loop-done g l = record {
  place : l.done ≤ length l.bytes;
  told : g.O.Sink.written l.out ≡ with_bytes (take l.done l.bytes) (g.O.Sink.written l.fn.out);
  faults : g.O.Sink.faults l.fn.out ≤ g.O.Sink.faults l.out;
}

abbrev pub decreases-loop-done : goal.decreases-loop-done
decreases-loop-done g l = length l.bytes - l.done
