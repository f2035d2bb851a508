use Rattle.std.proofs.Common.{◌≡◌, ◌≤◌, drop}
use Rattle.ns_base.specs.MemSink.{allowed}
use Rattle.ns_base.proofs.mem_sink.allowed.Given as goal

abbrev pub invariant-loop-failing : goal.invariant-loop-failing
invariant-loop-failing l =
    (allowed (drop l.failing-index l.fail_at) l.call l.least ≡ allowed l.fail_at l.call l.most) × (l.least ≤ l.most)
