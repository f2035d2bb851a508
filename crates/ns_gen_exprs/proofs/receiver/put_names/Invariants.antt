use Rattle.std.proofs.Common.{◌≡◌, drop}
use Rattle.ns_gen_draft.specs.Standing.{standing}
use Rattle.ns_gen_exprs.specs.Sending.{with_names, left}
use Rattle.ns_gen_exprs.proofs.receiver.put_names.Given as goal

abbrev pub invariant-loop-name : goal.invariant-loop-name
invariant-loop-name l =
    (with_names (standing l.here) l.receiver (drop l.name-index l.names) l.writer ≡ with_names (standing l.here) l.fn.receiver l.names l.fn.writer)
    × (left l.receiver (drop l.name-index l.names) ≡ left l.fn.receiver l.names)
