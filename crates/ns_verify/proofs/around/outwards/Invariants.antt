use Rattle.std.proofs.Common.{◌≡◌, ◌++◌, ◌-◌, Some}
use Rattle.ns_verify.specs.Around.{outwards}
use Rattle.ns_verify.proofs.around.outwards.Given as goal

abbrev pub invariant-levels : goal.invariant-levels
invariant-levels l = l.found.items ++ outwards l.table (l.most - l._passed) l.next ≡ outwards l.table l.most (Some l.fn.number)
