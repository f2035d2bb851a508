use Rattle.std.proofs.Common.{◌≡◌, ◌-◌}
use Rattle.ns_image.specs.Read.{times}
use Rattle.ns_image.specs.laws.Loop.{with_front}
use Rattle.ns_image.proofs.read.format.times.Given as goal

abbrev pub invariant-items : goal.invariant-items
invariant-items g l = with_front l.items.items (times (l.count - l.counter) (g.F.Format.reader l.format) l.input.rest.now) ≡ times l.fn.count (g.F.Format.reader l.fn.format) l.fn.input.rest.now
