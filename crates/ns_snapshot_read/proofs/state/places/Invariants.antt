use Rattle.std.proofs.Common.{◌≡◌, ◌-◌, take, length}
use Rattle.ns_image.specs.Read.{times}
use Rattle.ns_image.specs.laws.Loop.{with_front}
use Rattle.ns_snapshot.specs.Reading.{plain}
use Rattle.ns_snapshot_read.proofs.state.places.Given as goal

abbrev pub invariant-values : goal.invariant-values
invariant-values l = (length l.places ≡ 64) × (with_front (take l.place l.places) (times (64 - l.place) plain l.input.rest.now) ≡ times 64 plain l.fn.input.rest.now)
