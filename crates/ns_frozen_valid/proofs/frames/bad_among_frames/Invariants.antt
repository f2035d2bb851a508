use Rattle.std.proofs.Common.{◌≡◌, ◌+◌, length}
use Rattle.ns_frozen.specs.Frames.{bad_frame_from}
use Rattle.ns_frozen_tables.specs.Above.{above_shown}
use Rattle.ns_frozen_seen.specs.Seen.{heap_of}
use Rattle.ns_frozen_valid.proofs.frames.bad_among_frames.Given as goal

abbrev pub invariant-frames : goal.invariant-frames
invariant-frames l =
    (l.place + length l.left ≡ length l.frames)
    × (bad_frame_from l.seen.code.now (heap_of l.seen) l.homes (above_shown l.top) l.least l.place l.left
    ≡ bad_frame_from l.seen.code.now (heap_of l.seen) l.homes (above_shown l.top) 0 0 l.frames)

abbrev pub decreases-frames : goal.decreases-frames
decreases-frames l = length l.left
