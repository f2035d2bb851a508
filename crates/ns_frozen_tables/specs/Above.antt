-- What stands above a frame.
use Rattle.ns_frozen.specs.Frames as frames
use Rattle.ns_frozen_tables.specs.declared.above.Above.{Above}
use Rattle.ns_frozen_tables.specs.declared.above.Above.TheVariants.{Free, Waiting, Under}

-- as ns_frozen has it
abbrev pub above_shown : Above → frames.Above
above_shown Free = frames.Free
above_shown Waiting = frames.Waiting
above_shown (Under kind) = frames.Under kind
