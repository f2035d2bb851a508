-- Endings that can be reported.
use Rattle.ns_code.specs.declared.program.CodeProgram.{CodeProgram}
use Rattle.ns_world.specs.declared.ending.Ending.{Ending}
use Rattle.ns_world.specs.declared.ending.Ending.TheVariants.{Done, Error, Limit}
use Rattle.ns_world.specs.Heap.{Heap}
use Rattle.ns_world.specs.Lawful.{IsLiveValue}

-- The value that a run answered is live.
abbrev pub IsLiveEnding : Heap → CodeProgram → Ending → Type 0
IsLiveEnding heap code (Done value) = IsLiveValue heap code value
IsLiveEnding heap code (Error error) = Unit {0}
IsLiveEnding heap code (Limit limit) = Unit {0}
