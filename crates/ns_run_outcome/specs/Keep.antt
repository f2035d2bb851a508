-- What is left where a report's file is stored.
use Rattle.std.specs.Prelude.{Option, Result, Ok, Err}
use Rattle.ns_base.specs.Files.{AllStand, Files}
use Rattle.ns_run_outcome.specs.Outcome.{AreStored, OthersAreKept}
use Rattle.ns_run_outcome.specs.Store.{FileStored}
use Rattle.ns_run_outcome.specs.declared.keep.Unkept.TheVariants.{Failed, Memory}
use Rattle.ns_run_outcome.specs.declared.keep.Unkept.{Unkept}

-- The file is stored; or only it may hold anything, where it failed; or all are as they were, for want of memory.
abbrev pub KeepsFile : Option FileStored → Result (Unit {0}) Unkept → Files → Files → Type 0
KeepsFile stored (Ok _) old new = AreStored stored old new
KeepsFile stored (Err Failed) old new = OthersAreKept stored old new
KeepsFile stored (Err Memory) old new = AllStand old new
