-- What the proofs take from the laws of the crates below.
use Rattle.std.proofs.Common.{ℕ}
use Rattle.ns_code.specs.declared.program.CodeProgram.{CodeProgram}
use Rattle.ns_facets.specs.declared.row.Grants.{Grants}
use Rattle.ns_run_code.specs.Resting.{MovesKeepRest, StillIsRested}
use Rattle.ns_session.specs.Laws.{BegunStays}

-- Moves don't change where a run comes to rest, and a state that moves no more is there already.
abbrev pub KnowsRest : Type 0
KnowsRest = (code : CodeProgram) (grants : Grants) → MovesKeepRest code grants × StillIsRested code grants

-- A run that has begun stays so.
abbrev pub StaysBegun : Type 0
StaysBegun = (code : CodeProgram) → BegunStays code
