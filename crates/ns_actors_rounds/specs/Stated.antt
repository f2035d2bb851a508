-- What is said of actors that have had rounds.
use Rattle.std.specs.Prelude.{◌≡◌, Result, Ok, Err}
use Rattle.ns_base.specs.declared.limits.Limits.{Limits}
use Rattle.ns_actors.specs.Rounds.{rounds}
use Rattle.ns_actors.specs.Turn.{ActorsView}
use Rattle.ns_actors_rounds.specs.Laws.{IsWithinRounds}

-- They rest where their rounds lead, within whatever limits these are enough.
abbrev pub RestsAfter : ActorsView → ActorsView → Type 0
RestsAfter old new = (limits : Limits) → IsWithinRounds limits old → new ≡ rounds limits old
