-- What is seen of all actors as they are kept.
use Rattle.std.specs.Prelude.{ℕ, List, map, slice_get, ◌==◌, Option, Some, option_map, if◌then◌else◌}
use Rattle.ns_machine.specs.Machine.{MachineView}
use Rattle.ns_actors.specs.declared.letter.Letter.{Letter}
use Rattle.ns_actors.specs.Actor.{ActorView}
use Rattle.ns_actors.specs.Turn.{ActorsView, host_number}
use Rattle.ns_actors_calls.specs.declared.actor.Actor.{Actor}
use Rattle.ns_actors_calls.specs.Shown.{shown}

-- actors, and the letters of the host
abbrev pub seen : List Letter → List Actor → ActorsView
seen host actors = record { actors = map shown actors; host = host }

-- the machine in which an actor runs, as it shows itself
abbrev pub machine_of : ActorView → MachineView
machine_of actor = record { code = actor.application.code; grants = actor.application.grants; state = actor.state }

-- the box of an actor that is there
abbrev pub box_in : ActorsView → ℕ → Option (List Letter)
box_in view k = option_map (λ (actor : ActorView). actor.box) (slice_get view.actors k)

-- what an actor that is there has posted, or the host
abbrev pub posted_in : ActorsView → ℕ → Option (List Letter)
posted_in view k = if k == host_number then Some view.host else option_map (λ (actor : ActorView). actor.posted) (slice_get view.actors k)
