-- The machine in another world.
use Rattle.ns_world.specs.World.{WorldView}
use Rattle.ns_machine_core.specs.declared.state.Core.{Core}

-- the machine in another world
abbrev pub in_other : Core → WorldView → Core
in_other core world = record core { run = record core.run { world = world } }
