-- The memory of a world.
use Rattle.std.specs.Prelude.{◌≡◌, ◌≤◌}
use Rattle.ns_world.specs.World.{WorldView, SameRoom}

-- Memory is reserved for as many cells as the limit allows.
abbrev pub HasCellRoom : WorldView → Type 0
HasCellRoom view = view.world.limits.cells ≤ view.cell_room

-- The limits and the memory reserved are as before.
pub record SameRest (old new : WorldView) : Type 0 where
  pub limits : new.world.limits ≡ old.world.limits
  pub room : SameRoom old new
