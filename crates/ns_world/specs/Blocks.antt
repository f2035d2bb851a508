-- What is read of blocks.
use Rattle.std.specs.Prelude.{◌≡◌, ℕ, Option, Some, None}
use Rattle.ns_world.specs.declared.cell.BlockParts.{BlockParts}
use Rattle.ns_world.specs.declared.cell.NewCell.{NewCell}
use Rattle.ns_world.specs.declared.cell.NewCell.TheVariants.{Block}
use Rattle.ns_world.specs.declared.value.Value.{Value}
use Rattle.ns_world.specs.declared.value.Value.TheVariants.{Nil, Ref}

-- the environment of that number, nil where there is none
abbrev pub around : Option ℕ → Value
around (Some env) = Ref env
around None = Nil

-- A cell is the block that was made with this, if it is told.
abbrev pub IsBlockOf : NewCell → Option BlockParts → Type 0
IsBlockOf cell (Some parts) = cell ≡ Block parts.body (around parts.env) parts.home (Ref parts.receiver) parts.holder
IsBlockOf cell None = Unit {0}
