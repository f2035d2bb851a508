-- Blocks, told by the first word of their cells.
use Rattle.std.specs.Prelude.{Bool, true, false}
use Rattle.ns_world.specs.declared.head.Head.{Head}
use Rattle.ns_world.specs.declared.head.Head.TheVariants.{Block}

-- whether a head is that of a block
abbrev pub is_block_head : Head → Bool
is_block_head (Block body home) = true
is_block_head head = false
