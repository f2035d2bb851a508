-- What the head of a cell tells of blocks.
use Rattle.std.proofs.Common.{◌≡◌, refl}
use Rattle.ns_world.specs.declared.cell.NewCell.{NewCell}
use Rattle.ns_world.specs.declared.cell.NewCell.TheVariants.{Object, Class, Block, Environment, Array, Text, Facet, Mirror, Message}
use Rattle.ns_world.specs.Head.{head_of_shape}
use Rattle.ns_moves.specs.Blocks.{is_block_shape}
use Rattle.ns_machine_quick.specs.Blocks.{is_block_head}

pub block_head : (shape : NewCell) → is_block_head (head_of_shape shape) ≡ is_block_shape shape
block_head (Object class words) = refl
block_head (Class decl base encl holder over) = refl
block_head (Block body env home receiver holder) = refl
block_head (Environment parent locals) = refl
block_head (Array size) = refl
block_head (Text bytes) = refl
block_head (Facet kind) = refl
block_head (Mirror mirrored) = refl
block_head (Message sel args) = refl
