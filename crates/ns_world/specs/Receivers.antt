-- Which words are heads of cells that can be receivers.
use Rattle.std.specs.Prelude.{Bool, true, false}
use Rattle.ns_world.specs.declared.word.Word.{Word}
use Rattle.ns_world.specs.declared.word.Word.TheVariants.{Object, Class, Block, Array, Text, Facet, Mirror, Message}

-- whether a word is the head of a cell that is no environment
abbrev pub is_receiver_head : Word → Bool
is_receiver_head (Object class words) = true
is_receiver_head (Class decl base) = true
is_receiver_head (Block body home) = true
is_receiver_head (Array size) = true
is_receiver_head (Text bytes) = true
is_receiver_head (Facet kind) = true
is_receiver_head Mirror = true
is_receiver_head (Message sel) = true
is_receiver_head word = false
