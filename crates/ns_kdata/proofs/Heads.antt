-- What the head of a cell tells of its shape.
use Rattle.std.proofs.Common.{◌≡◌, refl}
use Rattle.ns_world.specs.declared.cell.NewCell.{NewCell}
use Rattle.ns_world.specs.declared.cell.NewCell.TheVariants.{Object, Class, Block, Environment, Array, Text, Facet, Mirror, Message}
use Rattle.ns_world.specs.Head.{head_of_shape}
use Rattle.ns_kdata.specs.Arguments.{is_text_shape, is_array_shape, is_message_shape, text_size_in, array_size_in, is_text_head, is_array_head, is_message_head, text_size_at, array_size_at}

pub text_head : (shape : NewCell) → is_text_head (head_of_shape shape) ≡ is_text_shape shape
text_head (Object class words) = refl
text_head (Class decl base encl holder over) = refl
text_head (Block body env home receiver holder) = refl
text_head (Environment parent locals) = refl
text_head (Array size) = refl
text_head (Text bytes) = refl
text_head (Facet kind) = refl
text_head (Mirror mirrored) = refl
text_head (Message sel args) = refl

pub array_head : (shape : NewCell) → is_array_head (head_of_shape shape) ≡ is_array_shape shape
array_head (Object class words) = refl
array_head (Class decl base encl holder over) = refl
array_head (Block body env home receiver holder) = refl
array_head (Environment parent locals) = refl
array_head (Array size) = refl
array_head (Text bytes) = refl
array_head (Facet kind) = refl
array_head (Mirror mirrored) = refl
array_head (Message sel args) = refl

pub message_head : (shape : NewCell) → is_message_head (head_of_shape shape) ≡ is_message_shape shape
message_head (Object class words) = refl
message_head (Class decl base encl holder over) = refl
message_head (Block body env home receiver holder) = refl
message_head (Environment parent locals) = refl
message_head (Array size) = refl
message_head (Text bytes) = refl
message_head (Facet kind) = refl
message_head (Mirror mirrored) = refl
message_head (Message sel args) = refl

pub text_size_head : (shape : NewCell) → text_size_at (head_of_shape shape) ≡ text_size_in shape
text_size_head (Object class words) = refl
text_size_head (Class decl base encl holder over) = refl
text_size_head (Block body env home receiver holder) = refl
text_size_head (Environment parent locals) = refl
text_size_head (Array size) = refl
text_size_head (Text bytes) = refl
text_size_head (Facet kind) = refl
text_size_head (Mirror mirrored) = refl
text_size_head (Message sel args) = refl

pub array_size_head : (shape : NewCell) → array_size_at (head_of_shape shape) ≡ array_size_in shape
array_size_head (Object class words) = refl
array_size_head (Class decl base encl holder over) = refl
array_size_head (Block body env home receiver holder) = refl
array_size_head (Environment parent locals) = refl
array_size_head (Array size) = refl
array_size_head (Text bytes) = refl
array_size_head (Facet kind) = refl
array_size_head (Mirror mirrored) = refl
array_size_head (Message sel args) = refl
