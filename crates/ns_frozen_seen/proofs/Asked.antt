-- What is asked of a cell as plain data is what is asked of the heap's.
use Rattle.std.proofs.Common.{◌≡◌, ℕ, length, refl, ap, ◌∙◌, Option, Some, None, option_map, false}
use Rattle.std.specs.Option.{option_map_or}
use Rattle.ns_world.specs.declared.value.Value.TheVariants.{Nil}
use Rattle.ns_world.specs.declared.cell.NewCell.TheVariants.{Mirror}
use Rattle.ns_world.specs.Cell.{Cell, ObjectCell, ClassCell, BlockCell, EnvironmentCell, ArrayCell, TextCell, FacetCell, MirrorCell, MessageCell, shape_of}
use Rattle.ns_world.specs.Heap as heap
use Rattle.ns_world.specs.Starts.{declaration_in}
use Rattle.ns_world.specs.Starts as starts
use Rattle.ns_world.specs.Lawful as lawful
use Rattle.ns_kdata.specs.Arguments.{array_items, is_array_shape}
use Rattle.ns_moves.specs.Blocks.{is_block_shape}
use Rattle.ns_frozen.specs.declared.cell.CellData.{CellData}
use Rattle.ns_frozen.specs.Freezing.{cell_frozen}
use Rattle.ns_code.specs.declared.program.CodeProgram.{CodeProgram}
use Rattle.ns_frozen.specs.Cells.{is_kept_cell}
use Rattle.ns_frozen.specs.Live.{is_in_chain, is_object_of}
use Rattle.ns_frozen_tables.specs.Kinds as kinds

-- where two words agree on each cell that was frozen and on none, they agree
same_each : {A : Type 0} (data_word : Option CellData → A) (word : Option Cell → A) → data_word None ≡ word None
    → ((one : Cell) → data_word (Some (cell_frozen one)) ≡ word (Some one))
    → (o : Option Cell) (d : Option CellData) → d ≡ option_map cell_frozen o → data_word d ≡ word o
same_each data_word word none each None d e = ap data_word e ∙ none
same_each data_word word none each (Some one) d e = ap data_word e ∙ each one

pub receivers : (o : Option Cell) (d : Option CellData) → d ≡ option_map cell_frozen o → kinds.is_receiver_cell d ≡ starts.is_receiver_cell o
receivers = same_each kinds.is_receiver_cell starts.is_receiver_cell refl each
  where
    each : (one : Cell) → kinds.is_receiver_cell (Some (cell_frozen one)) ≡ starts.is_receiver_cell (Some one)
    each (ObjectCell class entries) = refl
    each (ClassCell decl base encl holder over) = refl
    each (BlockCell body env home receiver holder) = refl
    each (EnvironmentCell parent locals) = refl
    each (ArrayCell items) = refl
    each (TextCell bytes) = refl
    each (FacetCell kind) = refl
    each (MirrorCell mirrored) = refl
    each (MessageCell sel args) = refl

pub classes : (o : Option Cell) (d : Option CellData) → d ≡ option_map cell_frozen o → kinds.is_class d ≡ heap.is_class o
classes = same_each kinds.is_class heap.is_class refl each
  where
    each : (one : Cell) → kinds.is_class (Some (cell_frozen one)) ≡ heap.is_class (Some one)
    each (ObjectCell class entries) = refl
    each (ClassCell decl base encl holder over) = refl
    each (BlockCell body env home receiver holder) = refl
    each (EnvironmentCell parent locals) = refl
    each (ArrayCell items) = refl
    each (TextCell bytes) = refl
    each (FacetCell kind) = refl
    each (MirrorCell mirrored) = refl
    each (MessageCell sel args) = refl

pub environments : (o : Option Cell) (d : Option CellData) → d ≡ option_map cell_frozen o → kinds.is_environment d ≡ lawful.is_environment o
environments = same_each kinds.is_environment lawful.is_environment refl each
  where
    each : (one : Cell) → kinds.is_environment (Some (cell_frozen one)) ≡ lawful.is_environment (Some one)
    each (ObjectCell class entries) = refl
    each (ClassCell decl base encl holder over) = refl
    each (BlockCell body env home receiver holder) = refl
    each (EnvironmentCell parent locals) = refl
    each (ArrayCell items) = refl
    each (TextCell bytes) = refl
    each (FacetCell kind) = refl
    each (MirrorCell mirrored) = refl
    each (MessageCell sel args) = refl

pub blocks : (o : Option Cell) (d : Option CellData) → d ≡ option_map cell_frozen o → kinds.is_block d ≡ is_block_shape (option_map_or shape_of o (Mirror Nil))
blocks = same_each kinds.is_block (λ o. is_block_shape (option_map_or shape_of o (Mirror Nil))) refl each
  where
    each : (one : Cell) → kinds.is_block (Some (cell_frozen one)) ≡ is_block_shape (shape_of one)
    each (ObjectCell class entries) = refl
    each (ClassCell decl base encl holder over) = refl
    each (BlockCell body env home receiver holder) = refl
    each (EnvironmentCell parent locals) = refl
    each (ArrayCell items) = refl
    each (TextCell bytes) = refl
    each (FacetCell kind) = refl
    each (MirrorCell mirrored) = refl
    each (MessageCell sel args) = refl

pub arrays : (o : Option Cell) (d : Option CellData) → d ≡ option_map cell_frozen o → kinds.is_array d ≡ is_array_shape (option_map_or shape_of o (Mirror Nil))
arrays = same_each kinds.is_array (λ o. is_array_shape (option_map_or shape_of o (Mirror Nil))) refl each
  where
    each : (one : Cell) → kinds.is_array (Some (cell_frozen one)) ≡ is_array_shape (shape_of one)
    each (ObjectCell class entries) = refl
    each (ClassCell decl base encl holder over) = refl
    each (BlockCell body env home receiver holder) = refl
    each (EnvironmentCell parent locals) = refl
    each (ArrayCell items) = refl
    each (TextCell bytes) = refl
    each (FacetCell kind) = refl
    each (MirrorCell mirrored) = refl
    each (MessageCell sel args) = refl

pub counts : (o : Option Cell) (d : Option CellData) → d ≡ option_map cell_frozen o → kinds.item_count d ≡ length (array_items o)
counts = same_each kinds.item_count (λ o. length (array_items o)) refl each
  where
    each : (one : Cell) → kinds.item_count (Some (cell_frozen one)) ≡ length (array_items (Some one))
    each (ObjectCell class entries) = refl
    each (ClassCell decl base encl holder over) = refl
    each (BlockCell body env home receiver holder) = refl
    each (EnvironmentCell parent locals) = refl
    each (ArrayCell items) = refl
    each (TextCell bytes) = refl
    each (FacetCell kind) = refl
    each (MirrorCell mirrored) = refl
    each (MessageCell sel args) = refl

pub declarations : (o : Option Cell) (d : Option CellData) → d ≡ option_map cell_frozen o
    → kinds.declaration d ≡ declaration_in (option_map_or shape_of o (Mirror Nil))
declarations = same_each kinds.declaration (λ o. declaration_in (option_map_or shape_of o (Mirror Nil))) refl each
  where
    each : (one : Cell) → kinds.declaration (Some (cell_frozen one)) ≡ declaration_in (shape_of one)
    each (ObjectCell class entries) = refl
    each (ClassCell decl base encl holder over) = refl
    each (BlockCell body env home receiver holder) = refl
    each (EnvironmentCell parent locals) = refl
    each (ArrayCell items) = refl
    each (TextCell bytes) = refl
    each (FacetCell kind) = refl
    each (MirrorCell mirrored) = refl
    each (MessageCell sel args) = refl

pub superclasses : (o : Option Cell) (d : Option CellData) → d ≡ option_map cell_frozen o → kinds.superclass d ≡ heap.superclass_in o
superclasses = same_each kinds.superclass heap.superclass_in refl each
  where
    each : (one : Cell) → kinds.superclass (Some (cell_frozen one)) ≡ heap.superclass_in (Some one)
    each (ObjectCell class entries) = refl
    each (ClassCell decl base encl holder over) = refl
    each (BlockCell body env home receiver holder) = refl
    each (EnvironmentCell parent locals) = refl
    each (ArrayCell items) = refl
    each (TextCell bytes) = refl
    each (FacetCell kind) = refl
    each (MirrorCell mirrored) = refl
    each (MessageCell sel args) = refl

pub objects : (o : Option Cell) (d : Option CellData) → d ≡ option_map cell_frozen o → kinds.class_of d ≡ lawful.class_of_object o
objects = same_each kinds.class_of lawful.class_of_object refl each
  where
    each : (one : Cell) → kinds.class_of (Some (cell_frozen one)) ≡ lawful.class_of_object (Some one)
    each (ObjectCell class entries) = refl
    each (ClassCell decl base encl holder over) = refl
    each (BlockCell body env home receiver holder) = refl
    each (EnvironmentCell parent locals) = refl
    each (ArrayCell items) = refl
    each (TextCell bytes) = refl
    each (FacetCell kind) = refl
    each (MirrorCell mirrored) = refl
    each (MessageCell sel args) = refl

pub environment_parts : (o : Option Cell) (d : Option CellData) → d ≡ option_map cell_frozen o → kinds.environment_in d ≡ lawful.environment_in o
environment_parts = same_each kinds.environment_in lawful.environment_in refl each
  where
    each : (one : Cell) → kinds.environment_in (Some (cell_frozen one)) ≡ lawful.environment_in (Some one)
    each (ObjectCell class entries) = refl
    each (ClassCell decl base encl holder over) = refl
    each (BlockCell body env home receiver holder) = refl
    each (EnvironmentCell parent locals) = refl
    each (ArrayCell items) = refl
    each (TextCell bytes) = refl
    each (FacetCell kind) = refl
    each (MirrorCell mirrored) = refl
    each (MessageCell sel args) = refl

pub kept_cells : (object holder decl : ℕ) (o : Option Cell) (d : Option CellData) → d ≡ option_map cell_frozen o
    → kinds.is_kept_cell object holder decl d ≡ is_kept_cell object holder decl o
kept_cells object holder decl = same_each (kinds.is_kept_cell object holder decl) (is_kept_cell object holder decl) refl each
  where
    each : (one : Cell) → kinds.is_kept_cell object holder decl (Some (cell_frozen one)) ≡ is_kept_cell object holder decl (Some one)
    each (ObjectCell class entries) = refl
    each (ClassCell decl' base encl holder' over) = refl
    each (BlockCell body env home receiver holder') = refl
    each (EnvironmentCell parent locals) = refl
    each (ArrayCell items) = refl
    each (TextCell bytes) = refl
    each (FacetCell kind) = refl
    each (MirrorCell mirrored) = refl
    each (MessageCell sel args) = refl

-- whether an object has a holder, by its class
pub objects_of : (code : CodeProgram) (h : heap.Heap) (holder : ℕ) (o : Option Cell) (d : Option CellData) → d ≡ option_map cell_frozen o
    → option_map_or (λ class. is_in_chain code h class holder) (kinds.class_of d) false ≡ is_object_of code h holder o
objects_of code h holder = same_each (λ d. option_map_or (λ class. is_in_chain code h class holder) (kinds.class_of d) false) (is_object_of code h holder) refl each
  where
    each : (one : Cell) → option_map_or (λ class. is_in_chain code h class holder) (kinds.class_of (Some (cell_frozen one))) false ≡ is_object_of code h holder (Some one)
    each (ObjectCell class entries) = refl
    each (ClassCell decl base encl holder' over) = refl
    each (BlockCell body env home receiver holder') = refl
    each (EnvironmentCell parent locals) = refl
    each (ArrayCell items) = refl
    each (TextCell bytes) = refl
    each (FacetCell kind) = refl
    each (MirrorCell mirrored) = refl
    each (MessageCell sel args) = refl
