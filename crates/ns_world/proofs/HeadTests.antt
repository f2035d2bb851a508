-- What the first word of a cell tells of it.
use Rattle.std.proofs.Common.{◌≡◌, ℕ, ◌<◌, List, length, get_or, refl, ap, sym, ◌∙◌, arith, Option, Some, None, IsSome}
use Rattle.std.specs.Option.{option_map_or}
use Rattle.std.proofs.lemmas.List.{get_or_default}
use Rattle.ns_world.specs.declared.value.Value.TheVariants.{Nil}
use Rattle.ns_world.specs.declared.cell.NewCell.{NewCell}
use Rattle.ns_world.specs.declared.cell.NewCell.TheVariants.{Object, Class, Block, Environment, Array, Text, Facet, Mirror, Message}
use Rattle.ns_world.specs.declared.word.Word.{Word}
use Rattle.ns_world.specs.declared.word.Word.TheVariants as word
use Rattle.ns_world.specs.Cell.{Cell, shape_of, ObjectCell, ClassCell, BlockCell, EnvironmentCell, ArrayCell, TextCell, FacetCell, MirrorCell, MessageCell}
use Rattle.ns_world.specs.Head.{head_of_shape, head_at, is_class_head, declared_at_head, base_at_head, start_at_head}
use Rattle.ns_world.specs.Heap.{Heap, find_cell, is_class, shape_at}
use Rattle.ns_world.specs.Layout.{declaration_of, base_in, base_of}
use Rattle.ns_world.specs.Starts.{start_of_cell, declaration_in}
use Rattle.ns_world.specs.Words.{laid_out, shape_in, head_in}
use Rattle.ns_world.specs.laws.Chains.{found_below}
use Rattle.ns_world.proofs.LaidOut.{length-laid_out}
use Rattle.ns_world.proofs.Shapes.{shape_told}

class_head : (o : Option Cell) → is_class_head (head_of_shape (option_map_or shape_of o (Mirror Nil))) ≡ is_class o
class_head None = refl
class_head (Some (ObjectCell class entries)) = refl
class_head (Some (ClassCell decl base encl holder over)) = refl
class_head (Some (BlockCell body env home receiver holder)) = refl
class_head (Some (EnvironmentCell parent locals)) = refl
class_head (Some (ArrayCell items)) = refl
class_head (Some (TextCell bytes)) = refl
class_head (Some (FacetCell kind)) = refl
class_head (Some (MirrorCell mirrored)) = refl
class_head (Some (MessageCell sel args)) = refl

-- the head of a cell tells whether it is a class
pub class_told : (heap : Heap) (number : ℕ) → is_class_head (head_at heap number) ≡ is_class (find_cell heap number)
class_told heap number = class_head (find_cell heap number)

declared_head : (shape : NewCell) → declared_at_head (head_of_shape shape) ≡ declaration_in shape
declared_head (Object class words) = refl
declared_head (Class decl base encl holder over) = refl
declared_head (Block body env home receiver holder) = refl
declared_head (Environment parent locals) = refl
declared_head (Array size) = refl
declared_head (Text bytes) = refl
declared_head (Facet kind) = refl
declared_head (Mirror mirrored) = refl
declared_head (Message sel args) = refl

-- the declaration of a class stands in its head
pub declaration_told : (heap : Heap) (class : ℕ) → declared_at_head (head_at heap class) ≡ declaration_of heap class
declaration_told heap class = declared_head (shape_at heap class)

base_head : (shape : NewCell) → base_at_head (head_of_shape shape) ≡ base_in shape
base_head (Object class words) = refl
base_head (Class decl base encl holder over) = refl
base_head (Block body env home receiver holder) = refl
base_head (Environment parent locals) = refl
base_head (Array size) = refl
base_head (Text bytes) = refl
base_head (Facet kind) = refl
base_head (Mirror mirrored) = refl
base_head (Message sel args) = refl

-- the base of a class stands in its head
pub base_told : (heap : Heap) (class : ℕ) → base_at_head (head_at heap class) ≡ base_of heap class
base_told heap class = base_head (shape_at heap class)

start_head : (shape : NewCell) (at : ℕ) → start_at_head (head_of_shape shape) at ≡ start_of_cell shape at
start_head (Object class words) at = refl
start_head (Class decl base encl holder over) at = refl
start_head (Block body env home receiver holder) at = refl
start_head (Environment parent locals) at = refl
start_head (Array size) at = refl
start_head (Text bytes) at = refl
start_head (Facet kind) at = refl
start_head (Mirror mirrored) at = refl
start_head (Message sel args) at = refl

-- the head of a cell tells where its lookup starts
pub start_told : (heap : Heap) (at : ℕ) → start_at_head (head_at heap at) at ≡ start_of_cell (shape_at heap at) at
start_told heap at = start_head (shape_at heap at) at

head_of_word : (first : Word) (words : List Word) → head_of_shape (shape_in first words) ≡ head_in first
head_of_word word.Nil words = refl
head_of_word word.True words = refl
head_of_word word.False words = refl
head_of_word (word.Int number) words = refl
head_of_word (word.Sym sel) words = refl
head_of_word (word.Kernel class) words = refl
head_of_word (word.Ref at) words = refl
head_of_word (word.NilWith beside) words = refl
head_of_word (word.TrueWith beside) words = refl
head_of_word (word.FalseWith beside) words = refl
head_of_word (word.IntWith beside number) words = refl
head_of_word (word.SymWith beside sel) words = refl
head_of_word (word.KernelWith beside class) words = refl
head_of_word (word.RefWith beside at) words = refl
head_of_word (word.Bytes bytes) words = refl
head_of_word (word.Object class count) words = refl
head_of_word (word.Class decl base) words = refl
head_of_word (word.Block body home) words = refl
head_of_word (word.Array size) words = refl
head_of_word (word.Text bytes) words = refl
head_of_word (word.Facet kind) words = refl
head_of_word word.Mirror words = refl
head_of_word (word.Message sel) words = refl

-- What is known of the first word of a live cell: that it is there, and what it tells.
pub record ReadsHead (heap : Heap) (words : List Word) (n : ℕ) : Type 0 where
  pub inside : n < length words
  pub told : (d : Word) → head_in (get_or words n d) ≡ head_at heap n

pub reads_head : (heap : Heap) (words : List Word) (n : ℕ) → laid_out heap ≡ words → IsSome (find_cell heap n) → ReadsHead heap words n
reads_head heap words n laid h = found (find_cell heap n) refl h
  where
    found : (o : Option Cell) → find_cell heap n ≡ o → IsSome o → ReadsHead heap words n
    found None e s = absurd (cc)
    found (Some cell) e s =
        let within : n < length words = omega (arith, found_below heap n cell e, length-laid_out heap, ap length laid) in
        record {
          inside = within;
          told = λ d. ap head_in (get_or_default words n d word.Nil within) ∙ (sym (head_of_word (get_or words n word.Nil) _) ∙ ap head_of_shape (shape_told heap words n laid h));
        }
