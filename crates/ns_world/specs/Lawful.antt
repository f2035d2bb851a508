-- Which worlds a run of some code can be in, as far as its cells tell.
use Rattle.std.specs.Prelude.{◌≡◌, ℕ, ◌+◌, ◌≤◌, List, length, Option, Some, None, slice_get, IsTrue, IsSome, All, Contains, zero, suc, Bool, true, false, ◌||◌, ◌==◌}
use Rattle.std.specs.Option.{option_map_or, ForSome}
use Rattle.ns_base.specs.declared.selector.Sel.{Sel}
use Rattle.ns_code.specs.declared.program.CodeProgram.{CodeProgram}
use Rattle.ns_code.specs.declared.class.ClassCode.{ClassCode}
use Rattle.ns_code.specs.declared.class.NestedCode.{NestedCode}
use Rattle.ns_code.specs.declared.body.BodyCode.{BodyCode}
use Rattle.ns_code.specs.Fits.{Fits}
use Rattle.ns_code.specs.Selector.{is_selector_number, selector_arity}
use Rattle.ns_code.specs.Soundness.{has_sound_classes, are_parents_earlier, block_kind, class_side, instance_side}
use Rattle.ns_world.specs.declared.value.Value.{Value}
use Rattle.ns_world.specs.declared.value.Value.TheVariants.{Nil, Sym, Ref}
use Rattle.ns_world.specs.Cell.{Cell, ObjectCell, ClassCell, BlockCell, EnvironmentCell, ArrayCell, TextCell, FacetCell, MirrorCell, MessageCell}
use Rattle.ns_world.specs.Heap.{Heap, find_cell, is_class, chain_of, no_class, is_ordered}
use Rattle.ns_world.specs.World.{World, IsWithin}
use Rattle.ns_world.specs.Starts.{is_receiver}
use Rattle.ns_world.specs.Layout.{declaration_of, layout_of, layout_above, entry_word}

-- A reference names a cell, and a symbol is a name of the code or one of the machine's own.
abbrev pub IsLive : Heap → CodeProgram → Value → Type 0
IsLive heap code (Ref at) = IsSome (find_cell heap at)
IsLive heap code (Sym sel) = IsTrue (is_selector_number code sel.0)
IsLive heap code _ = Unit {0}

-- a live value that is no environment
abbrev pub IsLiveValue : Heap → CodeProgram → Value → Type 0
IsLiveValue heap code value = IsLive heap code value × IsTrue (is_receiver heap value)

-- whether a cell is an environment
abbrev pub is_environment : Option Cell → Bool
is_environment (Some (EnvironmentCell parent locals)) = true
is_environment _ = false

-- Nil, or an environment.
abbrev pub IsEnvironmentOrNil : Heap → Value → Type 0
IsEnvironmentOrNil heap Nil = Unit {0}
IsEnvironmentOrNil heap (Ref at) = IsTrue (is_environment (find_cell heap at))
IsEnvironmentOrNil heap _ = ⊥

-- An object's chain begins at its class.
abbrev pub class_of_object : Option Cell → Option ℕ
class_of_object (Some (ObjectCell class entries)) = Some class
class_of_object _ = None

-- A value is an object, in whose chain this class stands.
abbrev pub HasHolder : Heap → Value → ℕ → Type 0
HasHolder heap (Ref at) holder =
    ForSome (class_of_object (find_cell heap at)) (λ class. Contains (chain_of heap class) holder) × IsSome (class_of_object (find_cell heap at))
HasHolder heap _ holder = ⊥

-- The enclosing object and holder of a class are those that its declaration asks for: nil for a
-- top-level one, else an object with the holder in its chain, whose declaration is the outer one.
abbrev pub HasEnclosing : Heap → CodeProgram → Option ℕ → Value → Value → Type 0
HasEnclosing heap code None encl holder = (encl ≡ Nil) × (holder ≡ Nil)
HasEnclosing heap code (Some outer) encl (Ref holder) =
    HasHolder heap encl holder × IsTrue (is_class (find_cell heap holder)) × (declaration_of heap holder ≡ outer)
HasEnclosing heap code (Some outer) encl _ = ⊥

-- A class: its declaration is one of the code, its base is how many entries the classes above it have, its chain is
-- at most 256 long, and its enclosing two fit.
pub record ClassIsLawful (heap : Heap) (code : CodeProgram) (number decl base : ℕ) (encl holder : Value) : Type 0 where
  pub declared : IsSome (slice_get code.classes decl)
  pub based : base ≡ layout_above heap code number
  pub short : length (chain_of heap number) ≤ 256
  pub enclosing : ForSome (slice_get code.classes decl) (λ (class : ClassCode). HasEnclosing heap code class.outer encl holder)

-- a class of that declaration that is enclosed by this object and holder
abbrev pub IsKeptCell : ℕ → ℕ → ℕ → Option Cell → Type 0
IsKeptCell object holder decl (Some (ClassCell other base encl holder' over)) =
    (other ≡ decl) × (encl ≡ Ref object) × (holder' ≡ Ref holder)
IsKeptCell object holder decl _ = ⊥

-- what a word for a nested class holds: nil, or a class of that declaration that is enclosed by this object and holder
abbrev pub IsKept : Heap → ℕ → ℕ → ℕ → Value → Type 0
IsKept heap object holder decl Nil = Unit {0}
IsKept heap object holder decl (Ref class) = IsKeptCell object holder decl (find_cell heap class)
IsKept heap object holder decl _ = ⊥

-- An object: it has a word for each entry of its chain, those of its nested classes are kept classes, and
-- an instance of the kernel's Object has none.
pub record ObjectIsLawful (heap : Heap) (code : CodeProgram) (number class : ℕ) (entries : List Value) : Type 0 where
  pub class_is : IsTrue (is_class (find_cell heap class) || class == no_class)
  pub words : length entries ≡ layout_of heap code class
  pub kept : (holder : ℕ) → Contains (chain_of heap class) holder
      → ForSome (slice_get code.classes (declaration_of heap holder))
      (λ (declared : ClassCode). (k : ℕ) (nested : NestedCode) (value : Value) → slice_get declared.nested k ≡ Some nested
      → slice_get entries (entry_word heap code holder (length declared.slots + k)) ≡ Some value → IsKept heap number holder nested.class value)

-- A self and a holder fit a body: the holder is a class of the body's declaration, in the chain of self,
-- which is an object on the instance side and a class on the class side.
abbrev pub FitsBody : Heap → CodeProgram → BodyCode → Value → ℕ → Type 0
FitsBody heap code body (Ref self) holder =
    IsTrue (is_class (find_cell heap holder)) × (declaration_of heap holder ≡ body.class)
    × (body.side ≡ instance_side → HasHolder heap (Ref self) holder)
    × (body.side ≡ class_side → IsTrue (is_class (find_cell heap self)) × Contains (chain_of heap self) holder)
FitsBody heap code body _ holder = ⊥

-- the number of a body's parent
abbrev pub parent_of : CodeProgram → ℕ → Option ℕ
parent_of code body = option_map_or (λ (b : BodyCode). b.parent) (slice_get code.bodies body) None

-- the locals of an environment
abbrev pub environment_in : Option Cell → Option (Value × List Value)
environment_in (Some (EnvironmentCell parent locals)) = Some (parent, locals)
environment_in _ = None

-- An environment fits a body: it has as many locals, and its parent fits the body's parent, or is nil where the body has none.
abbrev pub FitsEnvironment : ℕ → Heap → CodeProgram → Option ℕ → Value → Type 0
FitsEnvironment depth heap code None env = env ≡ Nil
FitsEnvironment zero heap code (Some body) env = ⊥
FitsEnvironment (suc depth) heap code (Some body) (Ref at) =
    ForSome (environment_in (find_cell heap at))
    (λ e. ForSome (slice_get code.bodies body) (λ (b : BodyCode). (length e.1 ≡ b.locals) × FitsEnvironment depth heap code b.parent e.0))
    × IsSome (environment_in (find_cell heap at)) × IsSome (slice_get code.bodies body)
FitsEnvironment (suc depth) heap code (Some body) _ = ⊥

-- A block: it names a block's body, which its self, holder and environment fit.
pub record BlockIsLawful (heap : Heap) (code : CodeProgram) (number : ℕ) (env receiver : Value) (holder : ℕ) : Type 0 where
  pub declared : IsSome (slice_get code.bodies number)
  pub is_block : ForSome (slice_get code.bodies number) (λ (body : BodyCode). body.kind ≡ block_kind)
  pub fits : ForSome (slice_get code.bodies number) (λ (body : BodyCode). FitsBody heap code body receiver holder)
  pub environment : ForSome (slice_get code.bodies number) (λ (body : BodyCode). FitsEnvironment (number + 1) heap code body.parent env)

-- A message: a selector, and an array of as many elements as it takes arguments.
abbrev pub HasArguments : CodeProgram → Sel → Option Cell → Type 0
HasArguments code sel (Some (ArrayCell items)) = length items ≡ selector_arity code sel.0
HasArguments code sel _ = ⊥

abbrev pub MessageIsLawful : Heap → CodeProgram → Sel → Value → Type 0
MessageIsLawful heap code sel (Ref at) = IsTrue (is_selector_number code sel.0) × HasArguments code sel (find_cell heap at)
MessageIsLawful heap code sel _ = ⊥

-- what is asked of one cell
abbrev pub CellIsLawful : Heap → CodeProgram → ℕ → Cell → Type 0
CellIsLawful heap code number (ObjectCell class entries) =
    ObjectIsLawful heap code number class entries × All (IsLiveValue heap code) entries
CellIsLawful heap code number (ClassCell decl base encl holder over) = ClassIsLawful heap code number decl base encl holder
CellIsLawful heap code number (BlockCell body env home receiver holder) = BlockIsLawful heap code body env receiver holder
CellIsLawful heap code number (EnvironmentCell parent locals) = IsEnvironmentOrNil heap parent × All (IsLiveValue heap code) locals
CellIsLawful heap code number (ArrayCell items) = All (IsLiveValue heap code) items
CellIsLawful heap code number (TextCell bytes) = Unit {0}
CellIsLawful heap code number (FacetCell kind) = Unit {0}
CellIsLawful heap code number (MirrorCell mirrored) = IsLiveValue heap code mirrored
CellIsLawful heap code number (MessageCell sel args) = MessageIsLawful heap code sel args

-- The counters are within their limits, each class has its superclass before it, the code has an image
-- and sound class records, and each cell is lawful.
pub record IsLawful (world : World) (code : CodeProgram) : Type 0 where
  pub within : IsWithin world
  pub ordered : IsTrue (is_ordered world.cells)
  pub fits : Fits code
  pub parents : IsTrue (are_parents_earlier 0 code.bodies)
  pub classes : IsTrue (has_sound_classes code)
  pub cells : (number : ℕ) (cell : Cell) → find_cell world.cells number ≡ Some cell → CellIsLawful world.cells code number cell
