-- The checks before a class is made.
use Rattle.std.specs.Prelude.{◌≡◌, ℕ, List, length, nat_lt, Option, Some, None, Result, Ok, Err, Bool, true, false, if◌then◌else◌}
use Rattle.ns_world.specs.declared.value.Value.{Value}
use Rattle.ns_world.specs.declared.value.Value.TheVariants.{Kernel, Ref}
use Rattle.ns_world.specs.declared.value.KClass.{KClass}
use Rattle.ns_world.specs.declared.value.KClass.TheVariants.{Object, Array}
use Rattle.ns_code.specs.declared.program.CodeProgram.{CodeProgram}
use Rattle.ns_world.specs.Cell.{Cell, ClassCell}
use Rattle.ns_world.specs.Heap.{Heap, heap_size, find_cell, is_class, chain_of}
use Rattle.ns_world.specs.Layout.{entries_above}
use Rattle.ns_world.specs.World.{WorldView, made, SameRoom}
use Rattle.ns_classes.specs.declared.apply.MakeFault.{MakeFault}
use Rattle.ns_classes.specs.declared.apply.MakeFault.TheVariants.{NotAClass, KernelSuper, ChainLimit, CellLimit}

-- a chain of 256 declared classes is as long as it may be
abbrev pub chain_fault : List ℕ → Option MakeFault
chain_fault chain = if nat_lt 255 (length chain) then Some ChainLimit else None

-- of the kernel's classes only Object may be a superclass
abbrev pub kernel_fault : KClass → Option MakeFault
kernel_fault Object = None
kernel_fault Array = Some KernelSuper

-- a cell that is no class may not be a superclass
abbrev pub declared_fault : Heap → ℕ → Option MakeFault
declared_fault heap class = if is_class (find_cell heap class) then chain_fault (chain_of heap class) else Some NotAClass

-- the first fault of a superclass
abbrev pub class_fault : Heap → Value → Option MakeFault
class_fault heap (Kernel class) = kernel_fault class
class_fault heap (Ref class) = declared_fault heap class
class_fault heap _ = Some NotAClass

-- whether a kernel class is Object
abbrev pub is_object : KClass → Bool
is_object Object = true
is_object Array = false

-- a class of a declaration over a superclass, whose entries stand behind those of the superclass
abbrev pub class_cell : Heap → CodeProgram → ℕ → Value → Value → Value → Cell
class_cell heap code decl encl holder over = ClassCell decl (entries_above heap code over) encl holder over

-- A check answers the fault, if there is one, and a superclass that passes is one.
abbrev pub Checks : Option MakeFault → Bool → Result (Unit {0}) MakeFault → Type 0
Checks fault superclass (Ok done) = (fault ≡ None) × (superclass ≡ true)
Checks fault superclass (Err found) = fault ≡ Some found

-- A class is made where no fault holds and its cell fits; else the first of these is answered, and nothing changes.
abbrev pub AppliesClass : Option MakeFault → WorldView → Cell → Result ℕ MakeFault → WorldView → Type 0
AppliesClass (Some fault) old cell (Ok number) new = ⊥
AppliesClass (Some fault) old cell (Err found) new = (found ≡ fault) × (new ≡ old)
AppliesClass None old cell (Ok number) new =
    (made old.world cell ≡ Some new.world) × (number ≡ heap_size old.world.cells) × SameRoom old new
AppliesClass None old cell (Err found) new = (found ≡ CellLimit) × (made old.world cell ≡ None) × (new ≡ old)
