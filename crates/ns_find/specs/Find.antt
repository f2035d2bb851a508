-- Lookup: the members that a start looks through, and what a selector finds among them.
use Rattle.std.specs.Prelude.{ℕ, List, ◌++◌, Bool, true, false, IsTrue, unwrap_or, if◌then◌else◌}
use Rattle.ns_code.specs.declared.program.CodeProgram.{CodeProgram}
use Rattle.ns_world.specs.declared.kernel.Start.{Start}
use Rattle.ns_world.specs.declared.kernel.Start.TheVariants.{Instance, ClassSide as SideStart, Kernel}
use Rattle.ns_world.specs.declared.kernel_class.KernelRow.TheVariants.{Object, Class}
use Rattle.ns_world.specs.Heap.{Heap, find_cell, is_class, is_chain_start, chain_of, superclass_of}
use Rattle.ns_find.specs.declared.found.Found.{Found}
use Rattle.ns_find.specs.declared.found.Found.TheVariants.{Absent}
use Rattle.ns_find.specs.declared.found.Sending.{Sending}
use Rattle.ns_find.specs.declared.found.Sending.TheVariants.{Inner}
use Rattle.ns_find.specs.declared.members.Wanted.TheVariants.{Private}
use Rattle.ns_find.specs.declared.members.Side.{Side}
use Rattle.ns_find.specs.declared.members.Side.TheVariants.{Instance as InstanceSide, Class as ClassSide}
use Rattle.ns_find.specs.Members.{Member, search, members_along, holder_members, factory_member}
use Rattle.ns_find.specs.Rows.{kernel_rows}

-- those of a class side but for the factory: along the chain, and then those of the kernel's classes
abbrev pub class_side_members : Heap → CodeProgram → ℕ → List Member
class_side_members heap code class =
    members_along heap code ClassSide (chain_of heap class) ++ (kernel_rows heap code Class ++ kernel_rows heap code Object)

-- the members that a lookup looks through, in order
abbrev pub members_from : Heap → CodeProgram → Start → List Member
members_from heap code (Instance class) = members_along heap code InstanceSide (chain_of heap class) ++ kernel_rows heap code Object
members_from heap code (SideStart class factory) = factory_member heap code class factory ++ class_side_members heap code class
members_from heap code (Kernel row) = kernel_rows heap code row ++ kernel_rows heap code Object

-- what a lookup finds
abbrev pub found_from : Heap → CodeProgram → Start → ℕ → Sending → Found
found_from heap code start sel kind = unwrap_or (search code sel kind (members_from heap code start)) Absent

-- the private member of a holder's declaration
abbrev pub found_private : Heap → CodeProgram → ℕ → Side → ℕ → Found
found_private heap code holder side sel = unwrap_or (search code sel Inner (holder_members heap code Private side holder)) Absent

-- the side that a flag tells
abbrev pub side_of : Bool → Side
side_of true = ClassSide
side_of false = InstanceSide

-- where a send to super starts: above the holder of the running code, on its side, without a factory
abbrev pub super_start : Heap → ℕ → Side → Start
super_start heap holder InstanceSide = Instance (superclass_of heap holder)
super_start heap holder ClassSide = SideStart (superclass_of heap holder) false

-- whether a lookup can start there: at a class, at the empty chain without a factory, or at a kernel class
abbrev pub is_start : Heap → Start → Bool
is_start heap (Instance class) = is_chain_start heap class
is_start heap (SideStart class factory) = if factory then is_class (find_cell heap class) else is_chain_start heap class
is_start heap (Kernel row) = true

-- A lookup can start there.
abbrev pub CanStart : Start → Heap → CodeProgram → Type 0
CanStart start heap code = IsTrue (is_start heap start)
