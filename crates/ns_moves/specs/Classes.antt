-- Instances, nested classes, mixin application and superclass parts.
use Rattle.std.specs.Prelude.{ℕ, List, [], ◌∷◌, replicate, slice_get, codes, Option, Some, None, ◌==◌, if◌then◌else◌}
use Rattle.std.specs.Option.{option_map_or}
use Rattle.std.specs.Str.{bytes_eq}
use Rattle.ns_code.specs.declared.program.CodeProgram.{CodeProgram}
use Rattle.ns_code.specs.declared.class.ClassCode.{ClassCode}
use Rattle.ns_code.specs.Selector.{selector_text}
use Rattle.ns_world.specs.declared.value.Value.{Value}
use Rattle.ns_world.specs.declared.value.Value.TheVariants.{Nil, Kernel, Ref}
use Rattle.ns_world.specs.declared.value.KClass.TheVariants.{Object}
use Rattle.ns_world.specs.declared.cell.NewCell.{NewCell}
use Rattle.ns_world.specs.declared.cell.NewCell.TheVariants as new
use Rattle.ns_world.specs.declared.ending.Kind.TheVariants.{InitMismatch, NotAClass}
use Rattle.ns_world.specs.declared.ending.LimitKind.TheVariants.{Cells, Depth}
use Rattle.ns_world.specs.Cell.{Cell, ObjectCell}
use Rattle.ns_world.specs.Heap.{Heap, heap_size, find_cell, superclass_in}
use Rattle.ns_world.specs.World.{World, made, entered, written, stored}
use Rattle.ns_world.specs.Layout.{declaration_of, layout_of, entry_word}
use Rattle.ns_classes.specs.declared.apply.MakeFault.{MakeFault}
use Rattle.ns_classes.specs.Apply.{class_fault, class_cell}
use Rattle.ns_classes.specs.Nested.{kept_class, nested_entry}
use Rattle.ns_moves.specs.declared.site.Site.{Site}
use Rattle.ns_moves.specs.Site.{error, fault_ending, make_fault}
use Rattle.ns_moves.specs.Control.{Progress, in_world, Activation, Exit, FromMethod, FromBody, FromClause, After, Gives, Halts, Control, Now, Enter}
use Rattle.ns_moves.specs.Control.{PartControl, Skip, Stop, EnterPart, halts, charged, frame_left}
use Rattle.ns_moves.specs.Bodies.{initialiser_of, clause_of, no_home, opened}

-- ---- making a class

-- A class whose superclass was checked: its cells are charged, and it goes on with its number.
abbrev pub class_made : Cell → Option MakeFault → Site → Progress → (ℕ → Progress → After) → After
class_made cell (Some fault) site progress go = Halts (fault_ending (make_fault fault) site) progress
class_made cell None site progress go = charged Halts Cells (made progress.world cell) progress (go (heap_size progress.world.cells))

-- Mixin application: a new class of the mixin's declaration and enclosing object over another superclass
-- (this profile's spelling of it is `<:`).
abbrev pub mixed : CodeProgram → NewCell → Value → Site → Progress → After
mixed code (new.Class decl base encl holder under) over site progress =
    class_made (class_cell progress.world.cells code decl encl holder over) (class_fault progress.world.cells over) site progress (λ number progress. Gives (Ref number) progress)
mixed code cell over site progress = Halts (error NotAClass site) progress

-- ---- nested classes

-- the world in which an object keeps a class of a holder's declaration
abbrev pub keeping : CodeProgram → ℕ → ℕ → ℕ → ℕ → World → World
keeping code object holder class number world =
    written world object (entry_word world.cells code holder (nested_entry code (declaration_of world.cells holder) class)) (Ref number)

-- A nested class over a superclass, where none is kept: it is checked, made and kept.
abbrev pub newly_kept : CodeProgram → ℕ → ℕ → ℕ → Value → Site → Progress → After
newly_kept code object holder class over site progress =
    class_made (class_cell progress.world.cells code class (Ref object) (Ref holder) over) (class_fault progress.world.cells over) site progress
    (λ number progress. Gives (Ref number) (in_world progress (keeping code object holder class number progress.world)))

-- the class that is kept, or else a new one
abbrev pub kept_or : Option ℕ → Progress → After → After
kept_or (Some kept) progress new = Gives (Ref kept) progress
kept_or None progress new = new

-- what becomes of a nested class when its superclass is known: one may be kept by then
abbrev pub class_over : CodeProgram → ℕ → ℕ → ℕ → Value → Site → Progress → After
class_over code object holder class over site progress =
    kept_or (kept_class progress.world.cells code object holder class) progress (newly_kept code object holder class over site progress)

-- code that begins without a home, and without an environment around it
abbrev pub without_home : Value → ℕ → ℕ → Site → Activation
without_home self holder body site = record { self = self; holder = holder; body = body; home = no_home; env = Nil; site = site }

-- the initialiser of a class, with that self
abbrev pub initialising : Heap → CodeProgram → Value → ℕ → Site → Activation
initialising heap code self class site = without_home self class (initialiser_of code (declaration_of heap class)) site

-- the head of a clause, in a frame of its own with the enclosing object as self; without one the
-- superclass is the kernel's Object
abbrev pub head : CodeProgram → ℕ → ℕ → ℕ → Option ℕ → Site → Progress → Control
head code object holder class None site progress = Now (class_over code object holder class (Kernel Object) site progress)
head code object holder class (Some clause) site progress =
    charged halts Depth (entered progress.world) progress
    (opened code halts (Enter (FromClause object holder class)) (without_home (Ref object) holder clause site) [])

-- a nested class of an object and a holder: the one that is kept, or else the head of its clause first
-- (Modules as Objects in Newspeak, on nested classes)
abbrev pub nested : CodeProgram → ℕ → ℕ → ℕ → Option ℕ → Site → Progress → Control
nested code object holder class (Some kept) site progress = Now (Gives (Ref kept) progress)
nested code object holder class None site progress = head code object holder class (clause_of code class) site progress

-- ---- instances

-- A factory: a new object of the class, all of whose entries are nil, and then its initialiser. The frame is
-- charged before the object, and the object before its initialiser's environment.
abbrev pub instance : CodeProgram → ℕ → List Value → Site → Progress → Control
instance code class arguments site progress =
    charged halts Cells (made progress.world (ObjectCell class (replicate (layout_of progress.world.cells code class) Nil))) progress
    (opened code halts (Enter FromBody)
    (initialising progress.world.cells code (Ref (heap_size progress.world.cells)) class site) arguments)

-- the selector of a declaration's superclass message, and of its factory
abbrev pub super_selector : CodeProgram → ℕ → ℕ
super_selector code decl = option_map_or (λ (class : ClassCode). class.super_sel.0) (slice_get code.classes decl) 0

abbrev pub factory_selector : CodeProgram → ℕ → ℕ
factory_selector code decl = option_map_or (λ (class : ClassCode). class.factory.0) (slice_get code.classes decl) 0

-- The part of a declared superclass: its factory must be what was sent, and its initialiser runs with the same self.
abbrev pub declared_part : CodeProgram → Activation → ℕ → ℕ → List Value → Progress → PartControl
declared_part code activation over sel arguments progress =
    if sel == factory_selector code (declaration_of progress.world.cells over)
    then charged Stop Depth (entered progress.world) progress
    (opened code Stop EnterPart (initialising progress.world.cells code activation.self over activation.site) arguments)
    else Stop (error InitMismatch activation.site) progress

-- The part of the kernel's Object: its factory is `new`, and it does nothing.
abbrev pub object_part : CodeProgram → Activation → ℕ → Progress → PartControl
object_part code activation sel progress =
    if bytes_eq (selector_text code sel) (codes "new") then Skip progress else Stop (error InitMismatch activation.site) progress

-- the part of a superclass
abbrev pub part_of : CodeProgram → Activation → Value → ℕ → List Value → Progress → PartControl
part_of code activation (Ref over) sel arguments progress = declared_part code activation over sel arguments progress
part_of code activation over sel arguments progress = object_part code activation sel progress

-- The part of the superclass of the class whose initialiser runs, with the arguments of its superclass message.
abbrev pub super_part : CodeProgram → Activation → List Value → Progress → PartControl
super_part code activation arguments progress =
    part_of code activation (superclass_in (find_cell progress.world.cells activation.holder))
    (super_selector code (declaration_of progress.world.cells activation.holder)) arguments progress

-- a slot of the holder filled in self
abbrev pub slot_filled : CodeProgram → Activation → ℕ → Value → Progress → Progress
slot_filled code activation slot value progress =
    in_world progress (stored progress.world activation.self (entry_word progress.world.cells code activation.holder slot) value)

-- ---- the end of a body

-- what the value of a body comes to when its frame is given back
abbrev pub body_ended : CodeProgram → Exit → Activation → Value → Progress → After
body_ended code FromMethod activation value progress = Gives value (frame_left progress)
body_ended code FromBody activation value progress = Gives value (frame_left progress)
body_ended code (FromClause object holder class) activation value progress =
    class_over code object holder class value activation.site (frame_left progress)

-- the object that keeps a class when a clause's head has ended
abbrev pub kept_by : Exit → List Value
kept_by (FromClause object holder class) = Ref object ∷ []
kept_by exit = []
