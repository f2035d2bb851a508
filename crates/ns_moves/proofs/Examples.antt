-- Worked examples of the actions.
use Rattle.std.specs.Prelude.{◌≡◌, ℕ, List, [], ◌∷◌, ◌++◌, Some, None, codes, pos}
use Rattle.std.specs.Fmt.{decimal}
use Rattle.std.proofs.Common.{refl}
use Rattle.ns_code.specs.declared.program.CodeProgram.{CodeProgram}
use Rattle.ns_world.specs.declared.value.Value.{Value}
use Rattle.ns_world.specs.declared.value.Value.TheVariants.{Nil, Int, Kernel, Ref}
use Rattle.ns_world.specs.declared.value.KClass.TheVariants.{Object, Array}
use Rattle.ns_world.specs.declared.kernel.ClassName.{ClassName}
use Rattle.ns_world.specs.declared.kernel.ClassName.TheVariants.{Declared, ClassOf, Kernel as KernelName}
use Rattle.ns_world.specs.declared.kernel_class.KernelRow.TheVariants as row
use Rattle.ns_world.specs.declared.ending.Kind.TheVariants as kind
use Rattle.ns_world.specs.declared.ending.LimitKind.TheVariants.{Steps, Depth, Cells}
use Rattle.ns_world.specs.declared.ending.Ending.TheVariants.{Done, Limit}
use Rattle.ns_world.specs.Cell.{ObjectCell, ClassCell, EnvironmentCell, ArrayCell, MessageCell}
use Rattle.ns_world.specs.Heap.{Heap}
use Rattle.ns_world.specs.World.{written}
use Rattle.ns_world.specs.declared.kernel_parts.KMethod.TheVariants as method
use Rattle.ns_kcode.specs.Rows.{beginning}
use Rattle.ns_moves.specs.declared.site.Site.{Site}
use Rattle.ns_moves.specs.Site.{error}
use Rattle.ns_moves.specs.Control.{Progress, in_world, Activation, FromMethod, FromBody, FromClause, Gives, Halts, Control, Enter, Evaluate, Begin, Skip, Stop, EnterPart, Waits, Finishes, gives, halts, fails}
use Rattle.ns_moves.specs.Bodies.{no_home}
use Rattle.ns_moves.specs.Classes.{super_part, body_ended}
use Rattle.ns_moves.specs.Blocks.{evaluated, method_next}
use Rattle.ns_moves.specs.Sends.{to_value, to_self, ToPrivate, ToSuper, sent}
use Rattle.ns_moves.specs.Report.{report_line}
use Rattle.ns_code.specs.Sample.{sel}
use Rattle.ns_moves.specs.Worked.{class_p, class_m, class_inner, small_world, small_code, small_cells, small_progress, small_site, in_m}

-- a run of these cells in which so many steps, frames and method activations were charged
abbrev at : Heap → ℕ → ℕ → ℕ → Progress
at cells steps depth begun =
    record (small_progress cells) { world = record (small_world cells) { steps = steps; depth = depth }; begun = begun }

abbrev start : Progress
start = at small_cells 0 0 5

-- a send to a value, with one argument or none
abbrev send : Value → ℕ → List Value → Control
send receiver name arguments = sent small_code in_m (to_value receiver) (sel name) arguments None start

abbrev site_of : ClassName → ℕ → Site
site_of class name = record { place = None; class = class; sel = sel name }

-- the M over M, in code of its own class
abbrev in_mixin : Activation
in_mixin = record in_m { self = Ref 16; holder = 8 }

-- a setter stores its argument and answers its receiver
setter_answers_its_receiver : send (Ref 13) 6 (Int (pos 7) ∷ []) ≡ gives (Ref 13) (in_world (at small_cells 1 0 5) (written (record (small_world small_cells) { steps = 1 }) 13 0 (Int (pos 7))))
setter_answers_its_receiver = refl

-- a mixin that is applied twice has a slot of each application
mixin_sets_its_own : send (Ref 16) 6 (Int (pos 7) ∷ []) ≡ gives (Ref 16) (in_world (at small_cells 1 0 5) (written (record (small_world small_cells) { steps = 1 }) 16 2 (Int (pos 7))))
mixin_sets_its_own = refl

super_sets_the_slot_above : sent small_code in_mixin ToSuper (sel 6) (Int (pos 9) ∷ []) None start ≡ gives (Ref 16) (in_world (at small_cells 1 0 5) (written (record (small_world small_cells) { steps = 1 }) 16 0 (Int (pos 9))))
super_sets_the_slot_above = refl

-- a protected member isn't public, a private one is not found, and `self` reaches both
hidden_from_outside : send (Ref 13) 14 [] ≡ fails kind.NotPublic (site_of (Declared 1) 14) (at small_cells 1 0 5)
hidden_from_outside = refl

secret_from_outside : send (Ref 13) 13 [] ≡ fails kind.NotUnderstood (site_of (Declared 1) 13) (at small_cells 1 0 5)
secret_from_outside = refl

secret_within : sent small_code in_m (ToPrivate 0) (sel 13) [] None start
    ≡ Enter FromMethod (record { self = Ref 13; holder = 4; body = 3; home = 5; env = Nil; site = site_of (Declared 1) 13 }) [] (at small_cells 1 1 6)
secret_within = refl

-- the locals of a body in which a block stands are in an environment
hidden_within : sent small_code in_m (to_self in_m) (sel 14) [] None start
    ≡ Enter FromMethod (record { self = Ref 13; holder = 4; body = 4; home = 5; env = Ref 26; site = site_of (Declared 1) 14 }) [] (at (EnvironmentCell Nil (Nil ∷ []) ∷ small_cells) 1 1 6)
hidden_within = refl

-- what isn't understood goes on with a Message, whose array and cell are charged behind the frame
message_is_made : send (Ref 12) 3 (Int (pos 3) ∷ [])
    ≡ Enter FromMethod (record { self = Ref 12; holder = 0; body = 1; home = 5; env = Nil; site = site_of (Declared 0) 3 }) (Ref 28 ∷ [])
    (at (MessageCell (sel 3) (Ref 26) ∷ ArrayCell (Int (pos 3) ∷ []) ∷ small_cells) 1 1 6)
message_is_made = refl

not_understood : send (Ref 13) 3 (Int (pos 3) ∷ []) ≡ fails kind.NotUnderstood (site_of (Declared 1) 3) (at small_cells 1 0 5)
not_understood = refl

-- a factory makes the object and begins its initialiser
factory_begins : send (Ref 4) 1 []
    ≡ Enter FromBody (record { self = Ref 26; holder = 4; body = 2; home = no_home; env = Nil; site = site_of (ClassOf 1) 1 }) [] (at (ObjectCell 4 (Nil ∷ Nil ∷ []) ∷ small_cells) 1 1 5)
factory_begins = refl

-- the part of a declared superclass is entered, and that of Object passed over
part_of_the_superclass : super_part small_code in_mixin [] start
    ≡ EnterPart (record { self = Ref 16; holder = 4; body = 2; home = no_home; env = Nil; site = small_site }) [] (at small_cells 0 1 5)
part_of_the_superclass = refl

part_of_object : super_part small_code in_m [] start ≡ Skip start
part_of_object = refl

-- a superclass's factory is to be what was sent, also Object's, which is `new`
abbrev with_message : ℕ → CodeProgram
with_message name = record small_code { classes = class_p ∷ record class_m { super_sel = sel name } ∷ class_inner ∷ [] }

no_factory_of_the_superclass : super_part (with_message 5) in_mixin [] start ≡ Stop (error kind.InitMismatch small_site) start
no_factory_of_the_superclass = refl

no_factory_of_object : super_part (with_message 5) in_m [] start ≡ Stop (error kind.InitMismatch small_site) start
no_factory_of_object = refl

-- a nested class: the head of its clause first, with the enclosing object as self
head_begins : send (Ref 13) 7 []
    ≡ Enter (FromClause 13 4 2) (record { self = Ref 13; holder = 4; body = 5; home = no_home; env = Nil; site = site_of (Declared 1) 7 }) [] (at small_cells 1 1 5)
head_begins = refl

abbrev in_head : Activation
in_head = record in_m { body = 5; site = site_of (Declared 1) 7 }

class_is_kept : body_ended small_code (FromClause 13 4 2) in_head (Kernel Object) (at small_cells 1 1 5)
    ≡ Gives (Ref 26) (in_world (at small_cells 1 0 5) (written (record (small_world (ClassCell 2 0 (Ref 13) (Ref 4) (Kernel Object) ∷ small_cells)) { steps = 1 }) 13 1 (Ref 26)))
class_is_kept = refl

-- one that is kept is the answer, and its clause isn't begun again
abbrev keeping : Progress
keeping = in_world start (written (small_world small_cells) 13 1 (Ref 8))

kept_class_is_answered : sent small_code in_m (to_value (Ref 13)) (sel 7) [] None keeping ≡ gives (Ref 8) (in_world start (written (record (small_world small_cells) { steps = 1 }) 13 1 (Ref 8)))
kept_class_is_answered = refl

head_is_no_class : body_ended small_code (FromClause 13 4 2) in_head (Int (pos 3)) (at small_cells 1 1 5) ≡ Halts (error kind.NotAClass (site_of (Declared 1) 7)) (at small_cells 1 0 5)
head_is_no_class = refl

head_is_the_kernels : body_ended small_code (FromClause 13 4 2) in_head (Kernel Array) (at small_cells 1 1 5) ≡ Halts (error kind.KernelSuper (site_of (Declared 1) 7)) (at small_cells 1 0 5)
head_is_the_kernels = refl

-- mixin application
class_is_mixed : send (Ref 4) 10 (Ref 8 ∷ []) ≡ gives (Ref 26) (at (ClassCell 1 4 Nil Nil (Ref 8) ∷ small_cells) 1 0 5)
class_is_mixed = refl

-- `value` is a send and an evaluation: the block waits, and its arity is checked before its step
block_waits : send (Ref 23) 11 [] ≡ Evaluate (Ref 23) [] (site_of (KernelName row.Block) 11) (at small_cells 1 0 5)
block_waits = refl

block_is_entered : evaluated small_code (Ref 23) (Int (pos 1) ∷ []) small_site start
    ≡ Enter FromBody (record { self = Ref 13; holder = 4; body = 7; home = 3; env = Nil; site = small_site }) (Int (pos 1) ∷ []) (at small_cells 1 1 5)
block_is_entered = refl

wrong_arity : evaluated small_code (Ref 23) [] small_site start ≡ fails kind.WrongArity small_site start
wrong_arity = refl

-- a loop begins with its frame; each turn charges its step and waits for the block
loop_begins : send (Int (pos 1)) 12 (Int (pos 2) ∷ Ref 23 ∷ [])
    ≡ Begin method.ToDo (beginning (Int (pos 1)) (Int (pos 2)) (Ref 23) (pos 0)) (site_of (KernelName row.Integer) 12) (at small_cells 1 1 5)
loop_begins = refl

turn_waits : method_next method.ToDo (beginning (Int (pos 1)) (Int (pos 2)) (Ref 23) (pos 0)) small_site (at small_cells 1 1 5)
    ≡ Waits (Ref 23) (Int (pos 1) ∷ []) (record (beginning (Int (pos 1)) (Int (pos 2)) (Ref 23) (pos 0)) { count = pos 1 }) (at small_cells 2 1 5)
turn_waits = refl

loop_ends : method_next method.ToDo (record (beginning (Int (pos 1)) (Int (pos 2)) (Ref 23) (pos 0)) { count = pos 2; last = Some Nil }) small_site (at small_cells 3 1 5)
    ≡ Finishes (Gives (Int (pos 1)) (at small_cells 3 0 5))
loop_ends = refl

no_block : send (Int (pos 1)) 12 (Int (pos 2) ∷ Nil ∷ []) ≡ fails kind.WrongKind (site_of (KernelName row.Integer) 12) (at small_cells 1 0 5)
no_block = refl

-- a row of the kernel: errors first, and then the one change
array_is_written : send (Ref 21) 9 (Int (pos 1) ∷ Int (pos 5) ∷ [])
    ≡ gives (Int (pos 5)) (in_world (at small_cells 1 0 5) (written (record (small_world small_cells) { steps = 1 }) 21 0 (Int (pos 5))))
array_is_written = refl

out_of_range : send (Ref 21) 9 (Int (pos 2) ∷ Int (pos 5) ∷ []) ≡ fails kind.OutOfRange (site_of (KernelName row.Array) 9) (at small_cells 1 0 5)
out_of_range = refl

-- a limit stops a charge, and nothing is charged
no_step_is_left : sent small_code in_m (to_value (Ref 13)) (sel 5) [] None (at small_cells 10 0 5) ≡ halts (Limit Steps) (at small_cells 10 0 5)
no_step_is_left = refl

no_frame_is_left : sent small_code in_m (ToPrivate 0) (sel 13) [] None (at small_cells 0 10 5) ≡ halts (Limit Depth) (at small_cells 1 10 5)
no_frame_is_left = refl

-- report lines
result_line : report_line small_cells small_code [] (Done (Ref 13)) ≡ codes "=> object M\n"
result_line = refl

class_line : report_line small_cells small_code [] (Done (Ref 4)) ≡ codes "=> class M\n"
class_line = refl

error_line : report_line small_cells small_code (codes "T.ns" ∷ []) (error kind.NotUnderstood (record { place = Some (record { file = 0; line = 2; col = 30 }); class = KernelName row.Integer; sel = sel 3 }))
    ≡ codes "T.ns" ++ codes ":" ++ decimal 2 ++ codes ":" ++ decimal 30 ++ codes ": " ++ codes "NotUnderstood" ++ codes " " ++ codes "Integer" ++ codes " " ++ codes "go:" ++ 10 ∷ []
error_line = refl

image_line : report_line small_cells small_code [] (error kind.NotAClass (site_of (ClassOf 1) 10)) ≡ codes "image: NotAClass M class <:\n"
image_line = refl

limit_line : report_line small_cells small_code [] (Limit Cells) ≡ codes "limit: cells\n"
limit_line = refl
