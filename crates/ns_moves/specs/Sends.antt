-- The five sends: to what, from where and how far a selector is looked up, and what is done with what is found
-- (Newspeak draft specification, on message sends; how private members are reached is this profile's).
use Rattle.std.specs.Prelude.{ℕ, suc, List, [], ◌∷◌, Option}
use Rattle.ns_base.specs.declared.place.Place.{Place as SourcePlace}
use Rattle.ns_base.specs.declared.selector.Sel.{Sel}
use Rattle.ns_code.specs.declared.program.CodeProgram.{CodeProgram}
use Rattle.ns_code.specs.declared.own.Own.{Own}
use Rattle.ns_code.specs.declared.own.Own.TheVariants.{DoesNotUnderstand}
use Rattle.ns_code.specs.Selector.{own_number}
use Rattle.ns_world.specs.declared.value.Value.{Value}
use Rattle.ns_world.specs.declared.value.Value.TheVariants.{Nil, Ref}
use Rattle.ns_world.specs.declared.ending.Kind.TheVariants as kind
use Rattle.ns_world.specs.declared.ending.LimitKind.TheVariants.{Steps, Depth, Cells}
use Rattle.ns_world.specs.Cell.{ArrayCell, MessageCell}
use Rattle.ns_world.specs.Heap.{Heap, heap_size, word_of_object}
use Rattle.ns_world.specs.World.{made, stepped, entered, stored}
use Rattle.ns_world.specs.Starts.{start_of, class_name_of}
use Rattle.ns_find.specs.declared.found.Found.{Found}
use Rattle.ns_find.specs.declared.found.Found.TheVariants as found
use Rattle.ns_find.specs.declared.found.Sending.{Sending}
use Rattle.ns_find.specs.declared.found.Sending.TheVariants.{Plain, Inner}
use Rattle.ns_find.specs.Find.{found_from, found_private, super_start}
use Rattle.ns_kdata.specs.Arguments.{items_of}
use Rattle.ns_classes.specs.Nested.{kept_class}
use Rattle.ns_moves.specs.declared.site.Site.{Site}
use Rattle.ns_moves.specs.Control.{Progress, in_world, Activation, FromMethod, Control, Enter, gives, halts, fails, charged}
use Rattle.ns_moves.specs.Bodies.{side_of_body, side_at, enclosing, opened}
use Rattle.ns_moves.specs.Classes.{nested, instance}
use Rattle.ns_world.specs.KernelTable.{row_at}
use Rattle.ns_moves.specs.Kernel.{row_reached}

-- ---- where a send goes

-- To a value, from its own start; to the private member of the declaration at a level; or to self, from above
-- the holder of the code that runs.
pub data Target : Type 0 where
  To : (receiver : Value) (kind : Sending) → Target
  ToPrivate : (level : ℕ) → Target
  ToSuper : Target

-- `r m` reaches public members alone
abbrev pub to_value : Value → Target
to_value receiver = To receiver Plain

-- `self m`, and `m` where no declaration around it has it
abbrev pub to_self : Activation → Target
to_self activation = To activation.self Inner

-- `m` where the declaration at that level has it, and `outer N m`
abbrev pub to_enclosing : Heap → Activation → ℕ → Target
to_enclosing heap activation level = To (enclosing heap activation level).object Inner

-- the receiver
abbrev pub receiver_of : Heap → Activation → Target → Value
receiver_of heap activation (To receiver kind) = receiver
receiver_of heap activation (ToPrivate level) = (enclosing heap activation level).object
receiver_of heap activation ToSuper = activation.self

-- what is found there
abbrev pub found_at : Heap → CodeProgram → Activation → Target → ℕ → Found
found_at heap code activation (To receiver kind) sel = found_from heap code (start_of heap receiver) sel kind
found_at heap code activation (ToPrivate level) sel =
    found_private heap code (enclosing heap activation level).holder (side_at code activation level) sel
found_at heap code activation ToSuper sel =
    found_from heap code (super_start heap activation.holder (side_of_body code activation.body)) sel Inner

-- the site of a send: the place of its selector, the class of its receiver, and its selector
abbrev pub site_at : Heap → Option SourcePlace → Value → Sel → Site
site_at heap place receiver sel = record { place = place; class = class_name_of heap receiver; sel = sel }

-- ---- arguments

-- The arguments of a send as they stand, or in a Message of that selector, which is still to be made.
pub data Arguments : Type 0 where
  Listed : (values : List Value) → Arguments
  Wrapped : (sel : Sel) (values : List Value) → Arguments

-- the arguments; of a Message its array is charged, and then the Message itself
abbrev pub given : Arguments → Progress → (List Value → Progress → Control) → Control
given (Listed values) progress go = go values progress
given (Wrapped sel values) progress go =
    charged halts Cells (made progress.world (ArrayCell values)) progress λ next.
    charged halts Cells (made next.world (MessageCell sel (Ref (heap_size progress.world.cells)))) next
    (go (Ref (heap_size next.world.cells) ∷ []))

-- the first argument, nil where there is none
abbrev pub first_of : List Value → Value
first_of [] = Nil
first_of (value ∷ values) = value

-- ---- what is done with what is found

-- one method activation more has begun
abbrev pub one_more : Progress → Progress
one_more progress = record progress { begun = suc progress.begun }

-- a method: its frame is charged, then a Message where there is one, then its environment; with these it has begun
abbrev pub method_entered : CodeProgram → ℕ → ℕ → Value → Arguments → Site → Progress → Control
method_entered code body holder receiver arguments site progress =
    charged halts Depth (entered progress.world) progress λ progress.
    given arguments progress λ values progress.
    opened code halts (λ activation locals progress. Enter FromMethod activation locals (one_more progress))
    (record { self = receiver; holder = holder; body = body; home = progress.begun; env = Nil; site = site }) values progress

-- a factory: its frame, a Message where there is one, the object, and the environment of its initialiser
abbrev pub factory_entered : CodeProgram → ℕ → Arguments → Site → Progress → Control
factory_entered code class arguments site progress =
    charged halts Depth (entered progress.world) progress λ progress.
    given arguments progress λ values progress. instance code class values site progress

-- a setter stores its argument, and answers its receiver
abbrev pub set : ℕ → Value → Arguments → Progress → Control
set word receiver arguments progress =
    given arguments progress λ values progress. gives receiver (in_world progress (stored progress.world receiver word (first_of values)))

-- a nested class of an object; no other value has one
abbrev pub nested_in : CodeProgram → Value → ℕ → ℕ → Site → Progress → Control
nested_in code (Ref object) holder class site progress =
    nested code object holder class (kept_class progress.world.cells code object holder class) site progress
nested_in code receiver holder class site progress = fails kind.NotUnderstood site progress

-- a row of the kernel
abbrev pub row_sent : CodeProgram → ℕ → Sel → Value → Arguments → Site → Progress → Control
row_sent code number sel receiver arguments site progress =
    given arguments progress λ values progress. row_reached code (row_at number) sel receiver values site progress

-- what is done with a member that was found
abbrev pub done_with : CodeProgram → Found → Sel → Value → Arguments → Site → Progress → Control
done_with code (found.Method body holder) sel receiver arguments site progress =
    method_entered code body holder receiver arguments site progress
done_with code (found.Getter holder word) sel receiver arguments site progress =
    gives (word_of_object progress.world.cells receiver word) progress
done_with code (found.Setter holder word) sel receiver arguments site progress = set word receiver arguments progress
done_with code (found.Nested class holder) sel receiver arguments site progress = nested_in code receiver holder class site progress
done_with code (found.Factory class) sel receiver arguments site progress = factory_entered code class arguments site progress
done_with code (found.Kernel number) sel receiver arguments site progress = row_sent code number sel receiver arguments site progress
done_with code found.NotPublic sel receiver arguments site progress = fails kind.NotPublic site progress
done_with code found.Absent sel receiver arguments site progress = fails kind.NotUnderstood site progress

-- a selector that the machine sends by itself
abbrev pub own_sel : CodeProgram → Own → Sel
own_sel code own = record { 0 = own_number code own }

-- the selector that a send goes on as where it finds nothing
abbrev pub message_sel : CodeProgram → Sel
message_sel code = own_sel code DoesNotUnderstand

-- A send that found nothing goes on as `doesNotUnderstand:`, with a Message; it isn't understood where that is
-- the kernel's row (what goes on so is this profile's).
abbrev pub not_found : CodeProgram → Found → Sel → Value → List Value → Site → Progress → Control
not_found code (found.Kernel number) sel receiver values site progress = fails kind.NotUnderstood site progress
not_found code member sel receiver values site progress =
    done_with code member (message_sel code) receiver (Wrapped sel values) site progress

-- a send that found no member at all goes on so with what `doesNotUnderstand:` finds
abbrev pub not_understood : CodeProgram → Sel → Value → List Value → Site → Progress → Control
not_understood code sel receiver values site progress =
    not_found code (found_from progress.world.cells code (start_of progress.world.cells receiver) (own_number code DoesNotUnderstand) Inner)
    sel receiver values site progress

-- what a send comes to with what it found
abbrev pub answered_by : CodeProgram → Found → Sel → Value → List Value → Site → Progress → Control
answered_by code found.Absent sel receiver values site progress = not_understood code sel receiver values site progress
answered_by code member sel receiver values site progress = done_with code member sel receiver (Listed values) site progress

-- ---- a send

-- A send charges its step, and then looks its selector up.
abbrev pub sent : CodeProgram → Activation → Target → Sel → List Value → Option SourcePlace → Progress → Control
sent code activation target sel values place progress =
    charged halts Steps (stepped progress.world) progress
    (answered_by code (found_at progress.world.cells code activation target sel.0) sel (receiver_of progress.world.cells activation target) values
    (site_at progress.world.cells place (receiver_of progress.world.cells activation target) sel))

-- A plain send that waited with its site.
abbrev pub sent_from : CodeProgram → Value → Sel → List Value → Site → Progress → Control
sent_from code receiver sel values site progress =
    charged halts Steps (stepped progress.world) progress
    (answered_by code (found_from progress.world.cells code (start_of progress.world.cells receiver) sel.0 Plain) sel receiver values site)

-- A plain send that no code of the program makes: one that opens a run, or that a host makes.
abbrev pub sent_plain : CodeProgram → Value → Sel → List Value → Option SourcePlace → Progress → Control
sent_plain code receiver sel values place progress =
    sent_from code receiver sel values (site_at progress.world.cells place receiver sel) progress

-- A send of `perform:with:` that waited: it has the place of the send being answered, and its own class and selector.
abbrev pub performed : CodeProgram → Value → Sel → ℕ → Site → Progress → Control
performed code receiver sel array site progress =
    sent_plain code receiver sel (items_of progress.world.cells (Ref array)) site.place progress
