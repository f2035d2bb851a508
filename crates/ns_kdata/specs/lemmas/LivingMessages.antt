-- What a message holds is live.
use Rattle.std.proofs.Common.{◌≡◌, ℕ, refl, Option, Some, None, IsSome, true}
use Rattle.std.specs.Option.{option_map_or}
use Rattle.ns_base.specs.declared.selector.Sel.{Sel}
use Rattle.ns_code.specs.declared.program.CodeProgram.{CodeProgram}
use Rattle.ns_world.specs.declared.value.Value.{Value}
use Rattle.ns_world.specs.declared.value.Value.TheVariants.{Nil, True, False, Int, Sym, Kernel, Ref}
use Rattle.ns_world.specs.declared.cell.NewCell.TheVariants as new
use Rattle.ns_world.specs.Cell.{Cell, shape_of, ObjectCell, ClassCell, BlockCell, EnvironmentCell, ArrayCell, TextCell, FacetCell, MirrorCell, MessageCell}
use Rattle.ns_world.specs.Heap.{Heap, find_cell}
use Rattle.ns_world.specs.World.{World}
use Rattle.ns_world.specs.Starts.{is_receiver_cell}
use Rattle.ns_world.specs.Lawful.{IsLawful, IsLiveValue, MessageIsLawful, HasArguments}
use Rattle.ns_kdata.specs.Rows.{selector_in, arguments_in, message_selector, message_arguments}

pub sel_of_message : (heap : Heap) (code : CodeProgram) (sel : Sel) (args : Value) → MessageIsLawful heap code sel args →
    IsLiveValue heap code (Sym sel)
sel_of_message heap code sel Nil lawful = absurd lawful
sel_of_message heap code sel True lawful = absurd lawful
sel_of_message heap code sel False lawful = absurd lawful
sel_of_message heap code sel (Int number) lawful = absurd lawful
sel_of_message heap code sel (Sym other) lawful = absurd lawful
sel_of_message heap code sel (Kernel class) lawful = absurd lawful
sel_of_message heap code sel (Ref at) lawful = (lawful.0, refl)

array_there : (code : CodeProgram) (sel : Sel) (o : Option Cell) → HasArguments code sel o → IsSome o × (is_receiver_cell o ≡ true)
array_there code sel None h = absurd h
array_there code sel (Some (ObjectCell class entries)) h = absurd h
array_there code sel (Some (ClassCell decl base encl holder over)) h = absurd h
array_there code sel (Some (BlockCell body env home receiver holder)) h = absurd h
array_there code sel (Some (EnvironmentCell parent locals)) h = absurd h
array_there code sel (Some (ArrayCell items)) h = (refl, refl)
array_there code sel (Some (TextCell bytes)) h = absurd h
array_there code sel (Some (FacetCell kind)) h = absurd h
array_there code sel (Some (MirrorCell mirrored)) h = absurd h
array_there code sel (Some (MessageCell sel' args)) h = absurd h

pub args_of_message : (heap : Heap) (code : CodeProgram) (sel : Sel) (args : Value) → MessageIsLawful heap code sel args →
    IsLiveValue heap code args
args_of_message heap code sel Nil lawful = absurd lawful
args_of_message heap code sel True lawful = absurd lawful
args_of_message heap code sel False lawful = absurd lawful
args_of_message heap code sel (Int number) lawful = absurd lawful
args_of_message heap code sel (Sym other) lawful = absurd lawful
args_of_message heap code sel (Kernel class) lawful = absurd lawful
args_of_message heap code sel (Ref at) lawful = array_there code sel (find_cell heap at) (lawful.1)

selector_cell : (world : World) (code : CodeProgram) (at : ℕ) → IsLawful world code → (o : Option Cell) → find_cell world.cells at ≡ o →
    IsLiveValue world.cells code (selector_in (option_map_or shape_of o (new.Mirror Nil)))
selector_cell world code at lawful None e = (tt, refl)
selector_cell world code at lawful (Some (ObjectCell class entries)) e = (tt, refl)
selector_cell world code at lawful (Some (ClassCell decl base encl holder over)) e = (tt, refl)
selector_cell world code at lawful (Some (BlockCell body env home receiver holder)) e = (tt, refl)
selector_cell world code at lawful (Some (EnvironmentCell parent locals)) e = (tt, refl)
selector_cell world code at lawful (Some (ArrayCell items)) e = (tt, refl)
selector_cell world code at lawful (Some (TextCell bytes)) e = (tt, refl)
selector_cell world code at lawful (Some (FacetCell kind)) e = (tt, refl)
selector_cell world code at lawful (Some (MirrorCell mirrored)) e = (tt, refl)
selector_cell world code at lawful (Some (MessageCell sel args)) e =
    sel_of_message world.cells code sel args (lawful.cells at (MessageCell sel args) e)

pub selector_live : (world : World) (code : CodeProgram) (message : Value) → IsLawful world code →
    IsLiveValue world.cells code (message_selector world.cells message)
selector_live world code Nil lawful = (tt, refl)
selector_live world code True lawful = (tt, refl)
selector_live world code False lawful = (tt, refl)
selector_live world code (Int number) lawful = (tt, refl)
selector_live world code (Sym sel) lawful = (tt, refl)
selector_live world code (Kernel class) lawful = (tt, refl)
selector_live world code (Ref at) lawful = selector_cell world code at lawful (find_cell world.cells at) refl

arguments_cell : (world : World) (code : CodeProgram) (at : ℕ) → IsLawful world code → (o : Option Cell) → find_cell world.cells at ≡ o →
    IsLiveValue world.cells code (arguments_in (option_map_or shape_of o (new.Mirror Nil)))
arguments_cell world code at lawful None e = (tt, refl)
arguments_cell world code at lawful (Some (ObjectCell class entries)) e = (tt, refl)
arguments_cell world code at lawful (Some (ClassCell decl base encl holder over)) e = (tt, refl)
arguments_cell world code at lawful (Some (BlockCell body env home receiver holder)) e = (tt, refl)
arguments_cell world code at lawful (Some (EnvironmentCell parent locals)) e = (tt, refl)
arguments_cell world code at lawful (Some (ArrayCell items)) e = (tt, refl)
arguments_cell world code at lawful (Some (TextCell bytes)) e = (tt, refl)
arguments_cell world code at lawful (Some (FacetCell kind)) e = (tt, refl)
arguments_cell world code at lawful (Some (MirrorCell mirrored)) e = (tt, refl)
arguments_cell world code at lawful (Some (MessageCell sel args)) e =
    args_of_message world.cells code sel args (lawful.cells at (MessageCell sel args) e)

pub arguments_live : (world : World) (code : CodeProgram) (message : Value) → IsLawful world code →
    IsLiveValue world.cells code (message_arguments world.cells message)
arguments_live world code Nil lawful = (tt, refl)
arguments_live world code True lawful = (tt, refl)
arguments_live world code False lawful = (tt, refl)
arguments_live world code (Int number) lawful = (tt, refl)
arguments_live world code (Sym sel) lawful = (tt, refl)
arguments_live world code (Kernel class) lawful = (tt, refl)
arguments_live world code (Ref at) lawful = arguments_cell world code at lawful (find_cell world.cells at) refl
