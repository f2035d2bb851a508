-- What frames and what waits ask of their values lasts.
use Rattle.std.proofs.Common.{◌≡◌, ℕ, length, refl, ap, sym, ◌∙◌, Option, Some, None, Bool, true, false, slice_get}
use Rattle.std.specs.Option.{option_map_or}
use Rattle.std.specs.Prelude.{IsSome}
use Rattle.ns_code.specs.declared.program.CodeProgram.{CodeProgram}
use Rattle.ns_world.specs.declared.value.Value.{Value}
use Rattle.ns_world.specs.declared.value.Value.TheVariants.{Nil, True, False, Int, Sym, Kernel, Ref}
use Rattle.ns_world.specs.declared.cell.NewCell.{NewCell}
use Rattle.ns_world.specs.declared.cell.NewCell.TheVariants as new
use Rattle.ns_world.specs.Cell.{Cell, ObjectCell, ClassCell, BlockCell, EnvironmentCell, ArrayCell, TextCell, FacetCell, MirrorCell, MessageCell, shape_of}
use Rattle.ns_world.specs.Heap.{Heap, find_cell}
use Rattle.ns_world.specs.World.{World}
use Rattle.ns_world.specs.Lawful.{IsLiveValue, HasHolder}
use Rattle.ns_world.specs.Later.{RunsOn}
use Rattle.ns_world.specs.laws.Chains.{both_of}
use Rattle.ns_world.specs.laws.Classes.{class_stays}
use Rattle.ns_world.specs.laws.Staying.{value_stays, holder_stays}
use Rattle.ns_world.specs.laws.Lawfully.{body_stays}
use Rattle.ns_world.specs.laws.Lasting.{keeps_of, shape_lasts, declaration_lasts}
use Rattle.ns_find.specs.Belonging.{HasNested}
use Rattle.ns_kdata.specs.Arguments.{shape_of_value, is_array, is_array_shape, array_size_in, array_items, items_of}
use Rattle.ns_world.specs.declared.kernel_parts.KMethod.{KMethod}
use Rattle.ns_world.specs.declared.kernel_parts.KMethod.TheVariants as method
use Rattle.ns_moves.specs.Control.{Activation, Exit, FromMethod, FromBody, FromClause}
use Rattle.ns_moves.specs.Blocks.{is_block, is_block_shape, is_integer, are_blocks, has_arguments}
use Rattle.ns_moves.specs.Fitting.{belongs_to}
use Rattle.ns_moves.specs.Lawful.{HasClass, FitsExit, FitsActivation}

-- ---- values

pub value_lasts : (code : CodeProgram) (old new : World) (value : Value) → RunsOn code old new → IsLiveValue old.cells code value →
    IsLiveValue new.cells code value
value_lasts code old new value run live = value_stays old.cells new.cells code value (keeps_of code old new run) live

pub holder_lasts : (code : CodeProgram) (old new : World) (value : Value) (holder : ℕ) → RunsOn code old new →
    HasHolder old.cells value holder → HasHolder new.cells value holder
holder_lasts code old new value holder run has = holder_stays old.cells new.cells value holder (keeps_of code old new run) has

-- ---- bodies

pub activation_lasts : (activation : Activation) (code : CodeProgram) (old new : World) → RunsOn code old new →
    FitsActivation old.cells code activation → FitsActivation new.cells code activation
activation_lasts activation code old new run fits = record {
  live = value_lasts code old new activation.self run fits.live;
  there = fits.there;
  fits = λ body e. body_stays old.cells new.cells code body activation.self activation.holder (keeps_of code old new run) (fits.fits body e);
}

class_lasts : (object holder class : ℕ) (code : CodeProgram) (old new : World) → RunsOn code old new →
    HasClass old.cells code object holder class → HasClass new.cells code object holder class
class_lasts object holder class code old new run has =
    let n = has.nested in
    let nested : HasNested new.cells code holder class = record {
      class = n.class;
      class_is = ap (slice_get code.classes) (declaration_lasts holder code old new run has.holder_is) ∙ n.class_is;
      place = n.place;
      nested = n.nested;
      nested_is = n.nested_is;
      decl_is = n.decl_is;
    } in
    record {
      object_has = holder_lasts code old new (Ref object) holder run has.object_has;
      holder_is = class_stays old.cells new.cells holder (keeps_of code old new run).same has.holder_is;
      nested = nested;
    }

pub exit_lasts : (exit : Exit) (code : CodeProgram) (old new : World) → RunsOn code old new → FitsExit old.cells code exit →
    FitsExit new.cells code exit
exit_lasts FromMethod code old new run fits = fits
exit_lasts FromBody code old new run fits = fits
exit_lasts (FromClause object holder class) code old new run fits = class_lasts object holder class code old new run fits

-- a test of the shape of a cell that is there
shape_test_lasts : (test : NewCell → Bool) → test (new.Mirror Nil) ≡ false → (value : Value) (code : CodeProgram) (old later : World) →
    RunsOn code old later → test (shape_of_value old.cells value) ≡ true → test (shape_of_value later.cells value) ≡ true
shape_test_lasts test none (Ref at) code old later run t = found (find_cell old.cells at) refl t
  where
    found : (o : Option Cell) → find_cell old.cells at ≡ o → test (option_map_or shape_of o (new.Mirror Nil)) ≡ true → test (shape_of_value later.cells (Ref at)) ≡ true
    found None e t = absurd (cc)
    found (Some cell) e t =
        let there : IsSome (find_cell old.cells at) = rw e refl in
        ap test (shape_lasts at code old later run there) ∙ (ap (λ o. test (option_map_or shape_of o (new.Mirror Nil))) e ∙ t)
shape_test_lasts test none Nil code old later run t = t
shape_test_lasts test none True code old later run t = t
shape_test_lasts test none False code old later run t = t
shape_test_lasts test none (Int number) code old later run t = t
shape_test_lasts test none (Sym sel) code old later run t = t
shape_test_lasts test none (Kernel class) code old later run t = t

pub block_lasts : (block : Value) (code : CodeProgram) (old new : World) → RunsOn code old new → is_block old.cells block ≡ true →
    is_block new.cells block ≡ true
block_lasts block code old new run t = shape_test_lasts is_block_shape refl block code old new run t

pub array_lasts : (array : Value) (code : CodeProgram) (old new : World) → RunsOn code old new → is_array old.cells array ≡ true →
    is_array new.cells array ≡ true
array_lasts array code old new run t = shape_test_lasts is_array_shape refl array code old new run t

two_blocks : (first second : Value) (code : CodeProgram) (old new : World) → RunsOn code old new →
    are_blocks old.cells first second ≡ true → are_blocks new.cells first second ≡ true
two_blocks first second code old new run t =
    let both = both_of (is_block old.cells first) (is_block old.cells second) t in
    rw (block_lasts first code old new run both.0, block_lasts second code old new run both.1) refl

pub arguments_last : (named : KMethod) (first second : Value) (code : CodeProgram) (old new : World) → RunsOn code old new →
    has_arguments old.cells named first second ≡ true → has_arguments new.cells named first second ≡ true
arguments_last method.IfTrueIfFalse first second code old new run t = two_blocks first second code old new run t
arguments_last method.IfFalseIfTrue first second code old new run t = two_blocks first second code old new run t
arguments_last method.ToDo first second code old new run t =
    let both = both_of (is_integer first) (is_block old.cells second) t in
    rw (both.0, block_lasts second code old new run both.1) refl
arguments_last method.And first second code old new run t = block_lasts first code old new run t
arguments_last method.Or first second code old new run t = block_lasts first code old new run t
arguments_last method.IfTrue first second code old new run t = block_lasts first code old new run t
arguments_last method.IfFalse first second code old new run t = block_lasts first code old new run t
arguments_last method.WhileTrue first second code old new run t = block_lasts first code old new run t
arguments_last method.WhileFalse first second code old new run t = block_lasts first code old new run t
arguments_last method.TimesRepeat first second code old new run t = block_lasts first code old new run t
arguments_last method.Do first second code old new run t = block_lasts first code old new run t

-- a receiver stays of the kind to which a method belongs
pub belonging_lasts : (named : KMethod) (receiver : Value) (code : CodeProgram) (old new : World) → RunsOn code old new →
    belongs_to old.cells receiver named ≡ true → belongs_to new.cells receiver named ≡ true
belonging_lasts method.WhileTrue receiver code old new run t = block_lasts receiver code old new run t
belonging_lasts method.WhileFalse receiver code old new run t = block_lasts receiver code old new run t
belonging_lasts method.Do receiver code old new run t = array_lasts receiver code old new run t
belonging_lasts method.ToDo receiver code old new run t = t
belonging_lasts method.TimesRepeat receiver code old new run t = t
belonging_lasts method.And receiver code old new run t = t
belonging_lasts method.Or receiver code old new run t = t
belonging_lasts method.IfTrue receiver code old new run t = t
belonging_lasts method.IfFalse receiver code old new run t = t
belonging_lasts method.IfTrueIfFalse receiver code old new run t = t
belonging_lasts method.IfFalseIfTrue receiver code old new run t = t

-- an array has as many elements as it had
size_told : (o : Option Cell) → length (array_items o) ≡ array_size_in (option_map_or shape_of o (new.Mirror Nil))
size_told None = refl
size_told (Some (ArrayCell items)) = refl
size_told (Some (ObjectCell class entries)) = refl
size_told (Some (ClassCell decl base encl holder over)) = refl
size_told (Some (BlockCell body env home receiver holder)) = refl
size_told (Some (EnvironmentCell parent locals)) = refl
size_told (Some (TextCell bytes)) = refl
size_told (Some (FacetCell kind)) = refl
size_told (Some (MirrorCell mirrored)) = refl
size_told (Some (MessageCell sel args)) = refl

pub size_there : (at : ℕ) (code : CodeProgram) (old new : World) → RunsOn code old new → IsSome (find_cell old.cells at) →
    length (items_of new.cells (Ref at)) ≡ length (items_of old.cells (Ref at))
size_there at code old later run there =
    size_told (find_cell later.cells at) ∙ (ap array_size_in (shape_lasts at code old later run there) ∙ sym (size_told (find_cell old.cells at)))

-- an array is a cell that is there
array_there : (heap : Heap) (at : ℕ) → is_array heap (Ref at) ≡ true → IsSome (find_cell heap at)
array_there heap at t = found (find_cell heap at) t
  where
    found : (o : Option Cell) → is_array_shape (option_map_or shape_of o (new.Mirror Nil)) ≡ true → IsSome o
    found (Some cell) t = refl
    found None t = absurd (cc)

pub array_size_lasts : (array : Value) (code : CodeProgram) (old new : World) → RunsOn code old new → is_array old.cells array ≡ true →
    length (items_of new.cells array) ≡ length (items_of old.cells array)
array_size_lasts (Ref at) code old later run is = size_there at code old later run (array_there old.cells at is)
array_size_lasts Nil code old later run is = refl
array_size_lasts True code old later run is = refl
array_size_lasts False code old later run is = refl
array_size_lasts (Int number) code old later run is = refl
array_size_lasts (Sym sel) code old later run is = refl
array_size_lasts (Kernel class) code old later run is = refl
