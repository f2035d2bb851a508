-- What frames and what waits ask of their values lasts.
use Rattle.std.proofs.Common.{◌≡◌, ℕ, List, length, refl, ap, sym, ◌∙◌, subst, All, get_or, Option, Some, None, true, slice_get}
use Rattle.std.specs.Option.{ForSome}
use Rattle.std.specs.Prelude.{IsSome, Contains}
use Rattle.ns_base.specs.declared.selector.Sel.{Sel}
use Rattle.ns_code.specs.declared.program.CodeProgram.{CodeProgram}
use Rattle.ns_code.specs.declared.class.ClassCode.{ClassCode}
use Rattle.ns_world.specs.declared.value.Value.{Value}
use Rattle.ns_world.specs.declared.value.Value.TheVariants.{Nil, True, False, Int, Sym, Kernel, Ref}
use Rattle.ns_world.specs.declared.cell.NewCell.TheVariants as new
use Rattle.ns_world.specs.Cell.{Cell, ObjectCell, ClassCell, BlockCell, EnvironmentCell, ArrayCell, TextCell, FacetCell, MirrorCell, MessageCell}
use Rattle.ns_world.specs.Heap.{find_cell, is_class, chain_of}
use Rattle.ns_world.specs.World.{World}
use Rattle.ns_world.specs.Layout.{declaration_of}
use Rattle.ns_world.specs.Lawful.{IsLawful, IsLiveValue, HasHolder, class_of_object}
use Rattle.ns_world.specs.Later.{RunsOn}
use Rattle.ns_world.specs.laws.Staying.{environment_stays}
use Rattle.ns_world.specs.laws.Lasting.{keeps_of, declaration_lasts}
use Rattle.ns_kdata.specs.Arguments.{items_of}
use Rattle.ns_world.specs.declared.kernel_parts.KMethod.{KMethod}
use Rattle.ns_world.specs.declared.kernel_parts.KMethod.TheVariants as method
use Rattle.ns_kcode.specs.declared.state.KState.{KState}
use Rattle.ns_moves.specs.Control.{Activation}
use Rattle.ns_moves.specs.Fitting.{belongs_to, counts_fit, FitsMethod}
use Rattle.ns_moves.specs.Sends.{Target, To, ToPrivate, ToSuper}
use Rattle.ns_moves.specs.lemmas.Counts.{same_within}
use Rattle.ns_moves.specs.lemmas.Suiting.{object_holders}
use Rattle.ns_moves.specs.Lawful.{LiveActivation, LiveState, FitsSelector, FitsSlot, FitsTarget}
use Rattle.ns_moves.specs.lemmas.Lasting.{value_lasts, holder_lasts, activation_lasts, arguments_last, belonging_lasts, size_there, array_size_lasts}

values_last : (code : CodeProgram) (old new : World) (values : List Value) → RunsOn code old new → All (IsLiveValue old.cells code) values →
    All (IsLiveValue new.cells code) values
values_last code old new values run all = λ i d h. value_lasts code old new (get_or values i d) run (all i d h)

pub locals_last : (activation : Activation) (beside : List Value) (code : CodeProgram) (old new : World) → RunsOn code old new →
    LiveActivation old.cells code activation beside → LiveActivation new.cells code activation beside
locals_last activation beside code old new run live = record {
  self = value_lasts code old new activation.self run live.self;
  env = environment_stays old.cells new.cells activation.env (keeps_of code old new run) live.env;
  locals = values_last code old new beside run live.locals;
}

pub target_lasts : (activation : Activation) (target : Target) (code : CodeProgram) (old new : World) → RunsOn code old new →
    FitsTarget old.cells code activation target → FitsTarget new.cells code activation target
target_lasts activation (To receiver kind) code old new run fits = value_lasts code old new receiver run fits
target_lasts activation (ToPrivate level) code old new run fits = (activation_lasts activation code old new run fits.0, fits.1)
target_lasts activation ToSuper code old new run fits = activation_lasts activation code old new run fits

-- ---- what waits

pub state_lasts : (state : KState) (code : CodeProgram) (old new : World) → RunsOn code old new → LiveState old.cells code state →
    LiveState new.cells code state
state_lasts state code old new run live = record {
  receiver = value_lasts code old new state.receiver run live.receiver;
  first = value_lasts code old new state.first run live.first;
  second = value_lasts code old new state.second run live.second;
  last = λ value e. value_lasts code old new value run (live.last value e);
}

pub selector_lasts : (sel : Sel) (values : List Value) (code : CodeProgram) (old new : World) → RunsOn code old new →
    FitsSelector old.cells code sel values → FitsSelector new.cells code sel values
selector_lasts sel values code old new run fits =
    record { selector = fits.selector; arity = fits.arity; live = values_last code old new values run fits.live }

pub size_lasts : (array : Value) (code : CodeProgram) (old new : World) → RunsOn code old new → IsLiveValue old.cells code array →
    length (items_of new.cells array) ≡ length (items_of old.cells array)
size_lasts (Ref at) code old later run live = size_there at code old later run live.0
size_lasts Nil code old later run live = refl
size_lasts True code old later run live = refl
size_lasts False code old later run live = refl
size_lasts (Int number) code old later run live = refl
size_lasts (Sym sel) code old later run live = refl
size_lasts (Kernel class) code old later run live = refl

-- counts stay within their array
pub counts_last : (named : KMethod) (state : KState) (code : CodeProgram) (old new : World) → RunsOn code old new →
    belongs_to old.cells state.receiver named ≡ true → counts_fit old.cells state named ≡ true → counts_fit new.cells state named ≡ true
counts_last method.Do state code old new run is t =
    same_within state.size state.count (length (items_of old.cells state.receiver)) (length (items_of new.cells state.receiver)) (array_size_lasts state.receiver code old new run is) t
counts_last method.And state code old new run is t = refl
counts_last method.Or state code old new run is t = refl
counts_last method.IfTrue state code old new run is t = refl
counts_last method.IfFalse state code old new run is t = refl
counts_last method.IfTrueIfFalse state code old new run is t = refl
counts_last method.IfFalseIfTrue state code old new run is t = refl
counts_last method.WhileTrue state code old new run is t = refl
counts_last method.WhileFalse state code old new run is t = refl
counts_last method.ToDo state code old new run is t = refl
counts_last method.TimesRepeat state code old new run is t = refl

pub method_lasts : (named : KMethod) (state : KState) (code : CodeProgram) (old new : World) → RunsOn code old new →
    FitsMethod old.cells named state → FitsMethod new.cells named state
method_lasts named state code old new run fits = record {
  arguments = arguments_last named state.first state.second code old new run fits.arguments;
  receiver = belonging_lasts named state.receiver code old new run fits.receiver;
  counts = counts_last named state code old new run fits.receiver fits.counts;
}

-- a holder of an object is a class
pub holder_is_class : (world : World) (code : CodeProgram) (self : Value) (holder : ℕ) → IsLawful world code →
    HasHolder world.cells self holder → is_class (find_cell world.cells holder) ≡ true
holder_is_class world code (Ref at) holder lawful has = found (find_cell world.cells at) refl has
  where
    found : (o : Option Cell) → find_cell world.cells at ≡ o → ForSome (class_of_object o) (λ class. Contains (chain_of world.cells class) holder) × IsSome (class_of_object o) → is_class (find_cell world.cells holder) ≡ true
    found (Some (ObjectCell class entries)) e h =
        (object_holders world code at class lawful (ap class_of_object e) (lawful.cells at (ObjectCell class entries) e).0.class_is holder (h.0 class refl)).1
    found None e h = let none = h.1 in absurd (cc)
    found (Some (ClassCell decl base encl holder' over)) e h = let none = h.1 in absurd (cc)
    found (Some (BlockCell body env home receiver holder')) e h = let none = h.1 in absurd (cc)
    found (Some (EnvironmentCell parent locals)) e h = let none = h.1 in absurd (cc)
    found (Some (ArrayCell items)) e h = let none = h.1 in absurd (cc)
    found (Some (TextCell bytes)) e h = let none = h.1 in absurd (cc)
    found (Some (FacetCell kind)) e h = let none = h.1 in absurd (cc)
    found (Some (MirrorCell mirrored)) e h = let none = h.1 in absurd (cc)
    found (Some (MessageCell sel args)) e h = let none = h.1 in absurd (cc)
holder_is_class world code Nil holder lawful has = absurd has
holder_is_class world code True holder lawful has = absurd has
holder_is_class world code False holder lawful has = absurd has
holder_is_class world code (Int number) holder lawful has = absurd has
holder_is_class world code (Sym sel) holder lawful has = absurd has
holder_is_class world code (Kernel class) holder lawful has = absurd has

-- a slot of self
pub slot_lasts : (activation : Activation) (slot : ℕ) (code : CodeProgram) (old new : World) → RunsOn code old new →
    FitsSlot old.cells code activation slot → FitsSlot new.cells code activation slot
slot_lasts activation slot code old new run fits = record {
  holder = holder_lasts code old new activation.self activation.holder run fits.holder;
  declared = subst (λ n. IsSome (slice_get code.classes n)) (sym same) fits.declared;
  within = λ (class : ClassCode) e. fits.within class (ap (slice_get code.classes) (sym same) ∙ e);
}
  where
    same : declaration_of new.cells activation.holder ≡ declaration_of old.cells activation.holder
    same = declaration_lasts activation.holder code old new run (holder_is_class old code activation.self activation.holder run.before fits.holder)
