-- What others see of a cell stays where its words or its bytes are written.
use Rattle.std.proofs.Common.{◌≡◌, ◌≢◌, ℕ, ◌∷◌, List, length, refl, ap, sym, ◌∙◌, subst, Option, Some, None, is_some, Bool, true, false, eqb, length-set}
use Rattle.std.specs.Option.{option_map}
use Rattle.std.proofs.lemmas.Bool.{eqb-true, eq-eqb}
use Rattle.ns_base.specs.declared.selector.Sel.{Sel}
use Rattle.ns_code.specs.Selector.{selector_arity}
use Rattle.ns_code.specs.declared.program.CodeProgram.{CodeProgram}
use Rattle.ns_world.specs.declared.value.Value.{Value}
use Rattle.ns_world.specs.declared.cell.NewCell.{NewCell}
use Rattle.ns_world.specs.declared.cell.NewCell.TheVariants as new
use Rattle.ns_world.specs.Cell.{Cell, shape_of, ObjectCell, ClassCell, BlockCell, EnvironmentCell, ArrayCell, TextCell, FacetCell, MirrorCell, MessageCell, with_word, with_byte}
use Rattle.ns_world.specs.Heap.{Heap, find_cell, set_cell, change_cell}
use Rattle.ns_world.specs.Starts.{is_receiver_cell}
use Rattle.ns_world.specs.Lawful.{is_environment, class_of_object, environment_in, HasArguments}
use Rattle.ns_world.specs.laws.Chains.{found_below, found_in_more}
use Rattle.ns_world.specs.laws.Changing.{ChangesPlainly, changing_leaves, set_here}
use Rattle.ns_world.specs.laws.Classes.{IsInOrder, SameClasses, same_after_making, same_after_changing}

-- What one environment tells of another: the parent, and how many locals there are.
pub record TellsLocals (option : Option Cell) (locals : Value × List Value) : Type 0 where
  pub before : Value × List Value
  pub is : environment_in option ≡ Some before
  pub parent : before.0 ≡ locals.0
  pub count : length before.1 ≡ length locals.1

-- Two cells that differ at most in what may be written.
pub record Twins (cell twin : Cell) : Type 0 where
  pub receiver : is_receiver_cell (Some twin) ≡ is_receiver_cell (Some cell)
  pub object : class_of_object (Some twin) ≡ class_of_object (Some cell)
  pub environment : is_environment (Some twin) ≡ is_environment (Some cell)
  pub has_locals : is_some (environment_in (Some twin)) ≡ is_some (environment_in (Some cell))
  pub locals : (e : Value × List Value) → environment_in (Some twin) ≡ Some e → TellsLocals (Some cell) e
  pub arguments : (code : CodeProgram) (sel : Sel) → HasArguments code sel (Some cell) → HasArguments code sel (Some twin)

-- ---- what a shape tells of its cell

abbrev receiver_shape : NewCell → Bool
receiver_shape (new.Environment parent locals) = false
receiver_shape shape = true

abbrev object_shape : NewCell → Option ℕ
object_shape (new.Object class words) = Some class
object_shape shape = None

abbrev environment_shape : NewCell → Option (Value × ℕ)
environment_shape (new.Environment parent locals) = Some (parent, locals)
environment_shape shape = None

abbrev HasSize : CodeProgram → Sel → NewCell → Type 0
HasSize code sel (new.Array size) = size ≡ selector_arity code sel.0
HasSize code sel shape = ⊥

-- the parent, and how many locals there are
abbrev counted : Value × List Value → Value × ℕ
counted e = (e.0, length e.1)

receiver_told : (cell : Cell) → is_receiver_cell (Some cell) ≡ receiver_shape (shape_of cell)
receiver_told (ObjectCell class entries) = refl
receiver_told (ClassCell decl base encl holder over) = refl
receiver_told (BlockCell body env home receiver holder) = refl
receiver_told (EnvironmentCell parent locals) = refl
receiver_told (ArrayCell items) = refl
receiver_told (TextCell bytes) = refl
receiver_told (FacetCell kind) = refl
receiver_told (MirrorCell mirrored) = refl
receiver_told (MessageCell sel args) = refl

object_told : (cell : Cell) → class_of_object (Some cell) ≡ object_shape (shape_of cell)
object_told (ObjectCell class entries) = refl
object_told (ClassCell decl base encl holder over) = refl
object_told (BlockCell body env home receiver holder) = refl
object_told (EnvironmentCell parent locals) = refl
object_told (ArrayCell items) = refl
object_told (TextCell bytes) = refl
object_told (FacetCell kind) = refl
object_told (MirrorCell mirrored) = refl
object_told (MessageCell sel args) = refl

is_environment_told : (cell : Cell) → is_environment (Some cell) ≡ is_some (environment_shape (shape_of cell))
is_environment_told (ObjectCell class entries) = refl
is_environment_told (ClassCell decl base encl holder over) = refl
is_environment_told (BlockCell body env home receiver holder) = refl
is_environment_told (EnvironmentCell parent locals) = refl
is_environment_told (ArrayCell items) = refl
is_environment_told (TextCell bytes) = refl
is_environment_told (FacetCell kind) = refl
is_environment_told (MirrorCell mirrored) = refl
is_environment_told (MessageCell sel args) = refl

locals_told : (cell : Cell) → option_map counted (environment_in (Some cell)) ≡ environment_shape (shape_of cell)
locals_told (ObjectCell class entries) = refl
locals_told (ClassCell decl base encl holder over) = refl
locals_told (BlockCell body env home receiver holder) = refl
locals_told (EnvironmentCell parent locals) = refl
locals_told (ArrayCell items) = refl
locals_told (TextCell bytes) = refl
locals_told (FacetCell kind) = refl
locals_told (MirrorCell mirrored) = refl
locals_told (MessageCell sel args) = refl

-- what is asked of a message's arguments is asked of a shape
abbrev SameSize : CodeProgram → Sel → Cell → Type 0
SameSize code sel cell =
    (HasArguments code sel (Some cell) → HasSize code sel (shape_of cell)) × (HasSize code sel (shape_of cell) → HasArguments code sel (Some cell))

arguments_told : (code : CodeProgram) (sel : Sel) (cell : Cell) → SameSize code sel cell
arguments_told code sel (ObjectCell class entries) = (λ h. h, λ h. h)
arguments_told code sel (ClassCell decl base encl holder over) = (λ h. h, λ h. h)
arguments_told code sel (BlockCell body env home receiver holder) = (λ h. h, λ h. h)
arguments_told code sel (EnvironmentCell parent locals) = (λ h. h, λ h. h)
arguments_told code sel (ArrayCell items) = (λ h. h, λ h. h)
arguments_told code sel (TextCell bytes) = (λ h. h, λ h. h)
arguments_told code sel (FacetCell kind) = (λ h. h, λ h. h)
arguments_told code sel (MirrorCell mirrored) = (λ h. h, λ h. h)
arguments_told code sel (MessageCell other args) = (λ h. h, λ h. h)

-- what one option tells of locals, where another tells as much
locals_of_other : (o : Option (Value × List Value)) (e : Value × List Value) → option_map counted o ≡ Some (counted e) →
    (before : Value × List Value) × (o ≡ Some before) × (counted before ≡ counted e)
locals_of_other None e h = absurd (cc)
locals_of_other (Some before) e h = (before, refl, cc)

some_counted : (o : Option (Value × List Value)) → is_some o ≡ is_some (option_map counted o)
some_counted None = refl
some_counted (Some e) = refl

-- two cells of one shape
pub twins_of_shape : (cell twin : Cell) → shape_of twin ≡ shape_of cell → Twins cell twin
twins_of_shape cell twin h =
    let locals : option_map counted (environment_in (Some cell)) ≡ option_map counted (environment_in (Some twin)) =
    locals_told cell ∙ (ap environment_shape (sym h) ∙ sym (locals_told twin)) in
    record {
      receiver = receiver_told twin ∙ (ap receiver_shape h ∙ sym (receiver_told cell));
      object = object_told twin ∙ (ap object_shape h ∙ sym (object_told cell));
      environment = is_environment_told twin ∙ (ap (λ s. is_some (environment_shape s)) h ∙ sym (is_environment_told cell));
      has_locals = some_counted (environment_in (Some twin)) ∙ (ap is_some (sym locals) ∙ sym (some_counted (environment_in (Some cell))));
      locals = λ e is.
          let f = locals_of_other (environment_in (Some cell)) e (locals ∙ ap (option_map counted) is) in
          record { before = f.0; is = f.1; parent = ap (λ (p : Value × ℕ). p.0) f.2; count = ap (λ (p : Value × ℕ). p.1) f.2 };
      arguments = λ code sel a. (arguments_told code sel twin).1 (subst (HasSize code sel) (sym h) ((arguments_told code sel cell).0 a));
    }

twin_of_itself : (cell : Cell) → Twins cell cell
twin_of_itself cell = twins_of_shape cell cell refl

-- a word or a byte that is written leaves the shape
pub word_shape : (word : ℕ) (value : Value) (cell : Cell) → shape_of (with_word cell word value) ≡ shape_of cell
word_shape word value (ObjectCell class entries) = ap (new.Object class) (length-set entries word value)
word_shape word value (ClassCell decl base encl holder over) = refl
word_shape word value (BlockCell body env home receiver holder) = refl
word_shape word value (EnvironmentCell parent locals) = ap (new.Environment parent) (length-set locals word value)
word_shape word value (ArrayCell items) = ap new.Array (length-set items word value)
word_shape word value (TextCell bytes) = refl
word_shape word value (FacetCell kind) = refl
word_shape word value (MirrorCell mirrored) = refl
word_shape word value (MessageCell sel args) = refl

pub byte_shape : (place byte : ℕ) (cell : Cell) → shape_of (with_byte cell place byte) ≡ shape_of cell
byte_shape place byte (ObjectCell class entries) = refl
byte_shape place byte (ClassCell decl base encl holder over) = refl
byte_shape place byte (BlockCell body env home receiver holder) = refl
byte_shape place byte (EnvironmentCell parent locals) = refl
byte_shape place byte (ArrayCell items) = refl
byte_shape place byte (TextCell bytes) = ap new.Text (length-set bytes place byte)
byte_shape place byte (FacetCell kind) = refl
byte_shape place byte (MirrorCell mirrored) = refl
byte_shape place byte (MessageCell sel args) = refl

-- so a cell and itself with one of them written are twins
pub word_twins : (word : ℕ) (value : Value) (cell : Cell) → Twins cell (with_word cell word value)
word_twins word value cell = twins_of_shape cell (with_word cell word value) (word_shape word value cell)

pub byte_twins : (place byte : ℕ) (cell : Cell) → Twins cell (with_byte cell place byte)
byte_twins place byte cell = twins_of_shape cell (with_byte cell place byte) (byte_shape place byte cell)

-- A cell is still there, or a twin of it.
pub record StillThere (after : Heap) (n : ℕ) (cell : Cell) : Type 0 where
  pub twin : Cell
  pub is : find_cell after n ≡ Some twin
  pub twins : Twins cell twin

-- What a heap keeps of an earlier one: its classes, and each cell but for what may be written.
pub record KeepsCells (before after : Heap) : Type 0 where
  pub order : IsInOrder before
  pub same : SameClasses before after
  pub cells : (n : ℕ) (cell : Cell) → find_cell before n ≡ Some cell → StillThere after n cell

-- one cell more
pub making_keeps_cells : (heap : Heap) (cell : Cell) → IsInOrder heap → KeepsCells heap (cell ∷ heap)
making_keeps_cells heap cell order = record {
  order = order;
  same = same_after_making heap cell order;
  cells = λ n old e. record { twin = old; is = found_in_more cell heap n (found_below heap n old e) ∙ e; twins = twin_of_itself old };
}

-- a cell that is changed is found changed
pub found_changed : (heap : Heap) (at : ℕ) (change : Cell → Cell) (cell : Cell) → ChangesPlainly change → find_cell heap at ≡ Some cell →
    find_cell (change_cell heap at change) at ≡ Some (change cell)
found_changed heap at change cell plainly e =
    let is : change_cell heap at change ≡ set_cell heap at (change cell) = rw e refl in
    ap (λ h. find_cell h at) is ∙ set_here heap at cell (change cell) e (plainly.size cell)

-- a word or a byte written
pub changing_keeps_cells : (heap : Heap) (at : ℕ) (change : Cell → Cell) → ChangesPlainly change →
    ((cell : Cell) → Twins cell (change cell)) → IsInOrder heap → KeepsCells heap (change_cell heap at change)
changing_keeps_cells heap at change plainly twins order = record {
  order = order;
  same = same_after_changing heap at change plainly order;
  cells = λ n cell e. tested n cell (eqb n at) refl e;
}
  where
    tested : (n : ℕ) (cell : Cell) (b : Bool) → eqb n at ≡ b → find_cell heap n ≡ Some cell → StillThere (change_cell heap at change) n cell
    tested n cell true t e =
        let here : n ≡ at = eqb-true n at t in
        record { twin = change cell; is = ap (find_cell (change_cell heap at change)) here ∙ found_changed heap at change cell plainly (ap (find_cell heap) (sym here) ∙ e); twins = twins cell }
    tested n cell false t e =
        let other : n ≢ at = λ q. let s : eqb n at ≡ true = eq-eqb n at q in cc in
        record { twin = cell; is = (changing_leaves heap at change plainly).others n other ∙ e; twins = twin_of_itself cell }
