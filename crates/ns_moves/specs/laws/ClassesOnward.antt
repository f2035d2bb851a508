-- What the making of objects and classes leaves.
use Rattle.std.proofs.Common.{◌≡◌, ℕ, List, [], ◌∷◌, refl, ap, ◌∙◌, Option, Some, None, Bool, true, false, cond, eqb, arith, replicate}
use Rattle.std.specs.Prelude.{Contains, codes, is_none, ◌&&◌}
use Rattle.std.specs.Option.{option_map_or}
use Rattle.std.proofs.lemmas.Bool.{eq-eqb}
use Rattle.std.specs.Str.{bytes_eq}
use Rattle.ns_code.specs.declared.program.CodeProgram.{CodeProgram}
use Rattle.ns_code.specs.Selector.{selector_text}
use Rattle.ns_world.specs.declared.value.Value.{Value}
use Rattle.ns_world.specs.declared.value.Value.TheVariants.{Nil, True, False, Int, Sym, Kernel, Ref}
use Rattle.ns_world.specs.declared.value.KClass.TheVariants.{Object, Array}
use Rattle.ns_world.specs.declared.ending.Kind.TheVariants.{InitMismatch}
use Rattle.ns_world.specs.declared.ending.LimitKind.TheVariants.{Depth}
use Rattle.ns_world.specs.declared.cell.NewCell.{NewCell}
use Rattle.ns_world.specs.declared.cell.NewCell.TheVariants as new
use Rattle.ns_world.specs.Cell.{Cell, ObjectCell, ClassCell, BlockCell, EnvironmentCell, ArrayCell, TextCell, FacetCell, MirrorCell, MessageCell, shape_of}
use Rattle.ns_world.specs.Heap.{Heap, heap_size, find_cell, superclass_in, is_class, is_superclass, chain_of}
use Rattle.ns_world.specs.Seek.{first_such, earlier_or, is_nil, is_top, may_be_first}
use Rattle.ns_world.specs.Later.{MayCome}
use Rattle.ns_world.specs.World.{entered, left, stored}
use Rattle.ns_world.specs.Layout.{declaration_of, layout_of, entries_above, entry_word}
use Rattle.ns_classes.specs.declared.apply.MakeFault.{MakeFault}
use Rattle.ns_classes.specs.declared.apply.MakeFault.TheVariants.{NotAClass}
use Rattle.ns_classes.specs.Apply.{class_fault, class_cell, chain_fault}
use Rattle.ns_kdata.specs.Arguments.{shape_of_value}
use Rattle.ns_classes.specs.Nested.{kept_class, nested_entry}
use Rattle.ns_kdata.specs.Leading.{is_common}
use Rattle.ns_moves.specs.declared.site.Site.{Site}
use Rattle.ns_moves.specs.Site.{error}
use Rattle.ns_moves.specs.Control.{Progress, in_world, Activation, Exit, FromMethod, FromBody, FromClause, After, Gives, Enter, Stop, Skip, EnterPart, halts, charged}
use Rattle.ns_moves.specs.Bodies.{initialiser_of, clause_of, no_home, opened}
use Rattle.ns_moves.specs.Classes.{class_made, mixed, keeping, newly_kept, kept_or, class_over, head, nested, instance, super_selector, factory_selector}
use Rattle.ns_moves.specs.Classes.{declared_part, object_part, part_of, super_part, slot_filled, body_ended, kept_by}
use Rattle.ns_moves.specs.Onward.{after_reached, reached, part_reached}
use Rattle.ns_moves.specs.laws.Growing.{leaving_moves, frame_moves, writing_moves, storing_moves}
use Rattle.ns_moves.specs.laws.Onward.{Going, may_come, onward_not, onward_on, onward_in, charged_all, opened_all, frame_onward, cells_onward, after_cells_onward, opened_onward}

made_onward :
    (named : List Value) (cell : Cell) (fault : Option MakeFault) (site : Site) (progress : Progress) (go : ℕ → Progress → After) →
    (fault ≡ None → MayCome progress.world.cells cell) → is_common (shape_of cell) ≡ true
    → ((number : ℕ) (next : Progress) → Going named next (after_reached (go number next))) → Going named progress (after_reached (class_made cell fault site progress go))
made_onward named cell (Some fault) site progress go may common goes = onward_not named progress
made_onward named cell None site progress go may common goes =
    after_cells_onward named cell progress (go _) (may refl) common (λ next. goes _ next)

-- a superclass that passes the checks is one
passed : (heap : Heap) (over : Value) → class_fault heap over ≡ None → is_superclass heap over ≡ true
passed heap (Kernel Object) e = refl
passed heap (Kernel Array) e = absurd (cc)
passed heap (Ref class) e = tested (is_class (find_cell heap class)) e
  where
    tested : (b : Bool) → cond b (chain_fault (chain_of heap class)) (Some NotAClass) ≡ None → b ≡ true
    tested true e = refl
    tested false e = absurd (cc)
passed heap Nil e = absurd (cc)
passed heap True e = absurd (cc)
passed heap False e = absurd (cc)
passed heap (Int number) e = absurd (cc)
passed heap (Sym sel) e = absurd (cc)

-- a cell that passes a test is the first, or there is one before it
first_there : (test : Cell → Bool) (heap : Heap) (number : ℕ) (cell : Cell) → find_cell heap number ≡ Some cell → test cell ≡ true →
    is_none (first_such test heap) ≡ false
first_there test [] number cell e t = absurd (cc)
first_there test (newest ∷ earlier) number cell e t = tested (eqb number (heap_size earlier)) e (first_there test earlier number cell)
  where
    here : (o : Option ℕ) (b : Bool) → b ≡ true → is_none (earlier_or o (cond b (Some (heap_size earlier)) None)) ≡ false
    here (Some n) b e = refl
    here None true e = refl
    here None false e = absurd (cc)

    before : (o later : Option ℕ) → is_none o ≡ false → is_none (earlier_or o later) ≡ false
    before (Some n) later h = refl
    before None later h = absurd (cc)

    tested : (b : Bool) → cond b (Some newest) (find_cell earlier number) ≡ Some cell → (find_cell earlier number ≡ Some cell → test cell ≡ true → is_none (first_such test earlier) ≡ false) → is_none (first_such test (newest ∷ earlier)) ≡ false
    tested true e below = let is : newest ≡ cell = cc in here (first_such test earlier) (test newest) (ap test is ∙ t)
    tested false e below = before (first_such test earlier) (cond (test newest) (Some (heap_size earlier)) None) (below e t)

-- a class that has the declaration and the enclosing object of one that is there is no first
no_first : (heap : Heap) (receiver : Value) (decl base made : ℕ) (encl holder under over : Value)
    → shape_of_value heap receiver ≡ new.Class decl base encl holder under → may_be_first heap (new.Class decl made encl holder over) ≡ false
no_first heap (Ref at) decl base made encl holder under over e = found (find_cell heap at) refl e
  where
    both : (nil : Bool) → is_nil encl ≡ nil → (nil ≡ true → is_none (first_such (is_top decl) heap) ≡ false) → (nil && is_none (first_such (is_top decl) heap)) ≡ false
    both true n h = h refl
    both false n h = refl

    top : (other base' : ℕ) (encl' holder' over' : Value) → find_cell heap at ≡ Some (ClassCell other base' encl' holder' over')
        → new.Class other base' encl' holder' over' ≡ new.Class decl base encl holder under → is_nil encl ≡ true
        → is_none (first_such (is_top decl) heap) ≡ false
    top other base' encl' holder' over' f c n =
        let same : decl ≡ other = cc in
        let nil : is_nil encl' ≡ true = ap is_nil (let q : encl' ≡ encl = cc in q) ∙ n in
        let t : is_top decl (ClassCell other base' encl' holder' over') ≡ true = rw (eq-eqb decl other same, nil) refl in
        first_there (is_top decl) heap at (ClassCell other base' encl' holder' over') f t

    found : (o : Option Cell) → find_cell heap at ≡ o → option_map_or shape_of o (new.Mirror Nil) ≡ new.Class decl base encl holder under → (is_nil encl && is_none (first_such (is_top decl) heap)) ≡ false
    found (Some (ClassCell other base' encl' holder' over')) f c = both (is_nil encl) refl (λ n. top other base' encl' holder' over' f c n)
    found (Some (ObjectCell class entries)) f c = absurd (cc)
    found (Some (BlockCell body env home self holder')) f c = absurd (cc)
    found (Some (EnvironmentCell parent locals)) f c = absurd (cc)
    found (Some (ArrayCell items)) f c = absurd (cc)
    found (Some (TextCell bytes)) f c = absurd (cc)
    found (Some (FacetCell kind)) f c = absurd (cc)
    found (Some (MirrorCell mirrored)) f c = absurd (cc)
    found (Some (MessageCell sel args)) f c = absurd (cc)
    found None f c = absurd (cc)
no_first heap Nil decl base made encl holder under over e = absurd (cc)
no_first heap True decl base made encl holder under over e = absurd (cc)
no_first heap False decl base made encl holder under over e = absurd (cc)
no_first heap (Int number) decl base made encl holder under over e = absurd (cc)
no_first heap (Sym sel) decl base made encl holder under over e = absurd (cc)
no_first heap (Kernel class) decl base made encl holder under over e = absurd (cc)

pub mixed_onward : (named : List Value) (code : CodeProgram) (receiver : Value) (cell : NewCell) (over : Value) (site : Site) (progress : Progress)
    → shape_of_value progress.world.cells receiver ≡ cell → Going named progress (after_reached (mixed code cell over site progress))
mixed_onward named code receiver' (new.Class decl base encl holder under) over site progress is =
    let heap = progress.world.cells in
    let cell = class_cell heap code decl encl holder over in
    made_onward named cell (class_fault heap over) site progress (λ number progress. Gives (Ref number) progress)
    (λ e. may_come heap cell (passed heap over e) (no_first heap receiver' decl base (entries_above heap code over) encl holder under over is)) refl
    (λ number next. onward_not named next)
mixed_onward named code receiver' (new.Object class words) over site progress is = onward_not named progress
mixed_onward named code receiver' (new.Block body env home receiver holder) over site progress is = onward_not named progress
mixed_onward named code receiver' (new.Environment parent locals) over site progress is = onward_not named progress
mixed_onward named code receiver' (new.Array size) over site progress is = onward_not named progress
mixed_onward named code receiver' (new.Text bytes) over site progress is = onward_not named progress
mixed_onward named code receiver' (new.Facet kind) over site progress is = onward_not named progress
mixed_onward named code receiver' (new.Mirror shown) over site progress is = onward_not named progress
mixed_onward named code receiver' (new.Message sel args) over site progress is = onward_not named progress

kept_onward : (named : List Value) (kept : Option ℕ) (progress : Progress) (new : After) → Going named progress (after_reached new) →
    Going named progress (after_reached (kept_or kept progress new))
kept_onward named (Some class) progress new goes = onward_not named progress
kept_onward named None progress new goes = goes

over_onward : (named : List Value) (code : CodeProgram) (object holder class : ℕ) (over : Value) (site : Site) (progress : Progress) →
    Contains named (Ref object)
    → Going named progress (after_reached (class_over code object holder class over site progress))
over_onward named code object holder class over site progress has =
    kept_onward named (kept_class progress.world.cells code object holder class) progress (newly_kept code object holder class over site progress)
    (made_onward named (class_cell progress.world.cells code class (Ref object) (Ref holder) over) (class_fault progress.world.cells over) site progress
    (λ number progress. Gives (Ref number) (in_world progress (keeping code object holder class number progress.world)))
    (λ e. may_come progress.world.cells (class_cell progress.world.cells code class (Ref object) (Ref holder) over) (passed progress.world.cells over e) refl) refl
    (λ number next. onward_in named next (keeping code object holder class number next.world)
    (writing_moves named next.world object (entry_word next.world.cells code holder (nested_entry code (declaration_of next.world.cells holder) class)) (Ref number) has)))

head_onward : (named : List Value) (code : CodeProgram) (object holder class : ℕ) (clause : Option ℕ) (site : Site) (progress : Progress) →
    Contains named (Ref object)
    → Going named progress (reached (head code object holder class clause site progress))
head_onward named code object holder class None site progress has =
    over_onward named code object holder class (Kernel Object) site progress has
head_onward named code object holder class (Some clause) site progress has =
    frame_onward named progress (opened code halts (Enter (FromClause object holder class)) inner [])
    (λ next. opened_onward named code (Enter (FromClause object holder class)) inner [] next (λ running locals last. onward_not named last))
  where
    inner : Activation
    inner = record { self = Ref object; holder = holder; body = clause; home = no_home; env = Nil; site = site }

pub nested_onward :
    (named : List Value) (code : CodeProgram) (object holder class : ℕ) (kept : Option ℕ) (site : Site) (progress : Progress) →
    Contains named (Ref object)
    → Going named progress (reached (nested code object holder class kept site progress))
nested_onward named code object holder class (Some kept) site progress has = onward_not named progress
nested_onward named code object holder class None site progress has =
    head_onward named code object holder class (clause_of code class) site progress has

pub instance_onward : (named : List Value) (code : CodeProgram) (class : ℕ) (arguments : List Value) (site : Site) (progress : Progress) →
    Going named progress (reached (instance code class arguments site progress))
instance_onward named code class arguments site progress =
    cells_onward named (ObjectCell class (replicate (layout_of progress.world.cells code class) Nil)) progress (opened code halts (Enter FromBody) inner arguments)
    (may_come progress.world.cells (ObjectCell class (replicate (layout_of progress.world.cells code class) Nil)) refl refl) refl
    (λ next. opened_onward named code (Enter FromBody) inner arguments next (λ running locals last. onward_not named last))
  where
    inner : Activation
    inner = record { self = Ref (heap_size progress.world.cells); holder = class; body = initialiser_of code (declaration_of progress.world.cells class); home = no_home; env = Nil; site = site }

-- a part of a superclass
entered_part : (named : List Value) (code : CodeProgram) (activation : Activation) (arguments : List Value) (progress : Progress)
    → Going named progress (part_reached (charged Stop Depth (entered progress.world) progress (opened code Stop EnterPart activation arguments)))
entered_part named code activation arguments progress =
    charged_all (λ part. Going named progress (part_reached part)) Stop Depth (entered progress.world) progress (opened code Stop EnterPart activation arguments) (onward_not named progress)
    (λ world e. let framed = onward_in named progress world (frame_moves named progress.world world e) in
    opened_all (λ part. Going named progress (part_reached part)) code Stop EnterPart activation arguments (in_world progress world) framed
    (λ running locals last grows. onward_on named progress (in_world progress world) (in_world progress last) framed (onward_in named (in_world progress world) last (grows named))))

declared_onward :
    (named : List Value) (code : CodeProgram) (activation : Activation) (over sel : ℕ) (arguments : List Value) (progress : Progress) →
    Going named progress (part_reached (declared_part code activation over sel arguments progress))
declared_onward named code activation over sel arguments progress =
    tested (eqb sel (factory_selector code (declaration_of progress.world.cells over)))
  where
    inner : Activation
    inner = record { self = activation.self; holder = over; body = initialiser_of code (declaration_of progress.world.cells over); home = no_home; env = Nil; site = activation.site }

    tested : (b : Bool) → Going named progress (part_reached (cond b (charged Stop Depth (entered progress.world) progress (opened code Stop EnterPart inner arguments)) (Stop (error InitMismatch activation.site) progress)))
    tested true = entered_part named code inner arguments progress
    tested false = onward_not named progress

object_onward : (named : List Value) (code : CodeProgram) (activation : Activation) (sel : ℕ) (progress : Progress) →
    Going named progress (part_reached (object_part code activation sel progress))
object_onward named code activation sel progress = tested (bytes_eq (selector_text code sel) (codes "new"))
  where
    tested : (b : Bool) → Going named progress (part_reached (cond b (Skip progress) (Stop (error InitMismatch activation.site) progress)))
    tested true = onward_not named progress
    tested false = onward_not named progress

part_onward :
    (named : List Value) (code : CodeProgram) (activation : Activation) (over : Value) (sel : ℕ) (arguments : List Value) (progress : Progress) →
    Going named progress (part_reached (part_of code activation over sel arguments progress))
part_onward named code activation (Ref over) sel arguments progress = declared_onward named code activation over sel arguments progress
part_onward named code activation Nil sel arguments progress = object_onward named code activation sel progress
part_onward named code activation True sel arguments progress = object_onward named code activation sel progress
part_onward named code activation False sel arguments progress = object_onward named code activation sel progress
part_onward named code activation (Int number) sel arguments progress = object_onward named code activation sel progress
part_onward named code activation (Sym name) sel arguments progress = object_onward named code activation sel progress
part_onward named code activation (Kernel class) sel arguments progress = object_onward named code activation sel progress

-- A part of a superclass goes onward and changes no cell.
pub super_onward : (named : List Value) (code : CodeProgram) (activation : Activation) (arguments : List Value) (progress : Progress) →
    Going named progress (part_reached (super_part code activation arguments progress))
super_onward named code activation arguments progress =
    part_onward named code activation (superclass_in (find_cell progress.world.cells activation.holder)) (super_selector code (declaration_of progress.world.cells activation.holder)) arguments progress

left_onward : (named : List Value) (progress : Progress) → Going named progress (in_world progress (left progress.world))
left_onward named progress = onward_in named progress (left progress.world) (leaving_moves named progress.world)

-- The end of a body goes onward, and changes the object that keeps the class.
pub ended_onward : (code : CodeProgram) (exit : Exit) (activation : Activation) (value : Value) (progress : Progress) →
    Going (kept_by exit) progress (after_reached (body_ended code exit activation value progress))
ended_onward code FromMethod activation value progress = left_onward [] progress
ended_onward code FromBody activation value progress = left_onward [] progress
ended_onward code (FromClause object holder class) activation value progress =
    let down : Progress = in_world progress (left progress.world) in
    onward_on (Ref object ∷ []) progress down (after_reached (class_over code object holder class value activation.site down)) (left_onward (Ref object ∷ []) progress)
    (over_onward (Ref object ∷ []) code object holder class value activation.site down (0, omega arith, refl))

-- The filling of a slot goes onward, and changes self.
pub filled_onward : (code : CodeProgram) (activation : Activation) (slot : ℕ) (value : Value) (progress : Progress) →
    Going (activation.self ∷ []) progress (slot_filled code activation slot value progress)
filled_onward code activation slot value progress =
    onward_in (activation.self ∷ []) progress (stored progress.world activation.self (entry_word progress.world.cells code activation.holder slot) value)
    (storing_moves (activation.self ∷ []) progress.world activation.self (entry_word progress.world.cells code activation.holder slot) value (0, omega arith, refl))
