-- Sends in a lawful run.
use Rattle.std.proofs.Common.{◌≡◌, ℕ, List, [], ◌∷◌, refl, ap, sym, ◌∙◌, subst, arith, Option, Some, None, All, true, slice_get}
use Rattle.std.specs.Option.{option_map}
use Rattle.std.specs.Prelude.{IsSome}
use Rattle.ns_base.specs.declared.place.Place.{Place as SourcePlace}
use Rattle.ns_base.specs.declared.selector.Sel.{Sel}
use Rattle.ns_code.specs.declared.program.CodeProgram.{CodeProgram}
use Rattle.ns_code.specs.declared.body.BodyCode.{BodyCode}
use Rattle.ns_code.specs.declared.own.Own.TheVariants.{DoesNotUnderstand}
use Rattle.ns_code.specs.Selector.{own_number}
use Rattle.ns_world.specs.declared.value.Value.{Value}
use Rattle.ns_world.specs.declared.value.Value.TheVariants as value
use Rattle.ns_world.specs.declared.ending.LimitKind.TheVariants.{Steps, Cells}
use Rattle.ns_world.specs.Cell.{ArrayCell, MessageCell}
use Rattle.ns_world.specs.Heap.{Heap, heap_size, find_cell, is_class, superclass_of, word_of_object}
use Rattle.ns_world.specs.World.{World, made, stepped, written, stored}
use Rattle.ns_world.specs.Starts.{start_of}
use Rattle.ns_world.specs.Layout.{declaration_of, entry_word}
use Rattle.ns_world.specs.Lawful.{IsLawful, IsLiveValue, HasHolder}
use Rattle.ns_find.specs.declared.found.Found.{Found}
use Rattle.ns_find.specs.declared.found.Found.TheVariants as found
use Rattle.ns_find.specs.declared.found.Sending.TheVariants.{Plain, Inner}
use Rattle.ns_find.specs.declared.members.Side.{Side}
use Rattle.ns_find.specs.declared.members.Side.TheVariants.{Instance as InstanceSide, Class as ClassSide}
use Rattle.ns_find.specs.Find.{found_from, found_private, super_start}
use Rattle.ns_find.specs.Belonging.{IsSlotOf, HasNested}
use Rattle.ns_classes.specs.laws.Lawfully.{slot_filled}
use Rattle.ns_kdata.specs.Arguments.{items_of}
use Rattle.ns_kdata.specs.laws.Filled.{filled_keeps}
use Rattle.ns_kdata.specs.laws.LivingItems.{written_live}
use Rattle.ns_moves.specs.declared.site.Site.{Site}
use Rattle.ns_moves.specs.Control.{Progress, in_world, Activation, FromMethod, Control, Enter, halts, charged}
use Rattle.ns_moves.specs.Bodies.{enclosing, side_of_body, side_at}
use Rattle.ns_moves.specs.Sends.{Target, To, ToPrivate, ToSuper, Arguments, Listed, Wrapped, given, first_of, one_more, method_entered, factory_entered, set, nested_in, done_with, not_found, answered_by, sent, sent_plain, site_at, performed}
use Rattle.ns_world.specs.KernelTable.{row_at}
use Rattle.ns_moves.specs.Lawful.{LawfulRun, LawfulControl, FitsSelector, FitsTarget, declaration_of_body, declaration_at}
use Rattle.ns_moves.specs.laws.Growing.{step_cells}
use Rattle.ns_moves.specs.laws.Onward.{charged_all}
use Rattle.ns_moves.specs.lemmas.Later.{Later, later_not, later_on, later_made, later_stepped, all_live}
use Rattle.ns_moves.specs.lemmas.LawfulBodies.{frame_lawful, opened_lawful, new_found, new_live, one_live}
use Rattle.ns_moves.specs.lemmas.LawfulClasses.{instance_lawful, nested_lawful, word_live}
use Rattle.ns_moves.specs.lemmas.LawfulRows.{row_lawful}
use Rattle.ns_moves.specs.Suits.{Suits}
use Rattle.ns_moves.specs.lemmas.Suiting.{found_suits, private_suits, super_suits, super_side_suits}
use Rattle.ns_moves.specs.lemmas.Places.{places_fit}

-- Arguments that are live; those that go into a Message are as many as its selector takes.
abbrev pub ArgumentsAreLive : Heap → CodeProgram → Arguments → Type 0
ArgumentsAreLive heap code (Listed values) = All (IsLiveValue heap code) values
ArgumentsAreLive heap code (Wrapped sel values) = FitsSelector heap code sel values

-- arguments that are given live
given_lawful : (code : CodeProgram) (arguments : Arguments) (progress : Progress) (go : List Value → Progress → Control) →
    LawfulRun code progress → ArgumentsAreLive progress.world.cells code arguments
    → ((values : List Value) (world : World) → Later code progress.world world → All (IsLiveValue world.cells code) values → LawfulControl code (go values (in_world progress world))) → LawfulControl code (given arguments progress go)
given_lawful code (Listed values) progress go lawful live goes = goes values progress.world (later_not code progress.world lawful) live
given_lawful code (Wrapped sel values) progress go lawful fits goes =
    charged_all (LawfulControl code) halts Cells (made progress.world (ArrayCell values)) progress _ lawful (λ world e. message world e)
  where
    message : (world : World) → made progress.world (ArrayCell values) ≡ Some world
        → LawfulControl code (charged halts Cells (made world (MessageCell sel (value.Ref (heap_size progress.world.cells)))) (in_world progress world) (go (value.Ref (heap_size world.cells) ∷ [])))
    message world e =
        let array : IsLawful world code = filled_keeps progress.world world code (ArrayCell values) lawful refl tt fits.live e in
        let is = new_found progress.world world (ArrayCell values) e in
        let later = later_made code progress.world world (ArrayCell values) lawful array e in
        charged_all (LawfulControl code) halts Cells (made world (MessageCell sel (value.Ref (heap_size progress.world.cells)))) (in_world progress world) _ array
        (λ next m.
        let whole : IsLawful next code = filled_keeps world next code (MessageCell sel (value.Ref (heap_size progress.world.cells))) array refl (fits.selector, rw is fits.arity) tt m in
        let further = later_made code world next (MessageCell sel (value.Ref (heap_size progress.world.cells))) array whole m in
        goes (value.Ref (heap_size world.cells) ∷ []) next (later_on code progress.world world next later further)
        (one_live next.cells code (value.Ref (heap_size world.cells)) (new_live code world next (MessageCell sel (value.Ref (heap_size progress.world.cells))) refl m)))

arguments_later : (code : CodeProgram) (old new : World) (arguments : Arguments) → Later code old new →
    ArgumentsAreLive old.cells code arguments → ArgumentsAreLive new.cells code arguments
arguments_later code old new (Listed values) later fits = all_live code old new values later fits
arguments_later code old new (Wrapped sel values) later fits =
    record { selector = fits.selector; arity = fits.arity; live = all_live code old new values later fits.live }

-- ---- members

method_lawful : (code : CodeProgram) (body holder : ℕ) (receiver : Value) (arguments : Arguments) (site : Site) (progress : Progress) →
    LawfulRun code progress → IsLiveValue progress.world.cells code receiver → ArgumentsAreLive progress.world.cells code arguments
    → LawfulControl code (method_entered code body holder receiver arguments site progress)
method_lawful code body holder receiver arguments site progress lawful live fits =
    frame_lawful code progress _ lawful (λ world later.
    given_lawful code arguments (in_world progress world) _ later.lawful (arguments_later code progress.world world arguments later fits) (λ values next further all.
    opened_lawful (LawfulControl code) code halts (λ activation locals progress. Enter FromMethod activation locals (one_more progress))
    (record { self = receiver; holder = holder; body = body; home = progress.begun; env = value.Nil; site = site }) values (in_world progress next) further.lawful
    (record { self = further.live receiver (later.live receiver live); env = tt; locals = all }) further.lawful (λ running locals last more fine. (more.lawful, fine))))

factory_lawful : (code : CodeProgram) (class : ℕ) (arguments : Arguments) (site : Site) (progress : Progress) → LawfulRun code progress →
    is_class (find_cell progress.world.cells class) ≡ true → ArgumentsAreLive progress.world.cells code arguments
    → LawfulControl code (factory_entered code class arguments site progress)
factory_lawful code class arguments site progress lawful is fits =
    frame_lawful code progress _ lawful (λ world later.
    given_lawful code arguments (in_world progress world) _ later.lawful (arguments_later code progress.world world arguments later fits) (λ values next further all.
    instance_lawful code class values site (in_world progress next) further.lawful (further.class class (later.class class is)) all))

-- a slot of a receiver that is written
stored_lawful : (code : CodeProgram) (old new : World) (receiver : Value) (holder word : ℕ) (v : Value) →
    HasHolder old.cells receiver holder → is_class (find_cell old.cells holder) ≡ true → IsSlotOf old.cells code holder word →
    Later code old new → IsLiveValue new.cells code v
    → IsLawful (stored new receiver word v) code
stored_lawful code old new (value.Ref at) holder word v has is slot later live =
    let declared : slice_get code.classes (declaration_of new.cells holder) ≡ Some slot.class = ap (slice_get code.classes) (later.declaration holder is) ∙ slot.class_is in
    let same : word ≡ entry_word new.cells code holder slot.entry = slot.word_is ∙ sym (later.word holder slot.entry is) in
    subst (λ w. IsLawful (written new at w v) code) (sym same) (slot_filled new code at holder slot.entry slot.class v later.lawful (later.holder (value.Ref at) holder has) declared slot.inside live)
stored_lawful code old new value.Nil holder word v has is slot later live = absurd has
stored_lawful code old new value.True holder word v has is slot later live = absurd has
stored_lawful code old new value.False holder word v has is slot later live = absurd has
stored_lawful code old new (value.Int number) holder word v has is slot later live = absurd has
stored_lawful code old new (value.Sym sel) holder word v has is slot later live = absurd has
stored_lawful code old new (value.Kernel class) holder word v has is slot later live = absurd has

stored_live : (code : CodeProgram) (world : World) (object : Value) (word : ℕ) (v other : Value) → IsLiveValue world.cells code other →
    IsLiveValue (stored world object word v).cells code other
stored_live code world (value.Ref at) word v other live = written_live world.cells code at word v other live
stored_live code world value.Nil word v other live = live
stored_live code world value.True word v other live = live
stored_live code world value.False word v other live = live
stored_live code world (value.Int number) word v other live = live
stored_live code world (value.Sym sel) word v other live = live
stored_live code world (value.Kernel class) word v other live = live

first_is_live : (heap : Heap) (code : CodeProgram) (values : List Value) → All (IsLiveValue heap code) values →
    IsLiveValue heap code (first_of values)
first_is_live heap code [] all = (tt, refl)
first_is_live heap code (v ∷ values) all = all 0 v (omega arith)

set_lawful : (code : CodeProgram) (holder word : ℕ) (receiver : Value) (arguments : Arguments) (progress : Progress) →
    LawfulRun code progress → IsLiveValue progress.world.cells code receiver → ArgumentsAreLive progress.world.cells code arguments
    → HasHolder progress.world.cells receiver holder → is_class (find_cell progress.world.cells holder) ≡ true → IsSlotOf progress.world.cells code holder word → LawfulControl code (set word receiver arguments progress)
set_lawful code holder word receiver arguments progress lawful live fits has is slot =
    given_lawful code arguments progress _ lawful fits (λ values world later all.
    let first = first_is_live world.cells code values all in
    (stored_lawful code progress.world world receiver holder word (first_of values) has is slot later first, stored_live code world receiver word (first_of values) receiver (later.live receiver live)))

nested_in_lawful : (code : CodeProgram) (receiver : Value) (holder class : ℕ) (site : Site) (progress : Progress) →
    LawfulRun code progress → HasHolder progress.world.cells receiver holder → is_class (find_cell progress.world.cells holder) ≡ true →
    HasNested progress.world.cells code holder class
    → LawfulControl code (nested_in code receiver holder class site progress)
nested_in_lawful code (value.Ref object) holder class site progress lawful has is nested =
    nested_lawful code object holder class site progress lawful (record { object_has = has; holder_is = is; nested = nested })
nested_in_lawful code value.Nil holder class site progress lawful has is nested = absurd has
nested_in_lawful code value.True holder class site progress lawful has is nested = absurd has
nested_in_lawful code value.False holder class site progress lawful has is nested = absurd has
nested_in_lawful code (value.Int number) holder class site progress lawful has is nested = absurd has
nested_in_lawful code (value.Sym sel) holder class site progress lawful has is nested = absurd has
nested_in_lawful code (value.Kernel kernel) holder class site progress lawful has is nested = absurd has

slot_live : (world : World) (code : CodeProgram) (receiver : Value) (holder word : ℕ) → IsLawful world code →
    HasHolder world.cells receiver holder → IsLiveValue world.cells code (word_of_object world.cells receiver word)
slot_live world code (value.Ref at) holder word lawful has = word_live world code at word lawful has.1
slot_live world code value.Nil holder word lawful has = absurd has
slot_live world code value.True holder word lawful has = absurd has
slot_live world code value.False holder word lawful has = absurd has
slot_live world code (value.Int number) holder word lawful has = absurd has
slot_live world code (value.Sym sel) holder word lawful has = absurd has
slot_live world code (value.Kernel class) holder word lawful has = absurd has

-- a member with its arguments as they stand
listed_lawful :
    (code : CodeProgram) (member : Found) (sel : Sel) (receiver : Value) (values : List Value) (site : Site) (progress : Progress) →
    LawfulRun code progress → IsLiveValue progress.world.cells code receiver → All (IsLiveValue progress.world.cells code) values →
    Suits progress.world.cells code receiver member
    → LawfulControl code (done_with code member sel receiver (Listed values) site progress)
listed_lawful code (found.Method body holder) sel receiver values site progress lawful live all suits =
    method_lawful code body holder receiver (Listed values) site progress lawful live all
listed_lawful code (found.Getter holder word) sel receiver values site progress lawful live all suits =
    (lawful, slot_live progress.world code receiver holder word lawful suits.0)
listed_lawful code (found.Setter holder word) sel receiver values site progress lawful live all suits =
    set_lawful code holder word receiver (Listed values) progress lawful live all suits.0 suits.1 suits.2
listed_lawful code (found.Nested class holder) sel receiver values site progress lawful live all suits =
    nested_in_lawful code receiver holder class site progress lawful suits.0 suits.1 suits.2
listed_lawful code (found.Factory class) sel receiver values site progress lawful live all suits =
    factory_lawful code class (Listed values) site progress lawful suits all
listed_lawful code (found.Kernel number) sel receiver values site progress lawful live all suits =
    row_lawful code (row_at number) sel receiver values site progress lawful live all
listed_lawful code found.NotPublic sel receiver values site progress lawful live all suits = lawful
listed_lawful code found.Absent sel receiver values site progress lawful live all suits = lawful

-- a send that found nothing
absent_lawful :
    (code : CodeProgram) (member : Found) (sel : Sel) (receiver : Value) (values : List Value) (site : Site) (progress : Progress) →
    LawfulRun code progress → IsLiveValue progress.world.cells code receiver → FitsSelector progress.world.cells code sel values →
    Suits progress.world.cells code receiver member
    → LawfulControl code (not_found code member sel receiver values site progress)
absent_lawful code (found.Method body holder) sel receiver values site progress lawful live fits suits =
    method_lawful code body holder receiver (Wrapped sel values) site progress lawful live fits
absent_lawful code (found.Getter holder word) sel receiver values site progress lawful live fits suits =
    (lawful, slot_live progress.world code receiver holder word lawful suits.0)
absent_lawful code (found.Setter holder word) sel receiver values site progress lawful live fits suits =
    set_lawful code holder word receiver (Wrapped sel values) progress lawful live fits suits.0 suits.1 suits.2
absent_lawful code (found.Nested class holder) sel receiver values site progress lawful live fits suits =
    nested_in_lawful code receiver holder class site progress lawful suits.0 suits.1 suits.2
absent_lawful code (found.Factory class) sel receiver values site progress lawful live fits suits =
    factory_lawful code class (Wrapped sel values) site progress lawful suits fits
absent_lawful code (found.Kernel number) sel receiver values site progress lawful live fits suits = lawful
absent_lawful code found.NotPublic sel receiver values site progress lawful live fits suits = lawful
absent_lawful code found.Absent sel receiver values site progress lawful live fits suits = lawful

pub answered_lawful :
    (code : CodeProgram) (member : Found) (sel : Sel) (receiver : Value) (values : List Value) (site : Site) (progress : Progress) →
    LawfulRun code progress → IsLiveValue progress.world.cells code receiver → FitsSelector progress.world.cells code sel values →
    Suits progress.world.cells code receiver member
    → LawfulControl code (answered_by code member sel receiver values site progress)
answered_lawful code found.Absent sel receiver values site progress lawful live fits suits =
    absent_lawful code (found_from progress.world.cells code (start_of progress.world.cells receiver) (own_number code DoesNotUnderstand) Inner) sel receiver values site progress lawful live fits
    (found_suits progress.world code receiver (own_number code DoesNotUnderstand) Inner lawful)
answered_lawful code (found.Method body holder) sel receiver values site progress lawful live fits suits =
    listed_lawful code (found.Method body holder) sel receiver values site progress lawful live fits.live suits
answered_lawful code (found.Getter holder word) sel receiver values site progress lawful live fits suits =
    listed_lawful code (found.Getter holder word) sel receiver values site progress lawful live fits.live suits
answered_lawful code (found.Setter holder word) sel receiver values site progress lawful live fits suits =
    listed_lawful code (found.Setter holder word) sel receiver values site progress lawful live fits.live suits
answered_lawful code (found.Nested class holder) sel receiver values site progress lawful live fits suits =
    listed_lawful code (found.Nested class holder) sel receiver values site progress lawful live fits.live suits
answered_lawful code (found.Factory class) sel receiver values site progress lawful live fits suits =
    listed_lawful code (found.Factory class) sel receiver values site progress lawful live fits.live suits
answered_lawful code (found.Kernel number) sel receiver values site progress lawful live fits suits =
    listed_lawful code (found.Kernel number) sel receiver values site progress lawful live fits.live suits
answered_lawful code found.NotPublic sel receiver values site progress lawful live fits suits =
    listed_lawful code found.NotPublic sel receiver values site progress lawful live fits.live suits

-- ---- sends

-- a send whose member suits its receiver
pub stepped_lawful :
    (code : CodeProgram) (member : Found) (sel : Sel) (receiver : Value) (values : List Value) (site : Site) (progress : Progress) →
    LawfulRun code progress → IsLiveValue progress.world.cells code receiver → FitsSelector progress.world.cells code sel values →
    Suits progress.world.cells code receiver member
    → LawfulControl code (charged halts Steps (stepped progress.world) progress (answered_by code member sel receiver values site))
stepped_lawful code member sel receiver values site progress lawful live fits suits =
    charged_all (LawfulControl code) halts Steps (stepped progress.world) progress (answered_by code member sel receiver values site) lawful
    (λ world e.
    let same = step_cells progress.world world e in
    let later = later_stepped code progress.world world lawful e same in
    answered_lawful code member sel receiver values site (in_world progress world) later.lawful (later.live receiver live)
    (record { selector = fits.selector; arity = fits.arity; live = all_live code progress.world world values later fits.live })
    (subst (λ cells. Suits cells code receiver member) (sym same) suits))

-- A plain send leaves a lawful world.
pub plain_lawful :
    (code : CodeProgram) (receiver : Value) (sel : Sel) (values : List Value) (place : Option SourcePlace) (progress : Progress) →
    LawfulRun code progress → IsLiveValue progress.world.cells code receiver → FitsSelector progress.world.cells code sel values
    → LawfulControl code (sent_plain code receiver sel values place progress)
plain_lawful code receiver sel values place progress lawful live fits =
    stepped_lawful code (found_from progress.world.cells code (start_of progress.world.cells receiver) sel.0 Plain) sel receiver values (site_at progress.world.cells place receiver sel) progress lawful live fits
    (found_suits progress.world code receiver sel.0 Plain lawful)

-- A send that `perform:with:` makes leaves a lawful world.
pub performed_lawful : (code : CodeProgram) (receiver : Value) (sel : Sel) (array : ℕ) (site : Site) (progress : Progress) →
    LawfulRun code progress → IsLiveValue progress.world.cells code receiver →
    FitsSelector progress.world.cells code sel (items_of progress.world.cells (value.Ref array))
    → LawfulControl code (performed code receiver sel array site progress)
performed_lawful code receiver sel array site progress lawful live fits =
    plain_lawful code receiver sel (items_of progress.world.cells (value.Ref array)) site.place progress lawful live fits

-- a send to super, by the side of the code
pub super_fits : (world : World) (code : CodeProgram) (activation : Activation) (side : Side) (sel : ℕ) → IsLawful world code →
    (side ≡ InstanceSide → HasHolder world.cells activation.self activation.holder)
    → Suits world.cells code activation.self (found_from world.cells code (super_start world.cells activation.holder side) sel Inner)
super_fits world code activation ClassSide sel lawful has =
    super_side_suits world.cells code activation.self (superclass_of world.cells activation.holder) sel
super_fits world code activation InstanceSide sel lawful has = object activation.self refl (has refl)
  where
    f : Found
    f = found_from world.cells code (super_start world.cells activation.holder InstanceSide) sel Inner

    object : (self : Value) → activation.self ≡ self → HasHolder world.cells activation.self activation.holder → Suits world.cells code activation.self f
    object (value.Ref at) e h = subst (λ v. Suits world.cells code v f) (sym e) (super_suits world code at activation.holder sel lawful (subst (λ v. HasHolder world.cells v activation.holder) e h))
    object value.Nil e h = absurd (subst (λ v. HasHolder world.cells v activation.holder) e h)
    object value.True e h = absurd (subst (λ v. HasHolder world.cells v activation.holder) e h)
    object value.False e h = absurd (subst (λ v. HasHolder world.cells v activation.holder) e h)
    object (value.Int number) e h = absurd (subst (λ v. HasHolder world.cells v activation.holder) e h)
    object (value.Sym name) e h = absurd (subst (λ v. HasHolder world.cells v activation.holder) e h)
    object (value.Kernel class) e h = absurd (subst (λ v. HasHolder world.cells v activation.holder) e h)

pub body_declared : (code : CodeProgram) (body : ℕ) → IsSome (slice_get code.bodies body) → IsSome (declaration_of_body code body)
body_declared code body some = found (slice_get code.bodies body) some
  where
    found : (o : Option BodyCode) → IsSome o → IsSome (option_map (λ (b : BodyCode). b.class) o)
    found (Some b) h = h
    found None h = absurd (cc)

-- each send of running code
pub sent_lawful :
    (code : CodeProgram) (activation : Activation) (target : Target) (sel : Sel) (values : List Value) (place : Option SourcePlace) (progress : Progress) →
    LawfulRun code progress → FitsTarget progress.world.cells code activation target → FitsSelector progress.world.cells code sel values
    → LawfulControl code (sent code activation target sel values place progress)
sent_lawful code activation (To receiver kind) sel values place progress lawful fits selector =
    stepped_lawful code (found_from progress.world.cells code (start_of progress.world.cells receiver) sel.0 kind) sel receiver values (site_at progress.world.cells place receiver sel) progress lawful fits selector
    (found_suits progress.world code receiver sel.0 kind lawful)
sent_lawful code activation (ToPrivate level) sel values place progress lawful (fits, there) selector =
    declared (declaration_at code activation.body level) refl there
  where
    declared : (o : Option ℕ) → declaration_at code activation.body level ≡ o → IsSome o → LawfulControl code (sent code activation (ToPrivate level) sel values place progress)
    declared (Some decl) e some =
        let p = places_fit progress.world code activation level decl lawful fits e in
        let o = enclosing progress.world.cells activation level in
        stepped_lawful code (found_private progress.world.cells code o.holder (side_at code activation level) sel.0) sel o.object values (site_at progress.world.cells place o.object sel) progress lawful p.live selector
        (private_suits progress.world.cells code o.object o.holder (side_at code activation level) sel.0 p.has p.holder_is)
    declared None e some = absurd (cc)
sent_lawful code activation ToSuper sel values place progress lawful fits selector =
    declared (declaration_at code activation.body 0) refl (body_declared code activation.body fits.there)
  where
    declared : (o : Option ℕ) → declaration_at code activation.body 0 ≡ o → IsSome o → LawfulControl code (sent code activation ToSuper sel values place progress)
    declared (Some decl) e some =
        let p = places_fit progress.world code activation 0 decl lawful fits e in
        stepped_lawful code (found_from progress.world.cells code (super_start progress.world.cells activation.holder (side_of_body code activation.body)) sel.0 Inner) sel activation.self values
        (site_at progress.world.cells place activation.self sel) progress lawful fits.live selector
        (super_fits progress.world code activation (side_of_body code activation.body) sel.0 lawful p.has)
    declared None e some = absurd (cc)
