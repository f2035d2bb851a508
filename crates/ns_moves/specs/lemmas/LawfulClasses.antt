-- Objects and classes that are made in a lawful run.
use Rattle.std.proofs.Common.{◌≡◌, ℕ, ◌+◌, List, [], length, replicate, get_or, refl, ap, sym, ◌∙◌, subst, arith, Option, Some, None, All, true}
use Rattle.std.specs.Prelude.{IsSome, slice_get}
use Rattle.std.specs.Option.{option_map_or}
use Rattle.ns_code.specs.declared.program.CodeProgram.{CodeProgram}
use Rattle.ns_code.specs.declared.class.ClassCode.{ClassCode}
use Rattle.ns_world.specs.declared.value.Value.{Value}
use Rattle.ns_world.specs.declared.value.Value.TheVariants.{Nil, True, False, Int, Sym, Kernel, Ref}
use Rattle.ns_world.specs.declared.value.KClass.TheVariants.{Object}
use Rattle.ns_world.specs.declared.cell.NewCell.TheVariants as new
use Rattle.ns_world.specs.declared.ending.LimitKind.TheVariants.{Cells}
use Rattle.ns_world.specs.Cell.{Cell, ObjectCell, ClassCell, BlockCell, EnvironmentCell, ArrayCell, TextCell, FacetCell, MirrorCell, MessageCell, cell_words, shape_of}
use Rattle.ns_world.specs.Heap.{Heap, heap_size, find_cell, is_class, is_chain_start, word_at}
use Rattle.ns_world.specs.World.{World, made, written}
use Rattle.ns_world.specs.Layout.{declaration_of, layout_of, entries_above, entry_word}
use Rattle.ns_world.specs.Lawful.{IsLawful, IsLiveValue, IsKept, HasHolder, HasEnclosing, class_of_object}
use Rattle.ns_world.specs.Keeping.{IsEnclosed}
use Rattle.ns_world.specs.laws.Making.{making_keeps}
use Rattle.ns_classes.specs.declared.apply.MakeFault.{MakeFault}
use Rattle.ns_classes.specs.Apply.{class_fault, class_cell}
use Rattle.ns_classes.specs.Nested.{place_of, nested_entry, kept_in, kept_class}
use Rattle.ns_classes.specs.laws.Lawfully.{fits, class_kept}
use Rattle.ns_kdata.specs.Arguments.{shape_of_value}
use Rattle.ns_kdata.specs.laws.LivingItems.{get_live, written_live}
use Rattle.ns_moves.specs.declared.site.Site.{Site}
use Rattle.ns_moves.specs.Control.{Progress, in_world, Activation, FromBody, FromClause, After, Gives, Halts, Enter, halts}
use Rattle.ns_moves.specs.Bodies.{initialiser_of, clause_of, no_home, opened}
use Rattle.ns_moves.specs.Classes.{class_made, mixed, keeping, newly_kept, kept_or, class_over, head, nested, instance}
use Rattle.ns_moves.specs.Lawful.{LawfulRun, LawfulAfter, LawfulControl, LiveActivation, HasClass}
use Rattle.ns_moves.specs.laws.Onward.{charged_all}
use Rattle.ns_moves.specs.lemmas.Later.{Later, later_made, all_live}
use Rattle.ns_moves.specs.lemmas.LawfulBodies.{frame_lawful, opened_lawful, new_found, new_live}
use Rattle.ns_moves.specs.lemmas.Nesting.{nested_inner, first_nested}

no_values : (heap : Heap) (code : CodeProgram) → All (IsLiveValue heap code) []
no_values heap code = λ i d h. absurd (omega (arith, h))

pub class_live : (heap : Heap) (code : CodeProgram) (o : Option Cell) (number : ℕ) → find_cell heap number ≡ o → is_class o ≡ true →
    IsLiveValue heap code (Ref number)
class_live heap code (Some (ClassCell decl base encl holder over)) number e t = (rw e refl, rw e refl)
class_live heap code None number e t = absurd (cc)
class_live heap code (Some (ObjectCell class entries)) number e t = absurd (cc)
class_live heap code (Some (BlockCell body env home receiver holder)) number e t = absurd (cc)
class_live heap code (Some (EnvironmentCell parent locals)) number e t = absurd (cc)
class_live heap code (Some (ArrayCell items)) number e t = absurd (cc)
class_live heap code (Some (TextCell bytes)) number e t = absurd (cc)
class_live heap code (Some (FacetCell kind)) number e t = absurd (cc)
class_live heap code (Some (MirrorCell shown)) number e t = absurd (cc)
class_live heap code (Some (MessageCell sel args)) number e t = absurd (cc)

-- ---- instances

pub instance_lawful : (code : CodeProgram) (class : ℕ) (arguments : List Value) (site : Site) (progress : Progress) →
    LawfulRun code progress → is_class (find_cell progress.world.cells class) ≡ true → All (IsLiveValue progress.world.cells code) arguments
    → LawfulControl code (instance code class arguments site progress)
instance_lawful code class arguments site progress lawful is live =
    charged_all (LawfulControl code) halts Cells (made progress.world cell) progress (opened code halts (Enter FromBody) activation arguments) lawful (λ world e. begun world e)
  where
    words : ℕ
    words = layout_of progress.world.cells code class

    cell : Cell
    cell = ObjectCell class (replicate words Nil)

    activation : Activation
    activation = record { self = Ref (heap_size progress.world.cells); holder = class; body = initialiser_of code (declaration_of progress.world.cells class); home = no_home; env = Nil; site = site }

    begun : (world : World) → made progress.world cell ≡ Some world → LawfulControl code (opened code halts (Enter FromBody) activation arguments (in_world progress world))
    begun world e =
        let start : is_chain_start progress.world.cells class ≡ true = rw is refl in
        let after : IsLawful world code = making_keeps progress.world world code (new.Object class words) lawful refl (start, refl) e in
        let later = later_made code progress.world world cell lawful after e in
        let live' : LiveActivation world.cells code activation arguments = record { self = new_live code progress.world world cell refl e; env = tt; locals = all_live code progress.world world arguments later live } in
        opened_lawful (LawfulControl code) code halts (Enter FromBody) activation arguments (in_world progress world) after live' after (λ running locals last further fine. (further.lawful, fine))

-- ---- classes

-- a class that is made over a superclass without a fault
made_lawful : (code : CodeProgram) (decl : ℕ) (encl holder over : Value) (site : Site) (progress : Progress) (go : ℕ → Progress → After) →
    LawfulRun code progress → IsEnclosed progress.world.cells code decl encl holder
    → ((world : World) → Later code progress.world world
    → find_cell world.cells (heap_size progress.world.cells) ≡ Some (class_cell progress.world.cells code decl encl holder over)
    → LawfulAfter code (go (heap_size progress.world.cells) (in_world progress world)))
    → LawfulAfter code (class_made (class_cell progress.world.cells code decl encl holder over) (class_fault progress.world.cells over) site progress go)
made_lawful code decl encl holder over site progress go lawful enclosed goes = by_fault (class_fault progress.world.cells over) refl
  where
    cell : Cell
    cell = class_cell progress.world.cells code decl encl holder over

    fine : class_fault progress.world.cells over ≡ None → (world : World) → made progress.world cell ≡ Some world → LawfulAfter code (go (heap_size progress.world.cells) (in_world progress world))
    fine none world e =
        let f = fits progress.world.cells over none in
        let after : IsLawful world code = making_keeps progress.world world code (new.Class decl (entries_above progress.world.cells code over) encl holder over) lawful f.superclass (enclosed, refl, f.short) e in
        goes world (later_made code progress.world world cell lawful after e) (new_found progress.world world cell e)

    by_fault : (o : Option MakeFault) → class_fault progress.world.cells over ≡ o → LawfulAfter code (class_made cell o site progress go)
    by_fault (Some fault) e = lawful
    by_fault None e = charged_all (LawfulAfter code) Halts Cells (made progress.world cell) progress (go (heap_size progress.world.cells)) lawful (λ world m. fine e world m)

mixed_cell : (code : CodeProgram) (o : Option Cell) (number : ℕ) (over : Value) (site : Site) (progress : Progress) →
    LawfulRun code progress
    → find_cell progress.world.cells number ≡ o → LawfulAfter code (mixed code (option_map_or shape_of o (new.Mirror Nil)) over site progress)
mixed_cell code (Some (ClassCell decl base encl holder under)) number over site progress lawful e =
    let class = lawful.cells number (ClassCell decl base encl holder under) e in
    made_lawful code decl encl holder over site progress (λ number progress. Gives (Ref number) progress) lawful (class.declared, class.enclosing)
    (λ world later is. (later.lawful, class_live world.cells code (Some (class_cell progress.world.cells code decl encl holder over)) (heap_size progress.world.cells) is refl))
mixed_cell code None number over site progress lawful e = lawful
mixed_cell code (Some (ObjectCell class entries)) number over site progress lawful e = lawful
mixed_cell code (Some (BlockCell body env home receiver holder)) number over site progress lawful e = lawful
mixed_cell code (Some (EnvironmentCell parent locals)) number over site progress lawful e = lawful
mixed_cell code (Some (ArrayCell items)) number over site progress lawful e = lawful
mixed_cell code (Some (TextCell bytes)) number over site progress lawful e = lawful
mixed_cell code (Some (FacetCell kind)) number over site progress lawful e = lawful
mixed_cell code (Some (MirrorCell shown)) number over site progress lawful e = lawful
mixed_cell code (Some (MessageCell sel args)) number over site progress lawful e = lawful

-- mixin application, sent to any value
pub mixed_lawful : (code : CodeProgram) (mixin over : Value) (site : Site) (progress : Progress) → LawfulRun code progress →
    LawfulAfter code (mixed code (shape_of_value progress.world.cells mixin) over site progress)
mixed_lawful code (Ref at) over site progress lawful = mixed_cell code (find_cell progress.world.cells at) at over site progress lawful refl
mixed_lawful code Nil over site progress lawful = lawful
mixed_lawful code True over site progress lawful = lawful
mixed_lawful code False over site progress lawful = lawful
mixed_lawful code (Int number) over site progress lawful = lawful
mixed_lawful code (Sym sel) over site progress lawful = lawful
mixed_lawful code (Kernel class) over site progress lawful = lawful

-- ---- nested classes

-- a word of an object is live
pub word_live : (world : World) (code : CodeProgram) (at word : ℕ) → IsLawful world code →
    IsSome (class_of_object (find_cell world.cells at)) → IsLiveValue world.cells code (word_at world.cells at word)
word_live world code at word lawful is = found (find_cell world.cells at) refl is
  where
    found : (o : Option Cell) → find_cell world.cells at ≡ o → IsSome (class_of_object o) → IsLiveValue world.cells code (get_or (option_map_or cell_words o []) word Nil)
    found (Some (ObjectCell class entries)) e is = get_live (IsLiveValue world.cells code) entries word (lawful.cells at (ObjectCell class entries) e).1 (tt, refl)
    found None e is = absurd (cc)
    found (Some (ClassCell decl base encl holder over)) e is = absurd (cc)
    found (Some (BlockCell body env home receiver holder)) e is = absurd (cc)
    found (Some (EnvironmentCell parent locals)) e is = absurd (cc)
    found (Some (ArrayCell items)) e is = absurd (cc)
    found (Some (TextCell bytes)) e is = absurd (cc)
    found (Some (FacetCell kind)) e is = absurd (cc)
    found (Some (MirrorCell shown)) e is = absurd (cc)
    found (Some (MessageCell sel args)) e is = absurd (cc)

kept_is : (value : Value) (kept : ℕ) → kept_in value ≡ Some kept → value ≡ Ref kept
kept_is (Ref class) kept e = ap Ref (cc)
kept_is Nil kept e = absurd (cc)
kept_is True kept e = absurd (cc)
kept_is False kept e = absurd (cc)
kept_is (Int number) kept e = absurd (cc)
kept_is (Sym sel) kept e = absurd (cc)
kept_is (Kernel class) kept e = absurd (cc)

-- a class that is kept is live
kept_live : (world : World) (code : CodeProgram) (object holder class kept : ℕ) → IsLawful world code →
    HasHolder world.cells (Ref object) holder → kept_class world.cells code object holder class ≡ Some kept →
    IsLiveValue world.cells code (Ref kept)
kept_live world code object holder class kept lawful has e =
    let word = entry_word world.cells code holder (nested_entry code (declaration_of world.cells holder) class) in
    subst (IsLiveValue world.cells code) (kept_is (word_at world.cells object word) kept e) (word_live world code object word lawful has.1)

-- the enclosing two of a nested class are those that its declaration asks for
pub enclosed : (world : World) (code : CodeProgram) (object holder class : ℕ) → IsLawful world code →
    HasClass world.cells code object holder class → IsEnclosed world.cells code class (Ref object) (Ref holder)
enclosed world code object holder class lawful has =
    let n = has.nested in
    let inner = nested_inner code (declaration_of world.cells holder) n.place n.class n.nested lawful.classes n.class_is n.nested_is in
    let there : slice_get code.classes class ≡ Some inner.inner = ap (slice_get code.classes) (sym n.decl_is) ∙ inner.inner_is in
    let two : HasEnclosing world.cells code inner.inner.outer (Ref object) (Ref holder) =
    subst (λ o. HasEnclosing world.cells code o (Ref object) (Ref holder)) (sym inner.outer_is) (has.object_has, has.holder_is, refl) in
    (rw there refl, λ (declared : ClassCode) e. let same : inner.inner ≡ declared = cc in subst (λ (c : ClassCode). HasEnclosing world.cells code c.outer (Ref object) (Ref holder)) same two)

-- the object keeps a class that was made for it
keeping_lawful : (code : CodeProgram) (old world : World) (object holder class base number : ℕ) (over : Value) → IsLawful old code →
    HasClass old.cells code object holder class → Later code old world
    → find_cell world.cells number ≡ Some (ClassCell class base (Ref object) (Ref holder) over) → IsLawful (keeping code object holder class number world) code
keeping_lawful code old world object holder class base number over lawful has later is =
    let n = has.nested in
    let first = first_nested n.class.nested n.place n.nested n.nested_is in
    let decl : declaration_of world.cells holder ≡ declaration_of old.cells holder = later.declaration holder has.holder_is in
    let declared : slice_get code.classes (declaration_of world.cells holder) ≡ Some n.class = ap (slice_get code.classes) decl ∙ n.class_is in
    let place : ℕ = place_of n.class.nested class in
    let at : slice_get n.class.nested place ≡ Some first.one = ap (λ c. slice_get n.class.nested (place_of n.class.nested c)) (sym n.decl_is) ∙ first.one_is in
    let kept : IsKept world.cells object holder first.one.class (Ref number) = rw is (sym (first.class_is ∙ n.decl_is), refl, refl) in
    let live = class_live world.cells code (Some (ClassCell class base (Ref object) (Ref holder) over)) number is refl in
    let entry : nested_entry code (declaration_of world.cells holder) class ≡ length n.class.slots + place = rw declared refl in
    subst (λ e. IsLawful (written world object (entry_word world.cells code holder e) (Ref number)) code) (sym entry)
    (class_kept world code object holder place n.class first.one (Ref number) later.lawful (later.holder (Ref object) holder has.object_has) declared at live kept)

pub over_lawful : (code : CodeProgram) (object holder class : ℕ) (over : Value) (site : Site) (progress : Progress) →
    LawfulRun code progress → HasClass progress.world.cells code object holder class
    → LawfulAfter code (class_over code object holder class over site progress)
over_lawful code object holder class over site progress lawful has = kept (kept_class progress.world.cells code object holder class) refl
  where
    kept : (o : Option ℕ) → kept_class progress.world.cells code object holder class ≡ o → LawfulAfter code (kept_or o progress (newly_kept code object holder class over site progress))
    kept (Some number) e = (lawful, kept_live progress.world code object holder class number lawful has.object_has e)
    kept None e =
        made_lawful code class (Ref object) (Ref holder) over site progress (λ number progress. Gives (Ref number) (in_world progress (keeping code object holder class number progress.world))) lawful
        (enclosed progress.world code object holder class lawful has)
        (λ world later is. (
          keeping_lawful code progress.world world object holder class (entries_above progress.world.cells code over) (heap_size progress.world.cells) over lawful has later is,
          written_live world.cells code object (entry_word world.cells code holder (nested_entry code (declaration_of world.cells holder) class)) (Ref (heap_size progress.world.cells)) (Ref (heap_size progress.world.cells))
              (class_live world.cells code (Some (class_cell progress.world.cells code class (Ref object) (Ref holder) over)) (heap_size progress.world.cells) is refl),
        ))

-- an object is live
pub object_live : (heap : Heap) (code : CodeProgram) (at : ℕ) → IsSome (class_of_object (find_cell heap at)) →
    IsLiveValue heap code (Ref at)
object_live heap code at is = found (find_cell heap at) refl is
  where
    found : (o : Option Cell) → find_cell heap at ≡ o → IsSome (class_of_object o) → IsLiveValue heap code (Ref at)
    found (Some (ObjectCell class entries)) e is = (rw e refl, rw e refl)
    found None e is = absurd (cc)
    found (Some (ClassCell decl base encl holder over)) e is = absurd (cc)
    found (Some (BlockCell body env home receiver holder)) e is = absurd (cc)
    found (Some (EnvironmentCell parent locals)) e is = absurd (cc)
    found (Some (ArrayCell items)) e is = absurd (cc)
    found (Some (TextCell bytes)) e is = absurd (cc)
    found (Some (FacetCell kind)) e is = absurd (cc)
    found (Some (MirrorCell shown)) e is = absurd (cc)
    found (Some (MessageCell sel args)) e is = absurd (cc)

head_lawful : (code : CodeProgram) (object holder class : ℕ) (clause : Option ℕ) (site : Site) (progress : Progress) →
    LawfulRun code progress → HasClass progress.world.cells code object holder class
    → LawfulControl code (head code object holder class clause site progress)
head_lawful code object holder class None site progress lawful has =
    over_lawful code object holder class (Kernel Object) site progress lawful has
head_lawful code object holder class (Some clause) site progress lawful has =
    frame_lawful code progress (opened code halts (Enter (FromClause object holder class)) activation []) lawful
    (λ world later. opened_lawful (LawfulControl code) code halts (Enter (FromClause object holder class)) activation [] (in_world progress world) later.lawful
    (record { self = later.live (Ref object) (object_live progress.world.cells code object has.object_has.1); env = tt; locals = no_values world.cells code })
    later.lawful (λ running locals last further fine. (further.lawful, fine)))
  where
    activation : Activation
    activation = record { self = Ref object; holder = holder; body = clause; home = no_home; env = Nil; site = site }

pub nested_lawful : (code : CodeProgram) (object holder class : ℕ) (site : Site) (progress : Progress) → LawfulRun code progress →
    HasClass progress.world.cells code object holder class
    → LawfulControl code (nested code object holder class (kept_class progress.world.cells code object holder class) site progress)
nested_lawful code object holder class site progress lawful has = kept (kept_class progress.world.cells code object holder class) refl
  where
    kept : (o : Option ℕ) → kept_class progress.world.cells code object holder class ≡ o → LawfulControl code (nested code object holder class o site progress)
    kept (Some number) e = (lawful, kept_live progress.world code object holder class number lawful has.object_has e)
    kept None e = head_lawful code object holder class (clause_of code class) site progress lawful has
