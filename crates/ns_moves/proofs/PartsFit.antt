-- The initialiser of a superclass part fits its self and the superclass.
use Rattle.std.proofs.Common.{◌≡◌, ℕ, List, [], ◌∷◌, length, get_or, refl, ap, sym, ◌∙◌, subst, arith, All, Option, Some, None, Bool, true, false, cond, eqb, slice_get}
use Rattle.std.specs.Prelude.{Contains, IsSome, codes}
use Rattle.std.specs.Option.{option_map_or, ForSome}
use Rattle.std.specs.Str.{bytes_eq}
use Rattle.ns_code.specs.declared.program.CodeProgram.{CodeProgram}
use Rattle.ns_code.specs.declared.class.ClassCode.{ClassCode}
use Rattle.ns_code.specs.declared.body.BodyCode.{BodyCode}
use Rattle.std.proofs.lemmas.Bool.{eqb-true}
use Rattle.ns_code.specs.Selector.{selector_text, selector_arity}
use Rattle.ns_code.specs.Soundness.{initialiser_kind, instance_side}
use Rattle.ns_world.specs.declared.value.Value.{Value}
use Rattle.ns_world.specs.declared.value.Value.TheVariants.{Nil, True, False, Int, Sym, Kernel, Ref}
use Rattle.ns_world.specs.declared.ending.Kind.TheVariants.{InitMismatch}
use Rattle.ns_world.specs.declared.ending.LimitKind.TheVariants.{Depth, Cells}
use Rattle.ns_world.specs.Cell.{Cell, ObjectCell, ClassCell, BlockCell, EnvironmentCell, ArrayCell, TextCell, FacetCell, MirrorCell, MessageCell}
use Rattle.ns_world.specs.Heap.{Heap, heap_size, find_cell, is_class, chain_of, superclass_in, superclass_of, is_superclass, declared_class}
use Rattle.ns_world.specs.World.{World, made, entered}
use Rattle.ns_world.specs.Layout.{declaration_of}
use Rattle.ns_world.specs.Lawful.{IsLawful, IsLiveValue, HasHolder, class_of_object}
use Rattle.ns_world.specs.Later.{IsLater, RunsOn}
use Rattle.ns_world.specs.laws.Above.{goes_on}
use Rattle.ns_world.specs.laws.Chains.{linked}
use Rattle.ns_world.specs.laws.Classes.{lawful_order, lawful_small}
use Rattle.ns_find.specs.laws.SoundBodies.{initialiser_there, named_factory}
use Rattle.ns_moves.specs.Site.{error}
use Rattle.ns_moves.specs.Control.{Progress, in_world, Activation, FromBody, PartControl, Skip, Stop, EnterPart, charged}
use Rattle.ns_moves.specs.Bodies.{has_environment, first_locals, parameters_of, initialiser_of, no_home, opened}
use Rattle.ns_moves.specs.Classes.{super_selector, factory_selector, declared_part, object_part, part_of, super_part}
use Rattle.ns_moves.specs.Lawful.{LawfulRun, LawfulPart, FitsActivation}
use Rattle.ns_moves.specs.Onward.{part_reached}
use Rattle.ns_moves.specs.Fitting.{kind_of, StandsWell, FitsEntered, FitsNextPart, EntersPart, FitsMessage}
use Rattle.ns_moves.specs.laws.Onward.{charged_all}
use Rattle.ns_moves.specs.laws.ClassesOnward.{super_onward}
use Rattle.ns_moves.specs.laws.LawfulParts.{super_lawful}
use Rattle.ns_moves.specs.lemmas.Lasting.{holder_lasts}
use Rattle.ns_moves.specs.lemmas.Suiting.{object_holders, above_too}
use Rattle.ns_moves.specs.lemmas.Places.{holder_live}
use Rattle.ns_moves.specs.lemmas.Running.{BodyRuns, body_runs, instance_fits}
use Rattle.ns_moves.proofs.MethodsFit.{own_params}
use Rattle.ns_moves.specs.lemmas.Opening.{FitsAround, nothing_around, opened_bare, opened_over}
use Rattle.ns_moves.specs.lemmas.Fitting.{entered_here, body_lasts, class_there}

-- What is to be shown of a part, where the run goes on lawfully and its arguments are counted.
abbrev PartLater : World → CodeProgram → Type 0 → PartControl → Type 0
PartLater old code Counted (Skip progress) = Unit {0}
PartLater old code Counted (Stop ending progress) = Unit {0}
PartLater old code Counted (EnterPart activation locals progress) =
    RunsOn code old progress.world → (FitsActivation progress.world.cells code activation × (kind_of code activation.body ≡ initialiser_kind)) × (Counted → FitsEntered progress.world.cells code activation locals)

opened_part :
    (old : World) (code : CodeProgram) (Counted : Type 0) (activation : Activation) (arguments : List Value) (progress : Progress) (params : ℕ) →
    BodyRuns old.cells code activation.self activation.holder activation.body initialiser_kind params
    → HasHolder old.cells activation.self activation.holder → (Counted → length arguments ≡ params) → ((heap : Heap) → StandsWell code activation.body → FitsAround heap code activation.body activation.env) → PartLater old code Counted (opened code Stop EnterPart activation arguments progress)
opened_part old code Counted activation arguments progress params runs has counts outer = tested (has_environment code activation.body) refl
  where
    locals : List Value
    locals = first_locals code activation.body arguments

    inner : Activation
    inner = record activation { env = Ref (heap_size progress.world.cells) }

    cell : Cell
    cell = EnvironmentCell activation.env locals

    tested : (b : Bool) → has_environment code activation.body ≡ b → PartLater old code Counted (cond b (charged Stop Cells (made progress.world cell) progress (EnterPart inner [])) (EnterPart activation locals progress))
    tested true b = charged_all (PartLater old code Counted) Stop Cells (made progress.world cell) progress (EnterPart inner []) tt
        (λ world e. λ run.
        let here = body_lasts code old world inner initialiser_kind params runs run in
        let opens = opened_over code progress.world world activation.body activation.env arguments b e in
        ((record { live = here.live; there = here.there; fits = here.fits }, here.kind_is), λ c. (entered_here initialiser_kind code world FromBody inner activation.env arguments [] initialiser_kind params here (counts c) opens (outer world.cells) (λ is. holder_lasts code old world activation.self activation.holder run has) tt refl tt).0))
    tested false b = λ run.
        let here = body_lasts code old progress.world activation initialiser_kind params runs run in
        let opens = opened_bare progress.world.cells code activation.body activation.env arguments b in
        ((record { live = here.live; there = here.there; fits = here.fits }, here.kind_is), λ c. (entered_here initialiser_kind code progress.world FromBody activation activation.env arguments locals initialiser_kind params here (counts c) opens (outer progress.world.cells) (λ is. holder_lasts code old progress.world activation.self activation.holder run has) tt refl tt).0)

-- a declared superclass of a holder is in the chain too
above_has : (world : World) (code : CodeProgram) (self : Value) (holder over : ℕ) → IsLawful world code →
    HasHolder world.cells self holder → superclass_of world.cells holder ≡ over → is_class (find_cell world.cells over) ≡ true →
    HasHolder world.cells self over
above_has world code (Ref at) holder over lawful has super is = object (find_cell world.cells at) refl has
  where
    own : Contains (chain_of world.cells (superclass_of world.cells holder)) over
    own =
        let chain : chain_of world.cells over ≡ over ∷ chain_of world.cells (superclass_of world.cells over) = (goes_on world.cells over lawful.ordered (omega (arith, lawful_small world code lawful)) is).chain in
        subst (λ n. Contains (chain_of world.cells n) over) (sym super) (0, omega (arith, ap length chain), ap (λ ms. get_or ms 0 over) chain)

    object : (o : Option Cell) → find_cell world.cells at ≡ o → ForSome (class_of_object o) (λ class. Contains (chain_of world.cells class) holder) × IsSome (class_of_object o) → HasHolder world.cells (Ref at) over
    object (Some (ObjectCell class entries)) e h =
        let fine = (lawful.cells at (ObjectCell class entries) e).0 in
        let (k, inside, same) = h.0 class refl in
        (object_holders world code at class lawful (ap class_of_object e) fine.class_is over (above_too world.cells class holder over k (lawful_order world code lawful) fine.class_is inside same own)).0
    object None e h = let none = h.1 in absurd (cc)
    object (Some (ClassCell decl base encl holder' over')) e h = let none = h.1 in absurd (cc)
    object (Some (BlockCell body env home receiver holder')) e h = let none = h.1 in absurd (cc)
    object (Some (EnvironmentCell parent locals)) e h = let none = h.1 in absurd (cc)
    object (Some (ArrayCell items)) e h = let none = h.1 in absurd (cc)
    object (Some (TextCell bytes)) e h = let none = h.1 in absurd (cc)
    object (Some (FacetCell kind)) e h = let none = h.1 in absurd (cc)
    object (Some (MirrorCell shown)) e h = let none = h.1 in absurd (cc)
    object (Some (MessageCell name args)) e h = let none = h.1 in absurd (cc)
above_has world code Nil holder over lawful has super is = absurd has
above_has world code True holder over lawful has super is = absurd has
above_has world code False holder over lawful has super is = absurd has
above_has world code (Int number) holder over lawful has super is = absurd has
above_has world code (Sym name) holder over lawful has super is = absurd has
above_has world code (Kernel class) holder over lawful has super is = absurd has

-- The initialiser of a class runs with a self, and takes as many arguments as its factory.
record Initialises (world : World) (code : CodeProgram) (self : Value) (over : ℕ) : Type 0 where
  has : HasHolder world.cells self over
  runs : (let init : ℕ = initialiser_of code (declaration_of world.cells over) in BodyRuns world.cells code self over init initialiser_kind (parameters_of code init))
  takes : selector_arity code (factory_selector code (declaration_of world.cells over)) ≡ parameters_of code (initialiser_of code (declaration_of world.cells over))

factory_takes : (world : World) (code : CodeProgram) (over : ℕ) → IsLawful world code → is_class (find_cell world.cells over) ≡ true
    → selector_arity code (factory_selector code (declaration_of world.cells over)) ≡ parameters_of code (initialiser_of code (declaration_of world.cells over))
factory_takes world code over lawful is = declared (slice_get code.classes (declaration_of world.cells over)) refl
  where
    declared : (o : Option ClassCode) → slice_get code.classes (declaration_of world.cells over) ≡ o → selector_arity code (factory_selector code (declaration_of world.cells over)) ≡ parameters_of code (initialiser_of code (declaration_of world.cells over))
    declared (Some c) e =
        let begins = named_factory world.cells code over c.factory.0 lawful.classes (record { declared = c; class_is = e; sel_is = refl }) in
        let factory : factory_selector code (declaration_of world.cells over) ≡ c.factory.0 = ap (λ o. option_map_or (λ (class : ClassCode). class.factory.0) o 0) e in
        let init : initialiser_of code (declaration_of world.cells over) ≡ begins.declared.init = ap (λ o. option_map_or (λ (class : ClassCode). class.init) o 0) begins.class_is in
        let params : parameters_of code begins.declared.init ≡ selector_arity code c.factory.0 = ap (λ o. option_map_or (λ (b : BodyCode). b.params) o 0) begins.body.body_is ∙ begins.body.params_are in
        ap (selector_arity code) factory ∙ sym (ap (parameters_of code) init ∙ params)
    declared None e = let l = class_there world code over lawful is in absurd (cc)

-- so its initialiser runs with self
initialiser_runs : (world : World) (code : CodeProgram) (self : Value) (over : ℕ) → IsLawful world code → HasHolder world.cells self over →
    is_class (find_cell world.cells over) ≡ true → Initialises world code self over
initialiser_runs world code (Ref at) over lawful has is =
    record { has = has; runs = declared (slice_get code.classes (declaration_of world.cells over)) refl; takes = factory_takes world code over lawful is }
  where
    declared : (o : Option ClassCode) → slice_get code.classes (declaration_of world.cells over) ≡ o
        → BodyRuns world.cells code (Ref at) over (option_map_or (λ (c : ClassCode). c.init) o 0) initialiser_kind (parameters_of code (option_map_or (λ (c : ClassCode). c.init) o 0))
    declared (Some c) e =
        let body = initialiser_there code (declaration_of world.cells over) c lawful.classes e in
        own_params world.cells code (Ref at) over c.init initialiser_kind c.params
        (body_runs world.cells code (Ref at) over c.init initialiser_kind instance_side (declaration_of world.cells over) c.params body (holder_live world.cells code (Ref at) over has)
        (instance_fits world.cells code at over body.body is body.class_is body.side_is has))
    declared None e = let l = class_there world code over lawful is in absurd (cc)
initialiser_runs world code Nil over lawful has is = absurd has
initialiser_runs world code True over lawful has is = absurd has
initialiser_runs world code False over lawful has is = absurd has
initialiser_runs world code (Int number) over lawful has is = absurd has
initialiser_runs world code (Sym name) over lawful has is = absurd has
initialiser_runs world code (Kernel class) over lawful has is = absurd has

declared_fits :
    (code : CodeProgram) (Counted : Type 0) (activation : Activation) (over sel : ℕ) (arguments : List Value) (progress : Progress) →
    (Counted → length arguments ≡ selector_arity code sel) → Initialises progress.world code activation.self over
    → PartLater progress.world code Counted (declared_part code activation over sel arguments progress)
declared_fits code Counted activation over sel arguments progress counts init =
    tested (eqb sel (factory_selector code (declaration_of progress.world.cells over))) refl
  where
    inner : Activation
    inner = record { self = activation.self; holder = over; body = initialiser_of code (declaration_of progress.world.cells over); home = no_home; env = Nil; site = activation.site }

    outer : (heap : Heap) → StandsWell code inner.body → FitsAround heap code inner.body Nil
    outer heap stands = nothing_around heap code inner.body initialiser_kind init.runs.kind_is (λ e. let q : 2 ≡ 1 = e in omega (arith, q)) stands

    tested : (b : Bool) → eqb sel (factory_selector code (declaration_of progress.world.cells over)) ≡ b
        → PartLater progress.world code Counted (cond b (charged Stop Depth (entered progress.world) progress (opened code Stop EnterPart inner arguments)) (Stop (error InitMismatch activation.site) progress))
    tested true t =
        let same : sel ≡ factory_selector code (declaration_of progress.world.cells over) = eqb-true sel (factory_selector code (declaration_of progress.world.cells over)) t in
        charged_all (PartLater progress.world code Counted) Stop Depth (entered progress.world) progress (opened code Stop EnterPart inner arguments) tt
        (λ world e. opened_part progress.world code Counted inner arguments (in_world progress world) (parameters_of code inner.body) init.runs init.has (λ c. counts c ∙ (ap (selector_arity code) same ∙ init.takes)) outer)
    tested false t = tt

object_fits : (old : World) (code : CodeProgram) (Counted : Type 0) (activation : Activation) (sel : ℕ) (progress : Progress) →
    PartLater old code Counted (object_part code activation sel progress)
object_fits old code Counted activation sel progress = tested (bytes_eq (selector_text code sel) (codes "new"))
  where
    tested : (b : Bool) → PartLater old code Counted (cond b (Skip progress) (Stop (error InitMismatch activation.site) progress))
    tested true = tt
    tested false = tt

part_fits :
    (code : CodeProgram) (Counted : Type 0) (activation : Activation) (over : Value) (sel : ℕ) (arguments : List Value) (progress : Progress) →
    (Counted → length arguments ≡ selector_arity code sel)
    → ((class : ℕ) → over ≡ Ref class → Initialises progress.world code activation.self class) → PartLater progress.world code Counted (part_of code activation over sel arguments progress)
part_fits code Counted activation (Ref over) sel arguments progress counts runs =
    declared_fits code Counted activation over sel arguments progress counts (runs over refl)
part_fits code Counted activation Nil sel arguments progress counts runs = object_fits progress.world code Counted activation sel progress
part_fits code Counted activation True sel arguments progress counts runs = object_fits progress.world code Counted activation sel progress
part_fits code Counted activation False sel arguments progress counts runs = object_fits progress.world code Counted activation sel progress
part_fits code Counted activation (Int number) sel arguments progress counts runs =
    object_fits progress.world code Counted activation sel progress
part_fits code Counted activation (Sym name) sel arguments progress counts runs =
    object_fits progress.world code Counted activation sel progress
part_fits code Counted activation (Kernel class) sel arguments progress counts runs =
    object_fits progress.world code Counted activation sel progress

-- the superclass of a holder runs its initialiser
super_initialises : (world : World) (code : CodeProgram) (self : Value) (holder : ℕ) → IsLawful world code →
    HasHolder world.cells self holder → (class : ℕ) → superclass_in (find_cell world.cells holder) ≡ Ref class
    → Initialises world code self class
super_initialises world code self holder lawful has class super = found (find_cell world.cells holder) refl super
  where
    found : (o : Option Cell) → find_cell world.cells holder ≡ o → superclass_in o ≡ Ref class → Initialises world code self class
    found (Some (ClassCell decl base encl holder' over)) e s =
        let l = linked world.cells holder decl base encl holder' over lawful.ordered e in
        let is : is_class (find_cell world.cells class) ≡ true = ap (λ v. is_superclass world.cells v) (sym s) ∙ l.superclass in
        let at : superclass_of world.cells holder ≡ class = ap (λ v. declared_class v) super in
        initialiser_runs world code self class lawful (above_has world code self holder class lawful has at is) is
    found None e s = absurd (cc)
    found (Some (ObjectCell class' entries)) e s = absurd (cc)
    found (Some (BlockCell body env home receiver holder')) e s = absurd (cc)
    found (Some (EnvironmentCell parent locals)) e s = absurd (cc)
    found (Some (ArrayCell items)) e s = absurd (cc)
    found (Some (TextCell bytes)) e s = absurd (cc)
    found (Some (FacetCell kind)) e s = absurd (cc)
    found (Some (MirrorCell shown)) e s = absurd (cc)
    found (Some (MessageCell name args)) e s = absurd (cc)

part_now : (old : World) (code : CodeProgram) (Counted : Type 0) (part : PartControl) → IsLawful old code →
    IsLater old (part_reached part).world → LawfulPart code part → PartLater old code Counted part →
    FitsNextPart code part × (Counted → EntersPart code part)
part_now old code Counted (Skip progress) before later lawful fits = (tt, λ c. tt)
part_now old code Counted (Stop ending progress) before later lawful fits = (tt, λ c. tt)
part_now old code Counted (EnterPart activation locals progress) before later lawful fits =
    fits (record { before = before; after = lawful.0; later = later })

pub super_part_fits : (code : CodeProgram) (activation : Activation) (arguments : List Value) (progress : Progress) →
    LawfulRun code progress → HasHolder progress.world.cells activation.self activation.holder →
    All (IsLiveValue progress.world.cells code) arguments
    → FitsNextPart code (super_part code activation arguments progress) × (FitsMessage progress.world.cells code activation arguments → EntersPart code (super_part code activation arguments progress))
super_part_fits code activation arguments progress lawful has all =
    let heap = progress.world.cells in
    part_now progress.world code (FitsMessage heap code activation arguments) (super_part code activation arguments progress) lawful (super_onward [] code activation arguments progress).world.later
    (super_lawful code activation arguments progress lawful (holder_live heap code activation.self activation.holder has) all)
    (part_fits code (FitsMessage heap code activation arguments) activation (superclass_in (find_cell heap activation.holder)) (super_selector code (declaration_of heap activation.holder)) arguments progress (λ message. message.arity)
    (super_initialises progress.world code activation.self activation.holder lawful has))
