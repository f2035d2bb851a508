-- The body of a method that is found fits the receiver and the holder.
use Rattle.std.proofs.Common.{◌≡◌, ℕ, zero, suc, [], ◌∷◌, slice_get, refl, ap, sym, ◌∙◌, subst, arith, Option, Some, None, Bool, true, false, eqb}
use Rattle.std.specs.Prelude.{Contains, IsSome}
use Rattle.std.specs.Option.{ForSome}
use Rattle.std.proofs.lemmas.Bool.{eqb-true}
use Rattle.ns_code.specs.declared.program.CodeProgram.{CodeProgram}
use Rattle.ns_code.specs.declared.body.BodyCode.{BodyCode}
use Rattle.ns_code.specs.Soundness.{class_side}
use Rattle.ns_world.specs.declared.value.Value.{Value}
use Rattle.ns_world.specs.declared.value.Value.TheVariants as value
use Rattle.ns_world.specs.declared.kernel.Start.TheVariants as start
use Rattle.ns_world.specs.Cell.{Cell, ObjectCell, ClassCell, BlockCell, EnvironmentCell, ArrayCell, TextCell, FacetCell, MirrorCell, MessageCell}
use Rattle.ns_world.specs.Heap.{Heap, find_cell, is_class, is_chain_start, chain_of, superclass_of}
use Rattle.ns_world.specs.World.{World}
use Rattle.ns_world.specs.Lawful.{IsLawful, IsLiveValue, HasHolder, FitsBody, class_of_object}
use Rattle.ns_world.specs.laws.Classes.{lawful_order, class_in_chain}
use Rattle.ns_find.specs.declared.found.Found.{Found}
use Rattle.ns_find.specs.declared.found.Sending.TheVariants.{Inner}
use Rattle.ns_find.specs.declared.members.Side.{Side}
use Rattle.ns_find.specs.declared.members.Side.TheVariants.{Instance as InstanceSide, Class as ClassSide}
use Rattle.ns_find.specs.Find.{found_from, found_private, super_start}
use Rattle.ns_find.specs.laws.Belonging.{instance_belongs, class_belongs, private_belongs}
use Rattle.ns_find.specs.laws.SoundBodies.{found_by, private_by}
use Rattle.ns_find.specs.Find.{side_of}
use Rattle.ns_moves.specs.Control.{Activation}
use Rattle.ns_moves.specs.Bodies.{parameters_of, enclosing, side_at, side_of_body}
use Rattle.ns_moves.specs.Lawful.{FitsActivation, declaration_at}
use Rattle.ns_moves.specs.laws.LawfulBlocks.{body_side}
use Rattle.ns_moves.specs.lemmas.Places.{instance_body, places_fit}
use Rattle.ns_moves.specs.lemmas.Suiting.{object_holders, above_too, one_holder}
use Rattle.ns_moves.specs.lemmas.Running.{BodyRuns, Runs, instance_runs, side_runs}

-- so many parameters are its own
pub own_params : (heap : Heap) (code : CodeProgram) (self : Value) (holder body kind params : ℕ) →
    BodyRuns heap code self holder body kind params → BodyRuns heap code self holder body kind (parameters_of code body)
own_params heap code self holder body kind params runs =
    record { live = runs.live; there = runs.there; fits = runs.fits; kind_is = runs.kind_is; params_are = refl }

-- ---- private members, and sends to super

-- the side of a body is the class side where it is that
class_body : (code : CodeProgram) (number : ℕ) (body : BodyCode) → slice_get code.bodies number ≡ Some body →
    side_of_body code number ≡ ClassSide → body.side ≡ class_side
class_body code number body e s = tested (eqb body.side class_side) refl (sym is ∙ s)
  where
    is : side_of_body code number ≡ side_of (eqb body.side class_side)
    is = rw e refl

    tested : (b : Bool) → eqb body.side class_side ≡ b → side_of b ≡ ClassSide → body.side ≡ class_side
    tested true t s = eqb-true body.side class_side t
    tested false t s = absurd (cc)

one_too : (heap : Heap) (at place other : ℕ) → Contains (chain_of heap at) place → is_class (find_cell heap place) ≡ true →
    Contains (place ∷ []) other → Contains (chain_of heap at) other × (is_class (find_cell heap other) ≡ true)
one_too heap at place other has t (zero, inside, is) =
    (subst (Contains (chain_of heap at)) is has, ap (λ n. is_class (find_cell heap n)) (sym is) ∙ t)
one_too heap at place other has t (suc k, inside, is) = absurd (omega (arith, inside))

-- what is found of the private members of a holder in the chain of an object
object_private : (world : World) (code : CodeProgram) (self : Value) (holder sel : ℕ) → IsLawful world code →
    IsLiveValue world.cells code self → HasHolder world.cells self holder → is_class (find_cell world.cells holder) ≡ true
    → Runs world.cells code self sel (found_private world.cells code holder InstanceSide sel)
object_private world code (value.Ref at) holder sel lawful live has is =
    instance_runs world.cells code at (holder ∷ []) sel (found_private world.cells code holder InstanceSide sel) live (λ other c. one_holder world.cells (value.Ref at) holder other has is c)
    (private_belongs world.cells code holder InstanceSide sel) ((private_by world.cells code holder sel InstanceSide).takes lawful.classes)
object_private world code value.Nil holder sel lawful live has is = absurd has
object_private world code value.True holder sel lawful live has is = absurd has
object_private world code value.False holder sel lawful live has is = absurd has
object_private world code (value.Int number) holder sel lawful live has is = absurd has
object_private world code (value.Sym name) holder sel lawful live has is = absurd has
object_private world code (value.Kernel class) holder sel lawful live has is = absurd has

class_private : (world : World) (code : CodeProgram) (at holder sel : ℕ) → IsLawful world code →
    IsLiveValue world.cells code (value.Ref at) → is_class (find_cell world.cells at) ≡ true → Contains (chain_of world.cells at) holder →
    is_class (find_cell world.cells holder) ≡ true
    → Runs world.cells code (value.Ref at) sel (found_private world.cells code holder ClassSide sel)
class_private world code at holder sel lawful live self has is =
    side_runs world.cells code at (holder ∷ []) [] sel (found_private world.cells code holder ClassSide sel) live self (λ other c. one_too world.cells at holder other has is c)
    (private_belongs world.cells code holder ClassSide sel) ((private_by world.cells code holder sel ClassSide).takes lawful.classes)

super_object : (world : World) (code : CodeProgram) (at holder sel : ℕ) → IsLawful world code →
    IsLiveValue world.cells code (value.Ref at) → HasHolder world.cells (value.Ref at) holder
    → Runs world.cells code (value.Ref at) sel (found_from world.cells code (start.Instance (superclass_of world.cells holder)) sel Inner)
super_object world code at holder sel lawful live has = object (find_cell world.cells at) refl has
  where
    f : Found
    f = found_from world.cells code (start.Instance (superclass_of world.cells holder)) sel Inner

    object : (o : Option Cell) → find_cell world.cells at ≡ o → ForSome (class_of_object o) (λ class. Contains (chain_of world.cells class) holder) × IsSome (class_of_object o) → Runs world.cells code (value.Ref at) sel f
    object (Some (ObjectCell class entries)) e h =
        let fine = (lawful.cells at (ObjectCell class entries) e).0 in
        let (k, inside, is) = h.0 class refl in
        instance_runs world.cells code at (chain_of world.cells (superclass_of world.cells holder)) sel f live
        (λ other c. object_holders world code at class lawful (ap class_of_object e) fine.class_is other (above_too world.cells class holder other k (lawful_order world code lawful) fine.class_is inside is c))
        (instance_belongs world.cells code (superclass_of world.cells holder) sel Inner) ((found_by world.cells code (start.Instance (superclass_of world.cells holder)) sel Inner).takes lawful.classes)
    object None e h = let none = h.1 in absurd (cc)
    object (Some (ClassCell decl base encl holder' over)) e h = let none = h.1 in absurd (cc)
    object (Some (BlockCell body env home receiver holder')) e h = let none = h.1 in absurd (cc)
    object (Some (EnvironmentCell parent locals)) e h = let none = h.1 in absurd (cc)
    object (Some (ArrayCell items)) e h = let none = h.1 in absurd (cc)
    object (Some (TextCell bytes)) e h = let none = h.1 in absurd (cc)
    object (Some (FacetCell kind)) e h = let none = h.1 in absurd (cc)
    object (Some (MirrorCell shown)) e h = let none = h.1 in absurd (cc)
    object (Some (MessageCell name args)) e h = let none = h.1 in absurd (cc)

super_class : (world : World) (code : CodeProgram) (at holder sel : ℕ) → IsLawful world code → IsLiveValue world.cells code (value.Ref at) →
    is_class (find_cell world.cells at) ≡ true → Contains (chain_of world.cells at) holder
    → Runs world.cells code (value.Ref at) sel (found_from world.cells code (start.ClassSide (superclass_of world.cells holder) false) sel Inner)
super_class world code at holder sel lawful live self (k, inside, is) =
    let from : is_chain_start world.cells at ≡ true = rw self refl in
    let order = lawful_order world code lawful in
    let among : (other : ℕ) → Contains (chain_of world.cells (superclass_of world.cells holder)) other → Contains (chain_of world.cells at) other × (is_class (find_cell world.cells other) ≡ true) =
    λ other c. let (j, within, same) = above_too world.cells at holder other k order from inside is c in ((j, within, same), class_in_chain world.cells j at other order from within same) in
    side_runs world.cells code at (chain_of world.cells (superclass_of world.cells holder)) [] sel (found_from world.cells code (start.ClassSide (superclass_of world.cells holder) false) sel Inner) live self among
    (class_belongs world.cells code (superclass_of world.cells holder) false sel Inner) ((found_by world.cells code (start.ClassSide (superclass_of world.cells holder) false) sel Inner).takes lawful.classes)

-- what running code finds of its own private members
pub own_private : (world : World) (code : CodeProgram) (activation : Activation) (sel : ℕ) → IsLawful world code →
    FitsActivation world.cells code activation
    → Runs world.cells code activation.self sel (found_private world.cells code activation.holder (side_of_body code activation.body) sel)
own_private world code activation sel lawful fits = there (slice_get code.bodies activation.body) refl fits.there
  where
    sided : (body : BodyCode) → slice_get code.bodies activation.body ≡ Some body → (side : Side) → side_of_body code activation.body ≡ side → (self : Value) → IsLiveValue world.cells code self → FitsBody world.cells code body self activation.holder
        → Runs world.cells code self sel (found_private world.cells code activation.holder side sel)
    sided body e InstanceSide s (value.Ref at) live f = object_private world code (value.Ref at) activation.holder sel lawful live (f.2 (instance_body code activation.body body e (body_side code activation.body body lawful.fits e) s)) f.0
    sided body e ClassSide s (value.Ref at) live f = let h = f.3 (class_body code activation.body body e s) in class_private world code at activation.holder sel lawful live h.0 h.1 f.0
    sided body e InstanceSide s value.Nil live f = absurd f
    sided body e InstanceSide s value.True live f = absurd f
    sided body e InstanceSide s value.False live f = absurd f
    sided body e InstanceSide s (value.Int number) live f = absurd f
    sided body e InstanceSide s (value.Sym name) live f = absurd f
    sided body e InstanceSide s (value.Kernel class) live f = absurd f
    sided body e ClassSide s value.Nil live f = absurd f
    sided body e ClassSide s value.True live f = absurd f
    sided body e ClassSide s value.False live f = absurd f
    sided body e ClassSide s (value.Int number) live f = absurd f
    sided body e ClassSide s (value.Sym name) live f = absurd f
    sided body e ClassSide s (value.Kernel class) live f = absurd f

    there : (o : Option BodyCode) → slice_get code.bodies activation.body ≡ o → IsSome o → Runs world.cells code activation.self sel (found_private world.cells code activation.holder (side_of_body code activation.body) sel)
    there (Some body) e some = sided body e (side_of_body code activation.body) refl activation.self fits.live (fits.fits body e)
    there None e some = absurd (cc)

-- what it finds above its holder
pub super_runs : (world : World) (code : CodeProgram) (activation : Activation) (sel : ℕ) → IsLawful world code →
    FitsActivation world.cells code activation
    → Runs world.cells code activation.self sel (found_from world.cells code (super_start world.cells activation.holder (side_of_body code activation.body)) sel Inner)
super_runs world code activation sel lawful fits = there (slice_get code.bodies activation.body) refl fits.there
  where
    sided : (body : BodyCode) → slice_get code.bodies activation.body ≡ Some body → (side : Side) → side_of_body code activation.body ≡ side → (self : Value) → IsLiveValue world.cells code self → FitsBody world.cells code body self activation.holder
        → Runs world.cells code self sel (found_from world.cells code (super_start world.cells activation.holder side) sel Inner)
    sided body e InstanceSide s (value.Ref at) live f = super_object world code at activation.holder sel lawful live (f.2 (instance_body code activation.body body e (body_side code activation.body body lawful.fits e) s))
    sided body e ClassSide s (value.Ref at) live f = let h = f.3 (class_body code activation.body body e s) in super_class world code at activation.holder sel lawful live h.0 h.1
    sided body e InstanceSide s value.Nil live f = absurd f
    sided body e InstanceSide s value.True live f = absurd f
    sided body e InstanceSide s value.False live f = absurd f
    sided body e InstanceSide s (value.Int number) live f = absurd f
    sided body e InstanceSide s (value.Sym name) live f = absurd f
    sided body e InstanceSide s (value.Kernel class) live f = absurd f
    sided body e ClassSide s value.Nil live f = absurd f
    sided body e ClassSide s value.True live f = absurd f
    sided body e ClassSide s value.False live f = absurd f
    sided body e ClassSide s (value.Int number) live f = absurd f
    sided body e ClassSide s (value.Sym name) live f = absurd f
    sided body e ClassSide s (value.Kernel class) live f = absurd f

    there : (o : Option BodyCode) → slice_get code.bodies activation.body ≡ o → IsSome o → Runs world.cells code activation.self sel (found_from world.cells code (super_start world.cells activation.holder (side_of_body code activation.body)) sel Inner)
    there (Some body) e some = sided body e (side_of_body code activation.body) refl activation.self fits.live (fits.fits body e)
    there None e some = absurd (cc)

-- what is found of the private members of a declaration around it
pub outer_private : (world : World) (code : CodeProgram) (activation : Activation) (level decl sel : ℕ) → IsLawful world code →
    FitsActivation world.cells code activation → declaration_at code activation.body level ≡ Some decl
    → Runs world.cells code (enclosing world.cells activation level).object sel (found_private world.cells code (enclosing world.cells activation level).holder (side_at code activation level) sel)
outer_private world code activation zero decl sel lawful fits e = own_private world code activation sel lawful fits
outer_private world code activation (suc level) decl sel lawful fits e =
    let p = places_fit world code activation (suc level) decl lawful fits e in
    let o = enclosing world.cells activation (suc level) in
    object_private world code o.object o.holder sel lawful p.live (p.has refl) p.holder_is
