-- The enclosing objects of code that runs in a lawful world.
use Rattle.std.proofs.Common.{◌≡◌, ℕ, zero, suc, ◌≤◌, refl, ap, sym, ◌∙◌, subst, arith, Option, Some, None, true, eqb}
use Rattle.std.specs.Prelude.{IsSome, slice_get}
use Rattle.std.specs.Option.{option_map, option_map_or, ForSome}
use Rattle.ns_code.specs.declared.program.CodeProgram.{CodeProgram}
use Rattle.ns_code.specs.declared.class.ClassCode.{ClassCode}
use Rattle.ns_code.specs.declared.body.BodyCode.{BodyCode}
use Rattle.ns_code.specs.Soundness.{class_side}
use Rattle.ns_world.specs.declared.value.Value.{Value}
use Rattle.ns_world.specs.declared.value.Value.TheVariants.{Nil, True, False, Int, Sym, Kernel, Ref}
use Rattle.ns_world.specs.declared.cell.NewCell.TheVariants as new
use Rattle.ns_world.specs.Cell.{Cell, ObjectCell, ClassCell, BlockCell, EnvironmentCell, ArrayCell, TextCell, FacetCell, MirrorCell, MessageCell, shape_of}
use Rattle.ns_world.specs.Heap.{Heap, find_cell, is_class, cell_number}
use Rattle.ns_world.specs.World.{World}
use Rattle.ns_world.specs.Layout.{declaration_of}
use Rattle.ns_world.specs.Lawful.{IsLawful, IsLiveValue, HasHolder, HasEnclosing, FitsBody}
use Rattle.ns_find.specs.declared.members.Side.{Side}
use Rattle.ns_find.specs.declared.members.Side.TheVariants.{Instance as InstanceSide, Class as ClassSide}
use Rattle.ns_find.specs.Find.{side_of}
use Rattle.ns_moves.specs.Control.{Activation}
use Rattle.ns_moves.specs.Bodies.{Place, enclosing_place, enclosing, side_of_body, side_at}
use Rattle.ns_moves.specs.Lawful.{FitsActivation, declaration_of_body, outer_of, declaration_at}
use Rattle.ns_moves.specs.lemmas.LawfulClasses.{object_live}
use Rattle.ns_moves.specs.laws.LawfulBlocks.{body_side}

-- An enclosing object is live, and where members of instances count, it has its holder in its chain.
pub record FitsPlace (heap : Heap) (code : CodeProgram) (side : Side) (place : Place) (decl : ℕ) : Type 0 where
  pub live : IsLiveValue heap code place.object
  pub has : side ≡ InstanceSide → HasHolder heap place.object place.holder
  pub holder_is : is_class (find_cell heap place.holder) ≡ true
  pub declaration_is : declaration_of heap place.holder ≡ decl

pub holder_live : (heap : Heap) (code : CodeProgram) (value : Value) (holder : ℕ) → HasHolder heap value holder →
    IsLiveValue heap code value
holder_live heap code (Ref at) holder has = object_live heap code at has.1
holder_live heap code Nil holder has = absurd has
holder_live heap code True holder has = absurd has
holder_live heap code False holder has = absurd has
holder_live heap code (Int number) holder has = absurd has
holder_live heap code (Sym sel) holder has = absurd has
holder_live heap code (Kernel class) holder has = absurd has

-- a class within a declaration leads to the object and the holder around it
around : (world : World) (code : CodeProgram) (encl holder : Value) (outer : Option ℕ) (decl' : ℕ) → outer ≡ Some decl' →
    HasEnclosing world.cells code outer encl holder →
    FitsPlace world.cells code InstanceSide (let p : Place = record { object = encl; holder = cell_number holder } in p) decl'
around world code encl (Ref h) (Some o) decl' e has = let is : o ≡ decl' = cc in record { live = holder_live world.cells code encl h has.0; has = λ s. has.0; holder_is = has.1; declaration_is = has.2 ∙ is }
around world code encl Nil (Some o) decl' e has = absurd has
around world code encl True (Some o) decl' e has = absurd has
around world code encl False (Some o) decl' e has = absurd has
around world code encl (Int number) (Some o) decl' e has = absurd has
around world code encl (Sym sel) (Some o) decl' e has = absurd has
around world code encl (Kernel class) (Some o) decl' e has = absurd has
around world code encl holder None decl' e has = absurd (cc)

outwards : (world : World) (code : CodeProgram) (number decl decl' : ℕ) (o : Option Cell) → IsLawful world code →
    find_cell world.cells number ≡ o → is_class o ≡ true → declaration_of world.cells number ≡ decl → outer_of code (Some decl) ≡ Some decl'
    → FitsPlace world.cells code InstanceSide (enclosing_place (option_map_or shape_of o (new.Mirror Nil))) decl'
outwards world code number decl decl' (Some (ClassCell d base encl holder over)) lawful e t is outer =
    let d_is : d ≡ decl = sym (rw e refl) ∙ is in
    let class = lawful.cells number (ClassCell d base encl holder over) e in
    declared (slice_get code.classes d) refl class.declared class.enclosing (ap (λ n. outer_of code (Some n)) d_is ∙ outer)
  where
    declared : (r : Option ClassCode) → slice_get code.classes d ≡ r → IsSome r → ForSome r (λ (c : ClassCode). HasEnclosing world.cells code c.outer encl holder) → option_map_or (λ (c : ClassCode). c.outer) r None ≡ Some decl'
        → FitsPlace world.cells code InstanceSide (enclosing_place (new.Class d base encl holder over)) decl'
    declared (Some c) f some encloses out = around world code encl holder c.outer decl' out (encloses c refl)
    declared None f some encloses out = absurd (cc)
outwards world code number decl decl' None lawful e t is outer = absurd (cc)
outwards world code number decl decl' (Some (ObjectCell class entries)) lawful e t is outer = absurd (cc)
outwards world code number decl decl' (Some (BlockCell body env home receiver holder)) lawful e t is outer = absurd (cc)
outwards world code number decl decl' (Some (EnvironmentCell parent locals)) lawful e t is outer = absurd (cc)
outwards world code number decl decl' (Some (ArrayCell items)) lawful e t is outer = absurd (cc)
outwards world code number decl decl' (Some (TextCell bytes)) lawful e t is outer = absurd (cc)
outwards world code number decl decl' (Some (FacetCell kind)) lawful e t is outer = absurd (cc)
outwards world code number decl decl' (Some (MirrorCell shown)) lawful e t is outer = absurd (cc)
outwards world code number decl decl' (Some (MessageCell sel args)) lawful e t is outer = absurd (cc)

-- the side of a body is that of instances where it isn't the class side
pub instance_body : (code : CodeProgram) (number : ℕ) (body : BodyCode) → slice_get code.bodies number ≡ Some body → body.side ≤ 1 →
    side_of_body code number ≡ InstanceSide → body.side ≡ 0
instance_body code number body e few s = sided body.side refl few
  where
    is : side_of_body code number ≡ side_of (eqb body.side class_side)
    is = rw e refl

    sided : (side : ℕ) → body.side ≡ side → side ≤ 1 → body.side ≡ 0
    sided zero t h = t
    sided (suc zero) t h = let class : ClassSide ≡ InstanceSide = ap (λ n. side_of (eqb n class_side)) (sym t) ∙ (sym is ∙ s) in absurd (cc)
    sided (suc (suc n)) t h = absurd (omega (arith, h))

own_place : (world : World) (code : CodeProgram) (activation : Activation) (decl : ℕ) (self : Value) → activation.self ≡ self →
    IsLawful world code → FitsActivation world.cells code activation → declaration_of_body code activation.body ≡ Some decl
    → FitsPlace world.cells code (side_of_body code activation.body) (enclosing world.cells activation 0) decl
own_place world code activation decl self e lawful fits d = found (slice_get code.bodies activation.body) refl fits.there d
  where
    place : (body : BodyCode) → slice_get code.bodies activation.body ≡ Some body → body.class ≡ decl → (self : Value) → activation.self ≡ self → FitsBody world.cells code body self activation.holder
        → FitsPlace world.cells code (side_of_body code activation.body) (enclosing world.cells activation 0) decl
    place body b c (Ref at) s f = record {
      live = fits.live;
      has = λ side. subst (λ v. HasHolder world.cells v activation.holder) (sym s) (f.2 (instance_body code activation.body body b (body_side code activation.body body lawful.fits b) side));
      holder_is = f.0;
      declaration_is = f.1 ∙ c;
    }
    place body b c Nil s f = absurd f
    place body b c True s f = absurd f
    place body b c False s f = absurd f
    place body b c (Int number) s f = absurd f
    place body b c (Sym sel) s f = absurd f
    place body b c (Kernel class) s f = absurd f

    found : (o : Option BodyCode) → slice_get code.bodies activation.body ≡ o → IsSome o → option_map (λ (b : BodyCode). b.class) o ≡ Some decl → FitsPlace world.cells code (side_of_body code activation.body) (enclosing world.cells activation 0) decl
    found (Some body) b some d = place body b (let is : body.class ≡ decl = cc in is) activation.self refl (fits.fits body b)
    found None b some d = absurd (cc)

-- the place at each level that there is fits
pub places_fit : (world : World) (code : CodeProgram) (activation : Activation) (level decl : ℕ) → IsLawful world code →
    FitsActivation world.cells code activation → declaration_at code activation.body level ≡ Some decl
    → FitsPlace world.cells code (side_at code activation level) (enclosing world.cells activation level) decl
places_fit world code activation zero decl lawful fits d = own_place world code activation decl activation.self refl lawful fits d
places_fit world code activation (suc level) decl lawful fits d =
    further (declaration_at code activation.body level) refl d (λ inner i. places_fit world code activation level inner lawful fits i)
  where
    further : (o : Option ℕ) → declaration_at code activation.body level ≡ o → outer_of code o ≡ Some decl
        → ((inner : ℕ) → declaration_at code activation.body level ≡ Some inner → FitsPlace world.cells code (side_at code activation level) (enclosing world.cells activation level) inner)
        → FitsPlace world.cells code InstanceSide (enclosing world.cells activation (suc level)) decl
    further (Some inner) i out within =
        let p = within inner i in
        outwards world code (enclosing world.cells activation level).holder inner decl (find_cell world.cells (enclosing world.cells activation level).holder) lawful refl p.holder_is p.declaration_is out
    further None i out within = absurd (cc)
