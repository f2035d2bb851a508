-- A block that is made in running code is lawful, and an enclosing object is live.
use Rattle.std.proofs.Common.{◌≡◌, ℕ, ◌+◌, ◌<◌, refl, ap, sym, ◌∙◌, subst, arith, Option, Some, None, true, false, cond, slice_get}
use Rattle.std.specs.Prelude.{IsSome}
use Rattle.std.specs.Option.{option_map_or}
use Rattle.ns_code.specs.declared.program.CodeProgram.{CodeProgram}
use Rattle.ns_code.specs.declared.body.BodyCode.{BodyCode}
use Rattle.ns_world.specs.declared.value.Value.{Value}
use Rattle.ns_world.specs.declared.value.Value.TheVariants.{Nil, True, False, Int, Sym, Kernel, Ref}
use Rattle.ns_world.specs.Heap.{Heap}
use Rattle.ns_world.specs.World.{World}
use Rattle.ns_world.specs.Lawful.{IsLawful, IsLiveValue, FitsBody, FitsEnvironment, BlockIsLawful, parent_of}
use Rattle.ns_moves.specs.Control.{Activation}
use Rattle.ns_moves.specs.Bodies.{has_environment, enclosing}
use Rattle.ns_moves.specs.Lawful.{FitsActivation, declaration_at, IsBlockOf}
use Rattle.ns_moves.specs.Fitting.{FitsOwnEnvironment}
use Rattle.ns_moves.proofs.Opening.{earlier, at_depth}
use Rattle.ns_moves.specs.lemmas.Places.{places_fit}

-- what fits a body fits each body of its class and side
same_fits : (heap : Heap) (code : CodeProgram) (inner outer : BodyCode) (self : Value) (holder : ℕ) → inner.class ≡ outer.class →
    inner.side ≡ outer.side → FitsBody heap code outer self holder → FitsBody heap code inner self holder
same_fits heap code inner outer (Ref at) holder class side fits =
    (fits.0, fits.1 ∙ sym class, λ s. fits.2 (sym side ∙ s), λ s. fits.3 (sym side ∙ s))
same_fits heap code inner outer Nil holder class side fits = absurd fits
same_fits heap code inner outer True holder class side fits = absurd fits
same_fits heap code inner outer False holder class side fits = absurd fits
same_fits heap code inner outer (Int number) holder class side fits = absurd fits
same_fits heap code inner outer (Sym sel) holder class side fits = absurd fits
same_fits heap code inner outer (Kernel class') holder class side fits = absurd fits

one_body : (o : Option BodyCode) (b c : BodyCode) → o ≡ Some b → o ≡ Some c → b ≡ c
one_body o b c e f = let both : Some b ≡ Some c = sym e ∙ f in cc

pub block_is_lawful : (world : World) (code : CodeProgram) (activation : Activation) (block : ℕ) → IsLawful world code →
    FitsActivation world.cells code activation → FitsOwnEnvironment world.cells code activation → IsBlockOf code block activation.body
    → BlockIsLawful world.cells code block activation.env activation.self activation.holder
block_is_lawful world code activation block lawful fits own is = record {
  declared = rw is.inner_is refl;
  is_block = λ body e. ap (λ (b : BodyCode). b.kind) (sym (same body e)) ∙ is.kind;
  fits = λ body e. subst (λ (b : BodyCode). FitsBody world.cells code b activation.self activation.holder) (same body e)
      (same_fits world.cells code is.inner is.outer activation.self activation.holder is.class is.side (fits.fits is.outer is.outer_is));
  environment = λ body e. subst (λ (b : BodyCode). FitsEnvironment (block + 1) world.cells code b.parent activation.env) (same body e) around;
}
  where
    same : (body : BodyCode) → slice_get code.bodies block ≡ Some body → is.inner ≡ body
    same body e = one_body (slice_get code.bodies block) is.inner body is.inner_is e

    has : has_environment code activation.body ≡ true
    has = ap (λ o. option_map_or (λ (b : BodyCode). b.environment) o false) is.outer_is ∙ is.around

    own' : FitsEnvironment (activation.body + 1) world.cells code (Some activation.body) activation.env
    own' = subst (λ b. FitsEnvironment (activation.body + 1) world.cells code (cond b (Some activation.body) (parent_of code activation.body)) activation.env) has own

    below : activation.body < block
    below = earlier code block is.inner activation.body lawful.parents is.inner_is is.parent

    around : FitsEnvironment (block + 1) world.cells code is.inner.parent activation.env
    around = subst (λ o. FitsEnvironment (block + 1) world.cells code o activation.env) (sym is.parent)
        (at_depth code world.cells (activation.body + 1) (block + 1) (Some activation.body) activation.env lawful.parents (λ number e. let one : activation.body ≡ number = cc in omega (arith, below, one)) own')

-- an object that encloses running code is live
pub enclosing_live : (world : World) (code : CodeProgram) (activation : Activation) (level : ℕ) → IsLawful world code →
    FitsActivation world.cells code activation → IsSome (declaration_at code activation.body level) →
    IsLiveValue world.cells code (enclosing world.cells activation level).object
enclosing_live world code activation level lawful fits there = declared (declaration_at code activation.body level) refl there
  where
    declared : (o : Option ℕ) → declaration_at code activation.body level ≡ o → IsSome o → IsLiveValue world.cells code (enclosing world.cells activation level).object
    declared (Some decl) e some = (places_fit world code activation level decl lawful fits e).live
    declared None e some = absurd (cc)
