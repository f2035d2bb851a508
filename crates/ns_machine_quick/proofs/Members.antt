-- What the member of a private send finds.
use Rattle.std.proofs.Common.{◌≡◌, ℕ, refl, sym, ap, ◌∙◌, subst, Option, Some, None}
use Rattle.std.specs.Prelude.{slice_get, IsSome}
use Rattle.ns_base.specs.declared.selector.Sel.{Sel}
use Rattle.ns_code.specs.declared.program.CodeProgram.{CodeProgram}
use Rattle.ns_code.specs.declared.body.BodyCode.{BodyCode}
use Rattle.ns_world.specs.Lawful.{IsLawful}
use Rattle.ns_world.specs.Layout.{declaration_of, entries_of}
use Rattle.ns_world.specs.World.{World}
use Rattle.ns_moves.specs.Bodies.{enclosing}
use Rattle.ns_moves.specs.Control.{Activation}
use Rattle.ns_moves.specs.Lawful.{FitsActivation, declaration_at}
use Rattle.ns_moves.specs.Sends.{ToPrivate, found_at}
use Rattle.ns_machine_plan.specs.declared.step.Member.{Member}
use Rattle.ns_machine_plan.specs.Stated.{MembersAreFound, MembersAreEntries}
use Rattle.ns_machine_plan.specs.Privates.{SlotIsAmong, found_in}
use Rattle.ns_machine_quick.specs.Opening.{IsMemberAt}

module _ (code : CodeProgram) where
  pub member_found : MembersAreFound code → (world : World) (activation : Activation) (level : ℕ) (sel : Sel) (member : Member) → IsLawful world code
      → FitsActivation world.cells code activation → IsSome (declaration_at code activation.body level) → IsMemberAt code activation.body level sel member
      → found_in world.cells code (enclosing world.cells activation level).holder member ≡ found_at world.cells code activation (ToPrivate level) sel.0
  member_found found world activation level sel member lawful fits there is = by_body (slice_get code.bodies activation.body) refl fits.there
    where
      by_body : (o : Option BodyCode) → slice_get code.bodies activation.body ≡ o → IsSome o
          → found_in world.cells code (enclosing world.cells activation level).holder member ≡ found_at world.cells code activation (ToPrivate level) sel.0
      by_body None e some = absurd (cc (some))
      by_body (Some b) e some =
          ap (λ (m : Member). found_in world.cells code (enclosing world.cells activation level).holder m) (is b e)
          ∙ sym (found world activation b level sel lawful fits e there)

  pub member_among : MembersAreEntries code → (world : World) (activation : Activation) (level : ℕ) (sel : Sel) (member : Member) → IsLawful world code
      → FitsActivation world.cells code activation → IsSome (declaration_at code activation.body level) → IsMemberAt code activation.body level sel member
      → SlotIsAmong (entries_of code (declaration_of world.cells (enclosing world.cells activation level).holder)) member
  member_among entries world activation level sel member lawful fits there is = by_body (slice_get code.bodies activation.body) refl fits.there
    where
      by_body : (o : Option BodyCode) → slice_get code.bodies activation.body ≡ o → IsSome o
          → SlotIsAmong (entries_of code (declaration_of world.cells (enclosing world.cells activation level).holder)) member
      by_body None e some = absurd (cc (some))
      by_body (Some b) e some =
          subst (λ (m : Member). SlotIsAmong (entries_of code (declaration_of world.cells (enclosing world.cells activation level).holder)) m) (sym (is b e))
          (entries world activation b level sel lawful fits e there)
