-- What the laws say of the actions that are no sends: what they change, and that they keep worlds lawful.
use Rattle.std.specs.Prelude.{ℕ, ◌∷◌, [], List, All}
use Rattle.ns_code.specs.declared.program.CodeProgram.{CodeProgram}
use Rattle.ns_world.specs.declared.value.Value.{Value}
use Rattle.ns_world.specs.declared.value.Value.TheVariants.{Ref}
use Rattle.ns_world.specs.Lawful.{IsLiveValue, BlockIsLawful}
use Rattle.ns_world.specs.declared.kernel_parts.KMethod.{KMethod}
use Rattle.ns_kcode.specs.declared.state.KState.{KState}
use Rattle.ns_moves.specs.declared.site.Site.{Site}
use Rattle.ns_moves.specs.Control.{Progress, Activation, Exit}
use Rattle.ns_moves.specs.Classes.{super_part, body_ended, slot_filled, kept_by}
use Rattle.ns_moves.specs.Bodies.{environment_at, local_stored}
use Rattle.ns_moves.specs.Blocks.{new_block, new_array, evaluated, method_next}
use Rattle.ns_moves.specs.Lawful.{LawfulRun, LawfulAfter, LawfulPart, LawfulWaiting, LiveState, FitsExit, FitsSlot, FitsLocal}
use Rattle.ns_moves.specs.Onward.{Onward, reached, after_reached, part_reached}

-- ---- what an action changes

-- The evaluation of a block changes no cell that was there.
abbrev pub EvaluatedGoesOnward : CodeProgram → Type 0
EvaluatedGoesOnward code =
    (block : Value) (arguments : List Value) (site : Site) (progress : Progress)
    → Onward [] progress (reached (evaluated code block arguments site progress))

-- Nor does a part of a superclass.
abbrev pub PartGoesOnward : CodeProgram → Type 0
PartGoesOnward code =
    (activation : Activation) (arguments : List Value) (progress : Progress)
    → Onward [] progress (part_reached (super_part code activation arguments progress))

-- The end of a clause's head changes the object that keeps the class.
abbrev pub EndGoesOnward : CodeProgram → Type 0
EndGoesOnward code =
    (exit : Exit) (activation : Activation) (value : Value) (progress : Progress)
    → Onward (kept_by exit) progress (after_reached (body_ended code exit activation value progress))

-- The filling of a slot changes self.
abbrev pub SlotGoesOnward : CodeProgram → Type 0
SlotGoesOnward code =
    (activation : Activation) (slot : ℕ) (value : Value) (progress : Progress)
    → Onward (activation.self ∷ []) progress (slot_filled code activation slot value progress)

-- The storing of a local changes the environment in which it stands.
abbrev pub LocalGoesOnward : CodeProgram → Type 0
LocalGoesOnward code =
    (activation : Activation) (hops place : ℕ) (value : Value) (progress : Progress)
    → Onward (Ref (environment_at progress.world.cells code activation hops) ∷ []) progress
    (local_stored code activation hops place value progress)

-- ---- what leaves a lawful world

-- A part of a superclass, where self and the arguments are live.
abbrev pub PartKeepsLawful : CodeProgram → Type 0
PartKeepsLawful code =
    (activation : Activation) (arguments : List Value) (progress : Progress) → LawfulRun code progress
    → IsLiveValue progress.world.cells code activation.self → All (IsLiveValue progress.world.cells code) arguments
    → LawfulPart code (super_part code activation arguments progress)

-- The end of a body with a live value, where its exit fits.
abbrev pub EndKeepsLawful : CodeProgram → Type 0
EndKeepsLawful code =
    (exit : Exit) (activation : Activation) (value : Value) (progress : Progress) → LawfulRun code progress
    → FitsExit progress.world.cells code exit → IsLiveValue progress.world.cells code value
    → LawfulAfter code (body_ended code exit activation value progress)

-- An action of a method of the kernel whose values are live.
abbrev pub MethodKeepsLawful : Type 0
MethodKeepsLawful =
    (method : KMethod) (state : KState) (site : Site) (code : CodeProgram) (progress : Progress) → LawfulRun code progress
    → LiveState progress.world.cells code state → LawfulWaiting code (method_next method state site progress)

-- A new array of live elements.
abbrev pub ArrayKeepsLawful : CodeProgram → Type 0
ArrayKeepsLawful code =
    (items : List Value) (progress : Progress) → LawfulRun code progress
    → All (IsLiveValue progress.world.cells code) items → LawfulAfter code (new_array items progress)

-- A new block whose body fits where it is made.
abbrev pub BlockKeepsLawful : CodeProgram → Type 0
BlockKeepsLawful code =
    (activation : Activation) (body : ℕ) (progress : Progress) → LawfulRun code progress
    → BlockIsLawful progress.world.cells code body activation.env activation.self activation.holder
    → LawfulAfter code (new_block activation body progress)

-- A slot that is filled with a live value.
abbrev pub SlotKeepsLawful : CodeProgram → Type 0
SlotKeepsLawful code =
    (activation : Activation) (slot : ℕ) (value : Value) (progress : Progress) → LawfulRun code progress
    → FitsSlot progress.world.cells code activation slot → IsLiveValue progress.world.cells code value
    → LawfulRun code (slot_filled code activation slot value progress)

-- A live value that is stored in a local.
abbrev pub LocalKeepsLawful : CodeProgram → Type 0
LocalKeepsLawful code =
    (activation : Activation) (hops place : ℕ) (value : Value) (progress : Progress) → LawfulRun code progress
    → FitsLocal progress.world.cells code activation hops → IsLiveValue progress.world.cells code value
    → LawfulRun code (local_stored code activation hops place value progress)
