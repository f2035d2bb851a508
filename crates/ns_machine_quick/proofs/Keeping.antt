-- Sends that find a nested class which the object keeps.
use Rattle.std.proofs.Common.{◌≡◌, ℕ, ap, sym, ◌∙◌, subst, Option, Some, None, Ok}
use Rattle.std.specs.Prelude.{IfSome}
use Rattle.ns_code.specs.declared.program.CodeProgram.{CodeProgram}
use Rattle.ns_world.specs.declared.value.Value.{Value}
use Rattle.ns_world.specs.declared.value.Value.TheVariants as value
use Rattle.ns_world.specs.declared.value.Value.TheVariants.{Ref}
use Rattle.ns_world.specs.Heap.{Heap}
use Rattle.ns_world.specs.World.{World, WorldView, stepped}
use Rattle.ns_classes.specs.Nested.{kept_class}
use Rattle.ns_find.specs.declared.found.Found.{Found}
use Rattle.ns_find.specs.declared.found.Found.TheVariants.{Nested}
use Rattle.ns_moves.specs.declared.site.Site.{Site}
use Rattle.ns_moves.specs.Classes.{nested}
use Rattle.ns_moves.specs.Control.{Activation, Progress, gives}
use Rattle.ns_moves.specs.Lawful.{HasClass}
use Rattle.ns_moves.specs.Sends.{Target, answered_by, found_at, nested_in, receiver_of}
use Rattle.ns_moves.specs.Suits.{Suits}
use Rattle.ns_machine_frames.specs.declared.registers.Registers.{Registers}
use Rattle.ns_machine_frames.specs.Stack.{with_top}
use Rattle.ns_machine_frames.specs.View.{site_shown}
use Rattle.ns_machine_core.specs.declared.state.Core.{Core}
use Rattle.ns_machine_core.specs.declared.state.Next.{Next}
use Rattle.ns_machine_core.specs.declared.state.Next.TheVariants.{On}
use Rattle.ns_machine_core.specs.Doing.{IsSettled}
use Rattle.ns_machine_core.specs.Shown.{progress_in}
use Rattle.ns_machine_core.specs.Straight.{StaysOnTop}
use Rattle.ns_machine_core.specs.laws.Charged.{step_is, given_on_top}
use Rattle.ns_machine_core.specs.laws.Worlds.{in_other}
use Rattle.ns_machine_sends.specs.declared.sent.Sent.{Sent}
use Rattle.ns_machine_sends.specs.Going.{arguments_in}
use Rattle.ns_machine_sends.specs.Sending.{CanSend, looked_up, Sends}
use Rattle.ns_machine_quick.specs.Nested.{KeepsNested}

-- what suits an object has its class
pub class_there : (heap : Heap) (code : CodeProgram) (receiver : Value) (object holder class : ℕ) → receiver ≡ Ref object
    → Suits heap code receiver (Nested class holder) → HasClass heap code object holder class
class_there heap code receiver object holder class is suits =
    let own = subst (λ (v : Value). Suits heap code v (Nested class holder)) is suits in
    record { object_has = own.0; holder_is = own.1; nested = own.2 }

-- what an object is told to keep, the receiver keeps that is this object
pub kept_told : (heap : Heap) (code : CodeProgram) (receiver : Value) (object holder class : ℕ) (told : Option ℕ) → receiver ≡ Ref object
    → told ≡ kept_class heap code object holder class → IfSome told (λ kept. KeepsNested heap code receiver holder class kept)
kept_told heap code receiver object holder class (Some kept) is told =
    subst (λ (v : Value). KeepsNested heap code v holder class kept) (sym is) (sym told)
kept_told heap code receiver object holder class None is told = record {}

-- a nested class that is kept is given
kept_given : (code : CodeProgram) (receiver : Value) (holder class kept : ℕ) (site : Site) (progress : Progress)
    → KeepsNested progress.world.cells code receiver holder class kept → nested_in code receiver holder class site progress ≡ gives (Ref kept) progress
kept_given code (Ref object) holder class kept site progress keeps = ap (λ (o : Option ℕ). nested code object holder class o site progress) keeps
kept_given code value.Nil holder class kept site progress keeps = absurd keeps
kept_given code value.True holder class kept site progress keeps = absurd keeps
kept_given code value.False holder class kept site progress keeps = absurd keeps
kept_given code (value.Int number) holder class kept site progress keeps = absurd keeps
kept_given code (value.Sym sel) holder class kept site progress keeps = absurd keeps
kept_given code (value.Kernel row) holder class kept site progress keeps = absurd keeps

nested_found : (code : CodeProgram) (core : Core) (at : Registers) (sent : Sent) (receiver : Value) (holder class kept : ℕ) (activation : Activation) (target : Target)
    → found_at core.run.world.world.cells code activation target sent.site.sel.0 ≡ Nested class holder → receiver_of core.run.world.world.cells activation target ≡ receiver
    → KeepsNested core.run.world.world.cells code receiver holder class kept
    → looked_up code core at sent activation target ≡ gives (Ref kept) (progress_in core)
nested_found code core at sent receiver holder class kept activation target finds to keeps =
    ap (λ (f : Found). answered_by code f sent.site.sel (receiver_of core.run.world.world.cells activation target) (arguments_in core at sent)
    (site_shown core.places sent.site) (progress_in core)) finds
    ∙ (ap (λ (r : Value). nested_in code r holder class (site_shown core.places sent.site) (progress_in core)) to
    ∙ kept_given code receiver holder class kept (site_shown core.places sent.site) (progress_in core) keeps)

-- and so it is once the step of its send is charged
pub nested_later : (code : CodeProgram) (core : Core) (at : Registers) (sent : Sent) (receiver : Value) (holder class kept : ℕ) (activation : Activation) (target : Target)
    (world : WorldView) → stepped core.run.world.world ≡ Some world.world
    → found_at core.run.world.world.cells code activation target sent.site.sel.0 ≡ Nested class holder → receiver_of core.run.world.world.cells activation target ≡ receiver
    → KeepsNested core.run.world.world.cells code receiver holder class kept
    → looked_up code (in_other core world) at sent activation target ≡ gives (Ref kept) (progress_in (in_other core world))
nested_later code core at sent receiver holder class kept activation target world e finds to keeps =
    nested_found code (in_other core world) at sent receiver holder class kept activation target (rw cells finds) (rw cells to) (rw cells keeps)
  where
    cells : world.world.cells ≡ core.run.world.world.cells
    cells = ap (λ (w : World). w.cells) (step_is core.run.world.world world.world e)

-- ---- the send

pub class_sends : (code : CodeProgram) (core new : Core) (at : Registers) (sent : Sent) (receiver : Value) (class : ℕ) (next : Next)
    → CanSend code core at sent receiver → IsSettled code core (with_top sent.floor at) sent.site (Ok (Ref class)) new next
    → Sends code core at sent.floor (gives (Ref class) (progress_in core)) new next
class_sends code core new at sent receiver class next can is = record {
  state = is.state;
  stand = is.stand;
  stays = is.stays;
  kept = rw is.run can.kept;
}

-- It leaves the body that runs on top, with the step charged that the send has.
pub class_on_top : (code : CodeProgram) (core new : Core) (at to : Registers) (floor class : ℕ) (world : WorldView)
    → stepped core.run.world.world ≡ Some world.world
    → Sends code (in_other core world) at floor (gives (Ref class) (progress_in (in_other core world))) new (On to) → StaysOnTop 1 core new
class_on_top code core new at to floor class world e is =
    given_on_top code 1 core new (with_top floor at) to (Ref class) (progress_in (in_other core world))
    (ap (λ (w : World). w.steps) (step_is core.run.world.world world.world e)) is.state
