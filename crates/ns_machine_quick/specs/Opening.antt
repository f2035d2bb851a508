-- Sends that find a method or a slot, by the quick way.
use Rattle.std.specs.Prelude.{◌≡◌, ℕ, List, ◌∷◌, Option, Some, None, slice_get}
use Rattle.ns_base.specs.declared.selector.Sel.{Sel}
use Rattle.ns_code.specs.declared.body.BodyCode.{BodyCode}
use Rattle.ns_code.specs.declared.program.CodeProgram.{CodeProgram}
use Rattle.ns_world.specs.declared.value.Value.{Value}
use Rattle.ns_world.specs.Heap.{word_of_object}
use Rattle.ns_world.specs.Starts.{start_of}
use Rattle.ns_world.specs.World.{stored}
use Rattle.ns_find.specs.declared.found.Found.{Found}
use Rattle.ns_find.specs.declared.found.Found.TheVariants.{Method, Getter, Setter, Kernel}
use Rattle.ns_find.specs.declared.found.Sending.{Sending}
use Rattle.ns_find.specs.Find.{found_from}
use Rattle.ns_moves.specs.Control.{Control, gives, in_world}
use Rattle.ns_moves.specs.Sends.{Listed, ToPrivate, found_at, first_of, method_entered}
use Rattle.ns_moves.specs.declared.running.Running.{Running as RunningCode}
use Rattle.ns_moves.specs.Running.{code_of}
use Rattle.ns_machine_frames.specs.declared.frame.Frame.{Frame}
use Rattle.ns_machine_frames.specs.declared.frame.Frame.TheVariants.{Running}
use Rattle.ns_machine_frames.specs.declared.frame.RunningFrame.{RunningFrame}
use Rattle.ns_machine_frames.specs.declared.registers.Registers.{Registers}
use Rattle.ns_machine_plan.specs.declared.step.Member.{Member}
use Rattle.ns_machine_plan.specs.Privates.{member_at}
use Rattle.ns_machine_frames.specs.View.{site_shown}
use Rattle.ns_machine_core.specs.declared.led.Led.{Led}
use Rattle.ns_machine_core.specs.declared.led.Led.TheVariants.{Straight, Charged, On as OnTop, Answered, Nowhere}
use Rattle.ns_machine_core.specs.declared.state.Core.{Core}
use Rattle.ns_machine_core.specs.declared.state.Next.TheVariants.{On}
use Rattle.ns_machine_core.specs.Shown.{progress_in}
use Rattle.ns_machine_core.specs.Straight.{StaysOnTop}
use Rattle.ns_machine_core.specs.Tried.{OnlyLookupsChanged}
use Rattle.ns_machine_sends.specs.declared.sent.Sent.{Sent}
use Rattle.ns_machine_sends.specs.Going.{arguments_in}
use Rattle.ns_machine_sends.specs.Sending.{sent_at, Sends}

-- where a method begins with the arguments of a send, whose step is charged
abbrev pub begun_at : CodeProgram → Core → Registers → Sent → Value → ℕ → ℕ → Control
begun_at code core at sent receiver body holder =
    method_entered code body holder receiver (Listed (arguments_in core at sent)) (site_shown core.places sent.site) (progress_in core)

-- where the word of a receiver is given, and where the first argument is stored there
abbrev pub got_at : Core → Value → ℕ → Control
got_at core receiver word = gives (word_of_object core.run.world.world.cells receiver word) (progress_in core)

abbrev pub set_at : Core → Registers → Sent → Value → ℕ → Control
set_at core at sent receiver word =
    gives receiver (in_world (progress_in core) (stored core.run.world.world receiver word (first_of (arguments_in core at sent))))

-- A send to a value finds that method.
abbrev pub FindsMethod : CodeProgram → Core → Sent → Value → Sending → ℕ → ℕ → Type 0
FindsMethod code core sent receiver kind body holder =
    found_from core.run.world.world.cells code (start_of core.run.world.world.cells receiver) sent.site.sel.0 kind ≡ Method body holder

-- It finds the getter or the setter of that word.
abbrev pub FindsGetter : CodeProgram → Core → Sent → Value → Sending → ℕ → ℕ → Type 0
FindsGetter code core sent receiver kind holder word =
    found_from core.run.world.world.cells code (start_of core.run.world.world.cells receiver) sent.site.sel.0 kind ≡ Getter holder word

abbrev pub FindsSetter : CodeProgram → Core → Sent → Value → Sending → ℕ → ℕ → Type 0
FindsSetter code core sent receiver kind holder word =
    found_from core.run.world.world.cells code (start_of core.run.world.world.cells receiver) sent.site.sel.0 kind ≡ Setter holder word

-- It finds the row of the kernel of that number.
abbrev pub FindsKernel : CodeProgram → Core → Sent → Value → Sending → ℕ → Type 0
FindsKernel code core sent receiver kind number =
    found_from core.run.world.world.cells code (start_of core.run.world.world.cells receiver) sent.site.sel.0 kind ≡ Kernel number

-- The private send finds that member.
abbrev pub FindsAround : CodeProgram → Core → RunningCode → ℕ → Sent → Found → Type 0
FindsAround code core running level sent found =
    found ≡ found_at core.run.world.world.cells code (code_of running) (ToPrivate level) sent.site.sel.0

-- A private send has led on with the topmost frame at those registers; or nothing is done.
abbrev pub AroundOrNot : CodeProgram → Core → Registers → Sent → RunningCode → ℕ → Core → Option Registers → Type 0
AroundOrNot code old at sent running level new (Some to) =
    Sends code old at sent.floor (sent_at code old at sent (code_of running) (ToPrivate level)) new (On to)
AroundOrNot code old at sent running level new None = OnlyLookupsChanged code old new

-- It has led straight on to those registers, with one step charged; or nothing is done.
abbrev pub AroundCharges : CodeProgram → Core → Registers → Sent → RunningCode → ℕ → Core → Option Registers → Type 0
AroundCharges code old at sent running level new (Some to) =
    Sends code old at sent.floor (sent_at code old at sent (code_of running) (ToPrivate level)) new (On to) × StaysOnTop 1 old new
AroundCharges code old at sent running level new None = OnlyLookupsChanged code old new

-- It has led there; or nothing is done.
abbrev pub AroundLeads : CodeProgram → Core → Registers → Sent → RunningCode → ℕ → Core → Led → Type 0
AroundLeads code old at sent running level new (Straight to) =
    Sends code old at sent.floor (sent_at code old at sent (code_of running) (ToPrivate level)) new (On to) × StaysOnTop 0 old new
AroundLeads code old at sent running level new (Charged to) =
    Sends code old at sent.floor (sent_at code old at sent (code_of running) (ToPrivate level)) new (On to) × StaysOnTop 1 old new
AroundLeads code old at sent running level new (OnTop to) =
    Sends code old at sent.floor (sent_at code old at sent (code_of running) (ToPrivate level)) new (On to)
AroundLeads code old at sent running level new (Answered to) = ⊥
AroundLeads code old at sent running level new Nowhere = OnlyLookupsChanged code old new

-- The member is the private one of that name of the declaration so many levels out from a body.
abbrev pub IsMemberAt : CodeProgram → ℕ → ℕ → Sel → Member → Type 0
IsMemberAt code body level sel member = (b : BodyCode) → slice_get code.bodies body ≡ Some b → member ≡ member_at code b level sel

-- The same of the body that runs in the topmost of frames.
abbrev pub IsMemberAbove : CodeProgram → List Frame → ℕ → Sel → Member → Type 0
IsMemberAbove code frames level sel member =
    (frame : RunningFrame) (others : List Frame) → frames ≡ Running frame ∷ others → IsMemberAt code frame.activation.body level sel member
