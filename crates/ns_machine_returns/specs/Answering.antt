-- Ends of bodies by the quick way.
use Rattle.std.specs.Prelude.{List, [], ◌∷◌, Bool, true, false}
use Rattle.ns_code.specs.declared.program.CodeProgram.{CodeProgram}
use Rattle.ns_world.specs.declared.kernel_parts.KMethod.{KMethod}
use Rattle.ns_world.specs.declared.kernel_parts.KMethod.TheVariants.{And, Or, IfTrue, IfFalse, IfTrueIfFalse, IfFalseIfTrue}
use Rattle.ns_world.specs.declared.value.Value.{Value}
use Rattle.ns_world.specs.declared.value.Value.TheVariants.{True, False}
use Rattle.ns_moves.specs.Returns.{delivered, returned}
use Rattle.ns_machine_frames.specs.declared.frame.Frame.{Frame}
use Rattle.ns_machine_frames.specs.declared.frame.Frame.TheVariants.{Running, Looping}
use Rattle.ns_machine_frames.specs.declared.frame.RunningFrame.{RunningFrame}
use Rattle.ns_machine_frames.specs.declared.registers.Registers.{Registers}
use Rattle.ns_machine_frames.specs.Standing.{below}
use Rattle.ns_machine_frames.specs.Stack.{stood}
use Rattle.ns_machine_frames.specs.View.{leaving_shown, activation_shown, frames_shown}
use Rattle.ns_machine_core.specs.declared.led.Led.{Led}
use Rattle.ns_machine_core.specs.declared.led.Led.TheVariants.{Straight, Charged, On as OnTop, Answered, Nowhere}
use Rattle.ns_machine_core.specs.declared.state.Core.{Core}
use Rattle.ns_machine_core.specs.declared.state.Next.{Next}
use Rattle.ns_machine_core.specs.declared.state.Next.TheVariants.{On}
use Rattle.ns_machine_core.specs.Passing.{Passes}
use Rattle.ns_machine_core.specs.Shown.{phase_shown, progress_in}
use Rattle.ns_machine_core.specs.Tried.{OnlyLookupsChanged}
use Rattle.ns_machine_returns.specs.Ending.{IsEnded}
use Rattle.ns_machine_returns.specs.Handing.{IsHanded}

-- ---- a method of the kernel that answers what its block does

-- whether a method answers what its block has answered, where its receiver is true, where it is false, and where it is that value
abbrev pub answers_for_true : KMethod → Bool
answers_for_true And = true
answers_for_true IfTrue = true
answers_for_true IfTrueIfFalse = true
answers_for_true IfFalseIfTrue = true
answers_for_true method = false

abbrev pub answers_for_false : KMethod → Bool
answers_for_false Or = true
answers_for_false IfFalse = true
answers_for_false IfTrueIfFalse = true
answers_for_false IfFalseIfTrue = true
answers_for_false method = false

abbrev pub answers_block : KMethod → Value → Bool
answers_block method True = answers_for_true method
answers_block method False = answers_for_false method
answers_block method receiver = false

-- whether the topmost frame is that of such a method
abbrev pub passes_on : List Frame → Bool
passes_on [] = false
passes_on (Running frame ∷ frames) = false
passes_on (Looping frame ∷ frames) = answers_block frame.method frame.state.receiver

-- A value has come to such a method on top, which has ended with it: two moves, if it came by one.
abbrev pub IsHandedThrough : CodeProgram → Core → Registers → Value → Core → Next → Type 0
IsHandedThrough code old at value new next =
    Passes code (delivered code (phase_shown old.phase) value (frames_shown code old.places (stood old.stack at)) (progress_in old)) old new next

-- A value has come to what stood on top, or went through it to what stood below.
abbrev pub HandsOn : CodeProgram → Core → Registers → Value → Core → Led → Type 0
HandsOn code old at value new (Straight to) = ⊥
HandsOn code old at value new (Charged to) = ⊥
HandsOn code old at value new (OnTop to) = IsHanded code old at value new (On to)
HandsOn code old at value new (Answered to) = IsHandedThrough code old at value new (On to)
HandsOn code old at value new Nowhere = ⊥

-- ---- the end of a body

-- The frame has ended with the value, and so has the method of the kernel below it: two moves.
abbrev pub EndsTwice : CodeProgram → Core → Registers → RunningFrame → Value → Core → Next → Type 0
EndsTwice code old at frame value new next =
    Passes code (returned code (phase_shown old.phase) (leaving_shown frame.leaving frame.activation) (activation_shown old.places frame.activation) value
    (frames_shown code old.places (below (stood old.stack at))) (progress_in old)) old new next

-- The frame has ended with the value, or two frames have, and the frame below goes on at those registers; or nothing is done.
abbrev pub EndLeads : CodeProgram → Core → Registers → RunningFrame → Value → Core → Led → Type 0
EndLeads code old at frame value new (Straight to) = ⊥
EndLeads code old at frame value new (Charged to) = ⊥
EndLeads code old at frame value new (OnTop to) = IsEnded code old at frame value new (On to)
EndLeads code old at frame value new (Answered to) = EndsTwice code old at frame value new (On to)
EndLeads code old at frame value new Nowhere = OnlyLookupsChanged code old new
