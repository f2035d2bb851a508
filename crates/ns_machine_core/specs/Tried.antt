-- What a quick way comes to, which is tried before the general one.
use Rattle.std.specs.Prelude.{◌≡◌, ℕ, Option, Some, None}
use Rattle.ns_base.specs.declared.place.Place.{Place as SourcePlace}
use Rattle.ns_code.specs.declared.program.CodeProgram.{CodeProgram}
use Rattle.ns_code.specs.declared.instruction.Instr.{Instr}
use Rattle.ns_machine_frames.specs.declared.registers.Registers.{Registers}
use Rattle.ns_machine_core.specs.declared.led.Led.{Led}
use Rattle.ns_machine_core.specs.declared.led.Led.TheVariants.{Straight, Charged, On as OnTop, Answered, Nowhere}
use Rattle.ns_machine_core.specs.declared.state.Core.{Core}
use Rattle.ns_machine_core.specs.declared.state.Next.TheVariants.{On}
use Rattle.ns_machine_core.specs.Standing.{KeepsRightIn}
use Rattle.ns_machine_core.specs.Doing.{IsDone}
use Rattle.ns_machine_core.specs.Jumping.{Jumps}
use Rattle.ns_machine_core.specs.Passing.{DoesTwice}
use Rattle.ns_machine_core.specs.Straight.{GoesStraight, StaysOnTop}

-- Nothing has changed but the lookups that are kept, which are right.
pub record OnlyLookupsChanged (code : CodeProgram) (old new : Core) : Type 0 where
  pub same : new ≡ record old { run = record old.run { memo = new.run.memo } }
  pub kept : KeepsRightIn code old new

-- The instruction is done, and the topmost frame goes on at those registers; or nothing is.
abbrev pub DoesOrNot : CodeProgram → Instr → Option SourcePlace → Core → Registers → Core → Option Registers → Type 0
DoesOrNot code instr place old at new (Some to) = IsDone code instr place old at new (On to)
DoesOrNot code instr place old at new None = OnlyLookupsChanged code old new

-- where a step leads that goes straight on, if it was done, one that does so with one step charged, and one that goes on with the
-- topmost frame
abbrev pub led_straight : Option Registers → Led
led_straight (Some to) = Straight to
led_straight None = Nowhere

abbrev pub led_charged : Option Registers → Led
led_charged (Some to) = Charged to
led_charged None = Nowhere

abbrev pub led_on : Option Registers → Led
led_on (Some to) = OnTop to
led_on None = Nowhere

-- The instruction is done, and leads there, or the move after it does; or nothing is.
abbrev pub LeadsOrChangesNothing : CodeProgram → Instr → Option SourcePlace → Core → Registers → Core → Led → Type 0
LeadsOrChangesNothing code instr place old at new (Straight to) = GoesStraight code 0 instr place old at new to
LeadsOrChangesNothing code instr place old at new (Charged to) = GoesStraight code 1 instr place old at new to
LeadsOrChangesNothing code instr place old at new (OnTop to) = IsDone code instr place old at new (On to)
LeadsOrChangesNothing code instr place old at new (Answered to) = DoesTwice code instr place old at new (On to)
LeadsOrChangesNothing code instr place old at new Nowhere = OnlyLookupsChanged code old new

-- The jump was taken, and leads there: straight on where nothing has changed, or a step was charged. Or it wasn't, and nothing has
-- changed.
abbrev pub JumpLeads : CodeProgram → Core → Registers → ℕ → Core → Led → Type 0
JumpLeads code old at target new (Straight to) = Jumps code old at target new (On to) × (new ≡ old)
JumpLeads code old at target new (Charged to) = Jumps code old at target new (On to) × StaysOnTop 1 old new
JumpLeads code old at target new (OnTop to) = Jumps code old at target new (On to)
JumpLeads code old at target new (Answered to) = ⊥
JumpLeads code old at target new Nowhere = new ≡ old
