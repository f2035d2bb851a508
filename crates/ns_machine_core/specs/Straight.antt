-- Steps that lead straight on.
use Rattle.std.specs.Prelude.{◌≡◌, ℕ, ◌+◌, List, [], ◌∷◌, Option, Bool, true, false}
use Rattle.ns_base.specs.declared.place.Place.{Place as SourcePlace}
use Rattle.ns_code.specs.declared.program.CodeProgram.{CodeProgram}
use Rattle.ns_code.specs.declared.instruction.Instr.{Instr}
use Rattle.ns_code.specs.declared.instruction.Instr.TheVariants as instr
use Rattle.ns_moves.specs.Bodies.{has_environment}
use Rattle.ns_machine_frames.specs.declared.frame.Frame.{Frame}
use Rattle.ns_machine_frames.specs.declared.frame.Frame.TheVariants.{Running, Looping}
use Rattle.ns_machine_frames.specs.declared.registers.Registers.{Registers}
use Rattle.ns_machine_core.specs.declared.on_top.OnTop.{OnTop}
use Rattle.ns_machine_core.specs.declared.state.Core.{Core}
use Rattle.ns_machine_core.specs.declared.state.Next.TheVariants.{On}
use Rattle.ns_machine_core.specs.Doing.{IsDone}

-- The topmost frame is one of that body.
abbrev pub TopRunsBody : ℕ → List Frame → Type 0
TopRunsBody body [] = ⊥
TopRunsBody body (Running frame ∷ frames) = frame.activation.body ≡ body
TopRunsBody body (Looping frame ∷ frames) = ⊥

-- It is that body, and it is known whether its locals stand in an environment.
pub record IsOnTop (code : CodeProgram) (top : OnTop) (frames : List Frame) : Type 0 where
  pub runs : TopRunsBody top.body frames
  pub environment : top.environment ≡ has_environment code top.body

-- That body still runs on top, and so many steps were charged.
pub record StaysIn (body charged : ℕ) (old new : Core) : Type 0 where
  pub runs : TopRunsBody body new.stack.frames.items
  pub steps : new.run.world.world.steps ≡ old.run.world.world.steps + charged

-- So it is with the body that runs on top, whichever it is.
abbrev pub StaysOnTop : ℕ → Core → Core → Type 0
StaysOnTop charged old new = (body : ℕ) → TopRunsBody body old.stack.frames.items → StaysIn body charged old new

-- The instruction is done, so many steps were charged, and the body that runs goes straight on at those registers.
pub record GoesStraight (code : CodeProgram) (charged : ℕ) (instr : Instr) (place : Option SourcePlace) (old : Core) (at : Registers)
    (new : Core) (to : Registers) : Type 0 where
  pub does : IsDone code instr place old at new (On to)
  pub stays : StaysOnTop charged old new

-- whether an instruction is plain: it neither sends nor jumps nor ends a body, and makes nothing but a block
abbrev pub is_plain : Instr → Bool
is_plain instr.PushNil = true
is_plain instr.PushTrue = true
is_plain instr.PushFalse = true
is_plain (instr.PushInt number) = true
is_plain (instr.PushSym sel) = true
is_plain instr.PushSelf = true
is_plain (instr.PushOuter level) = true
is_plain (instr.PushLocal hops index) = true
is_plain (instr.StoreLocal hops index) = true
is_plain (instr.PushBlock body) = true
is_plain instr.Pop = true
is_plain (instr.Pick number) = true
is_plain (instr.StoreSlot slot) = true
is_plain other = false
