-- The method of the kernel that is topmost.
use Rattle.std.specs.Prelude.{◌≡◌, ◌-◌, ◌<◌, ◌≤◌, ℕ, List, [], ◌∷◌, length}
use Rattle.ns_code.specs.declared.program.CodeProgram.{CodeProgram}
use Rattle.ns_facets.specs.declared.row.Grants.{Grants}
use Rattle.ns_world.specs.declared.kernel_parts.KMethod.{KMethod}
use Rattle.ns_world.specs.declared.value.Value.TheVariants.{Ref}
use Rattle.ns_machine_frames.specs.declared.frame.Frame.{Frame}
use Rattle.ns_machine_frames.specs.declared.frame.Frame.TheVariants.{Running, Looping}
use Rattle.ns_machine_frames.specs.declared.frame.LoopingFrame.{LoopingFrame}
use Rattle.ns_machine_frames.specs.declared.registers.Registers.{Registers}
use Rattle.ns_machine_plan.specs.declared.plan.Plan.{Plan}
use Rattle.ns_machine_core.specs.declared.own.OwnSends.{OwnSends}
use Rattle.ns_machine_core.specs.declared.state.Core.{Core}
use Rattle.ns_machine_core.specs.declared.state.Next.TheVariants.{On, Waits}
use Rattle.ns_machine_core.specs.Ready.{MakesMove}
use Rattle.ns_machine_returns.specs.Acting.{IsTopmost, awaiting}
use Rattle.ns_machine_sends.specs.declared.sent.Sent.{Sent}
use Rattle.ns_machine_sends.specs.Waiting.{BlockWaits}
use Rattle.ns_machine_turns.specs.declared.acting.Acted.{Acted}
use Rattle.ns_machine_turns.specs.declared.acting.Acted.TheVariants.{Evaluates, Goes}
use Rattle.ns_machine_turns.specs.Turning.{ChargesAtMost, GoesAlong, HasGoneOnce}

-- The topmost frame is one of that method of the kernel.
abbrev pub LoopsBy : KMethod → List Frame → Type 0
LoopsBy method [] = ⊥
LoopsBy method (Running frame ∷ frames) = ⊥
LoopsBy method (Looping frame ∷ frames) = frame.method ≡ method

-- the evaluation of a block by a method of the kernel, on the values from its floor on
abbrev pub sent_by : LoopingFrame → Sent
sent_by looping = record { site = looping.site; floor = looping.floor; first = looping.floor }

-- The topmost method of the kernel waits for the block of that cell, and has a place for its value.
pub record BlockStands (code : CodeProgram) (core : Core) (at : Registers) (looping : LoopingFrame) (cell : ℕ) : Type 0 where
  pub grants : Grants
  pub top : IsTopmost looping core.stack.frames.items
  pub waits : BlockWaits code grants (awaiting looping (Ref cell) core) at (sent_by looping) (Ref cell)
  pub place : looping.floor < length core.stack.values.items

-- The topmost method of the kernel has come to wait for the block of that cell, if that were written, and a step is left.
pub record ComesToWait (code : CodeProgram) (plan : Plan) (sends : OwnSends) (left : ℕ) (old : Core) (from : Registers) (new : Core) (at : Registers)
    (cell : ℕ) : Type 0 where
  pub looping : LoopingFrame
  pub along : GoesAlong code plan sends left old (On from) (awaiting looping (Ref cell) new) (Waits at)
  pub few : new.run.world.world.steps - old.run.world.world.steps < left
  pub one : ChargesAtMost 1 old new
  pub top : IsTopmost looping new.stack.frames.items
  pub place : looping.floor < length new.stack.values.items

-- By its next action the topmost method of the kernel comes to wait for the block of that cell, if that were written, and two steps were left.
pub record WaitsFor (code : CodeProgram) (left : ℕ) (old : Core) (from : Registers) (new : Core) (at : Registers) (cell : ℕ) : Type 0 where
  pub looping : LoopingFrame
  pub moves : MakesMove code old (On from) (awaiting looping (Ref cell) new) (Waits at)
  pub some : 2 ≤ left
  pub top : IsTopmost looping new.stack.frames.items
  pub place : looping.floor < length new.stack.values.items

-- That action is its move: it comes to wait so, or the move leads there.
abbrev pub ActsTo : CodeProgram → ℕ → Core → Registers → Core → Acted → Type 0
ActsTo code left old from new (Evaluates next top base cell) =
    WaitsFor code left old from new (record { next = next; top = top; base = base }) cell
ActsTo code left old from new (Goes next) = MakesMove code old (On from) new next

-- It has come to that by its next action, or moves have led on; and one step was charged at most.
abbrev pub HasActed : CodeProgram → Plan → OwnSends → ℕ → Core → Registers → Core → Acted → Type 0
HasActed code plan sends left old from new (Evaluates next top base cell) =
    ComesToWait code plan sends left old from new (record { next = next; top = top; base = base }) cell
HasActed code plan sends left old from new (Goes next) = HasGoneOnce code plan sends left old (On from) new next
