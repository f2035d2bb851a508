-- Steps and values that leave the body that runs on top.
use Rattle.std.proofs.Common.{◌≡◌, ℕ, ◌+◌, List, [], ◌∷◌, ap, sym, arith, Bool, true, false, cond, Some, None, take, drop}
use Rattle.std.specs.Prelude.{reverse, ◌-◌, nat_lt}
use Rattle.ns_code.specs.declared.program.CodeProgram.{CodeProgram}
use Rattle.ns_world.specs.declared.value.Value.{Value}
use Rattle.ns_world.specs.World.{World, WorldView, stepped}
use Rattle.ns_moves.specs.Control.{Progress, Gives}
use Rattle.ns_moves.specs.Returns.{settled}
use Rattle.ns_moves.specs.Steps.{steps_from}
use Rattle.ns_machine_frames.specs.declared.frame.Frame.{Frame}
use Rattle.ns_machine_frames.specs.declared.frame.Frame.TheVariants.{Running, Looping}
use Rattle.ns_machine_frames.specs.declared.registers.Registers.{Registers}
use Rattle.ns_machine_frames.specs.Standing.{standing, at_next}
use Rattle.ns_machine_frames.specs.Stack.{in_use, stood}
use Rattle.ns_machine_frames.specs.View.{leaving_shown, activation_shown, frames_shown}
use Rattle.ns_machine_core.specs.declared.state.Core.{Core}
use Rattle.ns_machine_core.specs.declared.state.Next.TheVariants.{On}
use Rattle.ns_machine_core.specs.Shown.{phase_shown, shown}
use Rattle.ns_machine_core.specs.Straight.{TopRunsBody, StaysIn, StaysOnTop}
use Rattle.ns_machine_core.specs.laws.Straight.{shown_in}
use Rattle.ns_machine_core.specs.laws.Worlds.{in_other}

-- A step that fits is one more, and nothing else has changed.
pub step_is : (old new : World) → stepped old ≡ Some new → new ≡ record old { steps = old.steps + 1 }
step_is old new e = tested (nat_lt old.steps old.limits.steps) e
  where
    tested : (b : Bool) → cond b (Some (record old { steps = old.steps + 1 })) None ≡ Some new → new ≡ record old { steps = old.steps + 1 }
    tested true is = let same : (let more : World = record old { steps = old.steps + 1 } in more) ≡ new = cc in sym same
    tested false is = absurd (cc)

-- So the body that runs stays on top, with one step charged.
pub step_on_top : (core : Core) (world : WorldView) → stepped core.run.world.world ≡ Some world.world →
    StaysOnTop 1 core (in_other core world)
step_on_top core world e body runs = record {
  runs = runs;
  steps = ap (λ (w : World). w.steps) (step_is core.run.world.world world.world e);
}

-- Where a value has come to it, it stays there with the steps charged that were charged for that.
pub given_on_top : (code : CodeProgram) (charged : ℕ) (old new : Core) (at to : Registers) (value : Value) (progress : Progress)
    → progress.world.steps ≡ old.run.world.world.steps + charged
    → shown code new (On to) ≡ settled code (phase_shown old.phase) (Gives value progress) (frames_shown code old.places (stood old.stack at))
    → StaysOnTop charged old new
given_on_top code charged old new at to value progress spent e body runs = by_frames old.stack.frames.items runs e
  where
    by_frames : (frames : List Frame) → TopRunsBody body frames
        → shown code new (On to)
        ≡ settled code (phase_shown old.phase) (Gives value progress) (frames_shown code old.places (standing (at_next at.next frames) (in_use old.stack at)))
        → StaysIn body charged old new
    by_frames [] runs e = absurd runs
    by_frames (Looping frame ∷ frames) runs e = absurd runs
    by_frames (Running frame ∷ frames) runs e =
        let is = shown_in code body (old.run.world.world.steps + charged) new to (record {
          phase = phase_shown old.phase;
          leaving = leaving_shown frame.leaving frame.activation;
          activation = activation_shown old.places frame.activation;
          locals = take (frame.operands - frame.base) (drop frame.base (in_use old.stack at));
          rest = steps_from code frame.activation.body at.next;
          stack = value ∷ reverse (drop frame.operands (in_use old.stack at));
          frames = frames_shown code old.places (standing frames (take frame.floor (in_use old.stack at)));
          progress = progress;
          is = e;
          same = runs;
          none = spent;
        }) in
        record { runs = is.0; steps = is.1 }

-- One after the other, it stays there with the steps of both charged.
pub on_top_after : (first second : ℕ) (old mid new : Core) → StaysOnTop first old mid → StaysOnTop second mid new →
    StaysOnTop (first + second) old new
on_top_after first second old mid new begins goes body runs =
    let one = begins body runs in
    let other = goes body one.runs in
    let a = one.steps in
    let b = other.steps in
    record { runs = other.runs; steps = omega (arith, a, b) }
