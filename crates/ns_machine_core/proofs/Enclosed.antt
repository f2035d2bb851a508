-- Enclosing objects that are pushed.
use Rattle.std.proofs.Common.{◌≡◌, ℕ, List, ◌∷◌, ap, sym, ◌∙◌, refl, Option, Some, None, slice_get}
use Rattle.std.specs.Prelude.{IsSome}
use Rattle.ns_base.specs.declared.place.Place.{Place as SourcePlace}
use Rattle.ns_code.specs.declared.program.CodeProgram.{CodeProgram}
use Rattle.ns_code.specs.declared.body.BodyCode.{BodyCode}
use Rattle.ns_code.specs.declared.instruction.Instr.{Instr}
use Rattle.ns_code.specs.declared.instruction.Instr.TheVariants as instr
use Rattle.ns_world.specs.declared.value.Value.{Value}
use Rattle.ns_world.specs.Lawful.{IsLawful}
use Rattle.ns_moves.specs.declared.site.Site.{Site}
use Rattle.ns_moves.specs.Bodies.{enclosing}
use Rattle.ns_moves.specs.Lawful.{declaration_at}
use Rattle.ns_moves.specs.State.{Going}
use Rattle.ns_moves.specs.laws.Levels.{level_there}
use Rattle.ns_moves.specs.Running.{activation_at}
use Rattle.ns_machine_frames.specs.declared.frame.Frame.TheVariants.{Running}
use Rattle.ns_machine_frames.specs.declared.frame.RunningFrame.{RunningFrame}
use Rattle.ns_machine_frames.specs.declared.registers.Registers.{Registers}
use Rattle.ns_machine_frames.specs.Standing.{Stood, Runs, below, locals_in, operands_in}
use Rattle.ns_machine_frames.specs.Stack.{stood}
use Rattle.ns_machine_frames.specs.View.{frames_shown, site_shown}
use Rattle.ns_machine_core.specs.declared.state.Core.{Core}
use Rattle.ns_machine_core.specs.declared.state.Next.TheVariants as next
use Rattle.ns_machine_core.specs.Shown.{phase_shown, progress_in}
use Rattle.ns_machine_core.specs.Doing.{done, FindsWhatItTakes, CanDo, running_of, Pushed, IsDone}
use Rattle.ns_machine_core.specs.laws.Pushed.{top_stands}
use Rattle.ns_machine_core.proofs.Pushed.{push_does}
use Rattle.ns_machine_core.specs.laws.Finds.{finds_in}

-- the world is lawful, and the level has a declaration
pub lawful_there : (code : CodeProgram) (core : Core) (at : Registers) (instr : Instr) (running : RunningFrame) → CanDo code core at instr
    → core.stack.frames.items ≡ Running running ∷ below core.stack.frames.items → IsLawful core.run.world.world code
lawful_there code core at instr running can top = (finds_in code core at instr running can top).lawful

pub declared_there : (code : CodeProgram) (core : Core) (at : Registers) (level : ℕ) (running : RunningFrame) →
    CanDo code core at (instr.PushOuter level)
    → core.stack.frames.items ≡ Running running ∷ below core.stack.frames.items → IsSome (declaration_at code (running_of running.activation).body level)
declared_there code core at level running can top = by_body (slice_get code.bodies running.activation.body) refl finds.fits.there
  where
    finds : FindsWhatItTakes code core.places (instr.PushOuter level) (record running { next = at.next }) (locals_in (stood core.stack at)) (operands_in (stood core.stack at))
        (progress_in core)
    finds = finds_in code core at (instr.PushOuter level) running can top

    by_body : (o : Option BodyCode) → slice_get code.bodies running.activation.body ≡ o → IsSome o → IsSome (declaration_at code running.activation.body level)
    by_body (Some body) e some = let has = finds.uses body e in level_there code running.activation.body level has.0 body e has.1
    by_body None e some = absurd (cc)

pub outer_pushed : (code : CodeProgram) (old new : Core) (at to : Registers) (level : ℕ) (running : RunningFrame) (object : Value) (place : Option SourcePlace)
    → CanDo code old at (instr.PushOuter level) → old.stack.frames.items ≡ Running running ∷ below old.stack.frames.items
    → ((site : Site) → object ≡ (enclosing old.run.world.world.cells (activation_at site (running_of running.activation)) level).object)
    → Pushed code old at object new to → IsDone code (instr.PushOuter level) place old at new (next.On to)
outer_pushed code old new at to level running object place can top is pushed =
    push_does code old new at to (instr.PushOuter level) place object can pushed by_stood
  where
    by_stood : (frame : RunningFrame) (locals stack : List Value) (others : List Stood) → Runs frame locals stack ∷ others ≡ stood old.stack at
        → Going (phase_shown old.phase) (frames_shown code old.places (Runs frame locals (object ∷ stack) ∷ others)) (progress_in old)
        ≡ done code old.places (phase_shown old.phase) (instr.PushOuter level) place (Runs frame locals stack ∷ others) (progress_in old)
    by_stood frame locals stack others e =
        let same = top_stands old at running frame locals stack others top e in
        ap (λ (v : Value). Going (phase_shown old.phase) (frames_shown code old.places (Runs frame locals (v ∷ stack) ∷ others)) (progress_in old))
        (is (site_shown old.places running.activation.site)
        ∙ ap (λ (f : RunningFrame). (enclosing old.run.world.world.cells
        (activation_at (site_shown old.places f.activation.site) (running_of f.activation)) level).object) (sym same))
