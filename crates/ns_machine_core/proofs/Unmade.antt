-- Blocks that find no room.
use Rattle.std.proofs.Common.{◌≡◌, ℕ, ap, sym, ◌∙◌, Option, Some, None, Err}
use Rattle.ns_code.specs.declared.program.CodeProgram.{CodeProgram}
use Rattle.ns_code.specs.declared.instruction.Instr.TheVariants as instr
use Rattle.ns_world.specs.declared.ending.Ending.{Ending}
use Rattle.ns_world.specs.declared.ending.Fault.{Fault}
use Rattle.ns_world.specs.declared.ending.LimitKind.TheVariants.{Cells}
use Rattle.ns_world.specs.Cell.{BlockCell}
use Rattle.ns_world.specs.World.{World, WorldView, made}
use Rattle.ns_moves.specs.declared.site.Site.{Site}
use Rattle.ns_moves.specs.Blocks.{new_block}
use Rattle.ns_moves.specs.Control.{After, Progress, Halts, charged, in_world}
use Rattle.ns_moves.specs.Shown.{answer_shown}
use Rattle.ns_moves.specs.Room.{SameRest}
use Rattle.ns_moves.specs.Running.{activation_at}
use Rattle.ns_machine_frames.specs.declared.frame.RunningFrame.{RunningFrame}
use Rattle.ns_machine_frames.specs.declared.registers.Registers.{Registers}
use Rattle.ns_machine_frames.specs.View.{site_shown}
use Rattle.ns_machine_core.specs.declared.state.Core.{Core}
use Rattle.ns_machine_core.specs.Doing.{CanDo, running_of}
use Rattle.ns_machine_core.specs.Shown.{progress_in}
use Rattle.ns_machine_core.specs.Tried.{OnlyLookupsChanged}
use Rattle.ns_machine_core.specs.laws.Worlds.{in_other}

-- a run that ends at the limit has charged nothing
none_charged : (world : Option World) (rest : Progress) (old new : World) (ending : Ending) (go : Progress → After)
    → ((p : Progress) (e : Ending) (q : Progress) → go p ≡ Halts e q → ⊥) → Halts ending (in_world rest new) ≡ charged Halts Cells world (in_world rest old) go → new ≡ old
none_charged (Some world) rest old new ending go gives e =
    absurd (gives (in_world (in_world rest old) world) ending (in_world rest new) (sym e))
none_charged None rest old new ending go gives e = let same : in_world rest new ≡ in_world rest old = cc in ap (λ (p : Progress). p.world) same

same_view : (old new : WorldView) → new.world ≡ old.world → SameRest old new → new ≡ old
same_view old new world rest =
    ap (λ (w : World). let view : WorldView = record new { world = w } in view) world
    ∙ (ap (λ (n : ℕ). let view : WorldView = record { world = old.world; cell_room = n; out_room = new.out_room } in view) rest.room.0
    ∙ ap (λ (n : ℕ). let view : WorldView = record { world = old.world; cell_room = old.cell_room; out_room = n } in view) rest.room.1)

pub block_unmade : (code : CodeProgram) (core : Core) (world : WorldView) (at : Registers) (body : ℕ) (running : RunningFrame) (fault : Fault)
    → CanDo code core at (instr.PushBlock body)
    → ((site : Site) (rest : Progress) → answer_shown site (Err fault) (in_world rest world.world)
    ≡ new_block (activation_at site (running_of running.activation)) body (in_world rest core.run.world.world))
    → SameRest core.run.world world → OnlyLookupsChanged code core (in_other core world)
block_unmade code core world at body running fault can makes rest =
    let site = site_shown core.places running.activation.site in
    let activation = activation_at site (running_of running.activation) in
    let same = same_view core.run.world world
    (none_charged (made core.run.world.world (BlockCell body activation.env activation.home activation.self activation.holder)) (progress_in core) core.run.world.world world.world
    _ _ (λ p e q is. cc) (makes site (progress_in core))) rest in
    record { same = ap (in_other core) same; kept = can.kept }
