-- The sends of the frames that a machine keeps are those of the state that it shows.
use Rattle.std.proofs.Common.{◌≡◌, ℕ, List, [], ◌∷◌, map, take, refl, ap, sym, ◌∙◌}
use Rattle.ns_base.specs.declared.place.Place.{Place as SourcePlace}
use Rattle.ns_code.specs.declared.program.CodeProgram.{CodeProgram}
use Rattle.ns_world.specs.declared.value.Value.{Value}
use Rattle.ns_moves.specs.declared.site.Site.{Site}
use Rattle.ns_machine_frames.specs.declared.frame.Frame.{Frame}
use Rattle.ns_machine_frames.specs.declared.frame.Frame.TheVariants.{Running, Looping}
use Rattle.ns_machine_frames.specs.declared.frame.Pending.{Pending}
use Rattle.ns_machine_frames.specs.declared.frame.Pending.TheVariants as pending
use Rattle.ns_machine_frames.specs.declared.registers.Registers.{Registers}
use Rattle.ns_machine_frames.specs.Stack.{in_use, stood, with_top}
use Rattle.ns_machine_frames.specs.Standing.{standing, at_next}
use Rattle.ns_machine_frames.specs.View.{frames_shown, state_shown}
use Rattle.ns_machine_core.specs.declared.state.Core.{Core}
use Rattle.ns_machine_core.specs.declared.state.Next.TheVariants as next
use Rattle.ns_machine_core.specs.Shown.{phase_shown, progress_in, shown}
use Rattle.ns_machine.specs.KeptSites.{kept_site}
use Rattle.ns_machine.specs.Sites.{site_of, sites_of}

-- of frames as they stand
sites_standing : (code : CodeProgram) (places : List SourcePlace) (frames : List Frame) (values : List Value)
    → map site_of (frames_shown code places (standing frames values)) ≡ map (kept_site places) frames
sites_standing code places [] values = refl
sites_standing code places (Running frame ∷ frames) values =
    ap (λ (sites : List Site). kept_site places (Running frame) ∷ sites) (sites_standing code places frames (take frame.floor values))
sites_standing code places (Looping frame ∷ frames) values =
    ap (λ (sites : List Site). kept_site places (Looping frame) ∷ sites) (sites_standing code places frames (take frame.floor values))

-- the next instruction of the topmost doesn't change its send
sites_next : (places : List SourcePlace) (number : ℕ) (frames : List Frame) → map (kept_site places) (at_next number frames) ≡ map (kept_site places) frames
sites_next places number [] = refl
sites_next places number (Running frame ∷ frames) = refl
sites_next places number (Looping frame ∷ frames) = refl

sites_stood : (code : CodeProgram) (core : Core) (at : Registers)
    → map site_of (frames_shown code core.places (stood core.stack at)) ≡ map (kept_site core.places) core.stack.frames.items
sites_stood code core at =
    sites_standing code core.places (at_next at.next core.stack.frames.items) (in_use core.stack at)
    ∙ sites_next core.places at.next core.stack.frames.items

-- with what waits
sites_with : (code : CodeProgram) (core : Core) (at : Registers) (p : Pending)
    → sites_of (state_shown code core.places (phase_shown core.phase) p core.arguments.items core.stack at (progress_in core))
    ≡ map (kept_site core.places) core.stack.frames.items
sites_with code core at pending.Nothing = sites_stood code core at
sites_with code core at (pending.Sending receiver sel site floor) = sites_stood code core (with_top floor at)
sites_with code core at (pending.Performing receiver sel array site floor) = sites_stood code core (with_top floor at)
sites_with code core at (pending.Evaluating block site floor first) = sites_stood code core (with_top floor at)
sites_with code core at (pending.EvaluatingKept block site floor) = sites_stood code core (with_top floor at)

-- of a run that goes on
pub sites_on : (code : CodeProgram) (core : Core) (at : Registers)
    → map (kept_site core.places) core.stack.frames.items ≡ sites_of (shown code core (next.On at))
sites_on code core at = sym (sites_stood code core at)

pub sites_waiting : (code : CodeProgram) (core : Core) (at : Registers)
    → map (kept_site core.places) core.stack.frames.items ≡ sites_of (shown code core (next.Waits at))
sites_waiting code core at = sym (sites_with code core at core.waiting)
