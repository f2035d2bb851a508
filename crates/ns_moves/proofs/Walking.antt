-- What holds of where operands lead, and what a state has done by then.
use Rattle.std.proofs.Common.{◌≡◌, List, [], ◌∷◌, refl}
use Rattle.ns_code.specs.declared.program.CodeProgram.{CodeProgram}
use Rattle.ns_world.specs.declared.value.Value.{Value}
use Rattle.ns_world.specs.declared.kernel_parts.KMethod.{KMethod}
use Rattle.ns_moves.specs.declared.site.Site.{Site}
use Rattle.ns_moves.specs.Control.{Progress, After, Gives, Halts, Control, Now, Enter, Evaluate, Begin, Perform, PartControl, Skip, Stop, EnterPart, Waiting}
use Rattle.ns_moves.specs.Control.{Waits, Finishes}
use Rattle.ns_moves.specs.Onward.{reached, after_reached, part_reached, waiting_reached}
use Rattle.ns_moves.specs.State.{Frame, Running, Looping, Phase, Start, First, Second, Hosted, progress_of}
use Rattle.ns_moves.specs.Returns.{concluded, delivered, settled}
use Rattle.ns_moves.specs.Arrivals.{arrived, part_arrived, acted_on}

-- ---- what a state has done that an action leads to

concluded_at : (code : CodeProgram) (phase : Phase) (answer : Value) (p : Progress) → progress_of (concluded code phase answer p) ≡ p
concluded_at code Start answer p = refl
concluded_at code (First arguments) answer p = refl
concluded_at code Second answer p = refl
concluded_at code Hosted answer p = refl

pub delivered_at : (code : CodeProgram) (phase : Phase) (answer : Value) (frames : List Frame) (p : Progress)
    → progress_of (delivered code phase answer frames p) ≡ p
delivered_at code phase answer [] p = concluded_at code phase answer p
delivered_at code phase answer (Running leaving a ls rest stack ∷ frames) p = refl
delivered_at code phase answer (Looping method state site ∷ frames) p = refl

pub settled_at : (code : CodeProgram) (phase : Phase) (after : After) (frames : List Frame)
    → progress_of (settled code phase after frames) ≡ after_reached after
settled_at code phase (Gives answer p) frames = delivered_at code phase answer frames p
settled_at code phase (Halts ending p) frames = refl

pub arrived_at : (code : CodeProgram) (phase : Phase) (c : Control) (frames : List Frame) →
    progress_of (arrived code phase c frames) ≡ reached c
arrived_at code phase (Now after) frames = settled_at code phase after frames
arrived_at code phase (Enter exit a ls p) frames = refl
arrived_at code phase (Evaluate block arguments site p) frames = refl
arrived_at code phase (Begin method state site p) frames = refl
arrived_at code phase (Perform receiver sel array site p) frames = refl

pub part_arrived_at : (code : CodeProgram) (phase : Phase) (part : PartControl) (frames : List Frame)
    → progress_of (part_arrived code phase part frames) ≡ part_reached part
part_arrived_at code phase (Skip p) frames = refl
part_arrived_at code phase (Stop ending p) frames = refl
part_arrived_at code phase (EnterPart a ls p) frames = refl

pub acted_at : (code : CodeProgram) (phase : Phase) (method : KMethod) (site : Site) (w : Waiting) (frames : List Frame)
    → progress_of (acted_on code phase method site w frames) ≡ waiting_reached w
acted_at code phase method site (Waits block arguments state p) frames = refl
acted_at code phase method site (Finishes after) frames = settled_at code phase after frames
