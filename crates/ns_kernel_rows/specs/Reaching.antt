-- A call that does what an action of a run does.
use Rattle.std.specs.Prelude.{◌≡◌, ℕ, List, Result, Ok, Err}
use Rattle.ns_code.specs.declared.program.CodeProgram.{CodeProgram}
use Rattle.ns_world.specs.declared.value.Value.{Value}
use Rattle.ns_world.specs.declared.value.Value.TheVariants.{Ref}
use Rattle.ns_world.specs.declared.ending.Fault.{Fault}
use Rattle.ns_world.specs.declared.ending.Fault.TheVariants as fault
use Rattle.ns_world.specs.declared.ending.Kind.{Kind}
use Rattle.ns_world.specs.World.{WorldView}
use Rattle.ns_classes.specs.declared.apply.MakeFault.{MakeFault}
use Rattle.ns_facets.specs.declared.board.Board.{Board}
use Rattle.ns_mirror.specs.declared.row.Mirrored.{Mirrored}
use Rattle.ns_mirror.specs.declared.row.Mirrored.TheVariants as mirrored
use Rattle.ns_moves.specs.declared.site.Site.{Site}
use Rattle.ns_moves.specs.declared.control.Reached.{Reached}
use Rattle.ns_moves.specs.declared.control.Reached.TheVariants.{Gives, Fails, Performs}
use Rattle.ns_moves.specs.Site.{make_fault}
use Rattle.ns_moves.specs.Control.{Progress, Control}
use Rattle.ns_moves.specs.Shown.{reached_shown}

-- what a run has done, by its world, its board and how many method activations it has begun
abbrev pub progress_of : WorldView → Board → ℕ → Progress
progress_of view board begun = record { world = view.world; board = board; begun = begun }

-- A call comes to what an action does, with the world and the board that it leaves: at each site, and however
-- many activations were begun.
abbrev pub CallReaches : CodeProgram → List Value → (Site → Progress → Control) → WorldView → Board → Reached → WorldView → Board → Type 0
CallReaches code values action old before reached new after =
    (site : Site) (begun : ℕ) → reached_shown code site values reached (progress_of new after begun) ≡ action site (progress_of old before begun)

-- The same of a call that neither reads nor changes the board.
abbrev pub ReachesAlone : CodeProgram → List Value → (Site → Progress → Control) → WorldView → Reached → WorldView → Type 0
ReachesAlone code values action old reached new = (board : Board) → CallReaches code values action old board reached new board

-- The same for every code and whatever arguments stand there.
abbrev pub ReachesAlways : (Site → Progress → Control) → WorldView → Reached → WorldView → Type 0
ReachesAlways action old reached new = (code : CodeProgram) (values : List Value) → ReachesAlone code values action old reached new

-- a value, or a fault at the site of the send
abbrev pub answered : Result Value Fault → Reached
answered (Ok value) = Gives value
answered (Err fault) = Fails fault

-- an error at the site of the send
abbrev pub fails : Kind → Reached
fails kind = Fails (fault.Kind kind)

-- a class that was made, or the fault of its making
abbrev pub class_answered : Result ℕ MakeFault → Reached
class_answered (Ok number) = Gives (Ref number)
class_answered (Err fault) = Fails (make_fault fault)

-- a mirror's answer, the send that it asks for, or its fault
abbrev pub mirror_answered : Result Mirrored Fault → Reached
mirror_answered (Ok (mirrored.Answer value)) = Gives value
mirror_answered (Ok (mirrored.Perform receiver sel array)) = Performs receiver sel array
mirror_answered (Err fault) = Fails fault
