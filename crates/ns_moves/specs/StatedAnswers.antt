-- What calls say of the actions that they are: at each site, and whatever else the run has done, a call comes to what
-- the action comes to by definition, in the machine's form of it and with the world that is left.
use Rattle.std.specs.Prelude.{◌≡◌, List, Option, Result}
use Rattle.ns_base.specs.declared.place.Place.{Place}
use Rattle.ns_base.specs.declared.selector.Sel.{Sel}
use Rattle.ns_code.specs.declared.program.CodeProgram.{CodeProgram}
use Rattle.ns_world.specs.declared.value.Value.{Value}
use Rattle.ns_world.specs.declared.ending.Fault.{Fault}
use Rattle.ns_world.specs.declared.ending.LimitKind.TheVariants.{Steps, Depth}
use Rattle.ns_world.specs.Heap.{Heap}
use Rattle.ns_world.specs.World.{WorldView, stepped, entered}
use Rattle.ns_find.specs.declared.found.Sending.TheVariants.{Plain}
use Rattle.ns_moves.specs.declared.site.Site.{Site}
use Rattle.ns_moves.specs.declared.control.Exit.{Exit}
use Rattle.ns_moves.specs.declared.control.Reached.{Reached}
use Rattle.ns_moves.specs.declared.control.PartReached.{PartReached}
use Rattle.ns_moves.specs.Bodies.{opened}
use Rattle.ns_moves.specs.Control.{Progress, in_world, Activation, After, Control, Enter, PartControl, Stop, EnterPart, FromMethod, Waiting, halts, charged}
use Rattle.ns_moves.specs.Sends.{Target, To, Wrapped, given, receiver_of, site_at, sent, sent_plain}
use Rattle.ns_moves.specs.Shown.{reached_shown, part_shown, answer_shown, exit_shown}
use Rattle.ns_moves.specs.declared.methods.Waited.{Waited}
use Rattle.ns_moves.specs.declared.run.Run.{Run}
use Rattle.ns_moves.specs.declared.running.Running.{Running}
use Rattle.ns_moves.specs.declared.sends.Answered.{Answered}
use Rattle.ns_moves.specs.Answered.{answered_shown, answered}
use Rattle.ns_moves.specs.Run.{progress_of}
use Rattle.ns_moves.specs.Running.{activation_at}
use Rattle.ns_moves.specs.Waited.{waiting_shown}

-- ---- where control goes, by the world alone

-- Control goes where the action leads with these arguments of the send.
abbrev pub ReachesAs : CodeProgram → List Value → Reached → WorldView → WorldView → (Site → Progress → Control) → Type 0
ReachesAs code values result old new action =
    (site : Site) (rest : Progress) → reached_shown code site values result (in_world rest new.world) ≡ action site (in_world rest old.world)

-- So it does whatever the arguments of the send were.
abbrev pub ReachesAnyhow : CodeProgram → Reached → WorldView → WorldView → (Site → Progress → Control) → Type 0
ReachesAnyhow code result old new action =
    (site : Site) (rest : Progress) (values : List Value)
    → reached_shown code site values result (in_world rest new.world) ≡ action site (in_world rest old.world)

-- So it does where the arguments of the send, as they go on, are these in every heap.
abbrev pub ReachesGiven : CodeProgram → (Heap → List Value → List Value) → List Value → Reached → WorldView → WorldView →
    (Site → Progress → Control) → Type 0
ReachesGiven code onward arguments result old new action =
    (site : Site) (rest : Progress) (values : List Value) → ((heap : Heap) → onward heap values ≡ arguments)
    → reached_shown code site values result (in_world rest new.world) ≡ action site (in_world rest old.world)

-- A superclass part goes where the action leads.
abbrev pub PartReachesAs : CodeProgram → List Value → PartReached → WorldView → WorldView → (Site → Progress → PartControl) → Type 0
PartReachesAs code values result old new action =
    (site : Site) (rest : Progress) → part_shown code site values result (in_world rest new.world) ≡ action site (in_world rest old.world)

-- The value, or the end of the run, is that of the action.
abbrev pub AnswersAs : Result Value Fault → WorldView → WorldView → (Site → Progress → After) → Type 0
AnswersAs result old new action =
    (site : Site) (rest : Progress) → answer_shown site result (in_world rest new.world) ≡ action site (in_world rest old.world)

-- A method of the kernel waits or ends as the action does.
abbrev pub WaitsAs : Waited → WorldView → WorldView → (Site → Progress → Waiting) → Type 0
WaitsAs result old new action =
    (site : Site) (rest : Progress) → waiting_shown site result (in_world rest new.world) ≡ action site (in_world rest old.world)

-- ---- where control goes in a run

-- Control goes where the action leads.
abbrev pub RunReachesAs : CodeProgram → List Value → Reached → Run → Run → (Site → Progress → Control) → Type 0
RunReachesAs code values result old new action =
    (site : Site) → reached_shown code site values result (progress_of new) ≡ action site (progress_of old)

-- A send comes to what the action comes to, once its row is asked where that is still to answer.
abbrev pub RunAnswersAs : CodeProgram → Sel → Value → List Value → Answered → Run → Run → (Site → Progress → Control) → Type 0
RunAnswersAs code sel receiver values result old new action =
    (site : Site) → answered_shown code sel receiver site values result (progress_of new) ≡ action site (progress_of old)

-- ---- how running code begins

-- its body, when its frame is charged
abbrev pub body_opened : CodeProgram → Exit → Running → List Value → Site → Progress → Control
body_opened code exit running arguments site =
    opened code halts (Enter (exit_shown exit running.me running.holder)) (activation_at site running) arguments

-- its frame, and then its body
abbrev pub body_entered : CodeProgram → Exit → Running → List Value → Site → Progress → Control
body_entered code exit running arguments site progress =
    charged halts Depth (entered progress.world) progress (body_opened code exit running arguments site)

-- an initialiser of a superclass, when its frame is charged
abbrev pub part_opened : CodeProgram → Running → List Value → Site → Progress → PartControl
part_opened code running arguments site = opened code Stop EnterPart (activation_at site running) arguments

-- its frame, and then the initialiser
abbrev pub part_entered : CodeProgram → Running → List Value → Site → Progress → PartControl
part_entered code running arguments site progress =
    charged Stop Depth (entered progress.world) progress (part_opened code running arguments site)

-- a method with the Message of a send, when its frame is charged
abbrev pub opened_with_message : CodeProgram → Running → Sel → List Value → Site → Progress → Control
opened_with_message code running sel values site progress =
    given (Wrapped sel values) progress (opened code halts (Enter FromMethod) (activation_at site running))

-- its frame, and then the method with the Message
abbrev pub entered_with_message : CodeProgram → Running → Sel → List Value → Site → Progress → Control
entered_with_message code running sel values site progress =
    charged halts Depth (entered progress.world) progress (opened_with_message code running sel values site)

-- ---- what a send is

-- A send of running code charges its step, and is then what its target finds answers.
abbrev pub SentIsItsAnswer : CodeProgram → Type 0
SentIsItsAnswer code =
    (activation : Activation) (target : Target) (sel : Sel) (values : List Value) (place : Option Place) (progress : Progress)
    → sent code activation target sel values place progress ≡ charged halts Steps (stepped progress.world) progress
    (answered code activation target sel values (site_at progress.world.cells place (receiver_of progress.world.cells activation target) sel))

-- So is a send that no code makes, of whatever code.
abbrev pub PlainIsItsAnswer : CodeProgram → Type 0
PlainIsItsAnswer code =
    (activation : Activation) (receiver : Value) (sel : Sel) (values : List Value) (place : Option Place) (progress : Progress)
    → sent_plain code receiver sel values place progress ≡ charged halts Steps (stepped progress.world) progress
    (answered code activation (To receiver Plain) sel values (site_at progress.world.cells place receiver sel))
