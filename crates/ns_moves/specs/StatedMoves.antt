-- What is said of moves, turns, returns and operands by the laws about them.
use Rattle.std.specs.Prelude.{◌≡◌, ℕ, ◌+◌, ◌<◌, ◌≤◌, nat_le, true, List, ◌∷◌, ◌++◌, length, take, drop, reverse, slice_set, Option}
use Rattle.ns_base.specs.declared.place.Place.{Place as SourcePlace}
use Rattle.ns_base.specs.declared.selector.Sel.{Sel}
use Rattle.ns_code.specs.declared.program.CodeProgram.{CodeProgram}
use Rattle.ns_world.specs.declared.value.Value.{Value}
use Rattle.ns_world.specs.declared.value.Value.TheVariants.{Ref}
use Rattle.ns_kdata.specs.Arguments.{items_of}
use Rattle.ns_moves.specs.declared.site.Site.{Site}
use Rattle.ns_moves.specs.Control.{Progress}
use Rattle.ns_moves.specs.Sends.{site_at, sent_plain, performed}
use Rattle.ns_moves.specs.Steps.{PlacedInstr}
use Rattle.ns_moves.specs.State.{Frame, Phase, State}
use Rattle.ns_moves.specs.Operands.{taken_off}
use Rattle.ns_moves.specs.Returns.{has_home, unwound}
use Rattle.ns_moves.specs.Homes.{Landed, LandedBelow}
use Rattle.ns_moves.specs.Jumps.{goes_back}
use Rattle.ns_moves.specs.Move.{moves, sent_on}
use Rattle.ns_moves.specs.Turn.{is_still, charged_in, Turns}
use Rattle.ns_moves.specs.ValidFrames.{homes_fall}

-- ---- moves and turns

-- So many moves and then so many are all these moves, and they charge what these charge.
abbrev pub MovesAdd : CodeProgram → State → Type 0
MovesAdd code state = (first second : ℕ) → moves code (first + second) state ≡ moves code second (moves code first state)

-- All these moves charge what the first ones and what the others charge.
abbrev pub ChargesAdd : CodeProgram → State → Type 0
ChargesAdd code state =
    (first second : ℕ) → charged_in code (first + second) state ≡ charged_in code first state + charged_in code second (moves code first state)

-- A run that has begun nothing or has ended stays as it is.
abbrev pub StaysStill : CodeProgram → State → Type 0
StaysStill code state = (count : ℕ) → is_still state ≡ true → moves code count state ≡ state

-- A turn and then another are one turn of all their steps.
abbrev pub TurnsAdd : CodeProgram → Type 0
TurnsAdd code =
    (a b : ℕ) (first second third : State) → Turns code a first second → Turns code b second third → Turns code (a + b) first third

-- There is only one state that a turn can leave.
abbrev pub TurnsLeaveOne : CodeProgram → Type 0
TurnsLeaveOne code =
    (steps : ℕ) (first second third : State) → Turns code steps first second → Turns code steps first third → second ≡ third

-- ---- sends that wait

-- A send that waited with the site that its place, receiver and selector give is the send itself.
abbrev pub SendsOn : CodeProgram → Progress → Type 0
SendsOn code progress =
    (receiver : Value) (sel : Sel) (arguments : List Value) (place : Option SourcePlace)
    → sent_on code receiver sel arguments (site_at progress.world.cells place receiver sel) progress ≡ sent_plain code receiver sel arguments place progress

-- So is the send of `perform:with:`, with the elements of its array.
abbrev pub PerformsOn : CodeProgram → Progress → Type 0
PerformsOn code progress =
    (receiver : Value) (sel : Sel) (array : ℕ) (site : Site)
    → sent_on code receiver sel (items_of progress.world.cells (Ref array)) (site_at progress.world.cells site.place receiver sel) progress
    ≡ performed code receiver sel array site progress

-- ---- returns, operands and jumps

-- A return from a home that is there is delivered to what stands below it.
abbrev pub ReturnsLand : CodeProgram → Phase → Type 0
ReturnsLand code phase =
    (home : ℕ) (value : Value) (frames : List Frame) (progress : Progress) → has_home home frames ≡ true
    → Landed code phase value (unwound code phase home value frames progress)

-- Where the homes of methods fall from below a number on, each home that is there is below it.
abbrev pub HomesAreBelow : ℕ → Type 0
HomesAreBelow bound = (home : ℕ) (frames : List Frame) → homes_fall bound frames ≡ true → has_home home frames ≡ true → home < bound

-- There a return leaves no frame of that home or a later one.
abbrev pub ReturnsLandBelow : CodeProgram → Phase → Type 0
ReturnsLandBelow code phase =
    (bound home : ℕ) (value : Value) (frames : List Frame) (progress : Progress) → homes_fall bound frames ≡ true → has_home home frames ≡ true
    → LandedBelow code phase home value (unwound code phase home value frames progress)

-- Where there are as many operands, they are taken, the deepest first.
abbrev pub OperandsAreTaken : State → Type 0
OperandsAreTaken missing =
    (count : ℕ) (values stack : List Value) (go : List Value → List Value → State) → count ≤ length stack
    → taken_off missing count values stack go ≡ go (reverse (take count stack) ++ values) (drop count stack)

-- A jump within a body goes back exactly where its target isn't behind it.
abbrev pub GoesBackTo : List PlacedInstr → Type 0
GoesBackTo steps =
    (k target : ℕ) → k < length steps → target < length steps → goes_back (drop (k + 1) steps) (drop target steps) ≡ nat_le target k

-- ---- one list of values

-- A value that is written at the top is the topmost operand.
abbrev pub IsPushed : List Value → Value → Type 0
IsPushed values value =
    (start top : ℕ) → start ≤ length (take top values) → top < length values
    → reverse (drop start (take (top + 1) (slice_set values top value))) ≡ value ∷ reverse (drop start (take top values))

-- What lies below a place is as it was.
abbrev pub StaysBelow : List Value → Value → Type 0
StaysBelow values value = (floor at : ℕ) → floor ≤ at → take floor (slice_set values at value) ≡ take floor values
