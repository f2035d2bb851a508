-- Where states are alike from the roots of a send on: with plain arguments, without a Board, and after an earlier send.
use Rattle.std.specs.Prelude.{◌≡◌, ℕ, List, [], ◌∷◌, Contains, IsTrue, false}
use Rattle.ns_code.specs.declared.program.CodeProgram.{CodeProgram}
use Rattle.ns_facets.specs.declared.row.Grants.{Grants}
use Rattle.ns_world.specs.declared.value.Value.{Value}
use Rattle.ns_world.specs.declared.cell.FacetKind.TheVariants.{Board}
use Rattle.ns_world.specs.Reach.{IsInReach, all_referred}
use Rattle.ns_world.specs.Alike.{Renaming, AlikeValues, Alike}
use Rattle.ns_moves.specs.Suiting.{is_reference}
use Rattle.ns_moves.specs.State.{State, is_idle, world_of}
use Rattle.ns_moves.specs.Valid.{Valid}
use Rattle.ns_machine_reach.specs.Reached.{LacksFacet}
use Rattle.ns_machine_alike.specs.Isolated.{StatesAlike}

-- ---- plain arguments

-- No value is a reference: each is nil, a boolean, an integer, a symbol or a class of the kernel.
abbrev pub ArePlain : List Value → Type 0
ArePlain [] = Unit {0}
ArePlain (value ∷ values) = (is_reference value ≡ false) × ArePlain values

-- States that are alike from a receiver on are so from it and plain arguments on.
abbrev pub PlainArgumentsAddNothing : Type 0
PlainArgumentsAddNothing =
    (pairs : Renaming) (receiver other : Value) (arguments : List Value) (first second : State) → ArePlain arguments
    → StatesAlike pairs (receiver ∷ []) (other ∷ []) first second
    → StatesAlike pairs (receiver ∷ arguments) (other ∷ arguments) first second

-- ---- the board

-- Where no Board is reached, the boards may be any: it is enough that the worlds are alike.
abbrev pub UnreachedBoardsMayDiffer : Type 0
UnreachedBoardsMayDiffer =
    (pairs : Renaming) (firsts seconds : List Value) (first second : State) → LacksFacet Board (world_of first).cells (all_referred firsts)
    → Alike pairs (world_of first) (world_of second) firsts seconds → StatesAlike pairs firsts seconds first second

-- ---- one send after another

-- Idle states that are alike from some roots on are so from what these roots reach: so a host goes on with what it was answered.
abbrev pub ReachedValuesAreAlike : CodeProgram → Grants → Grants → Type 0
ReachedValuesAreAlike code grants grants' =
    (pairs : Renaming) (firsts seconds values others : List Value) (first second : State)
    → Valid code grants first → Valid code grants' second → IsTrue (is_idle first) → IsTrue (is_idle second)
    → StatesAlike pairs firsts seconds first second → AlikeValues pairs values others
    → ((number : ℕ) → Contains (all_referred values) number → IsInReach (world_of first).cells (all_referred firsts) number)
    → StatesAlike pairs values others first second
