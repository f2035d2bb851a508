-- Jumps, which stand in code made by hand alone. One that goes to its own or an earlier instruction charges a step.
use Rattle.std.specs.Prelude.{List, ◌∷◌, length, nat_lt, Bool, true, false, if◌then◌else◌}
use Rattle.ns_world.specs.declared.value.Value.{Value}
use Rattle.ns_world.specs.declared.value.Value.TheVariants.{True, False}
use Rattle.ns_world.specs.declared.ending.LimitKind.TheVariants.{Steps}
use Rattle.ns_world.specs.declared.ending.Kind.TheVariants.{MustBeBoolean}
use Rattle.ns_world.specs.World.{stepped}
use Rattle.ns_moves.specs.Control.{Progress, Activation, charged}
use Rattle.ns_world.specs.Booleans.{is_boolean}
use Rattle.ns_moves.specs.Site.{error}
use Rattle.ns_moves.specs.Steps.{PlacedInstr}
use Rattle.ns_moves.specs.State.{Leaving, Frame, Running, Phase, State, Going, Ended}

-- whether a jump goes back: more is left from its target on than after it
abbrev pub goes_back : List PlacedInstr → List PlacedInstr → Bool
goes_back rest landing = nat_lt (length rest) (length landing)

-- a jump that is taken
abbrev pub jumped : Phase → Leaving → Activation → List Value → List PlacedInstr → List PlacedInstr → List Value → List Frame → Progress →
    State
jumped phase leaving activation locals rest landing stack frames progress =
    if goes_back rest landing
    then charged (λ ending progress.
    Ended ending phase progress) Steps (stepped progress.world) progress (Going phase (Running leaving activation locals landing stack ∷ frames))
    else Going phase (Running leaving activation locals landing stack ∷ frames) progress

-- whether a boolean takes a jump that asks for true, or for false
abbrev pub takes_jump : Bool → Value → Bool
takes_jump true True = true
takes_jump false False = true
takes_jump wanted value = false

-- a conditional jump on a value, which it takes
abbrev pub jumped_on : Phase → Bool → Value → Leaving → Activation → List Value → List PlacedInstr → List PlacedInstr → List Value →
    List Frame → Progress → State
jumped_on phase wanted value leaving activation locals rest landing stack frames progress =
    if is_boolean value
    then (if takes_jump wanted value
    then jumped phase leaving activation locals rest landing stack frames progress
    else Going phase (Running leaving activation locals rest stack ∷ frames) progress)
    else Ended (error MustBeBoolean activation.site) phase progress
