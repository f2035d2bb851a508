-- What a machine's form of an action's end stands for, by the site of the send and its arguments.
use Rattle.std.specs.Prelude.{ℕ, List, [], ◌∷◌, if◌then◌else◌, Result, Ok, Err}
use Rattle.ns_code.specs.declared.program.CodeProgram.{CodeProgram}
use Rattle.ns_world.specs.declared.value.Value.{Value}
use Rattle.ns_world.specs.declared.value.Value.TheVariants.{Ref}
use Rattle.ns_world.specs.declared.ending.Fault.{Fault}
use Rattle.ns_world.specs.declared.ending.Kind.TheVariants.{NotUnderstood}
use Rattle.ns_world.specs.Heap.{Heap, cell_number}
use Rattle.ns_kdata.specs.Arguments.{items_of}
use Rattle.ns_moves.specs.declared.site.Site.{Site}
use Rattle.ns_moves.specs.declared.control.Given.{Given}
use Rattle.ns_moves.specs.declared.control.Given.TheVariants as given
use Rattle.ns_moves.specs.declared.control.Exit.{Exit as ExitKind}
use Rattle.ns_moves.specs.declared.control.Exit.TheVariants as exit
use Rattle.ns_moves.specs.declared.control.Entered.{Entered}
use Rattle.ns_moves.specs.declared.control.Reached.{Reached}
use Rattle.ns_moves.specs.declared.control.Reached.TheVariants as reached
use Rattle.ns_moves.specs.declared.control.PartReached.{PartReached}
use Rattle.ns_moves.specs.declared.control.PartReached.TheVariants as part
use Rattle.ns_moves.specs.Site.{error, fault_ending, site_of_message}
use Rattle.ns_moves.specs.Control.{Progress, Activation, Exit, FromMethod, FromBody, FromClause, After, Gives, Halts, Control, Enter, Evaluate}
use Rattle.ns_moves.specs.Control.{Begin, Perform, PartControl, Skip, Stop, EnterPart, gives, halts}
use Rattle.ns_moves.specs.Bodies.{has_environment, first_locals}

-- the arguments that go on
abbrev pub given_values : Heap → List Value → Given → List Value
given_values heap values given.Listed = values
given_values heap values (given.Message at) = Ref at ∷ []
given_values heap values (given.Items at) = items_of heap (Ref at)

-- what the value of a body is for; a clause's object and holder are its own self and holder
abbrev pub exit_shown : ExitKind → Value → ℕ → Exit
exit_shown exit.Method self holder = FromMethod
exit_shown exit.Body self holder = FromBody
exit_shown (exit.Clause class) self holder = FromClause (cell_number self) holder class

-- the activation of a body that begins
abbrev pub activation_shown : Site → Entered → Activation
activation_shown site entered =
    record { self = entered.me; holder = entered.holder; body = entered.body; home = entered.home; env = entered.env; site = site }

-- the locals that stand beside it: none where its body has an environment
abbrev pub locals_shown : CodeProgram → Heap → List Value → Entered → List Value
locals_shown code heap values entered =
    if has_environment code entered.body then [] else first_locals code entered.body (given_values heap values entered.given)

-- the arguments of a send that a body may have: none in a clause
abbrev pub passed : ExitKind → List Value → List Value
passed (exit.Clause class) values = []
passed exit.Method values = values
passed exit.Body values = values

-- where control goes
abbrev pub reached_shown : CodeProgram → Site → List Value → Reached → Progress → Control
reached_shown code site values (reached.Gives value) progress = gives value progress
reached_shown code site values (reached.Fails fault) progress = halts (fault_ending fault site) progress
reached_shown code site values (reached.Refused sel) progress = halts (error NotUnderstood (site_of_message site sel)) progress
reached_shown code site values (reached.Enters exit entered) progress =
    Enter (exit_shown exit entered.me entered.holder) (activation_shown site entered)
    (locals_shown code progress.world.cells (passed exit values) entered) progress
reached_shown code site values (reached.Evaluates block given) progress =
    Evaluate block (given_values progress.world.cells values given) site progress
reached_shown code site values (reached.Begins method state) progress = Begin method state site progress
reached_shown code site values (reached.Performs receiver sel array) progress = Perform receiver sel array site progress

-- where a superclass part goes
abbrev pub part_shown : CodeProgram → Site → List Value → PartReached → Progress → PartControl
part_shown code site values part.Skips progress = Skip progress
part_shown code site values (part.Fails fault) progress = Stop (fault_ending fault site) progress
part_shown code site values (part.Enters entered) progress =
    EnterPart (activation_shown site entered) (locals_shown code progress.world.cells values entered) progress

-- a value, or the end of the run
abbrev pub answer_shown : Site → Result Value Fault → Progress → After
answer_shown site (Ok value) progress = Gives value progress
answer_shown site (Err fault) progress = Halts (fault_ending fault site) progress
