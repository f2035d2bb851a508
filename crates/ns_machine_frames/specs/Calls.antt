-- The bodies that an action reaches, as they are entered.
use Rattle.std.specs.Prelude.{◌≡◌, ℕ, ◌+◌, ◌-◌, ◌<◌, ◌≤◌, List, [], ◌∷◌, ◌++◌, length, drop, replicate, false, if◌then◌else◌}
use Rattle.ns_world.specs.declared.value.Value.{Value}
use Rattle.ns_world.specs.declared.value.Value.TheVariants.{Nil, Ref}
use Rattle.ns_moves.specs.declared.control.Given.{Given}
use Rattle.ns_moves.specs.declared.control.Given.TheVariants.{Listed, Message, Items}
use Rattle.ns_moves.specs.declared.control.Exit.{Exit}
use Rattle.ns_moves.specs.declared.control.Exit.TheVariants as exit
use Rattle.ns_moves.specs.declared.control.Entered.{Entered}
use Rattle.ns_machine_frames.specs.declared.frame.KeptSite.{KeptSite}
use Rattle.ns_machine_frames.specs.declared.frame.Leaving.{Leaving}
use Rattle.ns_machine_frames.specs.declared.frame.Leaving.TheVariants as leaving
use Rattle.ns_machine_frames.specs.declared.frame.Activation.{Activation}
use Rattle.ns_machine_frames.specs.declared.frame.Layout.{Layout}
use Rattle.ns_machine_frames.specs.declared.frame.RunningFrame.{RunningFrame}
use Rattle.ns_machine_frames.specs.declared.calls.BodyShape.{BodyShape}
use Rattle.ns_machine_frames.specs.declared.calls.Call.{Call}
use Rattle.ns_machine_frames.specs.declared.registers.Registers.{Registers}
use Rattle.ns_machine_frames.specs.declared.stack.Stack.{Stack}
use Rattle.ns_machine_frames.specs.Stack.{in_use, entered_frame}

-- what the end of a body does, by what its value is for
abbrev pub leaving_of : Exit → Leaving
leaving_of exit.Method = leaving.Method
leaving_of exit.Body = leaving.Body
leaving_of (exit.Clause class) = leaving.Clause class

-- the activation of a body that begins
abbrev pub activation_of : Entered → KeptSite → Activation
activation_of entered site = record {
  me = entered.me;
  holder = entered.holder;
  body = entered.body;
  home = entered.home;
  env = entered.env;
  site = site;
}

-- the arguments with which it begins: those that stand there, or a Message in their place
abbrev pub arguments_for : List Value → Given → List Value
arguments_for values Listed = values
arguments_for values (Message at) = Ref at ∷ []
arguments_for values (Items at) = values

-- how many these are, of so many that stand there
abbrev pub count_for : ℕ → Given → ℕ
count_for count Listed = count
count_for count (Message at) = 1
count_for count (Items at) = count

-- the nils behind them
abbrev pub nils : BodyShape → List Value
nils shape = replicate (shape.locals - shape.params) Nil

-- its locals: none beside it where they stand in its environment, else the arguments, and nils
abbrev pub begun_locals : BodyShape → Given → List Value → List Value
begun_locals shape given values = if shape.environment then [] else arguments_for values given ++ nils shape

-- the arguments of a call that stand there, and the locals of a body that begins on them
abbrev pub arguments_of : Call → Stack → Registers → List Value
arguments_of call stack at = drop call.first (in_use stack at)

abbrev pub locals_of : Call → BodyShape → Stack → Registers → List Value
locals_of call shape stack at = arguments_of call stack at ++ nils shape

abbrev pub locals_for : BodyShape → Call → Given → Stack → Registers → List Value
locals_for shape call given stack at = begun_locals shape given (arguments_of call stack at)

-- where its frame stands: without locals, and with locals from a place on
abbrev pub bare_layout : ℕ → ℕ → Layout
bare_layout floor height = record { floor = floor; base = floor; locals = 0; height = height }

abbrev pub layout_from : ℕ → ℕ → BodyShape → Layout
layout_from floor first shape = record { floor = floor; base = first; locals = shape.locals; height = shape.height }

-- where its locals begin
abbrev pub base_for : Call → Given → ℕ
base_for call Listed = call.first
base_for call (Message at) = call.floor
base_for call (Items at) = call.first

-- its frame
abbrev pub layout_for : BodyShape → Call → Given → Layout
layout_for shape call given =
    if shape.environment then bare_layout call.floor shape.height else layout_from call.floor (base_for call given) shape

abbrev pub frame_for : BodyShape → Call → Entered → RunningFrame
frame_for shape call entered = entered_frame call.leaving (activation_of entered call.site) (layout_for shape call entered.given)

abbrev pub bare_frame : Call → Activation → ℕ → RunningFrame
bare_frame call activation height = entered_frame call.leaving activation (bare_layout call.floor height)

abbrev pub frame_from : ℕ → Call → Activation → BodyShape → RunningFrame
frame_from first call activation shape = entered_frame call.leaving activation (layout_from call.floor first shape)

-- there is a place for what comes in place of arguments
abbrev pub HasPlaceFor : Given → ℕ → ℕ → Type 0
HasPlaceFor Listed floor filled = Unit {0}
HasPlaceFor (Message at) floor filled = floor < filled
HasPlaceFor (Items at) floor filled = Unit {0}

-- The arguments end at a top, behind the caller's values; they are as many as the body asks for where they stand beside it, and
-- there is room for its locals and operands.
pub record FitsCall (shape : BodyShape) (call : Call) (given : Given) (stack : Stack) (at : Registers) : Type 0 where
  pub floor : call.floor ≤ call.first
  pub arguments : call.first ≤ at.top
  pub count : shape.environment ≡ false → count_for (at.top - call.first) given ≡ shape.params
  pub locals : shape.params ≤ shape.locals
  pub enough : call.first + shape.locals + shape.height ≤ stack.values.room
  pub place : HasPlaceFor given call.floor (length stack.values.items)

-- The same of arguments that stand from a place on.
pub record FitsArguments (shape : BodyShape) (call : Call) (stack : Stack) (at : Registers) : Type 0 where
  pub floor : call.floor ≤ call.first
  pub count : call.first + shape.params ≡ at.top
  pub locals : shape.params ≤ shape.locals
  pub enough : call.first + shape.locals + shape.height ≤ stack.values.room

-- The same of one value in place of arguments.
pub record FitsOne (shape : BodyShape) (call : Call) (stack : Stack) : Type 0 where
  pub count : shape.params ≡ 1
  pub locals : shape.params ≤ shape.locals
  pub enough : call.floor + shape.locals + shape.height ≤ stack.values.room
  pub place : call.floor < length stack.values.items
