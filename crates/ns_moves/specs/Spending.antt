-- What actions charge: steps, frames and method activations.
use Rattle.std.specs.Prelude.{◌≡◌, ◌⊎◌, ℕ, ◌+◌, ◌-◌, Bool, true, false}
use Rattle.ns_code.specs.declared.program.CodeProgram.{CodeProgram}
use Rattle.ns_kcode.specs.declared.state.KAction.{KAction}
use Rattle.ns_kcode.specs.declared.state.KAction.TheVariants as action
use Rattle.ns_kcode.specs.Next.{next}
use Rattle.ns_moves.specs.Control.{Progress, FromMethod, FromBody, FromClause, After, Gives, Halts, Control, Now, Enter, Evaluate, Begin, Perform, PartControl, Skip, Stop, EnterPart, Waiting, Waits, Finishes}
use Rattle.ns_moves.specs.Classes.{super_part, body_ended}
use Rattle.ns_moves.specs.Blocks.{new_block, new_text, new_array, evaluated, method_next}
use Rattle.ns_moves.specs.Sends.{sent, sent_plain, performed}
use Rattle.ns_moves.specs.Actions.{Action, Sends, SendsPlain, Performs, Evaluates, Continues, BeginsPart, EndsPart, EndsBody, MakesBlock, MakesText, MakesArray, FillsSlot, StoresLocal, progress_after}

-- So many steps were charged, so many frames, and so many method activations were begun.
pub record Charged (more_steps frames activations : ℕ) (old new : Progress) : Type 0 where
  pub steps : new.world.steps ≡ old.world.steps + more_steps
  pub depth : new.world.depth ≡ old.world.depth + frames
  pub begun : new.begun ≡ old.begun + activations

-- A frame was given back, and nothing was charged.
pub record GivenBack (old new : Progress) : Type 0 where
  pub steps : new.world.steps ≡ old.world.steps
  pub depth : new.world.depth ≡ old.world.depth - 1
  pub begun : new.begun ≡ old.begun

-- At an end nothing has changed, or the steps were charged, and with them perhaps a frame, which isn't given back.
abbrev pub Stopped : ℕ → Progress → Progress → Type 0
Stopped steps old new = (new ≡ old) ⊎ (Charged steps 0 0 old new ⊎ Charged steps 1 0 old new)

-- A value and what waits have charged the steps alone; a body and a method of the kernel have charged a frame
-- too. A method has begun as the next activation, whose number is its home.
abbrev pub ControlSpends : ℕ → Progress → Control → Type 0
ControlSpends steps old (Now (Gives value progress)) = Charged steps 0 0 old progress
ControlSpends steps old (Now (Halts ending progress)) = Stopped steps old progress
ControlSpends steps old (Enter FromMethod activation locals progress) = Charged steps 1 1 old progress × (activation.home ≡ old.begun)
ControlSpends steps old (Enter FromBody activation locals progress) = Charged steps 1 0 old progress
ControlSpends steps old (Enter (FromClause object holder class) activation locals progress) = Charged steps 1 0 old progress
ControlSpends steps old (Evaluate block arguments site progress) = Charged steps 0 0 old progress
ControlSpends steps old (Begin method state site progress) = Charged steps 1 0 old progress
ControlSpends steps old (Perform receiver sel array site progress) = Charged steps 0 0 old progress

-- A superclass part that is entered has charged a frame.
abbrev pub PartSpends : Progress → PartControl → Type 0
PartSpends old (Skip progress) = Charged 0 0 0 old progress
PartSpends old (Stop ending progress) = Stopped 0 old progress
PartSpends old (EnterPart activation locals progress) = Charged 0 1 0 old progress

-- A kernel method that waits has charged the steps of its turn; its end gives its frame back, and an error or
-- a limit changes nothing.
abbrev pub WaitingSpends : ℕ → Progress → Waiting → Type 0
WaitingSpends steps old (Waits block arguments state progress) = Charged steps 0 0 old progress
WaitingSpends steps old (Finishes (Gives value progress)) = GivenBack old progress
WaitingSpends steps old (Finishes (Halts ending progress)) = progress ≡ old

-- A new cell charges none of these, and a limit changes nothing.
abbrev pub CellSpends : Progress → After → Type 0
CellSpends old (Gives value progress) = Charged 0 0 0 old progress
CellSpends old (Halts ending progress) = progress ≡ old

-- The end of a body gives its frame back, whatever comes of its value.
abbrev pub EndSpends : Progress → After → Type 0
EndSpends old (Gives value progress) = GivenBack old progress
EndSpends old (Halts ending progress) = GivenBack old progress

-- the step of a turn of a kernel method
abbrev pub turn_steps : Bool → ℕ
turn_steps true = 1
turn_steps false = 0

-- the steps of an action of a kernel method
abbrev pub action_steps : KAction → ℕ
action_steps (action.Evaluate block argument turn count) = turn_steps turn
action_steps (action.EvaluateItem block item count) = 1
action_steps (action.Answer value) = 0
action_steps (action.Fail kind) = 0

-- What each action charges: a send and an evaluation one step, an action of a kernel method that of its turn, and
-- all else none.
abbrev pub Spends : CodeProgram → Action → Progress → Type 0
Spends code (Sends activation target sel values place) old = ControlSpends 1 old (sent code activation target sel values place old)
Spends code (SendsPlain receiver sel values place) old = ControlSpends 1 old (sent_plain code receiver sel values place old)
Spends code (Performs receiver sel array site) old = ControlSpends 1 old (performed code receiver sel array site old)
Spends code (Evaluates block arguments site) old = ControlSpends 1 old (evaluated code block arguments site old)
Spends code (Continues method state site) old = WaitingSpends (action_steps (next method state)) old (method_next method state site old)
Spends code (BeginsPart activation arguments) old = PartSpends old (super_part code activation arguments old)
Spends code EndsPart old = GivenBack old (progress_after code EndsPart old)
Spends code (EndsBody exit activation value) old = EndSpends old (body_ended code exit activation value old)
Spends code (MakesBlock activation body) old = CellSpends old (new_block activation body old)
Spends code (MakesText bytes) old = CellSpends old (new_text bytes old)
Spends code (MakesArray items) old = CellSpends old (new_array items old)
Spends code (FillsSlot activation slot value) old = Charged 0 0 0 old (progress_after code (FillsSlot activation slot value) old)
Spends code (StoresLocal activation hops place value) old =
    Charged 0 0 0 old (progress_after code (StoresLocal activation hops place value) old)
