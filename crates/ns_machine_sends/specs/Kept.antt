-- Arguments that are kept by the machine, and what a send or an evaluation comes to with them.
use Rattle.std.specs.Prelude.{ℕ, List, All}
use Rattle.ns_base.specs.declared.selector.Sel.{Sel}
use Rattle.ns_code.specs.declared.program.CodeProgram.{CodeProgram}
use Rattle.ns_world.specs.declared.value.Value.{Value}
use Rattle.ns_world.specs.Lawful.{IsLawful, IsLiveValue}
use Rattle.ns_moves.specs.declared.control.Reached.{Reached}
use Rattle.ns_moves.specs.Control.{Control}
use Rattle.ns_world.specs.KernelTable.{row_at}
use Rattle.ns_moves.specs.Suiting.{RowSuits}
use Rattle.ns_moves.specs.declared.sends.Answered.{Answered}
use Rattle.ns_moves.specs.declared.sends.Answered.TheVariants as answers
use Rattle.ns_moves.specs.Answered.{answered_shown}
use Rattle.ns_moves.specs.Plain.{IsPlain}
use Rattle.ns_machine_frames.specs.View.{site_shown}
use Rattle.ns_machine_core.specs.declared.state.Core.{Core}
use Rattle.ns_machine_core.specs.Shown.{progress_in}
use Rattle.ns_machine_core.specs.Arriving.{reached_at}
use Rattle.ns_machine_sends.specs.declared.sent.Sent.{Sent}

-- a machine that keeps these
abbrev pub keeping : List Value → Core → Core
keeping values core = record core { arguments = record core.arguments { items = values } }

-- where control goes with what was reached with them
abbrev pub kept_control : CodeProgram → Core → Sent → Reached → Control
kept_control code core sent reached = reached_at code core sent.site core.arguments.items reached

-- what a send of a selector with them came to, at its site
abbrev pub kept_answer : CodeProgram → Core → Sent → Value → Sel → Answered → Control
kept_answer code core sent receiver sel answer =
    answered_shown code sel receiver (site_shown core.places sent.site) core.arguments.items answer (progress_in core)

-- A row of the kernel is asked with a receiver that it suits, and with live arguments.
pub record CanAskKept (code : CodeProgram) (core : Core) (receiver : Value) (number : ℕ) : Type 0 where
  pub lawful : IsLawful core.run.world.world code
  pub live : IsLiveValue core.run.world.world.cells code receiver
  pub all_live : All (IsLiveValue core.run.world.world.cells code) core.arguments.items
  pub suits : RowSuits core.run.world.world.cells receiver (row_at number)

-- What a send came to can be done: it is plain, or its row can be asked.
abbrev pub CanAnswerKept : CodeProgram → Core → Value → Answered → Type 0
CanAnswerKept code core receiver (answers.Comes reached) = IsPlain reached
CanAnswerKept code core receiver (answers.Row number) = CanAskKept code core receiver number
