-- The actions of a run as one type, each with all that it takes.
use Rattle.std.specs.Prelude.{ℕ, List, Option}
use Rattle.ns_base.specs.declared.place.Place.{Place as SourcePlace}
use Rattle.ns_base.specs.declared.selector.Sel.{Sel}
use Rattle.ns_code.specs.declared.program.CodeProgram.{CodeProgram}
use Rattle.ns_world.specs.declared.value.Value.{Value}
use Rattle.ns_world.specs.declared.kernel_parts.KMethod.{KMethod}
use Rattle.ns_kcode.specs.declared.state.KState.{KState}
use Rattle.ns_moves.specs.declared.site.Site.{Site}
use Rattle.ns_moves.specs.Control.{Progress, Activation, Exit, frame_left}
use Rattle.ns_moves.specs.Classes.{super_part, body_ended, slot_filled}
use Rattle.ns_moves.specs.Bodies.{local_stored}
use Rattle.ns_moves.specs.Blocks.{new_block, new_text, new_array, evaluated, method_next}
use Rattle.ns_moves.specs.Sends.{Target, sent, sent_plain, performed}
use Rattle.ns_moves.specs.Onward.{after_reached, reached, part_reached, waiting_reached}

-- A send of running code, one that no code makes, and one that waited; the evaluation of a block; the next
-- action of a kernel method; a superclass part and its end, and the end of any other body; a new block, text
-- or array; a slot that is filled, and a local that is stored.
pub data Action : Type 0 where
  Sends : (activation : Activation) (target : Target) (sel : Sel) (values : List Value) (place : Option SourcePlace) → Action
  SendsPlain : (receiver : Value) (sel : Sel) (values : List Value) (place : Option SourcePlace) → Action
  Performs : (receiver : Value) (sel : Sel) (array : ℕ) (site : Site) → Action
  Evaluates : (block : Value) (arguments : List Value) (site : Site) → Action
  Continues : (method : KMethod) (state : KState) (site : Site) → Action
  BeginsPart : (activation : Activation) (arguments : List Value) → Action
  EndsPart : Action
  EndsBody : (exit : Exit) (activation : Activation) (value : Value) → Action
  MakesBlock : (activation : Activation) (body : ℕ) → Action
  MakesText : (bytes : List ℕ) → Action
  MakesArray : (items : List Value) → Action
  FillsSlot : (activation : Activation) (slot : ℕ) (value : Value) → Action
  StoresLocal : (activation : Activation) (hops place : ℕ) (value : Value) → Action

-- what the run has done after an action
abbrev pub progress_after : CodeProgram → Action → Progress → Progress
progress_after code (Sends activation target sel values place) progress = reached (sent code activation target sel values place progress)
progress_after code (SendsPlain receiver sel values place) progress = reached (sent_plain code receiver sel values place progress)
progress_after code (Performs receiver sel array site) progress = reached (performed code receiver sel array site progress)
progress_after code (Evaluates block arguments site) progress = reached (evaluated code block arguments site progress)
progress_after code (Continues method state site) progress = waiting_reached (method_next method state site progress)
progress_after code (BeginsPart activation arguments) progress = part_reached (super_part code activation arguments progress)
progress_after code EndsPart progress = frame_left progress
progress_after code (EndsBody exit activation value) progress = after_reached (body_ended code exit activation value progress)
progress_after code (MakesBlock activation body) progress = after_reached (new_block activation body progress)
progress_after code (MakesText bytes) progress = after_reached (new_text bytes progress)
progress_after code (MakesArray items) progress = after_reached (new_array items progress)
progress_after code (FillsSlot activation slot value) progress = slot_filled code activation slot value progress
progress_after code (StoresLocal activation hops place value) progress = local_stored code activation hops place value progress
