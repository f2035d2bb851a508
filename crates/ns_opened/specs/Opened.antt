-- What the calls on a program answer that a host keeps as bytes.
use Rattle.std.specs.Prelude.{◌≡◌, ℕ, List, [], ◌∷◌, length, nat_lt, Bool, true, false, Option, Some, None, Result, Ok, Err, if◌then◌else◌, option_map}
use Rattle.ns_base.specs.declared.selector.Sel.{Sel}
use Rattle.ns_base.specs.Limits.{InRange}
use Rattle.ns_code.specs.declared.program.CodeProgram.{CodeProgram}
use Rattle.ns_world.specs.declared.value.Value.{Value}
use Rattle.ns_machine.specs.Asking.{MayAsk, named}
use Rattle.ns_machine.specs.Machine.{MachineView}
use Rattle.ns_moves.specs.Starts.{begun, new_machine, started}
use Rattle.ns_moves.specs.State.{world_of}
use Rattle.ns_machine_restore.specs.Restored.{machine_at}
use Rattle.ns_handed.specs.Hands.{are_of, hands_of}
use Rattle.ns_handed.specs.Laid.{values_from}
use Rattle.ns_opened.specs.Laid.{cells_used, has_room, with_texts}
use Rattle.ns_reply.specs.Reply.{refused, reply_of}
use Rattle.ns_opened.specs.declared.ask.Question.{Question}
use Rattle.ns_opened.specs.declared.open.Terms.{Terms}
use Rattle.ns_reply.specs.declared.reply.Refusal.TheVariants as why
use Rattle.ns_reply.specs.declared.reply.Reply.{Reply}
use Rattle.ns_handed.specs.declared.value.HostValue.{HostValue}
use Rattle.ns_run_code.specs.Exec.{ImageCode, admitted, image_code, refused_code, refused_image}
use Rattle.ns_session.specs.Turned.{turned}
use Rattle.ns_snapshot.specs.Snapshot.{read_snapshot}
use Rattle.ns_snapshot.specs.declared.fault.SnapFault.{SnapFault}
use Rattle.ns_snapshot.specs.declared.fault.SnapFault.TheVariants as fault
use Rattle.ns_snapshot.specs.declared.snapshot.Snapshot.{Snapshot}

-- ---- programs as bytes

-- what was read, if it could be
abbrev pub if_read : {E : Type 0} → Result Snapshot E → Option Snapshot
if_read (Ok snapshot) = Some snapshot
if_read (Err why) = None

-- whether there was no memory to read it
abbrev pub is_memory : SnapFault → Bool
is_memory fault.Memory = true
is_memory fault.NotASnapshot = false
is_memory fault.BadVersion = false
is_memory fault.Truncated = false
is_memory (fault.BadField at) = false
is_memory fault.Trailing = false
is_memory fault.BadImage = false
is_memory (fault.BadCell k) = false
is_memory (fault.BadFrame k) = false
is_memory fault.BadRest = false

-- the machine of a snapshot
abbrev pub machine_of : Snapshot → MachineView
machine_of snapshot = machine_at snapshot.code snapshot.frozen

-- the program of bytes, if they are those of one
abbrev pub program_in : List ℕ → Option MachineView
program_in bytes = option_map machine_of (if_read (read_snapshot bytes))

-- how many bytes a program has printed
abbrev pub printed_by : MachineView → ℕ
printed_by machine = length (world_of machine.state).output

-- ---- a turn

-- a program after a turn of so many steps; one in which nothing was begun is started
abbrev pub gone_on : ℕ → MachineView → MachineView
gone_on steps machine = record machine { state = turned machine.code steps (started machine.code machine.state) }

-- what a turn of a program answers, if the bytes were those of one
abbrev pub turn_of : ℕ → ℕ → Option MachineView → Reply
turn_of name steps None = refused why.NotAProgram
turn_of name steps (Some machine) = reply_of name (printed_by machine) (gone_on steps machine)

-- what a turn of the program of these bytes answers
abbrev pub turn_answer : ℕ → ℕ → List ℕ → Reply
turn_answer name steps bytes = turn_of name steps (program_in bytes)

-- ---- opening

-- a program of that code that was opened so
abbrev pub opened : Terms → List (List ℕ) → CodeProgram → MachineView
opened terms arguments code =
    gone_on terms.steps (record { code = code; grants = terms.grants; state = new_machine code terms.limits terms.grants arguments })

-- what opening answers, by the code of the image
abbrev pub open_code : Terms → List (List ℕ) → ImageCode → Reply
open_code terms arguments (refused_image cause) = refused why.NotAnImage
open_code terms arguments (refused_code cause at) = refused why.NotAnImage
open_code terms arguments (admitted code) = reply_of terms.name 0 (opened terms arguments code)

-- the most bytes of an image
abbrev pub image_bytes : ℕ
image_bytes = 134217728

-- what opening the program of an image answers, with limits in their ranges
abbrev pub open_image : Terms → List (List ℕ) → List ℕ → Reply
open_image terms arguments image =
    if nat_lt image_bytes (length image) then refused why.NotAnImage else open_code terms arguments (image_code image)

-- What opening answers: limits out of their ranges are refused.
pub record Opens (terms : Terms) (arguments : List (List ℕ)) (image : List ℕ) (reply : Reply) : Type 0 where
  pub in_range : InRange terms.limits → reply ≡ open_image terms arguments image
  pub out_of_range : ¬ (InRange terms.limits) → reply ≡ refused why.BadLimits

-- ---- a question

-- What a program is asked: the name of the program, the receiver and the arguments, the bytes of the texts among them, the name of a
-- selector, and the steps of a first turn.
pub record Asked : Type 0 where
  pub name : ℕ
  pub values : List HostValue
  pub texts : List ℕ
  pub selector : List ℕ
  pub steps : ℕ

-- a question as it is handed over
abbrev pub shown : Question → Asked
shown question = record {
  name = question.name;
  values = question.values.now;
  texts = question.texts.now;
  selector = question.selector.now;
  steps = question.steps;
}

-- a program after a send of the host and a turn of so many steps
abbrev pub asked_on : ℕ → Value → Sel → List Value → MachineView → MachineView
asked_on steps receiver sel arguments machine = record machine { state = turned machine.code steps (begun receiver sel arguments machine.state) }

-- what a question answers that may be asked
abbrev pub asked : Asked → Value → List Value → MachineView → Reply
asked question receiver arguments machine =
    reply_of question.name (printed_by machine) (asked_on question.steps receiver (named machine.code question.selector) arguments machine)

-- It is asked where it may be, and else refused.
pub record AnswersBy (question : Asked) (receiver : Value) (arguments : List Value) (machine : MachineView) (reply : Reply) : Type 0 where
  pub may : MayAsk machine.code machine.state receiver question.selector arguments → reply ≡ asked question receiver arguments machine
  pub may_not : ¬ (MayAsk machine.code machine.state receiver question.selector arguments) → reply ≡ refused why.MayNotAsk

-- by the receiver and the arguments: there is none where nothing is handed over
abbrev pub Answers : Asked → List Value → MachineView → Reply → Type 0
Answers question [] machine reply = reply ≡ refused why.MayNotAsk
Answers question (receiver ∷ arguments) machine reply = AnswersBy question receiver arguments machine reply

-- by the program with the texts, if its state is one in which a run can be
abbrev pub AnswersWith : Asked → List Value → Option MachineView → Reply → Type 0
AnswersWith question values None reply = reply ≡ refused why.NotAProgram
AnswersWith question values (Some machine) reply = Answers question values machine reply

-- by whether there is room for the texts
abbrev pub AnswersIn : Asked → MachineView → Bool → Reply → Type 0
AnswersIn question machine false reply = reply ≡ refused why.NoRoom
AnswersIn question machine true reply =
    AnswersWith question (values_from (cells_used machine) (hands_of question.values)) (with_texts (hands_of question.values) question.texts machine) reply

-- by the program, if the bytes are those of one
abbrev pub AnswersOf : Asked → Option MachineView → Reply → Type 0
AnswersOf question None reply = reply ≡ refused why.NotAProgram
AnswersOf question (Some machine) reply = AnswersIn question machine (has_room (hands_of question.values) machine) reply

-- by whether all values are of that program
abbrev pub AnswersOwn : Asked → List ℕ → Bool → Reply → Type 0
AnswersOwn question bytes false reply = reply ≡ refused why.OtherProgram
AnswersOwn question bytes true reply = AnswersOf question (program_in bytes) reply

-- What a question to the program of these bytes answers.
abbrev pub Asks : Asked → List ℕ → Reply → Type 0
Asks question bytes reply = AnswersOwn question bytes (are_of question.name question.values) reply
