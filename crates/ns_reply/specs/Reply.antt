-- What a call tells of a program.
use Rattle.std.specs.Prelude.{ℕ, Bool, true, false, List, [], ◌∷◌, ◌++◌, drop, length, codes, Option, Some, None, nat_lt, if◌then◌else◌}
use Rattle.ns_base.specs.declared.status.Status.{Status}
use Rattle.ns_base.specs.declared.status.Status.TheVariants as status
use Rattle.ns_code.specs.declared.program.CodeProgram.{CodeProgram}
use Rattle.ns_code.specs.Selector.{selector_text}
use Rattle.ns_world.specs.declared.value.Value.{Value}
use Rattle.ns_world.specs.declared.value.Value.TheVariants as value
use Rattle.ns_world.specs.declared.ending.Counters.{Counters}
use Rattle.ns_world.specs.declared.ending.Ending.{Ending}
use Rattle.ns_world.specs.declared.ending.Ending.TheVariants.{Done, Error, Limit}
use Rattle.ns_world.specs.Heap.{Heap}
use Rattle.ns_kdata.specs.Arguments.{bytes_of}
use Rattle.ns_world.specs.World.{counters_of}
use Rattle.ns_moves.specs.Report.{report_line}
use Rattle.ns_frozen.specs.Freezing.{frozen_of}
use Rattle.ns_machine.specs.Machine.{MachineView}
use Rattle.ns_moves.specs.State.{ending_of, world_of}
use Rattle.ns_model.specs.Whole.{status_of}
use Rattle.ns_handed.specs.Hands.{no_value, value_at}
use Rattle.ns_reply.specs.declared.reply.Refusal.{Refusal}
use Rattle.ns_reply.specs.declared.reply.Refusal.TheVariants as why
use Rattle.ns_reply.specs.declared.reply.Reply.{Reply}
use Rattle.ns_snapshot.specs.Bytes.{snapshot_of}

-- ---- a call that changed nothing

-- why, in a word
abbrev pub refusal_text : Refusal → List ℕ
refusal_text why.NotAProgram = codes "NotAProgram"
refusal_text why.NotAnImage = codes "NotAnImage"
refusal_text why.BadLimits = codes "BadLimits"
refusal_text why.OtherProgram = codes "OtherProgram"
refusal_text why.NoRoom = codes "limit: cells"
refusal_text why.MayNotAsk = codes "MayNotAsk"
refusal_text why.TooLarge = codes "TooLarge"

-- the same as a line
abbrev pub refusal_line : Refusal → List ℕ
refusal_line why = refusal_text why ++ 10 ∷ []

-- it is a limit where the texts of a host pass that on cells, and a refusal else
abbrev pub refusal_status : Refusal → Status
refusal_status why.NotAProgram = status.Refused
refusal_status why.NotAnImage = status.Refused
refusal_status why.BadLimits = status.Refused
refusal_status why.OtherProgram = status.Refused
refusal_status why.NoRoom = status.Limit
refusal_status why.MayNotAsk = status.Refused
refusal_status why.TooLarge = status.Refused

-- whether a call ended as one that couldn't read a file, or couldn't write a stream
abbrev pub is_fault : Status → Bool
is_fault status.Done = false
is_fault status.ProgramError = false
is_fault status.Refused = false
is_fault status.Limit = false
is_fault status.ReadFault = true
is_fault status.WriteFault = true
is_fault status.Memory = false

-- nothing is used
abbrev pub nothing_used : Counters
nothing_used = record { steps = 0; cells = 0; depth = 0; out = 0 }

-- what is told of a call that changed nothing: why, and no program
abbrev pub refused : Refusal → Reply
refused why = record {
  status = refusal_status why;
  program = [];
  printed = [];
  report = refusal_line why;
  text = [];
  value = no_value;
  used = nothing_used;
}

-- ---- a program that stands somewhere

-- the status of a run: one that goes on has done what it was asked to
abbrev pub status_at : Option Ending → Status
status_at (Some ending) = status_of ending
status_at None = status.Done

-- the line that reports its end, where it has ended
abbrev pub report_at : Heap → CodeProgram → Option Ending → List ℕ
report_at heap code (Some ending) = report_line heap code code.files ending
report_at heap code None = []

-- the bytes of a String, or of the name of a Symbol
abbrev pub bytes_told : Heap → CodeProgram → Value → List ℕ
bytes_told heap code (value.Sym sel) = selector_text code sel.0
bytes_told heap code value = bytes_of heap value

-- those of the value with which a run has ended
abbrev pub text_at : Heap → CodeProgram → Option Ending → List ℕ
text_at heap code (Some (Done value)) = bytes_told heap code value
text_at heap code ending = []

-- the same of a machine
abbrev pub report_of : MachineView → List ℕ
report_of machine = report_at (world_of machine.state).cells machine.code (ending_of machine.state)

abbrev pub text_of : MachineView → List ℕ
text_of machine = text_at (world_of machine.state).cells machine.code (ending_of machine.state)

-- the most bytes of a program
abbrev pub most_bytes : ℕ
most_bytes = 134217728

-- the bytes of a program: its snapshot
abbrev pub program_bytes : MachineView → List ℕ
program_bytes machine = snapshot_of machine.code (frozen_of machine.code machine.grants machine.state)

-- what is told of a program of that name, whose bytes are these and of whose output so many were told before
abbrev pub told_of : List ℕ → ℕ → ℕ → MachineView → Reply
told_of bytes name before machine = record {
  status = status_at (ending_of machine.state);
  program = bytes;
  printed = drop before (world_of machine.state).output;
  report = report_of machine;
  text = text_of machine;
  value = value_at name (ending_of machine.state);
  used = counters_of (world_of machine.state);
}

-- whether its bytes are too many
abbrev pub is_too_large : MachineView → Bool
is_too_large machine = nat_lt most_bytes (length (program_bytes machine))

-- what is told of a program of that name, of whose output so many bytes were told before; it is refused where its bytes are too many
abbrev pub reply_of : ℕ → ℕ → MachineView → Reply
reply_of name before machine =
    if is_too_large machine then refused why.TooLarge else told_of (program_bytes machine) name before machine
